use Rattle.std.proofs.Common.{◌∙◌, sym, arith}
use Rattle.std.proofs.lemmas.Bool.{eqb-false, ne_eqb, not-true, not_from_false}
use Rattle.submit_queue.proofs.Steps.{some_is_left, left_is_some}
use Rattle.submit_queue.proofs.queue.SubmitQueue.batches_left.Goals as goal

pub returns : goal.returns
returns c h kept = (
  (λ yes. some_is_left h _ _ _ _ kept (omega (arith, c.args.self.now.pending.ok.0, eqb-false _ 0 (sym c.is_empty.ensures ∙ not-true c.is_empty.result yes)))),
  (λ left. let some = left_is_some h _ _ _ _ kept left.0 left.1 in not_from_false c.is_empty.result (c.is_empty.ensures ∙ ne_eqb _ 0 (λ none. omega (arith, none, some, c.args.self.now.pending.ok.0)))),
)
