use Rattle.std.proofs.Common.{◌∙◌, sym}
use Rattle.submit_queue.proofs.Steps.{left_may_run, may_run_left}
use Rattle.submit_queue.proofs.queue.SubmitQueue.nodes_left.Goals as goal

pub returns : goal.returns
returns c h kept = (
  (λ yes. left_may_run h _ _ _ _ kept (sym c.some_left.ensures ∙ yes)),
  (λ may. c.some_left.ensures ∙ may_run_left h _ _ _ _ kept may.0 may.1 may.2),
)
