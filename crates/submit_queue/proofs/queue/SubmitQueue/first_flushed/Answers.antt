use Rattle.std.proofs.Common.{◌≡◌, length, refl, sym, ap, ◌∙◌}
use Rattle.std.specs.Prelude.{Some, slice_get, option_map}
use Rattle.std.proofs.lemmas.Option.{slice_get_read, slice_get-map}
use Rattle.submit_queue.specs.Kept.{batch_of}
use Rattle.submit_queue.proofs.Steps.{first_is}
use Rattle.submit_queue.proofs.queue.SubmitQueue.first_flushed.Goals as goal

pub returns : goal.returns
returns c h kept =
    let items = c.args.self.now.pending.items in
    let at : slice_get items c.args.self.now.accepted ≡ Some c.in_ok-first.first.now = slice_get_read items (length items) c.args.self.now.accepted c.in_ok-first.first.now refl c.in_ok-first.ensures.item.3.0 c.in_ok-first.ensures.lookup in
    sym (slice_get-map batch_of items c.args.self.now.accepted ∙ ap (λ o. option_map batch_of o) at) ∙ first_is h _ _ _ _ kept
