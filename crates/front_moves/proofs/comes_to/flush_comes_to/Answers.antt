use Rattle.std.proofs.Common.{ap, sym, subst, ◌∙◌, ◌<◌}
use Rattle.front_model.specs.Stands.{no_hands}
use Rattle.queue_serials.specs.Indexes.{last_of}
use Rattle.front_moves.specs.Core.{face}
use Rattle.front_moves.proofs.Faces.{last_own, face_flushed}
use Rattle.front_moves.proofs.Flushing.{nothing_flushed, batch_flushed}
use Rattle.front_moves.proofs.comes_to.flush_comes_to.Goals as goal

pub returns : goal.returns
returns c = record {
  number = λ k s index h own. last_own k.indexes index own;
  below = λ k s index h own. subst (λ n. n < 18446744073709551615) (last_own k.indexes index own) (h.room index own);
  nothing = λ f s index h none. nothing_flushed f s index h none;
  may = λ k s index batch h own next. c.steps_may.ensures.enqueue (face k) no_hands s index batch h own next;
  batch = λ k d s t index place batch h own at next room kept is_core is_link.
      batch_flushed (face k) (face d) s t index batch
      (face_flushed k d index place batch.number own at next.next (ap (λ x. last_of x.indexes index) (sym is_core) ∙ kept) is_core)
      is_link next
      (c.steps_hold.ensures.enqueues (face k) no_hands s index batch h own next room)
      (c.link_steps_show.ensures.enqueues (face k) no_hands s index batch h own next)
      (λ o quiet. c.quiet_objects_stay.ensures.enqueues (face k) s o index batch next quiet);
  owns = λ k s h. c.steps_may.ensures.owns (face k) no_hands s h;
}
