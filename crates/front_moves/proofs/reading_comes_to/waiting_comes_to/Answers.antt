use Rattle.std.proofs.Common.{◌≤◌, refl, sym, subst}
use Rattle.back_core.specs.Needs.{HasBatch}
use Rattle.front_model.specs.Stands.{no_hands}
use Rattle.front_moves.proofs.reading_comes_to.waiting_comes_to.Goals as goal

pub returns : goal.returns
returns c = record {
  may = λ f s t object index number x h learns apart is n some.
      subst (λ k. HasBatch t index k) (sym n)
      (c.steps_may.ensures.wait f no_hands t object x index (c.steps_hold.ensures.learns f no_hands s t h learns) is (apart index x is)
      (subst (λ k. 1 ≤ k) n some));
  moved = λ f s t h learns. record {
    holds = c.steps_hold.ensures.learns f no_hands s t h learns;
    view_is = c.link_steps_show.ensures.learns f s t learns;
    outlines_are = refl;
    still = λ o quiet. c.quiet_objects_stay.ensures.learns f s t o learns quiet;
  };
  owns = λ f s t h learns. c.steps_may.ensures.owns f no_hands t (c.steps_hold.ensures.learns f no_hands s t h learns);
}
