use Rattle.std.proofs.Common.{sym, ◌∙◌}
use Rattle.front_model.specs.declared.object.Object.TheVariants.{Buffer}
use Rattle.front_model.specs.Stands.{IsKnownToHost, no_hands, host_touch}
use Rattle.front_moves.proofs.Settling.{store_of}
use Rattle.front_moves.proofs.reading_comes_to.settle_comes_to.Goals as goal

pub returns : goal.returns
returns c = λ f s b len h has untouched retired is_open.
    let x = store_of f b len has in
    let known : IsKnownToHost f s x.0.handle = sym (c.due_nodes_may_be_recorded.ensures.told f s x.0.handle x.0.slot.tracker (host_touch x.0.handle) (h.objects (Buffer b) x.0 x.1).slot.tracked) ∙ is_open x.0 x.1 in
    record {
      stored = x.0;
      is = x.1;
      clear = x.2;
      untouched = λ i. untouched i x.0 x.1;
      retired = λ i. retired i x.0 x.1;
      known = known;
      readable = λ at size. c.quiet_objects_stay.ensures.known f no_hands s x.0.handle at size h (λ i. untouched i x.0 x.1) known;
    }
