use Rattle.front_model.specs.Stands.{IsKnownToHost}
use Rattle.front_model.specs.Steps.{with_read}
use Rattle.std.proofs.Common.{◌≡◌, refl, sym, ap, subst, ◌∙◌}
use Rattle.vk_types.specs.declared.handles.Kind.TheVariants as kind
use Rattle.back_core.specs.Own.{log_of, IsReadable}
use Rattle.back_core.specs.Link.{contents_of, wrote}
use Rattle.back_core.specs.Needs.{HostMay}
use Rattle.front_model.specs.declared.object.Object.TheVariants.{Buffer}
use Rattle.front_model.specs.Face.{Stored, put_object, outline_at, view}
use Rattle.front_model.specs.Stands.{Owns, Moved, IsQuiet, no_hands}
use Rattle.front_model.specs.Wanted.{with_bytes}
use Rattle.front_moves.specs.Objects.{stored_of}
use Rattle.front_moves.specs.Core.{face}
use Rattle.front_moves.proofs.Reading.{quiet_store, store_kind, face_heard, no_heard, outlines_heard}
use Rattle.front_moves.proofs.ObjectStores.{Distinct}
use Rattle.front_model.specs.Face.{Face, nodes_touch}
use Rattle.front_model.specs.Stands.{Holds}
use Rattle.back_core.specs.Link.{fetched}
use Rattle.std.specs.Option.{option_map}
use Rattle.std.proofs.Common.{ℕ, Some, false, inr}
use Rattle.front_moves.proofs.reading_comes_to.host_comes_to.Goals as goal

pub returns : goal.returns
returns c = record {
  may = λ k s b at size x h quiet is has some.
      let same : stored_of x ≡ quiet.stored = quiet_store k s b x quiet is in
      let kinds : quiet.stored.slot.kind ≡ kind.Buffer has.0 = sym (ap (λ (v : Stored). v.slot.kind) same) ∙ store_kind k b has.0 x is has.1 in
      subst (λ (v : Stored). HostMay s v.handle at size) (sym same) (c.steps_may.ensures.host (face k) no_hands s (Buffer b) quiet has.0 at size h kinds some has.2);
  readable = λ k s b at size x quiet is.
      subst (λ (v : Stored). IsReadable (log_of s.mine) v.handle at size) (sym (quiet_store k s b x quiet is)) (quiet.readable at size);
  bytes = λ k s b x quiet is.
      ap (λ (v : Stored). contents_of s v.handle) (quiet_store k s b x quiet is) ∙ c.quiet_objects_show.ensures (face k) s (Buffer b) quiet;
  reads = λ k d s t b at bytes x h quiet is rest heard_by e.
      let id : ℕ = x.handle.0 in
      let f : Face = face k in
      let distinct : Distinct k = λ o q y z. c.steps_may.ensures.distinct f no_hands s o q y z h in
      let same_store : stored_of x ≡ quiet.stored = quiet_store k s b x quiet is in
      let untouched : (index : ℕ) → nodes_touch (f.pending index) id ≡ false = λ index. ap (λ (v : Stored). nodes_touch (f.pending index) v.handle) same_store ∙ quiet.untouched index in
      let known : IsKnownToHost f s id = subst (λ (v : Stored). IsKnownToHost f s v.handle) (sym same_store) quiet.known in
      let now : face d ≡ with_read f id = face_heard k d (Buffer b) x distinct is rest heard_by in
      subst (λ u. Moved (face d) u (view f s) (outline_at f) (IsQuiet f s)) (sym e)
      (subst (λ g. Moved g (fetched s id at bytes) (view f s) (outline_at f) (IsQuiet f s)) (sym now) (record {
        holds = subst (λ hands. Holds (with_read f id) hands (fetched s id at bytes)) (no_heard id) (c.steps_hold.ensures.fetches f no_hands s id at bytes h (inr (Buffer b, stored_of x, ap (option_map stored_of) is, refl)) untouched known);
        view_is = c.link_steps_show.ensures.fetches f s id at bytes;
        outlines_are = outlines_heard f id;
        still = λ o other. c.quiet_objects_stay.ensures.fetches f s o id at bytes untouched other;
      }));
  writes = λ k s t b at bytes x h quiet is has inside e.
      let same : stored_of x ≡ quiet.stored = quiet_store k s b x quiet is in
      let to : t ≡ wrote s quiet.stored.handle at bytes = e ∙ ap (λ (v : Stored). wrote s v.handle at bytes) same in
      subst (λ u. Moved (face k) u (put_object (view (face k) s) (Buffer b) (with_bytes (view (face k) s (Buffer b)) at bytes)) (outline_at (face k)) (IsQuiet (face k) s)) (sym to) (record {
        holds = c.steps_hold.ensures.writes (face k) no_hands s quiet.stored.handle at bytes h quiet.untouched has.0
            (c.steps_may.ensures.kinds (face k) no_hands s (Buffer b) quiet.stored h quiet.is ∙ ap (λ (v : Stored). Some v.slot.kind) (sym same) ∙ ap Some (store_kind k b has.0 x is has.1));
        view_is = c.link_steps_show.ensures.writes (face k) no_hands s (Buffer b) quiet.stored at bytes h quiet.is quiet.clear quiet.untouched inside;
        outlines_are = refl;
        still = λ o other. c.quiet_objects_stay.ensures.writes (face k) s o quiet.stored.handle at bytes other;
      });
  owns = λ k s t h e. subst (λ u. Owns (face k).objects u) (sym e) (c.steps_may.ensures.owns (face k) no_hands s h);
}
