use Rattle.std.proofs.Common.{◌≡◌, ◌∙◌, Option, Some, None, sym, ap, subst, refl}
use Rattle.std.specs.Option.{option_map}
use Rattle.back_core.specs.Link.{Link, put, gave}
use Rattle.front_model.specs.declared.object.Object.{Object}
use Rattle.front_model.specs.Face.{Face, Stored, put_object, outline_at, view}
use Rattle.front_model.specs.Stands.{Hands, Holds, Moved, no_hands}
use Rattle.front_model.specs.Steps.{with_object}
use Rattle.front_model.proofs.Base.{put-same}
use Rattle.front_moves.specs.Objects.{stored_of}
use Rattle.front_moves.specs.Core.{face, IsQuietBut, new_cells}
use Rattle.front_moves.proofs.StoreLaws.{put-none, put_object-same_value, outline_with, face_put}
use Rattle.front_moves.proofs.stores_come_to.end_comes_to.Goals as goal

-- the store alone is in hand
abbrev ended_hands : Stored → Hands
ended_hands x = put no_hands x.handle (Some x.slot)

pub returns : goal.returns
returns c = record {
  may = λ core s object store h at.
      let f : Face = face core in
      let x : Stored = stored_of store in
      c.steps_may.ensures.give (with_object f object None) (ended_hands x) s x.handle x.slot store.uses
      (c.steps_hold.ensures.ends f no_hands s object x h (ap (option_map stored_of) at) refl)
      (put-same no_hands x.handle (Some x.slot)) (λ index. refl);
  given = λ core d s object store h at is each.
      let f : Face = face core in
      let x : Stored = stored_of store in
      let t : Link = gave s store.handle.0 store.uses in
      let g : Face = with_object f object None in
      let same : face d ≡ g = face_put core d object None is each in
      let ended : Holds g (ended_hands x) s = c.steps_hold.ensures.ends f no_hands s object x h (ap (option_map stored_of) at) refl in
      let moved : Moved g t (put_object (view f s) object (new_cells None)) (put_object (outline_at f) object None) (IsQuietBut f s object) = record {
        holds = subst (λ hands. Holds g hands t) (put-none x.handle (Some x.slot)) (c.steps_hold.ensures.gives g (ended_hands x) s x.handle x.slot store.uses ended (put-same no_hands x.handle (Some x.slot)) (λ index. refl));
        view_is = c.link_steps_show.ensures.gives g s x.handle store.uses ∙ c.front_steps_show.ensures.ends f s object;
        outlines_are = outline_with f object None;
        still = λ o quiet. c.quiet_objects_stay.ensures.gives g s o x.handle store.uses (c.quiet_objects_stay.ensures.others f s o object None quiet.0 quiet.1);
      } in
      subst (λ y. Moved y t (put_object (view f s) object (new_cells None)) (put_object (outline_at f) object None) (IsQuietBut f s object)) (sym same) moved;
  nothing = λ core d s object h at is each.
      let f : Face = face core in
      let g : Face = with_object f object None in
      let empty : f.objects object ≡ None = ap (option_map stored_of) at in
      let still_f : g ≡ f = ap (λ (os : Object → Option Stored). record f { objects = os }) (put_object-same_value f.objects object None empty) in
      let same : face d ≡ g = face_put core d object None is each in
      let moved : Moved g s (put_object (view f s) object (new_cells None)) (put_object (outline_at f) object None) (IsQuietBut f s object) = record {
        holds = subst (λ y. Holds y no_hands s) (sym still_f) h;
        view_is = c.front_steps_show.ensures.ends f s object;
        outlines_are = outline_with f object None;
        still = λ o quiet. c.quiet_objects_stay.ensures.others f s o object None quiet.0 quiet.1;
      } in
      subst (λ y. Moved y s (put_object (view f s) object (new_cells None)) (put_object (outline_at f) object None) (IsQuietBut f s object)) (sym same) moved;
}
