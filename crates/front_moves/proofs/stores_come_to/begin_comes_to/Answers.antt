use Rattle.std.proofs.Common.{◌≡◌, ◌∙◌, Option, Some, sym, ap, subst}
use Rattle.vk_types.specs.declared.handles.Kind.TheVariants as kind
use Rattle.tables.specs.Table.{entry}
use Rattle.gl_model.proofs.TableLaws.{entry-with_entry}
use Rattle.object_helper.specs.Objects.{ObjectStore, new_store}
use Rattle.front_model.specs.declared.object.Object.TheVariants.{Buffer}
use Rattle.front_model.specs.Face.{Face, Stored, put_object, outline_at, view, recorded}
use Rattle.front_model.specs.Stands.{Holds, Moved, no_hands}
use Rattle.front_model.specs.Steps.{fresh_slot, with_object, stored_as}
use Rattle.front_model.proofs.Base.{put-same}
use Rattle.front_moves.specs.Objects.{key_of}
use Rattle.front_moves.specs.Core.{CoreParts, face, in_hand, IsQuietBut, new_outline}
use Rattle.front_moves.proofs.StoreLaws.{put-none, outline_with, face_put}
use Rattle.front_moves.proofs.stores_come_to.begin_comes_to.Goals as goal

pub returns : goal.returns
returns c = record {
  begun = λ core d s object k handle h none is.
      let f : Face = face core in
      let store : ObjectStore = new_store handle k in
      let v : Option Stored = Some (stored_as handle.0 (fresh_slot handle.0 k)) in
      let g : Face = with_object f object v in
      let same : face d ≡ g = face_put core d object (Some store) (is ∙ ap (λ bs. record core { stores = bs }) (sym (ap (λ (p : CoreParts). p.stores) is))) (λ q. ap (λ (p : CoreParts). entry q p.stores) is ∙ entry-with_entry (key_of object) q store core.stores) in
      let moved : Moved g s (put_object (view f s) object (recorded f s handle.0)) (put_object (outline_at f) object (Some (new_outline k))) (IsQuietBut f s object) = record {
        holds = subst (λ hands. Holds g hands s) (put-none handle.0 (Some (fresh_slot handle.0 k))) (c.steps_hold.ensures.begins f (in_hand handle.0 k) s object handle.0 (fresh_slot handle.0 k) h (put-same no_hands handle.0 (Some (fresh_slot handle.0 k))) none);
        view_is = c.front_steps_show.ensures.begins f s object handle.0 (fresh_slot handle.0 k);
        outlines_are = outline_with f object v;
        still = λ o quiet. c.quiet_objects_stay.ensures.others f s o object v quiet.0 quiet.1;
      } in
      subst (λ x. Moved x s (put_object (view f s) object (recorded f s handle.0)) (put_object (outline_at f) object (Some (new_outline k))) (IsQuietBut f s object)) (sym same) moved;
}
