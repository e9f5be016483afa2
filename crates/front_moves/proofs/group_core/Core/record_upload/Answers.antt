use Rattle.std.specs.Prelude.{slice_set, slice_index_or, ◌++◌, [], ◌+◌}
use Rattle.barriers.specs.Recording.{handle}
use Rattle.std.proofs.Common.{◌≡◌, ◌≤◌, ◌==◌, sym, ap, ◌∙◌, subst, arith, false}
use Rattle.std.specs.Prelude.{None, IfSome}
use Rattle.vk_types.specs.declared.handles.HandleId.{HandleId}
use Rattle.vk_types.specs.declared.handles.Kind.TheVariants as kind
use Rattle.vk_types.specs.Accesses.{transfer_write}
use Rattle.vk_types.specs.Touches.{the_end}
use Rattle.tables.specs.Table.{entry}
use Rattle.barriers.specs.Trackers.{due_by}
use Rattle.object_helper.specs.Objects.{access_of}
use Rattle.back_core.specs.Link.{Link}
use Rattle.front_model.specs.declared.object.Object.TheVariants.{Buffer}
use Rattle.front_model.specs.Face.{put_object, outline_at, view, recorded}
use Rattle.front_model.specs.Stands.{Moved, Owns}
use Rattle.front_model.specs.Steps.{fresh_slot}
use Rattle.front_model.specs.Wanted.{with_copy}
use Rattle.front_moves.specs.Objects.{key_of}
use Rattle.front_moves.specs.Core.{CoreParts, face, IsQuietBut}
use Rattle.front_moves.specs.Recording.{IsNextSerial, HasBuffer, IsAccessed, behind_both}
use Rattle.front_moves.proofs.AtBack.{might_stop}
use Rattle.front_moves.proofs.Outcomes.{from_ok}
use Rattle.front_moves.proofs.Recorded.{accessed_from}
use Rattle.front_moves.proofs.Recordable.{copy_node}
use Rattle.front_moves.proofs.ObjectStores.{KeepsHandles, same_handles, same_stores, kept_then, kept_used}
use Rattle.front_moves.proofs.Uploads.{hand_at}
use Rattle.front_moves.proofs.group_core.Core.record_upload.Given.{Over}
use Rattle.front_moves.proofs.group_core.Core.record_upload.Goals as goal
use Rattle.front_moves.proofs.group_core.Core.record_upload.Goals.{Then-is_ok, in-Ok+else-is_ok, in_default}

-- the front after the copy
abbrev new_parts : (g : Over) (c : Then-is_ok g) → CoreParts
new_parts g c = record { indexes = c.self.inside.indexes; pending = c.push_copy.new.pending; stores = c.access.new.self }

next_serial : (g : Over) (c : Then-is_ok g) → IsNextSerial c.args.self.now c.place-place.result c.args.serial
next_serial g c = record { group = c.requires.group; place_is = c.place-place.ensures.place; next = c.requires.next; few = c.requires.few }

has_buffer : (g : Over) (c : Then-is_ok g) → HasBuffer false c.args.self.now c.args.serial.index c.args.buffer c.id_of-dst.result c.requires.store.0
has_buffer g c = record { handle = c.id_of-dst.ensures.handle; store = c.requires.store.1; end = c.id_of-dst.ensures.size c.requires.store.0 c.requires.store.1; parted = c.requires.parted }

is_due : (g : Over) (c : Then-is_ok g) → IfSome (entry (key_of (Buffer c.args.buffer)) c.args.self.now.stores) (λ x. c.in-Ok.due ≡ due_by x.tracker (access_of x.handle transfer_write))
is_due g c = subst (λ (p : CoreParts). IfSome (entry (key_of (Buffer c.args.buffer)) p.stores) (λ x. c.in-Ok.due ≡ due_by x.tracker (access_of x.handle transfer_write))) c.self.view_is c.in-Ok.ensures.due

is_accessed : (g : Over) (c : Then-is_ok g) → IsAccessed c.args.self.now (new_parts g c) c.place-place.result (behind_both None c.in-Ok.due (copy_node c.args.staging.handle 0 c.id_of-dst.result c.args.at c.args.len)) c.args.serial (λ k. k == key_of (Buffer c.args.buffer)) (λ k. transfer_write)
is_accessed g c =
    accessed_from c.args.self.now c.self.inside.indexes c.self.inside.pending c.push_copy.new.pending c.self.inside.objects c.access.new.self c.place-place.result
    (behind_both None c.in-Ok.due (copy_node c.args.staging.handle 0 c.id_of-dst.result c.args.at c.args.len)) c.args.serial (λ k. k == key_of (Buffer c.args.buffer)) (λ k. transfer_write) c.self.view_is
    (from_ok c.push_copy.result (sym c.is_ok.ensures.value ∙ c.if-is_ok.true) c.push_copy.ensures.eight)
    (subst (λ (id : HandleId). c.push_copy.new.pending ≡ slice_set c.self.inside.pending c.place-place.result (slice_index_or c.self.inside.pending c.place-place.result [] ++ behind_both None c.in-Ok.due (copy_node id 0 c.id_of-dst.result c.args.at c.args.len))) c.id-src.ensures
    (from_ok c.push_copy.result (sym c.is_ok.ensures.value ∙ c.if-is_ok.true) c.push_copy.ensures.ok))
    c.in-Ok.ensures.ok

len_end : (g : Over) (c : Then-is_ok g) → c.args.len ≤ the_end
len_end g c = omega (arith, c.ranges.len.fits)

pub give-requires : goal.give-requires
give-requires g c =
    c.upload_comes_to.ensures.may c.args.self.now (new_parts g c.before) (g.L.BackLink.state c.args.link.now) c.place-place.result c.args.buffer c.args.at c.args.len c.requires.store.0 c.args.serial c.args.staging.handle c.id_of-dst.result c.in-Ok.due c.args.staging.uses
    c.requires.holds (next_serial g c.before) (has_buffer g c.before) c.requires.store.2 c.requires.some (len_end g c.before) (is_due g c.before) (is_accessed g c.before) c.requires.uses

pub returns-then-is_ok-clause-moved : goal.returns-then-is_ok-clause-moved
returns-then-is_ok-clause-moved g c =
    let s : Link = g.L.BackLink.state c.args.link.now in
    subst (λ (t : Link). Moved (face (new_parts g c.before.before)) t
    (put_object (view (face c.args.self.now) s) (Buffer c.args.buffer) (with_copy (view (face c.args.self.now) s (Buffer c.args.buffer)) c.args.at c.args.len (recorded (face c.args.self.now) s c.args.staging.handle.0) 0))
    (outline_at (face c.args.self.now)) (IsQuietBut (face c.args.self.now) s (Buffer c.args.buffer))) (sym c.give.ensures.state)
    (c.upload_comes_to.ensures.moved c.args.self.now (new_parts g c.before.before) s c.place-place.result c.args.buffer c.args.at c.args.len c.requires.store.0 c.args.serial c.args.staging.handle c.id_of-dst.result c.in-Ok.due c.args.staging.uses
    c.requires.holds (next_serial g c.before.before) (has_buffer g c.before.before) c.requires.store.2 c.requires.some (len_end g c.before.before) (is_due g c.before.before) (is_accessed g c.before.before) c.requires.uses)

pub abandon-requires : goal.abandon-requires
abandon-requires g c = (c.requires.holds.hands_stand c.args.staging.handle.0 (fresh_slot c.args.staging.handle.0 (kind.Buffer c.args.len)) (hand_at c.args.staging.handle.0 c.args.len)).stands.held

pub returns-clause-err : goal.returns-clause-err
returns-clause-err g c =
    let s : Link = g.L.BackLink.state c.args.link.now in
    let was : KeepsHandles c.args.self.now.stores c.self.inside.objects = same_handles (record { indexes = c.self.inside.indexes; pending = c.self.inside.pending; stores = c.self.inside.objects }) c.args.self.now c.self.view_is in
    let keeps : KeepsHandles c.args.self.now.stores c.match-access.self.stores =
    elim c.match-access.branch [
      | in-Ok+else-is_ok w ↦ kept_then c.args.self.now.stores c.access.new.self c.match-access.self.stores
          (kept_then c.args.self.now.stores c.self.inside.objects c.access.new.self was (kept_used (key_of (Buffer c.args.buffer)) transfer_write c.args.serial c.self.inside.objects c.access.new.self w.in-Ok.ensures.ok)) (same_handles c.match-access.self _ w.self-is)
      | in_default w ↦ kept_then c.args.self.now.stores c.access.new.self c.match-access.self.stores
          (kept_then c.args.self.now.stores c.self.inside.objects c.access.new.self was (same_stores c.self.inside.objects c.access.new.self w.in_default.ensures.err)) (same_handles c.match-access.self _ w.self-is)
    ] in
    subst (Owns (face c.match-access.self).objects) (sym c.abandon.ensures.state)
    (c.stopped_recording_comes_to.ensures.lets_go c.args.self.now c.match-access.self s c.args.staging.handle.0 (kind.Buffer c.args.len) c.requires.holds keeps)

pub returns-clause-at_back : goal.returns-clause-at_back
returns-clause-at_back g c = might_stop c.abandon.ensures.at_back
