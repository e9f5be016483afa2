use Rattle.std.proofs.Common.{◌≡◌, ◌==◌, sym, ap, subst, ◌∙◌, false}
use Rattle.front_model.specs.declared.object.Object.TheVariants.{Buffer}
use Rattle.front_moves.specs.Objects.{key_of}
use Rattle.front_moves.specs.Core.{CoreParts}
use Rattle.front_moves.specs.Recording.{IsNextSerial, HasBuffer, IsOpened}
use Rattle.front_moves.proofs.Outcomes.{from_ok, from_not_ok}
use Rattle.front_moves.proofs.Recorded.{opened_from}
use Rattle.front_moves.proofs.ObjectStores.{KeepsHandles, same_handles, same_stores, kept_then, kept_changed}
use Rattle.front_moves.proofs.group_core.Core.record_opening.Given.{Over}
use Rattle.front_moves.proofs.group_core.Core.record_opening.Goals as goal
use Rattle.front_moves.proofs.group_core.Core.record_opening.Goals.{else-is_ok-via-then-is_ok+else-is_ok-2, else-is_ok-via-else-is_ok}

next_serial : (g : Over) (c : goal.Then-is_ok-2 g) → IsNextSerial c.args.self.now c.place-place.result c.args.serial
next_serial g c = record { group = c.requires.group; place_is = c.place-place.ensures.place; next = c.requires.next; few = c.requires.few }

has_buffer : (g : Over) (c : goal.Then-is_ok-2 g) → HasBuffer false c.args.self.now c.args.serial.index c.args.buffer c.id_of-id.result c.requires.store.0
has_buffer g c = record { handle = c.id_of-id.ensures.handle; store = c.requires.store.1; end = c.id_of-id.ensures.size c.requires.store.0 c.requires.store.1; parted = c.requires.parted }

abbrev new_parts : (g : Over) (c : goal.Then-is_ok-2 g) → CoreParts
new_parts g c = record { indexes = c.self.inside.indexes; pending = c.push.new.self; stores = c.fence.new.self }

is_opened : (g : Over) (c : goal.Then-is_ok-2 g) → IsOpened c.args.self.now (new_parts g c) c.place-place.result c.in-Some.barrier c.args.serial (key_of (Buffer c.args.buffer))
is_opened g c =
    opened_from c.args.self.now c.self.inside.indexes c.self.inside.pending c.push.new.self c.self.inside.objects c.fence.new.self c.place-place.result c.in-Some.barrier c.args.serial (key_of (Buffer c.args.buffer)) c.self.view_is c.push.ensures.eight
    (from_ok c.push.result (sym c.is_ok-then-is_ok.ensures.value ∙ c.if-is_ok-2.true) c.push.ensures.ok)
    (from_ok c.fence.result (sym c.is_ok.ensures.value ∙ c.if-is_ok.true) c.fence.ensures.ok)

pub returns-then-is_ok-2-clause-moved : goal.returns-then-is_ok-2-clause-moved
returns-then-is_ok-2-clause-moved g c =
    c.opening_comes_to.ensures.moved c.args.self.now (new_parts g c) (g.L.BackLink.state c.args.link.now) c.place-place.result c.args.buffer c.requires.store.0 c.args.serial c.id_of-id.result c.in-Some.barrier
    c.requires.holds (next_serial g c) (has_buffer g c) c.in-Some.ensures (is_opened g c)

pub returns-then-is_ok-2-clause-parted : goal.returns-then-is_ok-2-clause-parted
returns-then-is_ok-2-clause-parted g c =
    (c.opening_comes_to.ensures.behind c.args.self.now (new_parts g c) (g.L.BackLink.state c.args.link.now) c.place-place.result c.args.buffer c.requires.store.0 c.args.serial c.id_of-id.result c.in-Some.barrier
    c.requires.holds (next_serial g c) (has_buffer g c) c.in-Some.ensures (is_opened g c)).0

pub returns-then-is_ok-2-clause-opened : goal.returns-then-is_ok-2-clause-opened
returns-then-is_ok-2-clause-opened g c =
    (c.opening_comes_to.ensures.behind c.args.self.now (new_parts g c) (g.L.BackLink.state c.args.link.now) c.place-place.result c.args.buffer c.requires.store.0 c.args.serial c.id_of-id.result c.in-Some.barrier
    c.requires.holds (next_serial g c) (has_buffer g c) c.in-Some.ensures (is_opened g c)).1

pub returns-clause-err : goal.returns-clause-err
returns-clause-err g c =
    let was : KeepsHandles c.args.self.now.stores c.self.inside.objects = same_handles (record { indexes = c.self.inside.indexes; pending = c.self.inside.pending; stores = c.self.inside.objects }) c.args.self.now c.self.view_is in
    let keeps : KeepsHandles c.args.self.now.stores c.else-is_ok.self.stores =
    elim c.else-is_ok.branch [
      | else-is_ok-via-then-is_ok+else-is_ok-2 w ↦ kept_then c.args.self.now.stores c.fence.new.self c.else-is_ok.self.stores
          (kept_then c.args.self.now.stores c.self.inside.objects c.fence.new.self was (kept_changed (key_of (Buffer c.args.buffer)) c.in-Some.barrier c.args.serial c.self.inside.objects c.fence.new.self (from_ok c.fence.result (sym c.is_ok.ensures.value ∙ w.if-is_ok.true) c.fence.ensures.ok))) (same_handles c.else-is_ok.self _ w.self-is)
      | else-is_ok-via-else-is_ok w ↦ kept_then c.args.self.now.stores c.fence.new.self c.else-is_ok.self.stores
          (kept_then c.args.self.now.stores c.self.inside.objects c.fence.new.self was (same_stores c.self.inside.objects c.fence.new.self (from_not_ok c.fence.result (sym c.is_ok.ensures.value ∙ w.if-is_ok.false) c.fence.ensures.err))) (same_handles c.else-is_ok.self _ w.self-is)
    ] in
    c.stopped_recording_comes_to.ensures.owns c.args.self.now c.else-is_ok.self (g.L.BackLink.state c.args.link.now) c.requires.holds keeps
