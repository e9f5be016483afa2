use Rattle.std.proofs.Common.{◌==◌, false, sym, ap, subst, ◌∙◌}
use Rattle.std.specs.Prelude.{◌||◌, not}
use Rattle.front_model.specs.declared.object.Object.TheVariants.{Buffer}
use Rattle.front_moves.specs.Objects.{key_of}
use Rattle.front_moves.specs.Core.{CoreParts}
use Rattle.front_moves.specs.Recording.{IsNextSerial, HasBuffer, IsDueBefore, behind_both, copy_access}
use Rattle.front_moves.proofs.Accessing.{if_err}
use Rattle.front_moves.proofs.Preparing.{on_ok_both}
use Rattle.front_moves.proofs.Recorded.{accessed_from}
use Rattle.front_moves.proofs.Recordable.{copy_node}
use Rattle.front_moves.proofs.ObjectStores.{KeepsHandles, same_handles, kept_then}
use Rattle.front_moves.proofs.group_core.Core.record_copy.Goals as goal

pub returns-in-Ok-clause-moved : goal.returns-in-Ok-clause-moved
returns-in-Ok-clause-moved g c =
    let old : CoreParts = c.args.self.now in
    let new : CoreParts = record { indexes = c.self.inside.indexes; pending = c.push_copy.new.pending; stores = c.access_both.new.self } in
    let next : IsNextSerial old c.place-place.result c.args.serial = record { group = c.requires.group; place_is = c.place-place.ensures.place; next = c.requires.next; few = c.requires.few } in
    let source = c.requires.source in
    let target = c.requires.target in
    let from : HasBuffer (not (c.args.src == c.args.dst)) old c.args.serial.index c.args.src c.id_of-from.result source.0 =
    record { handle = c.id_of-from.ensures.handle; store = source.1; end = c.id_of-from.ensures.size source.0 source.1; parted = c.requires.source_parted } in
    let to : HasBuffer false old c.args.serial.index c.args.dst c.id_of-to.result target.0 =
    record { handle = c.id_of-to.ensures.handle; store = target.1; end = c.id_of-to.ensures.size target.0 target.1; parted = c.requires.parted } in
    let due : IsDueBefore (key_of (Buffer c.args.src)) (key_of (Buffer c.args.dst)) old.stores c.in-Ok.one c.in-Ok.other = subst (λ (p : CoreParts). IsDueBefore (key_of (Buffer c.args.src)) (key_of (Buffer c.args.dst)) p.stores c.in-Ok.one c.in-Ok.other) c.self.view_is c.in-Ok.ensures.due in
    let nodes = behind_both c.in-Ok.one c.in-Ok.other (copy_node c.id_of-from.result c.args.src_at c.id_of-to.result c.args.dst_at c.args.size) in
    on_ok_both c.push_copy.result
    (λ pushed eight. c.copy_comes_to.ensures.moved old new (g.L.BackLink.state c.args.link.now) c.place-place.result c.args.src c.args.src_at c.args.dst c.args.dst_at c.args.size source.0 target.0 c.args.serial c.id_of-from.result c.id_of-to.result c.in-Ok.one c.in-Ok.other
    c.requires.holds next from to source.2 target.2 c.requires.some c.requires.apart due
    (accessed_from old c.self.inside.indexes c.self.inside.pending c.push_copy.new.pending c.self.inside.objects c.access_both.new.self c.place-place.result nodes c.args.serial (λ k. (k == key_of (Buffer c.args.src)) || (k == key_of (Buffer c.args.dst))) (copy_access (key_of (Buffer c.args.src)) (key_of (Buffer c.args.dst)))
    c.self.view_is eight pushed c.in-Ok.ensures.ok))
    c.push_copy.ensures.ok c.push_copy.ensures.eight

pub returns-in-Ok-clause-err : goal.returns-in-Ok-clause-err
returns-in-Ok-clause-err g c =
    if_err c.push_copy.result
    (c.stopped_recording_comes_to.ensures.owns c.args.self.now (record { indexes = c.self.inside.indexes; pending = c.push_copy.new.pending; stores = c.access_both.new.self }) (g.L.BackLink.state c.args.link.now) c.requires.holds
    (kept_then c.args.self.now.stores c.self.inside.objects c.access_both.new.self
    (same_handles (record { indexes = c.self.inside.indexes; pending = c.self.inside.pending; stores = c.self.inside.objects }) c.args.self.now c.self.view_is) c.access_both.ensures.stores))

pub returns-in-Err-clause-err : goal.returns-in-Err-clause-err
returns-in-Err-clause-err g c =
    c.stopped_recording_comes_to.ensures.owns c.args.self.now (record { indexes = c.self.inside.indexes; pending = c.self.inside.pending; stores = c.access_both.new.self }) (g.L.BackLink.state c.args.link.now) c.requires.holds
    (kept_then c.args.self.now.stores c.self.inside.objects c.access_both.new.self
    (same_handles (record { indexes = c.self.inside.indexes; pending = c.self.inside.pending; stores = c.self.inside.objects }) c.args.self.now c.self.view_is) c.access_both.ensures.stores)
