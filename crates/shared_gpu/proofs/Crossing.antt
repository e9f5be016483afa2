-- A shared back over a device that may be sent to another thread may be sent itself. A type with a snapshot in it has no law of its own, so
-- this is the law on `Shared`, for who starts threads over it.
use denote.RattleType.{RattleType}
use denote.Param.Send.{IsSend, sendable, view_send}
use denote.Param.SendFields.{FieldsHave, VariantsHave, declared_send, variants_send, as_row_send}
use denote.Struct.Field.{row_field}
use Rattle.vk_device.specs.declared.device.Device.{Ghosts}
use Rattle.std.proofs.vec.Vec.TheSendSync.{the_send as vec_send}
use Rattle.std.below.std_heap.proofs.GlobalAllocator.TheSendSync.{the_frees}
use Rattle.std.specs.contracts.alloc.Global.{the_row as global_row}
use Rattle.std.specs.contracts.impls.GlobalAllocator.TheImpl.{ghosts}
use Rattle.vk_types.proofs.handles.HandleId.TheSendSync.{the_send as id_send}
use Rattle.submit_queue.proofs.queue.SubmitQueue.TheSendSync.{the_send as queue_send}
use Rattle.garbage.proofs.list.GarbageList.TheSendSync.{the_send as garbage_send}
use Rattle.back_core.proofs.back_event.BackEvent.TheSendSync.{the_send as event_send}
use Rattle.back_core.specs.contracts.stored.Stored.{enum as stored, the_row as stored_row, the_parts as stored_parts}
use Rattle.back_core.specs.contracts.back.Back.{the_row as back_row, the_field as back_field}
use Rattle.back_core.specs.contracts.back.Back.TheInside.{the_type as back_type}
use Rattle.shared_gpu.specs.contracts.shared.Shared.{the_row as shared_row}
use Rattle.shared_gpu.specs.contracts.shared.Shared.TheInside.{the_type as inside_type}

stored_send : IsSend stored_row
stored_send =
    let parts : VariantsHave IsSend stored_parts = ((event_send, tt), ((search sendable, (id_send, (search sendable depth 30, tt))), tt)) in
    variants_send stored parts

back_send : (T : RattleType) (g : Ghosts T.Denot) → IsSend T → IsSend (back_row T g)
back_send T g s =
    let parts : FieldsHave IsSend (back_type T g).parts = (search sendable depth 12, (as_row_send (row_field T) s, (vec_send stored_row global_row ghosts stored_send (search sendable depth 12) the_frees, (search sendable, (queue_send, (garbage_send, (search sendable depth 12, tt))))))) in
    view_send _ _ _ _ _ (declared_send (back_type T g) parts)

pub shared_send : (T : RattleType) (g : Ghosts T.Denot) → IsSend T → IsSend (shared_row T g)
shared_send T g s =
    let parts : FieldsHave IsSend (inside_type T g).parts = (as_row_send (back_field T g) (back_send T g s), (search sendable depth 12, tt)) in
    view_send _ _ _ _ _ (declared_send (inside_type T g) parts)
