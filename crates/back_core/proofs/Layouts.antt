-- The log is sound, and the batch that is accepted next finds the layouts that it names.
use Rattle.std.proofs.Common.{◌≡◌, ◌+◌, List, [], ◌∷◌, ◌++◌, length, map, take, sym, ap, ◌∙◌, subst, arith}
use Rattle.std.specs.Prelude.{Some, slice_get, option_map}
use Rattle.std.proofs.Math.Seq.{take-append-add}
use Rattle.std.proofs.lemmas.List.{take-map, take-append-le}
use Rattle.std.proofs.lemmas.Option.{slice_get-map, slice_get_within}
use Rattle.vk_types.specs.declared.ops.Node.{Node}
use Rattle.vk_types.specs.declared.batches.Batch.{Batch}
use Rattle.vk_model.specs.Log.{Command, commands, FindsLayouts, IsSound}
use Rattle.vk_model.proofs.Growth.{sound_front}
use Rattle.vk_device.specs.Order.{IsOfOneQueue, FindItsLayouts}
use Rattle.submit_queue.specs.Histories as queue
use Rattle.back_core.specs.declared.back_event.BackEvent.{BackEvent}
use Rattle.back_core.specs.declared.back_event.BackEvent.TheVariants.{Submitted}
use Rattle.back_core.specs.History.{queue_history}
use Rattle.back_core.specs.Run.{IsRun}
use Rattle.back_core.proofs.Lists.{get_left, get_right}
use Rattle.back_core.proofs.Plans.{accepted, flushed, flushed_less, nodes_in, is_fed, device_log}
use Rattle.back_core.proofs.Planned.{LeavesAlone, plan_sound}

module _ (alone : LeavesAlone) where
  pub log_sound : (h : List BackEvent) → IsRun h → IsSound (device_log h)
  log_sound h run = sound_front (device_log h) (commands 0 (nodes_in (flushed h))) (plan_sound alone h run)

  pub finds_layouts : (h : List BackEvent) (batch : Batch) → IsRun h → queue.first_flushed (queue_history h) ≡ Some batch → FindItsLayouts (device_log h) batch
  finds_layouts h batch run first k n at =
      let rest : List Node = nodes_in (flushed (h ++ Submitted ∷ [])) in
      let one : IsOfOneQueue batch = (is_fed h run).one_queue (accepted h) batch first in
      let sound : IsSound (device_log h ++ commands 0 (batch.nodes ++ rest)) = subst (λ l. IsSound (device_log h ++ commands 0 (nodes_in l))) (flushed_less h batch first) (plan_sound alone h run) in
      let there : slice_get (device_log h ++ commands 0 (batch.nodes ++ rest)) (length (device_log h) + k) ≡ Some (Command 0 n) =
      get_right (device_log h) (commands 0 (batch.nodes ++ rest)) k ∙ slice_get-map (Command 0) (batch.nodes ++ rest) k ∙ ap (option_map (Command 0)) (get_left batch.nodes rest k n at) in
      let before : take (length (device_log h) + k) (device_log h ++ commands 0 (batch.nodes ++ rest)) ≡ device_log h ++ commands 0 (take k batch.nodes) =
      take-append-add (device_log h) (commands 0 (batch.nodes ++ rest)) k
      ∙ ap (λ l. device_log h ++ l) (take-map (Command 0) k (batch.nodes ++ rest) ∙ ap (commands 0) (take-append-le k batch.nodes rest (omega (arith, slice_get_within batch.nodes k n at)))) in
      subst (λ q. FindsLayouts (device_log h ++ map (Command q) (take k batch.nodes)) n) (sym one.queue)
      (subst (λ l. FindsLayouts l n) before (sound.laid_out (length (device_log h) + k) 0 n there))
