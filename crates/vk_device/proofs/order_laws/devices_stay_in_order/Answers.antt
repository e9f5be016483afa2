use Rattle.vk_device.proofs.CallLaws.{stays, creates, writes, submits, turns, fetches, destroys}
use Rattle.vk_device.proofs.Running.{in_order_at_first}
use Rattle.vk_device.proofs.Steps.{reads_in_order}
use Rattle.vk_device.proofs.order_laws.devices_stay_in_order.Goals as goal

pub returns : goal.returns
returns g c = record {
  starts = in_order_at_first;
  stays = λ old new. stays _ _ old new;
  creates = λ old new. creates _ _ old new;
  writes = λ old new. writes _ _ old new;
  submits = λ old new. submits _ _ old new;
  turns = λ old new. turns _ _ old new;
  fetches = λ old new. fetches _ _ old new;
  destroys = λ old new. destroys _ _ old new;
  reads = reads_in_order;
}
