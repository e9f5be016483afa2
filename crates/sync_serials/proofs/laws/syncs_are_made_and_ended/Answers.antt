use Rattle.sync_serials.proofs.Made.{made, ended}
use Rattle.sync_serials.proofs.Waits.{new_sync}
use Rattle.sync_serials.proofs.laws.syncs_are_made_and_ended.Goals as goal

pub returns : goal.returns
returns c = record {
  new = λ f s ids tables state place e x stand accepted is. new_sync f s ids tables state place e.thread e.call x stand accepted is;
  made = made;
  ended = ended;
}
