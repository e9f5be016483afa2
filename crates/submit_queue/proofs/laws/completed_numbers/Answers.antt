use Rattle.std.proofs.Common.{refl}
use Rattle.submit_queue.proofs.Events.{completed-rises, completed-stays}
use Rattle.submit_queue.proofs.laws.completed_numbers.Goals as goal

pub returns : goal.returns
returns c = record { starts = λ i. refl; rises = completed-rises; stays = completed-stays }
