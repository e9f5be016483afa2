use Rattle.schedule.proofs.Calling.{threads_stay, calls_made}
use Rattle.schedule.proofs.laws.calls_are_made.Goals as goal

pub returns : goal.returns
returns g c = record { threads = threads_stay; calls = calls_made }
