use Rattle.std.proofs.Common.{arith}
use Rattle.back_core.proofs.Uses.{host_low, batch_low}
use Rattle.back_core.proofs.laws.uses_are_low.Goals as goal

pub returns : goal.returns
returns c = record { starts = λ index id. omega arith; host = host_low; batch = batch_low }
