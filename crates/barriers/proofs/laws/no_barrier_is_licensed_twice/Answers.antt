use Rattle.barriers.proofs.Due.{none_licensed, once_licensed}
use Rattle.barriers.proofs.laws.no_barrier_is_licensed_twice.Goals as goal

pub returns : goal.returns
returns c = record { none = none_licensed; once = once_licensed }
