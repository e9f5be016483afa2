use Rattle.transfer.proofs.Clearing.{clear_fits, clear_none_empty}
use Rattle.transfer.proofs.clear_laws.clear_fits.Goals as goal

pub returns : goal.returns
returns c = record {
  fits = λ kinds image info signed value scissor area. clear_fits image info signed value scissor area kinds;
  none_empty = clear_none_empty;
}
