use Rattle.transfer.proofs.Copying.{copy_fits, copy_none_empty}
use Rattle.transfer.proofs.copy_laws.copy_fits.Goals as goal

pub returns : goal.returns
returns c = record {
  fits = λ kinds src dst read written x y rect. copy_fits src dst read x y rect kinds written;
  none_empty = copy_none_empty;
}
