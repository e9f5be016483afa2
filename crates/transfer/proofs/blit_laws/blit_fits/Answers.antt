use Rattle.transfer.proofs.Blitting.{blit_fits, blit_none_empty}
use Rattle.transfer.proofs.blit_laws.blit_fits.Goals as goal

pub returns : goal.returns
returns c = record {
  fits = λ kinds src dst read written coords scissor area. blit_fits src dst read coords scissor area kinds written;
  none_empty = blit_none_empty;
}
