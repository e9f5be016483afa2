use Rattle.transfer.proofs.Copying.{copy_shows, others_after_copy}
use Rattle.transfer.proofs.copy_laws.copy_is_exact.Goals as goal

pub returns : goal.returns
returns c = record {
  image = λ kinds q c src dst read old x y rect shown_read shown lies same. copy_shows kinds q c src dst read old x y rect shown_read shown lies same;
  others = λ kinds q c src dst read x y rect. others_after_copy src dst read x y rect kinds q c;
}
