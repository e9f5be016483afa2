use Rattle.transfer.proofs.Clearing.{clear_shows, others_after_clear}
use Rattle.transfer.proofs.clear_laws.clear_is_exact.Goals as goal

pub returns : goal.returns
returns c = record {
  image = λ kinds q c image old signed value on box attached area shown common. clear_shows kinds q c image old signed value on box attached area shown common;
  others = λ kinds q c image info signed value scissor area. others_after_clear image info signed value scissor area kinds q c;
}
