use Rattle.transfer.proofs.Blitting.{blit_shows, others_after_blit}
use Rattle.transfer.proofs.blit_laws.blit_is_exact.Goals as goal

pub returns : goal.returns
returns c = record {
  image = λ kinds q c src dst read old coords on box attached area shown_read shown are words common. blit_shows kinds q c src dst read old coords on box attached area shown_read shown are words common;
  others = λ kinds q c src dst read coords scissor area. others_after_blit src dst read coords scissor area kinds q c;
}
