use Rattle.readback.proofs.Packing.{pack_shows}
use Rattle.readback.proofs.Fits.{others_after_pack}
use Rattle.readback.proofs.laws.pack_is_exact.Goals as goal

pub returns : goal.returns
returns c = record {
  buffer = pack_shows;
  others = λ kinds q c image buffer info pixels kind rect base store. others_after_pack info pixels kind rect image buffer base store kinds q c;
}
