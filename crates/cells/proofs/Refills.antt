-- What lent bytes come back as.
use Rattle.std.proofs.Common.{◌≡◌, ◌∙◌, ap, sym, List, ℕ, ◌++◌, length, take, drop}
use Rattle.std.proofs.Math.Seq.{take-append_seam}
use Rattle.cells.specs.Lending.{refilled}

-- a slice keeps its length, so the bytes are then those that were left in it
pub refilled-whole : (old new : List ℕ) → length new ≡ length old → refilled old new ≡ new
refilled-whole old new e =
    ap (λ n. take n (new ++ drop (length new) old)) (sym e) ∙ take-append_seam new (drop (length new) old)
