-- Bytes that are lent to be written to.
use Rattle.std.specs.Prelude.{ℕ, List, ◌++◌, length, take, drop}
use Rattle.std.specs.Borrow.{Lends, MutBor, Fml, Array, u8}
use Rattle.cells.specs.contracts.Bytes.{the_row}

-- as many items as before: the new ones, and then those that were there
abbrev pub refilled : List ℕ → List ℕ → List ℕ
refilled old new = take (length old) (new ++ drop (length new) old)

-- s ends as what is left behind r, which has its length
abbrev pub LendsAll : MutBor (List ℕ) → MutBor (List ℕ) → Fml
LendsAll s r = Lends the_row (Array u8 0) s r (refilled s.now)
