-- Contents of objects, cell by cell, and bytes that agree with them.
use Rattle.std.specs.Prelude.{◌≡◌, ℕ, ◌+◌, ◌<◌, Bool, ◌&&◌, List, [], ◌∷◌, ◌++◌, length, take, drop, map, slice_index_or, nat_le, nat_lt}
use Rattle.std.specs.List.{range_with_len}

-- A content is a list of cells. A cell is a byte, 0 to 255, or 256 where nothing is defined.
abbrev pub Content : Type 0
Content = List ℕ

-- the cell that is not defined
abbrev pub UNDEFINED : ℕ
UNDEFINED = 256

-- n cells, of which cell i is f i
abbrev pub cells : ℕ → (ℕ → ℕ) → Content
cells n f = map f (range_with_len 0 n)

-- n cells that are not defined
abbrev pub undefined_cells : ℕ → Content
undefined_cells n = cells n (λ _. UNDEFINED)

-- what a place has, and not defined past the end
abbrev pub cell_at : Content → ℕ → ℕ
cell_at content i = slice_index_or content i UNDEFINED

-- i lies in the range of len places from a place on
abbrev pub in_range : ℕ → ℕ → ℕ → Bool
in_range at len i = nat_le at i && nat_lt i (at + len)

-- some items from a place on
abbrev pub part : List ℕ → ℕ → ℕ → List ℕ
part items at len = take len (drop at items)

-- items with others in their place from a place on
abbrev pub overwritten : List ℕ → ℕ → List ℕ → List ℕ
overwritten items at others = take at items ++ others ++ drop (at + length others) items

-- a byte, or a cell, agrees with a cell that is not defined, and with itself
abbrev pub AgreesAt : ℕ → ℕ → Type 0
AgreesAt byte cell = cell < UNDEFINED → byte ≡ cell

-- Bytes agree with a content of their length where each agrees with its cell.
abbrev pub Agrees : List ℕ → Content → Type 0
Agrees [] [] = Unit {0}
Agrees (byte ∷ bytes) (cell ∷ cells) = AgreesAt byte cell × Agrees bytes cells
Agrees [] (cell ∷ cells) = ⊥
Agrees (byte ∷ bytes) [] = ⊥
