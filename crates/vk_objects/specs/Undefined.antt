-- Bytes whose cells are not defined.
use Rattle.std.specs.Prelude.{◌≡◌, ℕ, ◌<◌, ◌≤◌}
use Rattle.cells.specs.Contents.{UNDEFINED}
use Rattle.vk_model.specs.Cells.{Contents}

-- a byte whose cell is not defined is as it was
abbrev pub KeepsAt : (old new cell : ℕ) → Type 0
KeepsAt old new cell = UNDEFINED ≤ cell → new < UNDEFINED → new ≡ old

-- each byte that is not defined after a node is as it was
abbrev pub KeepsUndefined : (old new after : Contents) → Type 0
KeepsUndefined old new after = (id i : ℕ) → KeepsAt (old id i) (new id i) (after id i)
