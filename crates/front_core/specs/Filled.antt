-- Bytes in a range of a buffer.
use Rattle.std.specs.Prelude.{◌≡◌, ◌≢◌, ℕ, ◌<◌, List}
use Rattle.back_core.specs.Link.{Link}
use Rattle.front_model.specs.declared.object.Object.{Object}
use Rattle.front_model.specs.declared.object.Object.TheVariants.{Buffer}
use Rattle.front_model.specs.Face.{Face, outline_at, view}
use Rattle.front_model.specs.Stands.{Moved}
use Rattle.front_model.specs.Wanted.{with_bytes}
use Rattle.front_moves.specs.Core.{IsQuietBut}

-- Bytes were written into a range of a buffer of this size. Its other cells are as before, and so is each other object.
pub record IsFilled (f g : Face) (s t : Link) (b size at : ℕ) (bytes : List ℕ) : Type 0 where
  pub moved : Moved g t (view g t) (outline_at f) (IsQuietBut f s (Buffer b))
  pub others : (o : Object) → o ≢ Buffer b → view g t o ≡ view f s o
  pub filled : (p : ℕ) → p < size → view g t (Buffer b) p ≡ with_bytes (view f s (Buffer b)) at bytes p
