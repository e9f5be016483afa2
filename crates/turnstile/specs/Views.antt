-- A turnstile and a pass as contracts see them.
use Rattle.std.specs.Prelude.{ℕ, Bool, List}
use Rattle.atomic_table.specs.Seated.{TableId}

pub record TurnstileModel : Type 0 where
  pub name : TableId
  -- how many passes there may be
  pub seats : ℕ

pub record PassModel (E : Type 0) : Type 0 where
  -- which turnstile it is of
  pub name : TableId
  pub number : ℕ
  -- of pass 0, how many passes were made
  pub made : ℕ
  -- the numbers of the passes that were joined into it
  pub joined : List ℕ
  -- the history that it has seen
  pub seen : List E
  -- its loads of published words, each with the number that was found
  pub loads : List (ℕ × ℕ)
  -- the number of entries that its last load of the count found
  pub counted : ℕ
  -- a turn of it is out
  pub holds : Bool
  -- While its turn is out, what the 66 words hold. At other times what they held when it last knew them all.
  pub words : List ℕ
