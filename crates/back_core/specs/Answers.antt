-- What is told by the calls that learn how far the back is.
use Rattle.std.specs.Prelude.{◌≡◌, ℕ, ◌<◌, ◌≤◌, Option, Some, None}
use Rattle.back_core.specs.Link.{Link, Asked, put}

-- the completed numbers are told as before, and do not fall
abbrev pub NowRises : Option (ℕ → ℕ) → Option (ℕ → ℕ) → Type 0
NowRises None None = Unit {0}
NowRises None (Some new) = ⊥
NowRises (Some old) None = ⊥
NowRises (Some old) (Some new) = (index : ℕ) → old index ≤ new index

-- the loads are told as before, and their number does not fall
abbrev pub AskedRises : Option Asked → Option Asked → Type 0
AskedRises None None = Unit {0}
AskedRises None (Some new) = ⊥
AskedRises (Some old) None = ⊥
AskedRises (Some old) (Some new) = old.loads ≤ new.loads

-- the known numbers, and what is told beside them, may have risen, and nothing else has changed
pub record Learns (old new : Link) : Type 0 where
  pub rest : new ≡ record old { done = new.done; now = new.now; asked = new.asked }
  pub rises : (index : ℕ) → old.done index ≤ new.done index
  pub told : NowRises old.now new.now
  pub loaded : AskedRises old.asked new.asked

-- the number of loads rose, and the last one was of this index
abbrev pub Loads : Option Asked → Option Asked → ℕ → Type 0
Loads None new index = new ≡ None
Loads (Some old) None index = ⊥
Loads (Some old) (Some new) index = (old.loads < new.loads) × (new.index ≡ Some index)

-- the number is the completed one, where that is told
abbrev pub IsNow : Option (ℕ → ℕ) → ℕ → ℕ → Type 0
IsNow None index number = Unit {0}
IsNow (Some now) index number = number ≡ now index

-- an index's number was asked: it is not below the known one, and is known from now on
pub record Completes (old new : Link) (index number : ℕ) : Type 0 where
  pub rest : new ≡ record old { done = put old.done index number; asked = new.asked }
  pub rises : old.done index ≤ number
  pub told : IsNow old.now index number
  pub loaded : Loads old.asked new.asked index

-- the number of an index was waited for
pub record Waits (old new : Link) (index number : ℕ) : Type 0 where
  pub learns : Learns old new
  pub reached : number ≤ new.done index
