-- A pass as contracts see it.
use Rattle.std.specs.Prelude.{◌≡◌, ℕ, ◌<◌, ◌≤◌, true, false, List, [], ◌∷◌, length, slice_index, Contains, Option, None}
use Rattle.atomic_table.specs.Seated.{TableId}
use Rattle.atomic_table.specs.declared.shared.Seat.{Seat}
use Rattle.turnstile.specs.declared.rule.View.{View}
use Rattle.turnstile.specs.Histories.{own, greatest}
use Rattle.turnstile.specs.Views.{PassModel}

abbrev pub known : {E : Type 0} → TableId → View E → PassModel E
known name v = record { name = name; number = v.number; made = v.made; joined = v.joined; seen = v.seen; loads = v.loads; counted = v.counted; holds = v.holds; words = v.words }

abbrev pub shown : {V E : Type 0} → Seat (Option V) (View E) → PassModel E
shown p = known p.table_id p.me.0

-- pass 0 of a new turnstile
abbrev pub first_pass : {E : Type 0} → TableId → List E → List ℕ → PassModel E
first_pass name log words = record { name = name; number = 0; made = 1; joined = []; seen = log; loads = []; counted = 0; holds = false; words = words }

-- the pass that is made next
abbrev pub new_pass : {E : Type 0} → PassModel E → PassModel E
new_pass p = record { name = p.name; number = p.made; made = 0; joined = []; seen = p.seen; loads = []; counted = 0; holds = false; words = p.words }

-- every pass below n but pass 0 was joined
abbrev pub JoinedBelow : ℕ → List ℕ → Type 0
JoinedBelow n joined = (k : ℕ) → 0 < k → k < n → Contains joined k

-- what pass 0, which has joined all others, knows of the value
pub record Closed {V E : Type 0} (history : V → List E) (published : V → ℕ → ℕ) (p : PassModel E) (x : V) : Type 0 where
  pub whole : history x ≡ p.seen
  pub known : (word : ℕ) → 0 < word → word < 65 → slice_index p.words word ≤ published x word
  pub loads : (word : ℕ) → 0 < word → word < 65 → greatest word p.loads ≤ published x word
  pub counted : p.counted ≤ length (history x)

-- a pass is live and joins nothing, and the slot is out with it only while its turn is out. Nothing that pass 0 has seen names a pass that was not made
pub record IsSound {V E : Type 0} (names : E → Option ℕ) (p : Seat (Option V) (View E)) : Type 0 where
  pub live : p.me.0.live ≡ true
  pub guests : p.me.0.guests ≡ []
  pub aside : p.me.0.aside ≡ []
  pub idle : p.me.0.holds ≡ false → p.me.1 ≡ []
  pub busy : p.me.0.holds ≡ true → p.me.1 ≡ (0, None) ∷ []
  pub wide : length p.me.0.words ≡ 66
  pub count : p.me.0.holds ≡ true → slice_index p.me.0.words 0 ≡ length p.me.0.seen
  pub made : p.me.0.number ≡ 0 → 0 < p.me.0.made
  pub fresh : p.me.0.number ≡ 0 → (k : ℕ) → p.me.0.made ≤ k → own names k p.me.0.seen ≡ []
