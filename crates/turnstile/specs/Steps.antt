-- What each step tells the pass that makes it.
use Rattle.std.specs.Prelude.{◌≡◌, ◌≢◌, ℕ, ◌<◌, ◌≤◌, true, false, List, [], ◌∷◌, ◌++◌, length, slice_index, slice_set, Contains, Option, Some}
use mathlib.Core.List.{IsPrefix}
use Rattle.atomic_table.specs.Table.{Me, Step}
use Rattle.turnstile.specs.declared.rule.View.{View}
use Rattle.turnstile.specs.Histories.{own, greatest}
use Rattle.turnstile.specs.Rule.{merge_of}

abbrev pub Seating : Type 0 → Type 0 → Type 0
Seating V E = Me (Option V) (View E)

module _ {V E : Type 0} where
  abbrev pub stored : Step (Option V) → Seating V E → ℕ → Seating V E → Type 0
  stored st m r m' = (m'.0 ≡ record m.0 { words = slice_set m.0.words st.word r }) × (m'.1 ≡ m.1)

  abbrev pub looked : Step (Option V) → Seating V E → ℕ → Seating V E → Type 0
  looked st m r m' = (m'.0 ≡ record m.0 { loads = m.0.loads ++ (st.word, r) ∷ [] }) × (m'.1 ≡ m.1) × (greatest st.word m.0.loads ≤ r) × (slice_index m.0.words st.word ≤ r)

  abbrev pub counted : Step (Option V) → Seating V E → ℕ → Seating V E → Type 0
  counted st m r m' = (m'.0 ≡ record m.0 { counted = r }) × (m'.1 ≡ m.1) × (m.0.counted ≤ r) × (length m.0.seen ≤ r)

module _ {V E : Type 0} (history : V → List E) where
  -- the history is that of the value in the slot
  abbrev pub left : Step (Option V) → Seating V E → ℕ → Seating V E → Type 0
  left st m r m' = (x : V) → m.1 ≡ (0, Some x) ∷ [] → (m'.0 ≡ record m.0 { seen = history x; holds = false }) × (m'.1 ≡ [])

  -- the value's history begins with what was seen, and its entries of the pass are those that the pass had seen
  pub record Gains (published : V → ℕ → ℕ) (names : E → Option ℕ) (v w : View E) (x : V) : Type 0 where
    pub begins : IsPrefix v.seen (history x)
    pub same : (k : ℕ) → Contains (v.number ∷ v.joined) k → own names k (history x) ≡ own names k v.seen
    pub fresh : v.number ≡ 0 → (k : ℕ) → v.made ≤ k → own names k (history x) ≡ []
    pub view : w ≡ record v { seen = history x; holds = true; words = w.words }
    pub wide : length w.words ≡ 66
    pub known : (word : ℕ) → word < 65 → slice_index v.words word ≤ slice_index w.words word
    pub count : slice_index w.words 0 ≡ length (history x)
    pub shown : (word : ℕ) → 0 < word → word < 65 → slice_index w.words word ≡ published x word
    pub loads : (word : ℕ) → 0 < word → word < 65 → greatest word v.loads ≤ published x word
    pub counted : v.counted ≤ length (history x)

  abbrev pub gained : (V → ℕ → ℕ) → (E → Option ℕ) → Step (Option V) → Seating V E → ℕ → Seating V E → Type 0
  gained published names st m r m' = (r ≡ 0 → (x : V) × (m'.1 ≡ (0, Some x) ∷ m.1) × Gains published names m.0 m'.0 x) × (r ≢ 0 → m' ≡ m)

module _ {E : Type 0} (names : E → Option ℕ) where
  -- the pass has now seen the longer of two histories, of which the other is a beginning
  pub record Merges (v w : View E) : Type 0 where
    pub view : w ≡ merge_of v
    pub begins : IsPrefix v.seen w.seen
    pub aside : IsPrefix v.aside w.seen
    pub same : (k : ℕ) → Contains (v.number ∷ v.joined) k → own names k w.seen ≡ own names k v.seen
    pub guests : (k : ℕ) → Contains v.guests k → own names k w.seen ≡ own names k v.aside
    pub fresh : v.number ≡ 0 → (k : ℕ) → v.made ≤ k → own names k w.seen ≡ []

abbrev pub merged : {V E : Type 0} → (E → Option ℕ) → Step (Option V) → Seating V E → ℕ → Seating V E → Type 0
merged names st m r m' = (m'.1 ≡ m.1) × Merges names m.0 m'.0
