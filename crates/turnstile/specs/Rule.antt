-- The rule of the table: what holds of its words, its slot and all views between any two steps.
-- Word 0 is the number of entries, the words 1 to 64 are published numbers, and word 65 is 1 while a pass holds a turn.
use Rattle.std.specs.Prelude.{◌≡◌, ℕ, ◌+◌, ◌<◌, ◌≤◌, ◌⊎◌, true, false, List, [], ◌∷◌, ◌++◌, length, slice_index, Contains, Option, Some}
use mathlib.Core.Option.{some, none}
use mathlib.Core.List.{IsPrefix}
use lib.ListN.{get_elem?}
use Rattle.atomic_table.specs.Table.{State}
use Rattle.turnstile.specs.declared.rule.View.{View}
use Rattle.turnstile.specs.Histories.{own, longer, greatest}

module _ {E : Type 0} where
  -- the first view: pass 0 has seen the history and the words
  abbrev pub opened : List E → List ℕ → View E
  opened log words = record { live = true; number = 0; made = 1; joined = []; seen = log; guests = []; aside = []; loads = []; counted = 0; holds = false; words = words }

  -- the view of a pass that was joined into another
  abbrev pub spent : View E
  spent = record { live = false; number = 0; made = 0; joined = []; seen = []; guests = []; aside = []; loads = []; counted = 0; holds = false; words = [] }

  abbrev pub counting_one_more : View E → View E
  counting_one_more v = record v { made = v.made + 1 }

  -- the view of the pass that is made next
  abbrev pub next_pass : View E → View E
  next_pass v = record { live = true; number = v.made; made = 0; joined = []; seen = v.seen; guests = []; aside = []; loads = []; counted = 0; holds = false; words = v.words }

  -- a view with that of another pass set aside
  abbrev pub beside : View E → View E → View E
  beside v w = record v { guests = w.number ∷ w.joined; aside = w.seen }

  -- the two made one
  abbrev pub merge_of : View E → View E
  merge_of v = record v { joined = v.joined ++ v.guests; seen = longer v.seen v.aside; guests = []; aside = [] }

  -- the pass of this number was joined into another
  abbrev pub IsGone : List (View E) → ℕ → Type 0
  IsGone views k = get_elem? views k ≡ some spent

module _ {E : Type 0} (names : E → Option ℕ) where
  -- what was seen begins the history, which has no other entries of these numbers
  pub record Knows (log seen : List E) (numbers : List ℕ) : Type 0 where
    pub begins : IsPrefix seen log
    pub same : (k : ℕ) → Contains numbers k → own names k log ≡ own names k seen

  -- the view of the pass with this number
  pub record Fits (log : List E) (views : List (View E)) (at : ℕ) (v : View E) : Type 0 where
    pub number : v.number ≡ at
    pub made : v.number ≡ 0 → v.made ≡ length views
    pub own : Knows log v.seen (v.number ∷ v.joined)
    pub aside : Knows log v.aside v.guests
    pub gone : (k : ℕ) → Contains (v.joined ++ v.guests) k → IsGone views k

  -- some pass has seen the whole history
  pub record IsSeen (log : List E) (views : List (View E)) : Type 0 where
    pub at : ℕ
    pub view : View E
    pub there : get_elem? views at ≡ some view
    pub live : view.live ≡ true
    pub whole : (view.seen ≡ log) ⊎ (view.aside ≡ log)

-- no word is below a number that the pass has found there, or knows of
pub record Below {E : Type 0} (words : List ℕ) (v : View E) : Type 0 where
  pub known : (word : ℕ) → word < 65 → slice_index v.words word ≤ slice_index words word
  pub counted : v.counted ≤ slice_index words 0
  pub loads : (word : ℕ) → word < 65 → greatest word v.loads ≤ slice_index words word

module _ {V E : Type 0} (history : V → List E) (published : V → ℕ → ℕ) where
  -- the value is home
  pub record Home (log : List E) (s : State (Option V) (View E)) : Type 0 where
    pub value : V
    pub free : slice_index s.words 65 ≡ 0
    pub home : s.homes ≡ some (Some value) ∷ []
    pub same : history value ≡ log
    pub count : slice_index s.words 0 ≡ length log
    pub shown : (word : ℕ) → 0 < word → word < 65 → slice_index s.words word ≡ published value word
    pub idle : (j : ℕ) (v : View E) → get_elem? s.views j ≡ some v → v.holds ≡ false

  -- the value is out with one pass
  pub record Out (log : List E) (s : State (Option V) (View E)) : Type 0 where
    pub holder : ℕ
    pub view : View E
    pub taken : slice_index s.words 65 ≡ 1
    pub home : s.homes ≡ none ∷ []
    pub there : get_elem? s.views holder ≡ some view
    pub live : view.live ≡ true
    pub holds : view.holds ≡ true
    pub seen : view.seen ≡ log
    pub words : view.words ≡ s.words
    pub count : length log ≤ slice_index s.words 0
    pub only : (j : ℕ) (v : View E) → get_elem? s.views j ≡ some v → v.holds ≡ true → j ≡ holder

  pub record Kept (names : E → Option ℕ) (s : State (Option V) (View E)) : Type 0 where
    pub log : List E
    pub wide : length s.words ≡ 66
    pub each : (j : ℕ) (v : View E) → get_elem? s.views j ≡ some v → v.live ≡ true → Fits names log s.views j v
    pub below : (j : ℕ) (v : View E) → get_elem? s.views j ≡ some v → v.live ≡ true → Below s.words v
    pub fresh : (k : ℕ) → length s.views ≤ k → own names k log ≡ []
    pub seen : IsSeen names log s.views
    pub place : Home log s ⊎ Out log s
