-- The slots of nodes in order of acceptance, and for which earlier node each one waits.
use Rattle.std.specs.Prelude.{◌≡◌, ℕ, suc, ◌<◌, ◌≤◌, ◌⊎◌, Bool, false, true, List, [], ◌∷◌, length, slice_index, slice_index_or, Option, Some, None}
use Rattle.vk_ready.specs.declared.nodes.WaitingNode.{WaitingNode}
use Rattle.vk_ready.specs.Ready.{edge}

-- the node of a slot, which is gone once it ran
abbrev pub in_slot : List (Option WaitingNode) → ℕ → Option WaitingNode
in_slot slots k = slice_index_or slots k None

abbrev pub with_slot : Option WaitingNode → List WaitingNode → List WaitingNode
with_slot None rest = rest
with_slot (Some x) rest = x ∷ rest

-- the nodes that wait, in order
abbrev pub waiting_in : List (Option WaitingNode) → List WaitingNode
waiting_in [] = []
waiting_in (slot ∷ slots) = with_slot slot (waiting_in slots)

-- the node of the slot has an edge to the later one
abbrev pub edge_from : Option WaitingNode → WaitingNode → Bool
edge_from None later = false
edge_from (Some earlier) later = edge earlier later

-- no node of these slots has an edge to the later one
abbrev pub IsFreeOf : List (Option WaitingNode) → (start end : ℕ) → WaitingNode → Type 0
IsFreeOf slots start end later = (k : ℕ) → start ≤ k → k < end → edge_from (in_slot slots k) later ≡ false

-- all slots before this one are empty
abbrev pub AreGone : List (Option WaitingNode) → ℕ → Type 0
AreGone slots first = (k : ℕ) → k < first → in_slot slots k ≡ None

-- a number of the list
abbrev pub Has : List ℕ → ℕ → Type 0
Has [] k = ⊥
Has (n ∷ ns) k = (k ≡ n) ⊎ Has ns k

-- each number is below all later ones
abbrev pub Rises : List ℕ → Type 0
Rises [] = Unit {0}
Rises (n ∷ ns) = ((k : ℕ) → Has ns k → n < k) × Rises ns

-- the node in slot p has an edge to the one in slot k, which is found by looking before the end that slot p names
pub record IsBehind (slots : List (Option WaitingNode)) (ends : List ℕ) (p k : ℕ) (later : WaitingNode) : Type 0 where
  pub waits : edge_from (in_slot slots p) later ≡ true
  pub seen : k < slice_index ends p

-- the node in slot k waited for the one that ran, and has to look for another
pub record IsLeft (gone from end p k : ℕ) : Type 0 where
  pub is : p ≡ gone
  pub after : from ≤ k
  pub before : k < end

-- The holder of slot k is the number of the last earlier slot whose node has an edge to that of slot k, plus 1; and 0 where there is none.
pub record IsHeld (slots : List (Option WaitingNode)) (holders ends : List ℕ) (gone from end k : ℕ) (later : WaitingNode) : Type 0 where
  pub earlier : slice_index holders k ≤ k
  pub free : IsFreeOf slots (slice_index holders k) k later
  pub held : (p : ℕ) → slice_index holders k ≡ suc p → IsBehind slots ends p k later ⊎ IsLeft gone from end p k

-- the start of a slot lies not behind any slot that is held by it
pub record AreStarts (holders starts : List ℕ) : Type 0 where
  pub size : length starts ≡ length holders
  pub low : (k p : ℕ) → slice_index holders k ≡ suc p → (p < length starts) × (slice_index starts p ≤ k)

-- a node that waits for no other
pub record IsOffered (slots : List (Option WaitingNode)) (holders : List ℕ) (k : ℕ) : Type 0 where
  pub node : WaitingNode
  pub at : in_slot slots k ≡ Some node
  pub free : slice_index holders k ≡ 0

-- Each node is held by an earlier one that waits, or is ready. Those between two slots may still name the one that ran.
pub record IsWatched (slots : List (Option WaitingNode)) (holders ends ready : List ℕ) (gone from end : ℕ) : Type 0 where
  pub holders_size : length holders ≡ length slots
  pub ends_size : length ends ≡ length slots
  pub each : (k : ℕ) (later : WaitingNode) → in_slot slots k ≡ Some later → IsHeld slots holders ends gone from end k later
  pub empty : (k : ℕ) → in_slot slots k ≡ None → slice_index holders k ≡ 0
  pub rises : Rises ready
  pub offered : (k : ℕ) → Has ready k → IsOffered slots holders k
  pub all : (k : ℕ) (later : WaitingNode) → in_slot slots k ≡ Some later → slice_index holders k ≡ 0 → Has ready k
