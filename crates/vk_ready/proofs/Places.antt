-- The places that a filter keeps.
use Rattle.std.proofs.Common.{◌≡◌, ℕ, zero, suc, ◌+◌, ◌<◌, ◌≤◌, List, ◌∷◌, length, Bool, true, false, cond, refl, sym, ◌∙◌, ap, subst, arith, inl, inr}
use Rattle.std.specs.Prelude.{◌↔◌, Contains, Some, slice_get}
use Rattle.std.specs.List.{filter, range_with_len}
use Rattle.std.proofs.lemmas.Bool.{cases_eq}
use Rattle.std.proofs.lemmas.List.Elements.{All-contains, filter_passes}
use Rattle.vk_ready.specs.declared.nodes.WaitingNode.{WaitingNode}
use Rattle.vk_ready.specs.Ready.{is_ready, ready_places, edge}
use Rattle.vk_ready.specs.Slots.{Has}
use Rattle.vk_ready.proofs.Rising.{has_contains}
use Rattle.vk_ready.proofs.Readiness.{ready_within, ready_from_edges, ready_waits_for_none}

kept_first : (b : Bool) (a : ℕ) (rest : List ℕ) → b ≡ true → Has (cond b (a ∷ rest) rest) a
kept_first true a rest e = inl refl
kept_first false a rest e = cc

kept_later : (b : Bool) (a k : ℕ) (rest : List ℕ) → Has rest k → Has (cond b (a ∷ rest) rest) k
kept_later true a k rest h = inr h
kept_later false a k rest h = h

-- a place that passes is kept
kept : (p : ℕ → Bool) (a n k : ℕ) → p k ≡ true → a ≤ k → k < a + n → Has (filter p (range_with_len a n)) k
kept p a zero k e le lt = absurd (omega arith)
kept p a (suc n) k e le lt = elim (cases_eq k a) [
  | inl same ↦ subst (Has (cond (p a) (a ∷ filter p (range_with_len (a + 1) n)) (filter p (range_with_len (a + 1) n)))) (sym same) (kept_first (p a) a (filter p (range_with_len (a + 1) n)) (ap p (sym same) ∙ e))
  | inr other ↦ kept_later (p a) a k (filter p (range_with_len (a + 1) n)) (kept p (a + 1) n k e (omega (arith, other)) (omega arith))
]

-- a ready place is listed
pub listed : (list : List WaitingNode) (place : ℕ) → is_ready list place ≡ true → Contains (ready_places list) place
listed list place ready =
    let lt : place < length list = ready_within list place ready in
    has_contains (ready_places list) place (kept (is_ready list) 0 (length list) place ready (omega arith) (omega arith))

pub listed_is_ready : (list : List WaitingNode) (place : ℕ) → Contains (ready_places list) place → is_ready list place ≡ true
listed_is_ready list place c = All-contains (λ k. is_ready list k ≡ true) (ready_places list) place (filter_passes (is_ready list) (range_with_len 0 (length list))) c

-- the ready places are exact
pub exact : (list : List WaitingNode) (place : ℕ) → Contains (ready_places list) place ↔ ((place < length list) × ((j : ℕ) (x y : WaitingNode) → j < place → slice_get list j ≡ Some x → slice_get list place ≡ Some y → edge x y ≡ false))
exact list place = (
  λ c. let ready : is_ready list place ≡ true = listed_is_ready list place c in (ready_within list place ready, λ j x y lt at_j at. ready_waits_for_none list place y ready at j x lt at_j),
  λ both. listed list place (ready_from_edges list place both.0 both.1),
)
