-- Which nodes of a list are ready.
use Rattle.std.proofs.Common.{◌≡◌, ℕ, zero, suc, ◌+◌, ◌<◌, ◌≤◌, List, [], ◌∷◌, length, get_or, take, Bool, true, false, refl, sym, ◌∙◌, ap, arith, inl, inr}
use Rattle.std.specs.Prelude.{◌⊎◌, ◌↔◌, Some, slice_get}
use Rattle.std.specs.List.{list_any}
use Rattle.std.proofs.lemmas.Bool.{false≢true, cases_lt, not-true, not_from_false, or_from, or_parts}
use Rattle.std.proofs.lemmas.List.Folds.{list_any_more}
use Rattle.std.proofs.lemmas.Option.{slice_get_within, slice_get_past, get_or_from_slice_get}
use Rattle.vk_ready.specs.declared.nodes.WaitingNode.{WaitingNode}
use Rattle.vk_ready.specs.Ready.{edge, is_free, is_ready, ready_places}

-- what stands at a place of a list
pub record At {X : Type 0} (xs : List X) (k : ℕ) : Type 0 where
  pub item : X
  pub is : slice_get xs k ≡ Some item

pub item_at : {X : Type 0} (xs : List X) (k : ℕ) → k < length xs → At xs k
item_at [] k lt = absurd (omega arith)
item_at (x ∷ xs) zero lt = record { item = x; is = refl }
item_at (x ∷ xs) (suc k) lt = let at : At xs k = item_at xs k (omega arith) in record { item = at.item; is = at.is }

pub none_passes : {X : Type 0} (p : X → Bool) (xs : List X) → list_any p xs ≡ false → (j : ℕ) (x : X) → slice_get xs j ≡ Some x → p x ≡ false
none_passes p [] none j x at = cc
none_passes p (y ∷ xs) none zero x at = let same : y ≡ x = cc in ap p (sym same) ∙ (or_parts (p y) (list_any p xs) none).0
none_passes p (y ∷ xs) none (suc j) x at = none_passes p xs (or_parts (p y) (list_any p xs) none).1 j x at

take_reads : {X : Type 0} (xs : List X) (k j : ℕ) (x : X) → j < k → slice_get xs j ≡ Some x → slice_get (take k xs) j ≡ Some x
take_reads [] k j x lt at = cc
take_reads (y ∷ xs) zero j x lt at = absurd (omega arith)
take_reads (y ∷ xs) (suc k) zero x lt at = at
take_reads (y ∷ xs) (suc k) (suc j) x lt at = take_reads xs k j x (omega arith) at

-- no earlier node has an edge to a ready one
pub ready_waits_for_none : (list : List WaitingNode) (k : ℕ) (y : WaitingNode) → is_ready list k ≡ true → slice_get list k ≡ Some y → (j : ℕ) (x : WaitingNode) → j < k → slice_get list j ≡ Some x → edge x y ≡ false
ready_waits_for_none list k y ready at j x lt at_j =
    none_passes (λ x. edge x y) (take k list) (not-true (list_any (λ x. edge x y) (take k list)) (ap (is_free (take k list)) (sym at) ∙ ready)) j x (take_reads list k j x lt at_j)

-- one more item that does not pass
pub none_more : {X : Type 0} (p : X → Bool) (xs : List X) (k : ℕ) (x : X) → slice_get xs k ≡ Some x → list_any p (take k xs) ≡ false → p x ≡ false → list_any p (take (k + 1) xs) ≡ false
none_more p xs k x at none e =
    list_any_more p xs k x (slice_get_within xs k x at) ∙ or_from (list_any p (take k xs)) (p (get_or xs k x)) none (ap p (get_or_from_slice_get xs k x x at) ∙ e)

read_back : {X : Type 0} (xs : List X) (k j : ℕ) (x : X) → slice_get (take k xs) j ≡ Some x → (j < k) × (slice_get xs j ≡ Some x)
read_back [] zero j x at = cc
read_back [] (suc k) j x at = cc
read_back (y ∷ xs) zero j x at = cc
read_back (y ∷ xs) (suc k) zero x at = (omega arith, at)
read_back (y ∷ xs) (suc k) (suc j) x at = let rest : (j < k) × (slice_get xs j ≡ Some x) = read_back xs k j x at in (omega (arith, rest.0), rest.1)

none_found : {X : Type 0} (p : X → Bool) (xs : List X) → ((j : ℕ) (x : X) → slice_get xs j ≡ Some x → p x ≡ false) → list_any p xs ≡ false
none_found p [] each = refl
none_found p (x ∷ xs) each = or_from (p x) (list_any p xs) (each 0 x refl) (none_found p xs (λ j y at. each (suc j) y at))

-- a node to which no earlier one has an edge is ready
pub ready_from_edges : (list : List WaitingNode) (k : ℕ) → k < length list → ((j : ℕ) (x y : WaitingNode) → j < k → slice_get list j ≡ Some x → slice_get list k ≡ Some y → edge x y ≡ false) → is_ready list k ≡ true
ready_from_edges list k lt free = go (item_at list k lt)
  where
    go : At list k → is_ready list k ≡ true
    go at =
        ap (is_free (take k list)) at.is
        ∙ not_from_false (list_any (λ x. edge x at.item) (take k list)) (none_found (λ x. edge x at.item) (take k list) (λ j x at_j. let read : (j < k) × (slice_get list j ≡ Some x) = read_back list k j x at_j in free j x at.item read.0 read.1 at.is))

-- a ready place is one of the list's
pub ready_within : (list : List WaitingNode) (k : ℕ) → is_ready list k ≡ true → k < length list
ready_within list k ready = go (cases_lt k (length list))
  where
    go : (k < length list) ⊎ (length list ≤ k) → k < length list
    go (inl lt) = lt
    go (inr le) = absurd (false≢true (sym (ap (is_free (take k list)) (slice_get_past list k le)) ∙ ready))

-- some node is ready where there is one
pub some_ready : (list : List WaitingNode) → (0 < length (ready_places list)) ↔ (0 < length list)
some_ready [] = (λ lt. lt, λ lt. lt)
some_ready (x ∷ list) = (λ lt. omega arith, λ lt. omega arith)
