-- A search through the ranges of two nodes.
use Rattle.std.proofs.Common.{◌≡◌, ℕ, zero, suc, ◌+◌, ◌≤◌, List, [], ◌∷◌, length, take, Bool, true, false, refl, sym, ◌∙◌, ap, arith}
use Rattle.std.specs.Prelude.{◌||◌, Some, slice_get}
use Rattle.std.specs.List.{list_any}
use Rattle.std.proofs.lemmas.Bool.{or_left, or_right, or_from}
use Rattle.std.proofs.lemmas.List.{length-map, take_all}
use Rattle.std.proofs.lemmas.List.Folds.{list_any-append}
use Rattle.std.proofs.lemmas.Option.{slice_get-map, slice_get_within}
use Rattle.vk_types.specs.declared.ops.Node.{Node}
use Rattle.vk_types.specs.declared.regions.Touch.{Touch}
use Rattle.vk_types.specs.Touches.{touches}
use Rattle.vk_model.specs.Log.{node_range, node_ranges, clash, conflict, Conflicts}
use Rattle.vk_model.proofs.Places.{At, item_at}

pub any_found : {X : Type 0} (p : X → Bool) (xs : List X) (k : ℕ) (x : X) → slice_get xs k ≡ Some x → p x ≡ true → list_any p xs ≡ true
any_found p [] k x at e = cc
any_found p (y ∷ xs) zero x at e = let same : y ≡ x = cc in or_left (p y) (list_any p xs) (ap p same ∙ e)
any_found p (y ∷ xs) (suc k) x at e = or_right (p y) (list_any p xs) (any_found p xs k x at e)

pub none_more : {X : Type 0} (p : X → Bool) (xs : List X) (k : ℕ) (x : X) → slice_get xs k ≡ Some x → list_any p (take k xs) ≡ false → p x ≡ false → list_any p (take (k + 1) xs) ≡ false
none_more {X} p xs k x at none e =
    let here : At xs k = item_at xs k (slice_get_within xs k x at) in
    let both : Some here.item ≡ Some x = sym here.is ∙ at in
    let same : here.item ≡ x = cc in
    let more : k + 1 ≡ suc k = omega arith in
    ap (λ n. list_any p (take n xs)) more ∙ ap (list_any p) here.next ∙ list_any-append p (take k xs) (here.item ∷ [])
    ∙ or_from (list_any p (take k xs)) (p here.item || false) none (or_from (p here.item) false (ap p same ∙ e) refl)

range_at : (n : Node) (k : ℕ) (t : Touch) → slice_get (touches n) k ≡ Some t → slice_get (node_ranges n) k ≡ Some (node_range n t)
range_at n k t at = slice_get-map (node_range n) (touches n) k ∙ ap (Rattle.std.specs.Option.option_map (node_range n)) at

pub found_conflict : (a b : Node) (i j : ℕ) (s t : Touch) → slice_get (touches a) i ≡ Some s → slice_get (touches b) j ≡ Some t → clash (node_range a s) (node_range b t) ≡ true → Conflicts a b
found_conflict a b i j s t at_i at_j e = any_found (λ r. list_any (clash r) (node_ranges b)) (node_ranges a) i (node_range a s) (range_at a i s at_i) (any_found (clash (node_range a s)) (node_ranges b) j (node_range b t) (range_at b j t at_j) e)

pub none_more_inner : (a b : Node) (j : ℕ) (s t : Touch) → slice_get (touches b) j ≡ Some t → list_any (clash (node_range a s)) (take j (node_ranges b)) ≡ false → clash (node_range a s) (node_range b t) ≡ false → list_any (clash (node_range a s)) (take (j + 1) (node_ranges b)) ≡ false
none_more_inner a b j s t at_j none e = none_more (clash (node_range a s)) (node_ranges b) j (node_range b t) (range_at b j t at_j) none e

pub none_more_outer : (a b : Node) (i j : ℕ) (s : Touch) → slice_get (touches a) i ≡ Some s → length (touches b) ≤ j → list_any (λ r. list_any (clash r) (node_ranges b)) (take i (node_ranges a)) ≡ false → list_any (clash (node_range a s)) (take j (node_ranges b)) ≡ false → list_any (λ r. list_any (clash r) (node_ranges b)) (take (i + 1) (node_ranges a)) ≡ false
none_more_outer a b i j s at_i all none e = none_more (λ r. list_any (clash r) (node_ranges b)) (node_ranges a) i (node_range a s) (range_at a i s at_i) none (sym (ap (list_any (clash (node_range a s))) (take_all j (node_ranges b) (omega (arith, length-map (touches b) (node_range b))))) ∙ e)

pub none_at_all : (a b : Node) (i : ℕ) → length (touches a) ≤ i → list_any (λ r. list_any (clash r) (node_ranges b)) (take i (node_ranges a)) ≡ false → conflict a b ≡ false
none_at_all a b i all e = sym (ap (list_any (λ r. list_any (clash r) (node_ranges b))) (take_all i (node_ranges a) (omega (arith, length-map (touches a) (node_range a))))) ∙ e
