-- Last uses are no greater than last numbers.
use Rattle.std.proofs.Common.{◌≡◌, ℕ, ◌+◌, ◌≤◌, ◌==◌, true, false, cond, max, List, [], ◌∷◌, ◌++◌, sym, ap, ◌∙◌, subst, inl, inr, arith}
use Rattle.std.specs.Prelude.{◌⊎◌, ◌&&◌}
use Rattle.std.specs.List.{fold}
use Rattle.std.proofs.lemmas.Bool.{cases_eq, cases_Bool, cond-true, cond-false, eq-eqb, ne_eqb, and_left}
use Rattle.std.proofs.lemmas.List.{append-nil}
use Rattle.std.proofs.lemmas.List.Concat.{flat_map-append}
use Rattle.std.proofs.lemmas.List.Sums.{fold-append}
use Rattle.vk_types.specs.declared.batches.Batch.{Batch}
use Rattle.submit_queue.specs.Histories.{last_number}
use Rattle.back_core.specs.Own.{Own, Enqueued, batch_by, batches_of, batch_touches, last_use, next_number}

pub batches_then : (mine : List Own) (x : Own) → batches_of (mine ++ x ∷ []) ≡ batches_of mine ++ batch_by x
batches_then mine x = flat_map-append batch_by mine (x ∷ []) ∙ ap (λ l. batches_of mine ++ l) (append-nil (batch_by x))

-- the last use among some batches
abbrev use_in : List Batch → ℕ → ℕ → ℕ
use_in list index id = fold (λ n (batch : Batch). cond ((batch.index == index) && batch_touches batch id) (max n batch.number) n) 0 list

pub host_low : (mine : List Own) (x : Own) → batch_by x ≡ [] → (index id : ℕ) → last_use mine index id ≤ last_number (batches_of mine) index → last_use (mine ++ x ∷ []) index id ≤ last_number (batches_of (mine ++ x ∷ [])) index
host_low mine x none index id low =
    let same : batches_of (mine ++ x ∷ []) ≡ batches_of mine = batches_then mine x ∙ (ap (λ l. batches_of mine ++ l) none ∙ append-nil (batches_of mine)) in
    subst (λ l. use_in l index id ≤ last_number l index) (sym same) low

pub batch_low : (mine : List Own) (b : Batch) → b.number ≡ next_number mine b.index → (index id : ℕ) → last_use mine index id ≤ last_number (batches_of mine) index → last_use (mine ++ Enqueued b ∷ []) index id ≤ last_number (batches_of (mine ++ Enqueued b ∷ [])) index
batch_low mine b next index id low = subst (λ l. use_in l index id ≤ last_number l index) (sym (batches_then mine (Enqueued b))) (go (cases_eq b.index index))
  where
    number_then : last_number (batches_of mine ++ b ∷ []) index ≡ cond (b.index == index) b.number (last_number (batches_of mine) index)
    number_then = fold-append (λ n (c : Batch). cond (c.index == index) c.number n) 0 (batches_of mine) (b ∷ [])

    use_then : use_in (batches_of mine ++ b ∷ []) index id ≡ cond ((b.index == index) && batch_touches b id) (max (use_in (batches_of mine) index id) b.number) (use_in (batches_of mine) index id)
    use_then = fold-append (λ n (c : Batch). cond ((c.index == index) && batch_touches c id) (max n c.number) n) 0 (batches_of mine) (b ∷ [])

    own_use : (((b.index == index) && batch_touches b id) ≡ true) ⊎ (((b.index == index) && batch_touches b id) ≡ false) → last_number (batches_of mine ++ b ∷ []) index ≡ b.number → b.number ≡ last_number (batches_of mine) index + 1
        → use_in (batches_of mine ++ b ∷ []) index id ≤ last_number (batches_of mine ++ b ∷ []) index
    own_use (inl t) n k = let u : use_in (batches_of mine ++ b ∷ []) index id ≡ max (use_in (batches_of mine) index id) b.number = use_then ∙ cond-true _ _ _ t in omega (arith, n, u, k, low)
    own_use (inr f) n k = let u : use_in (batches_of mine ++ b ∷ []) index id ≡ use_in (batches_of mine) index id = use_then ∙ cond-false _ _ _ f in omega (arith, n, u, k, low)

    go : (b.index ≡ index) ⊎ (b.index ≡ index → ⊥) → use_in (batches_of mine ++ b ∷ []) index id ≤ last_number (batches_of mine ++ b ∷ []) index
    go (inl own) =
        let n : last_number (batches_of mine ++ b ∷ []) index ≡ b.number = number_then ∙ cond-true (b.index == index) b.number _ (eq-eqb b.index index own) in
        let k : b.number ≡ last_number (batches_of mine) index + 1 = subst (λ i. b.number ≡ last_number (batches_of mine) i + 1) own next in
        own_use (cases_Bool ((b.index == index) && batch_touches b id)) n k
    go (inr other) =
        let n : last_number (batches_of mine ++ b ∷ []) index ≡ last_number (batches_of mine) index = number_then ∙ cond-false (b.index == index) b.number _ (ne_eqb b.index index other) in
        let u : use_in (batches_of mine ++ b ∷ []) index id ≡ use_in (batches_of mine) index id = use_then ∙ cond-false _ _ _ (and_left (b.index == index) (batch_touches b id) (ne_eqb b.index index other)) in
        omega (arith, n, u, low)
