-- The numbers of the batches of an index.
use Rattle.std.proofs.Common.{◌≡◌, ℕ, zero, suc, ◌+◌, ◌<◌, ◌≤◌, ◌==◌, cond, List, [], ◌∷◌, ◌++◌, length, take, refl, sym, ap, subst, ◌∙◌, inl, inr, arith}
use Rattle.std.specs.Prelude.{◌⊎◌, Some, slice_get}
use Rattle.std.proofs.lemmas.Bool.{cases_eq, cases_lt, cond-true, cond-false, eq-eqb, ne_eqb}
use Rattle.std.proofs.lemmas.List.{take-append-le, take_all}
use Rattle.std.proofs.lemmas.List.Sums.{fold-append}
use Rattle.std.proofs.lemmas.Option.{slice_get_within}
use Rattle.vk_types.specs.declared.batches.Batch.{Batch}
use Rattle.submit_queue.specs.Histories.{last_number}
use Rattle.submit_queue.specs.Kept.{AreNumbered, HasNumber}
use Rattle.submit_queue.proofs.Lists.{not_Some, slice_get-left, slice_get-right, slice_get-then, slice_get-take, some_at, take-then}

last_number-then : (xs : List Batch) (b : Batch) (i : ℕ) → last_number (xs ++ b ∷ []) i ≡ cond (b.index == i) b.number (last_number xs i)
last_number-then xs b i = fold-append (λ n (c : Batch). cond (c.index == i) c.number n) 0 xs (b ∷ [])

pub last_number-own : (xs : List Batch) (b : Batch) (i : ℕ) → b.index ≡ i → last_number (xs ++ b ∷ []) i ≡ b.number
last_number-own xs b i e = last_number-then xs b i ∙ cond-true (b.index == i) b.number (last_number xs i) (eq-eqb b.index i e)

pub last_number-other : (xs : List Batch) (b : Batch) (i : ℕ) → (b.index ≡ i → ⊥) → last_number (xs ++ b ∷ []) i ≡ last_number xs i
last_number-other xs b i e = last_number-then xs b i ∙ cond-false (b.index == i) b.number (last_number xs i) (ne_eqb b.index i e)

-- an index has batches with the numbers from 1 to its last one, and no other
pub record IsCounted (xs : List Batch) : Type 0 where
  pub has : (i m : ℕ) → 1 ≤ m → m ≤ last_number xs i → HasNumber xs i m
  pub below : (k : ℕ) (b : Batch) → slice_get xs k ≡ Some b → b.number ≤ last_number xs b.index

module _ (xs : List Batch) (b : Batch) (counted_ : IsCounted xs) (next : b.number ≡ last_number xs b.index + 1) where
  still_has : (i m : ℕ) → HasNumber xs i m → HasNumber (xs ++ b ∷ []) i m
  still_has i m n = record {
    place = n.place;
    batch = n.batch;
    at = slice_get-left xs (b ∷ []) n.place n.batch n.at;
    of_index = n.of_index;
    of_number = n.of_number;
  }

  now_has : (i m : ℕ) → b.index ≡ i → b.number ≡ m → HasNumber (xs ++ b ∷ []) i m
  now_has i m e f = record {
    place = length xs;
    batch = b;
    at = slice_get-right xs (b ∷ []) (length xs) 0 (omega arith);
    of_index = e;
    of_number = f;
  }

  next_of : (i : ℕ) → b.index ≡ i → b.number ≡ last_number xs i + 1
  next_of i e = subst (λ k. b.number ≡ last_number xs k + 1) e next

  has_then : (i m : ℕ) → 1 ≤ m → m ≤ last_number (xs ++ b ∷ []) i → HasNumber (xs ++ b ∷ []) i m
  has_then i m one le = go (cases_eq b.index i) (cases_lt (last_number xs i) m)
    where
      go : (b.index ≡ i) ⊎ (b.index ≡ i → ⊥) → (last_number xs i < m) ⊎ (m ≤ last_number xs i) → HasNumber (xs ++ b ∷ []) i m
      go own (inr small) = still_has i m (counted_.has i m one small)
      go (inl own) (inl big) = now_has i m own (omega (arith, le, big, last_number-own xs b i own, next_of i own))
      go (inr other) (inl big) = absurd (omega (arith, le, big, last_number-other xs b i other))

  grows : (i : ℕ) → last_number xs i ≤ last_number (xs ++ b ∷ []) i
  grows i = go (cases_eq b.index i)
    where
      go : (b.index ≡ i) ⊎ (b.index ≡ i → ⊥) → last_number xs i ≤ last_number (xs ++ b ∷ []) i
      go (inl own) = omega (arith, last_number-own xs b i own, next_of i own)
      go (inr other) = omega (arith, last_number-other xs b i other)

  below_then : (k : ℕ) (c : Batch) → slice_get (xs ++ b ∷ []) k ≡ Some c → c.number ≤ last_number (xs ++ b ∷ []) c.index
  below_then k c at = go (slice_get-then xs b k c at)
    where
      go : (slice_get xs k ≡ Some c) ⊎ ((k ≡ length xs) × (c ≡ b)) → c.number ≤ last_number (xs ++ b ∷ []) c.index
      go (inl old) = omega (arith, counted_.below k c old, grows c.index)
      go (inr new) = subst (λ (d : Batch). d.number ≤ last_number (xs ++ b ∷ []) d.index) (sym new.1) (omega (arith, last_number-own xs b b.index refl))

  counted-then : IsCounted (xs ++ b ∷ [])
  counted-then = record { has = has_then; below = below_then }

-- numbers that rise by one from 1 on leave none out
pub counted : (xs : List Batch) → AreNumbered xs → (n : ℕ) → n ≤ length xs → IsCounted (take n xs)
counted xs numbered zero le = record {
  has = λ i m one small. absurd (omega (arith, one, small));
  below = λ k b at. absurd (not_Some b at);
}
counted xs numbered (suc n) le =
    let s = some_at xs n (omega (arith, le)) in
    subst IsCounted (sym (take-then xs n s.0 s.1)) (counted-then (take n xs) s.0 (counted xs numbered n (omega (arith, le))) (numbered n s.0 s.1))

pub numbered-then : (xs : List Batch) (b : Batch) → AreNumbered xs → b.number ≡ last_number xs b.index + 1 → AreNumbered (xs ++ b ∷ [])
numbered-then xs b numbered next k c at = go (slice_get-then xs b k c at)
  where
    go : (slice_get xs k ≡ Some c) ⊎ ((k ≡ length xs) × (c ≡ b)) → c.number ≡ last_number (take k (xs ++ b ∷ [])) c.index + 1
    go (inl old) =
        let e : take k (xs ++ b ∷ []) ≡ take k xs = take-append-le k xs (b ∷ []) (omega (arith, slice_get_within xs k c old)) in
        subst (λ l. c.number ≡ last_number l c.index + 1) (sym e) (numbered k c old)
    go (inr new) =
        let e : take k (xs ++ b ∷ []) ≡ xs = take-append-le k xs (b ∷ []) (omega (arith, new.0)) ∙ take_all k xs (omega (arith, new.0)) in
        subst (λ l. c.number ≡ last_number l c.index + 1) (sym e) (subst (λ (d : Batch). d.number ≡ last_number xs d.index + 1) (sym new.1) next)

-- the numbers of an index rise
pub rises : (xs : List Batch) → AreNumbered xs → (j k : ℕ) (b c : Batch) → j < k → slice_get xs j ≡ Some b → slice_get xs k ≡ Some c → b.index ≡ c.index → b.number < c.number
rises xs numbered j k b c lt at_j at_k same =
    let before : IsCounted (take k xs) = counted xs numbered k (omega (arith, slice_get_within xs k c at_k)) in
    let below : b.number ≤ last_number (take k xs) b.index = before.below j b (slice_get-take xs k j b lt at_j) in
    let equal : last_number (take k xs) b.index ≡ last_number (take k xs) c.index = ap (last_number (take k xs)) same in
    omega (arith, below, equal, numbered k c at_k)

-- the last number is no more than the batches are
pub last_number-le : (xs : List Batch) → AreNumbered xs → (i n : ℕ) → n ≤ length xs → last_number (take n xs) i ≤ n
last_number-le xs numbered i zero le = omega arith
last_number-le xs numbered i (suc n) le =
    let s = some_at xs n (omega (arith, le)) in
    let ih : (k : ℕ) → last_number (take n xs) k ≤ n = λ k. last_number-le xs numbered k n (omega (arith, le)) in
    subst (λ l. last_number l i ≤ suc n) (sym (take-then xs n s.0 s.1)) (go s.0 (numbered n s.0 s.1) ih (cases_eq s.0.index i))
  where
    go : (b : Batch) → b.number ≡ last_number (take n xs) b.index + 1 → ((k : ℕ) → last_number (take n xs) k ≤ n) → (b.index ≡ i) ⊎ (b.index ≡ i → ⊥) → last_number (take n xs ++ b ∷ []) i ≤ suc n
    go b next before (inl own) = omega (arith, last_number-own (take n xs) b i own, next, before b.index)
    go b next before (inr other) = omega (arith, last_number-other (take n xs) b i other, before i)
