-- The numbers of the batches of each index, and how far the batches are.
use Rattle.std.proofs.Common.{◌≡◌, ℕ, zero, suc, ◌+◌, ◌<◌, ◌≤◌, ◌==◌, Bool, true, false, cond, List, [], ◌∷◌, ◌++◌, length, refl, sym, ap, ◌∙◌, subst, inl, inr, arith}
use Rattle.std.specs.Prelude.{◌⊎◌, Some, slice_get}
use Rattle.std.proofs.lemmas.Bool.{cases_eq, cases_lt, cases_Bool, cond-true, cond-false, eq-eqb, ne_eqb, false≢true, false_from_ne_true}
use Rattle.std.proofs.lemmas.List.{length-append}
use Rattle.std.proofs.lemmas.List.Sums.{fold-append}
use Rattle.std.proofs.lemmas.Option.{none-some, slice_get_within, same_Some}
use Rattle.vk_types.specs.declared.batches.Batch.{Batch}
use Rattle.vk_device.specs.Order.{IsOfOneQueue}
use Rattle.submit_queue.specs.Histories.{last_number, item_count, reach}
use Rattle.submit_queue.specs.Kept.{HasNumber}
use Rattle.back_core.proofs.Lists.{get_left, get_right, get_then}

number_then : (xs : List Batch) (b : Batch) (i : ℕ) → last_number (xs ++ b ∷ []) i ≡ cond (b.index == i) b.number (last_number xs i)
number_then xs b i = fold-append (λ n (c : Batch). cond (c.index == i) c.number n) 0 xs (b ∷ [])

number_own : (xs : List Batch) (b : Batch) (i : ℕ) → b.index ≡ i → last_number (xs ++ b ∷ []) i ≡ b.number
number_own xs b i e = number_then xs b i ∙ cond-true (b.index == i) b.number (last_number xs i) (eq-eqb b.index i e)

number_other : (xs : List Batch) (b : Batch) (i : ℕ) → (b.index ≡ i → ⊥) → last_number (xs ++ b ∷ []) i ≡ last_number xs i
number_other xs b i e = number_then xs b i ∙ cond-false (b.index == i) b.number (last_number xs i) (ne_eqb b.index i e)

-- each index has the numbers from 1 to its last one, in order, and the batches are for the one queue
pub record AreNumbered (xs : List Batch) : Type 0 where
  pub first : (k : ℕ) (b : Batch) → slice_get xs k ≡ Some b → 1 ≤ b.number
  pub below : (k : ℕ) (b : Batch) → slice_get xs k ≡ Some b → b.number ≤ last_number xs b.index
  pub rises : (j k : ℕ) (b c : Batch) → j < k → slice_get xs j ≡ Some b → slice_get xs k ≡ Some c → b.index ≡ c.index → b.number < c.number
  pub has : (i m : ℕ) → 1 ≤ m → m ≤ last_number xs i → HasNumber xs i m
  pub short : (i : ℕ) → last_number xs i ≤ length xs
  pub one_queue : (k : ℕ) (b : Batch) → slice_get xs k ≡ Some b → IsOfOneQueue b
  pub few : (k : ℕ) (b : Batch) → slice_get xs k ≡ Some b → length b.nodes < 4294967294
  pub low : (k : ℕ) (b : Batch) → slice_get xs k ≡ Some b → b.index < 64

pub none_numbered : AreNumbered []
none_numbered = record {
  first = λ k b at. absurd (none-some b at);
  below = λ k b at. absurd (none-some b at);
  rises = λ j k b c lt at. absurd (none-some b at);
  has = λ i m one le. absurd (omega (arith, one, le));
  short = λ i. omega arith;
  one_queue = λ k b at. absurd (none-some b at);
  few = λ k b at. absurd (none-some b at);
  low = λ k b at. absurd (none-some b at);
}

module _ (xs : List Batch) (b : Batch) (are : AreNumbered xs) (next : b.number ≡ last_number xs b.index + 1) where
  -- what holds of each of the batches and of the new one holds of all
  each : (P : ℕ → Batch → Type 0) → ((k : ℕ) (c : Batch) → slice_get xs k ≡ Some c → P k c) → P (length xs) b → (k : ℕ) (c : Batch) → slice_get (xs ++ b ∷ []) k ≡ Some c → P k c
  each P old new k c at = go (get_then xs b k c at)
    where
      go : (slice_get xs k ≡ Some c) ⊎ ((k ≡ length xs) × (c ≡ b)) → P k c
      go (inl is) = old k c is
      go (inr is) = subst (λ j. P j c) (sym is.0) (subst (P (length xs)) (sym is.1) new)

  next_of : (i : ℕ) → b.index ≡ i → b.number ≡ last_number xs i + 1
  next_of i e = subst (λ j. b.number ≡ last_number xs j + 1) e next

  pub number_grows : (i : ℕ) → last_number xs i ≤ last_number (xs ++ b ∷ []) i
  number_grows i = go (cases_eq b.index i)
    where
      go : (b.index ≡ i) ⊎ (b.index ≡ i → ⊥) → last_number xs i ≤ last_number (xs ++ b ∷ []) i
      go (inl own) = omega (arith, number_own xs b i own, next_of i own)
      go (inr other) = omega (arith, number_other xs b i other)

  new_rises : (k : ℕ) (c : Batch) → slice_get (xs ++ b ∷ []) k ≡ Some c → (j : ℕ) (d : Batch) → j < k → slice_get (xs ++ b ∷ []) j ≡ Some d → d.index ≡ c.index → d.number < c.number
  new_rises k c at j d lt at_j same = go (get_then xs b k c at) (get_then xs b j d at_j)
    where
      go : (slice_get xs k ≡ Some c) ⊎ ((k ≡ length xs) × (c ≡ b)) → (slice_get xs j ≡ Some d) ⊎ ((j ≡ length xs) × (d ≡ b)) → d.number < c.number
      go (inl old) (inl old_j) = are.rises j k d c lt old_j old same
      go (inl old) (inr last) = absurd (omega (arith, slice_get_within xs k c old, lt, last.0))
      go (inr new) (inl old_j) =
          let index : d.index ≡ b.index = same ∙ ap (λ (x : Batch). x.index) new.1 in
          let number : c.number ≡ b.number = ap (λ (x : Batch). x.number) new.1 in
          omega (arith, are.below j d old_j, next_of d.index (sym index), number)
      go (inr new) (inr last) = absurd (omega (arith, lt, last.0, new.0))

  still_has : (i m : ℕ) → HasNumber xs i m → HasNumber (xs ++ b ∷ []) i m
  still_has i m n = record { place = n.place; batch = n.batch; at = get_left xs (b ∷ []) n.place n.batch n.at; of_index = n.of_index; of_number = n.of_number }

  last_at : slice_get (xs ++ b ∷ []) (length xs) ≡ Some b
  last_at = let same : length xs ≡ length xs + 0 = omega arith in ap (slice_get (xs ++ b ∷ [])) same ∙ get_right xs (b ∷ []) 0

  new_has : (i m : ℕ) → 1 ≤ m → m ≤ last_number (xs ++ b ∷ []) i → HasNumber (xs ++ b ∷ []) i m
  new_has i m one le = go (cases_eq b.index i) (cases_lt (last_number xs i) m)
    where
      go : (b.index ≡ i) ⊎ (b.index ≡ i → ⊥) → (last_number xs i < m) ⊎ (m ≤ last_number xs i) → HasNumber (xs ++ b ∷ []) i m
      go own (inr small) = still_has i m (are.has i m one small)
      go (inl own) (inl big) = record { place = length xs; batch = b; at = last_at; of_index = own; of_number = omega (arith, le, big, number_own xs b i own, next_of i own) }
      go (inr other) (inl big) = absurd (omega (arith, le, big, number_other xs b i other))

  new_short : (i : ℕ) → last_number (xs ++ b ∷ []) i ≤ length (xs ++ b ∷ [])
  new_short i = go (cases_eq b.index i)
    where
      longer : length (xs ++ b ∷ []) ≡ length xs + 1
      longer = length-append xs (b ∷ [])

      go : (b.index ≡ i) ⊎ (b.index ≡ i → ⊥) → last_number (xs ++ b ∷ []) i ≤ length (xs ++ b ∷ [])
      go (inl own) = omega (arith, number_own xs b i own, next_of i own, are.short i, longer)
      go (inr other) = omega (arith, number_other xs b i other, are.short i, longer)

  pub numbered_then : IsOfOneQueue b → length b.nodes < 4294967294 → b.index < 64 → AreNumbered (xs ++ b ∷ [])
  numbered_then one few low = record {
    first = each (λ k (c : Batch). 1 ≤ c.number) are.first (omega (arith, next));
    below = each (λ k (c : Batch). c.number ≤ last_number (xs ++ b ∷ []) c.index) (λ k c at. omega (arith, are.below k c at, number_grows c.index)) (omega (arith, number_own xs b b.index refl));
    rises = λ j k d c lt at_j at same. new_rises k c at j d lt at_j same;
    has = new_has;
    short = new_short;
    one_queue = each (λ k c. IsOfOneQueue c) are.one_queue one;
    few = each (λ k (c : Batch). length c.nodes < 4294967294) are.few few;
    low = each (λ k (c : Batch). c.index < 64) are.low low;
  }

-- How far the batches are: which items ran, and which serials were retired, where so many batches were accepted and so
-- many retired.
pub record AreGoing (xs : List Batch) (accepted_ retired_ : ℕ) (ran gone : ℕ → ℕ → Bool) : Type 0 where
  pub few : retired_ ≤ accepted_
  pub taken : accepted_ ≤ length xs
  pub early : (k i : ℕ) → ran k i ≡ true → k < accepted_
  pub past : (k : ℕ) (b : Batch) → slice_get xs k ≡ Some b → k < retired_ → gone b.index b.number ≡ true
  pub left : (k : ℕ) (b : Batch) → slice_get xs k ≡ Some b → retired_ ≤ k → gone b.index b.number ≡ false
  pub known : (i n : ℕ) → gone i n ≡ true → n ≤ last_number xs i
  pub done : (k i : ℕ) (b : Batch) → slice_get xs k ≡ Some b → k < retired_ → i < item_count b → ran k i ≡ true

module _ (xs : List Batch) (a r : ℕ) (ran gone : ℕ → ℕ → Bool) (are : AreNumbered xs) (going : AreGoing xs a r ran gone) where
  -- a serial that was retired is that of an accepted batch whose items ran
  pub is_past : (k : ℕ) (b : Batch) → slice_get xs k ≡ Some b → gone b.index b.number ≡ true → k < r
  is_past k b at was = go (cases_lt k r)
    where
      go : (k < r) ⊎ (r ≤ k) → k < r
      go (inl lt) = lt
      go (inr le) = absurd (false≢true (sym (going.left k b at le) ∙ was))

  pub going_pushed : (b : Batch) → b.number ≡ last_number xs b.index + 1 → AreGoing (xs ++ b ∷ []) a r ran gone
  going_pushed b next = record {
    few = going.few;
    taken = omega (arith, going.taken, length-append xs (b ∷ []));
    early = going.early;
    past = λ k c at lt. going.past k c (old k c at lt) lt;
    left = λ k c at le. each xs b are next (λ k (c : Batch). r ≤ k → gone c.index c.number ≡ false) going.left (λ l. false_from_ne_true (gone b.index b.number) (λ was. omega (arith, going.known b.index b.number was, next))) k c at le;
    known = λ i n was. omega (arith, going.known i n was, number_grows xs b are next i);
    done = λ k i c at lt. going.done k i c (old k c at lt) lt;
  }
    where
      old : (k : ℕ) (c : Batch) → slice_get (xs ++ b ∷ []) k ≡ Some c → k < r → slice_get xs k ≡ Some c
      old k c at lt = go (get_then xs b k c at)
        where
          go : (slice_get xs k ≡ Some c) ⊎ ((k ≡ length xs) × (c ≡ b)) → slice_get xs k ≡ Some c
          go (inl is) = is
          go (inr is) = absurd (omega (arith, lt, is.0, going.few, going.taken))

  pub going_accepted : a < length xs → AreGoing xs (a + 1) r ran gone
  going_accepted lt = record {
    few = omega (arith, going.few);
    taken = omega (arith, lt);
    early = λ k i was. omega (arith, going.early k i was);
    past = going.past;
    left = going.left;
    known = going.known;
    done = going.done;
  }

  pub going_ran : (ran' : ℕ → ℕ → Bool) → ((k i : ℕ) → ran k i ≡ true → ran' k i ≡ true) → ((k i : ℕ) → ran' k i ≡ true → k < a) → AreGoing xs a r ran' gone
  going_ran ran' still early = record {
    few = going.few;
    taken = going.taken;
    early = early;
    past = going.past;
    left = going.left;
    known = going.known;
    done = λ k i b at lt inside. still k i (going.done k i b at lt inside);
  }

  -- the batch behind the retired ones was retired
  pub going_retired : (b : Batch) → slice_get xs r ≡ Some b → r < a → ((i : ℕ) → i < item_count b → ran r i ≡ true) → (gone' : ℕ → ℕ → Bool)
      → gone' b.index b.number ≡ true → ((i n : ℕ) → gone i n ≡ true → gone' i n ≡ true) → ((i n : ℕ) → gone' i n ≡ true → (gone i n ≡ true) ⊎ ((b.index ≡ i) × (b.number ≡ n)))
      → AreGoing xs a (r + 1) ran gone'
  going_retired b is lt executed gone' now still only = record {
    few = omega (arith, lt);
    taken = going.taken;
    early = going.early;
    past = λ k c at less. past k c at (cases_eq k r) less;
    left = λ k c at le. false_from_ne_true (gone' c.index c.number) (λ was. kept k c at le (only c.index c.number was));
    known = λ i n was. low i n (only i n was);
    done = λ k i c at less. done k i c at (cases_eq k r) less;
  }
    where
      past : (k : ℕ) (c : Batch) → slice_get xs k ≡ Some c → (k ≡ r) ⊎ (k ≡ r → ⊥) → k < r + 1 → gone' c.index c.number ≡ true
      past k c at (inl here) less =
          let same : c ≡ b = same_Some c b (sym at ∙ (ap (slice_get xs) here ∙ is)) in
          subst (λ (d : Batch). gone' d.index d.number ≡ true) (sym same) now
      past k c at (inr other) less = still c.index c.number (going.past k c at (omega (arith, less, other)))

      kept : (k : ℕ) (c : Batch) → slice_get xs k ≡ Some c → r + 1 ≤ k → (gone c.index c.number ≡ true) ⊎ ((b.index ≡ c.index) × (b.number ≡ c.number)) → ⊥
      kept k c at le (inl was) = false≢true (sym (going.left k c at (omega (arith, le))) ∙ was)
      kept k c at le (inr same) = omega (arith, are.rises r k b c (omega (arith, le)) is at same.0, same.1)

      low : (i n : ℕ) → (gone i n ≡ true) ⊎ ((b.index ≡ i) × (b.number ≡ n)) → n ≤ last_number xs i
      low i n (inl was) = going.known i n was
      low i n (inr same) = subst (λ j. n ≤ last_number xs j) same.0 (subst (λ m. m ≤ last_number xs b.index) same.1 (are.below r b is))

      done : (k i : ℕ) (c : Batch) → slice_get xs k ≡ Some c → (k ≡ r) ⊎ (k ≡ r → ⊥) → k < r + 1 → i < item_count c → ran k i ≡ true
      done k i c at (inl here) less inside =
          let same : c ≡ b = same_Some c b (sym at ∙ (ap (slice_get xs) here ∙ is)) in
          subst (λ j. ran j i ≡ true) (sym here) (executed i (subst (λ (d : Batch). i < item_count d) same inside))
      done k i c at (inr other) less inside = going.done k i c at (omega (arith, less, other)) inside

-- Completed numbers

-- the test holds of each number up to a reach
pub reach_holds : (test : ℕ → Bool) (n more m : ℕ) → n < m → m ≤ reach test n more → test m ≡ true
reach_holds test n zero m lt le = absurd (omega (arith, lt, le))
reach_holds test n (suc more) m lt le = go (cases_Bool (test (suc n))) (cases_eq m (suc n)) (reach_holds test (suc n) more m)
  where
    go : (test (suc n) ≡ true) ⊎ (test (suc n) ≡ false) → (m ≡ suc n) ⊎ (m ≡ suc n → ⊥) → (suc n < m → m ≤ reach test (suc n) more → test m ≡ true) → test m ≡ true
    go (inr f) c rest = absurd (omega (arith, lt, le, cond-false (test (suc n)) (reach test (suc n) more) n f))
    go (inl t) (inl here) rest = subst (λ k. test k ≡ true) (sym here) t
    go (inl t) (inr other) rest =
        let e : reach test n (suc more) ≡ reach test (suc n) more = cond-true (test (suc n)) (reach test (suc n) more) n t in
        rest (omega (arith, lt, other)) (omega (arith, le, e))

-- a reach is no less than a number up to which the test holds of each
pub reach_far : (test : ℕ → Bool) (last : ℕ) → ((m : ℕ) → 1 ≤ m → m ≤ last → test m ≡ true) → (n more : ℕ) → last ≤ n + more → last ≤ reach test n more
reach_far test last each n zero upto = omega (arith, upto)
reach_far test last each n (suc more) upto = go (cases_Bool (test (suc n))) (reach_far test last each (suc n) more (omega (arith, upto)))
  where
    go : (test (suc n) ≡ true) ⊎ (test (suc n) ≡ false) → last ≤ reach test (suc n) more → last ≤ reach test n (suc more)
    go (inl t) rest = omega (arith, cond-true (test (suc n)) (reach test (suc n) more) n t, rest)
    go (inr f) rest =
        let e : reach test n (suc more) ≡ n = cond-false (test (suc n)) (reach test (suc n) more) n f in
        let small : (suc n ≤ last → ⊥) = λ le. false≢true (sym f ∙ each (suc n) (omega arith) le) in
        omega (arith, e, small)

-- a reach from a number on is no less than it
pub reach_known : (test : ℕ → Bool) (top : ℕ) → ((m : ℕ) → test m ≡ true → m ≤ top) → (n more : ℕ) → n ≤ top → reach test n more ≤ top
reach_known test top known n zero le = le
reach_known test top known n (suc more) le = go (cases_Bool (test (suc n))) (reach_known test top known (suc n) more)
  where
    go : (test (suc n) ≡ true) ⊎ (test (suc n) ≡ false) → (suc n ≤ top → reach test (suc n) more ≤ top) → reach test n (suc more) ≤ top
    go (inl t) rest = omega (arith, cond-true (test (suc n)) (reach test (suc n) more) n t, rest (known (suc n) t))
    go (inr f) rest = omega (arith, cond-false (test (suc n)) (reach test (suc n) more) n f, le)
