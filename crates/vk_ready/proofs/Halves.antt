-- Slots that are counted over halves of halves.
use Rattle.std.proofs.Common.{◌≡◌, ℕ, zero, suc, ◌+◌, ◌-◌, ◌<◌, ◌≤◌, List, [], ◌∷◌, ◌++◌, length, get_or, set, take, drop, replicate, insert, remove, cond, ltb, eqb, refl, sym, ◌∙◌, ap, subst, arith, inl, inr}
use Rattle.std.proofs.lemmas.Bool.{cases_eq, cases_lt, cond-true, cond-false, lt-ltb, le-ltb}
use Rattle.std.proofs.lemmas.List.{length-set, get_or-set_same, get_or-set_other, drop-drop, drop_more, take_all}
use Rattle.std.proofs.lemmas.List.Edits.{length-insert, length-remove}
use Rattle.std.proofs.Math.Seq.{take-add}
use Rattle.std.specs.Prelude.{◌⊎◌, ◌↔◌}
use Rattle.vk_ready.specs.Slots.{Has, Rises}
use Rattle.vk_ready.specs.Halves.{count_below, middle, AreHalved, AreCounted, slots_within, slots_of, AreRanked}
use Rattle.vk_ready.proofs.Rising.{has_at, rises_below, has_inserted, rises_inserted, has_removed, rises_removed, fewer}

-- Numbers below a bound

count_low : (n : ℕ) (ns : List ℕ) (k : ℕ) → n < k → count_below (n ∷ ns) k ≡ suc (count_below ns k)
count_low n ns k lt = cond-true (ltb n k) (suc (count_below ns k)) (count_below ns k) (lt-ltb n k lt)

count_high : (n : ℕ) (ns : List ℕ) (k : ℕ) → k ≤ n → count_below (n ∷ ns) k ≡ count_below ns k
count_high n ns k le = cond-false (ltb n k) (suc (count_below ns k)) (count_below ns k) (le-ltb n k le)

pub count_none : (ns : List ℕ) (k : ℕ) → ((j : ℕ) → Has ns j → k ≤ j) → count_below ns k ≡ 0
count_none [] k up = refl
count_none (n ∷ ns) k up = count_high n ns k (up n (inl refl)) ∙ count_none ns k (λ j h. up j (inr h))

pub count_all : (ns : List ℕ) (k : ℕ) → ((j : ℕ) → Has ns j → j < k) → count_below ns k ≡ length ns
count_all [] k down = refl
count_all (n ∷ ns) k down = count_low n ns k (down n (inl refl)) ∙ ap suc (count_all ns k (λ j h. down j (inr h)))

pub count_most : (ns : List ℕ) (k : ℕ) → count_below ns k ≤ length ns
count_most [] k = omega arith
count_most (n ∷ ns) k = let most = count_most ns k in elim (cases_lt n k) [
  | inl lt ↦ let e = count_low n ns k lt in omega (arith, e, most)
  | inr le ↦ let e = count_high n ns k le in omega (arith, e, most)
]

pub count_rises : (ns : List ℕ) (j k : ℕ) → j ≤ k → count_below ns j ≤ count_below ns k
count_rises [] j k le = omega arith
count_rises (n ∷ ns) j k le = let rest = count_rises ns j k le in elim (cases_lt n j) [
  | inl lt ↦ let e = count_low n ns j lt in let e' = count_low n ns k (omega (arith, lt, le)) in omega (arith, rest, e, e')
  | inr past ↦
      let e = count_high n ns j past in
      elim (cases_lt n k) [
        | inl lt ↦ let e' = count_low n ns k lt in omega (arith, rest, e, e')
        | inr past' ↦ let e' = count_high n ns k past' in omega (arith, rest, e, e')
      ]
]

-- none is below a bound that the first is not below
count_past : (n : ℕ) (ns : List ℕ) (k : ℕ) → Rises (n ∷ ns) → k ≤ n → count_below (n ∷ ns) k ≡ 0
count_past n ns k r le = count_none (n ∷ ns) k (λ j h. elim h [ inl e ↦ omega (arith, e, le) | inr h' ↦ let above : n < j = r.0 j h' in omega (arith, above, le) ])

-- the numbers before that count are below the bound
pub at_low : (ns : List ℕ) (i k : ℕ) → Rises ns → i < count_below ns k → get_or ns i 0 < k
at_low [] i k r lt = absurd (omega arith)
at_low (n ∷ ns) zero k r lt = elim (cases_lt n k) [ inl below ↦ below | inr past ↦ let none = count_past n ns k r past in absurd (omega (arith, none, lt)) ]
at_low (n ∷ ns) (suc i) k r lt = elim (cases_lt n k) [
  | inl below ↦ let e = count_low n ns k below in at_low ns i k r.1 (omega (arith, e, lt))
  | inr past ↦ let none = count_past n ns k r past in absurd (omega (arith, none, lt))
]

-- and the others are not
pub at_high : (ns : List ℕ) (i k : ℕ) → Rises ns → count_below ns k ≤ i → i < length ns → k ≤ get_or ns i 0
at_high [] i k r le lt = absurd (omega arith)
at_high (n ∷ ns) zero k r le lt = elim (cases_lt n k) [ inl below ↦ let e = count_low n ns k below in absurd (omega (arith, e, le)) | inr past ↦ past ]
at_high (n ∷ ns) (suc i) k r le lt = elim (cases_lt n k) [
  | inl below ↦ let e = count_low n ns k below in at_high ns i k r.1 (omega (arith, e, le)) (omega arith)
  | inr past ↦ let above : n < get_or ns i 0 = r.0 (get_or ns i 0) (has_at ns i (omega arith)) in omega (arith, above, past)
]

pub at_bound : (ns : List ℕ) (i k : ℕ) → Rises ns → count_below ns k ≤ i → i < count_below ns (k + 1) → get_or ns i 0 ≡ k
at_bound ns i k r le lt =
    let most = count_most ns (k + 1) in
    let low = at_low ns i (k + 1) r lt in
    let high = at_high ns i k r le (omega (arith, most, lt)) in
    omega (arith, low, high)

-- at most one more is below the next bound
pub count_next : (ns : List ℕ) (k : ℕ) → Rises ns → count_below ns (k + 1) ≤ count_below ns k + 1
count_next ns k r = elim (cases_lt (count_below ns k + 1) (count_below ns (k + 1))) [
  | inl more ↦
      let i : ℕ = count_below ns k in
      let most = count_most ns (k + 1) in
      let one = at_bound ns i k r (omega arith) (omega (arith, more)) in
      let two = at_bound ns (i + 1) k r (omega arith) (omega (arith, more)) in
      let apart = rises_below ns r i (i + 1) (omega arith) (omega (arith, more, most)) in
      absurd (omega (arith, one, two, apart))
  | inr le ↦ le
]

-- One more number, or one less

count_inserted_low : (ns : List ℕ) (i s k : ℕ) → i ≤ length ns → s < k → count_below (insert ns i s) k ≡ count_below ns k + 1
count_inserted_low ns zero s k le lt = let e = count_low s ns k lt in omega (arith, e)
count_inserted_low [] (suc i) s k le lt = absurd (omega arith)
count_inserted_low (n ∷ ns) (suc i) s k le lt = let rest = count_inserted_low ns i s k (omega arith) lt in elim (cases_lt n k) [
  | inl below ↦ let e = count_low n ns k below in let e' = count_low n (insert ns i s) k below in omega (arith, rest, e, e')
  | inr past ↦ let e = count_high n ns k past in let e' = count_high n (insert ns i s) k past in omega (arith, rest, e, e')
]

count_inserted_high : (ns : List ℕ) (i s k : ℕ) → i ≤ length ns → k ≤ s → count_below (insert ns i s) k ≡ count_below ns k
count_inserted_high ns zero s k le high = count_high s ns k high
count_inserted_high [] (suc i) s k le high = absurd (omega arith)
count_inserted_high (n ∷ ns) (suc i) s k le high = let rest = count_inserted_high ns i s k (omega arith) high in elim (cases_lt n k) [
  | inl below ↦ let e = count_low n ns k below in let e' = count_low n (insert ns i s) k below in omega (arith, rest, e, e')
  | inr past ↦ let e = count_high n ns k past in let e' = count_high n (insert ns i s) k past in omega (arith, rest, e, e')
]

count_removed_low : (ns : List ℕ) (i k : ℕ) → i < length ns → get_or ns i 0 < k → count_below (remove ns i) k + 1 ≡ count_below ns k
count_removed_low [] i k inside lt = absurd (omega arith)
count_removed_low (n ∷ ns) zero k inside lt = let e = count_low n ns k lt in omega (arith, e)
count_removed_low (n ∷ ns) (suc i) k inside lt = let rest = count_removed_low ns i k (omega arith) lt in elim (cases_lt n k) [
  | inl below ↦ let e = count_low n ns k below in let e' = count_low n (remove ns i) k below in omega (arith, rest, e, e')
  | inr past ↦ let e = count_high n ns k past in let e' = count_high n (remove ns i) k past in omega (arith, rest, e, e')
]

count_removed_high : (ns : List ℕ) (i k : ℕ) → i < length ns → k ≤ get_or ns i 0 → count_below (remove ns i) k ≡ count_below ns k
count_removed_high [] i k inside high = absurd (omega arith)
count_removed_high (n ∷ ns) zero k inside high = sym (count_high n ns k high)
count_removed_high (n ∷ ns) (suc i) k inside high = let rest = count_removed_high ns i k (omega arith) high in elim (cases_lt n k) [
  | inl below ↦ let e = count_low n ns k below in let e' = count_low n (remove ns i) k below in omega (arith, rest, e, e')
  | inr past ↦ let e = count_high n ns k past in let e' = count_high n (remove ns i) k past in omega (arith, rest, e, e')
]

-- the numbers up to a slot are the same, and of those above it there is one more or one less
pub record IsMoved (slots slots' : List ℕ) (slot : ℕ) : Type 0 where
  pub before : (k : ℕ) → k ≤ slot → count_below slots' k ≡ count_below slots k
  pub after : (j k : ℕ) → slot < j → slot < k → count_below slots' j + count_below slots k ≡ count_below slots j + count_below slots' k

pub moved_in : (slots : List ℕ) (i slot : ℕ) → i ≤ length slots → IsMoved slots (insert slots i slot) slot
moved_in slots i slot le = record {
  before = λ k high. count_inserted_high slots i slot k le high;
  after = λ j k j_low k_low. let one = count_inserted_low slots i slot j le j_low in let two = count_inserted_low slots i slot k le k_low in omega (arith, one, two);
}

pub moved_out : (slots : List ℕ) (i : ℕ) → i < length slots → IsMoved slots (remove slots i) (get_or slots i 0)
moved_out slots i lt = record {
  before = λ k high. count_removed_high slots i k lt high;
  after = λ j k j_low k_low. let one = count_removed_low slots i j lt j_low in let two = count_removed_low slots i k lt k_low in omega (arith, one, two);
}

pub one_more : (slots : List ℕ) (i slot low mid half : ℕ) → i ≤ length slots → low ≤ slot → slot < mid → count_below slots low + half ≡ count_below slots mid → count_below (insert slots i slot) low + (half + 1) ≡ count_below (insert slots i slot) mid
one_more slots i slot low mid half le from lt e =
    let one = count_inserted_high slots i slot low le from in
    let two = count_inserted_low slots i slot mid le lt in
    omega (arith, e, one, two)

pub one_less : (slots : List ℕ) (i low mid half : ℕ) → i < length slots → low ≤ get_or slots i 0 → get_or slots i 0 < mid → count_below slots low + half ≡ count_below slots mid → count_below (remove slots i) low + (half - 1) ≡ count_below (remove slots i) mid
one_less slots i low mid half inside from lt e =
    let one = count_removed_high slots i low inside from in
    let two = count_removed_low slots i mid inside lt in
    let few = count_rises (remove slots i) low mid (omega (arith, from, lt)) in
    omega (arith, e, one, two, few)

-- The way down to a slot

pub middle_within : (low high : ℕ) → 1 < high - low → (low < middle low high) × (middle low high < high)
middle_within low high wide = (omega arith, omega arith)

-- halves that count the same
same_halves : (halves halves' slots slots' : List ℕ) (often low high : ℕ) → ((k : ℕ) → low < k → k < high → get_or halves' k 0 ≡ get_or halves k 0)
    → ((j k : ℕ) → low ≤ j → j ≤ high → low ≤ k → k ≤ high → count_below slots' j + count_below slots k ≡ count_below slots j + count_below slots' k) → AreHalved halves slots often low high → AreHalved halves' slots' often low high
same_halves halves halves' slots slots' zero low high same counts h = tt
same_halves halves halves' slots slots' (suc often) low high same counts h = λ wide.
    let at : ℕ = middle low high in
    let within : (low < at) × (at < high) = middle_within low high wide in
    let was = h wide in
    let half = same at within.0 within.1 in
    let count = counts low at (omega arith) (omega (arith, within)) (omega (arith, within)) (omega (arith, within)) in
    let first = was.0 in (
      omega (arith, half, count, first),
      same_halves halves halves' slots slots' often low at (λ k from to. same k from (omega (arith, to, within))) (λ j k a b c d. counts j k a (omega (arith, b, within)) c (omega (arith, d, within))) was.1,
      same_halves halves halves' slots slots' often at high (λ k from to. same k (omega (arith, from, within)) to) (λ j k a b c d. counts j k (omega (arith, a, within)) b (omega (arith, c, within)) d) was.2,
    )

-- the lists differ only between two places
pub record AreSameOutside (halves halves' : List ℕ) (low high : ℕ) : Type 0 where
  pub before : (k : ℕ) → k ≤ low → get_or halves' k 0 ≡ get_or halves k 0
  pub after : (k : ℕ) → high ≤ k → get_or halves' k 0 ≡ get_or halves k 0

-- The slot lies in the part, which still counts the old slots. Once it counts the new ones, all parts do.
pub record IsWalked (slots slots' : List ℕ) (slot room : ℕ) (halves : List ℕ) (low high : ℕ) : Type 0 where
  pub size : length halves ≡ room
  pub from : low ≤ slot
  pub to : slot < high
  pub fits : high ≤ room
  pub counted : AreCounted halves slots low high
  pub rest : (halves' : List ℕ) → AreSameOutside halves halves' low high → AreCounted halves' slots' low high → AreCounted halves' slots' 0 room

module _ (slots slots' : List ℕ) (slot room : ℕ) where
  pub walk_begins : (halves : List ℕ) (high : ℕ) → length halves ≡ room → high ≡ room → slot < room → AreCounted halves slots 0 (length halves) → IsWalked slots slots' slot room halves 0 high
  walk_begins halves high size all inside counted = record {
    size = size;
    from = omega arith;
    to = omega (arith, all, inside);
    fits = omega (arith, all);
    counted = subst (AreCounted halves slots 0) (size ∙ sym all) counted;
    rest = λ halves' same counted'. subst (AreCounted halves' slots' 0) all counted';
  }

  narrow : (halves : List ℕ) (low high : ℕ) → high - low ≤ 1 → AreCounted halves slots' low high
  narrow halves low high small zero = tt
  narrow halves low high small (suc often) = λ wide. absurd (omega (arith, small, wide))

  pub walk_ends : (halves : List ℕ) (low high : ℕ) → IsWalked slots slots' slot room halves low high → high - low ≤ 1 → AreCounted halves slots' 0 room
  walk_ends halves low high w small = w.rest halves (record { before = λ k le. refl; after = λ k le. refl }) (narrow halves low high small)

  module _ (moved : IsMoved slots slots' slot) (halves : List ℕ) (low high : ℕ) (w : IsWalked slots slots' slot room halves low high) (wide : 1 < high - low) where
    abbrev at : ℕ
    at = middle low high

    within : (low < at) × (at < high)
    within = middle_within low high wide

    pub half_is : count_below slots low + get_or halves at 0 ≡ count_below slots at
    half_is = (w.counted 1 wide).0

    -- into the first half, which has one more or one less
    module _ (value : ℕ) (before_middle : slot < at) (value_is : count_below slots' low + value ≡ count_below slots' at) where
      abbrev written : List ℕ
      written = set halves at value

      there : (k : ℕ) → (k ≡ at → ⊥) → get_or written k 0 ≡ get_or halves k 0
      there k ne = get_or-set_other halves at k value 0 ne

      here : get_or written at 0 ≡ value
      here = let size = w.size in let fits = w.fits in get_or-set_same halves at value 0 (omega (arith, size, fits, within))

      first_counted : AreCounted written slots low at
      first_counted often = same_halves halves written slots slots often low at (λ k from to. there k (omega (arith, to))) (λ j k a b c d. omega arith) ((w.counted (suc often) wide).1)

      first_rest : (halves' : List ℕ) → AreSameOutside written halves' low at → AreCounted halves' slots' low at → (often : ℕ) → AreHalved halves' slots' often low high
      first_rest halves' same counted zero = tt
      first_rest halves' same counted (suc often) = λ _. (
        (let value_at : get_or halves' at 0 ≡ value = same.after at (omega arith) ∙ here in omega (arith, value_at, value_is)),
        counted often,
        same_halves halves halves' slots slots' often at high (λ k from to. same.after k (omega (arith, from)) ∙ there k (omega (arith, from)))
            (λ j k a b c d. moved.after j k (omega (arith, a, before_middle)) (omega (arith, c, before_middle))) ((w.counted (suc often) wide).2),
      )

      pub walk_first : IsWalked slots slots' slot room written low at
      walk_first = record {
        size = length-set halves at value ∙ w.size;
        from = w.from;
        to = before_middle;
        fits = let fits = w.fits in omega (arith, fits, within);
        counted = first_counted;
        rest = λ halves' same counted. w.rest halves' (record {
          before = λ k le. same.before k le ∙ there k (omega (arith, le, within));
          after = λ k le. same.after k (omega (arith, le, within)) ∙ there k (omega (arith, le, within));
        }) (first_rest halves' same counted);
      }

    -- into the second half
    module _ (from_middle : at ≤ slot) where
      second_rest : (halves' : List ℕ) → AreSameOutside halves halves' at high → AreCounted halves' slots' at high → (often : ℕ) → AreHalved halves' slots' often low high
      second_rest halves' same counted zero = tt
      second_rest halves' same counted (suc often) = λ _. (
        (let from = w.from in
            let half = same.before at (omega arith) in
            let one = moved.before low from in
            let two = moved.before at from_middle in
            let was = half_is in
            omega (arith, half, one, two, was)),
        same_halves halves halves' slots slots' often low at (λ k from to. same.before k (omega (arith, to)))
            (λ j k a b c d. let one = moved.before j (omega (arith, b, from_middle)) in let two = moved.before k (omega (arith, d, from_middle)) in omega (arith, one, two)) ((w.counted (suc often) wide).1),
        counted often,
      )

      pub walk_second : IsWalked slots slots' slot room halves at high
      walk_second = record {
        size = w.size;
        from = from_middle;
        to = w.to;
        fits = w.fits;
        counted = λ often. (w.counted (suc often) wide).2;
        rest = λ halves' same counted. w.rest halves' (record {
          before = λ k le. same.before k (omega (arith, le, within));
          after = same.after;
        }) (second_rest halves' same counted);
      }

-- The slots are those that are counted.

one_slot : (slots : List ℕ) (low count : ℕ) → Rises slots → count_below slots low + count ≡ count_below slots (low + 1) → cond (eqb count 0) [] (low ∷ []) ≡ take count (drop (count_below slots low) slots)
one_slot slots low zero r e = refl
one_slot slots low (suc zero) r e =
    let b : ℕ = count_below slots low in
    let most = count_most slots (low + 1) in
    let is : get_or slots b 0 ≡ low = at_bound slots b low r (omega arith) (omega (arith, e)) in
    sym (ap (take 1) (drop_more slots b 0 (omega (arith, e, most))) ∙ ap (λ n. n ∷ []) is)
one_slot slots low (suc (suc n)) r e = let next = count_next slots low r in absurd (omega (arith, e, next))

few_slots : (slots : List ℕ) (low high count : ℕ) → Rises slots → low ≤ high → high - low ≤ 1 → count_below slots low + count ≡ count_below slots high → cond (eqb count 0) [] (low ∷ []) ≡ take count (drop (count_below slots low) slots)
few_slots slots low high count r le small e = elim (cases_eq high low) [
  | inl same ↦
      let both = ap (count_below slots) same in
      let none : 0 ≡ count = omega (arith, e, both) in
      subst (λ n. cond (eqb n 0) [] (low ∷ []) ≡ take n (drop (count_below slots low) slots)) none refl
  | inr ne ↦ let next : high ≡ low + 1 = omega (arith, le, small, ne) in one_slot slots low count r (e ∙ ap (count_below slots) next)
]

joined : (slots : List ℕ) (from half count : ℕ) → half ≤ count → take half (drop from slots) ++ take (count - half) (drop (from + half) slots) ≡ take count (drop from slots)
joined slots from half count le =
    let all : half + (count - half) ≡ count = omega (arith, le) in
    ap (λ l. take half (drop from slots) ++ take (count - half) l) (sym (drop-drop half from slots)) ∙ sym (take-add half (count - half) (drop from slots)) ∙ ap (λ n. take n (drop from slots)) all

slots_are : (halves slots : List ℕ) → Rises slots → (often low high count : ℕ) → low ≤ high → high - low ≤ often → AreHalved halves slots often low high → count_below slots low + count ≡ count_below slots high
    → slots_within halves often low high count ≡ take count (drop (count_below slots low) slots)
slots_are halves slots r zero low high count le deep h e =
    let same : high ≡ low = omega (arith, le, deep) in
    let both = ap (count_below slots) same in
    let none : 0 ≡ count = omega (arith, e, both) in
    ap (λ n. take n (drop (count_below slots low) slots)) none
slots_are halves slots r (suc often) low high count le deep h e = elim (cases_lt 1 (high - low)) [
  | inl wide ↦
      let at : ℕ = middle low high in
      let half : ℕ = get_or halves at 0 in
      let within : (low < at) × (at < high) = middle_within low high wide in
      let was = h wide in
      let half_is : count_below slots low + half ≡ count_below slots at = was.0 in
      let more : count_below slots at ≤ count_below slots high = count_rises slots at high (omega (arith, within)) in
      let first = slots_are halves slots r often low at half (omega (arith, within)) (omega (arith, within, deep)) was.1 half_is in
      let second = slots_are halves slots r often at high (count - half) (omega (arith, within)) (omega (arith, within, deep)) was.2 (omega (arith, half_is, more, e)) in
      cond-true (ltb 1 (high - low)) (slots_within halves often low at half ++ slots_within halves often at high (count - half)) (cond (eqb count 0) [] (low ∷ [])) (lt-ltb 1 (high - low) wide)
      ∙ ap (λ l. l ++ slots_within halves often at high (count - half)) first
      ∙ ap (λ l. take half (drop (count_below slots low) slots) ++ l) (second ∙ ap (λ n. take (count - half) (drop n slots)) (sym half_is))
      ∙ joined slots (count_below slots low) half count (omega (arith, half_is, more, e))
  | inr small ↦
      let at : ℕ = middle low high in
      let half : ℕ = get_or halves at 0 in
      cond-false (ltb 1 (high - low)) (slots_within halves often low at half ++ slots_within halves often at high (count - half)) (cond (eqb count 0) [] (low ∷ [])) (le-ltb 1 (high - low) small)
      ∙ few_slots slots low high count r le small e
]

-- the counts and the number of slots tell which they are
pub ranked_slots : (halves : List ℕ) (count : ℕ) (slots : List ℕ) → AreRanked halves count slots → slots_of halves count ≡ slots
ranked_slots halves count slots a =
    let none = count_none slots 0 (λ j h. omega arith) in
    let all = count_all slots (length halves) a.inside in
    let size = a.size in
    slots_are halves slots a.rises (length halves) 0 (length halves) count (omega arith) (omega arith) (a.counted (length halves)) (omega (arith, none, all, size))
    ∙ ap (λ n. take count (drop n slots)) none
    ∙ take_all count slots (omega (arith, size))

pub ranked_again : (halves : List ℕ) (count : ℕ) (slots : List ℕ) → AreRanked halves count slots → AreRanked halves count (slots_of halves count)
ranked_again halves count slots a = subst (AreRanked halves count) (sym (ranked_slots halves count slots a)) a

-- No slot

zeros : (n k : ℕ) → get_or (replicate {A = ℕ} n 0) k 0 ≡ 0
zeros zero k = refl
zeros (suc n) zero = refl
zeros (suc n) (suc k) = zeros n k

nothing_counted : (halves : List ℕ) → ((k : ℕ) → get_or halves k 0 ≡ 0) → (often low high : ℕ) → AreHalved halves [] often low high
nothing_counted halves none zero low high = tt
nothing_counted halves none (suc often) low high = λ _. (omega (arith, none (middle low high)), nothing_counted halves none often low (middle low high), nothing_counted halves none often (middle low high) high)

pub ranked_nothing : (halves : List ℕ) (room : ℕ) → halves ≡ replicate room 0 → AreRanked halves 0 []
ranked_nothing halves room is = record {
  rises = tt;
  inside = λ k h. absurd h;
  size = refl;
  counted = λ often. nothing_counted halves (λ k. ap (λ l. get_or l k 0) is ∙ zeros room k) often 0 (length halves);
}

-- One more slot

module _ (halves : List ℕ) (count : ℕ) (slots : List ℕ) (a : AreRanked halves count slots) (slot : ℕ) (inside : slot < length halves) (new : Has slots slot → ⊥) where
  abbrev pub offered : List ℕ
  offered = insert slots (count_below slots slot) slot

  pub few_slots_yet : length slots < length halves
  few_slots_yet = let few = fewer slots 0 (length halves) slot a.rises (λ k h. (omega arith, a.inside k h)) (omega arith) inside new in omega (arith, few)

  pub has_offered : (k : ℕ) → Has offered k ↔ ((k ≡ slot) ⊎ Has slots k)
  has_offered k = has_inserted slots (count_below slots slot) slot k (count_most slots slot)

  offered_rises : Rises offered
  offered_rises = rises_inserted slots (count_below slots slot) slot a.rises (count_most slots slot) (λ k lt. at_low slots k slot a.rises lt)
      (λ k le lt.
      let high = at_high slots k slot a.rises le lt in
      elim (cases_eq slot (get_or slots k 0)) [ inl same ↦ absurd (new (subst (Has slots) (sym same) (has_at slots k lt))) | inr ne ↦ omega (arith, high, ne) ])

  pub ranked_offered : (halves' : List ℕ) (low high count' : ℕ) → IsWalked slots offered slot (length halves) halves' low high → high - low ≤ 1 → count' ≡ count → AreRanked halves' (count' + 1) offered
  ranked_offered halves' low high count' w small same = record {
    rises = offered_rises;
    inside = λ k h. let size = w.size in elim ((has_offered k).0 h) [ inl e ↦ omega (arith, e, inside, size) | inr old ↦ let lt = a.inside k old in omega (arith, lt, size) ];
    size = let longer = length-insert slots (count_below slots slot) slot (count_most slots slot) in let was = a.size in omega (arith, longer, was, same);
    counted = subst (AreCounted halves' offered 0) (sym w.size) (walk_ends slots offered slot (length halves) halves' low high w small);
  }

-- One slot less

module _ (halves : List ℕ) (count : ℕ) (slots : List ℕ) (a : AreRanked halves count slots) (number : ℕ) (inside : number < length slots) where
  pub slot_inside : get_or slots number 0 < length halves
  slot_inside = a.inside (get_or slots number 0) (has_at slots number inside)

  pub ranked_withdrawn : (halves' : List ℕ) (low high count' : ℕ) → IsWalked slots (remove slots number) (get_or slots number 0) (length halves) halves' low high → high - low ≤ 1 → count' ≡ count → AreRanked halves' (count' - 1) (remove slots number)
  ranked_withdrawn halves' low high count' w small same = record {
    rises = rises_removed slots number a.rises inside;
    inside = λ k h. let size = w.size in let lt = a.inside k ((has_removed slots number k a.rises inside).0 h).1 in omega (arith, lt, size);
    size = let shorter = length-remove slots number inside in let was = a.size in omega (arith, shorter, was, same);
    counted = subst (AreCounted halves' (remove slots number) 0) (sym w.size) (walk_ends slots (remove slots number) (get_or slots number 0) (length halves) halves' low high w small);
  }
