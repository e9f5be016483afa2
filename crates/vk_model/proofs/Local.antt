-- Items find only what they touch and change only what they write, so items without a clash commute.
use Rattle.std.proofs.Common.{◌≡◌, ℕ, ◌<◌, ◌≤◌, List, [], ◌∷◌, Bool, true, false, cond, eqb, refl, sym, ◌∙◌, ap, arith, inl, inr}
use mathlib.Core.Path.{fun_ext}
use Rattle.std.specs.Prelude.{◌&&◌, ◌||◌, ◌⊎◌, nat_lt, nat_le, min, max}
use Rattle.std.specs.List.{list_any}
use Rattle.std.proofs.lemmas.Bool.{cases_Bool, eqb-true, eq-eqb, ltb-true, leb-true, lt-ltb, and_parts, and_from, or_left, or_right, or_cases, false_from_ne_true, both_ways}
use Rattle.vk_types.specs.declared.handles.Kind.{Kind}
use Rattle.vk_model.specs.Log.{Item, Range, ranges, clash, some_clash}
use Rattle.cells.specs.Contents.{UNDEFINED}
use Rattle.vk_model.specs.Cells.{Contents}
use Rattle.vk_model.specs.Meaning.{covers, is_touched, is_written, found, apply, item_cell}

-- two elements that pass tests of their own pass a test of both
pub any_two : {X : Type 0} (p q : X → Bool) (t : X → X → Bool) → ((x y : X) → p x ≡ true → q y ≡ true → t x y ≡ true) → (xs ys : List X) → list_any p xs ≡ true → list_any q ys ≡ true → list_any (λ x. list_any (t x) ys) xs ≡ true
any_two p q t both [] ys one other = one
any_two {X} p q t both (x ∷ xs) ys one other = go (or_cases (p x) (list_any p xs) one) (λ rest. any_two p q t both xs ys rest other)
  where
    at_head : p x ≡ true → (ys : List X) → list_any q ys ≡ true → list_any (t x) ys ≡ true
    at_head e [] other = other
    at_head e (y ∷ ys) other = elim (or_cases (q y) (list_any q ys) other) [ inl f ↦ or_left (t x y) (list_any (t x) ys) (both x y e f) | inr f ↦ or_right (t x y) (list_any (t x) ys) (at_head e ys f) ]

    go : (p x ≡ true) ⊎ (list_any p xs ≡ true) → (list_any p xs ≡ true → list_any (λ x. list_any (t x) ys) xs ≡ true) → list_any (λ x. list_any (t x) ys) (x ∷ xs) ≡ true
    go (inl e) rest = or_left (list_any (t x) ys) (list_any (λ x. list_any (t x) ys) xs) (at_head e ys other)
    go (inr e) rest = or_right (list_any (t x) ys) (list_any (λ x. list_any (t x) ys) xs) (rest e)

-- what a range covers
record Covered (id i : ℕ) (r : Range) : Type 0 where
  same : r.id ≡ id
  from : r.start ≤ i
  below : i < r.end

covered : (id i : ℕ) (r : Range) → covers id i r ≡ true → Covered id i r
covered id i r e =
    let parts = and_parts ((eqb r.id id) && (nat_le r.start i)) (nat_lt i r.end) e in
    let front = and_parts (eqb r.id id) (nat_le r.start i) parts.0 in
    record { same = eqb-true r.id id front.0; from = leb-true r.start i front.1; below = ltb-true i r.end parts.1 }

clash_from : (id i : ℕ) (r s : Range) → Covered id i r → Covered id i s → (r.written || s.written) ≡ true → clash r s ≡ true
clash_from id i r s cr cs w =
    and_from (eqb r.id s.id && nat_lt (max r.start s.start) (min r.end s.end)) (r.written || s.written)
    (and_from (eqb r.id s.id) (nat_lt (max r.start s.start) (min r.end s.end)) (eq-eqb r.id s.id (cr.same ∙ sym cs.same)) (lt-ltb (max r.start s.start) (min r.end s.end) (omega arith)))
    w

pub same_object : (r s : Range) → clash r s ≡ true → r.id ≡ s.id
same_object r s e = eqb-true r.id s.id (and_parts (eqb r.id s.id) (nat_lt (max r.start s.start) (min r.end s.end)) (and_parts (eqb r.id s.id && nat_lt (max r.start s.start) (min r.end s.end)) (r.written || s.written) e).0).0

-- what the one writes the other doesn't touch
pub record AreApart (x y : Item) : Type 0 where
  pub first : (id i : ℕ) → is_written x id i ≡ true → is_touched y id i ≡ false
  pub second : (id i : ℕ) → is_written y id i ≡ true → is_touched x id i ≡ false

pub apart_by_ranges : (x y : Item) → some_clash (ranges x) (ranges y) ≡ false → AreApart x y
apart_by_ranges x y none = record {
  first = λ id i w. false_from_ne_true (is_touched y id i) (λ t. both_ways (some_clash (ranges x) (ranges y)) none (any_two (λ r. r.written && covers id i r) (covers id i) clash (λ r s e f. let parts = and_parts r.written (covers id i r) e in clash_from id i r s (covered id i r parts.1) (covered id i s f) (or_left r.written s.written parts.0)) (ranges x) (ranges y) w t));
  second = λ id i w. false_from_ne_true (is_touched x id i) (λ t. both_ways (some_clash (ranges x) (ranges y)) none (any_two (covers id i) (λ s. s.written && covers id i s) clash (λ r s e f. let parts = and_parts s.written (covers id i s) f in clash_from id i r s (covered id i r e) (covered id i s parts.1) (or_right r.written s.written parts.0)) (ranges x) (ranges y) t w));
}

-- what is written is touched
pub touched_from_written : (x : Item) (id i : ℕ) → is_written x id i ≡ true → is_touched x id i ≡ true
touched_from_written x id i = go (ranges x)
  where
    go : (rs : List Range) → list_any (λ r. r.written && covers id i r) rs ≡ true → list_any (covers id i) rs ≡ true
    go [] e = e
    go (r ∷ rs) e = elim (or_cases (r.written && covers id i r) (list_any (λ r. r.written && covers id i r) rs) e) [ inl f ↦ or_left (covers id i r) (list_any (covers id i) rs) (and_parts r.written (covers id i r) f).1 | inr f ↦ or_right (covers id i r) (list_any (covers id i) rs) (go rs f) ]

pub unwritten_from_untouched : (x : Item) (id i : ℕ) → is_touched x id i ≡ false → is_written x id i ≡ false
unwritten_from_untouched x id i e = false_from_ne_true (is_written x id i) (λ w. both_ways (is_touched x id i) e (touched_from_written x id i w))

-- contents that agree where an item touches are the same to it
pub found_same : (x : Item) (c d : Contents) → ((id i : ℕ) → is_touched x id i ≡ true → c id i ≡ d id i) → found x c ≡ found x d
found_same x c d same = fun_ext (λ id. fun_ext (λ i. go id i (is_touched x id i) refl))
  where
    go : (id i : ℕ) (b : Bool) → is_touched x id i ≡ b → cond b (c id i) UNDEFINED ≡ cond b (d id i) UNDEFINED
    go id i true e = same id i e
    go id i false e = refl

module _ (kinds : ℕ → Kind) where
  -- where an item doesn't write it changes nothing
  pub after_unwritten : (x : Item) (c : Contents) (id i : ℕ) → is_written x id i ≡ false → apply kinds x c id i ≡ c id i
  after_unwritten x c id i e = ap (λ b. cond b (item_cell kinds x (found x c) id i) (c id i)) e

  pub after_written : (x : Item) (c : Contents) (id i : ℕ) → is_written x id i ≡ true → apply kinds x c id i ≡ item_cell kinds x (found x c) id i
  after_written x c id i e = ap (λ b. cond b (item_cell kinds x (found x c) id i) (c id i)) e

  -- what an item finds is not changed by one apart from it
  pub found_after : (x y : Item) (c : Contents) → AreApart x y → found x (apply kinds y c) ≡ found x c
  found_after x y c apart = found_same x (apply kinds y c) c (λ id i t. after_unwritten y c id i (false_from_ne_true (is_written y id i) (λ w. both_ways (is_touched x id i) (apart.second id i w) t)))

  -- items apart from one another commute
  pub after_commutes : (x y : Item) (c : Contents) → AreApart x y → apply kinds x (apply kinds y c) ≡ apply kinds y (apply kinds x c)
  after_commutes x y c apart = fun_ext (λ id. fun_ext (λ i. go id i (cases_Bool (is_written x id i)) (cases_Bool (is_written y id i))))
    where
      back : AreApart y x
      back = record { first = apart.second; second = apart.first }

      go : (id i : ℕ) → (is_written x id i ≡ true) ⊎ (is_written x id i ≡ false) → (is_written y id i ≡ true) ⊎ (is_written y id i ≡ false) → apply kinds x (apply kinds y c) id i ≡ apply kinds y (apply kinds x c) id i
      go id i (inl wx) wy =
          let not_y : is_written y id i ≡ false = unwritten_from_untouched y id i (apart.first id i wx) in
          after_written x (apply kinds y c) id i wx ∙ ap (λ f. item_cell kinds x f id i) (found_after x y c apart) ∙ sym (after_written x c id i wx) ∙ sym (after_unwritten y (apply kinds x c) id i not_y)
      go id i (inr wx) (inl wy) = after_unwritten x (apply kinds y c) id i wx ∙ after_written y c id i wy ∙ sym (ap (λ f. item_cell kinds y f id i) (found_after y x c back)) ∙ sym (after_written y (apply kinds x c) id i wy)
      go id i (inr wx) (inr wy) = after_unwritten x (apply kinds y c) id i wx ∙ after_unwritten y c id i wy ∙ sym (after_unwritten x c id i wx) ∙ sym (after_unwritten y (apply kinds x c) id i wy)
