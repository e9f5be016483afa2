-- A word that is read is a spelling of its value, and a spelling is read.
use Rattle.std.proofs.Common.{◌≡◌, ℕ, zero, suc, ℤ, pos, negsuc, ◌-◌, ◌<◌, ◌≤◌, ◌^◌, ◌⊎◌, Bool, true, false, not, cond, eqb, ltb, leb, ◌&&◌, ◌||◌, List, [], ◌∷◌, length, get_or, Option, Some, None, refl, sym, ap, subst, ◌∙◌, arith, inl, inr}
use Rattle.std.specs.Prelude.{neg_ℤ, option_and_then}
use Rattle.std.specs.Option.{option_map}
use Rattle.std.specs.List.{list_all}
use Rattle.std.specs.Char.{is_ascii_digit}
use Rattle.std.specs.Str.{bytes_eq}
use Rattle.std.specs.Str.Parse.{digits_value}
use Rattle.std.specs.Fmt.{decimal}
use Rattle.std.proofs.lemmas.Bool.{and_parts, and_from, eqb-true, eq-eqb, ne_eqb, ltb-true, lt-ltb, leb-true, le-leb}
use Rattle.std.proofs.lemmas.Option.{cond_some}
use Rattle.std.proofs.lemmas.Slice.Eq.{bytes_eq-Decides}
use Rattle.std.proofs.lemmas.Fmt.{decimal-digits_value, digits_decimal, digits_value-decimal, decimal_nonempty, first_decimal, decimal_digit}
use Rattle.trace_words.specs.Numbers.{is_decimal, decimal_of, number_of, signed_of}
use Rattle.trace_words.specs.Tables.{meaning}
use Rattle.trace_text.specs.Spelling.{StandsFor, IsNumber, IsSigned}
use Rattle.trace_words.proofs.NumberLaws.{model}
use Rattle.trace_text.proofs.Steps.{map_some}

-- ---- numbers

or_left : (x y : Bool) → (not x || y) ≡ true → x ≡ true → y ≡ true
or_left true y e h = e
or_left false y e h = absurd cc

or_from : (x y : Bool) → (x ≡ true → y ≡ true) → (not x || y) ≡ true
or_from true y h = h refl
or_from false y h = refl

pub is_decimal_parts : (word : List ℕ) → is_decimal word ≡ true → (list_all is_ascii_digit word ≡ true) × (0 < length word) × (get_or word 0 0 ≡ 48 → length word ≡ 1)
is_decimal_parts [] e = absurd cc
is_decimal_parts (c ∷ cs) e =
    let p = and_parts (list_all is_ascii_digit (c ∷ cs)) (not (eqb c 48) || eqb (length cs) 0) e in
    (p.0, omega arith, λ zero_first. ap suc (eqb-true (length cs) 0 (or_left (eqb c 48) (eqb (length cs) 0) p.1 (eq-eqb c 48 zero_first))))

pub is_decimal_from : (word : List ℕ) → list_all is_ascii_digit word ≡ true → 0 < length word → (get_or word 0 0 ≡ 48 → length word ≡ 1) → is_decimal word ≡ true
is_decimal_from [] all some h = absurd (omega arith)
is_decimal_from (c ∷ cs) all some h =
    and_from (list_all is_ascii_digit (c ∷ cs)) (not (eqb c 48) || eqb (length cs) 0) all (or_from (eqb c 48) (eqb (length cs) 0) (λ e. let one : length (c ∷ cs) ≡ 1 = h (eqb-true c 48 e) in eq-eqb (length cs) 0 (omega arith)))

pub decimal_takes : (word : List ℕ) (n : ℕ) → decimal_of word ≡ Some n → (word ≡ decimal n) × (n < 2 ^ 64)
unfolding decimal_of
decimal_takes word n e =
    let g = cond_some (is_decimal word && ltb (digits_value 10 word) (2 ^ 64)) (digits_value 10 word) n e in
    let p = and_parts (is_decimal word) (ltb (digits_value 10 word) (2 ^ 64)) g.0 in
    let q = is_decimal_parts word p.0 in
    let small : digits_value 10 word < 2 ^ 64 = ltb-true _ _ p.1 in
    (sym (decimal-digits_value model word q.0 q.1 q.2 small) ∙ ap decimal g.1, omega (arith, small, g.1))

zero_alone : (n : ℕ) → n < 2 ^ 64 → get_or (decimal n) 0 0 ≡ 48 → length (decimal n) ≡ 1
zero_alone zero lt e = ap length (decimal_digit 0 (omega arith))
zero_alone (suc n) lt e = absurd (omega (arith, first_decimal (suc n) (omega arith) lt))

pub decimal_is_decimal : (n : ℕ) → n < 2 ^ 64 → is_decimal (decimal n) ≡ true
decimal_is_decimal n lt = is_decimal_from (decimal n) (digits_decimal model n lt) (decimal_nonempty n lt) (zero_alone n lt)

pub decimal_again : (n : ℕ) → n < 2 ^ 64 → decimal_of (decimal n) ≡ Some n
unfolding decimal_of
decimal_again n lt =
    let d : is_decimal (decimal n) ≡ true = is_decimal_from (decimal n) (digits_decimal model n lt) (decimal_nonempty n lt) (zero_alone n lt) in
    rw (d, digits_value-decimal model n lt, lt-ltb n (2 ^ 64) lt) refl

pub number_takes : (low high : ℕ) (word : List ℕ) (n : ℕ) → number_of low high word ≡ Some n → IsNumber low high word n
unfolding number_of
number_takes low high word n e = go (decimal_of word) refl e
  where
    go : (d : Option ℕ) → decimal_of word ≡ d → option_and_then (λ m. cond (leb low m && leb m high) (Some m) None) d ≡ Some n → IsNumber low high word n
    go None is e = absurd cc
    go (Some m) is e =
        let g = cond_some (leb low m && leb m high) m n e in
        let p = and_parts (leb low m) (leb m high) g.0 in
        let t = decimal_takes word n (is ∙ ap (λ (x : ℕ). Some x) g.1) in
        (t.0, omega (arith, leb-true _ _ p.0, g.1), omega (arith, leb-true _ _ p.1, g.1))

pub number_again : (low high : ℕ) (word : List ℕ) (n : ℕ) → high < 2 ^ 64 → IsNumber low high word n → number_of low high word ≡ Some n
unfolding number_of
number_again low high word n small h =
    let d : decimal_of word ≡ Some n = ap decimal_of h.0 ∙ decimal_again n (omega (arith, h.2)) in
    rw (d, le-leb low n h.1, le-leb n high h.2) refl

-- ---- tables

bytes_same : (xs ys : List ℕ) → bytes_eq xs ys ≡ true → xs ≡ ys
bytes_same xs ys e = (bytes_eq-Decides xs ys).0 e

first_or_other : {T : Type 0} (entry : List ℕ × T) (others : List (List ℕ × T)) (word : List ℕ) (x : T) (b : Bool) → bytes_eq entry.0 word ≡ b → (meaning others word ≡ Some x → StandsFor others word x)
    → cond b (Some entry.1) (meaning others word) ≡ Some x → ((word ≡ entry.0) × (x ≡ entry.1)) ⊎ StandsFor others word x
first_or_other entry others word x true is later e = inl (sym (bytes_same entry.0 word is), cc)
first_or_other entry others word x false is later e = inr (later e)

pub meaning_takes : {T : Type 0} (table : List (List ℕ × T)) (word : List ℕ) (x : T) → meaning table word ≡ Some x → StandsFor table word x
meaning_takes [] word x e = absurd cc
meaning_takes (entry ∷ others) word x e = first_or_other entry others word x (bytes_eq entry.0 word) refl (meaning_takes others word x) e

-- No word of the table stands in it twice.
abbrev pub is_among : {T : Type 0} → List (List ℕ × T) → List ℕ → Bool
is_among [] word = false
is_among (entry ∷ others) word = bytes_eq entry.0 word || is_among others word

abbrev pub are_distinct : {T : Type 0} → List (List ℕ × T) → Bool
are_distinct [] = true
are_distinct (entry ∷ others) = not (is_among others entry.0) && are_distinct others

same_bytes : (xs ys : List ℕ) → xs ≡ ys → bytes_eq xs ys ≡ true
same_bytes xs ys e = (bytes_eq-Decides xs ys).1 e

or_parts : (x y : Bool) → (x || y) ≡ false → (x ≡ false) × (y ≡ false)
or_parts true y e = absurd cc
or_parts false y e = (refl, e)

not_true : (x : Bool) → not x ≡ true → x ≡ false
not_true true e = absurd cc
not_true false e = refl

-- a word that stands for something in a table stands in it
stands_among : {T : Type 0} (table : List (List ℕ × T)) (word : List ℕ) (x : T) → StandsFor table word x → is_among table word ≡ false → ⊥
stands_among [] word x h e = h
stands_among (entry ∷ others) word x (inl same) e =
    let p = or_parts (bytes_eq entry.0 word) (is_among others word) e in
    let t = same_bytes entry.0 word (sym same.0) in absurd cc
stands_among (entry ∷ others) word x (inr later) e =
    let p = or_parts (bytes_eq entry.0 word) (is_among others word) e in
    stands_among others word x later p.1

later_word : {T : Type 0} (entry : List ℕ × T) (others : List (List ℕ × T)) (word : List ℕ) (x : T) (b : Bool) → bytes_eq entry.0 word ≡ b → is_among others entry.0 ≡ false → StandsFor others word x → meaning others word ≡ Some x → cond b (Some entry.1) (meaning others word) ≡ Some x
later_word entry others word x true is fresh later e =
    absurd (stands_among others entry.0 x (subst (λ (w : List ℕ). StandsFor others w x) (sym (bytes_same entry.0 word is)) later) fresh)
later_word entry others word x false is fresh later e = e

pub meaning_again : {T : Type 0} (table : List (List ℕ × T)) (word : List ℕ) (x : T) → are_distinct table ≡ true → StandsFor table word x → meaning table word ≡ Some x
meaning_again [] word x d h = absurd h
meaning_again (entry ∷ others) word x d (inl same) = rw (same_bytes entry.0 word (sym same.0), same.1) refl
meaning_again (entry ∷ others) word x d (inr later) =
    let p = and_parts (not (is_among others entry.0)) (are_distinct others) d in
    later_word entry others word x (bytes_eq entry.0 word) refl (not_true _ p.0) later (meaning_again others word x p.1 later)

-- ---- signed numbers

first_byte : (word : List ℕ) (c : ℕ) (cs : List ℕ) → c ∷ cs ≡ word → get_or word 0 0 ≡ c
first_byte word c cs e = sym (ap (λ (w : List ℕ). get_or w 0 0) e)

-- a number below 0
minus_takes : (limit : ℕ) (c : ℕ) (cs : List ℕ) (n : ℕ) (z : ℤ) → c ≡ 45 → IsNumber 1 limit cs n → neg_ℤ (pos n) ≡ z → IsSigned limit (c ∷ cs) z
minus_takes limit c cs zero z minus h e = absurd (omega (arith, h))
minus_takes limit c cs (suc n) z minus h e = subst (λ (y : ℤ). IsSigned limit (c ∷ cs) y) e (rw minus (ap (λ (w : List ℕ). 45 ∷ w) h.0), omega (arith, h))

plain_takes : (limit : ℕ) (word : List ℕ) (n : ℕ) (z : ℤ) → 0 < limit → IsNumber 0 (limit - 1) word n → pos n ≡ z → IsSigned limit word z
plain_takes limit word n z some h e = subst (λ (y : ℤ). IsSigned limit word y) e (h.0, omega (arith, h))

pub signed_takes : (limit : ℕ) (word : List ℕ) (z : ℤ) → 0 < limit → signed_of limit word ≡ Some z → IsSigned limit word z
unfolding signed_of
signed_takes limit [] z some e = absurd cc
signed_takes limit (c ∷ cs) z some e = go (eqb c 45) refl e
  where
    go : (b : Bool) → eqb c 45 ≡ b → cond b (option_map (λ n. neg_ℤ (pos n)) (number_of 1 limit cs)) (option_map pos (number_of 0 (limit - 1) (c ∷ cs))) ≡ Some z → IsSigned limit (c ∷ cs) z
    go true is e =
        let m = map_some (λ n. neg_ℤ (pos n)) (number_of 1 limit cs) z e in
        minus_takes limit c cs m.0 z (eqb-true c 45 is) (number_takes 1 limit cs m.0 m.1) m.2
    go false is e =
        let m = map_some pos (number_of 0 (limit - 1) (c ∷ cs)) z e in
        plain_takes limit (c ∷ cs) m.0 z some (number_takes 0 (limit - 1) (c ∷ cs) m.0 m.1) m.2

no_minus : (n : ℕ) → n < 2 ^ 64 → get_or (decimal n) 0 0 ≡ 45 → ⊥
no_minus zero lt e = let z : get_or (decimal 0) 0 0 ≡ 48 = ap (λ (w : List ℕ). get_or w 0 0) (decimal_digit 0 (omega arith)) in absurd (omega (arith, z))
no_minus (suc n) lt e = omega (arith, first_decimal (suc n) (omega arith) lt)

plain_again : (limit : ℕ) (word : List ℕ) (n : ℕ) → limit ≤ 2 ^ 63 → word ≡ decimal n → n < limit → signed_of limit word ≡ Some (pos n)
unfolding signed_of
plain_again limit [] n small e lt = absurd (omega (arith, decimal_nonempty n (omega arith), ap length e))
plain_again limit (c ∷ cs) n small e lt =
    rw (ne_eqb c 45 (λ is. no_minus n (omega arith) (first_byte (decimal n) c cs e ∙ is)), number_again 0 (limit - 1) (c ∷ cs) n (omega arith) (e, omega arith, omega arith)) refl

pub signed_again : (limit : ℕ) (word : List ℕ) (z : ℤ) → limit ≤ 2 ^ 63 → IsSigned limit word z → signed_of limit word ≡ Some z
unfolding signed_of
signed_again limit word (pos n) small h = plain_again limit word n small h.0 h.1
signed_again limit word (negsuc n) small h =
    ap (signed_of limit) h.0 ∙ rw (number_again 1 limit (decimal (suc n)) (suc n) (omega arith) (refl, omega arith, omega (arith, h.1))) refl
