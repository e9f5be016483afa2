-- Words of visible bytes, and lines of such words with one space between any two.
use Rattle.std.proofs.Common.{◌≡◌, ℕ, ◌+◌, ◌*◌, ◌^◌, ◌<◌, ◌≤◌, Bool, true, false, not, eqb, ltb, leb, ◌&&◌, List, [], ◌∷◌, ◌++◌, length, refl, sym, ap, ◌∙◌, arith, append_assoc, inl}
use Rattle.std.specs.List.{list_all}
use Rattle.std.specs.Char.{is_ascii_digit}
use Rattle.std.specs.Fmt.{decimal}
use Rattle.std.proofs.lemmas.Bool.{and_parts, and_from, ltb-true, leb-true, le-leb, ne_eqb, not_from_false}
use Rattle.std.proofs.lemmas.List.{length-append, append-nil}
use Rattle.std.proofs.lemmas.List.Folds.{list_all-append}
use Rattle.std.proofs.lemmas.Fmt.{digits_decimal, decimal_nonempty, length-decimal-le}
use Rattle.trace_words.specs.Lexing.{begins_with_space}
use Rattle.trace_words.proofs.NumberLaws.{model}
use Rattle.trace_text.specs.Reading.{is_skipped, is_text}
use Rattle.trace_text.specs.Spacing.{HasNoFeed, HasNoSpace, IsSpaced, IsText}
use Rattle.trace_gen.specs.Lines.{Words, line_text, lines_text}

-- ---- words

abbrev pub is_visible : ℕ → Bool
is_visible c = leb 33 c && leb c 126

pub record IsPlain (word : List ℕ) : Type 0 where
  pub visible : list_all is_visible word ≡ true
  pub some : 0 < length word
  pub short : length word ≤ 40

weaker : (p q : ℕ → Bool) → ((c : ℕ) → p c ≡ true → q c ≡ true) → (xs : List ℕ) → list_all p xs ≡ true → list_all q xs ≡ true
weaker p q h [] e = refl
weaker p q h (c ∷ cs) e =
    let parts = and_parts (p c) (list_all p cs) e in
    and_from (q c) (list_all q cs) (h c parts.0) (weaker p q h cs parts.1)

digit_visible : (c : ℕ) → is_ascii_digit c ≡ true → is_visible c ≡ true
digit_visible c e =
    let parts = and_parts (leb 48 c) (leb c 57) e in
    and_from (leb 33 c) (leb c 126) (le-leb 33 c (omega (arith, leb-true 48 c parts.0))) (le-leb c 126 (omega (arith, leb-true c 57 parts.1)))

digits_visible : (n : ℕ) → n < 2 ^ 64 → list_all is_visible (decimal n) ≡ true
digits_visible n lt = weaker is_ascii_digit is_visible digit_visible (decimal n) (digits_decimal model n lt)

five_digits : (n : ℕ) → n < 100000 → length (decimal n) ≤ 5
five_digits n lt = length-decimal-le 5 n (omega arith) lt (omega arith)

pub plain_number : (n : ℕ) → n < 100000 → IsPlain (decimal n)
plain_number n lt = record {
  visible = digits_visible n (omega arith);
  some = decimal_nonempty n (omega arith);
  short = omega (arith, five_digits n lt);
}

-- a number between two texts
pub plain_framed : (front behind : List ℕ) (n : ℕ) → list_all is_visible front ≡ true → list_all is_visible behind ≡ true → length front + length behind ≤ 35 → n < 100000 → IsPlain (front ++ (decimal n ++ behind))
plain_framed front behind n before after short lt =
    let some : 0 < length (decimal n) = decimal_nonempty n (omega arith) in
    let five : length (decimal n) ≤ 5 = five_digits n lt in
    let len : length (front ++ (decimal n ++ behind)) ≡ length front + length (decimal n ++ behind) = length-append front (decimal n ++ behind) in
    let inner : length (decimal n ++ behind) ≡ length (decimal n) + length behind = length-append (decimal n) behind in
    record {
      visible = list_all-append is_visible front (decimal n ++ behind)
          ∙ and_from (list_all is_visible front) (list_all is_visible (decimal n ++ behind)) before
          (list_all-append is_visible (decimal n) behind ∙ and_from (list_all is_visible (decimal n)) (list_all is_visible behind) (digits_visible n (omega arith)) after);
      some = omega arith;
      short = omega arith;
    }

-- a word that is given
abbrev pub is_plain : List ℕ → Bool
is_plain word = list_all is_visible word && (ltb 0 (length word) && leb (length word) 40)

pub plain_word : {word : List ℕ} → is_plain word ≡ true → IsPlain word
plain_word {word} e =
    let p = and_parts (list_all is_visible word) (ltb 0 (length word) && leb (length word) 40) e in
    let q = and_parts (ltb 0 (length word)) (leb (length word) 40) p.1 in
    record { visible = p.0; some = ltb-true 0 (length word) q.0; short = leb-true (length word) 40 q.1 }

-- ---- bytes

not_byte : (byte c : ℕ) → (c ≡ byte → ⊥) → not (eqb c byte) ≡ true
not_byte byte c ne = not_from_false (eqb c byte) (ne_eqb c byte ne)

visible_above : (c : ℕ) → is_visible c ≡ true → 33 ≤ c
visible_above c e = leb-true 33 c (and_parts (leb 33 c) (leb c 126) e).0

no_space : (c : ℕ) → is_visible c ≡ true → not (eqb c 32) ≡ true
no_space c e = let above : 33 ≤ c = visible_above c e in not_byte 32 c (λ is. omega arith)

no_feed : (c : ℕ) → is_visible c ≡ true → not (eqb c 10) ≡ true
no_feed c e = let above : 33 ≤ c = visible_above c e in not_byte 10 c (λ is. omega arith)

abbrev is_text_byte : ℕ → Bool
is_text_byte c = leb 32 c && leb c 126

text_byte : (c : ℕ) → is_visible c ≡ true → is_text_byte c ≡ true
text_byte c e =
    let parts = and_parts (leb 33 c) (leb c 126) e in
    and_from (leb 32 c) (leb c 126) (le-leb 32 c (omega (arith, leb-true 33 c parts.0))) parts.1

-- ---- lines

abbrev pub ArePlain : Words → Type 0
ArePlain [] = Unit {0}
ArePlain (word ∷ words) = IsPlain word × ArePlain words

-- the words with one space between any two
abbrev pub joined : Words → List ℕ
joined [] = []
joined (word ∷ []) = word
joined (word ∷ next ∷ words) = word ++ 32 ∷ joined (next ∷ words)

line_is : (words : Words) → line_text words ≡ joined words ++ 10 ∷ []
line_is [] = refl
line_is (word ∷ []) = refl
line_is (word ∷ next ∷ words) = ap (λ (x : List ℕ). word ++ 32 ∷ x) (line_is (next ∷ words)) ∙ sym (append_assoc word (32 ∷ joined (next ∷ words)) (10 ∷ []))

begins_visibly : (word rest : List ℕ) → IsPlain word → begins_with_space (word ++ rest) ≡ false
begins_visibly [] rest h = absurd (omega (arith, h.some))
begins_visibly (c ∷ cs) rest h =
    let above : 33 ≤ c = visible_above c (and_parts (is_visible c) (list_all is_visible cs) h.visible).0 in ne_eqb c 32 (λ is. omega arith)

begins_joined : (word : List ℕ) (words : Words) → IsPlain word → begins_with_space (joined (word ∷ words)) ≡ false
begins_joined word [] h = ap begins_with_space (sym (append-nil word)) ∙ begins_visibly word [] h
begins_joined word (next ∷ words) h = begins_visibly word (32 ∷ joined (next ∷ words)) h

spaceless : (word : List ℕ) → IsPlain word → HasNoSpace word
spaceless word h = weaker is_visible (λ c. not (eqb c 32)) no_space word h.visible

spaced_words : (word : List ℕ) (words : Words) → IsPlain word → ArePlain words → IsSpaced (joined (word ∷ words)) (word ∷ words)
spaced_words word [] h hs = (spaceless word h, refl)
spaced_words word (next ∷ words) h hs = (spaceless word h, 0, joined (next ∷ words), begins_joined next words hs.0, refl, spaced_words next words hs.0 hs.1)

-- what holds of a space and of each visible byte holds of all bytes
all_bytes : (p : ℕ → Bool) → p 32 ≡ true → ((c : ℕ) → is_visible c ≡ true → p c ≡ true) → (word : List ℕ) (words : Words) → IsPlain word → ArePlain words → list_all p (joined (word ∷ words)) ≡ true
all_bytes p space each word [] h hs = weaker is_visible p each word h.visible
all_bytes p space each word (next ∷ words) h hs =
    list_all-append p word (32 ∷ joined (next ∷ words))
    ∙ and_from (list_all p word) (p 32 && list_all p (joined (next ∷ words))) (weaker is_visible p each word h.visible) (and_from (p 32) (list_all p (joined (next ∷ words))) space (all_bytes p space each next words hs.0 hs.1))

not_skipped : (word : List ℕ) (words : Words) → is_skipped word ≡ false → is_skipped (joined (word ∷ words)) ≡ false
not_skipped word [] e = e
not_skipped [] (next ∷ words) e = absurd cc
not_skipped (c ∷ cs) (next ∷ words) e = e

length_joined : (word : List ℕ) (words : Words) → IsPlain word → ArePlain words → length (joined (word ∷ words)) ≤ 41 * length (word ∷ words)
length_joined word [] h hs = omega (arith, h.short)
length_joined word (next ∷ words) h hs =
    let rest : length (joined (next ∷ words)) ≤ 41 * length (next ∷ words) = length_joined next words hs.0 hs.1 in
    let all : length (word ++ 32 ∷ joined (next ∷ words)) ≡ length word + length (32 ∷ joined (next ∷ words)) = length-append word (32 ∷ joined (next ∷ words)) in omega (arith, h.short)

-- the line is text, is its words with spaces between them, and is short
pub record IsPlainLine (words : Words) : Type 0 where
  pub spaced : IsSpaced (joined words) words
  pub text : is_text (joined words) ≡ true
  pub feedless : HasNoFeed (joined words)
  pub kept : is_skipped (joined words) ≡ false
  pub short : length (joined words) ≤ 999

pub plain_line : (word : List ℕ) (words : Words) → is_skipped word ≡ false → IsPlain word → ArePlain words → length words ≤ 12 → IsPlainLine (word ∷ words)
plain_line word words kept h hs few = record {
  spaced = spaced_words word words h hs;
  text = all_bytes is_text_byte refl text_byte word words h hs;
  feedless = all_bytes (λ c. not (eqb c 10)) refl no_feed word words h hs;
  kept = not_skipped word words kept;
  short = omega (arith, length_joined word words h hs);
}

digit_not_skipped : (word : List ℕ) → list_all is_ascii_digit word ≡ true → 0 < length word → is_skipped word ≡ false
digit_not_skipped [] all some = absurd (omega arith)
digit_not_skipped (c ∷ cs) all some =
    let first = (and_parts (is_ascii_digit c) (list_all is_ascii_digit cs) all).0 in
    let above : 48 ≤ c = leb-true 48 c (and_parts (leb 48 c) (leb c 57) first).0 in ne_eqb c 35 (λ is. omega arith)

-- a number begins no line that is skipped
pub number_not_skipped : (n : ℕ) → n < 2 ^ 64 → is_skipped (decimal n) ≡ false
number_not_skipped n lt = digit_not_skipped (decimal n) (digits_decimal model n lt) (decimal_nonempty n lt)

-- ---- texts

abbrev pub ArePlainLines : List Words → Type 0
ArePlainLines [] = Unit {0}
ArePlainLines (words ∷ lines) = IsPlainLine words × ArePlainLines lines

abbrev pub all_joined : List Words → List (List ℕ)
all_joined [] = []
all_joined (words ∷ lines) = joined words ∷ all_joined lines

pub lines_are_text : (lines : List Words) → ArePlainLines lines → IsText (lines_text lines) (all_joined lines)
lines_are_text [] h = refl
lines_are_text (words ∷ lines) h = (
  h.0.feedless,
  inl (
    lines_text lines,
    ap (λ (x : List ℕ). x ++ lines_text lines) (line_is words) ∙ append_assoc (joined words) (10 ∷ []) (lines_text lines),
    lines_are_text lines h.1,
  ),
)

pub length_lines : (lines : List Words) → ArePlainLines lines → length (lines_text lines) ≤ 1000 * length lines
length_lines [] h = omega arith
length_lines (words ∷ lines) h =
    let rest : length (lines_text lines) ≤ 1000 * length lines = length_lines lines h.1 in
    let short : length (joined words) ≤ 999 = h.0.short in
    let line : length (line_text words) ≡ length (joined words) + length {A = ℕ} (10 ∷ []) = ap length (line_is words) ∙ length-append (joined words) (10 ∷ []) in
    let all : length (line_text words ++ lines_text lines) ≡ length (line_text words) + length (lines_text lines) = length-append (line_text words) (lines_text lines) in omega arith

pub plain_both : (xs ys : List Words) → ArePlainLines xs → ArePlainLines ys → ArePlainLines (xs ++ ys)
plain_both [] ys h hs = hs
plain_both (words ∷ xs) ys h hs = (h.0, plain_both xs ys h.1 hs)

pub joined_both : (xs ys : List Words) → all_joined (xs ++ ys) ≡ all_joined xs ++ all_joined ys
joined_both [] ys = refl
joined_both (words ∷ xs) ys = ap (λ (ls : List (List ℕ)). joined words ∷ ls) (joined_both xs ys)
