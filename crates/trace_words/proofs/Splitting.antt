-- What the first line of a text is, and the first word of a line.
use Rattle.std.proofs.Common.{◌≡◌, ◌≢◌, ℕ, zero, suc, ◌+◌, ◌<◌, ◌≤◌, Bool, true, false, cond, eqb, List, [], ◌∷◌, length, get_or, take, drop, refl, sym, ap, ◌∙◌, arith, add-one, drop-cons}
use Rattle.std.specs.List.{onto_first}
use Rattle.std.proofs.lemmas.Bool.{ne_eqb}
use Rattle.std.proofs.Common.{◌-◌, Some, None, eq-eqb}
use Rattle.std.proofs.lemmas.List.{take_all, take_rest, nil_from_length, length-drop}
use Rattle.trace_words.specs.Lexing.{lines_of, words_of, begins_with_space, after_spaces, at_byte}

-- Nothing before place i is the separator.
abbrev pub NoneBefore : ℕ → ℕ → List ℕ → Type 0
NoneBefore separator i bytes = (k : ℕ) → k < i → get_or bytes k 0 ≡ separator → ⊥

-- A split that puts what is no separator onto the first part has as its first part what comes before place i.
first_part : (split : List ℕ → List (List ℕ)) (separator : ℕ) → ((c : ℕ) (cs : List ℕ) → c ≢ separator → split (c ∷ cs) ≡ onto_first c (split cs))
    → (parts : List (List ℕ)) (i : ℕ) (bytes : List ℕ) → NoneBefore separator i bytes → split (drop i bytes) ≡ [] ∷ parts → split bytes ≡ take i bytes ∷ parts
first_part split separator step parts zero bytes none h = h
first_part split separator step parts (suc i) [] none h = h
first_part split separator step parts (suc i) (c ∷ cs) none h =
    step c cs (none 0 (omega arith)) ∙ ap (onto_first c) (first_part split separator step parts i cs (λ k lt. none (suc k) (omega arith)) h)

lines_step : (c : ℕ) (cs : List ℕ) → c ≢ 10 → lines_of (c ∷ cs) ≡ onto_first c (lines_of cs)
unfolding lines_of
lines_step c cs ne = rw (ne_eqb c 10 ne) refl

lines_feed : (c : ℕ) (cs : List ℕ) → c ≡ 10 → lines_of (c ∷ cs) ≡ [] ∷ lines_of cs
unfolding lines_of
lines_feed c cs e = rw e refl

lines_at : (i : ℕ) (bytes : List ℕ) → NoneBefore 10 i bytes → i < length bytes → get_or bytes i 0 ≡ 10 → lines_of bytes ≡ take i bytes ∷ lines_of (drop (i + 1) bytes)
lines_at i bytes none lt at =
    first_part lines_of 10 lines_step (lines_of (drop (i + 1) bytes)) i bytes none
    (ap lines_of (drop-cons bytes i 0 lt) ∙ lines_feed (get_or bytes i 0) (drop (suc i) bytes) at ∙ rw add-one refl)

-- The same, as the code slices the text.
pub lines_at_feed : (i : ℕ) (bytes : List ℕ) → NoneBefore 10 i bytes → i < length bytes → get_or bytes i 0 ≡ 10
    → lines_of bytes ≡ take i bytes ∷ lines_of (take (length bytes - (i + 1)) (drop (i + 1) bytes))
lines_at_feed i bytes none lt at = lines_at i bytes none lt at ∙ rw take_rest refl

lines_last : (bytes : List ℕ) → NoneBefore 10 (length bytes) bytes → 0 < length bytes → lines_of bytes ≡ bytes ∷ []
unfolding lines_of
lines_last [] none lt = absurd (omega arith)
lines_last (c ∷ []) none lt = lines_step c [] (none 0 (omega arith))
lines_last (c ∷ d ∷ cs) none lt =
    lines_step c (d ∷ cs) (none 0 (omega arith)) ∙ ap (onto_first c) (lines_last (d ∷ cs) (λ k lt. none (suc k) (omega arith)) (omega arith))

pub lines_at_end : (bytes : List ℕ) → NoneBefore 10 (length bytes) bytes → 0 < length bytes → lines_of bytes ≡ bytes ∷ lines_of (take (length bytes - length bytes) (drop (length bytes) bytes))
unfolding lines_of
lines_at_end bytes none lt =
    let past : drop (length bytes) bytes ≡ [] = nil_from_length _ (omega (arith, length-drop {A = ℕ})) in
    lines_last bytes none lt ∙ rw (take_rest, past) refl

words_step : (c : ℕ) (cs : List ℕ) → c ≢ 32 → words_of (c ∷ cs) ≡ onto_first c (words_of cs)
unfolding words_of
words_step c cs ne = rw (ne_eqb c 32 ne) refl

-- one more byte behind a space
after_one : (b : Bool) (c : ℕ) (cs : List ℕ) → eqb c 32 ≡ b → words_of (32 ∷ cs) ≡ [] ∷ words_of (after_spaces cs) → words_of (32 ∷ c ∷ cs) ≡ [] ∷ words_of (after_spaces (c ∷ cs))
unfolding words_of
after_one true c cs e h = rw e h
after_one false c cs e h = rw (e, e) refl

pub words_space : (cs : List ℕ) → words_of (32 ∷ cs) ≡ [] ∷ words_of (after_spaces cs)
unfolding words_of
words_space [] = refl
words_space (c ∷ cs) = after_one (eqb c 32) c cs refl (words_space cs)

words_from_space : (c : ℕ) (cs : List ℕ) → c ≡ 32 → words_of (c ∷ cs) ≡ [] ∷ words_of (after_spaces cs)
words_from_space c cs e = rw e (words_space cs)

words_at : (i : ℕ) (bytes : List ℕ) → NoneBefore 32 i bytes → i < length bytes → get_or bytes i 0 ≡ 32 → words_of bytes ≡ take i bytes ∷ words_of (after_spaces (drop (i + 1) bytes))
words_at i bytes none lt at =
    first_part words_of 32 words_step (words_of (after_spaces (drop (i + 1) bytes))) i bytes none
    (ap words_of (drop-cons bytes i 0 lt) ∙ words_from_space (get_or bytes i 0) (drop (suc i) bytes) at ∙ rw add-one refl)

-- The same, as the code slices the line.
pub words_at_space : (i : ℕ) (bytes rest : List ℕ) → NoneBefore 32 i bytes → i < length bytes → get_or bytes i 0 ≡ 32 → rest ≡ after_spaces (take (length bytes - (i + 1)) (drop (i + 1) bytes))
    → words_of bytes ≡ take i bytes ∷ words_of rest
words_at_space i bytes rest none lt at e = words_at i bytes none lt at ∙ ap (λ (r : List ℕ). take i bytes ∷ words_of r) (ap after_spaces (sym (take_rest bytes (i + 1))) ∙ sym e)

pub words_last : (bytes : List ℕ) → NoneBefore 32 (length bytes) bytes → words_of bytes ≡ bytes ∷ []
unfolding words_of
words_last bytes none =
    let past : drop (length bytes) bytes ≡ [] = nil_from_length _ (omega (arith, length-drop {A = ℕ})) in
    first_part words_of 32 words_step [] (length bytes) bytes none (ap words_of past) ∙ ap (λ (w : List ℕ). w ∷ []) (take_all (length bytes) bytes (omega arith))

-- putting a byte onto the first part makes at most one part more
length-onto_first : (c : ℕ) (parts : List (List ℕ)) → length (onto_first c parts) ≤ length parts + 1
length-onto_first c [] = omega arith
length-onto_first c (part ∷ parts) = omega arith

one_more : (b d : Bool) (c : ℕ) (words : List (List ℕ)) (n : ℕ) → length words ≤ n + 1 → length (cond b (cond d words ([] ∷ words)) (onto_first c words)) ≤ suc n + 1
one_more true true c words n h = omega arith
one_more true false c words n h = omega arith
one_more false d c words n h = omega (arith, length-onto_first c words)

-- There is at most one word more than bytes.
pub length-words_of : (bytes : List ℕ) → length (words_of bytes) ≤ length bytes + 1
unfolding words_of
length-words_of [] = omega arith
length-words_of (c ∷ cs) = one_more (eqb c 32) (begins_with_space cs) c (words_of cs) (length cs) (length-words_of cs)

first_byte_at : (byte i : ℕ) (bytes : List ℕ) → NoneBefore byte i bytes → i < length bytes → get_or bytes i 0 ≡ byte → at_byte byte bytes ≡ Some (take i bytes, drop (suc i) bytes)
unfolding at_byte
first_byte_at byte i [] none lt at = absurd (omega arith)
first_byte_at byte zero (c ∷ cs) none lt at = rw (eq-eqb c byte at) refl
first_byte_at byte (suc i) (c ∷ cs) none lt at = rw (ne_eqb c byte (none 0 (omega arith)), first_byte_at byte i cs (λ k k_lt. none (suc k) (omega arith)) (omega arith) at) refl

-- as the code slices the text
pub byte_at : (byte i : ℕ) (bytes : List ℕ) → NoneBefore byte i bytes → i < length bytes → get_or bytes i 0 ≡ byte → Some (take i bytes, take (length bytes - (i + 1)) (drop (i + 1) bytes)) ≡ at_byte byte bytes
byte_at byte i bytes none lt at = sym (rw (take_rest, add-one) (first_byte_at byte i bytes none lt at))

pub byte_nowhere : (byte : ℕ) (bytes : List ℕ) → NoneBefore byte (length bytes) bytes → None ≡ at_byte byte bytes
unfolding at_byte
byte_nowhere byte [] none = refl
byte_nowhere byte (c ∷ cs) none = rw (ne_eqb c byte (none 0 (omega arith)), ← byte_nowhere byte cs (λ k lt. none (suc k) (omega arith))) refl
