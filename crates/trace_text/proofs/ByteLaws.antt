-- What comes before a byte, and what comes after it.
use Rattle.std.proofs.Common.{◌≡◌, ℕ, Bool, true, false, cond, eqb, List, [], ◌∷◌, ◌++◌, Option, Some, refl, ap, subst, ◌∙◌}
use Rattle.std.specs.Prelude.{option_and_then, not}
use Rattle.std.specs.List.{list_all}
use Rattle.std.specs.Char.{is_ascii_digit}
use Rattle.std.proofs.lemmas.Bool.{and_parts, and_from, eqb-true, eq-eqb}
use Rattle.trace_words.specs.Lexing.{at_byte}
use Rattle.trace_text.proofs.Steps.{then_some, some_is}

abbrev Parts : Type 0
Parts = List ℕ × List ℕ

is_other : (b : Bool) → not b ≡ true → b ≡ false
is_other true e = absurd cc
is_other false e = refl

abbrev onto_front : ℕ → Parts → Option Parts
onto_front c parts = Some (c ∷ parts.0, parts.1)

pub byte_takes : (byte : ℕ) (text : List ℕ) (parts : Parts) → at_byte byte text ≡ Some parts → text ≡ parts.0 ++ byte ∷ parts.1
unfolding at_byte
byte_takes byte [] parts e = absurd cc
byte_takes byte (c ∷ cs) parts e = here byte c cs parts (eqb c byte) refl (λ x h. byte_takes byte cs x h) e
  where
    here : (byte c : ℕ) (cs : List ℕ) (parts : Parts) (b : Bool) → eqb c byte ≡ b → ((x : Parts) → at_byte byte cs ≡ Some x → cs ≡ x.0 ++ byte ∷ x.1) → cond b (Some ([], cs)) (option_and_then (onto_front c) (at_byte byte cs)) ≡ Some parts → c ∷ cs ≡ parts.0 ++ byte ∷ parts.1
    here byte c cs parts true is later e =
        subst (λ (x : Parts). c ∷ cs ≡ x.0 ++ byte ∷ x.1) (some_is ([], cs) parts e) (ap (λ (d : ℕ). d ∷ cs) (eqb-true c byte is))
    here byte c cs parts false is later e =
        let a = then_some (onto_front c) (at_byte byte cs) parts e in
        subst (λ (x : Parts). c ∷ cs ≡ x.0 ++ byte ∷ x.1) (some_is (c ∷ a.0.0, a.0.1) parts a.2) (ap (λ (r : List ℕ). c ∷ r) (later a.0 a.1))

pub byte_again : (byte : ℕ) (word rest : List ℕ) → list_all (λ c. not (eqb c byte)) word ≡ true → at_byte byte (word ++ byte ∷ rest) ≡ Some (word, rest)
unfolding at_byte
byte_again byte [] rest h = rw (eq-eqb byte byte refl) refl
byte_again byte (c ∷ cs) rest h =
    let p = and_parts (not (eqb c byte)) (list_all (λ d. not (eqb d byte)) cs) h in
    rw (is_other (eqb c byte) p.0, byte_again byte cs rest p.1) refl

no_digit : (byte c : ℕ) (b : Bool) → is_ascii_digit byte ≡ false → eqb c byte ≡ b → is_ascii_digit c ≡ true → not b ≡ true
no_digit byte c true none is digit = let other : is_ascii_digit c ≡ false = ap is_ascii_digit (eqb-true c byte is) ∙ none in absurd cc
no_digit byte c false none is digit = refl

-- What is no digit is not among digits.
pub digits_without : (byte : ℕ) → is_ascii_digit byte ≡ false → (word : List ℕ) → list_all is_ascii_digit word ≡ true → list_all (λ c. not (eqb c byte)) word ≡ true
digits_without byte none [] h = refl
digits_without byte none (c ∷ cs) h =
    let p = and_parts (is_ascii_digit c) (list_all is_ascii_digit cs) h in
    and_from (not (eqb c byte)) (list_all (λ d. not (eqb d byte)) cs) (no_digit byte c (eqb c byte) none refl p.0) (digits_without byte none cs p.1)
