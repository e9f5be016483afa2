-- The words of a line are those that it is made of with spaces between them.
use Rattle.std.proofs.Common.{◌≡◌, ℕ, zero, suc, Bool, true, false, cond, eqb, List, [], ◌∷◌, ◌++◌, refl, sym, ap, subst, ◌∙◌}
use Rattle.std.specs.Prelude.{not}
use Rattle.std.specs.List.{list_all, onto_first}
use Rattle.std.proofs.lemmas.Bool.{and_parts, and_from, eqb-true}
use Rattle.trace_words.specs.Lexing.{words_of, begins_with_space, after_spaces}
use Rattle.trace_text.specs.Spacing.{HasNoSpace, spaces, IsSpaced}
use Rattle.trace_words.proofs.Splitting.{words_space}

is_other : (b : Bool) → not b ≡ true → b ≡ false
is_other true e = absurd cc
is_other false e = refl

is_not : (b : Bool) → b ≡ false → not b ≡ true
is_not true e = absurd cc
is_not false e = refl

other_first : (c : ℕ) (cs : List ℕ) → eqb c 32 ≡ false → words_of (c ∷ cs) ≡ onto_first c (words_of cs)
unfolding words_of
other_first c cs e = rw e refl

alone : (word : List ℕ) → HasNoSpace word → words_of word ≡ word ∷ []
unfolding words_of
alone [] h = refl
alone (c ∷ cs) h =
    let p = and_parts (not (eqb c 32)) (list_all (λ d. not (eqb d 32)) cs) h in
    other_first c cs (is_other (eqb c 32) p.0) ∙ ap (onto_first c) (alone cs p.1)

before_space : (word rest : List ℕ) → HasNoSpace word → words_of (word ++ 32 ∷ rest) ≡ word ∷ words_of (after_spaces rest)
before_space [] rest h = words_space rest
before_space (c ∷ cs) rest h =
    let p = and_parts (not (eqb c 32)) (list_all (λ d. not (eqb d 32)) cs) h in
    other_first c (cs ++ 32 ∷ rest) (is_other (eqb c 32) p.0) ∙ ap (onto_first c) (before_space cs rest p.1)

no_space_first : (rest : List ℕ) → begins_with_space rest ≡ false → after_spaces rest ≡ rest
no_space_first [] e = refl
no_space_first (c ∷ cs) e = rw e refl

after_all : (n : ℕ) (rest : List ℕ) → begins_with_space rest ≡ false → after_spaces (spaces n rest) ≡ rest
after_all zero rest e = no_space_first rest e
after_all (suc n) rest e = after_all n rest e

pub spaced_again : (words : List (List ℕ)) (line : List ℕ) → IsSpaced line words → words_of line ≡ words
spaced_again [] line h = absurd h
spaced_again (word ∷ []) line h = ap words_of h.1 ∙ alone word h.0
spaced_again (word ∷ next ∷ words) line h =
    ap words_of h.4 ∙ before_space word (spaces h.1 h.2) h.0 ∙ ap (λ (r : List ℕ). word ∷ words_of r) (after_all h.1 h.2 h.3)
    ∙ ap (λ (ws : List (List ℕ)). word ∷ ws) (spaced_again (next ∷ words) h.2 h.5)

onto : (c : ℕ) (cs : List ℕ) (words : List (List ℕ)) → eqb c 32 ≡ false → IsSpaced cs words → IsSpaced (c ∷ cs) (onto_first c words)
onto c cs [] e h = absurd h
onto c cs (word ∷ []) e h = (and_from (not (eqb c 32)) (list_all (λ d. not (eqb d 32)) word) (is_not (eqb c 32) e) h.0, ap (λ (w : List ℕ). c ∷ w) h.1)
onto c cs (word ∷ next ∷ words) e h = (and_from (not (eqb c 32)) (list_all (λ d. not (eqb d 32)) word) (is_not (eqb c 32) e) h.0, h.1, h.2, h.3, ap (λ (w : List ℕ). c ∷ w) h.4, h.5)

one_space_more : (cs : List ℕ) (words : List (List ℕ)) → begins_with_space cs ≡ true → IsSpaced cs words → IsSpaced (32 ∷ cs) words
one_space_more cs [] e h = absurd h
one_space_more cs ([] ∷ []) e h = let f : begins_with_space cs ≡ false = ap begins_with_space h.1 in absurd cc
one_space_more cs ((d ∷ ds) ∷ []) e h =
    let p = and_parts (not (eqb d 32)) (list_all (λ x. not (eqb x 32)) ds) h.0 in
    let f : begins_with_space cs ≡ eqb d 32 = ap begins_with_space h.1 in
    let g : eqb d 32 ≡ false = is_other (eqb d 32) p.0 in absurd cc
one_space_more cs ([] ∷ next ∷ words) e h = (refl, suc h.1, h.2, h.3, ap (λ (w : List ℕ). 32 ∷ w) h.4, h.5)
one_space_more cs ((d ∷ ds) ∷ next ∷ words) e h =
    let p = and_parts (not (eqb d 32)) (list_all (λ x. not (eqb x 32)) ds) h.0 in
    let f : begins_with_space cs ≡ eqb d 32 = ap begins_with_space h.4 in
    let g : eqb d 32 ≡ false = is_other (eqb d 32) p.0 in absurd cc

first_space : (cs : List ℕ) (words : List (List ℕ)) → begins_with_space cs ≡ false → IsSpaced cs words → IsSpaced (32 ∷ cs) ([] ∷ words)
first_space cs [] e h = absurd h
first_space cs (next ∷ words) e h = (refl, 0, cs, e, refl, h)

one_byte : (c : ℕ) (cs : List ℕ) (b d : Bool) → eqb c 32 ≡ b → begins_with_space cs ≡ d → IsSpaced cs (words_of cs) → IsSpaced (c ∷ cs) (cond b (cond d (words_of cs) ([] ∷ words_of cs)) (onto_first c (words_of cs)))
one_byte c cs true true is first h = subst (λ (x : ℕ). IsSpaced (x ∷ cs) (words_of cs)) (sym (eqb-true c 32 is)) (one_space_more cs (words_of cs) first h)
one_byte c cs true false is first h = subst (λ (x : ℕ). IsSpaced (x ∷ cs) ([] ∷ words_of cs)) (sym (eqb-true c 32 is)) (first_space cs (words_of cs) first h)
one_byte c cs false d is first h = onto c cs (words_of cs) is h

pub spaced_takes : (line : List ℕ) → IsSpaced line (words_of line)
unfolding words_of
spaced_takes [] = (refl, refl)
spaced_takes (c ∷ cs) = one_byte c cs (eqb c 32) (begins_with_space cs) refl refl (spaced_takes cs)
