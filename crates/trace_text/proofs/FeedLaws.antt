-- The lines of a text are those that it is made of with line feeds after them.
use Rattle.std.proofs.Common.{◌≡◌, ℕ, ◌<◌, ◌⊎◌, Bool, true, false, cond, eqb, List, [], ◌∷◌, ◌++◌, length, refl, ap, subst, sym, ◌∙◌, arith, inl, inr}
use Rattle.std.specs.Prelude.{not}
use Rattle.std.specs.List.{list_all, onto_first}
use Rattle.std.proofs.lemmas.Bool.{and_parts, and_from, eqb-true}
use Rattle.trace_words.specs.Lexing.{lines_of}
use Rattle.trace_text.specs.Spacing.{HasNoFeed, IsText}

is_other : (b : Bool) → not b ≡ true → b ≡ false
is_other true e = absurd cc
is_other false e = refl

is_not : (b : Bool) → b ≡ false → not b ≡ true
is_not true e = absurd cc
is_not false e = refl

other_first : (c : ℕ) (cs : List ℕ) → eqb c 10 ≡ false → lines_of (c ∷ cs) ≡ onto_first c (lines_of cs)
unfolding lines_of
other_first c cs e = rw e refl

feed_first : (cs : List ℕ) → lines_of (10 ∷ cs) ≡ [] ∷ lines_of cs
unfolding lines_of
feed_first cs = refl

before_feed : (line rest : List ℕ) → HasNoFeed line → lines_of (line ++ 10 ∷ rest) ≡ line ∷ lines_of rest
before_feed [] rest h = feed_first rest
before_feed (c ∷ cs) rest h =
    let p = and_parts (not (eqb c 10)) (list_all (λ d. not (eqb d 10)) cs) h in
    other_first c (cs ++ 10 ∷ rest) (is_other (eqb c 10) p.0) ∙ ap (onto_first c) (before_feed cs rest p.1)

last_one : (c : ℕ) → lines_of [] ≡ []
unfolding lines_of
last_one c = refl

alone : (line : List ℕ) → HasNoFeed line → 0 < length line → lines_of line ≡ line ∷ []
alone [] h some = absurd (omega (arith, some))
alone (c ∷ []) h some =
    let p = and_parts (not (eqb c 10)) true h in
    other_first c [] (is_other (eqb c 10) p.0) ∙ ap (onto_first c) (last_one c)
alone (c ∷ d ∷ cs) h some =
    let p = and_parts (not (eqb c 10)) (list_all (λ x. not (eqb x 10)) (d ∷ cs)) h in
    other_first c (d ∷ cs) (is_other (eqb c 10) p.0) ∙ ap (onto_first c) (alone (d ∷ cs) p.1 (omega arith))

pub lines_again : (lines : List (List ℕ)) (text : List ℕ) → IsText text lines → lines_of text ≡ lines
lines_again [] text h = ap lines_of h ∙ last_one 0
lines_again (line ∷ lines) text h = go (λ rest k. lines_again lines rest k) h.1
  where
    go : ((rest : List ℕ) → IsText rest lines → lines_of rest ≡ lines) → ((rest : List ℕ) × (text ≡ line ++ 10 ∷ rest) × IsText rest lines) ⊎ ((text ≡ line) × (0 < length line) × (lines ≡ [])) → lines_of text ≡ line ∷ lines
    go later (inl k) = ap lines_of k.1 ∙ before_feed line k.0 h.0 ∙ ap (λ (ls : List (List ℕ)). line ∷ ls) (later k.0 k.2)
    go later (inr k) = ap lines_of k.0 ∙ alone line h.0 k.1 ∙ ap (λ (ls : List (List ℕ)). line ∷ ls) (sym k.2)

onto : (c : ℕ) (cs : List ℕ) (lines : List (List ℕ)) → eqb c 10 ≡ false → IsText cs lines → IsText (c ∷ cs) (onto_first c lines)
onto c cs [] e h = (and_from (not (eqb c 10)) true (is_not (eqb c 10) e) refl, inr (ap (λ (r : List ℕ). c ∷ r) h, omega arith, refl))
onto c cs (line ∷ lines) e h = (and_from (not (eqb c 10)) (list_all (λ d. not (eqb d 10)) line) (is_not (eqb c 10) e) h.0, go h.1)
  where
    go : ((rest : List ℕ) × (cs ≡ line ++ 10 ∷ rest) × IsText rest lines) ⊎ ((cs ≡ line) × (0 < length line) × (lines ≡ []))
        → ((rest : List ℕ) × (c ∷ cs ≡ c ∷ (line ++ 10 ∷ rest)) × IsText rest lines) ⊎ ((c ∷ cs ≡ c ∷ line) × (0 < length (c ∷ line)) × (lines ≡ []))
    go (inl k) = inl (k.0, ap (λ (r : List ℕ). c ∷ r) k.1, k.2)
    go (inr k) = inr (ap (λ (r : List ℕ). c ∷ r) k.0, omega arith, k.2)

one_byte : (c : ℕ) (cs : List ℕ) (b : Bool) → eqb c 10 ≡ b → IsText cs (lines_of cs) → IsText (c ∷ cs) (cond b ([] ∷ lines_of cs) (onto_first c (lines_of cs)))
one_byte c cs true is h = subst (λ (x : ℕ). IsText (x ∷ cs) ([] ∷ lines_of cs)) (sym (eqb-true c 10 is)) (refl, inl (cs, refl, h))
one_byte c cs false is h = onto c cs (lines_of cs) is h

pub lines_take : (text : List ℕ) → IsText text (lines_of text)
unfolding lines_of
lines_take [] = refl
lines_take (c ∷ cs) = one_byte c cs (eqb c 10) refl (lines_take cs)
