-- Options, with `--summary` before or behind them.
use Rattle.std.proofs.Common.{◌≡◌, ℕ, Bool, true, false, List, [], ◌∷◌, ◌++◌, get_or, Option, Some, None, arith, refl, sym, ap, subst, ◌∙◌, inl, inr}
use Rattle.std.specs.Prelude.{codes, IfSome}
use Rattle.std.specs.Fmt.{decimal}
use Rattle.std.proofs.lemmas.List.{append_cancel_left}
use Rattle.command_line.specs.declared.command.Command.{Command}
use Rattle.command_line.specs.declared.command.Command.TheVariants.{Once}
use Rattle.command_line.specs.Commands.{IsNumber, IsOption, IsWithSummary, TakesSummary, AreOptions, Spells}
use Rattle.command_line.proofs.NumberLaws.{no_minus}

abbrev pub last : List ℕ
last = codes "--summary"

first_is : (x y : List ℕ) (xs ys : List (List ℕ)) → x ∷ xs ≡ y ∷ ys → x ≡ y
first_is x y xs ys e = cc

no_end : (x : List ℕ) (xs : List (List ℕ)) → xs ++ x ∷ [] ≡ [] → ⊥
no_end x [] e = absurd cc
no_end x (y ∷ xs) e = absurd cc

-- what stands last is one word
pub last_is : (xs ys : List (List ℕ)) (x y : List ℕ) → xs ++ x ∷ [] ≡ ys ++ y ∷ [] → x ≡ y
last_is [] [] x y e = cc
last_is [] (b ∷ ys) x y e = let t : [] ≡ ys ++ y ∷ [] = cc in absurd (no_end y ys (sym t))
last_is (a ∷ xs) [] x y e = let t : xs ++ x ∷ [] ≡ [] = cc in absurd (no_end x xs t)
last_is (a ∷ xs) (b ∷ ys) x y e = let t : xs ++ x ∷ [] ≡ ys ++ y ∷ [] = cc in last_is xs ys x y t

-- neither the first nor the last word is `--summary`
pub none_without : (words front behind : List (List ℕ)) (x y : List ℕ) → words ≡ x ∷ behind → words ≡ front ++ y ∷ [] → (x ≡ last → ⊥) → (y ≡ last → ⊥) → (others : List (List ℕ)) → IsWithSummary words others → ⊥
none_without words front behind x y first end no_first no_last others (inl e) = no_first (first_is x last behind others (sym first ∙ e))
none_without words front behind x y first end no_first no_last others (inr e) = no_last (last_is front others y last (sym end ∙ e))

pub none_in_none : (others : List (List ℕ)) → IsWithSummary [] others → ⊥
none_in_none others (inl e) = absurd cc
none_in_none others (inr e) = no_end last others (sym e)

one_and_last : (s x y : List ℕ) (rest : List (List ℕ)) → rest ++ x ∷ [] ≡ s ∷ y ∷ [] → (rest ≡ s ∷ []) × (x ≡ y)
one_and_last s x y [] e = absurd cc
one_and_last s x y (a ∷ []) e = (cc, cc)
one_and_last s x y (a ∷ b ∷ []) e = absurd cc
one_and_last s x y (a ∷ b ∷ c ∷ rest) e = absurd cc

two_and_last : (s d x y : List ℕ) (rest : List (List ℕ)) → rest ++ x ∷ [] ≡ s ∷ d ∷ y ∷ [] → (rest ≡ s ∷ d ∷ []) × (x ≡ y)
two_and_last s d x y [] e = absurd cc
two_and_last s d x y (a ∷ rest) e =
    let tails : rest ++ x ∷ [] ≡ d ∷ y ∷ [] = cc in
    let h = one_and_last d x y rest tails in
    let head : a ≡ s = cc in (ap (λ (w : List ℕ). w ∷ rest) head ∙ ap (λ (ws : List (List ℕ)). s ∷ ws) h.0, h.1)

alone_and_last : (s x : List ℕ) (rest : List (List ℕ)) → rest ++ x ∷ [] ≡ s ∷ [] → x ≡ s
alone_and_last s x [] e = cc
alone_and_last s x (a ∷ []) e = absurd cc
alone_and_last s x (a ∷ b ∷ rest) e = absurd cc

seed_is_not_summary : (rest : List ℕ) → codes "--seed" ++ rest ≡ last → ⊥
seed_is_not_summary rest e = let h : 101 ≡ 117 = ap (λ (w : List ℕ). get_or w 3 0) e in omega (arith, h)

-- `--summary` is no option with a number, nor its number
no_summary : (words rest : List (List ℕ)) (n : ℕ) → IsOption (codes "--seed") words n → IsWithSummary words rest → ⊥
no_summary words rest n (small, inl is) (inl e) = seed_is_not_summary [] (first_is _ last (decimal n ∷ []) rest (sym is ∙ e))
no_summary words rest n (small, inr is) (inl e) = seed_is_not_summary (61 ∷ decimal n) (first_is _ last [] rest (sym is ∙ e))
no_summary words rest n (small, inl is) (inr e) = no_minus n _ small (sym (one_and_last (codes "--seed") last (decimal n) rest (sym e ∙ is)).1)
no_summary words rest n (small, inr is) (inr e) = seed_is_not_summary (61 ∷ decimal n) (sym (alone_and_last _ last rest (sym e ∙ is)))

-- what is left is the option
left_is : (words others rest : List (List ℕ)) (n : ℕ) → IsOption (codes "--seed") others n → IsWithSummary words others → IsWithSummary words rest → rest ≡ others
left_is words others rest n option (inl e) (inl f) = let g : last ∷ others ≡ last ∷ rest = sym e ∙ f in cc
left_is words others rest n (small, inl is) (inr e) (inr f) =
    (two_and_last (codes "--seed") (decimal n) last last rest (sym f ∙ e ∙ ap (λ (ws : List (List ℕ)). ws ++ last ∷ []) is)).0 ∙ sym is
left_is words others rest n (small, inr is) (inr e) (inr f) =
    (one_and_last (codes "--seed" ++ 61 ∷ decimal n) last last rest (sym f ∙ e ∙ ap (λ (ws : List (List ℕ)). ws ++ last ∷ []) is)).0 ∙ sym is
left_is words others rest n (small, inl is) (inr e) (inl f) = absurd (seed_is_not_summary [] (first_is _ last (decimal n ∷ last ∷ []) rest (ap (λ (ws : List (List ℕ)). ws ++ last ∷ []) (sym is) ∙ sym e ∙ f)))
left_is words others rest n (small, inr is) (inr e) (inl f) = absurd (seed_is_not_summary (61 ∷ decimal n) (first_is _ last (last ∷ []) rest (ap (λ (ws : List (List ℕ)). ws ++ last ∷ []) (sym is) ∙ sym e ∙ f)))
left_is words others rest n (small, inl is) (inl e) (inr f) = let g : rest ++ last ∷ [] ≡ last ∷ codes "--seed" ∷ decimal n ∷ [] = sym f ∙ e ∙ ap (λ (ws : List (List ℕ)). last ∷ ws) is in
    absurd (no_minus n _ small (sym (two_and_last last (codes "--seed") last (decimal n) rest g).1))
left_is words others rest n (small, inr is) (inl e) (inr f) = let g : rest ++ last ∷ [] ≡ last ∷ (codes "--seed" ++ 61 ∷ decimal n) ∷ [] = sym f ∙ e ∙ ap (λ (ws : List (List ℕ)). last ∷ ws) is in
    absurd (seed_is_not_summary (61 ∷ decimal n) (sym (one_and_last last last (codes "--seed" ++ 61 ∷ decimal n) rest g).1))

-- what follows `NAME=` is the number
pub value_is : (name value : List ℕ) (words : List (List ℕ)) (n : ℕ) → words ≡ (name ++ 61 ∷ value) ∷ [] → IsOption name words n → IsNumber value n
value_is name value words n is (small, inl e) = let f : (name ++ 61 ∷ value) ∷ [] ≡ name ∷ decimal n ∷ [] = sym is ∙ e in absurd cc
value_is name value words n is (small, inr e) =
    let f : name ++ 61 ∷ value ≡ name ++ 61 ∷ decimal n = first_is _ _ [] [] (sym is ∙ e) in
    let g : 61 ∷ value ≡ 61 ∷ decimal n = append_cancel_left name (61 ∷ value) (61 ∷ decimal n) f in (small, cc)

abbrev pub IsSeeded : List (List ℕ) → Command → Type 0
IsSeeded options command = (seed : ℕ) × (summary : Bool) × (command ≡ Once seed summary) × AreOptions options seed summary

once_is : (words options : List (List ℕ)) (command : Command) → words ≡ codes "once" ∷ options → IsSeeded options command → Spells words command
once_is words options command is h = subst (λ (c : Command). Spells words c) (sym h.2) (options, is, h.3)

pub once_spelled : (words options : List (List ℕ)) (word : List ℕ) (r : Option Command) → words ≡ word ∷ options → word ≡ codes "once" → IfSome r (λ command. IsSeeded options command) → IfSome r (λ command. Spells words command)
once_spelled words options word None is once h = h
once_spelled words options word (Some command) is once h = once_is words options command (is ∙ ap (λ (w : List ℕ). w ∷ options) once) h

-- the seed is the option that is left, and `--summary` was there or not
pub seed_is : (words rest : List (List ℕ)) (seed : ℕ) (summary found : Bool) → AreOptions words seed summary → TakesSummary words found rest → (found ≡ summary) × IsOption (codes "--seed") rest seed
seed_is words rest seed false true h f = absurd (no_summary words rest seed h f)
seed_is words rest seed true true h f = (refl, subst (λ (ws : List (List ℕ)). IsOption (codes "--seed") ws seed) (sym (left_is words h.0 rest seed h.1 h.2 f)) h.1)
seed_is words rest seed false false h f = (refl, subst (λ (ws : List (List ℕ)). IsOption (codes "--seed") ws seed) (sym f.0) h)
seed_is words rest seed true false h f = absurd (f.1 h.0 h.2)
