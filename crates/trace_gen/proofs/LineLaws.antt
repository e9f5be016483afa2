-- Lines that are written one after the other.
use Rattle.std.proofs.Common.{◌≡◌, ℕ, List, [], ◌∷◌, ◌++◌, refl, sym, ap, ◌∙◌, append_assoc}
use Rattle.std.specs.Prelude.{codes}
use Rattle.std.specs.Fmt.{decimal}
use Rattle.std.proofs.lemmas.List.{append-nil}
use Rattle.trace_gen.specs.Lines.{Words, line_text, lines_text}

pub one_line : (s t : List ℕ) (lines : List Words) (a : Words) → lines ≡ a ∷ [] → t ≡ s ++ line_text a → t ≡ s ++ lines_text lines
one_line s t lines a e h = h ∙ ap (λ (x : List ℕ). s ++ x) (sym (append-nil (line_text a))) ∙ ap (λ (ls : List Words). s ++ lines_text ls) (sym e)

next_line : (s t u : List ℕ) (a : Words) (lines : List Words) → t ≡ s ++ line_text a → u ≡ t ++ lines_text lines → u ≡ s ++ lines_text (a ∷ lines)
next_line s t u a lines h k = k ∙ ap (λ (x : List ℕ). x ++ lines_text lines) h ∙ append_assoc s (line_text a) (lines_text lines)

pub two_lines : (s t u : List ℕ) (lines : List Words) (a b : Words) → lines ≡ a ∷ b ∷ [] → t ≡ s ++ line_text a → u ≡ t ++ line_text b → u ≡ s ++ lines_text lines
two_lines s t u lines a b e h k = next_line s t u a (b ∷ []) h (one_line t u (b ∷ []) b refl k) ∙ ap (λ (ls : List Words). s ++ lines_text ls) (sym e)

pub three_lines : (s t u v : List ℕ) (lines : List Words) (a b c : Words) → lines ≡ a ∷ b ∷ c ∷ [] → t ≡ s ++ line_text a → u ≡ t ++ line_text b → v ≡ u ++ line_text c → v ≡ s ++ lines_text lines
three_lines s t u v lines a b c e h k l = next_line s t v a (b ∷ c ∷ []) h (two_lines t u v (b ∷ c ∷ []) b c refl k l) ∙ ap (λ (ls : List Words). s ++ lines_text ls) (sym e)

pub four_lines : (s t u v w : List ℕ) (lines : List Words) (a b c d : Words) → lines ≡ a ∷ b ∷ c ∷ d ∷ [] → t ≡ s ++ line_text a → u ≡ t ++ line_text b → v ≡ u ++ line_text c → w ≡ v ++ line_text d → w ≡ s ++ lines_text lines
four_lines s t u v w lines a b c d e h k l m = next_line s t w a (b ∷ c ∷ d ∷ []) h (three_lines t u v w (b ∷ c ∷ d ∷ []) b c d refl k l m) ∙ ap (λ (ls : List Words). s ++ lines_text ls) (sym e)

-- the end of a line that ends with `N,1`
pub step_end : (n : ℕ) → decimal n ++ codes ",1\n" ≡ (decimal n ++ codes ",1") ++ 10 ∷ []
step_end n = sym (append_assoc (decimal n) (codes ",1") (10 ∷ []))
