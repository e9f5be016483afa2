-- Lines with line feeds after them, and words with spaces between them, apart from how they are read.
use Rattle.std.specs.Prelude.{◌≡◌, ℕ, zero, suc, ◌<◌, ◌⊎◌, List, [], ◌∷◌, ◌++◌, length, true, false, not, ◌==◌}
use Rattle.std.specs.List.{list_all}
use Rattle.trace_words.specs.Lexing.{begins_with_space}

abbrev pub HasNoFeed : List ℕ → Type 0
HasNoFeed line = list_all (λ c. not (c == 10)) line ≡ true

-- The text is the lines, with a line feed after each; the last one may lack it, if it is not empty.
abbrev pub IsText : List ℕ → List (List ℕ) → Type 0
IsText text [] = text ≡ []
IsText text (line ∷ lines) = HasNoFeed line × (((rest : List ℕ) × (text ≡ line ++ 10 ∷ rest) × IsText rest lines) ⊎ ((text ≡ line) × (0 < length line) × (lines ≡ [])))

abbrev pub HasNoSpace : List ℕ → Type 0
HasNoSpace word = list_all (λ c. not (c == 32)) word ≡ true

-- that many spaces, and the rest
abbrev pub spaces : ℕ → List ℕ → List ℕ
spaces zero rest = rest
spaces (suc n) rest = 32 ∷ spaces n rest

-- The line is the words, with one or more spaces between any two of them.
abbrev pub IsSpaced : List ℕ → List (List ℕ) → Type 0
IsSpaced line [] = ⊥
IsSpaced line (word ∷ []) = HasNoSpace word × (line ≡ word)
IsSpaced line (word ∷ next ∷ words) = HasNoSpace word × (n : ℕ) × (rest : List ℕ) × (begins_with_space rest ≡ false) × (line ≡ word ++ 32 ∷ spaces n rest) × IsSpaced rest (next ∷ words)
