-- The commands, and the words that spell them.
use Rattle.std.specs.Prelude.{◌≡◌, ◌≢◌, length, slice_index, ℕ, ◌<◌, ◌≤◌, ◌^◌, ◌⊎◌, List, [], ◌∷◌, ◌++◌, Bool, true, false, codes}
use Rattle.std.specs.Fmt.{decimal}
use Rattle.command_line.specs.declared.command.Command.{Command}
use Rattle.command_line.specs.declared.command.Command.TheVariants.{Once, Threads, Gen}

-- the word is the number's decimal digits
abbrev pub IsNumber : List ℕ → ℕ → Type 0
IsNumber word n = (n < 2 ^ 64) × (word ≡ decimal n)

-- neither a sign nor a zero stands in front of a digit
abbrev pub StartsPlainly : List ℕ → Type 0
StartsPlainly word = (0 < length word) × (slice_index word 0 ≢ 43) × (slice_index word 0 ≡ 48 → length word ≡ 1)

-- an option and its number: two words, or one word with `=` between them
abbrev pub IsOption : List ℕ → List (List ℕ) → ℕ → Type 0
IsOption name words n = (n < 2 ^ 64) × ((words ≡ name ∷ decimal n ∷ []) ⊎ (words ≡ (name ++ 61 ∷ decimal n) ∷ []))

-- the other words, with `--summary` before or behind them
abbrev pub IsWithSummary : List (List ℕ) → List (List ℕ) → Type 0
IsWithSummary words others = (words ≡ codes "--summary" ∷ others) ⊎ (words ≡ others ++ codes "--summary" ∷ [])

-- whether `--summary` is the first or the last word, and what is left without it
abbrev pub TakesSummary : List (List ℕ) → Bool → List (List ℕ) → Type 0
TakesSummary words true rest = IsWithSummary words rest
TakesSummary words false rest = (rest ≡ words) × ((others : List (List ℕ)) → ¬ IsWithSummary words others)

-- the options of `once`
abbrev pub AreOptions : List (List ℕ) → ℕ → Bool → Type 0
AreOptions words seed false = IsOption (codes "--seed") words seed
AreOptions words seed true = (others : List (List ℕ)) × IsOption (codes "--seed") others seed × IsWithSummary words others

-- the words of `threads`: 1 to 16 workers
abbrev pub AreWorkers : List (List ℕ) → ℕ → Type 0
AreWorkers words workers = IsOption (codes "--workers") words workers × (1 ≤ workers) × (workers ≤ 16)

-- the words spell the command
abbrev pub Spells : List (List ℕ) → Command → Type 0
Spells words (Once seed summary) = (options : List (List ℕ)) × (words ≡ codes "once" ∷ options) × AreOptions options seed summary
Spells words (Threads workers) = (options : List (List ℕ)) × (words ≡ codes "threads" ∷ options) × AreWorkers options workers
Spells words (Gen number) = (number < 2 ^ 64) × (words ≡ codes "gen" ∷ decimal number ∷ [])
