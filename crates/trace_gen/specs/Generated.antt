-- The generated trace: its words and its text.
use Rattle.std.specs.Prelude.{◌≡◌, ℕ, zero, suc, List, [], ◌∷◌, ◌++◌, codes, map}
use Rattle.rand_core.specs.Stream.{Stream, next_u64}
use Rattle.rand_core.specs.Steps.{first_words}
use Rattle.rand_xoshiro.specs.SplitMix64.{splitmix_seed}
use Rattle.rand_xoshiro.specs.Xoshiro256.{of_seed, plus_plus}
use Rattle.trace_text.specs.Reading.{Plan}
use Rattle.trace_text.specs.Traces.{Spells}
use Rattle.trace_gen.specs.Lines.{Words, lines_text, header, first_lines, drawn_lines, last_lines}

-- of each of the four threads in their order
abbrev pub of_threads : (ℕ → List Words) → List Words
of_threads lines = lines 0 ++ lines 1 ++ lines 2 ++ lines 3

-- a round takes one word for each of the four threads
unfoldable pub round_lines : ℕ → ℕ → ℕ → ℕ → List Words
round_lines w0 w1 w2 w3 = drawn_lines 0 w0 ++ drawn_lines 1 w1 ++ drawn_lines 2 w2 ++ drawn_lines 3 w3

-- the rounds for which there are words
unfoldable pub rounds : List ℕ → List Words
rounds (w0 ∷ w1 ∷ w2 ∷ w3 ∷ words) = round_lines w0 w1 w2 w3 ++ rounds words
rounds _ = []

-- the lines of the calls
unfoldable pub call_lines : List ℕ → List Words
call_lines words = of_threads first_lines ++ rounds words ++ of_threads last_lines

-- all lines of the trace that words make
unfoldable pub generated_lines : List ℕ → List Words
generated_lines words = header ++ call_lines words ++ (codes "end" ∷ []) ∷ []

-- the text of the trace that words make
unfoldable pub generated_text : List ℕ → List ℕ
generated_text words = lines_text (generated_lines words)

-- the first 2000 words of the generator that a number seeds: those of 500 rounds
unfoldable pub words_of_number : ℕ → List ℕ
words_of_number number = first_words plus_plus 2000 (of_seed (splitmix_seed 32 number))

-- what is left of a stream after so many words
abbrev pub after_words : ℕ → Stream → Stream
after_words zero s = s
after_words (suc n) s = after_words n (next_u64 s).1

-- the round of the next four words
abbrev pub next_round : Stream → List Words
next_round s = round_lines (next_u64 s).0 (next_u64 (after_words 1 s)).0 (next_u64 (after_words 2 s)).0 (next_u64 (after_words 3 s)).0

-- the next words of a stream
unfoldable pub stream_words : ℕ → Stream → List ℕ
stream_words zero s = []
stream_words (suc n) s = (next_u64 s).0 ∷ stream_words n (next_u64 s).1

-- the text spells a trace of four threads, two in share group 0 and two in share group 1
abbrev pub IsTraceOfFour : List ℕ → Type 0
IsTraceOfFour text = (threads : List Plan) × Spells text threads × (map (λ plan. plan.group) threads ≡ 0 ∷ 0 ∷ 1 ∷ 1 ∷ [])
