-- What a text of a trace is: a relation between a text and the trace that it spells, apart from how it is read.
use Rattle.std.specs.Prelude.{◌≡◌, ℕ, ◌+◌, ◌<◌, ◌≤◌, ◌^◌, ◌⊎◌, List, [], ◌∷◌, ◌++◌, length, true, false, Option, Some, None, codes, slice_get}
use Rattle.std.specs.Fmt.{decimal}
use Rattle.gl_calls.specs.declared.call.Call.{Call}
use Rattle.trace_text.specs.declared.call_word.CallWord.{CallWord}
use Rattle.trace_text.specs.declared.phase.Phase.{Phase}
use Rattle.trace_text.specs.declared.phase.Phase.TheVariants as phase
use Rattle.trace_text.specs.Spacing.{IsText, IsSpaced}
use Rattle.trace_text.specs.CallWords.{call_words}
use Rattle.trace_text.specs.Limits.{has_its_length, is_in_profile, cost_of}
use Rattle.trace_text.specs.Reading.{Plan, State, at_start, passed, with_line, is_skipped, is_text}
use Rattle.trace_text.specs.Spelling.{StandsFor, SpelledCall}

-- the line before the call: none, or a line of the group with a call
abbrev pub IsAfter : State → ℕ → Option ℕ → Type 0
IsAfter s group None = Unit {0}
IsAfter s group (Some n) = (n < 2 ^ 64) × (slice_get s.owners n ≡ Some (Some group))

abbrev pub after_words : Option ℕ → List (List ℕ)
after_words None = []
after_words (Some n) = (64 ∷ decimal n) ∷ []

-- The words are those of a call's line: the thread, the line before it, the call word and the arguments.
pub record IsCallLine (s : State) (words : List (List ℕ)) (t : State) : Type 0 where
  pub thread : ℕ
  pub plan : Plan
  pub after : Option ℕ
  pub word : List ℕ
  pub call_word : CallWord
  pub arguments : List (List ℕ)
  pub call : Call
  pub spelled : words ≡ decimal thread ∷ after_words after ++ word ∷ arguments
  pub is_thread : slice_get s.threads thread ≡ Some plan
  pub is_after : IsAfter s plan.group after
  pub is_word : StandsFor call_words word call_word
  pub is_call : SpelledCall call_word arguments call
  pub length_fits : has_its_length call ≡ true
  pub in_profile : is_in_profile call ≡ true
  pub calls_fit : length plan.lines < 65536
  pub cost_fits : s.cost + cost_of call ≤ 268435456
  pub small : thread < 2 ^ 64
  pub new : t ≡ with_line (thread, plan) (record { number = length s.owners; after = after; call = call }) s

-- `thread T group G`
abbrev pub thread_text : List ℕ → List ℕ → List ℕ
thread_text number group = codes "thread" ++ 32 ∷ (number ++ 32 ∷ (codes "group" ++ 32 ∷ group))

pub record IsThreadLine (s : State) (line : List ℕ) (t : State) : Type 0 where
  pub group : ℕ
  pub spelled : line ≡ thread_text (decimal (length s.threads)) (decimal group)
  pub threads_fit : length s.threads < 16
  pub group_fits : group ≤ 7
  pub new : t ≡ passed (record s { threads = s.threads ++ record { group = group; lines = [] } ∷ [] })

abbrev pub IsBodyLine : State → List (List ℕ) → State → Type 0
IsBodyLine s words t = ((words ≡ codes "end" ∷ []) × (t ≡ passed (record s { phase = phase.Ended }))) ⊎ IsCallLine s words t

abbrev pub IsPhaseLine : Phase → State → List ℕ → State → Type 0
IsPhaseLine phase.Start s line t = (line ≡ codes "angle-trace 1") × (t ≡ passed (record s { phase = phase.Header }))
IsPhaseLine phase.Header s line t = ((line ≡ codes "begin") × (t ≡ passed (record s { phase = phase.Body }))) ⊎ IsThreadLine s line t
IsPhaseLine phase.Body s line t = (words : List (List ℕ)) × IsSpaced line words × IsBodyLine s words t
IsPhaseLine phase.Ended s line t = ⊥

-- the line leads from one state to the next
abbrev pub IsLine : State → List ℕ → State → Type 0
IsLine s line t = ((is_skipped line ≡ true) × (t ≡ passed s)) ⊎ ((is_skipped line ≡ false) × (is_text line ≡ true) × IsPhaseLine s.phase s line t)

abbrev pub AreLines : State → List (List ℕ) → State → Type 0
AreLines s [] t = s ≡ t
AreLines s (line ∷ lines) t = (middle : State) × IsLine s line middle × AreLines middle lines t

-- The text spells the threads: its lines lead from the start to the end.
pub record Spells (text : List ℕ) (threads : List Plan) : Type 0 where
  pub lines : List (List ℕ)
  pub last : State
  pub fits : length text ≤ 67108864
  pub is_text : IsText text lines
  pub are_lines : AreLines at_start lines last
  pub ended : last.phase ≡ phase.Ended
  pub threads_are : last.threads ≡ threads
