-- Reading a trace line by line, with the first fault.
use Rattle.std.specs.Prelude.{◌≡◌, ℕ, ◌+◌, List, [], ◌∷◌, ◌++◌, Bool, true, false, ◌&&◌, ◌==◌, nat_le, nat_lt, length, map, Option, Some, None, option_and_then, Result, Ok, Err, if◌then◌else◌, codes, slice_get, slice_set}
use Rattle.std.specs.List.{list_all}
use Rattle.std.specs.Str.{bytes_eq}
use Rattle.trace_words.specs.declared.fault.Fault.{Fault}
use Rattle.trace_words.specs.declared.fault.Fault.TheVariants as fault
use Rattle.gl_calls.specs.declared.call.Call.{Call}
use Rattle.trace_text.specs.declared.trace.Line.{Line}
use Rattle.trace_text.specs.declared.trace.ThreadPlan.{ThreadPlan}
use Rattle.trace_text.specs.declared.phase.Phase.{Phase}
use Rattle.trace_text.specs.declared.phase.Phase.TheVariants as phase
use Rattle.trace_text.specs.declared.reader.Reader.{Reader}
use Rattle.trace_words.specs.declared.fault.Stop.{Stop}
use Rattle.trace_text.specs.declared.trace.Trace.{Trace}
use Rattle.trace_text.specs.declared.stop.ParseStop.{ParseStop}
use Rattle.trace_text.specs.declared.stop.ParseStop.TheVariants as stops
use Rattle.trace_words.specs.Faults.{◌>>=◌, or_fault, Fails}
use Rattle.trace_words.specs.Lexing.{lines_of, words_of, at_byte, after_at}
use Rattle.trace_words.specs.Numbers.{is_decimal, decimal_of}
use Rattle.trace_words.specs.Tables.{meaning}
use Rattle.trace_text.specs.CallWords.{call_words}
use Rattle.trace_text.specs.Grammar.{call_of}
use Rattle.trace_text.specs.Limits.{has_its_length, is_in_profile, cost_of}

-- a thread's plan without where it lies in memory
pub record Plan : Type 0 where
  pub group : ℕ
  pub lines : List Line

abbrev pub plan : ThreadPlan → Plan
plan p = record { group = p.group; lines = p.lines.items }

-- What was read: how far it is, the threads, the cost, and for each line number so far, from 0 on, the
-- group of the call on that line, if it has one.
pub record State : Type 0 where
  pub phase : Phase
  pub threads : List Plan
  pub cost : ℕ
  pub owners : List (Option ℕ)

abbrev pub at_start : State
at_start = record { phase = phase.Start; threads = []; cost = 0; owners = None ∷ [] }

abbrev pub state_of : Reader → State
state_of r = record { phase = r.phase; threads = map plan r.threads.items; cost = r.cost; owners = r.owners.items }

-- What a step returned, and the state that it left, are what reading gives, unless memory ran out.
abbrev pub Steps : Result (Unit {0}) Stop → State → Result State Fault → Type 0
Steps (Ok done) after read = read ≡ Ok after
Steps (Err e) after read = Fails e read

-- a line without a call
abbrev pub passed : State → State
passed s = record s { owners = s.owners ++ None ∷ [] }

-- ---- the lines before the body

-- `thread T group G`
unfoldable pub thread_numbers : List ℕ → Option (List ℕ × List ℕ)
thread_numbers line =
    option_and_then (λ first. if bytes_eq first.0 (codes "thread") then
    option_and_then (λ second. option_and_then (λ third.
    if bytes_eq third.0 (codes "group") && is_decimal second.0 && is_decimal third.1 then Some (second.0, third.1) else None)
    (at_byte 32 second.1))
    (at_byte 32 first.1)
    else None)
    (at_byte 32 line)

-- the group of the thread, if its number is the next one
abbrev pub group_of : ℕ → List ℕ → List ℕ → Option ℕ
group_of count number group =
    option_and_then (λ n. if n == count && nat_lt count 16 then
    option_and_then (λ g. if nat_le g 7 then Some g else None) (decimal_of group)
    else None)
    (decimal_of number)

unfoldable pub header_line : State → List ℕ → Result State Fault
header_line s line = if bytes_eq line (codes "begin") then Ok (passed (record s { phase = phase.Body })) else do
  numbers ← or_fault fault.Word (thread_numbers line)
  group ← or_fault fault.Profile (group_of (length s.threads) numbers.0 numbers.1)
  Ok (passed (record s { threads = s.threads ++ record { group = group; lines = [] } ∷ [] }))

-- ---- the lines of the body

-- the thread that a word numbers, with its plan
unfoldable pub thread_of : State → List ℕ → Option (ℕ × Plan)
thread_of s word = option_and_then (λ n. option_and_then (λ p. Some (n, p)) (slice_get s.threads n)) (decimal_of word)

abbrev pub is_owned : Option (Option ℕ) → ℕ → Bool
is_owned (Some (Some owner)) group = owner == group
is_owned _ group = false

-- the earlier line of the group that a word numbers
unfoldable pub earlier_line : State → ℕ → List ℕ → Option ℕ
earlier_line s group word = option_and_then (λ n. if is_owned (slice_get s.owners n) group then Some n else None) (decimal_of word)

-- the line that the call comes after, and the words from the call on
abbrev pub after_of : State → ℕ → Option (List ℕ) → Result (Option ℕ) Fault
after_of s group None = Ok None
after_of s group (Some word) = or_fault fault.Profile (earlier_line s group word) >>= λ n. Ok (Some n)

abbrev pub call_word_of : List (List ℕ) → Result Call Fault
call_word_of [] = Err fault.Word
call_word_of (word ∷ words) = or_fault fault.Word (meaning call_words word) >>= λ w. call_of w words

unfoldable pub sound_call : List (List ℕ) → Result Call Fault
sound_call words = do
  call ← call_word_of words
  if has_its_length call then (if is_in_profile call then Ok call else Err fault.Profile) else Err fault.Length

abbrev pub with_line : ℕ × Plan → Line → State → State
with_line thread line s = record s {
  threads = slice_set s.threads thread.0 (record { group = thread.1.group; lines = thread.1.lines ++ line ∷ [] });
  cost = s.cost + cost_of line.call;
  owners = s.owners ++ Some thread.1.group ∷ [];
}

unfoldable pub call_line : State → List ℕ → List (List ℕ) → Result State Fault
call_line s first words = do
  thread ← or_fault fault.Thread (thread_of s first)
  after ← after_of s thread.1.group (after_at words).0
  call ← sound_call (after_at words).1
  if nat_lt (length thread.1.lines) 65536 && nat_le (s.cost + cost_of call) 268435456
      then Ok (with_line thread (record { number = length s.owners; after = after; call = call }) s)
      else Err fault.TooLong

unfoldable pub body_line : State → List (List ℕ) → Result State Fault
body_line s [] = Err fault.Thread
body_line s (first ∷ words) =
    if bytes_eq first (codes "end")
    then (if length words == 0 then Ok (passed (record s { phase = phase.Ended })) else Err fault.Word)
    else call_line s first words

-- ---- any line

abbrev pub is_skipped : List ℕ → Bool
is_skipped [] = true
is_skipped (c ∷ cs) = c == 35

abbrev pub is_text : List ℕ → Bool
is_text line = list_all (λ c. nat_le 32 c && nat_le c 126) line

abbrev pub first_line : State → List ℕ → Result State Fault
first_line s line = if bytes_eq line (codes "angle-trace 1") then Ok (passed (record s { phase = phase.Header })) else Err fault.Word

abbrev pub in_phase : Phase → State → List ℕ → Result State Fault
in_phase phase.Start s line = first_line s line
in_phase phase.Header s line = header_line s line
in_phase phase.Body s line = body_line s (words_of line)
in_phase phase.Ended s line = Err fault.Word

unfoldable pub line_after : State → List ℕ → Result State Fault
line_after s line = if is_skipped line then Ok (passed s) else if is_text line then in_phase s.phase s line else Err fault.NotText

-- ---- the text

-- the number of a fault's kind
abbrev pub kind_of : Fault → ℕ
kind_of fault.NotText = 1
kind_of fault.Word = 2
kind_of fault.Count = 3
kind_of fault.Number = 4
kind_of fault.Data = 5
kind_of fault.Thread = 6
kind_of fault.Profile = 7
kind_of fault.TooLong = 8
kind_of fault.Length = 9

-- a fault: the number of its line, from 1, and its kind
pub record Place : Type 0 where
  pub line : ℕ
  pub kind : ℕ

abbrev pub at_line : ℕ → Fault → Place
at_line number fault = record { line = number; kind = kind_of fault }

abbrev pub or_place : {A B : Type 0} → ℕ → Result A Fault → (A → Result B Place) → Result B Place
or_place number (Ok x) f = f x
or_place number (Err fault) f = Err (at_line number fault)

unfoldable pub lines_after : State → List (List ℕ) → Result State Place
lines_after s [] = Ok s
lines_after s (line ∷ lines) = or_place (length s.owners) (line_after s line) (λ t. lines_after t lines)

-- a text that ends before `end` has its fault on the line after the last
abbrev pub at_end : Phase → State → Result (List Plan) Place
at_end phase.Ended s = Ok s.threads
at_end _ s = Err (at_line (length s.owners) fault.Word)

abbrev pub and_end : Result State Place → Result (List Plan) Place
and_end (Ok s) = at_end s.phase s
and_end (Err place) = Err place

-- the trace that a text spells, or its first fault
unfoldable pub trace_of : List ℕ → Result (List Plan) Place
trace_of text = if nat_le (length text) 67108864 then and_end (lines_after at_start (lines_of text)) else Err (at_line 0 fault.TooLong)

-- What parsing returned is what reading gives, unless memory ran out.
abbrev pub FailsAt : {A : Type 0} → ParseStop → Result A Place → Type 0
FailsAt stops.Memory read = Unit {0}
FailsAt (stops.Fault line kind) read = read ≡ Err (record { line = line; kind = kind })

abbrev pub GivesTrace : Result Trace ParseStop → Result (List Plan) Place → Type 0
GivesTrace (Ok trace) read = read ≡ Ok (map plan trace.threads.items)
GivesTrace (Err e) read = FailsAt e read

abbrev pub GivesState : Result Reader ParseStop → Result State Place → Type 0
GivesState (Ok reader) read = read ≡ Ok (state_of reader)
GivesState (Err e) read = FailsAt e read

abbrev pub StepsAt : Result (Unit {0}) ParseStop → State → Result State Place → Type 0
StepsAt (Ok done) after read = read ≡ Ok after
StepsAt (Err e) after read = FailsAt e read
