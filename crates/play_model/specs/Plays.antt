-- What the threads of a trace have asked of their share groups, and what was answered.
use Rattle.std.specs.Prelude.{◌≡◌, ◌≢◌, ℕ, suc, ◌+◌, ◌≤◌, ◌==◌, Bool, true, if◌then◌else◌, Some}
use Rattle.std.specs.Prelude.{List, [], ◌∷◌, ◌++◌, length, map, take, Contains, slice_get, slice_set}
use Rattle.std.specs.List.{All, filter, list_any}
use Rattle.gl_calls.specs.declared.call.Call.{Call}
use Rattle.gl_calls.specs.declared.reply.Reply.{Reply}
use Rattle.gl_calls.specs.declared.reply.Entry.{Entry}
use Rattle.gl_model.specs.Legal.{IsLegal}
use Rattle.trace_text.specs.declared.trace.Line.{Line}
use Rattle.trace_text.specs.Reading.{Plan}
use Rattle.trace_text.specs.Orders.{IsLineOf}

-- how many lines of each thread were answered, and what each group answered, in order
pub record Play : Type 0 where
  pub done : List ℕ
  pub histories : ℕ → List Entry

-- no line was answered
abbrev pub none_done : List Plan → List ℕ
none_done threads = map (λ plan. 0) threads

abbrev pub opening_play : List Plan → Play
opening_play threads = record { done = none_done threads; histories = λ group. [] }

-- What is asked

-- by which thread a call is made, on which line, and the call
pub record Asked : Type 0 where
  pub thread : ℕ
  pub line : ℕ
  pub call : Call

abbrev pub asked_by : Entry → Asked
asked_by entry = record { thread = entry.thread; line = entry.line; call = entry.call }

abbrev pub asked_on : ℕ → Line → Asked
asked_on thread line = record { thread = thread; line = line.number; call = line.call }

-- the entries of a thread
abbrev pub entries_of : ℕ → List Entry → List Entry
entries_of thread history = filter (λ e. e.thread == thread) history

-- the entry of a thread's line
abbrev pub entry_on : ℕ → Line → Reply → Entry
entry_on thread line reply = record { thread = thread; line = line.number; call = line.call; reply = reply }

-- The threads of a group

abbrev pub members_from : ℕ → List Plan → ℕ → List ℕ
members_from first [] group = []
members_from first (plan ∷ plans) group =
    if plan.group == group then first ∷ members_from (suc first) plans group else members_from (suc first) plans group

-- the numbers of the threads of a group, in rising order
abbrev pub members : List Plan → ℕ → List ℕ
members threads group = members_from 0 threads group

-- What may be asked next

-- the call on the line of this number was answered
abbrev pub is_answered : List Entry → ℕ → Bool
is_answered history number = list_any (λ e. e.line == number) history

-- the line waits for none, or for one that was answered
abbrev pub IsReady : List Entry → Line → Type 0
IsReady history line = (number : ℕ) → line.after ≡ Some number → is_answered history number ≡ true

-- the next line of a thread
pub record IsNext (threads : List Plan) (done : List ℕ) (thread : ℕ) (line : Line) : Type 0 where
  pub place : ℕ
  pub at : slice_get done thread ≡ Some place
  pub is : IsLineOf threads thread place line

-- the next line of a thread may be asked
pub record MayPlay (threads : List Plan) (p : Play) (thread : ℕ) : Type 0 where
  pub line : Line
  pub next : IsNext threads p.done thread line
  pub ready : IsReady (p.histories next.is.plan.group) line

-- all lines of a thread were answered
pub record HasEnded (threads : List Plan) (done : List ℕ) (thread : ℕ) : Type 0 where
  pub plan : Plan
  pub is_thread : slice_get threads thread ≡ Some plan
  pub all : slice_get done thread ≡ Some (length plan.lines)

-- A thread's next line was ready, and its group answered it: the group's history has that entry more, and is legal. No other history
-- has changed.
pub record Plays (threads : List Plan) (p q : Play) (thread : ℕ) : Type 0 where
  pub may : MayPlay threads p thread
  pub reply : Reply
  pub history : q.histories may.next.is.plan.group ≡ p.histories may.next.is.plan.group ++ entry_on thread may.line reply ∷ []
  pub others : (group : ℕ) → group ≢ may.next.is.plan.group → q.histories group ≡ p.histories group
  pub legal : IsLegal (members threads may.next.is.plan.group) (q.histories may.next.is.plan.group)
  pub done : q.done ≡ slice_set p.done thread (may.next.place + 1)

-- What was played

-- an entry behind the one that its line waits for
abbrev pub IsBehind : List Plan → List Entry → Entry → Type 0
IsBehind threads before e =
    (place number : ℕ) (line : Line) → IsLineOf threads e.thread place line → line.number ≡ e.line → line.after ≡ Some number →
    is_answered before number ≡ true

-- each entry of a history stands behind the one that its line waits for
abbrev pub StandBehind : List Plan → List Entry → Type 0
StandBehind threads history = (before rest : List Entry) (e : Entry) → history ≡ before ++ e ∷ rest → IsBehind threads before e

-- the first lines of a thread, so many, are what its group answered of it, in order
pub record AreAnswered (threads : List Plan) (p : Play) (thread : ℕ) (plan : Plan) (count : ℕ) : Type 0 where
  pub few : count ≤ length plan.lines
  pub in_order : map asked_by (entries_of thread (p.histories plan.group)) ≡ map (asked_on thread) (take count plan.lines)

-- The history of each group is legal, and has of its own threads their first lines in order, each once and behind the one that it waits
-- for, and nothing else.
pub record HasPlayed (threads : List Plan) (p : Play) : Type 0 where
  pub legal : (group : ℕ) → IsLegal (members threads group) (p.histories group)
  pub own : (group : ℕ) → All (λ e. Contains (members threads group) e.thread) (p.histories group)
  pub behind : (group : ℕ) → StandBehind threads (p.histories group)
  pub each : length p.done ≡ length threads
  pub answered : (thread count : ℕ) (plan : Plan) → slice_get threads thread ≡ Some plan → slice_get p.done thread ≡ Some count →
      AreAnswered threads p thread plan count

-- the next line of a thread, and no unanswered line of another has a smaller number
pub record IsLeast (threads : List Plan) (done : List ℕ) (thread : ℕ) (line : Line) : Type 0 where
  pub next : IsNext threads done thread line
  pub least : (other : ℕ) (its : Line) → IsNext threads done other its → line.number ≤ its.number

-- a thread has a line that was not answered
pub record HasLineLeft (threads : List Plan) (done : List ℕ) : Type 0 where
  pub thread : ℕ
  pub line : Line
  pub next : IsNext threads done thread line

-- a thread whose next line may be asked
pub record SomeMayPlay (threads : List Plan) (p : Play) : Type 0 where
  pub thread : ℕ
  pub may : MayPlay threads p thread
