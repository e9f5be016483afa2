-- What a thread of a trace has asked of its group, by what its pass has seen.
use Rattle.std.specs.Prelude.{◌≡◌, ℕ, ◌≤◌, ◌<◌, Bool, true, false, List, ◌∷◌, ◌++◌, length, map, take, slice_get, Some}
use mathlib.Core.List.{IsPrefix}
use Rattle.gl_calls.specs.declared.reply.Reply.{Reply}
use Rattle.gl_calls.specs.declared.reply.Entry.{Entry}
use Rattle.trace_text.specs.declared.trace.Line.{Line}
use Rattle.turnstile.specs.Histories.{own}
use Rattle.front_core.specs.Front.{entry_of}
use Rattle.play_model.specs.Plays.{asked_by, asked_on}
use Rattle.group_gpu.specs.declared.noted_call.NotedCall.{NotedCall}
use Rattle.group_gpu.specs.declared.noted_call.NotedCall.TheVariants.{Answered}
use Rattle.group_gpu.specs.Groups.{names_of, calls_of, is_answered, EndsWith}

-- the numbers of a thread's lines rise
abbrev pub Rise : List Line → Type 0
Rise lines = (i j : ℕ) (a b : Line) → slice_get lines i ≡ Some a → slice_get lines j ≡ Some b → i < j → a.number < b.number

-- the line that a line waits for was answered, if there is one
abbrev pub IsReady : List Entry → Line → Type 0
IsReady history line = (number : ℕ) → line.after ≡ Some number → is_answered history number ≡ true

-- an entry behind the one that its line waits for
abbrev pub IsBehind : List Line → List Entry → Entry → Type 0
IsBehind lines before entry =
    (place : ℕ) (line : Line) → slice_get lines place ≡ Some line → line.number ≡ entry.line → IsReady before line

-- The entries that name a pass are the calls of a thread's first lines, so many, in order, each behind the one that its line
-- waits for, and there are no others.
pub record HasMade (thread : ℕ) (lines : List Line) (pass : ℕ) (seen : List NotedCall) (count : ℕ) : Type 0 where
  pub few : count ≤ length lines
  pub in_order : map asked_by (calls_of (own names_of pass seen)) ≡ map (asked_on thread) (take count lines)
  pub behind : (before rest : List NotedCall) (e : Entry) → seen ≡ before ++ Answered pass e ∷ rest → IsBehind lines (calls_of before) e

-- the same of some first lines, and of all where that is said
pub record HasMadeSome (thread : ℕ) (lines : List Line) (pass : ℕ) (seen : List NotedCall) (all : Bool) : Type 0 where
  pub count : ℕ
  pub made : HasMade thread lines pass seen count
  pub all_made : all ≡ true → count ≡ length lines

-- A pass has made the call of a line, which was ready.
pub record MadeCall (thread : ℕ) (line : Line) (pass : ℕ) (before now : List NotedCall) : Type 0 where
  pub reply : Reply
  pub seen : List NotedCall
  pub begins : IsPrefix before seen
  pub same : own names_of pass seen ≡ own names_of pass before
  pub ready : IsReady (calls_of seen) line
  pub ends : EndsWith pass seen now (entry_of thread line.number line.call reply)

-- a pass has asked for a line, and this says whether it was answered; where it was not, the pass made no call
pub record HasAsked (thread : ℕ) (line : Line) (pass : ℕ) (before now : List NotedCall) (answered : Bool) : Type 0 where
  pub yes : answered ≡ true → MadeCall thread line pass before now
  pub no : answered ≡ false → own names_of pass now ≡ own names_of pass before
