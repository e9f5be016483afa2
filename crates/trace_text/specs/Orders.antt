-- The order of a trace's lines, over all of its threads.
use Rattle.std.specs.Prelude.{◌≡◌, ℕ, ◌<◌, ◌≤◌, List, length, Some, slice_get}
use Rattle.trace_text.specs.declared.trace.Line.{Line}
use Rattle.trace_text.specs.Reading.{Plan}

-- a line of a thread, at a place among its lines
pub record IsLineOf (threads : List Plan) (thread place : ℕ) (line : Line) : Type 0 where
  pub plan : Plan
  pub is_thread : slice_get threads thread ≡ Some plan
  pub is_line : slice_get plan.lines place ≡ Some line

-- a thread of the group has a call on the line of this number
pub record HasLine (threads : List Plan) (group number : ℕ) : Type 0 where
  pub thread : ℕ
  pub place : ℕ
  pub line : Line
  pub is : IsLineOf threads thread place line
  pub of_group : is.plan.group ≡ group
  pub numbered : line.number ≡ number

-- Threads as a text spells them: few, each of a group from 0 to 7; the numbers of a thread's lines rise, no line has calls of two
-- threads, and a line that is waited for is an earlier one of the same group.
pub record IsTrace (threads : List Plan) : Type 0 where
  pub few : length threads ≤ 16
  pub low : (thread : ℕ) (plan : Plan) → slice_get threads thread ≡ Some plan → plan.group < 8
  pub rises : (thread i j : ℕ) (a b : Line) → IsLineOf threads thread i a → IsLineOf threads thread j b → i < j → a.number < b.number
  pub apart : (t u i j : ℕ) (a b : Line) → IsLineOf threads t i a → IsLineOf threads u j b → a.number ≡ b.number → t ≡ u
  pub waits : (thread place number : ℕ) (line : Line) (is : IsLineOf threads thread place line) → line.after ≡ Some number →
      (number < line.number) × HasLine threads is.plan.group number
