-- What the threads of one share group have played.
use Rattle.std.specs.Prelude.{◌≡◌, ℕ, ◌≤◌, Bool, true, List, length, map, take, slice_get, Some, Contains}
use Rattle.std.specs.List.{All}
use Rattle.gl_calls.specs.declared.reply.Entry.{Entry}
use Rattle.gl_model.specs.Legal.{IsLegal}
use Rattle.trace_text.specs.declared.trace.Line.{Line}
use Rattle.trace_text.specs.Reading.{Plan}
use Rattle.play_model.specs.Plays.{StandBehind, asked_by, asked_on, entries_of, members}
use Rattle.group_gpu.specs.declared.noted_call.NotedCall.{NotedCall}
use Rattle.group_gpu.specs.Groups.{pass_of}
use Rattle.trace_threads.specs.Lines.{HasMadeSome}

-- the first lines of a thread, so many, were answered in order; all of them, where that is said
pub record AreFirst (thread : ℕ) (lines : List Line) (history : List Entry) (all : Bool) : Type 0 where
  pub count : ℕ
  pub few : count ≤ length lines
  pub in_order : map asked_by (entries_of thread history) ≡ map (asked_on thread) (take count lines)
  pub all_answered : all ≡ true → count ≡ length lines

-- A group's history is legal, and has of its own threads their first lines in order, each once and behind the one that it waits for,
-- and nothing else; all of them, where that is said.
pub record GroupHasPlayed (threads : List Plan) (group : ℕ) (history : List Entry) (all : Bool) : Type 0 where
  pub legal : IsLegal (members threads group) history
  pub own : All (λ e. Contains (members threads group) e.thread) history
  pub behind : StandBehind threads history
  pub answered : (thread : ℕ) (plan : Plan) → slice_get threads thread ≡ Some plan → plan.group ≡ group →
      AreFirst thread plan.lines history all

-- each thread of the group, from one on, has made its first lines by its pass
abbrev pub HaveMade : List Plan → ℕ → ℕ → List NotedCall → Bool → Type 0
HaveMade threads group from seen all =
    (thread : ℕ) (plan : Plan) → slice_get threads thread ≡ Some plan → plan.group ≡ group → from ≤ thread →
    HasMadeSome thread plan.lines (pass_of (members threads group) thread) seen all
