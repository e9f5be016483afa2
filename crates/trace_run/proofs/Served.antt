-- The threads of a trace that is not refused are served.
use Rattle.std.proofs.Common.{◌≡◌, ℕ, Bool, true, false, cond, List, [], ◌∷◌, Option, Some, None, min, refl, ap, arith}
use Rattle.std.specs.List.{All}
use Rattle.std.proofs.lemmas.List.Elements.{All-nil, All-cons}
use Rattle.gl_model.specs.Sizes.{HasItsData}
use Rattle.front_core.specs.Share.{is_built}
use Rattle.trace_text.specs.declared.trace.Line.{Line}
use Rattle.trace_text.specs.Reading.{Plan}
use Rattle.trace_text.specs.Orders.{IsTrace}
use Rattle.world_core.specs.World.{IsServed}
use Rattle.trace_run.specs.Runs.{first_of, first_unbuilt, unbuilt_line}
use Rattle.trace_run.proofs.Threads.{IsSound, one_of}

-- where the smaller one of two lines is none, there is neither
neither : (line other : Option ℕ) → first_of line other ≡ None → (line ≡ None) × (other ≡ None)
neither None other e = (refl, e)
neither (Some line) None e = absurd (cc)
neither (Some line) (Some other) e = absurd (cc)

abbrev IsBuilt : Line → Type 0
IsBuilt line = is_built line.call ≡ true

-- a line that is built, before others
built_next : (b : Bool) (number : ℕ) (rest : Option ℕ) → cond b rest (Some number) ≡ None → (b ≡ true) × (rest ≡ None)
built_next true number rest e = (refl, e)
built_next false number rest e = absurd (cc)

lines_built : (lines : List Line) → unbuilt_line lines ≡ None → All IsBuilt lines
lines_built [] none = All-nil IsBuilt
lines_built (line ∷ lines) none =
    let next = built_next (is_built line.call) line.number (unbuilt_line lines) none in
    All-cons IsBuilt line lines next.0 (lines_built lines next.1)

abbrev AreBuilt : Plan → Type 0
AreBuilt thread = All IsBuilt thread.lines

threads_built : (threads : List Plan) → first_unbuilt threads ≡ None → All AreBuilt threads
threads_built [] none = All-nil AreBuilt
threads_built (thread ∷ threads) none =
    let both = neither (unbuilt_line thread.lines) (first_unbuilt threads) none in
    All-cons AreBuilt thread threads (lines_built thread.lines both.0) (threads_built threads both.1)

pub are_served : (threads : List Plan) → IsTrace threads → first_unbuilt threads ≡ None → All IsSound threads → IsServed threads
are_served threads trace built sound = record {
  trace = trace;
  built = λ thread place line is.
      one_of IsBuilt is.plan.lines place line (one_of AreBuilt threads thread is.plan (threads_built threads built) is.is_thread) is.is_line;
  its_data = λ thread place line is.
      one_of (λ (l : Line). HasItsData l.call) is.plan.lines place line
      (one_of IsSound threads thread is.plan sound is.is_thread).its_data is.is_line;
}

-- the smaller one of three lines
pub first_of_three : (a b c : Option ℕ) → first_of a (first_of b c) ≡ first_of (first_of a b) c
first_of_three None b c = refl
first_of_three (Some a) None c = refl
first_of_three (Some a) (Some b) None = refl
first_of_three (Some a) (Some b) (Some c) = let e : min a (min b c) ≡ min (min a b) c = omega arith in ap (λ (n : ℕ). Some n) e

pub first_of_none : (a : Option ℕ) → first_of a None ≡ a
first_of_none None = refl
first_of_none (Some a) = refl
