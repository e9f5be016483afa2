-- Steps of reading a line.
use Rattle.std.proofs.Common.{◌≡◌, ℕ, ◌+◌, ◌<◌, ◌≤◌, List, [], ◌∷◌, ◌++◌, length, get_or, map, Option, Some, Ok, refl, ap, ◌∙◌}
use Rattle.std.specs.Prelude.{slice_get, slice_set}
use Rattle.std.specs.Option.{option_map}
use Rattle.std.proofs.lemmas.Bool.{lt-ltb, le-leb}
use Rattle.std.proofs.lemmas.List.{map-set}
use Rattle.std.proofs.lemmas.Option.{slice_get-map, slice_get_read}
use Rattle.gl_calls.specs.declared.call.Call.{Call}
use Rattle.trace_text.specs.declared.trace.Line.{Line}
use Rattle.trace_text.specs.declared.trace.ThreadPlan.{ThreadPlan}
use Rattle.trace_words.specs.Lexing.{after_at}
use Rattle.trace_text.specs.Limits.{cost_of}
use Rattle.trace_text.specs.Reading.{Plan, plan, State, thread_of, after_of, sound_call, with_line, call_line}

some_is : {A : Type 0} (x y : A) (o : Option A) → o ≡ Some x → o ≡ Some y → x ≡ y
some_is x y o e f = cc

-- the plan of the thread at a place
pub plan_is : (items : List ThreadPlan) (t : ℕ) (item : ThreadPlan) (p : Plan) → t < length items → item ≡ get_or items t item → slice_get (map plan items) t ≡ Some p → plan item ≡ p
plan_is items t item p lt is h =
    some_is (plan item) p (slice_get (map plan items) t) (slice_get-map plan items t ∙ ap (option_map plan) (slice_get_read items (length items) t item refl lt is)) h

-- a line more in the thread at a place
pub one_line_more : (items : List ThreadPlan) (t : ℕ) (item new : ThreadPlan) (line : Line) (p : Plan) → t < length items → item ≡ get_or items t item → new.group ≡ item.group → new.lines.items ≡ item.lines.items ++ line ∷ []
    → slice_get (map plan items) t ≡ Some p → map plan (slice_set items t new) ≡ slice_set (map plan items) t (record { group = p.group; lines = p.lines ++ line ∷ [] })
one_line_more items t item new line p lt is same_group more h =
    let e : plan item ≡ p = plan_is items t item p lt is h in
    let n : plan new ≡ record { group = p.group; lines = p.lines ++ line ∷ [] } = rw (← e, ← same_group, ← more) refl in
    map-set plan items t new ∙ ap (slice_set (map plan items) t) n

-- a call's line that has no fault
pub call_goes_on : (s new : State) (first : List ℕ) (words : List (List ℕ)) (t : ℕ) (p : Plan) (after : Option ℕ) (call : Call)
    → thread_of s first ≡ Some (t, p) → after_of s p.group (after_at words).0 ≡ Ok after → sound_call (after_at words).1 ≡ Ok call
    → length p.lines < 65536 → s.cost + cost_of call ≤ 268435456 → new ≡ with_line (t, p) (record { number = length s.owners; after = after; call = call }) s
    → call_line s first words ≡ Ok new
unfolding call_line
call_goes_on s new first words t p after call thread_is after_is call_is lt le new_is =
    rw (thread_is, after_is, call_is, lt-ltb (length p.lines) 65536 lt, le-leb (s.cost + cost_of call) 268435456 le, new_is) refl

pub plan_at : (items : List ThreadPlan) (t : ℕ) (item : ThreadPlan) → slice_get items t ≡ Some item → slice_get (map plan items) t ≡ Some (plan item)
plan_at items t item h = slice_get-map plan items t ∙ ap (option_map plan) h
