-- What a text that is to be run tells: the trace, or why it is refused.
use Rattle.std.proofs.Common.{◌≡◌, ℕ, List, map, Option, Some, None, refl, sym, ap, ◌∙◌, subst, inl}
use Rattle.trace_text.specs.declared.trace.ThreadPlan.{ThreadPlan}
use Rattle.trace_text.specs.declared.stop.ParseStop.{ParseStop}
use Rattle.trace_text.specs.declared.stop.ParseStop.TheVariants as stops
use Rattle.trace_text.specs.Reading.{plan, trace_of, FailsAt}
use Rattle.trace_text.specs.Traces.{Spells}
use Rattle.trace_run.specs.declared.saying.Output.{Output}
use Rattle.trace_run.specs.Runs.{first_unbuilt}
use Rattle.trace_run.specs.Once.{Gives, IsBrought, IsRefusedAt, IsRefusal, StopsAt}

-- a line that is not built stops a text
pub unbuilt_stops : (text : List ℕ) (threads seen : List ThreadPlan) (line : ℕ) → Spells text (map plan threads) → seen ≡ threads →
    first_unbuilt (map plan seen) ≡ Some line → StopsAt text (stops.Fault line 10)
unbuilt_stops text threads seen line spelled seen_is unbuilt =
    IsRefusedAt.unbuilt (map plan threads) spelled
    (subst (λ (l : List ThreadPlan). first_unbuilt (map plan l) ≡ Some line) seen_is unbuilt) refl

-- where there is none, each call is built
pub built_of : (threads seen : List ThreadPlan) → seen ≡ threads → None ≡ first_unbuilt (map plan seen) →
    first_unbuilt (map plan threads) ≡ None
built_of threads seen same none = ap (λ (l : List ThreadPlan). first_unbuilt (map plan l)) (sym same) ∙ sym none

pub stop_refuses : (seed : ℕ) (output : Output) (left left_after : Option (List ℕ)) (text read : List ℕ) (line kind : ℕ) →
    IsBrought seed output left left_after text → read ≡ text → IsRefusedAt read line kind → IsRefusal seed output left left_after line kind
stop_refuses seed output left left_after text read line kind brought same refused =
    inl (text, brought, subst (λ (t : List ℕ). IsRefusedAt t line kind) same refused)

pub gives_trace : (seed : ℕ) (output : Output) (left left_after : Option (List ℕ)) (text read : List ℕ) (threads : List ThreadPlan) →
    IsBrought seed output left left_after text → read ≡ text → Spells read (map plan threads) → first_unbuilt (map plan threads) ≡ None →
    Gives seed output left left_after (map plan threads)
gives_trace seed output left left_after text read threads brought same spelled built = record {
  text = text;
  brought = brought;
  spelled = subst (λ (t : List ℕ). Spells t (map plan threads)) same spelled;
  built = built;
}
