use Rattle.std.proofs.Common.{map, sym}
use Rattle.trace_text.specs.Reading.{plan}
use Rattle.trace_run.proofs.Threads.{threads_sound}
use Rattle.trace_run.proofs.Served.{are_served}
use Rattle.trace_run.proofs.Reading.{unbuilt_stops, built_of}
use Rattle.trace_run.proofs.once.served_trace.Goals as goal

pub returns-in-Some-clause-refused : goal.returns-in-Some-clause-refused
returns-in-Some-clause-refused c =
    unbuilt_stops c.args.text.now c.in_ok-trace.trace.threads.items c.deref.result.now c.in-Some.line c.in_ok-trace.ensures.spelled
    c.deref.ensures.value (sym c.in-Some.ensures)

pub returns-in-None-clause-served : goal.returns-in-None-clause-served
returns-in-None-clause-served c =
    are_served (map plan c.in_ok-trace.trace.threads.items) (c.traces_are_in_order.ensures c.args.text.now _ c.in_ok-trace.ensures.spelled)
    (built_of c.in_ok-trace.trace.threads.items c.deref.result.now c.deref.ensures.value c.in-None.ensures)
    (threads_sound c.args.text.now (map plan c.in_ok-trace.trace.threads.items) c.in_ok-trace.ensures.spelled)
