use Rattle.trace_run.proofs.Reading.{stop_refuses, gives_trace}
use Rattle.trace_run.proofs.once.trace_in.Goals as goal

pub returns-in-Ok-clause-gives : goal.returns-in-Ok-clause-gives
returns-in-Ok-clause-gives g c =
    gives_trace c.args.seed c.args.output _ _ c.in_ok-text.text.items c.deref.result.now c.in-Ok.trace.threads.items
    c.in_ok-text.ensures.brought c.deref.ensures.value c.in-Ok.ensures.spelled c.in-Ok.ensures.built

pub returns-in-Err-Fault-clause-unread : goal.returns-in-Err-Fault-clause-unread
returns-in-Err-Fault-clause-unread g c =
    stop_refuses c.args.seed c.args.output _ _ c.in_ok-text.text.items c.deref.result.now c.in-Err-Fault.line c.in-Err-Fault.kind
    c.in_ok-text.ensures.brought c.deref.ensures.value (rw c.in-Err-Fault.field-0-is at c.in-Err-Fault.ensures.refused)
