use Rattle.trace_run.proofs.Ends.{ok, usage, trace, refused, made_refused, too_long, answered, made_answered, read_fault, cut_off, lost, silent, usage_alone}
use Rattle.trace_run.proofs.once.run_once.Goals as goal

pub returns-clause-ok : goal.returns-clause-ok
returns-clause-ok g c = ok _ _ _ _ _ _ _ _ _ _ _ _ _ c.outcome-said.result.0 c.outcome-said.ensures.said c.say-status.ensures

pub returns-clause-usage : goal.returns-clause-usage
returns-clause-usage g c =
    λ is. (usage _ _ _ _ _ _ _ _ _ _ _ _ _ c.outcome-said.result.0 c.outcome-said.ensures.said c.say-status.ensures is).0

pub returns-clause-usage_line : goal.returns-clause-usage_line
returns-clause-usage_line g c =
    λ is. (usage _ _ _ _ _ _ _ _ _ _ _ _ _ c.outcome-said.result.0 c.outcome-said.ensures.said c.say-status.ensures is).1

pub returns-clause-trace : goal.returns-clause-trace
returns-clause-trace g c = trace _ _ _ _ _ _ _ _ _ _ _ _ _ c.outcome-said.result.0 c.outcome-said.ensures.said c.say-status.ensures

pub returns-clause-refused : goal.returns-clause-refused
returns-clause-refused g c = refused _ _ _ _ _ _ _ _ _ _ _ _ _ c.outcome-said.result.0 c.outcome-said.ensures.said c.say-status.ensures

pub returns-clause-too_long : goal.returns-clause-too_long
returns-clause-too_long g c = too_long _ _ _ _ _ _ _ _ _ _ _ _ _ c.outcome-said.result.0 c.outcome-said.ensures.said c.say-status.ensures

pub returns-clause-answered : goal.returns-clause-answered
returns-clause-answered g c = answered _ _ _ _ _ _ _ _ _ _ _ _ _ c.outcome-said.result.0 c.outcome-said.ensures.said c.say-status.ensures

pub returns-clause-made_refused : goal.returns-clause-made_refused
returns-clause-made_refused g c =
    made_refused _ _ _ _ _ _ _ _ _ _ _ _ _ c.outcome-said.result.0 c.outcome-said.ensures.said c.say-status.ensures

pub returns-clause-made_answered : goal.returns-clause-made_answered
returns-clause-made_answered g c =
    made_answered _ _ _ _ _ _ _ _ _ _ _ _ _ c.outcome-said.result.0 c.outcome-said.ensures.said c.say-status.ensures

pub returns-clause-read_fault : goal.returns-clause-read_fault
returns-clause-read_fault g c =
    read_fault _ _ _ _ _ _ _ _ _ _ _ _ _ c.outcome-said.result.0 c.outcome-said.ensures.said c.say-status.ensures

pub returns-clause-write_fault : goal.returns-clause-write_fault
returns-clause-write_fault g c =
    λ is. (cut_off _ _ _ _ _ _ _ _ _ _ _ _ _ c.outcome-said.result.0 c.outcome-said.ensures.said c.say-status.ensures is).0

pub returns-clause-cut_off : goal.returns-clause-cut_off
returns-clause-cut_off g c =
    λ is. (cut_off _ _ _ _ _ _ _ _ _ _ _ _ _ c.outcome-said.result.0 c.outcome-said.ensures.said c.say-status.ensures is).1

pub returns-clause-lost : goal.returns-clause-lost
returns-clause-lost g c = lost _ _ _ _ _ _ _ _ _ _ _ _ _ c.outcome-said.result.0 c.outcome-said.ensures.said c.say-status.ensures

pub returns-clause-silent : goal.returns-clause-silent
returns-clause-silent g c = silent c.outcome-said.result.0 c.say-status.ensures

pub returns-clause-served : goal.returns-clause-served
returns-clause-served g c =
    λ spells is. (usage _ _ _ _ _ _ _ _ _ _ _ _ _ c.outcome-said.result.0 c.outcome-said.ensures.said c.say-status.ensures is).0 spells

pub returns-clause-unserved : goal.returns-clause-unserved
returns-clause-unserved g c = λ none. usage_alone c.outcome-said.result.0 (c.outcome-said.ensures.unserved none) c.say-status.ensures
