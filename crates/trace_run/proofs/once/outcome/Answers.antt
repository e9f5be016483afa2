use Rattle.std.proofs.Common.{map}
use Rattle.trace_text.specs.Reading.{plan}
use Rattle.trace_run.proofs.Words.{served_by, gen_shows}
use Rattle.trace_run.proofs.Ends.{said_run}
use Rattle.trace_run.proofs.once.outcome.Goals as goal

pub returns-in-Ok-clause-said : goal.returns-in-Ok-clause-said
returns-in-Ok-clause-said g c =
    said_run _ (g.S.Source.left c.args.source.now) (g.S.Source.left c.trace_in.new.source)
    (g.S.Source.faults c.args.source.now) (g.S.Source.faults c.trace_in.new.source) _ _ _
    (map plan c.in-Ok.trace.threads.items) c.in-Some.seed c.in-Some.output c.run.result.0
    c.in-Some.ensures c.in-Ok.ensures.gives c.run.ensures.said

pub returns-in-Ok-clause-unserved : goal.returns-in-Ok-clause-unserved
returns-in-Ok-clause-unserved g c = λ none. absurd (none (served_by _ c.in-Some.seed c.in-Some.output c.in-Some.ensures))

pub returns-in-Ok-clause-untouched : goal.returns-in-Ok-clause-untouched
returns-in-Ok-clause-untouched g c = λ none. absurd (none (served_by _ c.in-Some.seed c.in-Some.output c.in-Some.ensures))

pub returns-in-Ok-clause-unread : goal.returns-in-Ok-clause-unread
returns-in-Ok-clause-unread g c =
    λ number gen. c.trace_in.ensures.untouched (gen_shows _ number c.in-Some.seed c.in-Some.output gen c.in-Some.ensures)
