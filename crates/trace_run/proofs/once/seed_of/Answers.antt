use Rattle.command_line.specs.declared.command.Command.TheVariants.{Once, Gen}
use Rattle.trace_run.proofs.once.seed_of.Goals as goal

pub returns-in-Some-Once-clause-once : goal.returns-in-Some-Once-clause-once
returns-in-Some-Once-clause-once c = λ seed summary s. cc (c.in-Some-Once.ensures.given (Once seed summary) s)

pub returns-in-Some-Gen-clause-generated : goal.returns-in-Some-Gen-clause-generated
returns-in-Some-Gen-clause-generated c = λ number s. cc (c.in-Some-Gen.ensures.given (Gen number) s)

pub returns-in-None-clause-once : goal.returns-in-None-clause-once
returns-in-None-clause-once c = λ seed summary s. cc (c.in-None.ensures.given (Once seed summary) s)

pub returns-in-None-clause-generated : goal.returns-in-None-clause-generated
returns-in-None-clause-generated c = λ number s. cc (c.in-None.ensures.given (Gen number) s)
