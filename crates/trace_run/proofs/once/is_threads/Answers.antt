use Rattle.command_line.specs.declared.command.Command.TheVariants.{Threads}
use Rattle.trace_run.proofs.once.is_threads.Goals as goal

pub returns-in-None : goal.returns-in-None
returns-in-None c = (λ no. absurd (cc), λ s. let e = c.in-None.ensures.given (Threads s.0) s.1 in absurd (cc))
