use Rattle.std.proofs.Common.{inl, inr}
use Rattle.command_line.specs.declared.command.Command.TheVariants.{Once, Gen}
use Rattle.trace_run.proofs.once.order_in.Goals as goal

pub returns-in-None : goal.returns-in-None
returns-in-None c = λ s. elim s [
  | inl once ↦ let e = c.in-None.ensures.given (Once once.0 once.1) once.2 in absurd (cc)
  | inr gen ↦ let e = c.in-None.ensures.given (Gen gen.0) gen.1 in absurd (cc)
]
