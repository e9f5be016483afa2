use Rattle.std.proofs.Common.{subst}
use Rattle.std.specs.Prelude.{Contains}
use Rattle.std.specs.List.{All}
use Rattle.group_gpu.specs.Views.{GroupedModel}
use Rattle.group_gpu.proofs.grouped.Grouped.history.Goals as goal

pub returns-clause-declared : goal.returns-clause-declared
returns-clause-declared g c = subst (λ (m : GroupedModel). All (λ e. Contains m.front.threads e.thread) m.front.history) c.self.view_is c.self.invariant.declared
