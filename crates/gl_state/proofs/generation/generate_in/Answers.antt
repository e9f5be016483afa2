use Rattle.std.proofs.Common.{ℕ}
use Rattle.tables.specs.Table.{has}
use Rattle.gl_state.proofs.generation.generate_in.Goals as goal

pub generate-requires : goal.generate-requires
generate-requires c = c.new-unused.ensures (λ (k : ℕ). has k c.args.context.now.framebuffers)
