use Rattle.std.proofs.Common.{sym}
use Rattle.gl_state.proofs.contexts.note.Goals as goal

pub returns-then-is_it : goal.returns-then-is_it
returns-then-is_it c = rw c.if-is_it.true (sym (c.noted-context.ensures c.args.context.now))
