use Rattle.gl_objects.proofs.SetNames.{Sets-without}
use Rattle.gl_objects.proofs.names.remove_name.Goals as goal

pub returns-clause-sets : goal.returns-clause-sets
returns-clause-sets c = rw c.remove.ensures (Sets-without c.args.name c.args.names.now c.iter.ensures.ordered)
