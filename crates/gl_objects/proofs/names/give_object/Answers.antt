use Rattle.std.proofs.lemmas.Result.{on_ok_weaker}
use Rattle.std.proofs.Common.{Some}
use Rattle.gl_objects.proofs.SetNames.{Sets-with_entry}
use Rattle.gl_objects.proofs.names.give_object.Goals as goal

pub returns-clause-sets : goal.returns-clause-sets
returns-clause-sets c = on_ok_weaker c.insert.result (λ same. rw same (Sets-with_entry c.args.name (Some c.args.id) c.args.names.now)) c.insert.ensures.ok
