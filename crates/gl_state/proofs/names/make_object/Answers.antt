use Rattle.std.proofs.Common.{ap, ◌∙◌}
use Rattle.tables.specs.Table.{without}
use Rattle.gl_state.proofs.NameChanges.{without-with_entry}
use Rattle.gl_state.proofs.names.make_object.Goals as goal

pub returns-in-Err-clause-objects_err : goal.returns-in-Err-clause-objects_err
returns-in-Err-clause-objects_err g c =
    c.remove.ensures ∙ ap (without c.args.names.now.made) c.in_ok-insert.ensures.ok
    ∙ without-with_entry c.args.names.now.made c.args.fresh c.args.objects.now c.requires
