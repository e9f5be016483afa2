use Rattle.std.proofs.Common.{sym, ap}
use Rattle.formats.specs.declared.errors.EglError.TheVariants.{Success}
use Rattle.gl_model.specs.declared.state.GroupState.{GroupState}
use Rattle.tables.specs.Table.{with_entry}
use Rattle.gl_state.proofs.syncs.create_sync.Goals as goal

pub returns-clause-ok : goal.returns-clause-ok
returns-clause-ok c =
    rw (c.replace.ensures, c.in_ok-insert.ensures.ok, c.from.ensures, ← c.state.view_is)
    (sym (ap (λ (g : GroupState). record g { threads = with_entry c.args.thread Success c.state.inside.group.threads; egl_syncs = with_entry c.args.number tt c.state.inside.group.egl_syncs }) c.state.invariant.whole.kept.referred))
