use Rattle.std.proofs.Common.{sym, ap}
use Rattle.formats.specs.declared.errors.EglError.TheVariants.{Success}
use Rattle.gl_model.specs.declared.state.GroupState.{GroupState}
use Rattle.tables.specs.Table.{with_entry, without}
use Rattle.gl_state.proofs.syncs.destroy_sync.Goals as goal

pub returns : goal.returns
returns c =
    rw (c.replace.ensures, c.remove.ensures, c.from.ensures, ← c.state.view_is)
    (sym (ap (λ (g : GroupState). record g { threads = with_entry c.args.thread Success c.state.inside.group.threads; egl_syncs = without c.args.number c.state.inside.group.egl_syncs }) c.state.invariant.whole.kept.referred))
