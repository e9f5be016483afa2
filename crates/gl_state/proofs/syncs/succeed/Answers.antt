use Rattle.std.proofs.Common.{sym, ap}
use Rattle.formats.specs.declared.errors.EglError.TheVariants.{Success}
use Rattle.gl_model.specs.declared.state.GroupState.{GroupState}
use Rattle.tables.specs.Table.{with_entry}
use Rattle.gl_state.proofs.syncs.succeed.Goals as goal

pub returns-clause-read : goal.returns-clause-read
returns-clause-read c =
    rw (c.replace.ensures, ← c.state.view_is) (sym (ap (λ (g : GroupState). record g { threads = with_entry c.args.thread Success c.state.inside.group.threads }) c.state.invariant.whole.kept.referred))

pub returns-clause-waited : goal.returns-clause-waited
returns-clause-waited c = λ number flush timeout.
    rw (c.replace.ensures, ← c.state.view_is) (sym (ap (λ (g : GroupState). record g { threads = with_entry c.args.thread Success c.state.inside.group.threads }) c.state.invariant.whole.kept.referred))
