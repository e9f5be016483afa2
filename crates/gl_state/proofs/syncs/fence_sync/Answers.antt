use Rattle.std.proofs.Common.{refl}
use Rattle.gl_calls.specs.declared.call.Call.TheVariants as call
use Rattle.tables.specs.Table.{with_entry}
use Rattle.gl_state.proofs.SyncChanges.{syncs-effect}
use Rattle.gl_state.proofs.syncs.fence_sync.Goals as goal

pub returns-clause-ok : goal.returns-clause-ok
returns-clause-ok c = λ condition flags.
    rw (c.in_ok-add.ensures.ok, c.has_context-here.ensures, ← c.state.view_is)
    (syncs-effect c.state.inside.group (with_entry c.args.number tt) c.state.invariant.whole.kept (call.FenceSync c.args.number condition flags) refl (λ n c'. refl) c.args.thread)
