use Rattle.gl_calls.specs.declared.words.FenceCondition.TheVariants.{GpuCommandsComplete}
use Rattle.gl_state.proofs.NoneGone.{AreGone-nothing, NoneGone-fence}
use Rattle.gl_state.proofs.dispatch.make_sync.Goals as goal

pub returns-clause-ended : goal.returns-clause-ended
returns-clause-ended c =
    AreGone-nothing _ _ c.no_objects.result
    (rw (c.in_ok-fence_sync.ensures.ok GpuCommandsComplete 0, ← c.state.view_is) (NoneGone-fence c.state.inside.group c.args.thread c.state.invariant.whole.kept c.args.number GpuCommandsComplete 0))
    c.no_objects.ensures.buffers c.no_objects.ensures.textures c.no_objects.ensures.renderbuffers
