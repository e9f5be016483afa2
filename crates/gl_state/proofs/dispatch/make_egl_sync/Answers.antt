use Rattle.gl_state.proofs.NoneGone.{AreGone-nothing, NoneGone-create_sync}
use Rattle.gl_state.proofs.dispatch.make_egl_sync.Goals as goal

pub returns-clause-ended : goal.returns-clause-ended
returns-clause-ended c =
    AreGone-nothing _ _ c.no_objects.result
    (rw (c.in_ok-create_sync.ensures.ok, ← c.state.view_is) (NoneGone-create_sync c.state.inside.group c.args.thread c.state.invariant.whole.kept c.args.number))
    c.no_objects.ensures.buffers c.no_objects.ensures.textures c.no_objects.ensures.renderbuffers
