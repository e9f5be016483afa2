use Rattle.gl_state.proofs.NoneGone.{AreGone-nothing, NoneGone-created}
use Rattle.gl_state.proofs.dispatch.create.Goals as goal

pub returns-clause-ended : goal.returns-clause-ended
returns-clause-ended c =
    AreGone-nothing _ _ c.no_objects.result
    (rw (c.in_ok-create_context.ensures.ok, ← c.state.view_is) (NoneGone-created c.state.inside.group c.args.thread c.state.invariant.whole.kept c.args.number (rw (← c.state.view_is) at c.requires.accepted)))
    c.no_objects.ensures.buffers c.no_objects.ensures.textures c.no_objects.ensures.renderbuffers
