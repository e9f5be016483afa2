use Rattle.std.proofs.Common.{◌≡◌, Bool, true, false, ◌∙◌}
use Rattle.std.specs.Bool.{OnTrue}
use Rattle.gl_state.proofs.NoneGone.{AreGone-nothing, NoneGone-plain}
use Rattle.gl_state.proofs.dispatch.keep_objects.Goals as goal

on_true : {P : Type 0} (b : Bool) → b ≡ true → OnTrue b P → P
on_true true is held = held
on_true false is held = absurd (cc)

pub returns-clause-ended : goal.returns-clause-ended
returns-clause-ended c =
    let applied = on_true c.apply_plain.result (c.apply_plain.ensures.which ∙ c.requires.plain) c.apply_plain.ensures.applied in
    AreGone-nothing _ _ c.no_objects.result
    (rw (applied, ← c.state.view_is) (NoneGone-plain c.state.inside.group c.args.thread c.state.invariant.whole.kept c.args.call.now c.requires.plain))
    c.no_objects.ensures.buffers c.no_objects.ensures.textures c.no_objects.ensures.renderbuffers
