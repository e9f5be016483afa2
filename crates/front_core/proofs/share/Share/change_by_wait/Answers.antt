use Rattle.std.proofs.Common.{◌≡◌, true, false, sym, subst, ◌∙◌, ap}
use Rattle.std.specs.Prelude.{map, ◌++◌}
use Rattle.front_model.specs.declared.object.Object.TheVariants.{Buffer, Texture, Renderbuffer}
use Rattle.front_core.specs.Gone.{objects_gone}
use Rattle.front_core.proofs.GoneBuffers.{are_gone}
use Rattle.gl_model.specs.declared.state.GroupState.{GroupState}
use Rattle.gl_model.specs.GroupEffect.{group_effect}
use Rattle.gl_state.specs.Ended.{gone}
use Rattle.back_core.specs.Frame.{NoBatch}
use Rattle.front_moves.specs.Core.{face}
use Rattle.front_moves.specs.Ending.{HasEnded}
use Rattle.front_core.specs.Share.{IsChanged}
use Rattle.front_core.proofs.AtTheBack.{nothing_done}
use Rattle.front_core.proofs.share.Share.change_by_wait.Goals as goal

pub returns-in-Ok-clause-changed : goal.returns-in-Ok-clause-changed
returns-in-Ok-clause-changed g c =
    let before : GroupState = c.args.self.now.state in
    let after : GroupState = group_effect before c.args.thread c.args.call.now in
    let listed : map Buffer c.in-Ok.applied.ended.buffers.items ++ map Texture c.in-Ok.applied.ended.textures.items ++ map Renderbuffer c.in-Ok.applied.ended.renderbuffers.items ≡ objects_gone before after
    = are_gone before after c.in-Ok.applied.ended.buffers.items c.in-Ok.applied.ended.textures.items c.in-Ok.applied.ended.renderbuffers.items
    (c.in-Ok.ensures.ended.buffers ∙ ap (λ (x : GroupState). gone before.buffers x.buffers) c.in-Ok.ensures.ok)
    (c.in-Ok.ensures.ended.textures ∙ ap (λ (x : GroupState). gone before.textures x.textures) c.in-Ok.ensures.ok)
    (c.in-Ok.ensures.ended.renderbuffers ∙ ap (λ (x : GroupState). gone before.renderbuffers x.renderbuffers) c.in-Ok.ensures.ok) in
    subst (λ x. IsChanged (face c.args.self.now.core) (face c.end_all.new.self) (g.L.BackLink.state c.args.link.now) (g.L.BackLink.state c.end_all.new.link) before x c.args.thread c.args.call.now)
    (sym c.in-Ok.ensures.ok)
    (c.waits_come_to.ensures.changed c.args.self.now.core (face c.end_all.new.self) (g.L.BackLink.state c.args.link.now) (g.L.BackLink.state c.end_all.new.link) before c.args.thread c.args.call.now (map Buffer c.in-Ok.applied.ended.buffers.items ++ map Texture c.in-Ok.applied.ended.textures.items ++ map Renderbuffer c.in-Ok.applied.ended.renderbuffers.items)
    c.requires.which c.requires.may listed
    (rw (sym c.as_slice.ensures.value, sym c.as_slice-in-Ok.ensures.value, sym c.as_slice-in-Ok-2.ensures.value) c.end_all.ensures.ended))

pub returns-in-Err-clause-err : goal.returns-in-Err-clause-err
returns-in-Err-clause-err g c = c.waits_come_to.ensures.owns (face c.args.self.now.core) (g.L.BackLink.state c.args.link.now) c.requires.may.backs.holds

pub returns-in-Err-clause-at_back : goal.returns-in-Err-clause-at_back
returns-in-Err-clause-at_back g c = nothing_done (g.L.BackLink.state c.args.link.now) (g.L.BackLink.told c.args.link.now) 0 false true NoBatch
