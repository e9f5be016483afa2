use Rattle.std.proofs.Common.{◌++◌, ap, ◌∙◌, arith}
use Rattle.std.specs.Prelude.{map}
use Rattle.back_core.specs.Frame.{NoBatch}
use Rattle.front_model.specs.declared.object.Object.TheVariants.{Buffer, Texture, Renderbuffer}
use Rattle.front_moves.specs.Core.{face}
use Rattle.front_moves.proofs.AtBack.{handless_then}
use Rattle.front_moves.proofs.EndedObjects.{ended_then}
use Rattle.front_moves.proofs.group_core.Core.end_all.Goals as goal

pub returns-clause-ended : goal.returns-clause-ended
returns-clause-ended g c =
    let s = g.L.BackLink.state c.args.link.now in
    let t = g.L.BackLink.state c.end_kind.new.link in
    let u = g.L.BackLink.state c.end_kind-2.new.link in
    let v = g.L.BackLink.state c.end_kind-3.new.link in
    ended_then (face c.args.self.now) (face c.end_kind-2.new.self) (face c.end_kind-3.new.self) s u v
    (map (λ x. Buffer x) c.args.buffers.now ++ map (λ x. Texture x) c.args.textures.now) (map (λ x. Renderbuffer x) c.args.renderbuffers.now)
    (ended_then (face c.args.self.now) (face c.end_kind.new.self) (face c.end_kind-2.new.self) s t u
    (map (λ x. Buffer x) c.args.buffers.now) (map (λ x. Texture x) c.args.textures.now) c.end_kind.ensures.ended c.end_kind-2.ensures.ended)
    c.end_kind-3.ensures.ended

pub returns-clause-at_back : goal.returns-clause-at_back
returns-clause-at_back g c =
    handless_then (omega arith) (handless_then {due = 0} {MayHand = NoBatch} (omega arith) c.end_kind.ensures.at_back c.end_kind-2.ensures.at_back) c.end_kind-3.ensures.at_back
