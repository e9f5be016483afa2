use Rattle.std.proofs.Common.{◌≡◌, refl, sym, ◌∙◌, subst, w64, [], false, ◌∷◌}
use Rattle.std.proofs.Math.Facts.{to_z-of_z}
use Rattle.gl_model.specs.declared.state.GroupState.{GroupState}
use Rattle.gl_model.specs.GroupEffect.{group_effect}
use Rattle.gl_calls.specs.declared.call.Call.TheVariants as call
use Rattle.gl_calls.specs.declared.reply.Reply.TheVariants as reply
use Rattle.front_model.specs.declared.object.Object.TheVariants.{Buffer}
use Rattle.front_moves.specs.Core.{face}
use Rattle.front_core.specs.Share.{IsCarriedOut}
use Rattle.front_core.proofs.CopyCalls.{same_cause}
use Rattle.front_core.specs.Economy.{IsUsedBy, IsTrueReason}
use Rattle.front_core.proofs.AtTheBack.{may_hand, settling_is_true, used_first, though_stopped}
use Rattle.front_core.proofs.share.Share.map_buffer_range.Goals as goal

pub unreachable-requires : goal.unreachable-requires
unreachable-requires g c =
    let h = c.copy_calls_come_to.ensures.map_names (face c.args.self.now.core) (g.L.BackLink.state c.args.link.now) c.args.self.now.state c.args.thread c.args.target c.args.offset c.args.length c.args.access c.requires.may in
    c.in_default.ensures.none h.0 h.2.b h.2.facts h.1 h.2.is_bound

pub unreachable-requires-in_default-index : goal.unreachable-requires-in_default-index
unreachable-requires-in_default-index g c =
    let h = c.copy_calls_come_to.ensures.map_names (face c.args.self.now.core) (g.L.BackLink.state c.args.link.now) c.args.self.now.state c.args.thread c.args.target c.args.offset c.args.length c.args.access c.requires.may in
    c.copy_calls_come_to.ensures.index c.args.self.now.state c.args.self.now.serials c.args.self.now.core.indexes.group c.args.thread h.0 c.requires.indexes h.1 (sym c.index.ensures ∙ c.in_default-index.is)

pub settle-requires-clause-group : goal.settle-requires-clause-group
settle-requires-clause-group g c =
    c.copy_calls_come_to.ensures.own c.args.self.now.state c.args.self.now.serials c.args.self.now.core.indexes.group c.args.thread c.in-Some-index.index c.requires.indexes (sym c.index.ensures ∙ c.in-Some-index.is)

pub settle-requires-clause-store : goal.settle-requires-clause-store
settle-requires-clause-store g c =
    c.copy_calls_come_to.ensures.map_may c.args.self.now.core (g.L.BackLink.state c.args.link.now) c.args.self.now.state c.args.thread c.in-Some.buffer c.args.target c.args.offset c.args.length c.args.access c.requires.may
    (λ context current. (c.in-Some.ensures.some context current).bound)

pub returns-in-Ok-clause-done : goal.returns-in-Ok-clause-done
returns-in-Ok-clause-done g c =
    let after : c.map_buffer_range.new.state ≡ group_effect c.args.self.now.state c.args.thread (call.MapBufferRange c.args.target c.args.offset c.args.length c.args.access)
    = c.map_buffer_range.ensures ∙ rw (to_z-of_z {w = w64} {z = c.args.offset} c.ranges.offset, to_z-of_z {w = w64} {z = c.args.length} c.ranges.length) refl in
    subst (λ (x : GroupState). IsCarriedOut (face c.args.self.now.core) (face c.settle.new.self) (g.L.BackLink.state c.args.link.now) (g.L.BackLink.state c.settle.new.link) c.args.self.now.state x c.args.thread
    (call.MapBufferRange c.args.target c.args.offset c.args.length c.args.access) reply.Done) (sym after)
    (c.copy_calls_come_to.ensures.mapped (face c.args.self.now.core) (face c.settle.new.self) (g.L.BackLink.state c.args.link.now) (g.L.BackLink.state c.settle.new.link) c.args.self.now.state c.args.thread c.in-Some.buffer c.args.target c.args.offset c.args.length c.args.access c.requires.may
    (λ context current. (c.in-Some.ensures.some context current).bound) c.in-Ok.ensures.moved c.in-Ok.ensures.quiet)

pub returns-in-Err-clause-cause : goal.returns-in-Err-clause-cause
returns-in-Err-clause-cause g c = same_cause (g.L.BackLink.faults c.args.link.now) (g.L.BackLink.faults c.settle.new.link) c.in-Err.stop c.in-Err.ensures.cause

pub returns-in-Ok-clause-at_back : goal.returns-in-Ok-clause-at_back
returns-in-Ok-clause-at_back g c =
    let h = c.copy_calls_come_to.ensures.map_names (face c.args.self.now.core) (g.L.BackLink.state c.args.link.now) c.args.self.now.state c.args.thread c.args.target c.args.offset c.args.length c.args.access c.requires.may in
    let used : IsUsedBy c.args.self.now.state c.args.thread (call.MapBufferRange c.args.target c.args.offset c.args.length c.args.access) (Buffer c.in-Some.buffer, false) = used_first c.args.self.now.state c.args.thread (call.MapBufferRange c.args.target c.args.offset c.args.length c.args.access) h.0 c.args.target false [] c.in-Some.buffer refl h.1 (c.in-Some.ensures.some h.0 h.1).bound in
    may_hand (IsTrueReason (face c.args.self.now.core) c.args.self.now.state c.args.self.now.serials c.args.thread (call.MapBufferRange c.args.target c.args.offset c.args.length c.args.access))
    (settling_is_true (face c.args.self.now.core) c.args.self.now.state c.args.self.now.serials c.args.thread (call.MapBufferRange c.args.target c.args.offset c.args.length c.args.access) c.in-Some-index.index (Buffer c.in-Some.buffer) (sym c.index.ensures ∙ c.in-Some-index.is) used refl)
    c.in-Ok.ensures.at_back

pub returns-in-Err-clause-at_back : goal.returns-in-Err-clause-at_back
returns-in-Err-clause-at_back g c =
    let h = c.copy_calls_come_to.ensures.map_names (face c.args.self.now.core) (g.L.BackLink.state c.args.link.now) c.args.self.now.state c.args.thread c.args.target c.args.offset c.args.length c.args.access c.requires.may in
    let used : IsUsedBy c.args.self.now.state c.args.thread (call.MapBufferRange c.args.target c.args.offset c.args.length c.args.access) (Buffer c.in-Some.buffer, false) = used_first c.args.self.now.state c.args.thread (call.MapBufferRange c.args.target c.args.offset c.args.length c.args.access) h.0 c.args.target false [] c.in-Some.buffer refl h.1 (c.in-Some.ensures.some h.0 h.1).bound in
    may_hand (IsTrueReason (face c.args.self.now.core) c.args.self.now.state c.args.self.now.serials c.args.thread (call.MapBufferRange c.args.target c.args.offset c.args.length c.args.access))
    (settling_is_true (face c.args.self.now.core) c.args.self.now.state c.args.self.now.serials c.args.thread (call.MapBufferRange c.args.target c.args.offset c.args.length c.args.access) c.in-Some-index.index (Buffer c.in-Some.buffer) (sym c.index.ensures ∙ c.in-Some-index.is) used refl)
    (though_stopped c.settle.ensures.at_back)
