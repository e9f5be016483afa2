use Rattle.std.proofs.Common.{◌≡◌, ℤ, refl, ◌∙◌, ap, subst, w64}
use Rattle.std.proofs.Math.Facts.{to_z-of_z}
use Rattle.std.specs.Prelude.{unsigned_abs}
use Rattle.std.specs.Option.{option_map}
use Rattle.gl_calls.specs.declared.call.Call.TheVariants as call
use Rattle.gl_calls.specs.Words.{payload_bytes}
use Rattle.gl_model.specs.declared.state.GroupState.{GroupState}
use Rattle.gl_model.specs.GroupEffect.{group_effect}
use Rattle.front_moves.specs.Core.{face}
use Rattle.front_core.proofs.DataCalls.{renewed_as}
use Rattle.front_core.proofs.share.Share.buffer_data.Goals as goal

pub unreachable-requires : goal.unreachable-requires
unreachable-requires g c =
    let h = c.data_calls_come_to.ensures.may_data (face c.args.self.now.core) (g.L.BackLink.state c.args.link.now) c.args.self.now.state c.args.thread c.args.target c.args.size c.args.usage c.args.payload.now c.requires.may in
    c.in_default.ensures.none h.0 h.2.b h.2.facts h.1 h.2.is_bound

pub returns-in-Ok-clause-done : goal.returns-in-Ok-clause-done
returns-in-Ok-clause-done g c =
    let size_is : c.unsigned_abs.result ≡ unsigned_abs c.args.size = c.unsigned_abs.ensures.value ∙ rw (to_z-of_z {w = w64} {z = c.args.size} c.ranges.size) refl in
    let changed : c.buffer_data.new.state ≡ group_effect c.new_store.new.self.state c.args.thread (call.BufferData c.args.target c.args.size c.args.usage c.args.payload.now)
    = subst (λ (z : ℤ). c.buffer_data.new.state ≡ group_effect c.new_store.new.self.state c.args.thread (call.BufferData c.args.target z c.args.usage c.args.payload.now)) (to_z-of_z {w = w64} {z = c.args.size} c.ranges.size)
    (c.buffer_data.ensures c.args.usage c.args.payload.now) in
    c.data_calls_come_to.ensures.renewed (face c.args.self.now.core) (face c.new_store.new.self.core) (g.L.BackLink.state c.args.link.now) (g.L.BackLink.state c.new_store.new.link) c.args.self.now.state c.buffer_data.new.state c.args.thread c.in-Some.buffer c.args.target c.args.size c.args.usage c.args.payload.now c.requires.may
    (λ context current. (c.in-Some.field-0-1, c.in-Some.ensures.some context current))
    (renewed_as (face c.args.self.now.core) (face c.new_store.new.self.core) (g.L.BackLink.state c.args.link.now) (g.L.BackLink.state c.new_store.new.link) c.in-Some.buffer c.unsigned_abs.result (unsigned_abs c.args.size)
    (option_map payload_bytes c.args.payload.now) (option_map payload_bytes c.args.payload.now) refl size_is c.in-Ok.ensures.moved)
    (changed ∙ ap (λ (x : GroupState). group_effect x c.args.thread (call.BufferData c.args.target c.args.size c.args.usage c.args.payload.now)) c.new_store.ensures.state)
