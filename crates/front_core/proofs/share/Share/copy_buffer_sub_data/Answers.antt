use Rattle.std.proofs.Common.{rules, ◌≡◌, refl, sym, ◌∙◌, w64, false, [], ◌∷◌}
use Rattle.std.proofs.Math.Facts.{to_z-of_z}
use Rattle.std.specs.Prelude.{unsigned_abs, not, ◌==◌}
use Rattle.front_model.specs.declared.object.Object.TheVariants.{Buffer}
use Rattle.front_moves.specs.Core.{face}
use Rattle.front_core.specs.Copies.{MayCopy}
use Rattle.front_core.proofs.CopyCalls.{same_cause, good_cause, may_copy_as, copied_as, copied_nothing}
use Rattle.gl_calls.specs.declared.call.Call.TheVariants as call
use Rattle.front_core.specs.Economy.{IsTrueReason}
use Rattle.front_core.proofs.AtTheBack.{nothing_done, may_hand, parting_is_true, used_by_copy, though_stopped}
use Rattle.front_core.proofs.share.Share.copy_buffer_sub_data.Goals as goal

pub unreachable-requires : goal.unreachable-requires
unreachable-requires g c =
    let h = c.copy_calls_come_to.ensures.copy_names (face c.args.self.now.core) (g.L.BackLink.state c.args.link.now) c.args.self.now.state c.args.thread c.args.from c.args.to c.args.read c.args.write c.args.size c.requires.may in
    c.in_default.ensures.none h.0 h.2.b h.2.facts h.1 h.2.is_bound

pub unreachable-requires-in_default-bound : goal.unreachable-requires-in_default-bound
unreachable-requires-in_default-bound g c =
    let h = c.copy_calls_come_to.ensures.copy_names (face c.args.self.now.core) (g.L.BackLink.state c.args.link.now) c.args.self.now.state c.args.thread c.args.from c.args.to c.args.read c.args.write c.args.size c.requires.may in
    c.in_default-bound.ensures.none h.0 h.2.holds.b h.2.holds.facts h.1 h.2.holds.is_bound

pub unreachable-requires-in_default-index : goal.unreachable-requires-in_default-index
unreachable-requires-in_default-index g c =
    let h = c.copy_calls_come_to.ensures.copy_names (face c.args.self.now.core) (g.L.BackLink.state c.args.link.now) c.args.self.now.state c.args.thread c.args.from c.args.to c.args.read c.args.write c.args.size c.requires.may in
    c.copy_calls_come_to.ensures.index c.args.self.now.state c.args.self.now.serials c.args.self.now.core.indexes.group c.args.thread h.0 c.requires.indexes h.1 (sym c.index.ensures ∙ c.in_default-index.is)

pub returns-then-size-eq0-clause-done : goal.returns-then-size-eq0-clause-done
returns-then-size-eq0-clause-done g c =
    let none : unsigned_abs c.args.size ≡ 0 = search rules in
    c.copy_calls_come_to.ensures.copied (face c.args.self.now.core) (face c.args.self.now.core) (g.L.BackLink.state c.args.link.now) (g.L.BackLink.state c.args.link.now) c.args.self.now.state c.args.thread
    c.in-Some.source c.in-Some-bound.target c.args.from c.args.to c.args.read c.args.write c.args.size c.requires.may
    (λ context current. (c.in-Some.ensures.some context current).bound) (λ context current. (c.in-Some-bound.ensures.some context current).bound)
    (copied_nothing (face c.args.self.now.core) (g.L.BackLink.state c.args.link.now) c.in-Some.source c.in-Some-bound.target (unsigned_abs c.args.read) (unsigned_abs c.args.write) (unsigned_abs c.args.size) none c.requires.may.backs.holds)

pub copy-requires-clause-group : goal.copy-requires-clause-group
copy-requires-clause-group g c =
    c.copy_calls_come_to.ensures.own c.args.self.now.state c.args.self.now.serials c.args.self.now.core.indexes.group c.args.thread c.in-Some-index.index c.requires.indexes (sym c.index.ensures ∙ c.in-Some-index.is)

pub copy-requires-clause-source : goal.copy-requires-clause-source
copy-requires-clause-source g c =
    let m : MayCopy (face c.args.self.now.core) c.in-Some.source (unsigned_abs c.args.read) c.in-Some-bound.target (unsigned_abs c.args.write) (unsigned_abs c.args.size)
    = c.copy_calls_come_to.ensures.copy_may c.args.self.now.core (g.L.BackLink.state c.args.link.now) c.args.self.now.state c.args.thread c.in-Some.source c.in-Some-bound.target c.args.from c.args.to c.args.read c.args.write c.args.size c.requires.may
    (λ context current. (c.in-Some.ensures.some context current).bound) (λ context current. (c.in-Some-bound.ensures.some context current).bound) (search rules) in
    (may_copy_as (face c.args.self.now.core) c.in-Some.source c.in-Some-bound.target _ c.unsigned_abs.result _ c.unsigned_abs-2.result _ c.unsigned_abs-3.result
    (sym (c.unsigned_abs.ensures.value ∙ rw (to_z-of_z {w = w64} {z = c.args.read} c.ranges.read) refl)) (sym (c.unsigned_abs-2.ensures.value ∙ rw (to_z-of_z {w = w64} {z = c.args.write} c.ranges.write) refl)) (sym (c.unsigned_abs-3.ensures.value ∙ rw (to_z-of_z {w = w64} {z = c.args.size} c.ranges.size) refl)) m).source

pub copy-requires-clause-target : goal.copy-requires-clause-target
copy-requires-clause-target g c =
    let m : MayCopy (face c.args.self.now.core) c.in-Some.source (unsigned_abs c.args.read) c.in-Some-bound.target (unsigned_abs c.args.write) (unsigned_abs c.args.size)
    = c.copy_calls_come_to.ensures.copy_may c.args.self.now.core (g.L.BackLink.state c.args.link.now) c.args.self.now.state c.args.thread c.in-Some.source c.in-Some-bound.target c.args.from c.args.to c.args.read c.args.write c.args.size c.requires.may
    (λ context current. (c.in-Some.ensures.some context current).bound) (λ context current. (c.in-Some-bound.ensures.some context current).bound) (search rules) in
    (may_copy_as (face c.args.self.now.core) c.in-Some.source c.in-Some-bound.target _ c.unsigned_abs.result _ c.unsigned_abs-2.result _ c.unsigned_abs-3.result
    (sym (c.unsigned_abs.ensures.value ∙ rw (to_z-of_z {w = w64} {z = c.args.read} c.ranges.read) refl)) (sym (c.unsigned_abs-2.ensures.value ∙ rw (to_z-of_z {w = w64} {z = c.args.write} c.ranges.write) refl)) (sym (c.unsigned_abs-3.ensures.value ∙ rw (to_z-of_z {w = w64} {z = c.args.size} c.ranges.size) refl)) m).target

pub copy-requires-clause-apart : goal.copy-requires-clause-apart
copy-requires-clause-apart g c =
    let m : MayCopy (face c.args.self.now.core) c.in-Some.source (unsigned_abs c.args.read) c.in-Some-bound.target (unsigned_abs c.args.write) (unsigned_abs c.args.size)
    = c.copy_calls_come_to.ensures.copy_may c.args.self.now.core (g.L.BackLink.state c.args.link.now) c.args.self.now.state c.args.thread c.in-Some.source c.in-Some-bound.target c.args.from c.args.to c.args.read c.args.write c.args.size c.requires.may
    (λ context current. (c.in-Some.ensures.some context current).bound) (λ context current. (c.in-Some-bound.ensures.some context current).bound) (search rules) in
    (may_copy_as (face c.args.self.now.core) c.in-Some.source c.in-Some-bound.target _ c.unsigned_abs.result _ c.unsigned_abs-2.result _ c.unsigned_abs-3.result
    (sym (c.unsigned_abs.ensures.value ∙ rw (to_z-of_z {w = w64} {z = c.args.read} c.ranges.read) refl)) (sym (c.unsigned_abs-2.ensures.value ∙ rw (to_z-of_z {w = w64} {z = c.args.write} c.ranges.write) refl)) (sym (c.unsigned_abs-3.ensures.value ∙ rw (to_z-of_z {w = w64} {z = c.args.size} c.ranges.size) refl)) m).apart

pub returns-in-Ok-clause-done : goal.returns-in-Ok-clause-done
returns-in-Ok-clause-done g c =
    c.copy_calls_come_to.ensures.copied (face c.args.self.now.core) (face c.copy.new.self) (g.L.BackLink.state c.args.link.now) (g.L.BackLink.state c.copy.new.link) c.args.self.now.state c.args.thread
    c.in-Some.source c.in-Some-bound.target c.args.from c.args.to c.args.read c.args.write c.args.size c.requires.may
    (λ context current. (c.in-Some.ensures.some context current).bound) (λ context current. (c.in-Some-bound.ensures.some context current).bound)
    (copied_as (face c.args.self.now.core) (face c.copy.new.self) (g.L.BackLink.state c.args.link.now) (g.L.BackLink.state c.copy.new.link) c.in-Some.source c.in-Some-bound.target c.unsigned_abs.result _ c.unsigned_abs-2.result _ c.unsigned_abs-3.result _
    (c.unsigned_abs.ensures.value ∙ rw (to_z-of_z {w = w64} {z = c.args.read} c.ranges.read) refl) (c.unsigned_abs-2.ensures.value ∙ rw (to_z-of_z {w = w64} {z = c.args.write} c.ranges.write) refl) (c.unsigned_abs-3.ensures.value ∙ rw (to_z-of_z {w = w64} {z = c.args.size} c.ranges.size) refl)
    c.in-Ok.ensures.moved)

pub returns-in-Err-clause-cause : goal.returns-in-Err-clause-cause
returns-in-Err-clause-cause g c = same_cause (g.L.BackLink.faults c.args.link.now) (g.L.BackLink.faults c.copy.new.link) c.in-Err.stop c.in-Err.ensures.cause

pub returns-then-size-eq0-clause-at_back : goal.returns-then-size-eq0-clause-at_back
returns-then-size-eq0-clause-at_back g c =
    nothing_done (g.L.BackLink.state c.args.link.now) (g.L.BackLink.told c.args.link.now) 0 false false (IsTrueReason (face c.args.self.now.core) c.args.self.now.state c.args.self.now.serials c.args.thread (call.CopyBufferSubData c.args.from c.args.to c.args.read c.args.write c.args.size))

pub returns-in-Ok-clause-at_back : goal.returns-in-Ok-clause-at_back
returns-in-Ok-clause-at_back g c =
    let h = c.copy_calls_come_to.ensures.copy_names (face c.args.self.now.core) (g.L.BackLink.state c.args.link.now) c.args.self.now.state c.args.thread c.args.from c.args.to c.args.read c.args.write c.args.size c.requires.may in
    may_hand (IsTrueReason (face c.args.self.now.core) c.args.self.now.state c.args.self.now.serials c.args.thread (call.CopyBufferSubData c.args.from c.args.to c.args.read c.args.write c.args.size))
    (parting_is_true (face c.args.self.now.core) c.args.self.now.state c.args.self.now.serials c.args.thread (call.CopyBufferSubData c.args.from c.args.to c.args.read c.args.write c.args.size) c.in-Some-index.index ((Buffer c.in-Some.source, not (c.in-Some.source == c.in-Some-bound.target)) ∷ (Buffer c.in-Some-bound.target, false) ∷ []) (sym c.index.ensures ∙ c.in-Some-index.is)
    (used_by_copy c.args.self.now.state c.args.thread h.0 c.args.from c.args.to c.args.read c.args.write c.args.size c.in-Some.source c.in-Some-bound.target h.1 (c.in-Some.ensures.some h.0 h.1).bound (c.in-Some-bound.ensures.some h.0 h.1).bound))
    c.in-Ok.ensures.at_back

pub returns-in-Err-clause-at_back : goal.returns-in-Err-clause-at_back
returns-in-Err-clause-at_back g c =
    let h = c.copy_calls_come_to.ensures.copy_names (face c.args.self.now.core) (g.L.BackLink.state c.args.link.now) c.args.self.now.state c.args.thread c.args.from c.args.to c.args.read c.args.write c.args.size c.requires.may in
    may_hand (IsTrueReason (face c.args.self.now.core) c.args.self.now.state c.args.self.now.serials c.args.thread (call.CopyBufferSubData c.args.from c.args.to c.args.read c.args.write c.args.size))
    (parting_is_true (face c.args.self.now.core) c.args.self.now.state c.args.self.now.serials c.args.thread (call.CopyBufferSubData c.args.from c.args.to c.args.read c.args.write c.args.size) c.in-Some-index.index ((Buffer c.in-Some.source, not (c.in-Some.source == c.in-Some-bound.target)) ∷ (Buffer c.in-Some-bound.target, false) ∷ []) (sym c.index.ensures ∙ c.in-Some-index.is)
    (used_by_copy c.args.self.now.state c.args.thread h.0 c.args.from c.args.to c.args.read c.args.write c.args.size c.in-Some.source c.in-Some-bound.target h.1 (c.in-Some.ensures.some h.0 h.1).bound (c.in-Some-bound.ensures.some h.0 h.1).bound))
    (though_stopped c.copy.ensures.at_back)

pub returns-in-Ok-clause-cause : goal.returns-in-Ok-clause-cause
returns-in-Ok-clause-cause g c = good_cause (g.L.BackLink.faults c.args.link.now) (g.L.BackLink.faults c.copy.new.link) _ _ c.in-Ok.ensures.cause
