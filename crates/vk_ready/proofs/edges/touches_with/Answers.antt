use Rattle.std.proofs.Common.{eqb, sym, ◌∙◌}
use Rattle.std.specs.Prelude.{◌&&◌}
use Rattle.vk_types.specs.Accesses.{in_common}
use Rattle.vk_types.specs.Touches.{touches}
use Rattle.vk_ready.proofs.Readiness.{none_more}
use Rattle.vk_ready.proofs.edges.touches_with.Goals as goal

pub loop-i-preserved : goal.loop-i-preserved
loop-i-preserved c = none_more (λ t. eqb t.id.0 c.args.id.0 && in_common t.access c.args.kinds) (touches c.args.node.now) c.loop-i.i c.touch.result c.touch.ensures c.loop-i.invariant (sym c.touch_is_of.ensures ∙ c.if-touch_is_of.false)
