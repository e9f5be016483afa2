use Rattle.std.proofs.Common.{arith, map, ap, ◌∙◌}
use Rattle.back_core.specs.Back.{event_of}
use Rattle.back_core.proofs.Holding.{holds_new}
use Rattle.back_core.proofs.back.Back.new.Goals as goal

pub invariant_of-result : goal.invariant_of-result
invariant_of-result g c = (
  holds_new c.runs_go_on.ensures.starts c.runs_go_on.ensures.opening c.runs_go_on.ensures.clean c.devices_stay_in_order.ensures.starts _ _ _ c.new.result c.new-in-Ok.result (ap (map event_of) (c.reserve.ensures.items ∙ c.new-history.ensures.items)) c.requires c.new.ensures c.new-in-Ok.ensures,
  omega (arith, c.in-Ok.ensures.ok),
)
