use Rattle.std.proofs.Common.{◌≡◌, take}
use Rattle.resource_use.specs.Uses.{merged}
use Rattle.resource_use.proofs.uses.ResourceUse.merge.Given as goal

abbrev pub invariant-loop-serial : goal.invariant-loop-serial
invariant-loop-serial l = l.all ≡ merged l.fn.self (take l.serial-index l.serial-items)
