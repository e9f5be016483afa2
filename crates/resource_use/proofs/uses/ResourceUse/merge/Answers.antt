use Rattle.std.proofs.Common.{rules, ◌≡◌, ◌<◌, ℕ, List, length, take, subst, arith}
use Rattle.std.proofs.lemmas.List.{take_more, take_all}
use Rattle.vk_types.specs.declared.batches.QueueSerial.{QueueSerial}
use Rattle.resource_use.specs.Uses.{merged, AreDistinct}
use Rattle.resource_use.proofs.Noting.{merged-push, number_of-merged}
use Rattle.resource_use.proofs.uses.ResourceUse.merge.Goals as goal

pub loop-serial-preserved : goal.loop-serial-preserved
loop-serial-preserved c =
    let items : List QueueSerial = c.as_slice-serial-items.result.now in
    let i : ℕ = c.loop-serial.serial-index in
    cc (
      take_more items i c.serial-item.result c.loop-serial-test.true,
      merged-push c.args.self.now (take i items) c.serial-item.result,
      c.in_ok-note.ensures.ok,
      c.serial.ensures,
      c.serial-item.is,
      c.loop-serial.invariant,
    )

pub returns-clause-numbers : goal.returns-clause-numbers
returns-clause-numbers c i =
    let full : take c.loop-serial.serial-index c.as_slice-serial-items.result.now ≡ c.as_slice-serial-items.result.now
    = take_all c.loop-serial.serial-index c.as_slice-serial-items.result.now c.loop-serial-test.false in
    let e : c.loop-serial.all ≡ merged c.args.self.now c.args.other.now
    = cc (full, c.loop-serial.invariant, c.as_slice-serial-items.ensures, c.other.view_is) in
    let P : List QueueSerial → Type 0 = AreDistinct in
    rw e (number_of-merged c.args.self.now c.args.other.now i (subst P c.other.view_is c.other.invariant))
