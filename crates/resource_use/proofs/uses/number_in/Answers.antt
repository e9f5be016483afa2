use Rattle.std.proofs.Common.{rules, ◌≡◌, ℕ, sym}
use Rattle.vk_types.specs.declared.batches.QueueSerial.{QueueSerial}
use Rattle.resource_use.proofs.Noting.{number-first, number-none}
use Rattle.resource_use.proofs.uses.number_in.Goals as goal

pub returns-in-Some : goal.returns-in-Some
returns-in-Some c =
    cc (
      number-first c.args.uses.now c.args.index c.in-Some.at c.index-uses-at.result c.in-Some.ensures.within
          (c.in-Some.ensures.found c.index-uses-at.result) (λ k lt. c.in-Some.ensures.first k c.index-uses-at.result lt),
      c.serial.ensures,
      c.index-uses-at.is,
    )

pub returns-in-None : goal.returns-in-None
returns-in-None c =
    let d : QueueSerial = record { index = 0; number = 0 } in
    sym (number-none c.args.uses.now c.args.index d (λ k lt. c.in-None.ensures.none k d lt))
