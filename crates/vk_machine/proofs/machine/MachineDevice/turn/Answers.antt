use Rattle.std.proofs.Common.{length, refl, ◌∙◌, ap, subst}
use Rattle.vk_device.specs.Order.{AllRan}
use Rattle.vk_machine.specs.Machine.{MachineModel, journal_of}
use Rattle.vk_machine.specs.Choices.{chosen}
use Rattle.vk_machine.proofs.Calls.{turned, all_ran, by_choice}
use Rattle.vk_machine.proofs.machine.MachineDevice.turn.Goals as goal

pub returns-then-ready-eq0-clause-turned : goal.returns-then-ready-eq0-clause-turned
returns-then-ready-eq0-clause-turned c = (
  record { logged = refl; others = λ id. refl },
  subst (λ (m : MachineModel). AllRan (journal_of m)) c.self.view_is (all_ran c.self.inside.journal.items c.self.inside.waiting.nodes c.self.invariant.0.left (Rattle.vk_machine.proofs.Calls.none_ready c.ready-ready.result (length c.self.inside.waiting.nodes) c.if-ready-eq0.true c.ready-ready.ensures.some)),
)

pub returns-clause-turned : goal.returns-clause-turned
returns-clause-turned c = turned c.args.self.now _ c.run.new.self c.pick-number.result c.run.result (ap (λ (m : MachineModel). m.journal) c.self.view_is) (ap (λ (m : MachineModel). m.stored) c.self.view_is) c.run.ensures.ran

pub returns-clause-chosen : goal.returns-clause-chosen
returns-clause-chosen c = by_choice c.args.self.now _ _ c.run.new.self c.pick-number.result c.run.result c.self.view_is refl refl refl (c.pick-number.ensures.number ∙ ap (chosen c.self.inside.choice) c.ready-ready.ensures.count) c.pick-number.ensures.next c.run.ensures.choice c.run.ensures.ran
