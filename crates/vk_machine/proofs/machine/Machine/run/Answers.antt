use Rattle.std.proofs.Common.{◌++◌, [], ◌∷◌, refl, sym, arith, subst}
use Rattle.vk_ready.specs.Ready.{ready_place}
use Rattle.vk_device.specs.declared.logged.Logged.TheVariants.{Ran}
use Rattle.vk_device.specs.Journal.{kind_of}
use Rattle.vk_objects.proofs.Fits.{touched_sized}
use Rattle.vk_machine.specs.Machine.{Keeps}
use Rattle.vk_machine.proofs.Fits.{fits_same}
use Rattle.vk_machine.proofs.Keeping.{keeps_ran}
use Rattle.vk_machine.proofs.Calls.{at_end, runs_ready, one_fewer}
use Rattle.vk_machine.proofs.machine.Machine.run.Goals as goal

pub execute-requires-clause-fits : goal.execute-requires-clause-fits
execute-requires-clause-fits c =
    let k = c.self.invariant.0 in
    fits_same (kind_of c.self.inside.journal.items) _ c.take-node.result.command (k.left.each (ready_place c.self.inside.waiting.nodes c.args.number) c.take-node.result c.take-node.ensures.node).fits (λ id t. k.live id)

pub execute-requires-clause-sized : goal.execute-requires-clause-sized
execute-requires-clause-sized c = touched_sized c.self.inside.objects c.take-node.result.command c.self.invariant.0.sized

pub invariant_of-self : goal.invariant_of-self
invariant_of-self c = (
  at_end (λ j. Keeps j c.execute.new.objects c.take-node.new.self.nodes c.self.inside.made c.self.inside.batches) c.self.inside.journal.items c.self.inside.journal.items c.push_reserved.new.self.items (Ran c.take-node.result.batch c.take-node.result.node) c.push_reserved.ensures.items refl
      (subst (λ w. Keeps (c.self.inside.journal.items ++ Ran c.take-node.result.batch c.take-node.result.node ∷ []) c.execute.new.objects w c.self.inside.made c.self.inside.batches) (sym c.take-node.ensures.others)
      (keeps_ran c.self.inside.journal.items c.self.inside.objects c.execute.new.objects c.self.inside.waiting.nodes c.self.inside.made c.self.inside.batches c.self.invariant.0 (ready_place c.self.inside.waiting.nodes c.args.number) c.take-node.result c.take-node.ensures.node c.take-node.ensures.ready c.execute.ensures)),
  omega (arith, c.self.invariant.1, c.execute.ensures.count, c.push_reserved.ensures.len, c.push_reserved.ensures.capacity, one_fewer (ready_place c.self.inside.waiting.nodes c.args.number) c.take-node.result c.self.inside.waiting.nodes c.take-node.new.self.nodes c.take-node.ensures.node c.take-node.ensures.others),
)

pub returns-clause-ran : goal.returns-clause-ran
returns-clause-ran c =
    runs_ready _ _ _ c.self.inside.objects c.execute.new.objects c.self.view_is refl refl c.args.number c.take-node.result c.take-node.ensures.node c.push_reserved.ensures.items
    c.self.inside.made c.self.inside.batches c.self.invariant.0 c.take-node.ensures.ready c.execute.ensures c.take-node.ensures.others
