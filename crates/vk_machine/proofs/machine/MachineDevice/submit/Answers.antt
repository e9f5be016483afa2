use Rattle.std.proofs.Common.{◌≡◌, ◌+◌, ◌++◌, [], ◌∷◌, length, refl, sym, ◌∙◌, ap, arith, subst, length-append}
use Rattle.std.specs.Prelude.{All}
use Rattle.vk_model.specs.Fitting.{NodeFits}
use Rattle.vk_device.specs.declared.logged.Logged.TheVariants.{Submitted}
use Rattle.vk_device.specs.Journal.{kind_of}
use Rattle.vk_machine.specs.Machine.{MachineModel, Keeps, waiting_from}
use Rattle.vk_machine.proofs.Keeping.{keeps_submitted}
use Rattle.vk_machine.proofs.Calls.{at_end, length-waiting_from}
use Rattle.vk_machine.proofs.machine.MachineDevice.submit.Goals as goal

pub invariant_of-self-2 : goal.invariant_of-self-2
invariant_of-self-2 c =
    let nodes : c.into_vec-nodes.result.items ≡ c.args.batch.now.nodes = c.into_vec-nodes.ensures ∙ c.in_ok-copy-2.ensures in
    let waiting : c.push_all.new.waiting.nodes ≡ c.self.inside.waiting.nodes ++ waiting_from c.self.inside.batches 0 c.args.batch.now.queue c.args.batch.now.nodes =
    c.push_all.ensures
    ∙ ap (λ w. w ++ waiting_from c.self.inside.batches 0 c.args.batch.now.queue c.into_vec-nodes.result.items) c.in_ok-reserve-2.ensures.nodes
    ∙ ap (λ l. c.self.inside.waiting.nodes ++ waiting_from c.self.inside.batches 0 c.args.batch.now.queue l) nodes
    in
    let fits : All (NodeFits (kind_of c.self.inside.journal.items)) c.args.batch.now.nodes = subst (λ (m : MachineModel). All (NodeFits (kind_of m.journal)) c.args.batch.now.nodes) (sym c.self.view_is) c.requires.fits in (
      at_end (λ j. Keeps j c.self.inside.objects c.push_all.new.waiting.nodes c.self.inside.made (c.self.inside.batches + 1)) c.self.inside.journal.items c.reserve.new.self.items c.push_reserved.new.self.items (Submitted c.in_ok-copy.copy) c.push_reserved.ensures.items c.in_ok-reserve.ensures.items
          (subst (λ b. Keeps (c.self.inside.journal.items ++ Submitted b ∷ []) c.self.inside.objects c.push_all.new.waiting.nodes c.self.inside.made (c.self.inside.batches + 1)) (sym c.in_ok-copy.ensures)
          (subst (λ w. Keeps (c.self.inside.journal.items ++ Submitted c.args.batch.now ∷ []) c.self.inside.objects w c.self.inside.made (c.self.inside.batches + 1)) (sym waiting)
          (keeps_submitted c.self.inside.journal.items c.self.inside.objects c.self.inside.objects c.self.inside.waiting.nodes c.self.inside.made c.self.inside.batches c.self.invariant.0 c.args.batch.now c.requires.queue fits (λ i. refl)))),
      omega (arith, c.self.invariant.1, ap length waiting, length-append c.self.inside.waiting.nodes (waiting_from c.self.inside.batches 0 c.args.batch.now.queue c.args.batch.now.nodes), length-waiting_from c.self.inside.batches 0 c.args.batch.now.queue c.args.batch.now.nodes, ap length nodes, c.push_reserved.ensures.len, c.push_reserved.ensures.capacity, c.in_ok-reserve.ensures.ok, c.in_ok-reserve.ensures.len, c.count.ensures, c.len.ensures, c.len-2.ensures),
    )
