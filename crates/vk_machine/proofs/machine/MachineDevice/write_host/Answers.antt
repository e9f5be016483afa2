use Rattle.std.proofs.Common.{◌+◌, ◌≤◌, ◌++◌, [], ◌∷◌, length, refl, sym, ◌∙◌, ap, arith, subst}
use Rattle.cells.specs.Contents.{overwritten}
use Rattle.vk_model.specs.Meaning.{IsSettled}
use Rattle.vk_objects.specs.Objects as store
use Rattle.vk_device.specs.declared.logged.Logged.TheVariants.{Wrote}
use Rattle.vk_device.specs.Journal.{kind_of, ReachesTo}
use Rattle.vk_device.specs.Order.{log_of, order_of}
use Rattle.vk_machine.specs.Machine.{MachineModel, Keeps, bytes_at}
use Rattle.vk_machine.proofs.Stored.{stored_bytes}
use Rattle.vk_machine.proofs.Keeping.{keeps_wrote}
use Rattle.vk_machine.proofs.Calls.{at_end, changes_only, sets_twice, lies_inside}
use Rattle.vk_machine.proofs.machine.MachineDevice.write_host.Goals as goal

pub invariant_of-self-2 : goal.invariant_of-self-2
invariant_of-self-2 c =
    let reaches : ReachesTo (kind_of c.self.inside.journal.items c.args.id.0) (c.args.at + length c.args.bytes.now) = subst (λ (m : MachineModel). ReachesTo (kind_of m.journal c.args.id.0) (c.args.at + length c.args.bytes.now)) (sym c.self.view_is) c.requires.inside in
    let settled : IsSettled (log_of c.self.inside.journal.items) (order_of c.self.inside.journal.items) c.args.id.0 = subst (λ (m : MachineModel). IsSettled (log_of m.journal) (order_of m.journal) c.args.id.0) (sym c.self.view_is) c.requires.settled in
    let inside : c.args.at + length c.args.bytes.now ≤ length (store.bytes_of c.self.inside.objects c.args.id.0) = lies_inside c.self.inside.journal.items c.self.inside.objects c.self.inside.waiting.nodes c.self.inside.made c.self.inside.batches c.args.id.0 (c.args.at + length c.args.bytes.now) c.self.invariant.0 reaches in
    let sets : store.SetsBytes c.self.inside.objects c.put_back.new.self c.args.id.0 (overwritten (store.bytes_of c.self.inside.objects c.args.id.0) c.args.at c.args.bytes.now) =
    subst (store.SetsBytes c.self.inside.objects c.put_back.new.self c.args.id.0) (c.overwrite.ensures ∙ ap (λ b. overwritten b c.args.at c.args.bytes.now) c.take-held.ensures.bytes)
    (sets_twice c.self.inside.objects c.take-held.new.self c.put_back.new.self c.args.id.0 [] c.overwrite.new.self c.take-held.ensures.taken c.put_back.ensures)
    in (
      at_end (λ j. Keeps j c.put_back.new.self c.self.inside.waiting.nodes c.self.inside.made c.self.inside.batches) c.self.inside.journal.items c.reserve.new.self.items c.push_reserved.new.self.items (Wrote c.args.id c.args.at c.in_ok-copy.copy) c.push_reserved.ensures.items c.in_ok-reserve.ensures.items
          (subst (λ b. Keeps (c.self.inside.journal.items ++ Wrote c.args.id c.args.at b ∷ []) c.put_back.new.self c.self.inside.waiting.nodes c.self.inside.made c.self.inside.batches) (sym c.in_ok-copy.ensures)
          (keeps_wrote c.self.inside.journal.items c.self.inside.objects c.put_back.new.self c.self.inside.waiting.nodes c.self.inside.made c.self.inside.batches c.self.invariant.0 c.args.id c.args.at c.args.bytes.now reaches (omega (arith, inside, c.take-held.ensures.small, ap length c.take-held.ensures.bytes)) settled sets)),
      omega (arith, c.self.invariant.1, c.put_back.ensures.count, c.take-held.ensures.taken.count, c.push_reserved.ensures.len, c.push_reserved.ensures.capacity, c.in_ok-reserve.ensures.ok, c.in_ok-reserve.ensures.len, c.count.ensures, c.len.ensures),
    )

pub returns-clause-logged : goal.returns-clause-logged
returns-clause-logged c =
    changes_only c.args.self.now _ c.self.inside.objects c.put_back.new.self (ap (λ (m : MachineModel). m.stored) (sym c.self.view_is)) refl c.args.id.0 (Wrote c.args.id c.args.at c.args.bytes.now)
    (c.push_reserved.ensures.items
    ∙ ap (λ j. j ++ Wrote c.args.id c.args.at c.in_ok-copy.copy ∷ []) (c.in_ok-reserve.ensures.items ∙ ap (λ (m : MachineModel). m.journal) c.self.view_is)
    ∙ ap (λ b. c.args.self.now.journal ++ Wrote c.args.id c.args.at b ∷ []) c.in_ok-copy.ensures)
    (λ i differs. c.put_back.ensures.others i differs ∙ c.take-held.ensures.taken.others i differs)

pub returns-clause-written : goal.returns-clause-written
returns-clause-written c =
    stored_bytes c.put_back.new.self c.args.id.0
    ∙ c.put_back.ensures.here
    ∙ c.overwrite.ensures
    ∙ ap (λ b. overwritten b c.args.at c.args.bytes.now) (c.take-held.ensures.bytes ∙ sym (stored_bytes c.self.inside.objects c.args.id.0) ∙ ap (λ (m : MachineModel). bytes_at m.stored c.args.id.0) c.self.view_is)
