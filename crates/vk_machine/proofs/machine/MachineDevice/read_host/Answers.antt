use Rattle.std.proofs.Common.{◌≡◌, ◌+◌, ◌-◌, take, drop, length, refl, sym, ◌∙◌, ap, arith, subst}
use Rattle.std.proofs.lemmas.List.{take_all, length-drop}
use Rattle.vk_device.specs.declared.logged.Logged.TheVariants.{Fetched}
use Rattle.vk_device.specs.Journal.{kind_of, ReachesTo}
use Rattle.cells.specs.Contents.{part}
use Rattle.vk_model.proofs.Parts.{length-part}
use Rattle.vk_objects.specs.Objects as store
use Rattle.vk_machine.specs.Machine.{MachineModel, Keeps, bytes_at}
use Rattle.vk_machine.proofs.Stored.{stored_bytes, bytes_found}
use Rattle.vk_machine.proofs.Keeping.{keeps_fetched}
use Rattle.vk_machine.proofs.Calls.{at_end, lies_inside}
use Rattle.vk_machine.proofs.machine.MachineDevice.read_host.Goals as goal

pub invariant_of-self-2 : goal.invariant_of-self-2
invariant_of-self-2 c =
    let reached : ReachesTo (kind_of c.self.inside.journal.items c.args.id.0) (c.args.at + length c.args.out.now) = subst (λ (m : MachineModel). ReachesTo (kind_of m.journal c.args.id.0) (c.args.at + length c.args.out.now)) (sym c.self.view_is) c.requires.inside in
    let inside = lies_inside c.self.inside.journal.items c.self.inside.objects c.self.inside.waiting.nodes c.self.inside.made c.self.inside.batches c.args.id.0 (c.args.at + length c.args.out.now) c.self.invariant.0 reached in
    let found : c.in-Some.bytes.now ≡ store.bytes_of c.self.inside.objects c.args.id.0 = bytes_found (store.object_at c.self.inside.objects c.args.id.0) c.in-Some.bytes.now c.in-Some.ensures in
    let copied : c.in_ok-copy-in-Some.copy ≡ part c.in-Some.bytes.now c.args.at (length c.args.out.now) = c.in_ok-copy-in-Some.ensures ∙ ap (take (length c.args.out.now)) (take_all (length c.in-Some.bytes.now - c.args.at) (drop c.args.at c.in-Some.bytes.now) (omega (arith, length-drop c.args.at c.in-Some.bytes.now))) in
    let size : length c.args.out.now ≡ length c.in_ok-copy-in-Some.copy = sym (ap length copied ∙ length-part c.in-Some.bytes.now c.args.at (length c.args.out.now) (omega (arith, inside, ap length found))) in
    let reaches : ReachesTo (kind_of c.self.inside.journal.items c.args.id.0) (c.args.at + length c.in_ok-copy-in-Some.copy) = subst (λ n. ReachesTo (kind_of c.self.inside.journal.items c.args.id.0) (c.args.at + n)) size (subst (λ (m : MachineModel). ReachesTo (kind_of m.journal c.args.id.0) (c.args.at + length c.args.out.now)) (sym c.self.view_is) c.requires.inside) in (
      at_end (λ j. Keeps j c.self.inside.objects c.self.inside.waiting.nodes c.self.inside.made c.self.inside.batches) c.self.inside.journal.items c.reserve.new.self.items c.push_reserved.new.self.items (Fetched c.args.id c.args.at c.in_ok-copy-in-Some.copy) c.push_reserved.ensures.items c.in_ok-reserve.ensures.items
          (keeps_fetched c.self.inside.journal.items c.self.inside.objects c.self.inside.objects c.self.inside.waiting.nodes c.self.inside.made c.self.inside.batches c.self.invariant.0 c.args.id c.args.at c.in_ok-copy-in-Some.copy reaches (λ i. refl)),
      omega (arith, c.self.invariant.1, c.push_reserved.ensures.len, c.push_reserved.ensures.capacity, c.in_ok-reserve.ensures.ok, c.in_ok-reserve.ensures.len, c.count.ensures, c.len.ensures),
    )

pub returns-clause-read : goal.returns-clause-read
returns-clause-read c =
    let found : c.in-Some.bytes.now ≡ store.bytes_of c.self.inside.objects c.args.id.0 = bytes_found (store.object_at c.self.inside.objects c.args.id.0) c.in-Some.bytes.now c.in-Some.ensures in
    c.copy_from_slice.ensures.after ∙ c.as_slice.ensures ∙ c.in_ok-copy-in-Some.ensures
    ∙ ap (take (length c.args.out.now)) (take_all (length c.in-Some.bytes.now - c.args.at) (drop c.args.at c.in-Some.bytes.now) (omega (arith, length-drop c.args.at c.in-Some.bytes.now)))
    ∙ ap (λ b. part b c.args.at (length c.args.out.now)) (found ∙ sym (stored_bytes c.self.inside.objects c.args.id.0) ∙ ap (λ (m : MachineModel). bytes_at m.stored c.args.id.0) c.self.view_is)
