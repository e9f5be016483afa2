use Rattle.std.proofs.Common.{◌++◌, [], ◌∷◌, refl, sym, ◌∙◌, ap, arith, subst, IsSome}
use Rattle.vk_types.specs.declared.handles.HandleId.{HandleId}
use Rattle.vk_model.specs.Meaning.{IsSettled}
use Rattle.vk_device.specs.declared.logged.Logged.TheVariants.{Destroyed}
use Rattle.vk_device.specs.Journal.{kind_of}
use Rattle.vk_device.specs.Order.{log_of, order_of}
use Rattle.vk_machine.specs.Machine.{MachineModel, Keeps}
use Rattle.vk_machine.proofs.Keeping.{keeps_destroyed}
use Rattle.vk_machine.proofs.Calls.{at_end, changes_only}
use Rattle.vk_machine.proofs.machine.MachineDevice.destroy.Goals as goal

pub invariant_of-self : goal.invariant_of-self
invariant_of-self c =
    let lives : IsSome (kind_of c.self.inside.journal.items c.spend-id.result.0) = subst (λ (h : HandleId). IsSome (kind_of c.self.inside.journal.items h.0)) (sym c.spend-id.ensures) (subst (λ (m : MachineModel). IsSome (kind_of m.journal c.args.handle.0)) (sym c.self.view_is) c.requires.live) in
    let settled : IsSettled (log_of c.self.inside.journal.items) (order_of c.self.inside.journal.items) c.spend-id.result.0 = subst (λ (h : HandleId). IsSettled (log_of c.self.inside.journal.items) (order_of c.self.inside.journal.items) h.0) (sym c.spend-id.ensures) (subst (λ (m : MachineModel). IsSettled (log_of m.journal) (order_of m.journal) c.args.handle.0) (sym c.self.view_is) c.requires.settled) in (
      at_end (λ j. Keeps j c.remove.new.self c.self.inside.waiting.nodes c.self.inside.made c.self.inside.batches) c.self.inside.journal.items c.self.inside.journal.items c.push_reserved.new.self.items (Destroyed c.spend-id.result) c.push_reserved.ensures.items refl
          (keeps_destroyed c.self.inside.journal.items c.self.inside.objects c.remove.new.self c.self.inside.waiting.nodes c.self.inside.made c.self.inside.batches c.self.invariant.0 c.spend-id.result lives settled c.remove.ensures.removed),
      omega (arith, c.self.invariant.1, c.remove.ensures.count, c.push_reserved.ensures.len, c.push_reserved.ensures.capacity),
    )

pub returns-clause-logged : goal.returns-clause-logged
returns-clause-logged c =
    changes_only c.args.self.now _ c.self.inside.objects c.remove.new.self (ap (λ (m : MachineModel). m.stored) (sym c.self.view_is)) refl c.args.handle.0 (Destroyed c.args.handle)
    (c.push_reserved.ensures.items
    ∙ ap (λ j. j ++ Destroyed c.spend-id.result ∷ []) (ap (λ (m : MachineModel). m.journal) c.self.view_is)
    ∙ ap (λ (h : HandleId). c.args.self.now.journal ++ Destroyed h ∷ []) c.spend-id.ensures)
    (λ i differs. c.remove.ensures.removed.others i (λ same. differs (same ∙ ap (λ (h : HandleId). h.0) c.spend-id.ensures)))
