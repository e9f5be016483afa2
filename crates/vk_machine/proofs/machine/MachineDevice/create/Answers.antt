use Rattle.std.proofs.Common.{◌+◌, ◌++◌, [], ◌∷◌, length, refl, sym, ◌∙◌, ap, arith}
use Rattle.std.proofs.lemmas.List.{length-replicate}
use Rattle.vk_types.specs.declared.handles.HandleId.{HandleId}
use Rattle.vk_model.specs.Fitting.{size_of}
use Rattle.vk_objects.specs.Objects as store
use Rattle.vk_device.specs.declared.logged.Logged.TheVariants.{Created}
use Rattle.vk_device.proofs.Laws.{unused}
use Rattle.vk_machine.specs.Machine.{MachineModel, Keeps, stored_in, bytes_at}
use Rattle.vk_machine.proofs.Stored.{stored_bytes}
use Rattle.vk_machine.proofs.Keeping.{keeps_created}
use Rattle.vk_machine.proofs.Calls.{at_end, changes_only, changes_nothing}
use Rattle.vk_machine.proofs.machine.MachineDevice.create.Goals as goal

pub insert-requires-clause-new : goal.insert-requires-clause-new
insert-requires-clause-new c = let k = c.self.invariant.0 in k.live c.self.inside.made ∙ unused c.self.inside.journal.items c.self.inside.made (k.fresh c.self.inside.made (omega arith))

pub returns-in_err-insert-clause-err : goal.returns-in_err-insert-clause-err
returns-in_err-insert-clause-err c =
    Rattle.vk_machine.proofs.Calls.on_err c.from_residual-in_err-insert.result
    (changes_nothing c.args.self.now _ c.self.inside.objects c.insert.new.self (ap (λ (m : MachineModel). m.stored) (sym c.self.view_is)) refl (c.reserve.ensures.items ∙ ap (λ (m : MachineModel). m.journal) c.self.view_is) c.in_err-insert.ensures.err)

pub invariant_of-self-2 : goal.invariant_of-self-2
invariant_of-self-2 c = (
  at_end (λ j. Keeps j c.insert.new.self c.self.inside.waiting.nodes (c.self.inside.made + 1) c.self.inside.batches) c.self.inside.journal.items c.reserve.new.self.items c.push_reserved.new.self.items (Created (record { 0 = c.self.inside.made }) c.args.kind) c.push_reserved.ensures.items c.in_ok-reserve.ensures.items
      (keeps_created c.self.inside.journal.items c.self.inside.objects c.insert.new.self c.self.inside.waiting.nodes c.self.inside.made c.self.inside.batches c.self.invariant.0 (record { 0 = c.self.inside.made }) c.args.kind refl c.requires c.in_ok-insert.ensures.ok),
  omega (arith, c.self.invariant.1, c.push_reserved.ensures.len, c.push_reserved.ensures.capacity, c.in_ok-insert.ensures.count, c.in_ok-reserve.ensures.ok, c.in_ok-reserve.ensures.len, c.count.ensures, c.len.ensures),
)

pub returns-clause-logged : goal.returns-clause-logged
returns-clause-logged c =
    changes_only c.args.self.now _ c.self.inside.objects c.insert.new.self (ap (λ (m : MachineModel). m.stored) (sym c.self.view_is)) refl c.issue.result.0 (Created c.issue.result c.args.kind)
    (c.push_reserved.ensures.items
    ∙ ap (λ j. j ++ Created (record { 0 = c.self.inside.made }) c.args.kind ∷ []) (c.in_ok-reserve.ensures.items ∙ ap (λ (m : MachineModel). m.journal) c.self.view_is)
    ∙ ap (λ (h : HandleId). c.args.self.now.journal ++ Created h c.args.kind ∷ []) (sym c.issue.ensures))
    (λ i differs. c.in_ok-insert.ensures.ok.others i (λ same. differs (same ∙ ap (λ (h : HandleId). h.0) (sym c.issue.ensures))))

pub returns-clause-size : goal.returns-clause-size
returns-clause-size c =
    ap (λ (h : HandleId). length (bytes_at (stored_in c.insert.new.self) h.0)) c.issue.ensures
    ∙ ap length (stored_bytes c.insert.new.self c.self.inside.made)
    ∙ ap (λ o. length (store.bytes_in o)) c.in_ok-insert.ensures.ok.here
    ∙ length-replicate (size_of c.args.kind) 0
