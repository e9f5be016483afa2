use Rattle.std.proofs.Common.{◌≡◌, ◌++◌, [], ◌∷◌, ◌==◌, List, Some, Option, cond, sym, ◌∙◌, ap, subst, eq-eqb, refl}
use Rattle.vk_types.specs.declared.handles.HandleId.{HandleId}
use Rattle.vk_types.specs.declared.handles.Kind.{Kind}
use Rattle.vk_types.specs.declared.handles.Kind.TheVariants.{Buffer}
use Rattle.vk_device.specs.declared.logged.Logged.{Logged}
use Rattle.vk_device.specs.declared.logged.Logged.TheVariants.{Created}
use Rattle.vk_device.specs.Journal.{kind_of, objects_after}
use Rattle.vk_device.proofs.Laws.{kind_of-push}
use Rattle.back_tests.proofs.devices.run_on_a_buffer.Goals as goal

-- a new object has the kind that it was given
created_kind : (journal : List Logged) (id : HandleId) (kind : Kind) → kind_of (journal ++ Created id kind ∷ []) id.0 ≡ Some kind
created_kind journal id kind = ap (λ o. o id.0) (kind_of-push journal (Created id kind)) ∙ ap (λ t. cond t (Some kind) (kind_of journal id.0)) (eq-eqb id.0 id.0 refl)

pub run-turns-requires : goal.run-turns-requires
run-turns-requires g c =
    subst (λ (h : HandleId). kind_of (g.D.Device.journal c.create.new.self) h.0 ≡ Some (Buffer 16)) (sym c.id.ensures)
    (subst (λ j. kind_of j c.in_ok-handle.handle.0 ≡ Some (Buffer 16)) (sym c.in_ok-handle.ensures.logged.logged) (created_kind (g.D.Device.journal c.args.device.now) c.in_ok-handle.handle (Buffer 16)))
