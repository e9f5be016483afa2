-- A device stays in order by what each of its calls promises.
use mathlib.Core.Path.{fun_ext}
use Rattle.std.proofs.Common.{◌≡◌, ℕ, ◌+◌, ◌<◌, ◌≤◌, ◌^◌, List, [], ◌∷◌, ◌++◌, length, refl, sym, ◌∙◌, ap, subst, arith, inl, inr}
use Rattle.std.specs.Prelude.{All, Result, Ok, Err, IsSome}
use Rattle.std.proofs.lemmas.Bool.{cases_eq}
use Rattle.cells.specs.Contents.{overwritten}
use Rattle.vk_types.specs.declared.handles.HandleId.{HandleId}
use Rattle.vk_types.specs.declared.handles.Kind.{Kind}
use Rattle.vk_types.specs.declared.batches.Batch.{Batch}
use Rattle.vk_types.specs.declared.stops.Stop.{Stop}
use Rattle.vk_model.specs.Fitting.{NodeFits, size_of}
use Rattle.vk_model.specs.Meaning.{IsSettled}
use Rattle.vk_device.specs.declared.logged.Logged.{Logged}
use Rattle.vk_device.specs.declared.logged.Logged.TheVariants.{Created, Wrote, Submitted, Ran, Fetched, Destroyed}
use Rattle.vk_device.specs.declared.logged.Turned.{Turned}
use Rattle.vk_device.specs.declared.logged.Turned.TheVariants.{Idle}
use Rattle.vk_device.specs.Journal.{kind_of, creates_of, ReachesTo}
use Rattle.vk_device.specs.Order.{log_of, order_of}
use Rattle.vk_device.specs.Effects.{ChangesNothing, ChangesOnly, Adds, Executes, HasTurned}
use Rattle.vk_device.specs.Running.{IsInOrder}
use Rattle.vk_device.proofs.Running.{in_order_created, in_order_fetched, in_order_destroyed}
use Rattle.vk_device.proofs.Steps.{in_order_wrote, in_order_submitted, in_order_ran}

module _ {D : Type 0} (journal : D → List Logged) (bytes_of : D → ℕ → List ℕ) (old new : D) where
  at_new : {entries : List Logged} → journal new ≡ entries → IsInOrder entries (bytes_of new) → IsInOrder (journal new) (bytes_of new)
  at_new is has = subst (λ j. IsInOrder j (bytes_of new)) (sym is) has

  pub stays : IsInOrder (journal old) (bytes_of old) → ChangesNothing journal bytes_of old new → IsInOrder (journal new) (bytes_of new)
  stays has same = at_new same.logged (subst (IsInOrder (journal old)) (fun_ext (λ id. sym (same.others id))) has)

  pub creates : (id : HandleId) (kind : Kind) → IsInOrder (journal old) (bytes_of old) → creates_of id.0 (journal old) ≡ 0 → length (bytes_of new id.0) ≡ size_of kind → ChangesOnly journal bytes_of old new id.0 (Created id kind) → IsInOrder (journal new) (bytes_of new)
  creates id kind has fresh size change = at_new change.logged (in_order_created (journal old) (bytes_of old) (bytes_of new) id kind has fresh size change.others)

  pub writes : (id : HandleId) (at : ℕ) (bytes : List ℕ) → IsInOrder (journal old) (bytes_of old) → ReachesTo (kind_of (journal old) id.0) (at + length bytes) → at + length bytes < 2 ^ 64 → IsSettled (log_of (journal old)) (order_of (journal old)) id.0 → ChangesOnly journal bytes_of old new id.0 (Wrote id at bytes) → bytes_of new id.0 ≡ overwritten (bytes_of old id.0) at bytes → IsInOrder (journal new) (bytes_of new)
  writes id at bytes has inside short still change written = at_new change.logged (in_order_wrote (journal old) (bytes_of old) (bytes_of new) id at bytes has inside (omega (arith, short)) written change.others still)

  pub submits : (batch : Batch) → IsInOrder (journal old) (bytes_of old) → All (NodeFits (kind_of (journal old))) batch.nodes → Adds journal bytes_of old new (Submitted batch) → IsInOrder (journal new) (bytes_of new)
  submits batch has fits change = at_new change.logged (in_order_submitted (journal old) (bytes_of old) (bytes_of new) batch has fits change.others)

  runs : (batch node : ℕ) → IsInOrder (journal old) (bytes_of old) → Executes journal bytes_of old new batch node → IsInOrder (journal new) (bytes_of new)
  runs batch node has e = at_new e.logged (in_order_ran (journal old) (bytes_of old) (bytes_of new) batch node e.queue e.command has e.is e.at e.live e.ready e.sizes e.agree)

  pub turns : (turned : Result Turned Stop) → IsInOrder (journal old) (bytes_of old) → HasTurned journal bytes_of old new turned → IsInOrder (journal new) (bytes_of new)
  turns (Ok (Turned.Ran batch node)) has turned = runs batch node has turned
  turns (Ok Idle) has turned = stays has turned.0
  turns (Err stop) has turned = stays has turned.0

  pub fetches : (id : HandleId) (at : ℕ) (bytes : List ℕ) → IsInOrder (journal old) (bytes_of old) → ReachesTo (kind_of (journal old) id.0) (at + length bytes) → ChangesOnly journal bytes_of old new id.0 (Fetched id at bytes) → bytes_of new id.0 ≡ bytes_of old id.0 → IsInOrder (journal new) (bytes_of new)
  fetches id at bytes has inside change same =
      at_new change.logged (in_order_fetched (journal old) (bytes_of old) (bytes_of new) id at bytes has inside (λ other. elim (cases_eq other id.0) [ inl here ↦ ap (bytes_of new) here ∙ same ∙ ap (bytes_of old) (sym here) | inr differs ↦ change.others other differs ]))

  pub destroys : (id : HandleId) → IsInOrder (journal old) (bytes_of old) → IsSome (kind_of (journal old) id.0) → ChangesOnly journal bytes_of old new id.0 (Destroyed id) → IsInOrder (journal new) (bytes_of new)
  destroys id has lives change = at_new change.logged (in_order_destroyed (journal old) (bytes_of old) (bytes_of new) id has lives change.others)
