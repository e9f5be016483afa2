-- What barriers keep and discard.
use Rattle.std.proofs.Common.{◌≡◌, ℕ, ◌<◌, true, false, refl, ◌∙◌, ap, arith}
use Rattle.std.specs.Prelude.{Some, None}
use Rattle.std.proofs.lemmas.Bool.{or_left, cond-true, cond-false}
use Rattle.vk_types.specs.declared.handles.Kind.{Kind}
use Rattle.vk_types.specs.declared.accesses.Layout.{Layout}
use Rattle.vk_types.specs.declared.accesses.Layout.TheVariants.{Undefined, TransferSrc, TransferDst, ColorAttachment}
use Rattle.vk_types.specs.declared.regions.Barrier.{Barrier}
use Rattle.vk_types.specs.declared.ops.Op.{Op}
use Rattle.vk_types.specs.Touches.{the_end}
use Rattle.cells.specs.Contents.{UNDEFINED}
use Rattle.vk_model.specs.Cells.{Contents, discards, is_undefined}
use Rattle.vk_model.specs.Log.{Command, Range}
use Rattle.vk_model.specs.Meaning.{apply, covers, found}
use Rattle.vk_model.proofs.Local.{after_written}
use Rattle.vk_model.proofs.Copies.{covered_from}
use Rattle.vk_effects.proofs.Unwritten.{unchanged}

is_another : (layout : Layout) → (layout ≡ Undefined → ⊥) → is_undefined layout ≡ false
is_another Undefined other = absurd (other refl)
is_another TransferSrc other = refl
is_another TransferDst other = refl
is_another ColorAttachment other = refl

module _ (kinds : ℕ → Kind) (q : ℕ) (b : Barrier) (c : Contents) where
  pub keeps : (id i : ℕ) → discards b.layouts ≡ false → apply kinds (Command q (record { op = Op.Barrier b })) c id i ≡ c id i
  keeps id i kept = unchanged kinds (Command q (record { op = Op.Barrier b })) c id i (λ f. cond-false (discards b.layouts) UNDEFINED (f id i) kept)

  pub barrier_of_no_layout : (id i : ℕ) → b.layouts ≡ None → apply kinds (Command q (record { op = Op.Barrier b })) c id i ≡ c id i
  barrier_of_no_layout id i none = keeps id i (ap discards none)

  pub barrier_from_another : (id i : ℕ) (old new : Layout) → b.layouts ≡ Some (old, new) → (old ≡ Undefined → ⊥) → apply kinds (Command q (record { op = Op.Barrier b })) c id i ≡ c id i
  barrier_from_another id i old new is other = keeps id i (ap discards is ∙ is_another old other)

  pub empties : (i : ℕ) → discards b.layouts ≡ true → i < the_end → apply kinds (Command q (record { op = Op.Barrier b })) c b.id.0 i ≡ UNDEFINED
  empties i all below =
      let whole : Range = record { id = b.id.0; start = 0; end = the_end; written = true } in
      after_written kinds (Command q (record { op = Op.Barrier b })) c b.id.0 i (or_left (covers b.id.0 i whole) false (covered_from b.id.0 i whole refl (omega arith) below))
      ∙ cond-true (discards b.layouts) UNDEFINED (found (Command q (record { op = Op.Barrier b })) c b.id.0 i) all

  pub barrier_from_undefined : (i : ℕ) (new : Layout) → b.layouts ≡ Some (Undefined, new) → i < the_end → apply kinds (Command q (record { op = Op.Barrier b })) c b.id.0 i ≡ UNDEFINED
  barrier_from_undefined i new is below = empties i (ap discards is) below
