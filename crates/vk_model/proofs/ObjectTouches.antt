-- Objects that nodes touch, and with which kinds of access.
use Rattle.std.proofs.Common.{◌≡◌, ℕ, true, false, Bool, eqb, refl, sym, ◌∙◌, ap, inl, inr}
use Rattle.std.specs.Prelude.{◌⊎◌, ◌&&◌, ◌||◌, Option, Some, None}
use Rattle.std.specs.List.{list_any}
use Rattle.std.proofs.lemmas.Bool.{false≢true, eqb-true, or_cases}
use Rattle.vk_types.specs.declared.accesses.Access.{Access}
use Rattle.vk_types.specs.declared.regions.Barrier.{Barrier}
use Rattle.vk_types.specs.declared.ops.Op.{Op}
use Rattle.vk_types.specs.declared.ops.Op.TheVariants.{CopyBuffer, BufferToImage, ImageToBuffer, CopyImage, BlitImage, ClearImage, FillBuffer, PassPart}
use Rattle.vk_types.specs.declared.ops.Node.{Node}
use Rattle.vk_types.specs.Accesses.{in_common, all_access}
use Rattle.vk_types.specs.Touches.{op_touches, op_barrier, barrier_of}
use Rattle.vk_model.specs.Log.{touches_with, touches_object}
use Rattle.vk_model.proofs.Clashes.{barrier_touches, none_is_some}

-- Every touch but a barrier's has a kind

one_more : (p : Bool) → (p || false) ≡ true → ((p && true) || false) ≡ true
one_more true e = refl
one_more false e = e

two_more : (p q : Bool) → (p || (q || false)) ≡ true → ((p && true) || ((q && true) || false)) ≡ true
two_more true q e = refl
two_more false true e = refl
two_more false false e = e

op_touches_with : (o : Op) (id : ℕ) → op_barrier o ≡ None → list_any (λ t. eqb t.id.0 id) (op_touches o) ≡ true → list_any (λ t. eqb t.id.0 id && in_common t.access all_access) (op_touches o) ≡ true
op_touches_with (CopyBuffer src _ dst _ _) id n e = two_more (eqb src.0 id) (eqb dst.0 id) e
op_touches_with (BufferToImage src _ _ _ dst _) id n e = two_more (eqb src.0 id) (eqb dst.0 id) e
op_touches_with (ImageToBuffer src _ dst _ _ _ _) id n e = two_more (eqb src.0 id) (eqb dst.0 id) e
op_touches_with (CopyImage src _ _ dst _) id n e = two_more (eqb src.0 id) (eqb dst.0 id) e
op_touches_with (BlitImage src dst _ _) id n e = two_more (eqb src.0 id) (eqb dst.0 id) e
op_touches_with (ClearImage image _ _) id n e = one_more (eqb image.0 id) e
op_touches_with (FillBuffer dst _ _ _) id n e = one_more (eqb dst.0 id) e
op_touches_with (PassPart _ _ image _ _ _) id n e = one_more (eqb image.0 id) e
op_touches_with (Op.Barrier b) id n e = none_is_some (sym n)

-- so a node that touches an object does so with one of all kinds
pub touches_with_all : (n : Node) (id : ℕ) (kinds : Access) → kinds ≡ all_access → barrier_of n ≡ None → touches_object n id ≡ true → touches_with n id kinds ≡ true
touches_with_all n id kinds all none e = ap (touches_with n id) all ∙ op_touches_with n.op id none e

pub barrier_object : (n : Node) (x : Barrier) (id : ℕ) → barrier_of n ≡ Some x → touches_object n id ≡ true → x.id.0 ≡ id
barrier_object n x id is e = go (or_cases (eqb x.id.0 id) false (sym (ap (list_any (λ t. eqb t.id.0 id)) (barrier_touches n x is)) ∙ e))
  where
    go : (eqb x.id.0 id ≡ true) ⊎ (false ≡ true) → x.id.0 ≡ id
    go (inl f) = eqb-true x.id.0 id f
    go (inr f) = absurd (false≢true f)
