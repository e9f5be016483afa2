-- Nodes with an edge touch an object in common.
use Rattle.std.proofs.Common.{◌≡◌, ℕ, ◌-◌, ◌<◌, ◌≤◌, List, [], ◌∷◌, length, true, false, eqb, refl, sym, ◌∙◌, ap, subst, arith, inl, inr}
use Rattle.std.specs.Prelude.{◌⊎◌, ◌||◌, Option, Some, None, slice_get}
use Rattle.std.specs.List.{list_any}
use Rattle.std.proofs.lemmas.Bool.{and_parts, or_cases, eqb-true, false≢true}
use Rattle.std.proofs.lemmas.Option.{same_Some}
use Rattle.vk_types.specs.declared.regions.Touch.{Touch}
use Rattle.vk_types.specs.declared.regions.Barrier.{Barrier}
use Rattle.vk_types.specs.declared.ops.Op.{Op}
use Rattle.vk_types.specs.declared.ops.Op.TheVariants.{CopyBuffer, BufferToImage, ImageToBuffer, CopyImage, BlitImage, ClearImage, FillBuffer, PassPart}
use Rattle.vk_types.specs.declared.ops.Node.{Node}
use Rattle.vk_types.specs.Accesses.{in_common}
use Rattle.vk_types.specs.Touches.{op_touches, barrier_of}
use Rattle.vk_model.specs.Log.{touches_object, waits_for, holds_back, chained, node_edge}
use Rattle.vk_model.proofs.Clashes.{barrier_touches_object, touched_from_with}
use Rattle.vk_ready.specs.declared.nodes.WaitingNode.{WaitingNode}
use Rattle.vk_ready.specs.Ready.{edge}

pub record Share (a b : Node) : Type 0 where
  pub id : ℕ
  pub by_a : touches_object a id ≡ true
  pub by_b : touches_object b id ≡ true

module _ (a b : Node) where
  waited : (o : Option Barrier) → barrier_of b ≡ o → waits_for a o ≡ true → Share a b
  waited None is w = absurd (false≢true w)
  waited (Some y) is w = record { id = y.id.0; by_a = touched_from_with a y.id.0 y.first w; by_b = barrier_touches_object b y is }

  held : (o : Option Barrier) → barrier_of a ≡ o → holds_back o b ≡ true → Share a b
  held None is w = absurd (false≢true w)
  held (Some x) is w = record { id = x.id.0; by_a = barrier_touches_object a x is; by_b = touched_from_with b x.id.0 x.second w }

  joined : (o o' : Option Barrier) → barrier_of a ≡ o → barrier_of b ≡ o' → chained o o' ≡ true → Share a b
  joined None o' is is' w = absurd (false≢true w)
  joined (Some x) None is is' w = absurd (false≢true w)
  joined (Some x) (Some y) is is' w =
      let parts = and_parts (eqb x.id.0 y.id.0) (in_common x.second y.first) w in
      let same : x.id.0 ≡ y.id.0 = eqb-true x.id.0 y.id.0 parts.0 in
      record { id = x.id.0; by_a = barrier_touches_object a x is; by_b = subst (λ id. touches_object b id ≡ true) (sym same) (barrier_touches_object b y is') }

  node_shares : node_edge a b ≡ true → Share a b
  node_shares e = go (or_cases (waits_for a (barrier_of b) || holds_back (barrier_of a) b) (chained (barrier_of a) (barrier_of b)) e)
    where
      go : ((waits_for a (barrier_of b) || holds_back (barrier_of a) b) ≡ true) ⊎ (chained (barrier_of a) (barrier_of b) ≡ true) → Share a b
      go (inl f) = elim (or_cases (waits_for a (barrier_of b)) (holds_back (barrier_of a) b) f) [ inl g ↦ waited (barrier_of b) refl g | inr g ↦ held (barrier_of a) refl g ]
      go (inr f) = joined (barrier_of a) (barrier_of b) refl refl f

pub edge_shares : (v w : WaitingNode) → edge v w ≡ true → Share v.command w.command
edge_shares v w e = node_shares v.command w.command (and_parts (eqb v.queue w.queue) (node_edge v.command w.command) e).1

-- A node touches one object or two.

pub few_touches : (o : Op) → (0 < length (op_touches o)) × (length (op_touches o) ≤ 2)
few_touches (CopyBuffer src src_at dst dst_at size) = (omega arith, omega arith)
few_touches (BufferToImage src src_at stride texel_size dst rect) = (omega arith, omega arith)
few_touches (ImageToBuffer src rect dst dst_at stride texel_size expand) = (omega arith, omega arith)
few_touches (CopyImage src src_x src_y dst rect) = (omega arith, omega arith)
few_touches (BlitImage src dst coords clip) = (omega arith, omega arith)
few_touches (ClearImage image rect texel) = (omega arith, omega arith)
few_touches (FillBuffer dst dst_at size byte) = (omega arith, omega arith)
few_touches (PassPart pass point image _ keep clears) = (omega arith, omega arith)
few_touches (Op.Barrier b) = (omega arith, omega arith)

pub two_objects : (ts : List Touch) (t u : Touch) → length ts ≤ 2 → slice_get ts 0 ≡ Some t → slice_get ts (length ts - 1) ≡ Some u → (id : ℕ) → list_any (λ t. eqb t.id.0 id) ts ≡ true → (id ≡ t.id.0) ⊎ (id ≡ u.id.0)
two_objects [] t u few at_t at_u id e = absurd (false≢true e)
two_objects (a ∷ []) t u few at_t at_u id e = elim (or_cases (eqb a.id.0 id) false e) [
  | inl here ↦ let is : a ≡ t = same_Some a t at_t in inl (sym (eqb-true a.id.0 id here) ∙ ap (λ (x : Touch). x.id.0) is)
  | inr never ↦ absurd (false≢true never)
]
two_objects (a ∷ b ∷ []) t u few at_t at_u id e = elim (or_cases (eqb a.id.0 id) (list_any (λ t. eqb t.id.0 id) (b ∷ [])) e) [
  | inl here ↦ let is : a ≡ t = same_Some a t at_t in inl (sym (eqb-true a.id.0 id here) ∙ ap (λ (x : Touch). x.id.0) is)
  | inr more ↦ elim (or_cases (eqb b.id.0 id) false more) [
    | inl here ↦
        let one : length (a ∷ b ∷ []) - 1 ≡ 1 = omega arith in
        let is : b ≡ u = same_Some b u (subst (λ k. slice_get (a ∷ b ∷ []) k ≡ Some u) one at_u) in
        inr (sym (eqb-true b.id.0 id here) ∙ ap (λ (x : Touch). x.id.0) is)
    | inr never ↦ absurd (false≢true never)
  ]
]
two_objects (a ∷ b ∷ c ∷ ts) t u few at_t at_u id e = absurd (omega (arith, few))
