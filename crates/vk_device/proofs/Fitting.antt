-- What fits touches only live objects.
use Rattle.std.proofs.Common.{◌≡◌, ℕ, zero, suc, ◌<◌, ◌||◌, List, [], ◌∷◌, length, map, true, false, eqb, get_or, subst, arith, inl, inr, refl}
use Rattle.std.specs.Prelude.{Option, Some, None, IsSome, All}
use Rattle.std.specs.List.{list_any}
use Rattle.std.proofs.lemmas.Bool.{or_cases, eqb-true, false≢true}
use Rattle.std.proofs.lemmas.List.Elements.{All-nil, All-cons}
use Rattle.vk_types.specs.declared.handles.Kind.{Kind}
use Rattle.vk_types.specs.declared.handles.Kind.TheVariants.{Buffer, Image}
use Rattle.vk_types.specs.declared.accesses.Layout.{Layout}
use Rattle.vk_types.specs.declared.regions.Rect.{Rect}
use Rattle.vk_types.specs.declared.regions.Touch.{Touch}
use Rattle.vk_types.specs.declared.ops.Op.{Op}
use Rattle.vk_types.specs.declared.ops.Op.TheVariants.{CopyBuffer, BufferToImage, ImageToBuffer, CopyImage, BlitImage, ClearImage, FillBuffer, PassPart}
use Rattle.vk_types.specs.declared.ops.Node.{Node}
use Rattle.vk_types.specs.Touches.{op_touches}
use Rattle.vk_model.specs.Fitting.{HasRange, HasRect, IsImage, LayoutsFit, OpFits, NodeFits}
use Rattle.vk_model.specs.Log.{Command, node_range}
use Rattle.vk_model.specs.Meaning.{touches_id}
use Rattle.vk_device.specs.Journal.{Objects, TouchesLive}

range_lives : (o : Option Kind) (at size : ℕ) → HasRange o at size → IsSome o
range_lives None at size has = absurd has
range_lives (Some kind) at size has = refl

rect_lives : (o : Option Kind) (rect : Rect) → HasRect o rect → IsSome o
rect_lives None rect has = absurd has
rect_lives (Some kind) rect has = refl

image_lives : (o : Option Kind) → IsImage o → IsSome o
image_lives None has = absurd has
image_lives (Some kind) has = refl

layouts_live : (o : Option Kind) (layouts : Option (Layout × Layout)) → LayoutsFit o layouts → IsSome o
layouts_live None layouts has = absurd has
layouts_live (Some kind) layouts has = refl

module _ (objects : Objects) where
  abbrev Lives : Touch → Type 0
  Lives t = IsSome (objects t.id.0)

  one : (t : Touch) → Lives t → All Lives (t ∷ [])
  one t lives = All-cons Lives t [] lives (All-nil Lives)

  two : (t u : Touch) → Lives t → Lives u → All Lives (t ∷ u ∷ [])
  two t u lives other = All-cons Lives t (u ∷ []) lives (one u other)

  op_lives : (o : Op) → OpFits objects o → All Lives (op_touches o)
  op_lives (CopyBuffer src src_at dst dst_at size) fits = two _ _ (range_lives (objects src.0) _ _ fits.0) (range_lives (objects dst.0) _ _ fits.1)
  op_lives (BufferToImage src src_at stride texel_size dst rect) fits = two _ _ (range_lives (objects src.0) _ _ fits.0) (rect_lives (objects dst.0) _ fits.1)
  op_lives (ImageToBuffer src rect dst dst_at stride texel_size expand) fits = two _ _ (rect_lives (objects src.0) _ fits.0) (range_lives (objects dst.0) _ _ fits.2)
  op_lives (CopyImage src src_x src_y dst rect) fits = two _ _ (rect_lives (objects src.0) _ fits.0) (rect_lives (objects dst.0) _ fits.1)
  op_lives (BlitImage src dst coords clip) fits = two _ _ (image_lives (objects src.0) fits.0) (rect_lives (objects dst.0) _ fits.1)
  op_lives (ClearImage image rect texel) fits = one _ (rect_lives (objects image.0) _ fits)
  op_lives (FillBuffer dst dst_at size byte) fits = one _ (range_lives (objects dst.0) _ _ fits)
  op_lives (PassPart _ _ image _ _ clears) fits = one _ (image_lives (objects image.0) fits.0)
  op_lives (Op.Barrier b) fits = one _ (layouts_live (objects b.id.0) b.layouts fits)

  pub fits_lives : (n : Node) → NodeFits objects n → TouchesLive objects n
  fits_lives n fits = op_lives n.op fits

  some_lives : (n : Node) (id : ℕ) (ts : List Touch) → All Lives ts → list_any (λ r. eqb r.id id) (map (node_range n) ts) ≡ true → IsSome (objects id)
  some_lives n id [] all e = absurd (false≢true e)
  some_lives n id (t ∷ ts) all e = elim (or_cases (eqb t.id.0 id) (list_any (λ r. eqb r.id id) (map (node_range n) ts)) e) [
    | inl here ↦ subst (λ i. IsSome (objects i)) (eqb-true t.id.0 id here) (all 0 t (omega arith))
    | inr more ↦ some_lives n id ts (λ k d lt. all (suc k) d (omega (arith, lt))) more
  ]

  -- what a node touches is live
  pub touched_lives : (n : Node) (q id : ℕ) → TouchesLive objects n → touches_id (Command q n) id ≡ true → IsSome (objects id)
  touched_lives n q id live e = some_lives n id (op_touches n.op) live e
