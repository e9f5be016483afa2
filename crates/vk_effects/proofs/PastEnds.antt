-- Nothing is defined past the ends of objects.
use Rattle.std.proofs.Common.{◌≡◌, ℕ, ◌+◌, ◌-◌, ◌*◌, ◌/◌, ◌<◌, ◌≤◌, List, length, Bool, true, false, sym, ◌∙◌, subst, arith, inl, inr}
use Rattle.std.specs.Prelude.{◌⊎◌, ◌&&◌, Some, All, nat_le, nat_lt, min, slice_index}
use Rattle.std.proofs.lemmas.Nat.{le-div}
use Rattle.std.proofs.lemmas.Bool.{cases_Bool, cases_lt, cases_eq, and_right, le-ltb, cond-false}
use Rattle.std.proofs.lemmas.List.Elements.{All-weaker}
use Rattle.vk_types.specs.declared.handles.Kind.{Kind}
use Rattle.vk_types.specs.declared.handles.Kind.TheVariants.{Buffer, Image}
use Rattle.vk_types.specs.declared.handles.HandleId.{HandleId}
use Rattle.vk_types.specs.declared.regions.Rect.{Rect}
use Rattle.vk_types.specs.declared.regions.Clear.{Clear}
use Rattle.vk_types.specs.declared.ops.Load.{Load}
use Rattle.vk_types.specs.declared.ops.Load.TheVariants as loads
use Rattle.vk_types.specs.declared.ops.Op.{Op}
use Rattle.vk_types.specs.declared.ops.Op.TheVariants.{CopyBuffer, BufferToImage, ImageToBuffer, CopyImage, BlitImage, ClearImage, FillBuffer, PassPart}
use Rattle.vk_types.specs.declared.ops.Node.{Node}
use Rattle.vk_types.specs.Touches.{the_end, rows_size, buffer_texel}
use Rattle.cells.specs.Contents.{UNDEFINED}
use Rattle.vk_model.specs.Fitting.{size_of, HasRange, HasRect, OpFits, NodeFits, LiesInside}
use Rattle.vk_model.specs.Cells.{Contents, column_at, row_at, width_of, height_of, texel_size, discards}
use Rattle.vk_model.specs.Log.{Command, HostWrite}
use Rattle.vk_model.specs.Meaning.{apply}
use Rattle.vk_model.proofs.Local.{after_unwritten}
use Rattle.vk_effects.specs.Targets.{target}
use Rattle.vk_effects.specs.Places.{IsBeside, IsOutside, HasNothingPastEnds}
use Rattle.vk_effects.proofs.Columns.{size_is, some_bytes}
use Rattle.vk_effects.proofs.Unwritten.{other_range, past_range, others_stay, far_places_stay, unwritten_stays, unchanged}
use Rattle.vk_effects.proofs.Outside.{clear_stays, copy_stays, rows_stay, blit_stays}
use Rattle.vk_effects.proofs.Passing.{loaded_stays, load_stays_past, not_loaded, not_kept}
use Rattle.vk_effects.proofs.Discarding.{keeps, empties}

-- Ranges and rectangles end in their objects

range_ends : (kind : Kind) (at size i : ℕ) → HasRange (Some kind) at size → size_of kind ≤ i → min (at + size) the_end ≤ i
range_ends (Buffer len) at size i has past = let ends = has.1 in omega (arith, ends, past)
range_ends (Image format width height) at size i has past = absurd has

past_the_rows : (kind : Kind) (i : ℕ) → 0 < width_of kind → size_of kind ≤ i → height_of kind ≤ row_at kind i
past_the_rows kind i some past =
    le-div (height_of kind) (i / texel_size kind) (width_of kind) some
    (le-div (height_of kind * width_of kind) i (texel_size kind) (some_bytes kind) (subst (λ n. n ≤ i) (size_is kind) past))

outside_past_the_end : (kind : Kind) (rect : Rect) (i : ℕ) → HasRect (Some kind) rect → size_of kind ≤ i → IsOutside kind rect i
outside_past_the_end (Buffer size) rect i has past = absurd has
outside_past_the_end (Image format width height) rect i has past = go (cases_lt 0 width)
  where
    kind : Kind
    kind = Image format width height

    lies : LiesInside rect width height
    lies = has

    go : (0 < width) ⊎ (width ≤ 0) → IsOutside (Image format width height) rect i
    go (inl some) =
        let below : height ≤ row_at (Image format width height) i = past_the_rows (Image format width height) i some past in
        let ends = lies.to_bottom in
        inr (subst (λ z. IsBeside z rect.h (row_at (Image format width height) i)) (sym lies.y_is) (inr (omega (arith, below, ends))))
    go (inr none) =
        let ends = lies.to_right in
        inl (subst (λ z. IsBeside z rect.w (column_at (Image format width height) i)) (sym lies.x_is) (inr (omega (arith, ends, none))))

-- The target

module _ (kinds : ℕ → Kind) (q : ℕ) (c : Contents) (within : HasNothingPastEnds kinds c) where
  in_a_pass : (pass point : ℕ) (image : HandleId) (load' : Load) (keep : Bool) (clears : List Clear) (i : ℕ) → All (λ clear. IsOutside (kinds image.0) clear.rect i) clears → size_of (kinds image.0) ≤ i → i < the_end →
      apply kinds (Command q (record { op = PassPart pass point image load' keep clears })) c image.0 i ≡ UNDEFINED
  in_a_pass pass point image loads.Load true clears i none past below = loaded_stays kinds q pass point image clears c i none ∙ within image.0 i past
  in_a_pass pass point image (loads.Clear texel) true clears i none past below = load_stays_past kinds q pass point image texel clears c i none past ∙ within image.0 i past
  in_a_pass pass point image loads.DontCare true clears i none past below = not_loaded kinds q pass point image clears c i none below
  in_a_pass pass point image first false clears i none past below = not_kept kinds q pass point image first clears c i below

  at_the_target : (op : Op) → OpFits (λ id. Some (kinds id)) op → (i : ℕ) → size_of (kinds (target op).0) ≤ i → i < the_end → apply kinds (Command q (record { op = op })) c (target op).0 i ≡ UNDEFINED
  at_the_target (CopyBuffer src src_at dst dst_at size) fits i past below =
      unwritten_stays kinds q (record { op = CopyBuffer src src_at dst dst_at size }) c dst.0 i (past_range dst.0 _ _ dst.0 i (range_ends (kinds dst.0) dst_at size i fits.1 past)) ∙ within dst.0 i past
  at_the_target (BufferToImage src src_at stride texel_size dst rect) fits i past below =
      rows_stay kinds q src src_at stride texel_size dst rect c dst.0 i (inr (outside_past_the_end (kinds dst.0) rect i fits.1 past)) ∙ within dst.0 i past
  at_the_target (ImageToBuffer src rect dst dst_at stride texel_size expand) fits i past below =
      unwritten_stays kinds q (record { op = ImageToBuffer src rect dst dst_at stride texel_size expand }) c dst.0 i (past_range dst.0 _ _ dst.0 i (range_ends (kinds dst.0) dst_at (rows_size rect stride (buffer_texel texel_size expand)) i fits.2 past)) ∙ within dst.0 i past
  at_the_target (CopyImage src src_x src_y dst rect) fits i past below = copy_stays kinds q src src_x src_y dst rect c dst.0 i (inr (outside_past_the_end (kinds dst.0) rect i fits.1 past)) ∙ within dst.0 i past
  at_the_target (BlitImage src dst coords clip) fits i past below = blit_stays kinds q src dst coords clip c dst.0 i (inr (outside_past_the_end (kinds dst.0) clip i fits.1 past)) ∙ within dst.0 i past
  at_the_target (ClearImage image rect texel) fits i past below = clear_stays kinds q image rect texel c image.0 i (inr (outside_past_the_end (kinds image.0) rect i fits past)) ∙ within image.0 i past
  at_the_target (FillBuffer dst dst_at size byte) fits i past below =
      unwritten_stays kinds q (record { op = FillBuffer dst dst_at size byte }) c dst.0 i (past_range dst.0 _ _ dst.0 i (range_ends (kinds dst.0) dst_at size i fits past)) ∙ within dst.0 i past
  at_the_target (PassPart pass point image first keep clears) fits i past below =
      in_a_pass pass point image first keep clears i
      (All-weaker (λ clear. HasRect (Some (kinds image.0)) clear.rect) (λ clear. IsOutside (kinds image.0) clear.rect i) (λ clear has. outside_past_the_end (kinds image.0) clear.rect i has past) clears fits.1)
      past below
  at_the_target (Op.Barrier b) fits i past below = elim (cases_Bool (discards b.layouts)) [
    | inl all ↦ empties kinds q b c i all below
    | inr kept ↦ keeps kinds q b c b.id.0 i kept ∙ within b.id.0 i past
  ]

-- All objects

pub nothing_after_a_node : (kinds : ℕ → Kind) (q : ℕ) (n : Node) (c : Contents) → NodeFits (λ id. Some (kinds id)) n → HasNothingPastEnds kinds c → HasNothingPastEnds kinds (apply kinds (Command q n) c)
nothing_after_a_node kinds q n c fits within id i past = go (cases_eq (target n.op).0 id) (cases_lt i the_end)
  where
    go : ((target n.op).0 ≡ id) ⊎ ((target n.op).0 ≡ id → ⊥) → (i < the_end) ⊎ (the_end ≤ i) → apply kinds (Command q n) c id i ≡ UNDEFINED
    go (inr other) rest = others_stay kinds q n c id i other ∙ within id i past
    go (inl same) (inr far) = far_places_stay kinds q n c id i far ∙ within id i past
    go (inl same) (inl below) =
        subst (λ o. apply kinds (Command q n) c o i ≡ UNDEFINED) same
        (at_the_target kinds q c within n.op fits i (subst (λ o. size_of (kinds o) ≤ i) (sym same) past) below)

pub nothing_after_a_write : (kinds : ℕ → Kind) (id at : ℕ) (bytes : List ℕ) (c : Contents) → at + length bytes ≤ size_of (kinds id) → HasNothingPastEnds kinds c → HasNothingPastEnds kinds (apply kinds (HostWrite id at bytes) c)
nothing_after_a_write kinds id at bytes c inside within other i past = go (cases_eq id other)
  where
    go : (id ≡ other) ⊎ (id ≡ other → ⊥) → apply kinds (HostWrite id at bytes) c other i ≡ UNDEFINED
    go (inr apart) = after_unwritten kinds (HostWrite id at bytes) c other i (other_range id _ _ other i apart) ∙ within other i past
    go (inl same) =
        let size : size_of (kinds id) ≤ i = subst (λ o. size_of (kinds o) ≤ i) (sym same) past in
        let beyond : at + length bytes ≤ i = omega (arith, inside, size) in
        unchanged kinds (HostWrite id at bytes) c other i
        (λ f. cond-false (nat_le at i && nat_lt i (at + length bytes)) (slice_index bytes (i - at)) (f other i) (and_right (nat_le at i) (nat_lt i (at + length bytes)) (le-ltb i (at + length bytes) beyond)))
        ∙ within other i past
