-- The nodes of reads fit, and touch no empty range.
use Rattle.std.proofs.Common.{◌≡◌, ℕ, ◌+◌, ◌-◌, ◌*◌, ◌<◌, ◌≤◌, Bool, true, false, cond, eqb, Option, Some, None, IfSome, refl, sym, ◌∙◌, ap, subst, arith}
use Rattle.std.specs.Prelude.{◌||◌, not, pos}
use Rattle.std.specs.Option.{option_map}
use Rattle.std.proofs.lemmas.Bool.{or_parts, or_from, ne_eqb, eqb-false}
use Rattle.std.proofs.lemmas.List.Elements.{All-from_recursion}
use Rattle.formats.specs.declared.pixel.PixelFormat.{PixelFormat}
use Rattle.formats.specs.declared.pixel.PixelType.{PixelType}
use Rattle.formats.specs.Pairs.{same_pair}
use Rattle.formats.specs.Rows.{PixelStorage, first_row_place, row_stride, needed_length}
use Rattle.formats.specs.Texel.{own_pair_of}
use Rattle.gl_model.specs.declared.objects.ImageInfo.{ImageInfo}
use Rattle.gl_model.specs.ImageRows.{pair_texel}
use Rattle.gl_model.specs.ImageEffect.{texel_bytes}
use Rattle.vk_types.specs.declared.handles.Kind.{Kind}
use Rattle.vk_types.specs.declared.handles.Kind.TheVariants.{Buffer}
use Rattle.vk_types.specs.declared.handles.HandleId.{HandleId}
use Rattle.vk_types.specs.declared.regions.Rect.{Rect}
use Rattle.vk_types.specs.declared.regions.Touch.{Touch}
use Rattle.vk_types.specs.declared.ops.Op.TheVariants.{ImageToBuffer}
use Rattle.vk_types.specs.declared.ops.Node.{Node}
use Rattle.vk_types.specs.Touches.{the_end, rows_size, buffer_texel, touches}
use Rattle.vk_model.specs.Cells.{Contents}
use Rattle.vk_model.specs.Fitting.{NodeFits, HasRange, HasRect, HasTexels}
use Rattle.vk_model.specs.Log.{NoneEmpty}
use Rattle.vk_effects.proofs.Unwritten.{others_stay}
use Rattle.transfer.specs.declared.overlap.Overlap.{Overlap}
use Rattle.transfer.specs.Shown.{store_kind, after_node}
use Rattle.transfer.specs.Overlaps.{skipped, entered, count_inside}
use Rattle.transfer.proofs.Places.{size_is}
use Rattle.transfer.proofs.Copying.{line_fits}
use Rattle.transfer.proofs.Uploading.{needed_is, some_rows}
use Rattle.readback.specs.Plans.{plan_part, plan_size, read_node, pack_place, pack_node, pack_of}
use Rattle.readback.proofs.Bringing.{client_texel, some_client_texel}
use Rattle.readback.proofs.Packing.{texel_alike, rows_are, part_ends}
use Rattle.readback.proofs.Showing.{planned, size_by_rows}

module _ (info : ImageInfo) (pixels : PixelFormat) (kind : PixelType) (rect : Rect) (some : (eqb (count_inside rect.x info.width rect.w) 0 || eqb (count_inside rect.y info.height rect.h) 0) ≡ false) where
  abbrev own : Bool
  own = same_pair (pixels, kind) (own_pair_of info.format)

  abbrev texel : ℕ
  texel = client_texel info own

  abbrev w : ℕ
  w = count_inside rect.x info.width rect.w

  abbrev h : ℕ
  h = count_inside rect.y info.height rect.h

  abbrev inner : Rect
  inner = record { x = pos (entered rect.x); y = pos (entered rect.y); w = w; h = h }

  across : (skipped rect.x + w ≤ rect.w) × (entered rect.x + w ≤ info.width)
  across = line_fits rect.x info.width rect.w (eqb-false w 0 (or_parts (eqb w 0) (eqb h 0) some).0)

  down : (skipped rect.y + h ≤ rect.h) × (entered rect.y + h ≤ info.height)
  down = line_fits rect.y info.height rect.h (eqb-false h 0 (or_parts (eqb w 0) (eqb h 0) some).1)

  some_high : 0 < count_inside rect.y info.height rect.h
  some_high = let ne = eqb-false h 0 (or_parts (eqb w 0) (eqb h 0) some).1 in omega (arith, ne)

  -- the bytes that the node writes
  abbrev written : ℕ → ℕ
  written stride = rows_size inner stride (buffer_texel (texel_bytes info) (not own))

  written_is : (stride : ℕ) → rows_size inner stride (buffer_texel (texel_bytes info) (not own)) ≡ rows_size inner stride (client_texel info own)
  written_is stride = ap (rows_size inner stride) (texel_alike info own)

  some_written : (stride : ℕ) → 0 < rows_size inner stride (buffer_texel (texel_bytes info) (not own))
  some_written stride = let is = written_is stride in let rows = some_rows inner stride texel (some_client_texel info own) some in omega (arith, is, rows)

  client_size : rows_size inner (w * texel) (buffer_texel (texel_bytes info) (not own)) ≡ plan_size (planned info pixels kind rect)
  client_size = written_is (w * texel) ∙ rows_are inner (w * texel) texel some ∙ size_by_rows w h texel some_high

  node_fits : (kinds : ℕ → Option Kind) (image buffer : HandleId) (at stride len : ℕ) → kinds image.0 ≡ Some (store_kind info) → kinds buffer.0 ≡ Some (Buffer len) → at + rows_size inner stride (buffer_texel (texel_bytes info) (not own)) ≤ len →
      NodeFits kinds (record { op = ImageToBuffer image inner buffer at stride (texel_bytes info) (not own) })
  node_fits kinds image buffer at stride len stored room inside = (
    subst (λ k. HasRect k inner) (sym stored) (record { left = entered rect.x; top = entered rect.y; x_is = refl; y_is = refl; to_right = across.1; to_bottom = down.1 }),
    subst (λ k. HasTexels k (texel_bytes info)) (sym stored) (sym (size_is info)),
    subst (λ k. HasRange k at (rows_size inner stride (buffer_texel (texel_bytes info) (not own)))) (sym room) (some_written stride, inside),
  )

  node_none_empty : (image buffer : HandleId) (at stride : ℕ) → at + rows_size inner stride (buffer_texel (texel_bytes info) (not own)) ≤ the_end → NoneEmpty (record { op = ImageToBuffer image inner buffer at stride (texel_bytes info) (not own) })
  node_none_empty image buffer at stride inside =
      let high = some_written stride in
      All-from_recursion (λ (t : Touch). t.start < t.end) (touches (record { op = ImageToBuffer image inner buffer at stride (texel_bytes info) (not own) })) (omega arith, (omega (arith, inside, high), tt))

  pub client_fits : (kinds : ℕ → Option Kind) (image buffer : HandleId) (at len : ℕ) → kinds image.0 ≡ Some (store_kind info) → kinds buffer.0 ≡ Some (Buffer len) → at + plan_size (planned info pixels kind rect) ≤ len → NodeFits kinds (read_node (planned info pixels kind rect) image buffer at)
  client_fits kinds image buffer at len stored room inside = node_fits kinds image buffer at (w * texel) len stored room (let size = client_size in omega (arith, size, inside))

  pub client_none_empty : (image buffer : HandleId) (at : ℕ) → at + plan_size (planned info pixels kind rect) ≤ the_end → NoneEmpty (read_node (planned info pixels kind rect) image buffer at)
  client_none_empty image buffer at inside = node_none_empty image buffer at (w * texel) (let size = client_size in omega (arith, size, inside))

  -- a pack buffer that has room for the rows has room for those of the part
  pack_ends : (base : ℕ) (store : PixelStorage) → pack_place (planned info pixels kind rect) base store + rows_size inner (row_stride store texel rect.w) (buffer_texel (texel_bytes info) (not own)) ≤ base + needed_length store texel rect.w rect.h
  pack_ends base store =
      let stride : ℕ = row_stride store texel rect.w in
      let a = across.0 in
      let d = down.0 in
      let part_rows : rows_size inner (row_stride store texel rect.w) texel ≡ (h - 1) * row_stride store texel rect.w + w * texel = rows_are inner (row_stride store texel rect.w) texel some in
      let is = written_is (row_stride store texel rect.w) in
      let inside = part_ends (base + first_row_place store texel rect.w) (row_stride store texel rect.w) texel rect.w rect.h (skipped rect.x) (skipped rect.y) w h a d some_high in
      let needed : needed_length store texel rect.w rect.h ≡ first_row_place store texel rect.w + rows_size rect (row_stride store texel rect.w) texel = needed_is store texel rect (row_stride store texel rect.w) refl whole in
      let all : rows_size rect (row_stride store texel rect.w) texel ≡ (rect.h - 1) * row_stride store texel rect.w + rect.w * texel = rows_are rect (row_stride store texel rect.w) texel whole in
      omega (arith, part_rows, is, inside, needed, all)
    where
      whole : (eqb rect.w 0 || eqb rect.h 0) ≡ false
      whole =
          let parts = or_parts (eqb w 0) (eqb h 0) some in
          let w_some = eqb-false w 0 parts.0 in
          let h_some = eqb-false h 0 parts.1 in
          let a = across.0 in
          let d = down.0 in
          or_from (eqb rect.w 0) (eqb rect.h 0) (ne_eqb rect.w 0 (λ e. omega (arith, e, a, w_some))) (ne_eqb rect.h 0 (λ e. omega (arith, e, d, h_some)))

  planned_pack_fits : (kinds : ℕ → Option Kind) (image buffer : HandleId) (base len : ℕ) (store : PixelStorage) → kinds image.0 ≡ Some (store_kind info) → kinds buffer.0 ≡ Some (Buffer len) → base + needed_length store texel rect.w rect.h ≤ len → NodeFits kinds (pack_node (planned info pixels kind rect) image buffer base store)
  planned_pack_fits kinds image buffer base len store stored room inside =
      node_fits kinds image buffer (pack_place (planned info pixels kind rect) base store) (row_stride store texel rect.w) len stored room (let ends = pack_ends base store in omega (arith, ends, inside))

  planned_pack_none_empty : (image buffer : HandleId) (base : ℕ) (store : PixelStorage) → base + needed_length store texel rect.w rect.h ≤ the_end → NoneEmpty (pack_node (planned info pixels kind rect) image buffer base store)
  planned_pack_none_empty image buffer base store inside =
      node_none_empty image buffer (pack_place (planned info pixels kind rect) base store) (row_stride store texel rect.w) (let ends = pack_ends base store in omega (arith, ends, inside))

module _ (info : ImageInfo) (pixels : PixelFormat) (kind : PixelType) (rect : Rect) (image buffer : HandleId) (base : ℕ) (store : PixelStorage) where
  abbrev wide : ℕ
  wide = count_inside rect.x info.width rect.w

  abbrev high : ℕ
  high = count_inside rect.y info.height rect.h

  abbrev part : Overlap
  part = record { left = skipped rect.x; top = skipped rect.y; rect = record { x = pos (entered rect.x); y = pos (entered rect.y); w = wide; h = high } }

  abbrev chosen : Bool → Option Node
  chosen t = option_map (λ plan. pack_node plan image buffer base store) (option_map (plan_part info pixels kind rect) (cond t None (Some part)))

  pub others_after_pack : (kinds : ℕ → Kind) (q : ℕ) (c : Contents) (id i : ℕ) → (buffer.0 ≡ id → ⊥) → after_node kinds q (pack_of info pixels kind rect image buffer base store) c id i ≡ c id i
  others_after_pack kinds q c id i other = go (eqb wide 0 || eqb high 0)
    where
      go : (t : Bool) → after_node kinds q (chosen t) c id i ≡ c id i
      go true = refl
      go false = others_stay kinds q (pack_node (planned info pixels kind rect) image buffer base store) c id i other

  pub pack_fits : (kinds : ℕ → Option Kind) (len : ℕ) → kinds image.0 ≡ Some (store_kind info) → kinds buffer.0 ≡ Some (Buffer len) → base + needed_length store (pair_texel info.format pixels kind) rect.w rect.h ≤ len → IfSome (pack_of info pixels kind rect image buffer base store) (NodeFits kinds)
  pack_fits kinds len stored room inside = go (eqb wide 0 || eqb high 0) refl
    where
      go : (t : Bool) → (eqb wide 0 || eqb high 0) ≡ t → IfSome (chosen t) (NodeFits kinds)
      go true empty = tt
      go false some = planned_pack_fits info pixels kind rect some kinds image buffer base len store stored room inside

  pub pack_none_empty : base + needed_length store (pair_texel info.format pixels kind) rect.w rect.h ≤ the_end → IfSome (pack_of info pixels kind rect image buffer base store) NoneEmpty
  pack_none_empty inside = go (eqb wide 0 || eqb high 0) refl
    where
      go : (t : Bool) → (eqb wide 0 || eqb high 0) ≡ t → IfSome (chosen t) NoneEmpty
      go true empty = tt
      go false some = planned_pack_none_empty info pixels kind rect some image buffer base store inside
