use Rattle.std.proofs.Common.{◌≡◌, ℕ, ◌≤◌, [], ◌∷◌, true, ◌+◌, ◌-◌, ◌*◌, ◌<◌, refl, sym, ◌∙◌, ap, subst, arith, inl, inr}
use Rattle.std.specs.Prelude.{min}
use Rattle.cells.specs.Contents.{cell_at}
use Rattle.vk_types.specs.declared.ops.Node.{Node}
use Rattle.vk_types.specs.Touches.{rows_size, buffer_texel, the_end}
use Rattle.vk_types.specs.declared.ops.Op.TheVariants.{ImageToBuffer}
use Rattle.vk_model.specs.Cells.{texel_size, image_to_buffer}
use Rattle.vk_model.specs.Log.{Command}
use Rattle.vk_objects.specs.Rows.{row_byte, HasOutRows}
use Rattle.vk_objects.specs.Objects.{kind_of, kinds_of, bytes_of, contents_of}
use Rattle.vk_objects.proofs.BufferNodes.{range_executes}
use Rattle.vk_objects.proofs.Fits.{texels_are, range_inside, some_rows, filled}
use Rattle.vk_objects.proofs.OutRows.{all_out_rows, past_rows}
use Rattle.vk_objects.proofs.Finding.{kept_exactly, one_source, source_found, image_small, rect_is_image}
use Rattle.vk_objects.proofs.image_nodes.image_to_buffer.Goals as goal

pub returns : goal.returns
returns c =
    let a = c.args in let old = a.objects.now in let new = c.put_out_rows.new.objects in let at = a.dst_at in let size = buffer_texel a.texel_size a.expand in
    let kind = kinds_of old a.src.0 in let image = bytes_of old a.src.0 in let was = bytes_of old a.dst.0 in let now = bytes_of new a.dst.0 in
    let size_is : a.texel_size ≡ texel_size kind = texels_are (kind_of old a.src.0) a.texel_size c.requires.fits.1 in
    let rows : HasOutRows was now at (a.rect.w * size) a.stride a.rect.h (row_byte kind image a.rect size a.expand) = subst (λ t. HasOutRows was now at (a.rect.w * buffer_texel t a.expand) a.stride a.rect.h (row_byte kind image a.rect (buffer_texel t a.expand) a.expand)) (sym size_is) c.put_out_rows.ensures.rows in
    let all = rows_size a.rect a.stride size in
    let fits = range_inside (kind_of old a.dst.0) was at all c.requires.fits.2 c.requires.sized in
    let some : 0 < a.rect.h = some_rows a.rect a.stride size fits.0 in
    let all_is : all ≡ (a.rect.h - 1) * a.stride + a.rect.w * size = filled a.rect a.stride size fits.0 in
    let node : Node = record { op = ImageToBuffer a.src a.rect a.dst a.dst_at a.stride a.texel_size a.expand } in
    let picture = rect_is_image (kind_of old a.src.0) a.rect c.requires.fits.0 in
    let whole = source_found old node a.src.0 (record { id = a.dst.0; start = at; end = min (at + all) the_end; written = true } ∷ []) refl (image_small (kind_of old a.src.0) image picture c.requires.src_sized) in
    let written : (i : ℕ) → at ≤ i → cell_at now i ≡ image_to_buffer kind (cell_at image) a.rect a.stride size a.expand (i - at) (cell_at was i) = λ i from.
    let place : at + (i - at) ≡ i = omega (arith, from) in
    ap (cell_at now) (sym place)
    ∙ rows.from (i - at)
    ∙ all_out_rows kind image a.rect a.stride size a.expand (i - at) (cell_at was (at + (i - at))) some
    ∙ ap (λ p. image_to_buffer kind (cell_at image) a.rect a.stride size a.expand (i - at) (cell_at was p)) place
    in
    range_executes old new node a.dst at all c.put_out_rows.ensures.rewrites
    (omega (arith, fits.1, c.put_out_rows.ensures.rewrites.small, c.put_out_rows.ensures.rewrites.size))
    (λ other i. refl)
    (λ i from below defined. written i from)
    (λ i from w. kept_exactly _ _ _ (written i from ∙ sym (one_source (λ s v. image_to_buffer kind s a.rect a.stride size a.expand (i - at) v) (Command 0 node) (contents_of old) a.src.0 a.dst.0 i whole w)))
    (λ i out. elim out [
      | inl before ↦ rows.before i before
      | inr past ↦
          let place : at + (i - at) ≡ i = omega (arith, past) in
          ap (cell_at now) (sym place)
          ∙ rows.from (i - at)
          ∙ past_rows (row_byte kind image a.rect size a.expand) (a.rect.w * size) a.stride a.rect.h (i - at) (cell_at was (at + (i - at))) some (omega (arith, past, all_is))
          ∙ ap (cell_at was) place
    ])
