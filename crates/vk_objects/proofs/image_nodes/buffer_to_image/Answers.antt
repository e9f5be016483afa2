use Rattle.std.proofs.Common.{◌≡◌, ℕ, ◌<◌, refl, ◌∙◌, ap, sym, subst, arith}
use Rattle.std.proofs.lemmas.Nat.{mod_below}
use Rattle.cells.specs.Contents.{cell_at}
use Rattle.vk_types.specs.declared.ops.Op.TheVariants.{BufferToImage}
use Rattle.vk_types.specs.declared.ops.Node.{Node}
use Rattle.vk_types.specs.Touches.{rows_size}
use Rattle.vk_model.specs.Texels.{format_at}
use Rattle.vk_model.specs.Cells.{buffer_to_image, texel_size, format_of, byte_at}
use Rattle.vk_objects.specs.Objects.{kind_of, kinds_of, bytes_of, contents_of}
use Rattle.vk_objects.proofs.Executing.{whole_executes}
use Rattle.vk_objects.proofs.Fits.{texels_are, range_inside}
use Rattle.vk_objects.proofs.Finding.{kept_exactly, rows_found}
use Rattle.vk_objects.proofs.PassSteps.{some_bytes}
use Rattle.vk_objects.proofs.image_nodes.buffer_to_image.Goals as goal

pub returns : goal.returns
returns c =
    let a = c.args in let old = a.objects.now in let kind = kinds_of old a.dst.0 in
    let node : Node = record { op = BufferToImage a.src a.src_at a.stride a.texel_size a.dst a.rect } in
    let size_is : a.texel_size ≡ texel_size kind = texels_are (kind_of old a.dst.0) a.texel_size c.requires.fits.2 in
    let rows = range_inside (kind_of old a.src.0) (bytes_of old a.src.0) a.src_at (rows_size a.rect a.stride a.texel_size) c.requires.fits.0 c.requires.src_sized in
    let small = c.byte_count-count.ensures.small in
    let written = λ (i : ℕ). c.put_rows.ensures.written i ∙ ap (λ t. buffer_to_image kind (cell_at (bytes_of old a.src.0)) a.src_at a.stride t a.rect i (cell_at (bytes_of old a.dst.0) i)) (sym size_is) in
    whole_executes old c.put_rows.new.objects node a.dst.0 c.put_rows.ensures.rewrites (λ other i. refl)
    (λ i below. written i)
    (λ i w.
    let in_texel : byte_at kind i < a.texel_size = subst (λ t. byte_at kind i < t) (sym size_is) (mod_below i (texel_size kind) (some_bytes (format_at (format_of kind)))) in
    kept_exactly _ _ _ (written i ∙ sym (rows_found (contents_of old) kind a.src a.src_at a.stride a.texel_size a.dst a.rect rows.0 (omega (arith, rows.1, small)) i in_texel w)))
