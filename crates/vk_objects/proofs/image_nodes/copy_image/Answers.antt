use mir.Syntax.{w32}
use mir.Val.{to_z, of_z}
use Rattle.std.proofs.Common.{ℕ, [], ◌∷◌, true, refl, sym, ◌∙◌, ap}
use Rattle.std.proofs.Math.Facts.{to_z-of_z}
use Rattle.cells.specs.Contents.{cell_at}
use Rattle.vk_types.specs.declared.ops.Op.TheVariants.{CopyImage}
use Rattle.vk_types.specs.declared.ops.Node.{Node}
use Rattle.vk_types.specs.Touches.{the_end}
use Rattle.vk_model.specs.Cells.{copy_image}
use Rattle.vk_model.specs.Log.{Command}
use Rattle.vk_objects.specs.Objects.{kind_of, kinds_of, bytes_of, contents_of}
use Rattle.vk_objects.proofs.Executing.{whole_executes}
use Rattle.vk_objects.proofs.Finding.{kept_exactly, one_source, source_found, image_small, rect_is_image}
use Rattle.vk_objects.proofs.image_nodes.copy_image.Goals as goal

pub returns : goal.returns
returns c =
    let a = c.args in let old = a.objects.now in
    let node : Node = record { op = CopyImage a.src a.src_x a.src_y a.dst a.rect } in
    let image = rect_is_image (kind_of old a.src.0) (record { x = a.src_x; y = a.src_y; w = a.rect.w; h = a.rect.h }) c.requires.fits.0 in
    let whole = source_found old node a.src.0 (record { id = a.dst.0; start = 0; end = the_end; written = true } ∷ []) refl (image_small (kind_of old a.src.0) (bytes_of old a.src.0) image c.requires.src_sized) in
    let copied = λ (i : ℕ).
    c.put_image.ensures.copied i
    ∙ ap (λ x. copy_image (kinds_of old a.src.0) (kinds_of old a.dst.0) (cell_at (bytes_of old a.src.0)) x (to_z w32 (of_z w32 a.src_y)) a.rect i (cell_at (bytes_of old a.dst.0) i)) (to_z-of_z {w = w32} {z = a.src_x} c.ranges.src_x)
    ∙ ap (λ y. copy_image (kinds_of old a.src.0) (kinds_of old a.dst.0) (cell_at (bytes_of old a.src.0)) a.src_x y a.rect i (cell_at (bytes_of old a.dst.0) i)) (to_z-of_z {w = w32} {z = a.src_y} c.ranges.src_y)
    in
    whole_executes old c.put_image.new.objects node a.dst.0 c.put_image.ensures.rewrites (λ other i. refl)
    (λ i below. copied i)
    (λ i w. kept_exactly _ _ _ (copied i ∙ sym (one_source (λ s v. copy_image (kinds_of old a.src.0) (kinds_of old a.dst.0) s a.src_x a.src_y a.rect i v) (Command 0 node) (contents_of old) a.src.0 a.dst.0 i whole w)))
