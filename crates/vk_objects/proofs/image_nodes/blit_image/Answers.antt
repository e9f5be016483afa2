use Rattle.std.proofs.Common.{[], ◌∷◌, true, refl, sym, ◌∙◌}
use Rattle.vk_types.specs.declared.ops.Op.TheVariants.{BlitImage}
use Rattle.vk_types.specs.declared.ops.Node.{Node}
use Rattle.vk_types.specs.Touches.{the_end}
use Rattle.vk_model.specs.Cells.{blit_image}
use Rattle.vk_model.specs.Log.{Command}
use Rattle.vk_objects.specs.Objects.{kind_of, kinds_of, bytes_of, contents_of}
use Rattle.vk_objects.proofs.Executing.{whole_executes}
use Rattle.vk_objects.proofs.Finding.{kept_exactly, one_source, source_found, image_small}
use Rattle.vk_objects.proofs.image_nodes.blit_image.Goals as goal

pub returns : goal.returns
returns c =
    let a = c.args in let old = a.objects.now in
    let node : Node = record { op = BlitImage a.src a.dst a.coords.now a.clip } in
    let whole = source_found old node a.src.0 (record { id = a.dst.0; start = 0; end = the_end; written = true } ∷ []) refl (image_small (kind_of old a.src.0) (bytes_of old a.src.0) c.requires.fits.0 c.requires.src_sized) in
    whole_executes old c.put_blit.new.objects node a.dst.0 c.put_blit.ensures.rewrites (λ other i. refl) (λ i below. c.put_blit.ensures.blitted i)
    (λ i w. kept_exactly _ _ _ (c.put_blit.ensures.blitted i ∙ sym (one_source (λ s v. blit_image (kinds_of old a.src.0) (kinds_of old a.dst.0) s a.coords.now a.clip i v) (Command 0 node) (contents_of old) a.src.0 a.dst.0 i whole w)))
