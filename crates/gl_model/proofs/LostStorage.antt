-- What a renderbuffer holds in a worked history in which it loses its storage.
use Rattle.std.proofs.Common.{◌≡◌, None, [], ◌∷◌, take, refl}
use Rattle.gl_model.specs.GroupState.{Renderbuffer}
use Rattle.gl_model.specs.Bindings.{attached_image}
use Rattle.gl_model.specs.ImageRows.{tex_sub_image_rows, copy_tex_sub_image_rows}
use Rattle.gl_model.specs.Reached.{reached, cells_of}
use Rattle.gl_model.proofs.ImageHistories.{loses_its_storage}

-- the clear wrote its value
pub cleared : cells_of (reached (0 ∷ []) (take 8 loses_its_storage)) (Renderbuffer 0) ≡ 7 ∷ []
unfolding tex_sub_image_rows copy_tex_sub_image_rows
cleared = refl

-- without storage nothing of it is left
pub nothing_left : cells_of (reached (0 ∷ []) (take 9 loses_its_storage)) (Renderbuffer 0) ≡ []
unfolding tex_sub_image_rows copy_tex_sub_image_rows
nothing_left = refl

pub no_storage : attached_image (reached (0 ∷ []) (take 9 loses_its_storage)).group (Renderbuffer 0) ≡ None
unfolding tex_sub_image_rows copy_tex_sub_image_rows
no_storage = refl
