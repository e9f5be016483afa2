-- Taking an image away, by ids and by numbers.
use Rattle.std.proofs.Common.{◌≡◌, Bool, true, false, cond, List, [], ◌∷◌, map, refl}
use Rattle.gl_model.specs.declared.state.Attachment.TheVariants as numbered_points
use Rattle.gl_model.specs.Bindings.{same_attachment}
use Rattle.fbo_state.specs.declared.attachment.Attachment.{Attachment}
use Rattle.fbo_state.specs.declared.attachment.Attachment.TheVariants.{Empty}
use Rattle.fbo_state.specs.Framebuffers.{told, without_image}

told_cond : (b : Bool) (a : Attachment) → told (cond b Empty a) ≡ cond b numbered_points.Empty (told a)
told_cond true a = refl
told_cond false a = refl

pub told-detached : (image : Attachment) (points : List Attachment) → map told (map (without_image image) points) ≡ map (λ a. cond (same_attachment a (told image)) numbered_points.Empty a) (map told points)
told-detached image [] = refl
told-detached image (a ∷ rest) = λ i. told_cond (same_attachment (told a) (told image)) a i ∷ told-detached image rest i
