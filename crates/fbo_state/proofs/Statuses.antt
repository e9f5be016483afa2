-- The status by facts is the status in a group that has these facts.
use Rattle.std.proofs.Common.{◌≡◌, ◌&&◌, ◌||◌, not, List, [], ◌∷◌, Option, Some, is_none, map, ap, ◌∙◌, refl}
use Rattle.std.specs.List.{list_any, list_all, zip}
use Rattle.gl_model.specs.declared.objects.ImageInfo.{ImageInfo}
use Rattle.gl_model.specs.declared.state.GroupState.{GroupState}
use Rattle.gl_model.specs.Bindings.{is_empty, attached_image, status_of}
use Rattle.fbo_state.specs.declared.attachment.Attachment.{Attachment}
use Rattle.fbo_state.specs.Framebuffers.{FramebufferState, told, numbered, status_at}

any_lacks : (group : GroupState) (points : List Attachment) → list_any (λ p. not (is_empty (told p.0)) && is_none p.1) (zip points (map (attached_image group) (map told points))) ≡ list_any (λ a. not (is_empty a) && is_none (attached_image group a)) (map told points)
any_lacks group [] = refl
any_lacks group (a ∷ rest) = ap (λ b. (not (is_empty (told a)) && is_none (attached_image group (told a))) || b) (any_lacks group rest)

all_empty : (points : List Attachment) → list_all (λ a. is_empty (told a)) points ≡ list_all is_empty (map told points)
all_empty [] = refl
all_empty (a ∷ rest) = ap (λ b. is_empty (told a) && b) (all_empty rest)

pub status_at-group : (group : GroupState) (f : FramebufferState) (infos : List (Option ImageInfo)) → infos ≡ map (attached_image group) (numbered f).points → status_at infos f.points ≡ status_of group (Some (numbered f))
status_at-group group f infos facts =
    ap (λ i. status_at i f.points) facts ∙ rw (any_lacks group f.points, all_empty f.points) refl
