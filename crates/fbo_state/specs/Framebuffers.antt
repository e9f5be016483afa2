-- Framebuffers with their images told by ids.
use Rattle.std.specs.Prelude.{ℕ, ◌&&◌, ◌<◌, ◌≡◌, Bool, true, false, not, Option, Some, None, List, [], ◌∷◌, map, is_none, min, length, IfSome, if◌then◌else◌}
use Rattle.std.specs.Option.{option_map_or}
use Rattle.std.specs.List.{list_any, list_all, filter_map, zip}
use Rattle.formats.specs.declared.errors.FbStatus.{FbStatus}
use Rattle.formats.specs.declared.errors.FbStatus.TheVariants.{Complete, IncompleteAttachment, IncompleteMissingAttachment, Unsupported}
use Rattle.gl_model.specs.declared.objects.ImageInfo.{ImageInfo}
use Rattle.gl_model.specs.declared.state.Attachment as numbered_attachment
use Rattle.gl_model.specs.declared.state.Attachment.TheVariants as by_number
use Rattle.gl_model.specs.declared.state.Framebuffer as numbered_framebuffer
use Rattle.gl_model.specs.Bindings.{is_empty, has_twin, same_attachment}
use Rattle.gl_objects.specs.Ids.{number_of}
use Rattle.fbo_state.specs.declared.attachment.Attachment.{Attachment}
use Rattle.fbo_state.specs.declared.attachment.Attachment.TheVariants.{Empty, Texture, Renderbuffer}

-- what a framebuffer has at its points, which draw buffers draw, and the point that is read
pub record FramebufferState : Type 0 where
  pub points : List Attachment
  pub draws : List Bool
  pub read : Option ℕ

-- an attachment with its image told by number
abbrev pub told : Attachment → numbered_attachment.Attachment
told Empty = by_number.Empty
told (Texture id) = by_number.Texture (number_of id)
told (Renderbuffer id) = by_number.Renderbuffer (number_of id)

-- a framebuffer with its images told by number
abbrev pub numbered : FramebufferState → numbered_framebuffer.Framebuffer
numbered f = record { points = map told f.points; draws = f.draws; read = f.read }

-- a framebuffer as it is made
abbrev pub made : FramebufferState
made = record {
  points = Empty ∷ Empty ∷ Empty ∷ Empty ∷ [];
  draws = true ∷ false ∷ false ∷ false ∷ [];
  read = Some 0;
}

-- an image taken away where it is attached
abbrev pub without_image : Attachment → Attachment → Attachment
without_image image a = if same_attachment (told a) (told image) then Empty else a

-- there are four points and four draw buffers, and one of the points is read, or none
pub record HasFour (f : FramebufferState) : Type 0 where
  pub points : length f.points ≡ 4
  pub draws : length f.draws ≡ 4
  pub read : IfSome f.read (λ k. k < 4)

-- the status, by what is attached at the points and the facts of the images there
abbrev pub status_at : List (Option ImageInfo) → List Attachment → FbStatus
status_at infos points =
    if list_any (λ p. not (is_empty (told p.0)) && is_none p.1) (zip points infos) then IncompleteAttachment
    else (if list_all (λ a. is_empty (told a)) points then IncompleteMissingAttachment
    else (if has_twin (map told points) then Unsupported else Complete))

-- the images that have storage
abbrev pub stored : List (Option ImageInfo) → List ImageInfo
stored infos = filter_map (λ info. info) infos

-- the least width and the least height
abbrev pub least_sides : List ImageInfo → Option (ℕ × ℕ)
least_sides [] = None
least_sides (i ∷ rest) = option_map_or (λ a. Some (min i.width a.0, min i.height a.1)) (least_sides rest) (Some (i.width, i.height))
