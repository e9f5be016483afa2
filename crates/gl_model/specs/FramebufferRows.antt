-- The refusals of the calls on framebuffers, names and parameters (OpenGL ES 3.0.6, Whole Framebuffer Operations, Framebuffer Objects, State and State Requests).
use Rattle.std.specs.Prelude.{ℕ, ◌==◌, ◌||◌, ◌&&◌, ℤ, pos, int_lt, unsigned_abs, Bool, false, not, Option, Some, List, [], ◌∷◌, is_some}
use Rattle.std.specs.List.{list_any, enumerate_from}
use Rattle.formats.specs.Texel.{has_signed_components}
use Rattle.gl_calls.specs.declared.words.FramebufferTarget.{FramebufferTarget}
use Rattle.gl_calls.specs.declared.words.BindTarget.{BindTarget}
use Rattle.gl_calls.specs.declared.words.DrawBuffer.{DrawBuffer}
use Rattle.gl_calls.specs.declared.words.LimitName.{LimitName}
use Rattle.gl_calls.specs.declared.words.StoreParameter.{StoreParameter}
use Rattle.gl_calls.specs.declared.words.BlitMask.{BlitMask}
use Rattle.gl_calls.specs.declared.words.BlitFilter.{BlitFilter}
use Rattle.gl_calls.specs.Words.{is_other_framebuffer, is_other_target, is_other_drawn, is_none_drawn, is_no_point, drawn_point, is_other_limit, is_other_parameter, is_align_parameter, is_other_mask, is_color_mask, is_other_filter, is_linear_filter}
use Rattle.gl_model.specs.declared.objects.ImageInfo.{ImageInfo}
use Rattle.gl_model.specs.ImageRows.{image_has}
use Rattle.gl_model.specs.Bindings.{same_option, differs}
use Rattle.gl_model.specs.RefusalRows.{Row, ◌⇒◌, invalid_enum, invalid_value, invalid_operation, invalid_framebuffer_operation, is_negative}

-- GetIntegerv
abbrev pub get_rows : LimitName → List Row
get_rows limit = (is_other_limit limit ⇒ invalid_enum) ∷ []

-- the Bind calls
abbrev pub bind_rows : BindTarget → List Row
bind_rows target = (is_other_target target ⇒ invalid_enum) ∷ []

-- the Gen calls
abbrev pub gen_rows : ℤ → List Row
gen_rows count = (is_negative count ⇒ invalid_value) ∷ []

-- FramebufferTexture2D and FramebufferRenderbuffer; bound is the name of the framebuffer
abbrev pub attach_rows : FramebufferTarget → ℕ → ℕ → Bool → List Row
attach_rows target bound name exists =
    (is_other_framebuffer target ⇒ invalid_enum)
    ∷ (bound == 0 ⇒ invalid_operation)
    ∷ (not (name == 0) && not exists ⇒ invalid_operation)
    ∷ []

-- CheckFramebufferStatus
abbrev pub status_rows : FramebufferTarget → List Row
status_rows target = (is_other_framebuffer target ⇒ invalid_enum) ∷ []

-- the list is the one word none
abbrev pub is_only_none : List DrawBuffer → Bool
is_only_none [] = false
is_only_none (buffer ∷ []) = is_none_drawn buffer
is_only_none (buffer ∷ next ∷ rest) = false

-- some argument i, counted from 0, is neither none nor point i
abbrev pub is_misplaced : List DrawBuffer → Bool
is_misplaced buffers = list_any (λ e. not (is_none_drawn e.1 || same_option (drawn_point e.1) (Some e.0))) (enumerate_from 0 buffers)

-- DrawBuffers
abbrev pub draw_buffers_rows : List DrawBuffer → ℕ → List Row
draw_buffers_rows buffers bound =
    (list_any is_other_drawn buffers ⇒ invalid_enum)
    ∷ (bound == 0 && not (is_only_none buffers) ⇒ invalid_operation)
    ∷ (is_misplaced buffers ⇒ invalid_operation)
    ∷ []

-- ReadBuffer
abbrev pub read_buffer_rows : DrawBuffer → ℕ → List Row
read_buffer_rows buffer bound =
    (is_other_drawn buffer ⇒ invalid_enum)
    ∷ (bound == 0 && not (is_none_drawn buffer) ⇒ invalid_operation)
    ∷ []

-- ClearBufferuiv and ClearBufferiv of COLOR
abbrev pub clear_rows : ℤ → Bool → List Row
clear_rows buffer complete =
    (is_negative buffer || int_lt (pos 3) buffer ⇒ invalid_value)
    ∷ (not complete ⇒ invalid_framebuffer_operation)
    ∷ []

-- Scissor
abbrev pub scissor_rows : ℤ → ℤ → List Row
scissor_rows width height = (is_negative width || is_negative height ⇒ invalid_value) ∷ []

-- the signedness of two images differs
abbrev pub differs_in_sign : Option ImageInfo → ImageInfo → Bool
differs_in_sign read image = image_has (λ r. differs (has_signed_components r.format) (has_signed_components image.format)) read

-- BlitFramebuffer; drawn are the images at the draw buffers, and same says that the read image is one of them
abbrev pub blit_rows : BlitMask → BlitFilter → Bool → Bool → Option ImageInfo → List (Option ImageInfo) → Bool → List Row
blit_rows mask filter read_complete draw_complete read drawn same =
    let copies = is_color_mask mask && is_some read && list_any is_some drawn in
    (is_other_mask mask ⇒ invalid_value)
    ∷ (is_other_filter filter ⇒ invalid_enum)
    ∷ (not read_complete || not draw_complete ⇒ invalid_framebuffer_operation)
    ∷ (copies && is_linear_filter filter ⇒ invalid_operation)
    ∷ (copies && list_any (image_has (differs_in_sign read)) drawn ⇒ invalid_operation)
    ∷ (copies && same ⇒ invalid_operation)
    ∷ []

-- InvalidateFramebuffer of one attachment
abbrev pub invalidate_rows : FramebufferTarget → DrawBuffer → ℕ → List Row
invalidate_rows target buffer bound =
    (is_other_framebuffer target || is_no_point buffer ⇒ invalid_enum)
    ∷ (bound == 0 ⇒ invalid_enum)
    ∷ []

abbrev pub is_alignment : ℤ → Bool
is_alignment value = not (is_negative value) && (unsigned_abs value == 1 || unsigned_abs value == 2 || unsigned_abs value == 4 || unsigned_abs value == 8)

-- PixelStorei
abbrev pub pixel_store_rows : StoreParameter → ℤ → List Row
pixel_store_rows parameter value =
    (is_other_parameter parameter ⇒ invalid_enum)
    ∷ (is_align_parameter parameter && not (is_alignment value) ⇒ invalid_value)
    ∷ (not (is_align_parameter parameter) && is_negative value ⇒ invalid_value)
    ∷ []
