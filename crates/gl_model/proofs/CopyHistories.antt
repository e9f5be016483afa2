-- Worked histories, each with a proof that it is legal. Written by tools/worked_histories.py.
use Rattle.std.proofs.Common.{pos, negsuc, true, Some, List, [], ◌∷◌, refl, arith}
use Rattle.formats.specs.declared.format.Format.TheVariants as formats
use Rattle.formats.specs.declared.pixel.PixelFormat.TheVariants as pixels
use Rattle.formats.specs.declared.pixel.PixelType.TheVariants as types
use Rattle.formats.specs.declared.errors.FbStatus.TheVariants.{Undefined, IncompleteMissingAttachment}
use Rattle.gl_calls.specs.declared.reply.GlError.TheVariants.{InvalidOperation}
use Rattle.gl_calls.specs.declared.reply.Reply.TheVariants as reply
use Rattle.gl_calls.specs.declared.reply.Entry.{Entry}
use Rattle.gl_calls.specs.declared.call.Call.TheVariants as call
use Rattle.gl_calls.specs.declared.call.PixelSource.TheVariants as source
use Rattle.gl_calls.specs.declared.call.PixelDestination.TheVariants as destination
use Rattle.gl_calls.specs.declared.call.WaitEnd.TheVariants as ends
use Rattle.gl_calls.specs.declared.words.BufferTarget.TheVariants as buffers
use Rattle.gl_calls.specs.declared.words.FramebufferTarget.TheVariants as framebuffers
use Rattle.gl_calls.specs.declared.words.BindTarget.TheVariants as targets
use Rattle.gl_calls.specs.declared.words.ObjectKind.TheVariants as kinds
use Rattle.gl_calls.specs.declared.words.Usage.TheVariants as usages
use Rattle.gl_calls.specs.declared.words.FormatWord.TheVariants as words
use Rattle.gl_calls.specs.declared.words.AttachPoint.TheVariants.{C0}
use Rattle.gl_calls.specs.declared.words.AttachWhat.TheVariants as what
use Rattle.gl_calls.specs.declared.words.DrawBuffer.TheVariants as drawn
use Rattle.gl_calls.specs.declared.words.BlitMask.TheVariants as masks
use Rattle.gl_calls.specs.declared.words.BlitFilter.TheVariants as filters
use Rattle.gl_calls.specs.declared.words.FenceCondition.TheVariants as conditions
use Rattle.gl_calls.specs.declared.payload.Payload.TheVariants.{Literal, Ramp}
use Rattle.gl_model.specs.ImageRows.{tex_sub_image_rows, copy_tex_sub_image_rows}
use Rattle.gl_model.specs.Legal.{IsLegal}

abbrev pub clear_seen_by_another_context : List Entry
clear_seen_by_another_context =
    record { thread = 0; line = 5; call = call.CreateContext 1; reply = reply.Done } ∷
    record { thread = 0; line = 6; call = call.MakeCurrent 1; reply = reply.Done } ∷
    record { thread = 1; line = 7; call = call.CreateContext 2; reply = reply.Done } ∷
    record { thread = 1; line = 8; call = call.MakeCurrent 2; reply = reply.Done } ∷
    record { thread = 0; line = 9; call = call.Bind targets.Texture 1; reply = reply.Done } ∷
    record { thread = 0; line = 10; call = call.TexStorage (pos 1) (words.Known formats.R32ui) (pos 2) (pos 1); reply = reply.Done } ∷
    record { thread = 0; line = 11; call = call.Bind (targets.Framebuffer framebuffers.Both) 1; reply = reply.Done } ∷
    record { thread = 0; line = 12; call = call.Attach framebuffers.Both C0 what.Texture 1; reply = reply.Done } ∷
    record { thread = 0; line = 13; call = call.ClearUnsigned (pos 0) 7 0 0 0; reply = reply.Done } ∷
    record { thread = 1; line = 14; call = call.Bind (targets.Framebuffer framebuffers.Both) 5; reply = reply.Done } ∷
    record { thread = 1; line = 15; call = call.Attach framebuffers.Both C0 what.Texture 1; reply = reply.Done } ∷
    record { thread = 1; line = 16; call = call.ReadPixels (pos 0) (pos 0) (pos 2) (pos 1) pixels.RedInteger types.UnsignedInt destination.Client; reply = (reply.Bytes (7 ∷ 0 ∷ 0 ∷ 0 ∷ 7 ∷ 0 ∷ 0 ∷ 0 ∷ [])) } ∷ []

pub clear_seen_by_another_context-is_legal : IsLegal (0 ∷ 1 ∷ []) clear_seen_by_another_context
unfolding tex_sub_image_rows copy_tex_sub_image_rows
clear_seen_by_another_context-is_legal = (refl, (refl, (refl, (refl, (refl, (refl, (refl, (refl, (refl, (refl, (refl, ((λ _. refl, (λ _. refl, (λ _. refl, (λ _. refl, (λ _. refl, (λ _. refl, (λ _. refl, (λ _. refl, tt)))))))), tt))))))))))))

abbrev pub copies_around_a_clear : List Entry
copies_around_a_clear =
    record { thread = 0; line = 4; call = call.CreateContext 1; reply = reply.Done } ∷
    record { thread = 0; line = 5; call = call.MakeCurrent 1; reply = reply.Done } ∷
    record { thread = 0; line = 6; call = call.Bind targets.Texture 1; reply = reply.Done } ∷
    record { thread = 0; line = 7; call = call.TexStorage (pos 1) (words.Known formats.R32ui) (pos 2) (pos 1); reply = reply.Done } ∷
    record { thread = 0; line = 8; call = call.TexSubImage (pos 0) (pos 0) (pos 2) (pos 1) pixels.RedInteger types.UnsignedInt (source.Client (Literal (1 ∷ 0 ∷ 0 ∷ 0 ∷ 2 ∷ 0 ∷ 0 ∷ 0 ∷ []))); reply = reply.Done } ∷
    record { thread = 0; line = 9; call = call.Bind targets.Texture 2; reply = reply.Done } ∷
    record { thread = 0; line = 10; call = call.TexStorage (pos 1) (words.Known formats.R32ui) (pos 2) (pos 1); reply = reply.Done } ∷
    record { thread = 0; line = 11; call = call.TexSubImage (pos 0) (pos 0) (pos 2) (pos 1) pixels.RedInteger types.UnsignedInt (source.Client (Literal (3 ∷ 0 ∷ 0 ∷ 0 ∷ 4 ∷ 0 ∷ 0 ∷ 0 ∷ []))); reply = reply.Done } ∷
    record { thread = 0; line = 12; call = call.Bind targets.Texture 3; reply = reply.Done } ∷
    record { thread = 0; line = 13; call = call.TexStorage (pos 1) (words.Known formats.R32ui) (pos 4) (pos 1); reply = reply.Done } ∷
    record { thread = 0; line = 14; call = call.Bind (targets.Framebuffer framebuffers.Draw) 1; reply = reply.Done } ∷
    record { thread = 0; line = 15; call = call.Attach framebuffers.Draw C0 what.Texture 1; reply = reply.Done } ∷
    record { thread = 0; line = 16; call = call.Bind (targets.Framebuffer framebuffers.Read) 2; reply = reply.Done } ∷
    record { thread = 0; line = 17; call = call.Attach framebuffers.Read C0 what.Texture 2; reply = reply.Done } ∷
    record { thread = 0; line = 18; call = call.ScissorTest true; reply = reply.Done } ∷
    record { thread = 0; line = 19; call = call.ScissorBox (pos 0) (pos 0) (pos 1) (pos 1); reply = reply.Done } ∷
    record { thread = 0; line = 20; call = call.ClearUnsigned (pos 0) 9 0 0 0; reply = reply.Done } ∷
    record { thread = 0; line = 21; call = call.CopyTexSubImage (pos 0) (pos 0) (pos 0) (pos 0) (pos 2) (pos 1); reply = reply.Done } ∷
    record { thread = 0; line = 22; call = call.Attach framebuffers.Read C0 what.Texture 1; reply = reply.Done } ∷
    record { thread = 0; line = 23; call = call.CopyTexSubImage (pos 2) (pos 0) (pos 0) (pos 0) (pos 2) (pos 1); reply = reply.Done } ∷
    record { thread = 0; line = 24; call = call.Attach framebuffers.Read C0 what.Texture 3; reply = reply.Done } ∷
    record { thread = 0; line = 25; call = call.ReadPixels (pos 0) (pos 0) (pos 4) (pos 1) pixels.RedInteger types.UnsignedInt destination.Client; reply = (reply.Bytes (3 ∷ 0 ∷ 0 ∷ 0 ∷ 4 ∷ 0 ∷ 0 ∷ 0 ∷ 9 ∷ 0 ∷ 0 ∷ 0 ∷ 2 ∷ 0 ∷ 0 ∷ 0 ∷ [])) } ∷ []

pub copies_around_a_clear-is_legal : IsLegal (0 ∷ []) copies_around_a_clear
unfolding tex_sub_image_rows copy_tex_sub_image_rows
copies_around_a_clear-is_legal = (refl, (refl, (refl, (refl, (refl, (refl, (refl, (refl, (refl, (refl, (refl, (refl, (refl, (refl, (refl, (refl, (refl, (refl, (refl, (refl, (refl, ((λ _. refl, (λ _. refl, (λ _. refl, (λ _. refl, (λ _. refl, (λ _. refl, (λ _. refl, (λ _. refl, (λ _. refl, (λ _. refl, (λ _. refl, (λ _. refl, (λ _. refl, (λ _. refl, (λ _. refl, (λ _. refl, tt)))))))))))))))), tt))))))))))))))))))))))

abbrev pub mirrored_blit : List Entry
mirrored_blit =
    record { thread = 0; line = 4; call = call.CreateContext 1; reply = reply.Done } ∷
    record { thread = 0; line = 5; call = call.MakeCurrent 1; reply = reply.Done } ∷
    record { thread = 0; line = 6; call = call.Bind targets.Texture 1; reply = reply.Done } ∷
    record { thread = 0; line = 7; call = call.TexStorage (pos 1) (words.Known formats.R8ui) (pos 5) (pos 1); reply = reply.Done } ∷
    record { thread = 0; line = 8; call = call.TexSubImage (pos 0) (pos 0) (pos 5) (pos 1) pixels.RedInteger types.UnsignedByte (source.Client (Literal (10 ∷ 11 ∷ 12 ∷ 13 ∷ 14 ∷ []))); reply = reply.Done } ∷
    record { thread = 0; line = 9; call = call.Bind (targets.Framebuffer framebuffers.Read) 1; reply = reply.Done } ∷
    record { thread = 0; line = 10; call = call.Attach framebuffers.Read C0 what.Texture 1; reply = reply.Done } ∷
    record { thread = 0; line = 11; call = call.Bind targets.Renderbuffer 1; reply = reply.Done } ∷
    record { thread = 0; line = 12; call = call.RenderbufferStorage (words.Known formats.R8ui) (pos 3) (pos 1); reply = reply.Done } ∷
    record { thread = 0; line = 13; call = call.Bind (targets.Framebuffer framebuffers.Draw) 2; reply = reply.Done } ∷
    record { thread = 0; line = 14; call = call.Attach framebuffers.Draw C0 what.Renderbuffer 1; reply = reply.Done } ∷
    record { thread = 0; line = 15; call = call.Blit (pos 0) (pos 0) (pos 5) (pos 1) (pos 3) (pos 0) (pos 0) (pos 1) masks.Color filters.Nearest; reply = reply.Done } ∷
    record { thread = 0; line = 16; call = call.Bind (targets.Framebuffer framebuffers.Read) 2; reply = reply.Done } ∷
    record { thread = 0; line = 17; call = call.ReadPixels (pos 0) (pos 0) (pos 3) (pos 1) pixels.RedInteger types.UnsignedByte destination.Client; reply = (reply.Bytes (14 ∷ 12 ∷ 10 ∷ [])) } ∷ []

pub mirrored_blit-is_legal : IsLegal (0 ∷ []) mirrored_blit
unfolding tex_sub_image_rows copy_tex_sub_image_rows
mirrored_blit-is_legal = (refl, (refl, (refl, (refl, (refl, (refl, (refl, (refl, (refl, (refl, (refl, (refl, (refl, ((λ _. refl, (λ _. refl, (λ _. refl, tt))), tt))))))))))))))

abbrev pub blit_in_a_scissor_box : List Entry
blit_in_a_scissor_box =
    record { thread = 0; line = 4; call = call.CreateContext 1; reply = reply.Done } ∷
    record { thread = 0; line = 5; call = call.MakeCurrent 1; reply = reply.Done } ∷
    record { thread = 0; line = 6; call = call.Bind targets.Texture 1; reply = reply.Done } ∷
    record { thread = 0; line = 7; call = call.TexStorage (pos 1) (words.Known formats.R8ui) (pos 2) (pos 1); reply = reply.Done } ∷
    record { thread = 0; line = 8; call = call.TexSubImage (pos 0) (pos 0) (pos 2) (pos 1) pixels.RedInteger types.UnsignedByte (source.Client (Literal (10 ∷ 11 ∷ []))); reply = reply.Done } ∷
    record { thread = 0; line = 9; call = call.Bind (targets.Framebuffer framebuffers.Read) 1; reply = reply.Done } ∷
    record { thread = 0; line = 10; call = call.Attach framebuffers.Read C0 what.Texture 1; reply = reply.Done } ∷
    record { thread = 0; line = 11; call = call.Bind targets.Texture 2; reply = reply.Done } ∷
    record { thread = 0; line = 12; call = call.TexStorage (pos 1) (words.Known formats.R8ui) (pos 4) (pos 1); reply = reply.Done } ∷
    record { thread = 0; line = 13; call = call.TexSubImage (pos 0) (pos 0) (pos 4) (pos 1) pixels.RedInteger types.UnsignedByte (source.Client (Literal (0 ∷ 0 ∷ 0 ∷ 0 ∷ []))); reply = reply.Done } ∷
    record { thread = 0; line = 14; call = call.Bind (targets.Framebuffer framebuffers.Draw) 2; reply = reply.Done } ∷
    record { thread = 0; line = 15; call = call.Attach framebuffers.Draw C0 what.Texture 2; reply = reply.Done } ∷
    record { thread = 0; line = 16; call = call.ScissorTest true; reply = reply.Done } ∷
    record { thread = 0; line = 17; call = call.ScissorBox (pos 1) (pos 0) (pos 2) (pos 1); reply = reply.Done } ∷
    record { thread = 0; line = 18; call = call.Blit (pos 0) (pos 0) (pos 2) (pos 1) (pos 0) (pos 0) (pos 4) (pos 1) masks.Color filters.Nearest; reply = reply.Done } ∷
    record { thread = 0; line = 19; call = call.Bind (targets.Framebuffer framebuffers.Read) 2; reply = reply.Done } ∷
    record { thread = 0; line = 20; call = call.ReadPixels (pos 0) (pos 0) (pos 4) (pos 1) pixels.RedInteger types.UnsignedByte destination.Client; reply = (reply.Bytes (0 ∷ 10 ∷ 11 ∷ 0 ∷ [])) } ∷
    record { thread = 0; line = 21; call = call.Blit (pos 0) (pos 0) (pos 1) (pos 1) (pos 0) (pos 0) (pos 1) (pos 1) masks.Color filters.Nearest; reply = (reply.GlFault InvalidOperation) } ∷ []

pub blit_in_a_scissor_box-is_legal : IsLegal (0 ∷ []) blit_in_a_scissor_box
unfolding tex_sub_image_rows copy_tex_sub_image_rows
blit_in_a_scissor_box-is_legal = (refl, (refl, (refl, (refl, (refl, (refl, (refl, (refl, (refl, (refl, (refl, (refl, (refl, (refl, (refl, (refl, ((λ _. refl, (λ _. refl, (λ _. refl, (λ _. refl, tt)))), (refl, tt))))))))))))))))))

abbrev pub image_from_a_buffer_halved : List Entry
image_from_a_buffer_halved =
    record { thread = 0; line = 5; call = call.CreateContext 1; reply = reply.Done } ∷
    record { thread = 0; line = 6; call = call.MakeCurrent 1; reply = reply.Done } ∷
    record { thread = 0; line = 7; call = call.Bind (targets.Buffer buffers.PixelUnpack) 1; reply = reply.Done } ∷
    record { thread = 0; line = 8; call = call.BufferData buffers.PixelUnpack (pos 64) usages.StreamDraw (Some (Ramp 64 0 1)); reply = reply.Done } ∷
    record { thread = 0; line = 9; call = call.Bind targets.Texture 1; reply = reply.Done } ∷
    record { thread = 0; line = 10; call = call.TexStorage (pos 1) (words.Known formats.Rgba8ui) (pos 4) (pos 4); reply = reply.Done } ∷
    record { thread = 0; line = 11; call = call.TexSubImage (pos 0) (pos 0) (pos 4) (pos 4) pixels.RgbaInteger types.UnsignedByte (source.Offset 0); reply = reply.Done } ∷
    record { thread = 0; line = 12; call = call.FenceSync 1 conditions.GpuCommandsComplete 0; reply = reply.Done } ∷
    record { thread = 0; line = 13; call = call.Flush; reply = reply.Done } ∷
    record { thread = 1; line = 14; call = call.CreateContext 2; reply = reply.Done } ∷
    record { thread = 1; line = 15; call = call.MakeCurrent 2; reply = reply.Done } ∷
    record { thread = 1; line = 16; call = call.WaitSync 1 0 ends.Ignored; reply = reply.Done } ∷
    record { thread = 1; line = 17; call = call.Bind (targets.Framebuffer framebuffers.Read) 1; reply = reply.Done } ∷
    record { thread = 1; line = 18; call = call.Attach framebuffers.Read C0 what.Texture 1; reply = reply.Done } ∷
    record { thread = 1; line = 19; call = call.Bind targets.Renderbuffer 1; reply = reply.Done } ∷
    record { thread = 1; line = 20; call = call.RenderbufferStorage (words.Known formats.Rgba8ui) (pos 2) (pos 2); reply = reply.Done } ∷
    record { thread = 1; line = 21; call = call.Bind (targets.Framebuffer framebuffers.Draw) 2; reply = reply.Done } ∷
    record { thread = 1; line = 22; call = call.Attach framebuffers.Draw C0 what.Renderbuffer 1; reply = reply.Done } ∷
    record { thread = 1; line = 23; call = call.Blit (pos 0) (pos 0) (pos 4) (pos 4) (pos 0) (pos 0) (pos 2) (pos 2) masks.Color filters.Nearest; reply = reply.Done } ∷
    record { thread = 1; line = 24; call = call.Bind (targets.Framebuffer framebuffers.Read) 2; reply = reply.Done } ∷
    record { thread = 1; line = 25; call = call.ReadPixels (pos 0) (pos 0) (pos 2) (pos 2) pixels.RgbaInteger types.UnsignedByte destination.Client; reply = (reply.Bytes (20 ∷ 21 ∷ 22 ∷ 23 ∷ 28 ∷ 29 ∷ 30 ∷ 31 ∷ 52 ∷ 53 ∷ 54 ∷ 55 ∷ 60 ∷ 61 ∷ 62 ∷ 63 ∷ [])) } ∷ []

pub image_from_a_buffer_halved-is_legal : IsLegal (0 ∷ 1 ∷ []) image_from_a_buffer_halved
unfolding tex_sub_image_rows copy_tex_sub_image_rows
image_from_a_buffer_halved-is_legal = (refl, (refl, (refl, (refl, (refl, (refl, (refl, (refl, (refl, (refl, (refl, (refl, (refl, (refl, (refl, (refl, (refl, (refl, (refl, (refl, ((λ _. refl, (λ _. refl, (λ _. refl, (λ _. refl, (λ _. refl, (λ _. refl, (λ _. refl, (λ _. refl, (λ _. refl, (λ _. refl, (λ _. refl, (λ _. refl, (λ _. refl, (λ _. refl, (λ _. refl, (λ _. refl, tt)))))))))))))))), tt)))))))))))))))))))))

abbrev pub blit_keeps_what_is_outside : List Entry
blit_keeps_what_is_outside =
    record { thread = 0; line = 4; call = call.CreateContext 1; reply = reply.Done } ∷
    record { thread = 0; line = 5; call = call.MakeCurrent 1; reply = reply.Done } ∷
    record { thread = 0; line = 6; call = call.Bind targets.Texture 1; reply = reply.Done } ∷
    record { thread = 0; line = 7; call = call.TexStorage (pos 1) (words.Known formats.R8ui) (pos 2) (pos 1); reply = reply.Done } ∷
    record { thread = 0; line = 8; call = call.TexSubImage (pos 0) (pos 0) (pos 2) (pos 1) pixels.RedInteger types.UnsignedByte (source.Client (Literal (10 ∷ 11 ∷ []))); reply = reply.Done } ∷
    record { thread = 0; line = 9; call = call.Bind (targets.Framebuffer framebuffers.Read) 1; reply = reply.Done } ∷
    record { thread = 0; line = 10; call = call.Attach framebuffers.Read C0 what.Texture 1; reply = reply.Done } ∷
    record { thread = 0; line = 11; call = call.Bind targets.Renderbuffer 1; reply = reply.Done } ∷
    record { thread = 0; line = 12; call = call.RenderbufferStorage (words.Known formats.R8ui) (pos 4) (pos 1); reply = reply.Done } ∷
    record { thread = 0; line = 13; call = call.Bind (targets.Framebuffer framebuffers.Draw) 2; reply = reply.Done } ∷
    record { thread = 0; line = 14; call = call.Attach framebuffers.Draw C0 what.Renderbuffer 1; reply = reply.Done } ∷
    record { thread = 0; line = 15; call = call.ClearUnsigned (pos 0) 255 0 0 0; reply = reply.Done } ∷
    record { thread = 0; line = 16; call = call.ScissorTest true; reply = reply.Done } ∷
    record { thread = 0; line = 17; call = call.ScissorBox (pos 1) (pos 0) (pos 2) (pos 1); reply = reply.Done } ∷
    record { thread = 0; line = 18; call = call.Blit (pos 0) (pos 0) (pos 2) (pos 1) (pos 0) (pos 0) (pos 4) (pos 1) masks.Color filters.Nearest; reply = reply.Done } ∷
    record { thread = 0; line = 19; call = call.Bind (targets.Framebuffer framebuffers.Read) 2; reply = reply.Done } ∷
    record { thread = 0; line = 20; call = call.ReadPixels (pos 0) (pos 0) (pos 4) (pos 1) pixels.RedInteger types.UnsignedByte destination.Client; reply = (reply.Bytes (255 ∷ 10 ∷ 11 ∷ 255 ∷ [])) } ∷ []

pub blit_keeps_what_is_outside-is_legal : IsLegal (0 ∷ []) blit_keeps_what_is_outside
unfolding tex_sub_image_rows copy_tex_sub_image_rows
blit_keeps_what_is_outside-is_legal = (refl, (refl, (refl, (refl, (refl, (refl, (refl, (refl, (refl, (refl, (refl, (refl, (refl, (refl, (refl, (refl, ((λ _. refl, (λ _. refl, (λ _. refl, (λ _. refl, tt)))), tt)))))))))))))))))

abbrev pub copies_past_the_edge : List Entry
copies_past_the_edge =
    record { thread = 0; line = 4; call = call.CreateContext 1; reply = reply.Done } ∷
    record { thread = 0; line = 5; call = call.MakeCurrent 1; reply = reply.Done } ∷
    record { thread = 0; line = 6; call = call.Bind targets.Texture 1; reply = reply.Done } ∷
    record { thread = 0; line = 7; call = call.TexStorage (pos 1) (words.Known formats.R8ui) (pos 2) (pos 1); reply = reply.Done } ∷
    record { thread = 0; line = 8; call = call.TexSubImage (pos 0) (pos 0) (pos 2) (pos 1) pixels.RedInteger types.UnsignedByte (source.Client (Literal (10 ∷ 11 ∷ []))); reply = reply.Done } ∷
    record { thread = 0; line = 9; call = call.Bind (targets.Framebuffer framebuffers.Both) 1; reply = reply.Done } ∷
    record { thread = 0; line = 10; call = call.Attach framebuffers.Both C0 what.Texture 1; reply = reply.Done } ∷
    record { thread = 0; line = 11; call = call.Bind targets.Texture 2; reply = reply.Done } ∷
    record { thread = 0; line = 12; call = call.TexStorage (pos 1) (words.Known formats.R8ui) (pos 3) (pos 1); reply = reply.Done } ∷
    record { thread = 0; line = 13; call = call.CopyTexSubImage (pos 0) (pos 0) (negsuc 0) (pos 0) (pos 3) (pos 1); reply = reply.Done } ∷
    record { thread = 0; line = 14; call = call.Attach framebuffers.Both C0 what.Texture 2; reply = reply.Done } ∷
    record { thread = 0; line = 15; call = call.ReadPixels (pos 0) (pos 0) (pos 3) (pos 1) pixels.RedInteger types.UnsignedByte destination.Client; reply = (reply.Bytes (0 ∷ 10 ∷ 11 ∷ [])) } ∷
    record { thread = 0; line = 16; call = call.Invalidate framebuffers.Both (drawn.Point C0); reply = reply.Done } ∷
    record { thread = 0; line = 17; call = call.ReadPixels (pos 1) (pos 0) (pos 1) (pos 1) pixels.RedInteger types.UnsignedByte destination.Client; reply = (reply.Bytes (0 ∷ [])) } ∷
    record { thread = 0; line = 18; call = call.CopyTexSubImage (pos 0) (pos 0) (pos 0) (pos 0) (pos 1) (pos 1); reply = (reply.GlFault InvalidOperation) } ∷
    record { thread = 0; line = 19; call = call.Delete kinds.Texture 2; reply = reply.Done } ∷
    record { thread = 0; line = 20; call = call.CheckFramebufferStatus framebuffers.Both; reply = (reply.Status IncompleteMissingAttachment) } ∷
    record { thread = 0; line = 21; call = call.Delete kinds.Framebuffer 1; reply = reply.Done } ∷
    record { thread = 0; line = 22; call = call.CheckFramebufferStatus framebuffers.Both; reply = (reply.Status Undefined) } ∷ []

pub copies_past_the_edge-is_legal : IsLegal (0 ∷ []) copies_past_the_edge
unfolding tex_sub_image_rows copy_tex_sub_image_rows
copies_past_the_edge-is_legal = (refl, (refl, (refl, (refl, (refl, (refl, (refl, (refl, (refl, (refl, (refl, ((λ h. absurd (omega arith), (λ _. refl, (λ _. refl, tt))), (refl, ((λ h. absurd (omega arith), tt), (refl, (refl, (refl, (refl, (refl, tt)))))))))))))))))))

abbrev pub signed_blit_and_clear : List Entry
signed_blit_and_clear =
    record { thread = 0; line = 4; call = call.CreateContext 1; reply = reply.Done } ∷
    record { thread = 0; line = 5; call = call.MakeCurrent 1; reply = reply.Done } ∷
    record { thread = 0; line = 6; call = call.Bind targets.Texture 1; reply = reply.Done } ∷
    record { thread = 0; line = 7; call = call.TexStorage (pos 1) (words.Known formats.R8i) (pos 1) (pos 1); reply = reply.Done } ∷
    record { thread = 0; line = 8; call = call.TexSubImage (pos 0) (pos 0) (pos 1) (pos 1) pixels.RedInteger types.Byte (source.Client (Literal (254 ∷ []))); reply = reply.Done } ∷
    record { thread = 0; line = 9; call = call.Bind (targets.Framebuffer framebuffers.Read) 1; reply = reply.Done } ∷
    record { thread = 0; line = 10; call = call.Attach framebuffers.Read C0 what.Texture 1; reply = reply.Done } ∷
    record { thread = 0; line = 11; call = call.Bind targets.Renderbuffer 1; reply = reply.Done } ∷
    record { thread = 0; line = 12; call = call.RenderbufferStorage (words.Known formats.R32i) (pos 1) (pos 1); reply = reply.Done } ∷
    record { thread = 0; line = 13; call = call.Bind (targets.Framebuffer framebuffers.Draw) 2; reply = reply.Done } ∷
    record { thread = 0; line = 14; call = call.Attach framebuffers.Draw C0 what.Renderbuffer 1; reply = reply.Done } ∷
    record { thread = 0; line = 15; call = call.Blit (pos 0) (pos 0) (pos 1) (pos 1) (pos 0) (pos 0) (pos 1) (pos 1) masks.Color filters.Nearest; reply = reply.Done } ∷
    record { thread = 0; line = 16; call = call.Bind (targets.Framebuffer framebuffers.Read) 2; reply = reply.Done } ∷
    record { thread = 0; line = 17; call = call.ReadPixels (pos 0) (pos 0) (pos 1) (pos 1) pixels.RedInteger types.Int destination.Client; reply = (reply.Bytes (254 ∷ 255 ∷ 255 ∷ 255 ∷ [])) } ∷
    record { thread = 0; line = 18; call = call.ClearSigned (pos 0) (negsuc 128) (pos 0) (pos 0) (pos 0); reply = reply.Done } ∷
    record { thread = 0; line = 19; call = call.ReadPixels (pos 0) (pos 0) (pos 1) (pos 1) pixels.RedInteger types.Int destination.Client; reply = (reply.Bytes (127 ∷ 255 ∷ 255 ∷ 255 ∷ [])) } ∷
    record { thread = 0; line = 20; call = call.Blit (pos 0) (pos 0) (pos 1) (pos 1) (pos 0) (pos 0) (pos 1) (pos 1) masks.Color filters.Nearest; reply = (reply.GlFault InvalidOperation) } ∷ []

pub signed_blit_and_clear-is_legal : IsLegal (0 ∷ []) signed_blit_and_clear
unfolding tex_sub_image_rows copy_tex_sub_image_rows
signed_blit_and_clear-is_legal = (refl, (refl, (refl, (refl, (refl, (refl, (refl, (refl, (refl, (refl, (refl, (refl, (refl, ((λ _. refl, (λ _. refl, (λ _. refl, (λ _. refl, tt)))), (refl, ((λ _. refl, (λ _. refl, (λ _. refl, (λ _. refl, tt)))), (refl, tt)))))))))))))))))
