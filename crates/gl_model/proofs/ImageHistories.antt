-- Worked histories, each with a proof that it is legal. Written by tools/worked_histories.py.
use Rattle.std.proofs.Common.{pos, negsuc, true, false, Some, None, List, [], ◌∷◌, refl, arith}
use Rattle.formats.specs.declared.format.Format.TheVariants as formats
use Rattle.formats.specs.declared.pixel.PixelFormat.TheVariants as pixels
use Rattle.formats.specs.declared.pixel.PixelType.TheVariants as types
use Rattle.formats.specs.declared.errors.FbStatus.TheVariants.{Complete, IncompleteAttachment, IncompleteMissingAttachment, Unsupported}
use Rattle.gl_calls.specs.declared.reply.GlError.TheVariants.{InvalidOperation, InvalidFramebufferOperation, OutOfMemory}
use Rattle.gl_calls.specs.declared.reply.Reply.TheVariants as reply
use Rattle.gl_calls.specs.declared.reply.Entry.{Entry}
use Rattle.gl_calls.specs.declared.call.Call.TheVariants as call
use Rattle.gl_calls.specs.declared.call.PixelSource.TheVariants as source
use Rattle.gl_calls.specs.declared.call.PixelDestination.TheVariants as destination
use Rattle.gl_calls.specs.declared.words.BufferTarget.TheVariants as buffers
use Rattle.gl_calls.specs.declared.words.FramebufferTarget.TheVariants as framebuffers
use Rattle.gl_calls.specs.declared.words.BindTarget.TheVariants as targets
use Rattle.gl_calls.specs.declared.words.ObjectKind.TheVariants as kinds
use Rattle.gl_calls.specs.declared.words.Usage.TheVariants as usages
use Rattle.gl_calls.specs.declared.words.FormatWord.TheVariants as words
use Rattle.gl_calls.specs.declared.words.AttachPoint.TheVariants.{C0, C1, C2}
use Rattle.gl_calls.specs.declared.words.AttachWhat.TheVariants as what
use Rattle.gl_calls.specs.declared.words.DrawBuffer.TheVariants as drawn
use Rattle.gl_calls.specs.declared.words.StoreParameter.TheVariants as parameters
use Rattle.gl_calls.specs.declared.payload.Payload.TheVariants.{Literal}
use Rattle.gl_model.specs.ImageRows.{tex_sub_image_rows, copy_tex_sub_image_rows}
use Rattle.gl_model.specs.Legal.{IsLegal}

abbrev pub expands_a_signed_texel : List Entry
expands_a_signed_texel =
    record { thread = 0; line = 4; call = call.CreateContext 1; reply = reply.Done } ∷
    record { thread = 0; line = 5; call = call.MakeCurrent 1; reply = reply.Done } ∷
    record { thread = 0; line = 6; call = call.Bind targets.Texture 1; reply = reply.Done } ∷
    record { thread = 0; line = 7; call = call.TexStorage (pos 1) (words.Known formats.R8i) (pos 1) (pos 1); reply = reply.Done } ∷
    record { thread = 0; line = 8; call = call.TexSubImage (pos 0) (pos 0) (pos 1) (pos 1) pixels.RedInteger types.Byte (source.Client (Literal (255 ∷ []))); reply = reply.Done } ∷
    record { thread = 0; line = 9; call = call.Bind (targets.Framebuffer framebuffers.Both) 1; reply = reply.Done } ∷
    record { thread = 0; line = 10; call = call.Attach framebuffers.Both C0 what.Texture 1; reply = reply.Done } ∷
    record { thread = 0; line = 11; call = call.ReadPixels (pos 0) (pos 0) (pos 1) (pos 1) pixels.RgbaInteger types.Int destination.Client; reply = (reply.Bytes (255 ∷ 255 ∷ 255 ∷ 255 ∷ 0 ∷ 0 ∷ 0 ∷ 0 ∷ 0 ∷ 0 ∷ 0 ∷ 0 ∷ 1 ∷ 0 ∷ 0 ∷ 0 ∷ [])) } ∷ []

pub expands_a_signed_texel-is_legal : IsLegal (0 ∷ []) expands_a_signed_texel
unfolding tex_sub_image_rows copy_tex_sub_image_rows
expands_a_signed_texel-is_legal = (refl, (refl, (refl, (refl, (refl, (refl, (refl, ((λ _. refl, (λ _. refl, (λ _. refl, (λ _. refl, (λ _. refl, (λ _. refl, (λ _. refl, (λ _. refl, (λ _. refl, (λ _. refl, (λ _. refl, (λ _. refl, (λ _. refl, (λ _. refl, (λ _. refl, (λ _. refl, tt)))))))))))))))), tt))))))))

abbrev pub skips_padding_between_rows : List Entry
skips_padding_between_rows =
    record { thread = 0; line = 4; call = call.CreateContext 1; reply = reply.Done } ∷
    record { thread = 0; line = 5; call = call.MakeCurrent 1; reply = reply.Done } ∷
    record { thread = 0; line = 6; call = call.Bind targets.Texture 1; reply = reply.Done } ∷
    record { thread = 0; line = 7; call = call.TexStorage (pos 1) (words.Known formats.R8ui) (pos 3) (pos 2); reply = reply.Done } ∷
    record { thread = 0; line = 8; call = call.TexSubImage (pos 0) (pos 0) (pos 3) (pos 2) pixels.RedInteger types.UnsignedByte (source.Client (Literal (1 ∷ 2 ∷ 3 ∷ 0 ∷ 4 ∷ 5 ∷ 6 ∷ []))); reply = reply.Done } ∷
    record { thread = 0; line = 9; call = call.Bind (targets.Framebuffer framebuffers.Both) 1; reply = reply.Done } ∷
    record { thread = 0; line = 10; call = call.Attach framebuffers.Both C0 what.Texture 1; reply = reply.Done } ∷
    record { thread = 0; line = 11; call = call.ReadPixels (pos 0) (pos 0) (pos 3) (pos 2) pixels.RedInteger types.UnsignedByte destination.Client; reply = (reply.Bytes (1 ∷ 2 ∷ 3 ∷ 4 ∷ 5 ∷ 6 ∷ [])) } ∷ []

pub skips_padding_between_rows-is_legal : IsLegal (0 ∷ []) skips_padding_between_rows
unfolding tex_sub_image_rows copy_tex_sub_image_rows
skips_padding_between_rows-is_legal = (refl, (refl, (refl, (refl, (refl, (refl, (refl, ((λ _. refl, (λ _. refl, (λ _. refl, (λ _. refl, (λ _. refl, (λ _. refl, tt)))))), tt))))))))

abbrev pub uploads_after_a_clear : List Entry
uploads_after_a_clear =
    record { thread = 0; line = 4; call = call.CreateContext 1; reply = reply.Done } ∷
    record { thread = 0; line = 5; call = call.MakeCurrent 1; reply = reply.Done } ∷
    record { thread = 0; line = 6; call = call.Bind targets.Texture 1; reply = reply.Done } ∷
    record { thread = 0; line = 7; call = call.TexStorage (pos 1) (words.Known formats.R32ui) (pos 1) (pos 1); reply = reply.Done } ∷
    record { thread = 0; line = 8; call = call.Bind (targets.Framebuffer framebuffers.Both) 1; reply = reply.Done } ∷
    record { thread = 0; line = 9; call = call.Attach framebuffers.Both C0 what.Texture 1; reply = reply.Done } ∷
    record { thread = 0; line = 10; call = call.ClearUnsigned (pos 0) 5 0 0 0; reply = reply.Done } ∷
    record { thread = 0; line = 11; call = call.TexSubImage (pos 0) (pos 0) (pos 1) (pos 1) pixels.RedInteger types.UnsignedInt (source.Client (Literal (6 ∷ 0 ∷ 0 ∷ 0 ∷ []))); reply = reply.Done } ∷
    record { thread = 0; line = 12; call = call.ReadPixels (pos 0) (pos 0) (pos 1) (pos 1) pixels.RedInteger types.UnsignedInt destination.Client; reply = (reply.Bytes (6 ∷ 0 ∷ 0 ∷ 0 ∷ [])) } ∷ []

pub uploads_after_a_clear-is_legal : IsLegal (0 ∷ []) uploads_after_a_clear
unfolding tex_sub_image_rows copy_tex_sub_image_rows
uploads_after_a_clear-is_legal = (refl, (refl, (refl, (refl, (refl, (refl, (refl, (refl, ((λ _. refl, (λ _. refl, (λ _. refl, (λ _. refl, tt)))), tt)))))))))

abbrev pub texture_outlives_its_name : List Entry
texture_outlives_its_name =
    record { thread = 0; line = 4; call = call.CreateContext 1; reply = reply.Done } ∷
    record { thread = 0; line = 5; call = call.MakeCurrent 1; reply = reply.Done } ∷
    record { thread = 0; line = 6; call = call.Bind targets.Texture 1; reply = reply.Done } ∷
    record { thread = 0; line = 7; call = call.TexStorage (pos 1) (words.Known formats.R8ui) (pos 1) (pos 1); reply = reply.Done } ∷
    record { thread = 0; line = 8; call = call.TexSubImage (pos 0) (pos 0) (pos 1) (pos 1) pixels.RedInteger types.UnsignedByte (source.Client (Literal (42 ∷ []))); reply = reply.Done } ∷
    record { thread = 0; line = 9; call = call.Bind (targets.Framebuffer framebuffers.Both) 1; reply = reply.Done } ∷
    record { thread = 0; line = 10; call = call.Attach framebuffers.Both C0 what.Texture 1; reply = reply.Done } ∷
    record { thread = 0; line = 11; call = call.Bind (targets.Framebuffer framebuffers.Both) 2; reply = reply.Done } ∷
    record { thread = 0; line = 12; call = call.Delete kinds.Texture 1; reply = reply.Done } ∷
    record { thread = 0; line = 13; call = call.Bind (targets.Framebuffer framebuffers.Both) 1; reply = reply.Done } ∷
    record { thread = 0; line = 14; call = call.ReadPixels (pos 0) (pos 0) (pos 1) (pos 1) pixels.RedInteger types.UnsignedByte destination.Client; reply = (reply.Bytes (42 ∷ [])) } ∷
    record { thread = 0; line = 15; call = call.Attach framebuffers.Both C0 what.Texture 0; reply = reply.Done } ∷
    record { thread = 0; line = 16; call = call.CheckFramebufferStatus framebuffers.Both; reply = (reply.Status IncompleteMissingAttachment) } ∷
    record { thread = 0; line = 17; call = call.Gen kinds.Texture (pos 1); reply = (reply.Names (1 ∷ [])) } ∷ []

pub texture_outlives_its_name-is_legal : IsLegal (0 ∷ []) texture_outlives_its_name
unfolding tex_sub_image_rows copy_tex_sub_image_rows
texture_outlives_its_name-is_legal = (refl, (refl, (refl, (refl, (refl, (refl, (refl, (refl, (refl, (refl, ((λ _. refl, tt), (refl, (refl, (refl, tt))))))))))))))

abbrev pub framebuffer_statuses : List Entry
framebuffer_statuses =
    record { thread = 0; line = 4; call = call.CreateContext 1; reply = reply.Done } ∷
    record { thread = 0; line = 5; call = call.MakeCurrent 1; reply = reply.Done } ∷
    record { thread = 0; line = 6; call = call.Bind targets.Texture 1; reply = reply.Done } ∷
    record { thread = 0; line = 7; call = call.TexStorage (pos 1) (words.Known formats.R8ui) (pos 1) (pos 1); reply = reply.Done } ∷
    record { thread = 0; line = 8; call = call.Bind (targets.Framebuffer framebuffers.Both) 1; reply = reply.Done } ∷
    record { thread = 0; line = 9; call = call.Attach framebuffers.Both C0 what.Texture 1; reply = reply.Done } ∷
    record { thread = 0; line = 10; call = call.Attach framebuffers.Both C1 what.Texture 1; reply = reply.Done } ∷
    record { thread = 0; line = 11; call = call.CheckFramebufferStatus framebuffers.Both; reply = (reply.Status Unsupported) } ∷
    record { thread = 0; line = 12; call = call.Attach framebuffers.Both C1 what.Texture 0; reply = reply.Done } ∷
    record { thread = 0; line = 13; call = call.CheckFramebufferStatus framebuffers.Both; reply = (reply.Status Complete) } ∷
    record { thread = 0; line = 14; call = call.DrawBuffers (drawn.None ∷ (drawn.Point C1) ∷ []); reply = reply.Done } ∷
    record { thread = 0; line = 15; call = call.DrawBuffers ((drawn.Point C1) ∷ []); reply = (reply.GlFault InvalidOperation) } ∷
    record { thread = 0; line = 16; call = call.Bind (targets.Framebuffer framebuffers.Both) 0; reply = reply.Done } ∷
    record { thread = 0; line = 17; call = call.DrawBuffers (drawn.None ∷ []); reply = reply.Done } ∷
    record { thread = 0; line = 18; call = call.ReadBuffer drawn.None; reply = reply.Done } ∷
    record { thread = 0; line = 19; call = call.ReadBuffer (drawn.Point C0); reply = (reply.GlFault InvalidOperation) } ∷ []

pub framebuffer_statuses-is_legal : IsLegal (0 ∷ []) framebuffer_statuses
unfolding tex_sub_image_rows copy_tex_sub_image_rows
framebuffer_statuses-is_legal = (refl, (refl, (refl, (refl, (refl, (refl, (refl, (refl, (refl, (refl, (refl, (refl, (refl, (refl, (refl, (refl, tt))))))))))))))))

abbrev pub storage_at_its_limit : List Entry
storage_at_its_limit =
    record { thread = 0; line = 4; call = call.CreateContext 1; reply = reply.Done } ∷
    record { thread = 0; line = 5; call = call.MakeCurrent 1; reply = reply.Done } ∷
    record { thread = 0; line = 6; call = call.Bind targets.Texture 1; reply = reply.Done } ∷
    record { thread = 0; line = 7; call = call.TexStorage (pos 1) (words.Known formats.Rgba32ui) (pos 2048) (pos 2048); reply = reply.Done } ∷
    record { thread = 0; line = 8; call = call.Bind (targets.Buffer buffers.Array) 1; reply = reply.Done } ∷
    record { thread = 0; line = 9; call = call.BufferData buffers.Array (pos 1) usages.StaticDraw None; reply = (reply.GlFault OutOfMemory) } ∷
    record { thread = 0; line = 10; call = call.GetError; reply = (reply.GlFlag OutOfMemory) } ∷ []

pub storage_at_its_limit-is_legal : IsLegal (0 ∷ []) storage_at_its_limit
unfolding tex_sub_image_rows copy_tex_sub_image_rows
storage_at_its_limit-is_legal = (refl, (refl, (refl, (refl, (refl, (refl, (refl, tt)))))))

abbrev pub reads_into_a_pack_buffer : List Entry
reads_into_a_pack_buffer =
    record { thread = 0; line = 4; call = call.CreateContext 1; reply = reply.Done } ∷
    record { thread = 0; line = 5; call = call.MakeCurrent 1; reply = reply.Done } ∷
    record { thread = 0; line = 6; call = call.Bind targets.Texture 1; reply = reply.Done } ∷
    record { thread = 0; line = 7; call = call.TexStorage (pos 1) (words.Known formats.R8ui) (pos 1) (pos 1); reply = reply.Done } ∷
    record { thread = 0; line = 8; call = call.TexSubImage (pos 0) (pos 0) (pos 1) (pos 1) pixels.RedInteger types.UnsignedByte (source.Client (Literal (42 ∷ []))); reply = reply.Done } ∷
    record { thread = 0; line = 9; call = call.Bind (targets.Framebuffer framebuffers.Both) 1; reply = reply.Done } ∷
    record { thread = 0; line = 10; call = call.Attach framebuffers.Both C0 what.Texture 1; reply = reply.Done } ∷
    record { thread = 0; line = 11; call = call.Bind (targets.Buffer buffers.PixelPack) 1; reply = reply.Done } ∷
    record { thread = 0; line = 12; call = call.BufferData buffers.PixelPack (pos 16) usages.StreamRead None; reply = reply.Done } ∷
    record { thread = 0; line = 13; call = call.ReadPixels (pos 0) (pos 0) (pos 1) (pos 1) pixels.RgbaInteger types.UnsignedInt (destination.Offset 0); reply = reply.Done } ∷
    record { thread = 0; line = 14; call = call.ReadPixels (pos 0) (pos 0) (pos 1) (pos 1) pixels.RgbaInteger types.UnsignedInt (destination.Offset 2); reply = (reply.GlFault InvalidOperation) } ∷
    record { thread = 0; line = 15; call = call.ReadPixels (pos 0) (pos 0) (pos 1) (pos 1) pixels.RgbaInteger types.UnsignedInt destination.Client; reply = reply.BadPointer } ∷
    record { thread = 0; line = 16; call = call.MapBufferRange buffers.PixelPack (pos 0) (pos 16) (record { read = true; write = false; invalidate_range = false; invalidate_buffer = false; unsynchronized = false; flush_explicit = false; unknown = false }); reply = reply.Done } ∷
    record { thread = 0; line = 17; call = call.MapRead buffers.PixelPack (pos 0) (pos 16); reply = (reply.Bytes (42 ∷ 0 ∷ 0 ∷ 0 ∷ 0 ∷ 0 ∷ 0 ∷ 0 ∷ 0 ∷ 0 ∷ 0 ∷ 0 ∷ 1 ∷ 0 ∷ 0 ∷ 0 ∷ [])) } ∷ []

pub reads_into_a_pack_buffer-is_legal : IsLegal (0 ∷ []) reads_into_a_pack_buffer
unfolding tex_sub_image_rows copy_tex_sub_image_rows
reads_into_a_pack_buffer-is_legal = (refl, (refl, (refl, (refl, (refl, (refl, (refl, (refl, (refl, (refl, (refl, (refl, (refl, ((λ _. refl, (λ _. refl, (λ _. refl, (λ _. refl, (λ _. refl, (λ _. refl, (λ _. refl, (λ _. refl, (λ _. refl, (λ _. refl, (λ _. refl, (λ _. refl, (λ _. refl, (λ _. refl, (λ _. refl, (λ _. refl, tt)))))))))))))))), tt))))))))))))))

abbrev pub clears_of_two_images : List Entry
clears_of_two_images =
    record { thread = 0; line = 4; call = call.CreateContext 1; reply = reply.Done } ∷
    record { thread = 0; line = 5; call = call.MakeCurrent 1; reply = reply.Done } ∷
    record { thread = 0; line = 6; call = call.Bind targets.Texture 1; reply = reply.Done } ∷
    record { thread = 0; line = 7; call = call.TexStorage (pos 1) (words.Known formats.R8ui) (pos 3) (pos 1); reply = reply.Done } ∷
    record { thread = 0; line = 8; call = call.Bind targets.Renderbuffer 1; reply = reply.Done } ∷
    record { thread = 0; line = 9; call = call.RenderbufferStorage (words.Known formats.R8ui) (pos 2) (pos 1); reply = reply.Done } ∷
    record { thread = 0; line = 10; call = call.Bind (targets.Framebuffer framebuffers.Both) 1; reply = reply.Done } ∷
    record { thread = 0; line = 11; call = call.Attach framebuffers.Both C0 what.Texture 1; reply = reply.Done } ∷
    record { thread = 0; line = 12; call = call.Attach framebuffers.Both C1 what.Renderbuffer 1; reply = reply.Done } ∷
    record { thread = 0; line = 13; call = call.ClearUnsigned (pos 0) 7 0 0 0; reply = reply.Done } ∷
    record { thread = 0; line = 14; call = call.ReadPixels (pos 0) (pos 0) (pos 3) (pos 1) pixels.RedInteger types.UnsignedByte destination.Client; reply = (reply.Bytes (7 ∷ 7 ∷ 0 ∷ [])) } ∷
    record { thread = 0; line = 15; call = call.ClearUnsigned (pos 1) 8 0 0 0; reply = reply.Done } ∷
    record { thread = 0; line = 16; call = call.DrawBuffers ((drawn.Point C0) ∷ (drawn.Point C1) ∷ []); reply = reply.Done } ∷
    record { thread = 0; line = 17; call = call.ClearUnsigned (pos 1) 9 0 0 0; reply = reply.Done } ∷
    record { thread = 0; line = 18; call = call.ReadBuffer (drawn.Point C1); reply = reply.Done } ∷
    record { thread = 0; line = 19; call = call.ReadPixels (negsuc 0) (pos 0) (pos 3) (pos 1) pixels.RedInteger types.UnsignedByte destination.Client; reply = (reply.Bytes (0 ∷ 9 ∷ 9 ∷ [])) } ∷
    record { thread = 0; line = 20; call = call.ClearUnsigned (pos 0) 256 0 0 0; reply = reply.Done } ∷
    record { thread = 0; line = 21; call = call.ReadBuffer (drawn.Point C0); reply = reply.Done } ∷
    record { thread = 0; line = 22; call = call.ReadPixels (pos 0) (pos 0) (pos 1) (pos 1) pixels.RgbaInteger types.UnsignedInt destination.Client; reply = (reply.Bytes (0 ∷ 0 ∷ 0 ∷ 0 ∷ 0 ∷ 0 ∷ 0 ∷ 0 ∷ 0 ∷ 0 ∷ 0 ∷ 0 ∷ 0 ∷ 0 ∷ 0 ∷ 0 ∷ [])) } ∷
    record { thread = 0; line = 23; call = call.DrawBuffers ((drawn.Point C1) ∷ []); reply = (reply.GlFault InvalidOperation) } ∷
    record { thread = 0; line = 24; call = call.CheckFramebufferStatus framebuffers.Both; reply = (reply.Status Complete) } ∷
    record { thread = 0; line = 25; call = call.Attach framebuffers.Both C2 what.Texture 1; reply = reply.Done } ∷
    record { thread = 0; line = 26; call = call.CheckFramebufferStatus framebuffers.Both; reply = (reply.Status Unsupported) } ∷
    record { thread = 0; line = 27; call = call.ClearUnsigned (pos 0) 1 0 0 0; reply = (reply.GlFault InvalidFramebufferOperation) } ∷ []

pub clears_of_two_images-is_legal : IsLegal (0 ∷ []) clears_of_two_images
unfolding tex_sub_image_rows copy_tex_sub_image_rows
clears_of_two_images-is_legal = (refl, (refl, (refl, (refl, (refl, (refl, (refl, (refl, (refl, (refl, ((λ _. refl, (λ _. refl, (λ h. absurd (omega arith), tt))), (refl, (refl, (refl, (refl, ((λ h. absurd (omega arith), (λ _. refl, (λ _. refl, tt))), (refl, (refl, ((λ h. absurd (omega arith), (λ h. absurd (omega arith), (λ h. absurd (omega arith), (λ h. absurd (omega arith), (λ h. absurd (omega arith), (λ h. absurd (omega arith), (λ h. absurd (omega arith), (λ h. absurd (omega arith), (λ h. absurd (omega arith), (λ h. absurd (omega arith), (λ h. absurd (omega arith), (λ h. absurd (omega arith), (λ h. absurd (omega arith), (λ h. absurd (omega arith), (λ h. absurd (omega arith), (λ h. absurd (omega arith), tt)))))))))))))))), (refl, (refl, (refl, (refl, (refl, tt))))))))))))))))))))))))

abbrev pub overlapping_rows_of_a_read : List Entry
overlapping_rows_of_a_read =
    record { thread = 0; line = 4; call = call.CreateContext 1; reply = reply.Done } ∷
    record { thread = 0; line = 5; call = call.MakeCurrent 1; reply = reply.Done } ∷
    record { thread = 0; line = 6; call = call.Bind targets.Texture 1; reply = reply.Done } ∷
    record { thread = 0; line = 7; call = call.TexStorage (pos 1) (words.Known formats.R8ui) (pos 2) (pos 2); reply = reply.Done } ∷
    record { thread = 0; line = 8; call = call.PixelStore parameters.UnpackAlign (pos 1); reply = reply.Done } ∷
    record { thread = 0; line = 9; call = call.TexSubImage (pos 0) (pos 0) (pos 2) (pos 2) pixels.RedInteger types.UnsignedByte (source.Client (Literal (1 ∷ 2 ∷ 3 ∷ 4 ∷ []))); reply = reply.Done } ∷
    record { thread = 0; line = 10; call = call.Bind (targets.Framebuffer framebuffers.Both) 1; reply = reply.Done } ∷
    record { thread = 0; line = 11; call = call.Attach framebuffers.Both C0 what.Texture 1; reply = reply.Done } ∷
    record { thread = 0; line = 12; call = call.PixelStore parameters.PackAlign (pos 1); reply = reply.Done } ∷
    record { thread = 0; line = 13; call = call.PixelStore parameters.PackRow (pos 1); reply = reply.Done } ∷
    record { thread = 0; line = 14; call = call.Bind (targets.Buffer buffers.PixelPack) 1; reply = reply.Done } ∷
    record { thread = 0; line = 15; call = call.BufferData buffers.PixelPack (pos 4) usages.StreamRead (Some (Literal (238 ∷ 238 ∷ 238 ∷ 238 ∷ []))); reply = reply.Done } ∷
    record { thread = 0; line = 16; call = call.ReadPixels (pos 0) (pos 0) (pos 2) (pos 2) pixels.RedInteger types.UnsignedByte (destination.Offset 0); reply = reply.Done } ∷
    record { thread = 0; line = 17; call = call.MapBufferRange buffers.PixelPack (pos 0) (pos 4) (record { read = true; write = false; invalidate_range = false; invalidate_buffer = false; unsynchronized = false; flush_explicit = false; unknown = false }); reply = reply.Done } ∷
    record { thread = 0; line = 18; call = call.MapRead buffers.PixelPack (pos 0) (pos 4); reply = (reply.Bytes (1 ∷ 3 ∷ 4 ∷ 238 ∷ [])) } ∷
    record { thread = 0; line = 19; call = call.ReadPixels (pos 0) (pos 0) (pos 2) (pos 2) pixels.RedInteger types.UnsignedByte (destination.Offset 0); reply = (reply.GlFault InvalidOperation) } ∷ []

pub overlapping_rows_of_a_read-is_legal : IsLegal (0 ∷ []) overlapping_rows_of_a_read
unfolding tex_sub_image_rows copy_tex_sub_image_rows
overlapping_rows_of_a_read-is_legal = (refl, (refl, (refl, (refl, (refl, (refl, (refl, (refl, (refl, (refl, (refl, (refl, (refl, (refl, ((λ _. refl, (λ _. refl, (λ _. refl, (λ _. refl, tt)))), (refl, tt))))))))))))))))

abbrev pub loses_its_storage : List Entry
loses_its_storage =
    record { thread = 0; line = 4; call = call.CreateContext 1; reply = reply.Done } ∷
    record { thread = 0; line = 5; call = call.MakeCurrent 1; reply = reply.Done } ∷
    record { thread = 0; line = 6; call = call.Bind targets.Renderbuffer 1; reply = reply.Done } ∷
    record { thread = 0; line = 7; call = call.RenderbufferStorage (words.Known formats.R8ui) (pos 1) (pos 1); reply = reply.Done } ∷
    record { thread = 0; line = 8; call = call.Bind (targets.Framebuffer framebuffers.Both) 1; reply = reply.Done } ∷
    record { thread = 0; line = 9; call = call.Attach framebuffers.Both C0 what.Renderbuffer 1; reply = reply.Done } ∷
    record { thread = 0; line = 10; call = call.ClearUnsigned (pos 0) 7 0 0 0; reply = reply.Done } ∷
    record { thread = 0; line = 11; call = call.ReadPixels (pos 0) (pos 0) (pos 1) (pos 1) pixels.RedInteger types.UnsignedByte destination.Client; reply = (reply.Bytes (7 ∷ [])) } ∷
    record { thread = 0; line = 12; call = call.RenderbufferStorage (words.Known formats.R8ui) (pos 0) (pos 1); reply = reply.Done } ∷
    record { thread = 0; line = 13; call = call.CheckFramebufferStatus framebuffers.Both; reply = (reply.Status IncompleteAttachment) } ∷
    record { thread = 0; line = 14; call = call.ClearUnsigned (pos 0) 7 0 0 0; reply = (reply.GlFault InvalidFramebufferOperation) } ∷
    record { thread = 0; line = 15; call = call.ReadPixels (pos 0) (pos 0) (pos 1) (pos 1) pixels.RedInteger types.UnsignedByte destination.Client; reply = (reply.GlFault InvalidFramebufferOperation) } ∷ []

pub loses_its_storage-is_legal : IsLegal (0 ∷ []) loses_its_storage
unfolding tex_sub_image_rows copy_tex_sub_image_rows
loses_its_storage-is_legal = (refl, (refl, (refl, (refl, (refl, (refl, (refl, ((λ _. refl, tt), (refl, (refl, (refl, (refl, tt))))))))))))

abbrev pub storage_is_new : List Entry
storage_is_new =
    record { thread = 0; line = 4; call = call.CreateContext 1; reply = reply.Done } ∷
    record { thread = 0; line = 5; call = call.MakeCurrent 1; reply = reply.Done } ∷
    record { thread = 0; line = 6; call = call.Bind targets.Renderbuffer 1; reply = reply.Done } ∷
    record { thread = 0; line = 7; call = call.RenderbufferStorage (words.Known formats.R8ui) (pos 1) (pos 1); reply = reply.Done } ∷
    record { thread = 0; line = 8; call = call.Bind (targets.Framebuffer framebuffers.Both) 1; reply = reply.Done } ∷
    record { thread = 0; line = 9; call = call.Attach framebuffers.Both C0 what.Renderbuffer 1; reply = reply.Done } ∷
    record { thread = 0; line = 10; call = call.ClearUnsigned (pos 0) 7 0 0 0; reply = reply.Done } ∷
    record { thread = 0; line = 11; call = call.RenderbufferStorage (words.Known formats.R8ui) (pos 0) (pos 1); reply = reply.Done } ∷
    record { thread = 0; line = 12; call = call.RenderbufferStorage (words.Known formats.R8ui) (pos 1) (pos 1); reply = reply.Done } ∷
    record { thread = 0; line = 13; call = call.ReadPixels (pos 0) (pos 0) (pos 1) (pos 1) pixels.RedInteger types.UnsignedByte destination.Client; reply = (reply.Bytes (0 ∷ [])) } ∷
    record { thread = 0; line = 14; call = call.ClearUnsigned (pos 0) 8 0 0 0; reply = reply.Done } ∷
    record { thread = 0; line = 15; call = call.ReadPixels (pos 0) (pos 0) (pos 1) (pos 1) pixels.RedInteger types.UnsignedByte destination.Client; reply = (reply.Bytes (8 ∷ [])) } ∷ []

pub storage_is_new-is_legal : IsLegal (0 ∷ []) storage_is_new
unfolding tex_sub_image_rows copy_tex_sub_image_rows
storage_is_new-is_legal = (refl, (refl, (refl, (refl, (refl, (refl, (refl, (refl, (refl, ((λ h. absurd (omega arith), tt), (refl, ((λ _. refl, tt), tt))))))))))))
