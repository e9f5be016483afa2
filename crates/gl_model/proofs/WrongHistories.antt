-- Histories with a wrong reply, each with a proof that it is not legal.
use Rattle.std.proofs.Common.{◌≡◌, ◌⊎◌, inl, inr, pos, negsuc, true, false, Some, None, List, [], ◌∷◌, ◌++◌, arith, lit<}
use Rattle.formats.specs.declared.errors.FbStatus.TheVariants.{Complete, IncompleteAttachment}
use Rattle.formats.specs.declared.format.Format.TheVariants as formats
use Rattle.formats.specs.declared.pixel.PixelFormat.TheVariants as pixels
use Rattle.formats.specs.declared.pixel.PixelType.TheVariants as types
use Rattle.gl_calls.specs.declared.reply.GlError.TheVariants.{InvalidEnum, InvalidValue, InvalidOperation, InvalidFramebufferOperation}
use Rattle.gl_calls.specs.declared.reply.Waited.TheVariants.{AlreadySignaled, TimeoutExpired, ConditionSatisfied}
use Rattle.gl_calls.specs.declared.reply.Reply.TheVariants as reply
use Rattle.gl_calls.specs.declared.reply.Entry.{Entry}
use Rattle.gl_calls.specs.declared.call.Call.TheVariants as call
use Rattle.gl_calls.specs.declared.call.PixelDestination.TheVariants as destination
use Rattle.gl_calls.specs.declared.words.AttachPoint.TheVariants.{C0}
use Rattle.gl_calls.specs.declared.words.AttachWhat.TheVariants as what
use Rattle.gl_calls.specs.declared.words.BufferTarget.TheVariants as buffers
use Rattle.gl_calls.specs.declared.words.BindTarget.TheVariants as targets
use Rattle.gl_calls.specs.declared.words.FenceCondition.TheVariants as conditions
use Rattle.gl_calls.specs.declared.words.FormatWord.TheVariants as words
use Rattle.gl_calls.specs.declared.words.FramebufferTarget.TheVariants as framebuffers
use Rattle.gl_calls.specs.declared.words.Usage.TheVariants as usages
use Rattle.gl_calls.specs.declared.payload.Payload.TheVariants.{Literal}
use Rattle.gl_model.specs.ImageRows.{tex_sub_image_rows, copy_tex_sub_image_rows}
use Rattle.gl_model.specs.Legal.{IsLegal}

-- a byte that is not the one that was written
abbrev pub wrong_byte : List Entry
wrong_byte =
    record { thread = 0; line = 4; call = call.CreateContext 1; reply = reply.Done }
    ∷ record { thread = 0; line = 5; call = call.MakeCurrent 1; reply = reply.Done }
    ∷ record { thread = 0; line = 6; call = call.Bind (targets.Buffer buffers.Array) 1; reply = reply.Done }
    ∷ record { thread = 0; line = 7; call = call.BufferData buffers.Array (pos 2) usages.StaticDraw (Some (Literal (1 ∷ 2 ∷ []))); reply = reply.Done }
    ∷ record { thread = 0; line = 8; call = call.MapBufferRange buffers.Array (pos 0) (pos 2) (record { read = true; write = false; invalidate_range = false; invalidate_buffer = false; unsynchronized = false; flush_explicit = false; unknown = false }); reply = reply.Done }
    ∷ record { thread = 0; line = 9; call = call.MapRead buffers.Array (pos 0) (pos 2); reply = reply.Bytes (1 ∷ 3 ∷ []) }
    ∷ []

pub wrong_byte_is_refused : IsLegal (0 ∷ []) wrong_byte → ⊥
wrong_byte_is_refused legal = let same : 3 ≡ 2 = legal.1.1.1.1.1.0.1.0 (lit< tt) in omega arith

-- an accepted reply to a call that is refused
abbrev pub wrong_reply : List Entry
wrong_reply = record { thread = 0; line = 4; call = call.Flush; reply = reply.Done } ∷ []

pub wrong_reply_is_refused : IsLegal (0 ∷ []) wrong_reply → ⊥
wrong_reply_is_refused legal = let same : reply.Done ≡ reply.NoContext = legal.0 in cc

-- a context that made a sync
abbrev pub makes_a_sync : List Entry
makes_a_sync =
    record { thread = 0; line = 4; call = call.CreateContext 1; reply = reply.Done }
    ∷ record { thread = 0; line = 5; call = call.MakeCurrent 1; reply = reply.Done }
    ∷ record { thread = 0; line = 6; call = call.FenceSync 1 conditions.GpuCommandsComplete 0; reply = reply.Done }
    ∷ []

-- a poll that says of a sync that it is not signalled, when a wait said that it is
abbrev pub forgotten_answer : List Entry
forgotten_answer =
    makes_a_sync
    ++ record { thread = 0; line = 7; call = call.ClientWaitSync 1 0 100; reply = reply.Waited ConditionSatisfied }
    ∷ record { thread = 0; line = 8; call = call.ClientWaitSync 1 0 0; reply = reply.Waited TimeoutExpired }
    ∷ []

pub forgotten_answer_is_refused : IsLegal (0 ∷ []) forgotten_answer → ⊥
forgotten_answer_is_refused legal = let same : reply.Waited TimeoutExpired ≡ reply.Waited AlreadySignaled = legal.1.1.1.1.0 in cc

-- a poll that says of a sync that it is not signalled, after its context finished
abbrev pub forgotten_finish : List Entry
forgotten_finish =
    makes_a_sync
    ++ record { thread = 0; line = 7; call = call.Finish; reply = reply.Done }
    ∷ record { thread = 0; line = 8; call = call.ClientWaitSync 1 0 0; reply = reply.Waited TimeoutExpired }
    ∷ []

pub forgotten_finish_is_refused : IsLegal (0 ∷ []) forgotten_finish → ⊥
forgotten_finish_is_refused legal = let same : reply.Waited TimeoutExpired ≡ reply.Waited AlreadySignaled = legal.1.1.1.1.0 in cc

-- the same of a sync of EGL
abbrev pub forgotten_egl_finish : List Entry
forgotten_egl_finish =
    record { thread = 0; line = 4; call = call.CreateContext 1; reply = reply.Done }
    ∷ record { thread = 0; line = 5; call = call.MakeCurrent 1; reply = reply.Done }
    ∷ record { thread = 0; line = 6; call = call.CreateSync 1; reply = reply.Done }
    ∷ record { thread = 0; line = 7; call = call.Finish; reply = reply.Done }
    ∷ record { thread = 0; line = 8; call = call.EglClientWaitSync 1 false 0; reply = reply.Waited TimeoutExpired }
    ∷ []

pub forgotten_egl_finish_is_refused : IsLegal (0 ∷ []) forgotten_egl_finish → ⊥
forgotten_egl_finish_is_refused legal = let same : reply.Waited TimeoutExpired ≡ reply.Waited ConditionSatisfied = legal.1.1.1.1.0 in cc

-- a wait that gave up, though it may wait
abbrev pub gave_up : List Entry
gave_up = makes_a_sync ++ record { thread = 0; line = 7; call = call.ClientWaitSync 1 0 100; reply = reply.Waited TimeoutExpired } ∷ []

pub gave_up_is_refused : IsLegal (0 ∷ []) gave_up → ⊥
gave_up_is_refused legal = either legal.1.1.1.0
  where
    either : (reply.Waited TimeoutExpired ≡ reply.Waited AlreadySignaled) ⊎ (reply.Waited TimeoutExpired ≡ reply.Waited ConditionSatisfied) → ⊥
    either (inl same) = cc
    either (inr same) = cc

-- a wait that failed for a sync that exists
abbrev pub failed_wait : List Entry
failed_wait = makes_a_sync ++ record { thread = 0; line = 7; call = call.ClientWaitSync 1 0 0; reply = reply.WaitFailed } ∷ []

pub failed_wait_is_refused : IsLegal (0 ∷ []) failed_wait → ⊥
failed_wait_is_refused legal = either legal.1.1.1.0
  where
    either : (reply.WaitFailed ≡ reply.Waited AlreadySignaled) ⊎ (reply.WaitFailed ≡ reply.Waited TimeoutExpired) → ⊥
    either (inl same) = cc
    either (inr same) = cc

-- an answer for a sync that does not exist
abbrev pub unknown_sync : List Entry
unknown_sync = makes_a_sync ++ record { thread = 0; line = 7; call = call.ClientWaitSync 2 0 0; reply = reply.Waited TimeoutExpired } ∷ []

pub unknown_sync_is_refused : IsLegal (0 ∷ []) unknown_sync → ⊥
unknown_sync_is_refused legal = let same : reply.Waited TimeoutExpired ≡ reply.WaitFailed = legal.1.1.1.0 in cc

-- the second error of two that hold
abbrev pub later_row : List Entry
later_row =
    record { thread = 0; line = 4; call = call.CreateContext 1; reply = reply.Done }
    ∷ record { thread = 0; line = 5; call = call.MakeCurrent 1; reply = reply.Done }
    ∷ record { thread = 0; line = 6; call = call.BufferData buffers.Other (negsuc 0) usages.StaticDraw None; reply = reply.GlFault InvalidValue }
    ∷ []

pub later_row_is_refused : IsLegal (0 ∷ []) later_row → ⊥
later_row_is_refused legal = let same : reply.GlFault InvalidValue ≡ reply.GlFault InvalidEnum = legal.1.1.0 in cc

abbrev pub later_row_of_storage : List Entry
later_row_of_storage =
    record { thread = 0; line = 4; call = call.CreateContext 1; reply = reply.Done }
    ∷ record { thread = 0; line = 5; call = call.MakeCurrent 1; reply = reply.Done }
    ∷ record { thread = 0; line = 6; call = call.RenderbufferStorage (words.Known formats.R8ui) (pos 4096) (pos 1); reply = reply.GlFault InvalidOperation }
    ∷ []

pub later_row_of_storage_is_refused : IsLegal (0 ∷ []) later_row_of_storage → ⊥
later_row_of_storage_is_refused legal = let same : reply.GlFault InvalidOperation ≡ reply.GlFault InvalidValue = legal.1.1.0 in cc

-- a renderbuffer of one texel, cleared to 7
abbrev pub clears_a_texel : List Entry
clears_a_texel =
    record { thread = 0; line = 4; call = call.CreateContext 1; reply = reply.Done }
    ∷ record { thread = 0; line = 5; call = call.MakeCurrent 1; reply = reply.Done }
    ∷ record { thread = 0; line = 6; call = call.Bind targets.Renderbuffer 1; reply = reply.Done }
    ∷ record { thread = 0; line = 7; call = call.RenderbufferStorage (words.Known formats.R8ui) (pos 1) (pos 1); reply = reply.Done }
    ∷ record { thread = 0; line = 8; call = call.Bind (targets.Framebuffer framebuffers.Both) 1; reply = reply.Done }
    ∷ record { thread = 0; line = 9; call = call.Attach framebuffers.Both C0 what.Renderbuffer 1; reply = reply.Done }
    ∷ record { thread = 0; line = 10; call = call.ClearUnsigned (pos 0) 7 0 0 0; reply = reply.Done }
    ∷ []

-- a texel that is not the one of the clear
abbrev pub wrong_texel : List Entry
wrong_texel =
    clears_a_texel
    ++ record { thread = 0; line = 11; call = call.ReadPixels (pos 0) (pos 0) (pos 1) (pos 1) pixels.RedInteger types.UnsignedByte destination.Client; reply = reply.Bytes (8 ∷ []) }
    ∷ []

pub wrong_texel_is_refused : IsLegal (0 ∷ []) wrong_texel → ⊥
unfolding tex_sub_image_rows copy_tex_sub_image_rows
wrong_texel_is_refused legal = let same : 8 ≡ 7 = legal.1.1.1.1.1.1.1.0.0 (lit< tt) in omega arith

-- a texel of an image that lost its storage
abbrev pub texel_of_lost_storage : List Entry
texel_of_lost_storage =
    clears_a_texel
    ++ record { thread = 0; line = 11; call = call.RenderbufferStorage (words.Known formats.R8ui) (pos 0) (pos 1); reply = reply.Done }
    ∷ record { thread = 0; line = 12; call = call.ReadPixels (pos 0) (pos 0) (pos 1) (pos 1) pixels.RedInteger types.UnsignedByte destination.Client; reply = reply.Bytes (7 ∷ []) }
    ∷ []

pub texel_of_lost_storage_is_refused : IsLegal (0 ∷ []) texel_of_lost_storage → ⊥
unfolding tex_sub_image_rows copy_tex_sub_image_rows
texel_of_lost_storage_is_refused legal = let same : reply.Bytes (7 ∷ []) ≡ reply.GlFault InvalidFramebufferOperation = legal.1.1.1.1.1.1.1.1.0 in cc

-- a framebuffer that is complete, though its image lost its storage
abbrev pub complete_without_storage : List Entry
complete_without_storage =
    clears_a_texel
    ++ record { thread = 0; line = 11; call = call.RenderbufferStorage (words.Known formats.R8ui) (pos 0) (pos 1); reply = reply.Done }
    ∷ record { thread = 0; line = 12; call = call.CheckFramebufferStatus framebuffers.Both; reply = reply.Status Complete }
    ∷ []

pub complete_without_storage_is_refused : IsLegal (0 ∷ []) complete_without_storage → ⊥
complete_without_storage_is_refused legal = let same : reply.Status Complete ≡ reply.Status IncompleteAttachment = legal.1.1.1.1.1.1.1.1.0 in cc
