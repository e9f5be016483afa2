-- Worked histories, each with a proof that it is legal. Written by tools/worked_histories.py.
use Rattle.std.proofs.Common.{pos, negsuc, true, false, Some, None, List, [], ◌∷◌, refl, arith}
use Rattle.gl_calls.specs.declared.reply.GlError.TheVariants.{NoError, InvalidEnum, InvalidValue, InvalidOperation, OutOfMemory}
use Rattle.gl_calls.specs.declared.reply.Reply.TheVariants as reply
use Rattle.gl_calls.specs.declared.reply.Entry.{Entry}
use Rattle.gl_calls.specs.declared.call.Call.TheVariants as call
use Rattle.gl_calls.specs.declared.words.BufferTarget.TheVariants as buffers
use Rattle.gl_calls.specs.declared.words.BindTarget.TheVariants as targets
use Rattle.gl_calls.specs.declared.words.ObjectKind.TheVariants as kinds
use Rattle.gl_calls.specs.declared.words.Usage.TheVariants as usages
use Rattle.gl_calls.specs.declared.words.StoreParameter.TheVariants as parameters
use Rattle.gl_calls.specs.declared.payload.Payload.TheVariants.{Literal}
use Rattle.gl_model.specs.ImageRows.{tex_sub_image_rows, copy_tex_sub_image_rows}
use Rattle.gl_model.specs.Legal.{IsLegal}

abbrev pub reads_back_one_buffer : List Entry
reads_back_one_buffer =
    record { thread = 0; line = 4; call = call.CreateContext 1; reply = reply.Done } ∷
    record { thread = 0; line = 5; call = call.MakeCurrent 1; reply = reply.Done } ∷
    record { thread = 0; line = 6; call = call.Bind (targets.Buffer buffers.CopyRead) 1; reply = reply.Done } ∷
    record { thread = 0; line = 7; call = call.BufferData buffers.CopyRead (pos 4) usages.StaticDraw (Some (Literal (1 ∷ 2 ∷ 3 ∷ 4 ∷ []))); reply = reply.Done } ∷
    record { thread = 0; line = 8; call = call.MapBufferRange buffers.CopyRead (pos 0) (pos 4) (record { read = true; write = false; invalidate_range = false; invalidate_buffer = false; unsynchronized = false; flush_explicit = false; unknown = false }); reply = reply.Done } ∷
    record { thread = 0; line = 9; call = call.MapRead buffers.CopyRead (pos 0) (pos 4); reply = (reply.Bytes (1 ∷ 2 ∷ 3 ∷ 4 ∷ [])) } ∷
    record { thread = 0; line = 10; call = call.UnmapBuffer buffers.CopyRead; reply = reply.True } ∷ []

pub reads_back_one_buffer-is_legal : IsLegal (0 ∷ []) reads_back_one_buffer
unfolding tex_sub_image_rows copy_tex_sub_image_rows
reads_back_one_buffer-is_legal = (refl, (refl, (refl, (refl, (refl, ((λ _. refl, (λ _. refl, (λ _. refl, (λ _. refl, tt)))), (refl, tt)))))))

abbrev pub writes_a_part_of_a_buffer : List Entry
writes_a_part_of_a_buffer =
    record { thread = 0; line = 4; call = call.CreateContext 1; reply = reply.Done } ∷
    record { thread = 0; line = 5; call = call.MakeCurrent 1; reply = reply.Done } ∷
    record { thread = 0; line = 6; call = call.Bind (targets.Buffer buffers.Array) 1; reply = reply.Done } ∷
    record { thread = 0; line = 7; call = call.BufferData buffers.Array (pos 4) usages.StaticDraw (Some (Literal (0 ∷ 0 ∷ 0 ∷ 0 ∷ []))); reply = reply.Done } ∷
    record { thread = 0; line = 8; call = call.BufferSubData buffers.Array (pos 2) (Literal (170 ∷ 187 ∷ [])); reply = reply.Done } ∷
    record { thread = 0; line = 9; call = call.BufferSubData buffers.Array (pos 3) (Literal (204 ∷ 221 ∷ [])); reply = (reply.GlFault InvalidValue) } ∷
    record { thread = 0; line = 10; call = call.MapBufferRange buffers.Array (pos 0) (pos 4) (record { read = true; write = false; invalidate_range = false; invalidate_buffer = false; unsynchronized = false; flush_explicit = false; unknown = false }); reply = reply.Done } ∷
    record { thread = 0; line = 11; call = call.MapRead buffers.Array (pos 0) (pos 4); reply = (reply.Bytes (0 ∷ 0 ∷ 170 ∷ 187 ∷ [])) } ∷ []

pub writes_a_part_of_a_buffer-is_legal : IsLegal (0 ∷ []) writes_a_part_of_a_buffer
unfolding tex_sub_image_rows copy_tex_sub_image_rows
writes_a_part_of_a_buffer-is_legal = (refl, (refl, (refl, (refl, (refl, (refl, (refl, ((λ _. refl, (λ _. refl, (λ _. refl, (λ _. refl, tt)))), tt))))))))

abbrev pub keeps_the_first_error : List Entry
keeps_the_first_error =
    record { thread = 0; line = 4; call = call.CreateContext 1; reply = reply.Done } ∷
    record { thread = 0; line = 5; call = call.MakeCurrent 1; reply = reply.Done } ∷
    record { thread = 0; line = 6; call = call.Bind (targets.Buffer buffers.Other) 1; reply = (reply.GlFault InvalidEnum) } ∷
    record { thread = 0; line = 7; call = call.PixelStore parameters.PackAlign (pos 3); reply = (reply.GlFault InvalidValue) } ∷
    record { thread = 0; line = 8; call = call.GetError; reply = (reply.GlFlag InvalidEnum) } ∷
    record { thread = 0; line = 9; call = call.GetError; reply = (reply.GlFlag NoError) } ∷ []

pub keeps_the_first_error-is_legal : IsLegal (0 ∷ []) keeps_the_first_error
unfolding tex_sub_image_rows copy_tex_sub_image_rows
keeps_the_first_error-is_legal = (refl, (refl, (refl, (refl, (refl, (refl, tt))))))

abbrev pub copies_between_buffers : List Entry
copies_between_buffers =
    record { thread = 0; line = 4; call = call.CreateContext 1; reply = reply.Done } ∷
    record { thread = 0; line = 5; call = call.MakeCurrent 1; reply = reply.Done } ∷
    record { thread = 0; line = 6; call = call.Bind (targets.Buffer buffers.CopyRead) 1; reply = reply.Done } ∷
    record { thread = 0; line = 7; call = call.BufferData buffers.CopyRead (pos 4) usages.StreamDraw (Some (Literal (10 ∷ 11 ∷ 12 ∷ 13 ∷ []))); reply = reply.Done } ∷
    record { thread = 0; line = 8; call = call.Bind (targets.Buffer buffers.CopyWrite) 2; reply = reply.Done } ∷
    record { thread = 0; line = 9; call = call.BufferData buffers.CopyWrite (pos 4) usages.StreamDraw None; reply = reply.Done } ∷
    record { thread = 0; line = 10; call = call.CopyBufferSubData buffers.CopyRead buffers.CopyWrite (pos 0) (pos 0) (pos 4); reply = reply.Done } ∷
    record { thread = 0; line = 11; call = call.MapBufferRange buffers.CopyRead (pos 0) (pos 4) (record { read = true; write = false; invalidate_range = false; invalidate_buffer = false; unsynchronized = false; flush_explicit = false; unknown = false }); reply = reply.Done } ∷
    record { thread = 0; line = 12; call = call.MapRead buffers.CopyRead (pos 0) (pos 4); reply = (reply.Bytes (10 ∷ 11 ∷ 12 ∷ 13 ∷ [])) } ∷
    record { thread = 0; line = 13; call = call.MapBufferRange buffers.CopyWrite (pos 0) (pos 4) (record { read = true; write = false; invalidate_range = false; invalidate_buffer = false; unsynchronized = false; flush_explicit = false; unknown = false }); reply = reply.Done } ∷
    record { thread = 0; line = 14; call = call.MapRead buffers.CopyWrite (pos 0) (pos 4); reply = (reply.Bytes (10 ∷ 11 ∷ 12 ∷ 13 ∷ [])) } ∷ []

pub copies_between_buffers-is_legal : IsLegal (0 ∷ []) copies_between_buffers
unfolding tex_sub_image_rows copy_tex_sub_image_rows
copies_between_buffers-is_legal = (refl, (refl, (refl, (refl, (refl, (refl, (refl, (refl, ((λ _. refl, (λ _. refl, (λ _. refl, (λ _. refl, tt)))), (refl, ((λ _. refl, (λ _. refl, (λ _. refl, (λ _. refl, tt)))), tt)))))))))))

abbrev pub copies_within_one_buffer : List Entry
copies_within_one_buffer =
    record { thread = 0; line = 4; call = call.CreateContext 1; reply = reply.Done } ∷
    record { thread = 0; line = 5; call = call.MakeCurrent 1; reply = reply.Done } ∷
    record { thread = 0; line = 6; call = call.Bind (targets.Buffer buffers.CopyRead) 1; reply = reply.Done } ∷
    record { thread = 0; line = 7; call = call.Bind (targets.Buffer buffers.CopyWrite) 1; reply = reply.Done } ∷
    record { thread = 0; line = 8; call = call.BufferData buffers.CopyRead (pos 8) usages.StaticDraw (Some (Literal (0 ∷ 1 ∷ 2 ∷ 3 ∷ 4 ∷ 5 ∷ 6 ∷ 7 ∷ []))); reply = reply.Done } ∷
    record { thread = 0; line = 9; call = call.CopyBufferSubData buffers.CopyRead buffers.CopyWrite (pos 0) (pos 4) (pos 4); reply = reply.Done } ∷
    record { thread = 0; line = 10; call = call.CopyBufferSubData buffers.CopyRead buffers.CopyWrite (pos 0) (pos 3) (pos 4); reply = (reply.GlFault InvalidValue) } ∷
    record { thread = 0; line = 11; call = call.MapBufferRange buffers.CopyRead (pos 0) (pos 8) (record { read = true; write = false; invalidate_range = false; invalidate_buffer = false; unsynchronized = false; flush_explicit = false; unknown = false }); reply = reply.Done } ∷
    record { thread = 0; line = 12; call = call.MapRead buffers.CopyRead (pos 0) (pos 8); reply = (reply.Bytes (0 ∷ 1 ∷ 2 ∷ 3 ∷ 0 ∷ 1 ∷ 2 ∷ 3 ∷ [])) } ∷ []

pub copies_within_one_buffer-is_legal : IsLegal (0 ∷ []) copies_within_one_buffer
unfolding tex_sub_image_rows copy_tex_sub_image_rows
copies_within_one_buffer-is_legal = (refl, (refl, (refl, (refl, (refl, (refl, (refl, (refl, ((λ _. refl, (λ _. refl, (λ _. refl, (λ _. refl, (λ _. refl, (λ _. refl, (λ _. refl, (λ _. refl, tt)))))))), tt)))))))))

abbrev pub copies_a_part_of_a_buffer : List Entry
copies_a_part_of_a_buffer =
    record { thread = 0; line = 4; call = call.CreateContext 1; reply = reply.Done } ∷
    record { thread = 0; line = 5; call = call.MakeCurrent 1; reply = reply.Done } ∷
    record { thread = 0; line = 6; call = call.Bind (targets.Buffer buffers.CopyRead) 1; reply = reply.Done } ∷
    record { thread = 0; line = 7; call = call.BufferData buffers.CopyRead (pos 4) usages.StaticDraw (Some (Literal (1 ∷ 2 ∷ 3 ∷ 4 ∷ []))); reply = reply.Done } ∷
    record { thread = 0; line = 8; call = call.Bind (targets.Buffer buffers.CopyWrite) 2; reply = reply.Done } ∷
    record { thread = 0; line = 9; call = call.BufferData buffers.CopyWrite (pos 4) usages.StaticDraw (Some (Literal (0 ∷ 0 ∷ 0 ∷ 0 ∷ []))); reply = reply.Done } ∷
    record { thread = 0; line = 10; call = call.CopyBufferSubData buffers.CopyRead buffers.CopyWrite (pos 1) (pos 0) (pos 2); reply = reply.Done } ∷
    record { thread = 0; line = 11; call = call.MapBufferRange buffers.CopyWrite (pos 0) (pos 4) (record { read = true; write = false; invalidate_range = false; invalidate_buffer = false; unsynchronized = false; flush_explicit = false; unknown = false }); reply = reply.Done } ∷
    record { thread = 0; line = 12; call = call.MapRead buffers.CopyWrite (pos 0) (pos 4); reply = (reply.Bytes (2 ∷ 3 ∷ 0 ∷ 0 ∷ [])) } ∷
    record { thread = 0; line = 7; call = call.BufferData buffers.CopyRead (pos 4) usages.StaticDraw None; reply = reply.Done } ∷ []

pub copies_a_part_of_a_buffer-is_legal : IsLegal (0 ∷ []) copies_a_part_of_a_buffer
unfolding tex_sub_image_rows copy_tex_sub_image_rows
copies_a_part_of_a_buffer-is_legal = (refl, (refl, (refl, (refl, (refl, (refl, (refl, (refl, ((λ _. refl, (λ _. refl, (λ _. refl, (λ _. refl, tt)))), (refl, tt))))))))))

abbrev pub gives_the_lowest_names : List Entry
gives_the_lowest_names =
    record { thread = 0; line = 4; call = call.CreateContext 1; reply = reply.Done } ∷
    record { thread = 0; line = 5; call = call.MakeCurrent 1; reply = reply.Done } ∷
    record { thread = 0; line = 6; call = call.Bind (targets.Buffer buffers.Array) 1; reply = reply.Done } ∷
    record { thread = 0; line = 7; call = call.BufferData buffers.Array (pos 67108865) usages.StaticDraw None; reply = (reply.GlFault OutOfMemory) } ∷
    record { thread = 0; line = 8; call = call.Gen kinds.Buffer (pos 2); reply = (reply.Names (2 ∷ 3 ∷ [])) } ∷
    record { thread = 0; line = 9; call = call.Delete kinds.Buffer 2; reply = reply.Done } ∷
    record { thread = 0; line = 10; call = call.Gen kinds.Buffer (pos 1); reply = (reply.Names (2 ∷ [])) } ∷
    record { thread = 0; line = 11; call = call.Gen kinds.Buffer (negsuc 0); reply = (reply.GlFault InvalidValue) } ∷
    record { thread = 0; line = 12; call = call.GetError; reply = (reply.GlFlag OutOfMemory) } ∷ []

pub gives_the_lowest_names-is_legal : IsLegal (0 ∷ []) gives_the_lowest_names
unfolding tex_sub_image_rows copy_tex_sub_image_rows
gives_the_lowest_names-is_legal = (refl, (refl, (refl, (refl, (refl, (refl, (refl, (refl, (refl, tt)))))))))

abbrev pub flushes_a_part_of_a_map : List Entry
flushes_a_part_of_a_map =
    record { thread = 0; line = 4; call = call.CreateContext 1; reply = reply.Done } ∷
    record { thread = 0; line = 5; call = call.MakeCurrent 1; reply = reply.Done } ∷
    record { thread = 0; line = 6; call = call.Bind (targets.Buffer buffers.Array) 1; reply = reply.Done } ∷
    record { thread = 0; line = 7; call = call.BufferData buffers.Array (pos 4) usages.DynamicDraw (Some (Literal (1 ∷ 2 ∷ 3 ∷ 4 ∷ []))); reply = reply.Done } ∷
    record { thread = 0; line = 8; call = call.MapBufferRange buffers.Array (pos 0) (pos 4) (record { read = false; write = true; invalidate_range = false; invalidate_buffer = false; unsynchronized = false; flush_explicit = true; unknown = false }); reply = reply.Done } ∷
    record { thread = 0; line = 9; call = call.MapWrite buffers.Array (pos 0) (Literal (170 ∷ 187 ∷ [])); reply = reply.Done } ∷
    record { thread = 0; line = 10; call = call.FlushMappedBufferRange buffers.Array (pos 0) (pos 1); reply = reply.Done } ∷
    record { thread = 0; line = 11; call = call.UnmapBuffer buffers.Array; reply = reply.True } ∷
    record { thread = 0; line = 12; call = call.MapBufferRange buffers.Array (pos 0) (pos 4) (record { read = true; write = false; invalidate_range = false; invalidate_buffer = false; unsynchronized = false; flush_explicit = false; unknown = false }); reply = reply.Done } ∷
    record { thread = 0; line = 13; call = call.MapRead buffers.Array (pos 0) (pos 1); reply = (reply.Bytes (170 ∷ [])) } ∷
    record { thread = 0; line = 14; call = call.MapRead buffers.Array (pos 2) (pos 2); reply = (reply.Bytes (3 ∷ 4 ∷ [])) } ∷
    record { thread = 0; line = 15; call = call.UnmapBuffer buffers.Array; reply = reply.True } ∷
    record { thread = 0; line = 16; call = call.MapBufferRange buffers.Array (pos 0) (pos 0) (record { read = true; write = false; invalidate_range = false; invalidate_buffer = false; unsynchronized = false; flush_explicit = false; unknown = false }); reply = (reply.GlFault InvalidOperation) } ∷
    record { thread = 0; line = 17; call = call.MapRead buffers.Array (pos 0) (pos 1); reply = reply.NoMap } ∷ []

pub flushes_a_part_of_a_map-is_legal : IsLegal (0 ∷ []) flushes_a_part_of_a_map
unfolding tex_sub_image_rows copy_tex_sub_image_rows
flushes_a_part_of_a_map-is_legal = (refl, (refl, (refl, (refl, (refl, (refl, (refl, (refl, (refl, ((λ _. refl, tt), ((λ _. refl, (λ _. refl, tt)), (refl, (refl, (refl, tt))))))))))))))

abbrev pub writes_an_invalidated_range : List Entry
writes_an_invalidated_range =
    record { thread = 0; line = 4; call = call.CreateContext 1; reply = reply.Done } ∷
    record { thread = 0; line = 5; call = call.MakeCurrent 1; reply = reply.Done } ∷
    record { thread = 0; line = 6; call = call.Bind (targets.Buffer buffers.Array) 1; reply = reply.Done } ∷
    record { thread = 0; line = 7; call = call.BufferData buffers.Array (pos 4) usages.DynamicDraw (Some (Literal (1 ∷ 2 ∷ 3 ∷ 4 ∷ []))); reply = reply.Done } ∷
    record { thread = 0; line = 8; call = call.MapBufferRange buffers.Array (pos 1) (pos 2) (record { read = false; write = true; invalidate_range = true; invalidate_buffer = false; unsynchronized = false; flush_explicit = false; unknown = false }); reply = reply.Done } ∷
    record { thread = 0; line = 9; call = call.MapWrite buffers.Array (pos 0) (Literal (170 ∷ 187 ∷ [])); reply = reply.Done } ∷
    record { thread = 0; line = 10; call = call.MapRead buffers.Array (pos 0) (pos 1); reply = reply.NoMap } ∷
    record { thread = 0; line = 11; call = call.UnmapBuffer buffers.Array; reply = reply.True } ∷
    record { thread = 0; line = 12; call = call.MapBufferRange buffers.Array (pos 0) (pos 4) (record { read = true; write = false; invalidate_range = false; invalidate_buffer = false; unsynchronized = true; flush_explicit = false; unknown = false }); reply = (reply.GlFault InvalidOperation) } ∷
    record { thread = 0; line = 13; call = call.MapBufferRange buffers.Array (pos 0) (pos 4) (record { read = true; write = false; invalidate_range = false; invalidate_buffer = false; unsynchronized = false; flush_explicit = false; unknown = false }); reply = reply.Done } ∷
    record { thread = 0; line = 14; call = call.MapRead buffers.Array (pos 0) (pos 4); reply = (reply.Bytes (1 ∷ 170 ∷ 187 ∷ 4 ∷ [])) } ∷ []

pub writes_an_invalidated_range-is_legal : IsLegal (0 ∷ []) writes_an_invalidated_range
unfolding tex_sub_image_rows copy_tex_sub_image_rows
writes_an_invalidated_range-is_legal = (refl, (refl, (refl, (refl, (refl, (refl, (refl, (refl, (refl, (refl, ((λ _. refl, (λ _. refl, (λ _. refl, (λ _. refl, tt)))), tt)))))))))))

abbrev pub invalidated_range : List Entry
invalidated_range =
    record { thread = 0; line = 4; call = call.CreateContext 1; reply = reply.Done } ∷
    record { thread = 0; line = 5; call = call.MakeCurrent 1; reply = reply.Done } ∷
    record { thread = 0; line = 6; call = call.Bind (targets.Buffer buffers.Array) 1; reply = reply.Done } ∷
    record { thread = 0; line = 7; call = call.BufferData buffers.Array (pos 4) usages.StaticDraw (Some (Literal (1 ∷ 2 ∷ 3 ∷ 4 ∷ []))); reply = reply.Done } ∷
    record { thread = 0; line = 8; call = call.MapBufferRange buffers.Array (pos 1) (pos 2) (record { read = false; write = true; invalidate_range = true; invalidate_buffer = false; unsynchronized = false; flush_explicit = false; unknown = false }); reply = reply.Done } ∷
    record { thread = 0; line = 9; call = call.UnmapBuffer buffers.Array; reply = reply.True } ∷
    record { thread = 0; line = 10; call = call.MapBufferRange buffers.Array (pos 0) (pos 4) (record { read = true; write = false; invalidate_range = false; invalidate_buffer = false; unsynchronized = false; flush_explicit = false; unknown = false }); reply = reply.Done } ∷
    record { thread = 0; line = 11; call = call.MapRead buffers.Array (pos 0) (pos 4); reply = (reply.Bytes (1 ∷ 0 ∷ 0 ∷ 4 ∷ [])) } ∷ []

pub invalidated_range-is_legal : IsLegal (0 ∷ []) invalidated_range
unfolding tex_sub_image_rows copy_tex_sub_image_rows
invalidated_range-is_legal = (refl, (refl, (refl, (refl, (refl, (refl, (refl, ((λ _. refl, (λ h. absurd (omega arith), (λ h. absurd (omega arith), (λ _. refl, tt)))), tt))))))))

abbrev pub bytes_written_and_not_flushed : List Entry
bytes_written_and_not_flushed =
    record { thread = 0; line = 4; call = call.CreateContext 1; reply = reply.Done } ∷
    record { thread = 0; line = 5; call = call.MakeCurrent 1; reply = reply.Done } ∷
    record { thread = 0; line = 6; call = call.Bind (targets.Buffer buffers.Array) 1; reply = reply.Done } ∷
    record { thread = 0; line = 7; call = call.BufferData buffers.Array (pos 4) usages.DynamicDraw (Some (Literal (1 ∷ 2 ∷ 3 ∷ 4 ∷ []))); reply = reply.Done } ∷
    record { thread = 0; line = 8; call = call.MapBufferRange buffers.Array (pos 0) (pos 4) (record { read = false; write = true; invalidate_range = false; invalidate_buffer = false; unsynchronized = false; flush_explicit = true; unknown = false }); reply = reply.Done } ∷
    record { thread = 0; line = 9; call = call.MapWrite buffers.Array (pos 0) (Literal (170 ∷ 187 ∷ [])); reply = reply.Done } ∷
    record { thread = 0; line = 10; call = call.FlushMappedBufferRange buffers.Array (pos 0) (pos 1); reply = reply.Done } ∷
    record { thread = 0; line = 11; call = call.MapWrite buffers.Array (pos 0) (Literal (204 ∷ [])); reply = reply.Done } ∷
    record { thread = 0; line = 12; call = call.UnmapBuffer buffers.Array; reply = reply.True } ∷
    record { thread = 0; line = 13; call = call.MapBufferRange buffers.Array (pos 0) (pos 4) (record { read = true; write = false; invalidate_range = false; invalidate_buffer = false; unsynchronized = false; flush_explicit = false; unknown = false }); reply = reply.Done } ∷
    record { thread = 0; line = 14; call = call.MapRead buffers.Array (pos 0) (pos 4); reply = (reply.Bytes (0 ∷ 0 ∷ 3 ∷ 4 ∷ [])) } ∷ []

pub bytes_written_and_not_flushed-is_legal : IsLegal (0 ∷ []) bytes_written_and_not_flushed
unfolding tex_sub_image_rows copy_tex_sub_image_rows
bytes_written_and_not_flushed-is_legal = (refl, (refl, (refl, (refl, (refl, (refl, (refl, (refl, (refl, (refl, ((λ h. absurd (omega arith), (λ h. absurd (omega arith), (λ _. refl, (λ _. refl, tt)))), tt)))))))))))
