-- The table of calls: each call word with its arguments, and the call that they make.
use Rattle.std.specs.Prelude.{ℕ, ◌+◌, List, [], ◌∷◌, ◌++◌, length, Option, Some, None, Result, Ok, is_some, if◌then◌else◌}
use Rattle.gl_calls.specs.declared.words.DrawBuffer.{DrawBuffer}
use Rattle.gl_calls.specs.declared.call.Call.{Call}
use Rattle.gl_calls.specs.declared.call.Call.TheVariants as call
use Rattle.trace_text.specs.declared.call_word.CallWord.{CallWord}
use Rattle.trace_text.specs.declared.call_word.CallWord.TheVariants as word
use Rattle.trace_words.specs.declared.fault.Fault.{Fault}
use Rattle.trace_words.specs.Faults.{◌>>=◌, between}
use Rattle.trace_words.specs.Positions.{Position, Meaning, take_first, absent}
use Rattle.trace_words.specs.Positions as place

abbrev pub Arguments : List Position → Type 0
Arguments [] = Unit {0}
Arguments (p ∷ ps) = Meaning p × Arguments ps

abbrev pub arguments : (ps : List Position) → List (List ℕ) → Result (Arguments ps) Fault
arguments [] words = Ok tt
arguments (p ∷ ps) words = do
  first ← take_first p words
  others ← arguments ps first.1
  Ok (first.0, others)

-- the buffer, if one is given
abbrev pub if_given : Option DrawBuffer → List DrawBuffer
if_given None = []
if_given (Some buffer) = buffer ∷ []

-- the buffers that are given, in their order
abbrev pub listed : DrawBuffer → Option DrawBuffer → Option DrawBuffer → Option DrawBuffer → List DrawBuffer
listed b0 b1 b2 b3 = b0 ∷ (if_given b1 ++ if_given b2 ++ if_given b3)

-- a line of the table
pub record Form : Type 0 where
  pub positions : List Position
  pub call : Arguments positions → Call

abbrev pub form : CallWord → Form
form word.CreateContext = record { positions = place.handle ∷ []; call = λ (number, _). call.CreateContext number }
form word.DestroyContext = record { positions = place.handle_or_zero ∷ []; call = λ (number, _). call.DestroyContext number }
form word.MakeCurrent = record { positions = place.handle_or_zero ∷ []; call = λ (number, _). call.MakeCurrent number }
form word.EglGetError = record { positions = []; call = λ _. call.EglGetError }
form word.CreateSync = record { positions = place.handle ∷ []; call = λ (number, _). call.CreateSync number }
form word.EglClientWaitSync = record { positions = place.handle_or_zero ∷ place.flag ∷ place.u64 ∷ []; call = λ (number, (flush, (timeout, _))). call.EglClientWaitSync number flush timeout }
form word.DestroySync = record { positions = place.handle_or_zero ∷ []; call = λ (number, _). call.DestroySync number }
form word.GetError = record { positions = []; call = λ _. call.GetError }
form word.GetInteger = record { positions = place.limit ∷ []; call = λ (limit, _). call.GetInteger limit }
form word.Gen = record { positions = place.object_kind ∷ place.i32 ∷ []; call = λ (kind, (count, _)). call.Gen kind count }
form word.Delete = record { positions = place.object_kind ∷ place.u32 ∷ []; call = λ (kind, (name, _)). call.Delete kind name }
form word.Bind = record { positions = place.bind_target ∷ place.u32 ∷ []; call = λ (target, (name, _)). call.Bind target name }
form word.BufferData = record { positions = place.buffer ∷ place.i64 ∷ place.usage ∷ place.payload_or_null ∷ []; call = λ (target, (size, (usage, (payload, _)))). call.BufferData target size usage payload }
form word.BufferSubData = record { positions = place.buffer ∷ place.i64 ∷ place.payload ∷ []; call = λ (target, (offset, (payload, _))). call.BufferSubData target offset payload }
form word.CopyBufferSubData = record { positions = place.buffer ∷ place.buffer ∷ place.i64 ∷ place.i64 ∷ place.i64 ∷ []; call = λ (from, (to, (read, (write, (size, _))))). call.CopyBufferSubData from to read write size }
form word.MapBufferRange = record { positions = place.buffer ∷ place.i64 ∷ place.i64 ∷ place.access ∷ []; call = λ (target, (offset, (length, (access, _)))). call.MapBufferRange target offset length access }
form word.FlushMappedBufferRange = record { positions = place.buffer ∷ place.i64 ∷ place.i64 ∷ []; call = λ (target, (offset, (length, _))). call.FlushMappedBufferRange target offset length }
form word.UnmapBuffer = record { positions = place.buffer ∷ []; call = λ (target, _). call.UnmapBuffer target }
form word.MapRead = record { positions = place.buffer ∷ place.i64 ∷ place.i64 ∷ []; call = λ (target, (offset, (length, _))). call.MapRead target offset length }
form word.MapWrite = record { positions = place.buffer ∷ place.i64 ∷ place.payload ∷ []; call = λ (target, (offset, (payload, _))). call.MapWrite target offset payload }
form word.TexStorage = record { positions = place.i32 ∷ place.format ∷ place.i32 ∷ place.i32 ∷ []; call = λ (levels, (format, (width, (height, _)))). call.TexStorage levels format width height }
form word.TexSubImage = record { positions = place.i32 ∷ place.i32 ∷ place.i32 ∷ place.i32 ∷ place.pixel_format ∷ place.pixel_type ∷ place.pixel_source ∷ []; call = λ (x, (y, (width, (height, (format, (kind, (source, _))))))). call.TexSubImage x y width height format kind source }
form word.CopyTexSubImage = record { positions = place.i32 ∷ place.i32 ∷ place.i32 ∷ place.i32 ∷ place.i32 ∷ place.i32 ∷ []; call = λ (x, (y, (from_x, (from_y, (width, (height, _)))))). call.CopyTexSubImage x y from_x from_y width height }
form word.RenderbufferStorage = record { positions = place.format ∷ place.i32 ∷ place.i32 ∷ []; call = λ (format, (width, (height, _))). call.RenderbufferStorage format width height }
form word.Attach = record { positions = place.framebuffer ∷ place.point ∷ place.attached ∷ place.u32 ∷ []; call = λ (target, (point, (what, (name, _)))). call.Attach target point what name }
form word.CheckFramebufferStatus = record { positions = place.framebuffer ∷ []; call = λ (target, _). call.CheckFramebufferStatus target }
form word.DrawBuffers = record { positions = place.draw_buffer ∷ place.draw_buffer_if_any ∷ place.draw_buffer_if_any ∷ place.draw_buffer_if_any ∷ []; call = λ (b0, (b1, (b2, (b3, _)))). call.DrawBuffers (listed b0 b1 b2 b3) }
form word.ReadBuffer = record { positions = place.draw_buffer ∷ []; call = λ (buffer, _). call.ReadBuffer buffer }
form word.ClearUnsigned = record { positions = place.i32 ∷ place.u32 ∷ place.u32 ∷ place.u32 ∷ place.u32 ∷ []; call = λ (buffer, (r, (g, (b, (a, _))))). call.ClearUnsigned buffer r g b a }
form word.ClearSigned = record { positions = place.i32 ∷ place.i32 ∷ place.i32 ∷ place.i32 ∷ place.i32 ∷ []; call = λ (buffer, (r, (g, (b, (a, _))))). call.ClearSigned buffer r g b a }
form word.ScissorTest = record { positions = place.switch ∷ []; call = λ (on, _). call.ScissorTest on }
form word.ScissorBox = record { positions = place.i32 ∷ place.i32 ∷ place.i32 ∷ place.i32 ∷ []; call = λ (x, (y, (width, (height, _)))). call.ScissorBox x y width height }
form word.Blit = record { positions = place.i32 ∷ place.i32 ∷ place.i32 ∷ place.i32 ∷ place.i32 ∷ place.i32 ∷ place.i32 ∷ place.i32 ∷ place.mask ∷ place.filter ∷ []; call = λ (sx0, (sy0, (sx1, (sy1, (dx0, (dy0, (dx1, (dy1, (mask, (filter, _)))))))))). call.Blit sx0 sy0 sx1 sy1 dx0 dy0 dx1 dy1 mask filter }
form word.Invalidate = record { positions = place.framebuffer ∷ place.draw_buffer ∷ []; call = λ (target, (buffer, _)). call.Invalidate target buffer }
form word.ReadPixels = record { positions = place.i32 ∷ place.i32 ∷ place.i32 ∷ place.i32 ∷ place.pixel_format ∷ place.pixel_type ∷ place.pixel_destination ∷ []; call = λ (x, (y, (width, (height, (format, (kind, (destination, _))))))). call.ReadPixels x y width height format kind destination }
form word.PixelStore = record { positions = place.parameter ∷ place.i32 ∷ []; call = λ (parameter, (value, _)). call.PixelStore parameter value }
form word.FenceSync = record { positions = place.handle ∷ place.condition ∷ place.u32 ∷ []; call = λ (number, (condition, (flags, _))). call.FenceSync number condition flags }
form word.ClientWaitSync = record { positions = place.handle_or_zero ∷ place.u32 ∷ place.u64 ∷ []; call = λ (number, (flags, (timeout, _))). call.ClientWaitSync number flags timeout }
form word.WaitSync = record { positions = place.handle_or_zero ∷ place.u32 ∷ place.wait_end ∷ []; call = λ (number, (flags, (end, _))). call.WaitSync number flags end }
form word.DeleteSync = record { positions = place.handle_or_zero ∷ []; call = λ (number, _). call.DeleteSync number }
form word.Flush = record { positions = []; call = λ _. call.Flush }
form word.Finish = record { positions = []; call = λ _. call.Finish }

-- how many words a call has at least
abbrev pub least : List Position → ℕ
least [] = 0
least (p ∷ ps) = if is_some (absent p) then least ps else least ps + 1

-- the call that a call word and the words after it spell
unfoldable pub call_of : CallWord → List (List ℕ) → Result Call Fault
call_of word words = do
  _ ← between (least (form word).positions) (length (form word).positions) words
  values ← arguments (form word).positions words
  Ok ((form word).call values)
