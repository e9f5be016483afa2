-- Calls that leave names, bindings and attachments.
use Rattle.std.specs.Prelude.{Bool, true, false}
use Rattle.gl_calls.specs.declared.call.Call.{Call}
use Rattle.gl_calls.specs.declared.call.Call.TheVariants as call

-- it changes nothing but what objects hold
abbrev pub is_quiet : Call → Bool
is_quiet (call.GetInteger limit) = true
is_quiet (call.BufferSubData target offset payload) = true
is_quiet (call.CopyBufferSubData from to read write size) = true
is_quiet (call.FlushMappedBufferRange target offset length) = true
is_quiet (call.MapRead target offset length) = true
is_quiet (call.MapWrite target offset payload) = true
is_quiet (call.TexSubImage x y width height format kind source) = true
is_quiet (call.CopyTexSubImage x y from_x from_y width height) = true
is_quiet (call.CheckFramebufferStatus target) = true
is_quiet (call.ClearUnsigned buffer r g b a) = true
is_quiet (call.ClearSigned buffer r g b a) = true
is_quiet (call.Blit sx0 sy0 sx1 sy1 dx0 dy0 dx1 dy1 mask filter) = true
is_quiet (call.Invalidate target buffer) = true
is_quiet (call.ReadPixels x y width height format kind destination) = true
is_quiet (call.ClientWaitSync number flags timeout) = true
is_quiet (call.WaitSync number flags end) = true
is_quiet call.Flush = true
is_quiet call.Finish = true
is_quiet _ = false

-- it sets a parameter of the context, or the store or the map of the bound buffer, or destroys a sync, or sets an EGL error alone
abbrev pub sets_fact : Call → Bool
sets_fact call.GetError = true
sets_fact (call.BufferData target size usage payload) = true
sets_fact (call.MapBufferRange target offset length access) = true
sets_fact (call.UnmapBuffer target) = true
sets_fact (call.ScissorTest on) = true
sets_fact (call.ScissorBox x y width height) = true
sets_fact (call.PixelStore parameter value) = true
sets_fact (call.DeleteSync number) = true
sets_fact call.EglGetError = true
sets_fact (call.EglClientWaitSync number flush timeout) = true
sets_fact (call.DestroySync number) = true
sets_fact _ = false
