-- Which calls of a front go where.
use Rattle.std.specs.Prelude.{◌≡◌, ℕ, Bool, true, false}
use Rattle.gl_calls.specs.declared.call.Call.{Call}
use Rattle.gl_calls.specs.declared.call.Call.TheVariants as call

-- the calls that create, destroy or take a context
abbrev pub changes_contexts : Call → Bool
changes_contexts (call.CreateContext number) = true
changes_contexts (call.DestroyContext number) = true
changes_contexts (call.MakeCurrent number) = true
changes_contexts _ = false

-- the calls that fill, copy, map or reach into buffers
abbrev pub reaches_buffers : Call → Bool
reaches_buffers (call.BufferData target size usage payload) = true
reaches_buffers (call.BufferSubData target offset payload) = true
reaches_buffers (call.CopyBufferSubData from to read write size) = true
reaches_buffers (call.MapBufferRange target offset len access) = true
reaches_buffers (call.MapRead target offset len) = true
reaches_buffers (call.MapWrite target offset payload) = true
reaches_buffers _ = false

-- the calls that make, ask for, wait for and end syncs, and those that flush
abbrev pub reaches_syncs : Call → Bool
reaches_syncs (call.CreateSync number) = true
reaches_syncs (call.EglClientWaitSync number flush timeout) = true
reaches_syncs (call.DestroySync number) = true
reaches_syncs (call.FenceSync number condition flags) = true
reaches_syncs (call.ClientWaitSync number flags timeout) = true
reaches_syncs (call.WaitSync number flags end) = true
reaches_syncs (call.DeleteSync number) = true
reaches_syncs call.Flush = true
reaches_syncs call.Finish = true
reaches_syncs _ = false

-- the call waits for the sync of OpenGL ES of this number
abbrev pub IsWaitSync : Call → ℕ → Type 0
IsWaitSync (call.WaitSync name flags end) number = name ≡ number
IsWaitSync _ number = ⊥
