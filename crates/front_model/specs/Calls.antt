-- Which calls make new stores.
use Rattle.std.specs.Prelude.{Bool, true, false}
use Rattle.gl_calls.specs.declared.call.Call.{Call}
use Rattle.gl_calls.specs.declared.call.Call.TheVariants as call

-- an object gets another store by it
abbrev pub makes_storage : Call → Bool
makes_storage (call.BufferData target size usage payload) = true
makes_storage (call.TexStorage levels format width height) = true
makes_storage (call.RenderbufferStorage format width height) = true
makes_storage _ = false
