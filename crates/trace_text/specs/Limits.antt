-- What a call may ask for, and what it costs.
use Rattle.std.specs.Prelude.{ℕ, ℤ, pos, negsuc, ◌*◌, min, Bool, true, false, ◌==◌, nat_le, Some}
use Rattle.gl_calls.specs.Words.{payload_len}
use Rattle.gl_calls.specs.declared.call.PixelSource.{PixelSource}
use Rattle.gl_calls.specs.declared.call.PixelSource.TheVariants as source
use Rattle.gl_calls.specs.declared.call.Call.{Call}
use Rattle.gl_calls.specs.declared.call.Call.TheVariants as call

-- a number below 0 counts as 0
abbrev pub size_of : ℤ → ℕ
size_of (pos n) = n
size_of (negsuc n) = 0

abbrev pub is_size : ℤ → ℕ → Bool
is_size (pos n) len = n == len
is_size (negsuc n) len = false

-- the data of a `bdata` has its size
abbrev pub has_its_length : Call → Bool
has_its_length (call.BufferData target size usage (Some p)) = is_size size (payload_len p)
has_its_length _ = true

-- at most one level, at most 64 names
abbrev pub is_in_profile : Call → Bool
is_in_profile (call.TexStorage levels format width height) = nat_le (size_of levels) 1
is_in_profile (call.Gen kind count) = nat_le (size_of count) 64
is_in_profile _ = true

abbrev pub source_len : PixelSource → ℕ
source_len (source.Client p) = payload_len p
source_len (source.Offset n) = 0

abbrev pub cost_of : Call → ℕ
cost_of (call.BufferData target size usage p) = min (size_of size) 67108864
cost_of (call.BufferSubData target offset p) = payload_len p
cost_of (call.MapWrite target offset p) = payload_len p
cost_of (call.MapBufferRange target offset len access) = min (size_of len) 67108864
cost_of (call.MapRead target offset len) = min (size_of len) 67108864
cost_of (call.TexStorage levels format width height) = min (16 * size_of width * size_of height) 67108864
cost_of (call.RenderbufferStorage format width height) = min (16 * size_of width * size_of height) 67108864
cost_of (call.TexSubImage x y width height format kind s) = source_len s
cost_of (call.ReadPixels x y width height format kind destination) = 16 * size_of width * size_of height
cost_of _ = 0
