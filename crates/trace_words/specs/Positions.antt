-- The places of a call's line, and what stands there.
use Rattle.std.specs.Prelude.{◌==◌, ℕ, ℤ, List, [], ◌∷◌, Bool, Option, Some, None, Result, Ok, Err, if◌then◌else◌, codes}
use Rattle.std.specs.Option.{option_map}
use Rattle.std.specs.Str.{bytes_eq}
use Rattle.gl_calls.specs.declared.words.BufferTarget.{BufferTarget}
use Rattle.gl_calls.specs.declared.words.FramebufferTarget.{FramebufferTarget}
use Rattle.gl_calls.specs.declared.words.BindTarget.{BindTarget}
use Rattle.gl_calls.specs.declared.words.ObjectKind.{ObjectKind}
use Rattle.gl_calls.specs.declared.words.Usage.{Usage}
use Rattle.gl_calls.specs.declared.words.FormatWord.{FormatWord}
use Rattle.formats.specs.declared.pixel.PixelFormat.{PixelFormat}
use Rattle.formats.specs.declared.pixel.PixelType.{PixelType}
use Rattle.gl_calls.specs.declared.words.AttachPoint.{AttachPoint}
use Rattle.gl_calls.specs.declared.words.AttachWhat.{AttachWhat}
use Rattle.gl_calls.specs.declared.words.DrawBuffer.{DrawBuffer}
use Rattle.gl_calls.specs.declared.words.StoreParameter.{StoreParameter}
use Rattle.gl_calls.specs.declared.words.LimitName.{LimitName}
use Rattle.gl_calls.specs.declared.words.BlitMask.{BlitMask}
use Rattle.gl_calls.specs.declared.words.BlitFilter.{BlitFilter}
use Rattle.gl_calls.specs.declared.words.FenceCondition.{FenceCondition}
use Rattle.gl_calls.specs.declared.words.AccessWord.{AccessWord}
use Rattle.gl_calls.specs.declared.payload.Payload.{Payload}
use Rattle.gl_calls.specs.declared.call.PixelSource.{PixelSource}
use Rattle.gl_calls.specs.declared.call.PixelSource.TheVariants as pixelSource
use Rattle.gl_calls.specs.declared.call.PixelDestination.{PixelDestination}
use Rattle.gl_calls.specs.declared.call.PixelDestination.TheVariants as pixelDestination
use Rattle.gl_calls.specs.declared.call.WaitEnd.{WaitEnd}
use Rattle.gl_calls.specs.declared.call.WaitEnd.TheVariants as waitEnd
use Rattle.trace_words.specs.declared.fault.Fault.{Fault}
use Rattle.trace_words.specs.declared.fault.Fault.TheVariants as fault
use Rattle.trace_words.specs.Faults.{◌>>=◌, or_fault}
use Rattle.trace_words.specs.Tables.{meaning, buffers, framebuffers, bind_targets, object_kinds, usages, formats, pixel_formats, pixel_types, points, attached_objects, draw_buffers, parameters, limits, switches, masks, filters, conditions}
use Rattle.trace_words.specs.Numbers.{number_of, signed_of}
use Rattle.trace_words.specs.Data.{payload_of, access_of}

-- what may stand at a place of a call's line
pub data Position : Type 0 where
  buffer : Position
  framebuffer : Position
  bind_target : Position
  object_kind : Position
  usage : Position
  format : Position
  pixel_format : Position
  pixel_type : Position
  point : Position
  attached : Position
  draw_buffer : Position
  draw_buffer_if_any : Position
  access : Position
  parameter : Position
  limit : Position
  u32 : Position
  u64 : Position
  i32 : Position
  i64 : Position
  flag : Position
  switch : Position
  handle : Position
  handle_or_zero : Position
  payload : Position
  payload_or_null : Position
  pixel_source : Position
  pixel_destination : Position
  wait_end : Position
  mask : Position
  filter : Position
  condition : Position

-- what stands there as a value
abbrev pub Meaning : Position → Type 0
Meaning buffer = BufferTarget
Meaning framebuffer = FramebufferTarget
Meaning bind_target = BindTarget
Meaning object_kind = ObjectKind
Meaning usage = Usage
Meaning format = FormatWord
Meaning pixel_format = PixelFormat
Meaning pixel_type = PixelType
Meaning point = AttachPoint
Meaning attached = AttachWhat
Meaning draw_buffer = DrawBuffer
Meaning draw_buffer_if_any = Option DrawBuffer
Meaning access = AccessWord
Meaning parameter = StoreParameter
Meaning limit = LimitName
Meaning u32 = ℕ
Meaning u64 = ℕ
Meaning i32 = ℤ
Meaning i64 = ℤ
Meaning flag = Bool
Meaning switch = Bool
Meaning handle = ℕ
Meaning handle_or_zero = ℕ
Meaning payload = Payload
Meaning payload_or_null = Option Payload
Meaning pixel_source = PixelSource
Meaning pixel_destination = PixelDestination
Meaning wait_end = WaitEnd
Meaning mask = BlitMask
Meaning filter = BlitFilter
Meaning condition = FenceCondition

-- a word that begins with `+` is an offset
abbrev pub source_of : List ℕ → Result PixelSource Fault
source_of [] = payload_of [] >>= λ p. Ok (pixelSource.Client p)
source_of (c ∷ cs) = if c == 43 then or_fault fault.Number (option_map pixelSource.Offset (number_of 0 18446744073709551615 cs)) else (payload_of (c ∷ cs) >>= λ p. Ok (pixelSource.Client p))

abbrev pub destination_of : List ℕ → Result PixelDestination Fault
destination_of [] = Err fault.Word
destination_of (c ∷ cs) = if c == 43 then or_fault fault.Number (option_map pixelDestination.Offset (number_of 0 18446744073709551615 cs)) else if bytes_eq (c ∷ cs) (codes "client") then Ok pixelDestination.Client else Err fault.Word

-- the value of a word at a place
unfoldable pub read : (p : Position) → List ℕ → Result (Meaning p) Fault
read buffer word = or_fault fault.Word (meaning buffers word)
read framebuffer word = or_fault fault.Word (meaning framebuffers word)
read bind_target word = or_fault fault.Word (meaning bind_targets word)
read object_kind word = or_fault fault.Word (meaning object_kinds word)
read usage word = or_fault fault.Word (meaning usages word)
read format word = or_fault fault.Word (meaning formats word)
read pixel_format word = or_fault fault.Word (meaning pixel_formats word)
read pixel_type word = or_fault fault.Word (meaning pixel_types word)
read point word = or_fault fault.Word (meaning points word)
read attached word = or_fault fault.Word (meaning attached_objects word)
read draw_buffer word = or_fault fault.Word (meaning draw_buffers word)
read draw_buffer_if_any word = or_fault fault.Word (option_map (λ b. Some b) (meaning draw_buffers word))
read access word = or_fault fault.Word (access_of word)
read parameter word = or_fault fault.Word (meaning parameters word)
read limit word = or_fault fault.Word (meaning limits word)
read u32 word = or_fault fault.Number (number_of 0 4294967295 word)
read u64 word = or_fault fault.Number (number_of 0 18446744073709551615 word)
read i32 word = or_fault fault.Number (signed_of 2147483648 word)
read i64 word = or_fault fault.Number (signed_of 9223372036854775808 word)
read flag word = or_fault fault.Number (option_map (λ n. n == 1) (number_of 0 1 word))
read switch word = or_fault fault.Word (meaning switches word)
read handle word = or_fault fault.Number (number_of 1 65535 word)
read handle_or_zero word = or_fault fault.Number (number_of 0 65535 word)
read payload word = payload_of word
read payload_or_null word = if bytes_eq word (codes "null") then Ok None else (payload_of word >>= λ p. Ok (Some p))
read pixel_source word = source_of word
read pixel_destination word = destination_of word
read wait_end word = if bytes_eq word (codes "ignored") then Ok waitEnd.Ignored else or_fault fault.Number (option_map waitEnd.After (number_of 0 18446744073709551615 word))
read mask word = or_fault fault.Word (meaning masks word)
read filter word = or_fault fault.Word (meaning filters word)
read condition word = or_fault fault.Word (meaning conditions word)

-- the value at a place that may be left out
abbrev pub absent : (p : Position) → Option (Meaning p)
absent draw_buffer_if_any = Some None
absent p = None

-- the value of the first word, and the words after it
unfoldable pub take_first : (p : Position) → List (List ℕ) → Result (Meaning p × List (List ℕ)) Fault
take_first p [] = or_fault fault.Count (absent p) >>= λ value. Ok (value, [])
take_first p (word ∷ words) = read p word >>= λ value. Ok (value, words)
