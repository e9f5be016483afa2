-- How values are spelled as words, apart from how they are read.
use Rattle.std.specs.Prelude.{◌≡◌, ℕ, suc, ◌/◌, ◌%◌, nat_lt, ◌++◌, ℤ, pos, negsuc, ◌<◌, ◌≤◌, ◌⊎◌, List, [], ◌∷◌, Bool, true, false, Option, Some, None, codes}
use Rattle.std.specs.List.{list_all, flat_map}
use Rattle.std.specs.Fmt.{decimal, digit_glyph}
use Rattle.gl_calls.specs.declared.call.Call.{Call}
use Rattle.gl_calls.specs.declared.payload.Payload.{Payload}
use Rattle.gl_calls.specs.declared.payload.Payload.TheVariants.{Literal, Ramp}
use Rattle.gl_calls.specs.declared.call.PixelSource.{PixelSource}
use Rattle.gl_calls.specs.declared.call.PixelSource.TheVariants as source
use Rattle.gl_calls.specs.declared.call.PixelDestination.{PixelDestination}
use Rattle.gl_calls.specs.declared.call.PixelDestination.TheVariants as destination
use Rattle.gl_calls.specs.declared.call.WaitEnd.{WaitEnd}
use Rattle.gl_calls.specs.declared.call.WaitEnd.TheVariants as wait
use Rattle.trace_text.specs.declared.call_word.CallWord.{CallWord}
use Rattle.gl_calls.specs.declared.words.DrawBuffer.{DrawBuffer}
use Rattle.trace_words.specs.Tables.{buffers, framebuffers, bind_targets, object_kinds, usages, formats, pixel_formats, pixel_types, points, attached_objects, draw_buffers, parameters, limits, switches, masks, filters, conditions}
use Rattle.trace_words.specs.Data.{access_of}
use Rattle.trace_words.specs.Positions.{Position, Meaning, absent, buffer, framebuffer, bind_target, object_kind, usage, format, pixel_format, pixel_type, point, attached, draw_buffer, draw_buffer_if_any, access, parameter, limit, u32, u64, i32, i64, flag, switch, handle, handle_or_zero, payload, payload_or_null, pixel_source, pixel_destination, wait_end, mask, filter, condition}
use Rattle.trace_text.specs.Grammar.{Arguments, form}

-- the word stands for the value in a table
abbrev pub StandsFor : {T : Type 0} → List (List ℕ × T) → List ℕ → T → Type 0
StandsFor [] word value = ⊥
StandsFor (entry ∷ others) word value = ((word ≡ entry.0) × (value ≡ entry.1)) ⊎ StandsFor others word value

-- the word is the number's decimal digits
abbrev pub IsNumber : ℕ → ℕ → List ℕ → ℕ → Type 0
IsNumber low high word n = (word ≡ decimal n) × (low ≤ n) × (n ≤ high)

abbrev pub IsSigned : ℕ → List ℕ → ℤ → Type 0
IsSigned bound word (pos n) = (word ≡ decimal n) × (n < bound)
IsSigned bound word (negsuc n) = (word ≡ 45 ∷ decimal (suc n)) × (n < bound)

-- a byte as two digits in lower case
abbrev pub byte_digits : ℕ → List ℕ
byte_digits byte = digit_glyph false (byte / 16) ∷ digit_glyph false (byte % 16) ∷ []

abbrev pub AreBytes : List ℕ → Type 0
AreBytes bytes = list_all (λ b. nat_lt b 256) bytes ≡ true

-- The word stands for data: `-` for no bytes, the digits of each byte, or `%len,start,step`.
abbrev pub IsPayload : List ℕ → Payload → Type 0
IsPayload word (Literal []) = word ≡ codes "-"
IsPayload word (Literal (b ∷ bs)) = AreBytes (b ∷ bs) × (word ≡ flat_map byte_digits (b ∷ bs))
IsPayload word (Ramp len start step) = (len ≤ 67108864) × (start ≤ 255) × (step ≤ 255) × (word ≡ 37 ∷ (decimal len ++ 44 ∷ (decimal start ++ 44 ∷ decimal step)))

abbrev pub IsSource : List ℕ → PixelSource → Type 0
IsSource word (source.Client p) = IsPayload word p
IsSource word (source.Offset n) = (offset : List ℕ) × (word ≡ 43 ∷ offset) × IsNumber 0 18446744073709551615 offset n

abbrev pub IsDestination : List ℕ → PixelDestination → Type 0
IsDestination word destination.Client = word ≡ codes "client"
IsDestination word (destination.Offset n) = (offset : List ℕ) × (word ≡ 43 ∷ offset) × IsNumber 0 18446744073709551615 offset n

abbrev pub IsWaitEnd : List ℕ → WaitEnd → Type 0
IsWaitEnd word wait.Ignored = word ≡ codes "ignored"
IsWaitEnd word (wait.After n) = IsNumber 0 18446744073709551615 word n

-- the number of a flag
abbrev pub flag_number : Bool → ℕ
flag_number true = 1
flag_number false = 0

abbrev pub IsPayloadOrNull : List ℕ → Option Payload → Type 0
IsPayloadOrNull word None = word ≡ codes "null"
IsPayloadOrNull word (Some p) = IsPayload word p

-- the word of a buffer that is given
abbrev pub IsGiven : List ℕ → Option DrawBuffer → Type 0
IsGiven word None = ⊥
IsGiven word (Some b) = StandsFor draw_buffers word b

-- the word is a spelling of the value at the place
abbrev pub Spelled : (p : Position) → List ℕ → Meaning p → Type 0
Spelled buffer word value = StandsFor buffers word value
Spelled framebuffer word value = StandsFor framebuffers word value
Spelled bind_target word value = StandsFor bind_targets word value
Spelled object_kind word value = StandsFor object_kinds word value
Spelled usage word value = StandsFor usages word value
Spelled format word value = StandsFor formats word value
Spelled pixel_format word value = StandsFor pixel_formats word value
Spelled pixel_type word value = StandsFor pixel_types word value
Spelled point word value = StandsFor points word value
Spelled attached word value = StandsFor attached_objects word value
Spelled draw_buffer word value = StandsFor draw_buffers word value
Spelled draw_buffer_if_any word value = IsGiven word value
Spelled access word value = access_of word ≡ Some value
Spelled parameter word value = StandsFor parameters word value
Spelled limit word value = StandsFor limits word value
Spelled u32 word value = IsNumber 0 4294967295 word value
Spelled u64 word value = IsNumber 0 18446744073709551615 word value
Spelled i32 word value = IsSigned 2147483648 word value
Spelled i64 word value = IsSigned 9223372036854775808 word value
Spelled flag word value = IsNumber 0 1 word (flag_number value)
Spelled switch word value = StandsFor switches word value
Spelled handle word value = IsNumber 1 65535 word value
Spelled handle_or_zero word value = IsNumber 0 65535 word value
Spelled payload word value = IsPayload word value
Spelled payload_or_null word value = IsPayloadOrNull word value
Spelled pixel_source word value = IsSource word value
Spelled pixel_destination word value = IsDestination word value
Spelled wait_end word value = IsWaitEnd word value
Spelled mask word value = StandsFor masks word value
Spelled filter word value = StandsFor filters word value
Spelled condition word value = StandsFor conditions word value

-- the words spell the values, one for each place, and the last places may be left out
abbrev pub SpelledAll : (ps : List Position) → List (List ℕ) → Arguments ps → Type 0
SpelledAll [] [] values = Unit {0}
SpelledAll [] (word ∷ words) values = ⊥
SpelledAll (p ∷ ps) [] values = (absent p ≡ Some values.0) × SpelledAll ps [] values.1
SpelledAll (p ∷ ps) (word ∷ words) values = Spelled p word values.0 × SpelledAll ps words values.1

-- the words after a call word spell the call, by its line of the table
pub record SpelledCall (word : CallWord) (words : List (List ℕ)) (call : Call) : Type 0 where
  pub values : Arguments (form word).positions
  pub spelled : SpelledAll (form word).positions words values
  pub made : call ≡ (form word).call values
