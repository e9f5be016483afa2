-- Bytes as words.
use Rattle.std.specs.Prelude.{ℕ, ◌+◌, ◌-◌, ◌*◌, List, [], ◌∷◌, Bool, not, ◌&&◌, ◌||◌, ◌==◌, nat_le, length, Result, Ok, Err, if◌then◌else◌, codes, count_by, Option, Some, None}
use Rattle.std.specs.List.{list_all, list_any}
use Rattle.std.specs.Str.{bytes_eq}
use Rattle.trace_words.specs.declared.fault.Fault.{Fault}
use Rattle.trace_words.specs.declared.fault.Fault.TheVariants as fault
use Rattle.gl_calls.specs.declared.payload.Payload.{Payload}
use Rattle.gl_calls.specs.declared.payload.Payload.TheVariants as payload
use Rattle.gl_calls.specs.declared.words.AccessWord.{AccessWord}
use Rattle.trace_words.specs.Faults.{◌>>=◌, or_fault}
use Rattle.trace_words.specs.Lexing.{at_byte}
use Rattle.trace_words.specs.Numbers.{number_of}

-- a hexadecimal digit in lower case
abbrev pub hex_digit : ℕ → Result ℕ Fault
hex_digit c = if nat_le 48 c && nat_le c 57 then Ok (c - 48) else if nat_le 97 c && nat_le c 102 then Ok (c - 87) else Err fault.Data

-- the first byte, and what follows its two digits
unfoldable pub hex_byte : List ℕ → Result (ℕ × List ℕ) Fault
hex_byte [] = Err fault.Data
hex_byte (high ∷ []) = Err fault.Data
hex_byte (high ∷ low ∷ rest) = do
  h ← hex_digit high
  l ← hex_digit low
  Ok (h * 16 + l, rest)

-- pairs of hexadecimal digits
unfoldable pub hex_bytes : List ℕ → Result (List ℕ) Fault
hex_bytes [] = Ok []
hex_bytes (high ∷ []) = Err fault.Data
hex_bytes (high ∷ low ∷ rest) = do
  h ← hex_digit high
  l ← hex_digit low
  bytes ← hex_bytes rest
  Ok ((h * 16 + l) ∷ bytes)

-- `len,start,step`
unfoldable pub ramp_of : List ℕ → Result Payload Fault
ramp_of text = do
  first ← or_fault fault.Data (at_byte 44 text)
  second ← or_fault fault.Data (at_byte 44 first.1)
  len ← or_fault fault.Data (number_of 0 67108864 first.0)
  start ← or_fault fault.Data (number_of 0 255 second.0)
  step ← or_fault fault.Data (number_of 0 255 second.1)
  Ok (payload.Ramp len start step)

-- `-` for no bytes, pairs of hexadecimal digits, or `%len,start,step`
unfoldable pub payload_of : List ℕ → Result Payload Fault
payload_of [] = Err fault.Data
payload_of (c ∷ cs) = if c == 37 then ramp_of cs else if c == 45 && length cs == 0 then Ok (payload.Literal []) else (hex_bytes (c ∷ cs) >>= λ bytes. Ok (payload.Literal bytes))

abbrev pub access_letters : List ℕ
access_letters = codes "rwiIufx"

abbrev pub is_letter : ℕ → Bool
is_letter c = list_any (λ letter. letter == c) access_letters

abbrev pub is_once_at_most : ℕ → List ℕ → Bool
is_once_at_most letter word = nat_le (count_by (λ c. c == letter) word) 1

-- letters of an access, each at most once
abbrev pub are_letters : List ℕ → Bool
are_letters word = list_all is_letter word && list_all (λ letter. is_once_at_most letter word) access_letters

abbrev pub has : ℕ → List ℕ → Bool
has letter word = list_any (λ c. c == letter) word

-- `-`, or letters
unfoldable pub access_of : List ℕ → Option AccessWord
access_of word = if bytes_eq word (codes "-") || (not (length word == 0) && are_letters word) then
    Some (record { read = has 114 word; write = has 119 word; invalidate_range = has 105 word; invalidate_buffer = has 73 word; unsynchronized = has 117 word; flush_explicit = has 102 word; unknown = has 120 word })
    else None
