-- What a word spells as bytes.
use Rattle.std.proofs.Common.{◌≡◌, ℕ, ◌+◌, ◌*◌, ◌<◌, List, [], ◌∷◌, ◌++◌, length, Result, Ok, Err, refl, sym, ap, ◌∙◌, append_assoc, arith}
use Rattle.std.proofs.lemmas.List.{append-nil}
use Rattle.trace_words.specs.declared.fault.Fault.{Fault}
use Rattle.trace_words.specs.Faults.{◌>>=◌}
use Rattle.trace_words.specs.Data.{hex_digit, hex_byte, hex_bytes}

-- the bytes in front, and what the rest spells
abbrev pub after_bytes : List ℕ → Result (List ℕ) Fault → Result (List ℕ) Fault
after_bytes front rest = rest >>= λ bytes. Ok (front ++ bytes)

-- the first byte before the others
abbrev pub onto_bytes : ℕ → Result (List ℕ) Fault → Result (List ℕ) Fault
onto_bytes byte rest = rest >>= λ bytes. Ok (byte ∷ bytes)

abbrev byte_before : List ℕ → ℕ → Result (ℕ × List ℕ) Fault
byte_before rest byte = Ok (byte, rest)

abbrev then_bytes : ℕ × List ℕ → Result (List ℕ) Fault
then_bytes first = onto_bytes first.0 (hex_bytes first.1)

two_digits : (high low : Result ℕ Fault) (rest : List ℕ) → (high >>= λ h. low >>= λ l. hex_bytes rest >>= λ bytes. Ok ((h * 16 + l) ∷ bytes))
    ≡ ((high >>= λ h. low >>= λ l. byte_before rest (h * 16 + l)) >>= then_bytes)
two_digits (Ok h) (Ok l) rest = refl
two_digits (Ok h) (Err f) rest = refl
two_digits (Err f) low rest = refl

-- the first byte, and then the others
hex_step : (word : List ℕ) → 0 < length word → hex_bytes word ≡ (hex_byte word >>= then_bytes)
unfolding hex_byte hex_bytes
hex_step [] some = absurd (omega arith)
hex_step (high ∷ []) some = refl
hex_step (high ∷ low ∷ rest) some = two_digits (hex_digit high) (hex_digit low) rest

regroup : (front : List ℕ) (byte : ℕ) (rest : Result (List ℕ) Fault) → after_bytes front (onto_bytes byte rest) ≡ after_bytes (front ++ byte ∷ []) rest
regroup front byte (Ok bytes) = ap (λ (b : List ℕ). Ok b) (simp append_assoc)
regroup front byte (Err f) = refl

pub hex_goes_on : (front word rest : List ℕ) (byte : ℕ) (total : Result (List ℕ) Fault) → 0 < length word → hex_byte word ≡ Ok (byte, rest) → after_bytes front (hex_bytes word) ≡ total → after_bytes (front ++ byte ∷ []) (hex_bytes rest) ≡ total
hex_goes_on front word rest byte total some e h =
    sym (regroup front byte (hex_bytes rest)) ∙ ap (after_bytes front) (sym (hex_step word some ∙ ap (λ (x : Result (ℕ × List ℕ) Fault). x >>= then_bytes) e)) ∙ h

pub hex_ends : (front word : List ℕ) (f : Fault) (total : Result (List ℕ) Fault) → 0 < length word → hex_byte word ≡ Err f → after_bytes front (hex_bytes word) ≡ total → total ≡ Err f
hex_ends front word f total some e h = sym h ∙ ap (after_bytes front) (hex_step word some ∙ ap (λ (x : Result (ℕ × List ℕ) Fault). x >>= then_bytes) e)

pub hex_done : (front word : List ℕ) (total : Result (List ℕ) Fault) → length word ≡ 0 → after_bytes front (hex_bytes word) ≡ total → total ≡ Ok front
unfolding hex_bytes
hex_done front [] total none h = sym h ∙ ap (λ (b : List ℕ). Ok b) (append-nil front)
hex_done front (c ∷ cs) total none h = absurd (omega arith)
