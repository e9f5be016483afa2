-- Data words that are read are spelled so, and data that is spelled so is read.
use Rattle.std.proofs.Common.{◌≡◌, ℕ, ◌+◌, ◌*◌, ◌-◌, ◌/◌, ◌%◌, ◌<◌, ◌≤◌, Bool, true, false, cond, eqb, ltb, leb, ◌&&◌, List, [], ◌∷◌, ◌++◌, length, Result, Ok, Err, refl, sym, ap, subst, ◌∙◌, arith}
use Rattle.std.specs.Prelude.{codes}
use Rattle.std.specs.List.{list_all, flat_map}
use Rattle.std.specs.Fmt.{decimal, digit_glyph}
use Rattle.std.proofs.lemmas.Bool.{and_parts, and_from, eqb-true, ne_eqb, ltb-true, lt-ltb, ltb-false, le-ltb, leb-true, le-leb, lt-leb}
use Rattle.std.proofs.lemmas.Fmt.{digits_decimal}
use Rattle.std.proofs.lemmas.List.{nil_from_length}
use Rattle.gl_calls.specs.declared.payload.Payload.{Payload}
use Rattle.gl_calls.specs.declared.payload.Payload.TheVariants.{Literal, Ramp}
use Rattle.trace_words.specs.declared.fault.Fault.{Fault}
use Rattle.trace_words.specs.declared.fault.Fault.TheVariants as fault
use Rattle.trace_words.specs.Faults.{◌>>=◌, or_fault}
use Rattle.trace_words.specs.Lexing.{at_byte}
use Rattle.trace_words.specs.Numbers.{number_of}
use Rattle.trace_words.specs.Data.{hex_digit, hex_bytes, ramp_of, payload_of}
use Rattle.trace_text.specs.Spelling.{IsNumber, byte_digits, AreBytes, IsPayload}
use Rattle.trace_words.proofs.NumberLaws.{model}
use Rattle.trace_text.proofs.Steps.{or_fault_some, bind_ok, kept, ok_is}
use Rattle.trace_text.proofs.ByteLaws.{byte_takes, byte_again, digits_without}
use Rattle.trace_text.proofs.WordLaws.{number_takes, number_again}

-- ---- a digit

glyph_low : (h : ℕ) → h < 10 → digit_glyph false h ≡ 48 + h
glyph_low h lt = rw (lt-ltb h 10 lt) refl

glyph_high : (h : ℕ) → 10 ≤ h → digit_glyph false h ≡ 87 + h
glyph_high h le = rw (le-ltb h 10 le) refl

abbrev no_digit : Result ℕ Fault
no_digit = Err fault.Data

digit_takes : (c h : ℕ) → hex_digit c ≡ Ok h → (h < 16) × (c ≡ digit_glyph false h)
digit_takes c h e = go (leb 48 c && leb c 57) (leb 97 c && leb c 102) refl refl e
  where
    go : (b d : Bool) → (leb 48 c && leb c 57) ≡ b → (leb 97 c && leb c 102) ≡ d → cond b (kept (c - 48)) (cond d (kept (c - 87)) no_digit) ≡ Ok h → (h < 16) × (c ≡ digit_glyph false h)
    go true d is other e =
        let p = and_parts (leb 48 c) (leb c 57) is in
        let low : 48 ≤ c = leb-true 48 c p.0 in
        let high : c ≤ 57 = leb-true c 57 p.1 in
        let same : c - 48 ≡ h = ok_is (c - 48) h e in
        let at : c ≡ 48 + h = omega (arith, low, same) in
        (omega (arith, high, at), at ∙ sym (glyph_low h (omega (arith, high, at))))
    go false true is other e =
        let p = and_parts (leb 97 c) (leb c 102) other in
        let low : 97 ≤ c = leb-true 97 c p.0 in
        let high : c ≤ 102 = leb-true c 102 p.1 in
        let same : c - 87 ≡ h = ok_is (c - 87) h e in
        let at : c ≡ 87 + h = omega (arith, low, same) in
        (omega (arith, high, at), at ∙ sym (glyph_high h (omega (arith, low, at))))
    go false false is other e = absurd cc

low_digit : (c : ℕ) → 48 ≤ c → c ≤ 57 → hex_digit c ≡ Ok (c - 48)
low_digit c low high = rw (le-leb 48 c low, le-leb c 57 high) refl

high_digit : (c : ℕ) → 97 ≤ c → c ≤ 102 → hex_digit c ≡ Ok (c - 87)
high_digit c low high = rw (le-leb 48 c (omega (arith, low)), lt-leb c 57 (omega (arith, low)), le-leb 97 c low, le-leb c 102 high) refl

digit_again : (h : ℕ) → h < 16 → hex_digit (digit_glyph false h) ≡ Ok h
digit_again h lt = go (ltb h 10) refl
  where
    go : (b : Bool) → ltb h 10 ≡ b → hex_digit (digit_glyph false h) ≡ Ok h
    go true is =
        let small : h < 10 = ltb-true h 10 is in
        let same : (48 + h) - 48 ≡ h = omega arith in
        ap hex_digit (glyph_low h small) ∙ low_digit (48 + h) (omega arith) (omega (arith, small)) ∙ ap (λ (n : ℕ). kept n) same
    go false is =
        let large : 10 ≤ h = ltb-false h 10 is in
        let same : (87 + h) - 87 ≡ h = omega arith in
        ap hex_digit (glyph_high h large) ∙ high_digit (87 + h) (omega (arith, large)) (omega (arith, lt)) ∙ ap (λ (n : ℕ). kept n) same

-- a digit is no `%` and no `-`
glyph_least : (h : ℕ) → 48 ≤ digit_glyph false h
glyph_least h = go (ltb h 10) refl
  where
    go : (b : Bool) → ltb h 10 ≡ b → 48 ≤ digit_glyph false h
    go true is = omega (arith, glyph_low h (ltb-true h 10 is))
    go false is = omega (arith, glyph_high h (ltb-false h 10 is))

-- ---- pairs of digits

two_spelled : (high low h l : ℕ) (rest bytes : List ℕ) → h < 16 → l < 16 → high ≡ digit_glyph false h → low ≡ digit_glyph false l → rest ≡ flat_map byte_digits bytes
    → high ∷ low ∷ rest ≡ flat_map byte_digits ((h * 16 + l) ∷ bytes)
two_spelled high low h l rest bytes h_lt l_lt high_is low_is rest_is =
    let above : h ≡ (h * 16 + l) / 16 = omega (arith, l_lt) in
    let below : l ≡ (h * 16 + l) % 16 = omega (arith, l_lt) in
    let first : high ≡ digit_glyph false ((h * 16 + l) / 16) = high_is ∙ ap (λ (n : ℕ). digit_glyph false n) above in
    let second : low ≡ digit_glyph false ((h * 16 + l) % 16) = low_is ∙ ap (λ (n : ℕ). digit_glyph false n) below in
    ap (λ (c : ℕ). c ∷ low ∷ rest) first
    ∙ ap (λ (c : ℕ). digit_glyph false ((h * 16 + l) / 16) ∷ c ∷ rest) second
    ∙ ap (λ (r : List ℕ). digit_glyph false ((h * 16 + l) / 16) ∷ digit_glyph false ((h * 16 + l) % 16) ∷ r) rest_is

hex_takes : (word bytes : List ℕ) → hex_bytes word ≡ Ok bytes → AreBytes bytes × (word ≡ flat_map byte_digits bytes)
unfolding hex_bytes
hex_takes [] bytes e = subst (λ (bs : List ℕ). AreBytes bs × ([] ≡ flat_map byte_digits bs)) (ok_is [] bytes e) (refl, refl)
hex_takes (high ∷ []) bytes e = absurd cc
hex_takes (high ∷ low ∷ rest) bytes e =
    let a = bind_ok (hex_digit high) (λ h. hex_digit low >>= λ l. hex_bytes rest >>= λ bs. kept ((h * 16 + l) ∷ bs)) bytes e in
    let b = bind_ok (hex_digit low) (λ l. hex_bytes rest >>= λ bs. kept ((a.0 * 16 + l) ∷ bs)) bytes a.2 in
    let c = bind_ok (hex_bytes rest) (λ bs. kept ((a.0 * 16 + b.0) ∷ bs)) bytes b.2 in
    let r = hex_takes rest c.0 c.1 in
    let h = digit_takes high a.0 a.1 in
    let l = digit_takes low b.0 b.1 in
    let small : a.0 * 16 + b.0 < 256 = omega (arith, h.0, l.0) in
    subst (λ (bs : List ℕ). AreBytes bs × (high ∷ low ∷ rest ≡ flat_map byte_digits bs)) (ok_is ((a.0 * 16 + b.0) ∷ c.0) bytes c.2)
    (and_from (ltb (a.0 * 16 + b.0) 256) (list_all (λ x. ltb x 256) c.0) (lt-ltb (a.0 * 16 + b.0) 256 small) r.0, two_spelled high low a.0 b.0 rest c.0 h.0 l.0 h.1 l.1 r.1)

hex_again : (bytes : List ℕ) → AreBytes bytes → hex_bytes (flat_map byte_digits bytes) ≡ Ok bytes
unfolding hex_bytes
hex_again [] h = refl
hex_again (b ∷ bs) h =
    let p = and_parts (ltb b 256) (list_all (λ x. ltb x 256) bs) h in
    let small : b < 256 = ltb-true b 256 p.0 in
    let same : b / 16 * 16 + b % 16 ≡ b = omega arith in
    rw (digit_again (b / 16) (omega (arith, small)), digit_again (b % 16) (omega arith), hex_again bs p.1) (ap (λ (x : ℕ). kept (x ∷ bs)) same)

-- ---- a ramp

ramp_takes : (text : List ℕ) (p : Payload) → ramp_of text ≡ Ok p → IsPayload (37 ∷ text) p
unfolding ramp_of
ramp_takes text p e =
    let a = bind_ok (or_fault fault.Data (at_byte 44 text)) (λ first. or_fault fault.Data (at_byte 44 first.1) >>= λ second. or_fault fault.Data (number_of 0 67108864 first.0) >>= λ len. or_fault fault.Data (number_of 0 255 second.0) >>= λ start. or_fault fault.Data (number_of 0 255 second.1) >>= λ step. kept (Ramp len start step)) p e in
    let b = bind_ok (or_fault fault.Data (at_byte 44 a.0.1)) (λ second. or_fault fault.Data (number_of 0 67108864 a.0.0) >>= λ len. or_fault fault.Data (number_of 0 255 second.0) >>= λ start. or_fault fault.Data (number_of 0 255 second.1) >>= λ step. kept (Ramp len start step)) p a.2 in
    let c = bind_ok (or_fault fault.Data (number_of 0 67108864 a.0.0)) (λ len. or_fault fault.Data (number_of 0 255 b.0.0) >>= λ start. or_fault fault.Data (number_of 0 255 b.0.1) >>= λ step. kept (Ramp len start step)) p b.2 in
    let d = bind_ok (or_fault fault.Data (number_of 0 255 b.0.0)) (λ start. or_fault fault.Data (number_of 0 255 b.0.1) >>= λ step. kept (Ramp c.0 start step)) p c.2 in
    let f = bind_ok (or_fault fault.Data (number_of 0 255 b.0.1)) (λ step. kept (Ramp c.0 d.0 step)) p d.2 in
    let outer : text ≡ a.0.0 ++ 44 ∷ a.0.1 = byte_takes 44 text a.0 (or_fault_some fault.Data (at_byte 44 text) a.0 a.1) in
    let inner : a.0.1 ≡ b.0.0 ++ 44 ∷ b.0.1 = byte_takes 44 a.0.1 b.0 (or_fault_some fault.Data (at_byte 44 a.0.1) b.0 b.1) in
    let len : IsNumber 0 67108864 a.0.0 c.0 = number_takes 0 67108864 a.0.0 c.0 (or_fault_some fault.Data (number_of 0 67108864 a.0.0) c.0 c.1) in
    let start : IsNumber 0 255 b.0.0 d.0 = number_takes 0 255 b.0.0 d.0 (or_fault_some fault.Data (number_of 0 255 b.0.0) d.0 d.1) in
    let step : IsNumber 0 255 b.0.1 f.0 = number_takes 0 255 b.0.1 f.0 (or_fault_some fault.Data (number_of 0 255 b.0.1) f.0 f.1) in
    let later : a.0.1 ≡ decimal d.0 ++ 44 ∷ decimal f.0 = inner ∙ ap (λ (w : List ℕ). w ++ 44 ∷ b.0.1) start.0 ∙ ap (λ (w : List ℕ). decimal d.0 ++ 44 ∷ w) step.0 in
    let all : text ≡ decimal c.0 ++ 44 ∷ (decimal d.0 ++ 44 ∷ decimal f.0) = outer ∙ ap (λ (w : List ℕ). w ++ 44 ∷ a.0.1) len.0 ∙ ap (λ (w : List ℕ). decimal c.0 ++ 44 ∷ w) later in
    subst (λ (x : Payload). IsPayload (37 ∷ text) x) (ok_is (Ramp c.0 d.0 f.0) p f.2) (len.2, start.2, step.2, ap (λ (w : List ℕ). 37 ∷ w) all)

ramp_again : (len start step : ℕ) → len ≤ 67108864 → start ≤ 255 → step ≤ 255 → ramp_of (decimal len ++ 44 ∷ (decimal start ++ 44 ∷ decimal step)) ≡ Ok (Ramp len start step)
unfolding ramp_of
ramp_again len start step len_le start_le step_le =
    rw (
      byte_again 44 (decimal len) (decimal start ++ 44 ∷ decimal step) (digits_without 44 refl (decimal len) (digits_decimal model len (omega (arith, len_le)))),
      byte_again 44 (decimal start) (decimal step) (digits_without 44 refl (decimal start) (digits_decimal model start (omega (arith, start_le)))),
      number_again 0 67108864 (decimal len) len (omega arith) (refl, omega arith, len_le),
      number_again 0 255 (decimal start) start (omega arith) (refl, omega arith, start_le),
      number_again 0 255 (decimal step) step (omega arith) (refl, omega arith, step_le),
    ) refl

-- ---- a data word

abbrev literal : List ℕ → Result Payload Fault
literal bytes = Ok (Literal bytes)

literal_is : (word bytes : List ℕ) → 0 < length word → AreBytes bytes → word ≡ flat_map byte_digits bytes → IsPayload word (Literal bytes)
literal_is word [] some all e = absurd (omega (arith, some, ap length e))
literal_is word (b ∷ bs) some all e = (all, e)

pub payload_takes : (word : List ℕ) (p : Payload) → payload_of word ≡ Ok p → IsPayload word p
unfolding payload_of
payload_takes [] p e = absurd cc
payload_takes (c ∷ cs) p e = go (eqb c 37) (eqb c 45 && eqb (length cs) 0) refl refl e
  where
    go : (b d : Bool) → eqb c 37 ≡ b → (eqb c 45 && eqb (length cs) 0) ≡ d → cond b (ramp_of cs) (cond d (kept (Literal [])) (hex_bytes (c ∷ cs) >>= literal)) ≡ Ok p → IsPayload (c ∷ cs) p
    go true d is other e = subst (λ (x : ℕ). IsPayload (x ∷ cs) p) (sym (eqb-true c 37 is)) (ramp_takes cs p e)
    go false true is other e =
        let q = and_parts (eqb c 45) (eqb (length cs) 0) other in
        let none : cs ≡ [] = nil_from_length cs (eqb-true (length cs) 0 q.1) in
        let spelled : c ∷ cs ≡ codes "-" = ap (λ (x : ℕ). x ∷ cs) (eqb-true c 45 q.0) ∙ ap (λ (r : List ℕ). 45 ∷ r) none in
        subst (λ (x : Payload). IsPayload (c ∷ cs) x) (ok_is (Literal []) p e) spelled
    go false false is other e =
        let a = bind_ok (hex_bytes (c ∷ cs)) literal p e in
        let t = hex_takes (c ∷ cs) a.0 a.1 in
        subst (λ (x : Payload). IsPayload (c ∷ cs) x) (ok_is (Literal a.0) p a.2) (literal_is (c ∷ cs) a.0 (omega arith) t.0 t.1)

minus_again : payload_of (codes "-") ≡ Ok (Literal [])
unfolding payload_of
minus_again = refl

bytes_again : (b : ℕ) (bs : List ℕ) → AreBytes (b ∷ bs) → payload_of (flat_map byte_digits (b ∷ bs)) ≡ Ok (Literal (b ∷ bs))
unfolding payload_of
bytes_again b bs h =
    rw (
      ne_eqb (digit_glyph false (b / 16)) 37 (λ e. omega (arith, glyph_least (b / 16), e)),
      ne_eqb (digit_glyph false (b / 16)) 45 (λ e. omega (arith, glyph_least (b / 16), e)),
      hex_again (b ∷ bs) h,
    ) refl

percent_again : (text : List ℕ) (p : Payload) → ramp_of text ≡ Ok p → payload_of (37 ∷ text) ≡ Ok p
unfolding payload_of
percent_again text p e = e

pub payload_again : (word : List ℕ) (p : Payload) → IsPayload word p → payload_of word ≡ Ok p
payload_again word (Literal []) h = ap payload_of h ∙ minus_again
payload_again word (Literal (b ∷ bs)) h = ap payload_of h.1 ∙ bytes_again b bs h.0
payload_again word (Ramp len start step) h =
    ap payload_of h.3 ∙ percent_again (decimal len ++ 44 ∷ (decimal start ++ 44 ∷ decimal step)) (Ramp len start step) (ramp_again len start step h.0 h.1 h.2)
