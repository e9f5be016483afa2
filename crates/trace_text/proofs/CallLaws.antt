-- The words of a call that is read spell it, and words that spell a call are read.
use Rattle.std.proofs.Common.{◌≡◌, ℕ, suc, ◌+◌, ◌<◌, ◌≤◌, ◌^◌, ◌⊎◌, Bool, true, false, cond, eqb, leb, ◌&&◌, List, [], ◌∷◌, length, Option, Some, None, Result, Ok, Err, refl, sym, ap, subst, ◌∙◌, arith, inl, inr}
use Rattle.std.specs.Prelude.{codes, is_some}
use Rattle.std.specs.Option.{option_map}
use Rattle.std.specs.Str.{bytes_eq}
use Rattle.std.proofs.lemmas.Bool.{and_parts, eqb-true, eqb-false, leb-true, le-leb}
use Rattle.std.proofs.lemmas.Slice.Eq.{bytes_eq-Decides}
use Rattle.gl_calls.specs.declared.call.Call.{Call}
use Rattle.gl_calls.specs.declared.payload.Payload.{Payload}
use Rattle.gl_calls.specs.declared.call.PixelSource.{PixelSource}
use Rattle.gl_calls.specs.declared.call.PixelSource.TheVariants as source
use Rattle.gl_calls.specs.declared.call.PixelDestination.{PixelDestination}
use Rattle.gl_calls.specs.declared.call.PixelDestination.TheVariants as destination
use Rattle.gl_calls.specs.declared.call.WaitEnd.{WaitEnd}
use Rattle.gl_calls.specs.declared.call.WaitEnd.TheVariants as wait
use Rattle.trace_text.specs.declared.call_word.CallWord.{CallWord}
use Rattle.trace_words.specs.declared.fault.Fault.{Fault}
use Rattle.trace_words.specs.declared.fault.Fault.TheVariants as fault
use Rattle.trace_words.specs.Faults.{◌>>=◌, or_fault, between}
use Rattle.gl_calls.specs.declared.words.DrawBuffer.{DrawBuffer}
use Rattle.trace_words.specs.Tables.{meaning, buffers, framebuffers, bind_targets, object_kinds, usages, formats, pixel_formats, pixel_types, points, attached_objects, draw_buffers, parameters, limits, switches, masks, filters, conditions}
use Rattle.trace_words.specs.Numbers.{decimal_of, number_of, signed_of}
use Rattle.trace_words.specs.Data.{payload_of, access_of, hex_bytes}
use Rattle.trace_words.specs.Positions.{Position, Meaning, read, take_first, absent, source_of, destination_of, buffer, framebuffer, bind_target, object_kind, usage, format, pixel_format, pixel_type, point, attached, draw_buffer, draw_buffer_if_any, access, parameter, limit, u32, u64, i32, i64, flag, switch, handle, handle_or_zero, payload, payload_or_null, pixel_source, pixel_destination, wait_end, mask, filter, condition}
use Rattle.trace_text.specs.Grammar.{Arguments, arguments, form, least, call_of}
use Rattle.trace_text.specs.Spelling.{StandsFor, IsNumber, IsSource, IsDestination, IsWaitEnd, IsPayloadOrNull, IsGiven, flag_number, Spelled, SpelledAll, SpelledCall}
use Rattle.trace_text.proofs.Steps.{or_fault_some, bind_ok, map_some, ok_is}
use Rattle.trace_text.proofs.PayloadLaws.{payload_takes, payload_again}
use Rattle.trace_text.proofs.WordLaws.{meaning_takes, meaning_again, are_distinct, number_takes, number_again, signed_takes, signed_again}

-- ---- a word at a place

table_takes : {T : Type 0} (table : List (List ℕ × T)) (word : List ℕ) (x : T) → or_fault fault.Word (meaning table word) ≡ Ok x → StandsFor table word x
table_takes table word x e = meaning_takes table word x (or_fault_some fault.Word (meaning table word) x e)

table_again : {T : Type 0} (table : List (List ℕ × T)) (word : List ℕ) (x : T) → are_distinct table ≡ true → StandsFor table word x → or_fault fault.Word (meaning table word) ≡ Ok x
table_again table word x d h = rw (meaning_again table word x d h) refl

one_number : (low high : ℕ) (word : List ℕ) (n : ℕ) → or_fault fault.Number (number_of low high word) ≡ Ok n → IsNumber low high word n
one_number low high word n e = number_takes low high word n (or_fault_some fault.Number (number_of low high word) n e)

number_read : (low high : ℕ) (word : List ℕ) (n : ℕ) → high < 2 ^ 64 → IsNumber low high word n → or_fault fault.Number (number_of low high word) ≡ Ok n
number_read low high word n small h = rw (number_again low high word n small h) refl

flag_takes : (word : List ℕ) (b : Bool) → or_fault fault.Number (option_map (λ n. eqb n 1) (number_of 0 1 word)) ≡ Ok b → IsNumber 0 1 word (flag_number b)
flag_takes word b e =
    let m = map_some (λ n. eqb n 1) (number_of 0 1 word) b (or_fault_some fault.Number (option_map (λ n. eqb n 1) (number_of 0 1 word)) b e) in
    go m.0 b (number_takes 0 1 word m.0 m.1) m.2
  where
    go : (n : ℕ) (b : Bool) → IsNumber 0 1 word n → eqb n 1 ≡ b → IsNumber 0 1 word (flag_number b)
    go n true h e = subst (λ (k : ℕ). IsNumber 0 1 word k) (eqb-true n 1 e) h
    go n false h e = let none : n ≡ 0 = omega (arith, h, eqb-false n 1 e) in subst (λ (k : ℕ). IsNumber 0 1 word k) none h

flag_again : (word : List ℕ) (b : Bool) → IsNumber 0 1 word (flag_number b) → or_fault fault.Number (option_map (λ n. eqb n 1) (number_of 0 1 word)) ≡ Ok b
flag_again word true h = rw (number_again 0 1 word 1 (omega arith) h) refl
flag_again word false h = rw (number_again 0 1 word 0 (omega arith) h) refl

abbrev made : Payload → Result PixelSource Fault
made p = Ok (source.Client p)

abbrev nothing : Result PixelDestination Fault
nothing = Err fault.Word

no_plus : (cs : List ℕ) (p : Payload) → payload_of (43 ∷ cs) ≡ Ok p → ⊥
unfolding payload_of hex_bytes
no_plus [] p e = cc
no_plus (c ∷ cs) p e = cc

-- a key word, or else another reading
keyword : {A : Type 0} (word key : List ℕ) (x y : A) (other : Result A Fault) (b : Bool) → bytes_eq word key ≡ b → cond b (Ok x) other ≡ Ok y → ((word ≡ key) × (x ≡ y)) ⊎ (other ≡ Ok y)
keyword word key x y other true is e = inl ((bytes_eq-Decides word key).0 is, cc)
keyword word key x y other false is e = inr e

is_keyword : (word key : List ℕ) → word ≡ key → bytes_eq word key ≡ true
is_keyword word key e = (bytes_eq-Decides word key).1 e

-- what is read otherwise is not the key word
not_keyword : {A : Type 0} (reading : List ℕ → Result A Fault) (word key : List ℕ) (x : A) (f : Fault) (b : Bool) → bytes_eq word key ≡ b → reading word ≡ Ok x → reading key ≡ Err f → bytes_eq word key ≡ false
not_keyword reading word key x f true is e fails = let same : word ≡ key = (bytes_eq-Decides word key).0 is in let t : reading word ≡ Err f = ap reading same ∙ fails in absurd cc
not_keyword reading word key x f false is e fails = is

source_takes : (word : List ℕ) (s : PixelSource) → source_of word ≡ Ok s → IsSource word s
unfolding payload_of
source_takes [] s e = absurd cc
source_takes (c ∷ cs) s e = go (eqb c 43) refl e
  where
    client : (s : PixelSource) (x : (p : Payload) × (payload_of (c ∷ cs) ≡ Ok p) × (made p ≡ Ok s)) → IsSource (c ∷ cs) s
    client s x = let same : source.Client x.0 ≡ s = cc in subst (λ (y : PixelSource). IsSource (c ∷ cs) y) same (payload_takes (c ∷ cs) x.0 x.1)

    go : (b : Bool) → eqb c 43 ≡ b → cond b (or_fault fault.Number (option_map source.Offset (number_of 0 18446744073709551615 cs))) (payload_of (c ∷ cs) >>= made) ≡ Ok s → IsSource (c ∷ cs) s
    go true is e =
        let m = map_some source.Offset (number_of 0 18446744073709551615 cs) s (or_fault_some fault.Number (option_map source.Offset (number_of 0 18446744073709551615 cs)) s e) in
        subst (λ (y : PixelSource). IsSource (c ∷ cs) y) m.2 (cs, ap (λ (d : ℕ). d ∷ cs) (eqb-true c 43 is), number_takes 0 18446744073709551615 cs m.0 m.1)
    go false is e = client s (bind_ok (payload_of (c ∷ cs)) made s e)

client_again : (word : List ℕ) (p : Payload) → payload_of word ≡ Ok p → source_of word ≡ Ok (source.Client p)
unfolding payload_of
client_again [] p h = absurd cc
client_again (c ∷ cs) p h = go (eqb c 43) refl
  where
    go : (b : Bool) → eqb c 43 ≡ b → cond b (or_fault fault.Number (option_map source.Offset (number_of 0 18446744073709551615 cs))) (payload_of (c ∷ cs) >>= made) ≡ Ok (source.Client p)
    go true is = absurd (no_plus cs p (ap (λ (d : ℕ). payload_of (d ∷ cs)) (sym (eqb-true c 43 is)) ∙ h))
    go false is = ap (λ (r : Result Payload Fault). r >>= made) h

source_again : (word : List ℕ) (s : PixelSource) → IsSource word s → source_of word ≡ Ok s
source_again word (source.Client p) h = client_again word p (payload_again word p h)
source_again word (source.Offset n) h = ap source_of h.1 ∙ rw (number_again 0 18446744073709551615 h.0 n (omega arith) h.2) refl

destination_takes : (word : List ℕ) (s : PixelDestination) → destination_of word ≡ Ok s → IsDestination word s
destination_takes [] s e = absurd cc
destination_takes (c ∷ cs) s e = go (eqb c 43) refl e
  where
    client : ((c ∷ cs ≡ codes "client") × (destination.Client ≡ s)) ⊎ (nothing ≡ Ok s) → IsDestination (c ∷ cs) s
    client (inl h) = subst (λ (y : PixelDestination). IsDestination (c ∷ cs) y) h.1 h.0
    client (inr h) = absurd cc

    go : (b : Bool) → eqb c 43 ≡ b → cond b (or_fault fault.Number (option_map destination.Offset (number_of 0 18446744073709551615 cs))) (cond (bytes_eq (c ∷ cs) (codes "client")) (Ok destination.Client) nothing) ≡ Ok s → IsDestination (c ∷ cs) s
    go true is e =
        let m = map_some destination.Offset (number_of 0 18446744073709551615 cs) s (or_fault_some fault.Number (option_map destination.Offset (number_of 0 18446744073709551615 cs)) s e) in
        subst (λ (y : PixelDestination). IsDestination (c ∷ cs) y) m.2 (cs, ap (λ (d : ℕ). d ∷ cs) (eqb-true c 43 is), number_takes 0 18446744073709551615 cs m.0 m.1)
    go false is e = client (keyword (c ∷ cs) (codes "client") destination.Client s nothing (bytes_eq (c ∷ cs) (codes "client")) refl e)

destination_again : (word : List ℕ) (s : PixelDestination) → IsDestination word s → destination_of word ≡ Ok s
destination_again word destination.Client h = ap destination_of h
destination_again word (destination.Offset n) h = ap destination_of h.1 ∙ rw (number_again 0 18446744073709551615 h.0 n (omega arith) h.2) refl

abbrev until : List ℕ → Result WaitEnd Fault
until word = or_fault fault.Number (option_map wait.After (number_of 0 18446744073709551615 word))

until_takes : (word : List ℕ) (w : WaitEnd) → until word ≡ Ok w → IsWaitEnd word w
until_takes word w e =
    let m = map_some wait.After (number_of 0 18446744073709551615 word) w (or_fault_some fault.Number (option_map wait.After (number_of 0 18446744073709551615 word)) w e) in
    subst (λ (y : WaitEnd). IsWaitEnd word y) m.2 (number_takes 0 18446744073709551615 word m.0 m.1)

wait_end_takes : (word : List ℕ) (w : WaitEnd) → cond (bytes_eq word (codes "ignored")) (Ok wait.Ignored) (until word) ≡ Ok w → IsWaitEnd word w
wait_end_takes word w e = go (keyword word (codes "ignored") wait.Ignored w (until word) (bytes_eq word (codes "ignored")) refl e)
  where
    go : ((word ≡ codes "ignored") × (wait.Ignored ≡ w)) ⊎ (until word ≡ Ok w) → IsWaitEnd word w
    go (inl h) = subst (λ (y : WaitEnd). IsWaitEnd word y) h.1 h.0
    go (inr h) = until_takes word w h

ignored_is_no_number : until (codes "ignored") ≡ Err fault.Number
unfolding number_of decimal_of
ignored_is_no_number = refl

wait_end_again : (word : List ℕ) (w : WaitEnd) → IsWaitEnd word w → cond (bytes_eq word (codes "ignored")) (Ok wait.Ignored) (until word) ≡ Ok w
wait_end_again word wait.Ignored h = rw (is_keyword word (codes "ignored") h) refl
wait_end_again word (wait.After n) h =
    let e : until word ≡ Ok (wait.After n) = rw (number_again 0 18446744073709551615 word n (omega arith) h) refl in
    rw (not_keyword until word (codes "ignored") (wait.After n) fault.Number (bytes_eq word (codes "ignored")) refl e ignored_is_no_number) e

abbrev some_payload : Payload → Result (Option Payload) Fault
some_payload p = Ok (Some p)

null_takes : (word : List ℕ) (value : Option Payload) → cond (bytes_eq word (codes "null")) (Ok None) (payload_of word >>= some_payload) ≡ Ok value → IsPayloadOrNull word value
null_takes word value e = go (keyword word (codes "null") None value (payload_of word >>= some_payload) (bytes_eq word (codes "null")) refl e)
  where
    some : (x : (p : Payload) × (payload_of word ≡ Ok p) × (some_payload p ≡ Ok value)) → IsPayloadOrNull word value
    some x = let same : Some x.0 ≡ value = cc in subst (λ (y : Option Payload). IsPayloadOrNull word y) same (payload_takes word x.0 x.1)

    go : ((word ≡ codes "null") × (None ≡ value)) ⊎ ((payload_of word >>= some_payload) ≡ Ok value) → IsPayloadOrNull word value
    go (inl h) = subst (λ (y : Option Payload). IsPayloadOrNull word y) h.1 h.0
    go (inr h) = some (bind_ok (payload_of word) some_payload value h)

null_is_no_data : payload_of (codes "null") ≡ Err fault.Data
unfolding payload_of hex_bytes
null_is_no_data = refl

null_again : (word : List ℕ) (value : Option Payload) → IsPayloadOrNull word value → cond (bytes_eq word (codes "null")) (Ok None) (payload_of word >>= some_payload) ≡ Ok value
null_again word None h = rw (is_keyword word (codes "null") h) refl
null_again word (Some p) h =
    let e : payload_of word ≡ Ok p = payload_again word p h in
    rw (not_keyword payload_of word (codes "null") p fault.Data (bytes_eq word (codes "null")) refl e null_is_no_data, e) refl

abbrev one_buffer : DrawBuffer → Option DrawBuffer
one_buffer b = Some b

given_takes : (word : List ℕ) (value : Option DrawBuffer) → or_fault fault.Word (option_map one_buffer (meaning draw_buffers word)) ≡ Ok value → IsGiven word value
given_takes word value e =
    let m = map_some one_buffer (meaning draw_buffers word) value (or_fault_some fault.Word (option_map one_buffer (meaning draw_buffers word)) value e) in
    subst (λ (y : Option DrawBuffer). IsGiven word y) m.2 (meaning_takes draw_buffers word m.0 m.1)

given_again : (word : List ℕ) (value : Option DrawBuffer) → IsGiven word value → or_fault fault.Word (option_map one_buffer (meaning draw_buffers word)) ≡ Ok value
given_again word None h = absurd h
given_again word (Some b) h = rw (meaning_again draw_buffers word b refl h) refl

read_takes : (p : Position) (word : List ℕ) (value : Meaning p) → read p word ≡ Ok value → Spelled p word value
unfolding read
read_takes buffer word value e = table_takes buffers word value e
read_takes framebuffer word value e = table_takes framebuffers word value e
read_takes bind_target word value e = table_takes bind_targets word value e
read_takes object_kind word value e = table_takes object_kinds word value e
read_takes usage word value e = table_takes usages word value e
read_takes format word value e = table_takes formats word value e
read_takes pixel_format word value e = table_takes pixel_formats word value e
read_takes pixel_type word value e = table_takes pixel_types word value e
read_takes point word value e = table_takes points word value e
read_takes attached word value e = table_takes attached_objects word value e
read_takes draw_buffer word value e = table_takes draw_buffers word value e
read_takes draw_buffer_if_any word value e = given_takes word value e
read_takes access word value e = or_fault_some fault.Word (access_of word) value e
read_takes parameter word value e = table_takes parameters word value e
read_takes limit word value e = table_takes limits word value e
read_takes u32 word value e = one_number 0 4294967295 word value e
read_takes u64 word value e = one_number 0 18446744073709551615 word value e
read_takes i32 word value e = signed_takes 2147483648 word value (omega arith) (or_fault_some fault.Number (signed_of 2147483648 word) value e)
read_takes i64 word value e = signed_takes 9223372036854775808 word value (omega arith) (or_fault_some fault.Number (signed_of 9223372036854775808 word) value e)
read_takes flag word value e = flag_takes word value e
read_takes switch word value e = table_takes switches word value e
read_takes handle word value e = one_number 1 65535 word value e
read_takes handle_or_zero word value e = one_number 0 65535 word value e
read_takes payload word value e = payload_takes word value e
read_takes payload_or_null word value e = null_takes word value e
read_takes pixel_source word value e = source_takes word value e
read_takes pixel_destination word value e = destination_takes word value e
read_takes wait_end word value e = wait_end_takes word value e
read_takes mask word value e = table_takes masks word value e
read_takes filter word value e = table_takes filters word value e
read_takes condition word value e = table_takes conditions word value e

read_again : (p : Position) (word : List ℕ) (value : Meaning p) → Spelled p word value → read p word ≡ Ok value
unfolding read
read_again buffer word value h = table_again buffers word value refl h
read_again framebuffer word value h = table_again framebuffers word value refl h
read_again bind_target word value h = table_again bind_targets word value refl h
read_again object_kind word value h = table_again object_kinds word value refl h
read_again usage word value h = table_again usages word value refl h
read_again format word value h = table_again formats word value refl h
read_again pixel_format word value h = table_again pixel_formats word value refl h
read_again pixel_type word value h = table_again pixel_types word value refl h
read_again point word value h = table_again points word value refl h
read_again attached word value h = table_again attached_objects word value refl h
read_again draw_buffer word value h = table_again draw_buffers word value refl h
read_again draw_buffer_if_any word value h = given_again word value h
read_again access word value h = rw h refl
read_again parameter word value h = table_again parameters word value refl h
read_again limit word value h = table_again limits word value refl h
read_again u32 word value h = number_read 0 4294967295 word value (omega arith) h
read_again u64 word value h = number_read 0 18446744073709551615 word value (omega arith) h
read_again i32 word value h = rw (signed_again 2147483648 word value (omega arith) h) refl
read_again i64 word value h = rw (signed_again 9223372036854775808 word value (omega arith) h) refl
read_again flag word value h = flag_again word value h
read_again switch word value h = table_again switches word value refl h
read_again handle word value h = number_read 1 65535 word value (omega arith) h
read_again handle_or_zero word value h = number_read 0 65535 word value (omega arith) h
read_again payload word value h = payload_again word value h
read_again payload_or_null word value h = null_again word value h
read_again pixel_source word value h = source_again word value h
read_again pixel_destination word value h = destination_again word value h
read_again wait_end word value h = wait_end_again word value h
read_again mask word value h = table_again masks word value refl h
read_again filter word value h = table_again filters word value refl h
read_again condition word value h = table_again conditions word value refl h

-- ---- the words of a call

abbrev made_call : (word : CallWord) → Arguments (form word).positions → Result Call Fault
made_call word values = Ok ((form word).call values)

abbrev allowed : Result (Unit {0}) Fault
allowed = Ok tt

abbrev refused : Result (Unit {0}) Fault
refused = Err fault.Count

abbrev and_words : (p : Position) → List (List ℕ) → Meaning p → Result (Meaning p × List (List ℕ)) Fault
and_words p words value = Ok (value, words)

abbrev and_others : (p : Position) (ps : List Position) → Meaning p × List (List ℕ) → Result (Arguments (p ∷ ps)) Fault
and_others p ps first = arguments ps first.1 >>= λ others. Ok (first.0, others)

abbrev paired : (p : Position) (ps : List Position) → Meaning p → Arguments ps → Result (Arguments (p ∷ ps)) Fault
paired p ps value others = Ok (value, others)

-- what is read of the first word, and then of the others
then_others : (p : Position) (ps : List Position) (words left : List (List ℕ)) (value : Meaning p) (values : Arguments (p ∷ ps)) → (take_first p words >>= and_others p ps) ≡ Ok values → take_first p words ≡ Ok (value, left)
    → (arguments ps left ≡ Ok values.1) × (value ≡ values.0)
then_others p ps words left value values e first =
    let one : and_others p ps (value, left) ≡ Ok values = ap (λ (r : Result (Meaning p × List (List ℕ)) Fault). r >>= and_others p ps) (sym first) ∙ e in
    let b = bind_ok (arguments ps left) (paired p ps value) values one in
    let same = ok_is (value, b.0) values b.2 in
    (b.1 ∙ ap (λ (v : Arguments (p ∷ ps)). Ok v.1) same, ap (λ (v : Arguments (p ∷ ps)). v.0) same)

arguments_take : (ps : List Position) (words : List (List ℕ)) (values : Arguments ps) → length words ≤ length ps → arguments ps words ≡ Ok values → SpelledAll ps words values
unfolding take_first
arguments_take [] [] values le e = tt
arguments_take [] (w ∷ ws) values le e = absurd (omega arith)
arguments_take (p ∷ ps) [] values le e =
    let a = bind_ok (take_first p []) (and_others p ps) values e in
    let b = bind_ok (or_fault fault.Count (absent p)) (and_words p []) a.0 a.1 in
    let t = then_others p ps [] [] b.0 values e (ap (λ (r : Result (Meaning p) Fault). r >>= and_words p []) b.1) in
    (or_fault_some fault.Count (absent p) b.0 b.1 ∙ ap (λ (v : Meaning p). Some v) t.1, arguments_take ps [] values.1 (omega arith) t.0)
arguments_take (p ∷ ps) (w ∷ ws) values le e =
    let a = bind_ok (take_first p (w ∷ ws)) (and_others p ps) values e in
    let b = bind_ok (read p w) (and_words p ws) a.0 a.1 in
    let t = then_others p ps (w ∷ ws) ws b.0 values e (ap (λ (r : Result (Meaning p) Fault). r >>= and_words p ws) b.1) in
    (subst (λ (v : Meaning p). Spelled p w v) t.1 (read_takes p w b.0 b.1), arguments_take ps ws values.1 (omega arith) t.0)

arguments_again : (ps : List Position) (words : List (List ℕ)) (values : Arguments ps) → SpelledAll ps words values → arguments ps words ≡ Ok values
unfolding take_first
arguments_again [] [] values h = refl
arguments_again [] (w ∷ ws) values h = absurd h
arguments_again (p ∷ ps) [] values h = rw (h.0, arguments_again ps [] values.1 h.1) refl
arguments_again (p ∷ ps) (w ∷ ws) values h = rw (read_again p w values.0 h.0, arguments_again ps ws values.1 h.1) refl

least_le : (b : Bool) (n m : ℕ) → n ≤ m → cond b n (n + 1) ≤ suc m
least_le true n m h = omega arith
least_le false n m h = omega arith

-- as many words as the call has places, but for the last ones
count_fits : (ps : List Position) (words : List (List ℕ)) (values : Arguments ps) → SpelledAll ps words values → (least ps ≤ length words) × (length words ≤ length ps)
count_fits [] [] values h = (omega arith, omega arith)
count_fits [] (w ∷ ws) values h = absurd h
count_fits (p ∷ ps) [] values h = let t = count_fits ps [] values.1 h.1 in (rw h.0 t.0, omega arith)
count_fits (p ∷ ps) (w ∷ ws) values h = let t = count_fits ps ws values.1 h.1 in (least_le (is_some (absent p)) (least ps) (length ws) t.0, omega (arith, t.1))

-- ---- a call

abbrev then_call : CallWord → List (List ℕ) → Unit {0} → Result Call Fault
then_call word words done = arguments (form word).positions words >>= made_call word

between_ok : (low high : ℕ) (words : List (List ℕ)) (done : Unit {0}) → between low high words ≡ Ok done → (low ≤ length words) × (length words ≤ high)
between_ok low high words done e = go (leb low (length words) && leb (length words) high) refl e
  where
    go : (b : Bool) → (leb low (length words) && leb (length words) high) ≡ b → cond b allowed refused ≡ Ok done → (low ≤ length words) × (length words ≤ high)
    go true is e = let p = and_parts (leb low (length words)) (leb (length words) high) is in (leb-true _ _ p.0, leb-true _ _ p.1)
    go false is e = absurd cc

pub call_takes : (word : CallWord) (words : List (List ℕ)) (c : Call) → call_of word words ≡ Ok c → SpelledCall word words c
unfolding call_of
call_takes word words c e =
    let a = bind_ok (between (least (form word).positions) (length (form word).positions) words) (then_call word words) c e in
    let n = between_ok (least (form word).positions) (length (form word).positions) words a.0 a.1 in
    let b = bind_ok (arguments (form word).positions words) (made_call word) c a.2 in
    record { values = b.0; spelled = arguments_take (form word).positions words b.0 n.1 b.1; made = sym (ok_is ((form word).call b.0) c b.2) }

pub call_again : (word : CallWord) (words : List (List ℕ)) (c : Call) → SpelledCall word words c → call_of word words ≡ Ok c
unfolding call_of
call_again word words c h =
    let n = count_fits (form word).positions words h.values h.spelled in
    rw (le-leb _ _ n.0, le-leb _ _ n.1, arguments_again (form word).positions words h.values h.spelled, h.made) refl
