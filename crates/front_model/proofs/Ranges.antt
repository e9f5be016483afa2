-- What a call names where it is accepted: of each row of its refusals the condition does not hold.
use Rattle.std.proofs.Common.{◌≡◌, ℕ, ℤ, pos, negsuc, ◌+◌, ◌<◌, ◌≤◌, ◌==◌, ◌&&◌, ◌||◌, ◌⊎◌, inl, inr, Bool, true, false, not, nat_lt, Option, Some, None, is_some, is_none, List, [], ◌∷◌, IfSome, unsigned_abs, refl, ap, sym, ◌∙◌, arith, if◌then◌else◌}
use Rattle.std.specs.Option.{option_map_or}
use Rattle.std.proofs.lemmas.Bool.{cases_lt}
use Rattle.std.proofs.lemmas.Grind.{common_steps}
use Rattle.gl_calls.specs.declared.call.Call.{Call}
use Rattle.gl_calls.specs.declared.call.Call.TheVariants as call
use Rattle.gl_calls.specs.declared.payload.Payload.{Payload}
use Rattle.gl_calls.specs.declared.words.BufferTarget.{BufferTarget}
use Rattle.gl_calls.specs.declared.words.AccessWord.{AccessWord}
use Rattle.gl_calls.specs.declared.words.Usage.{Usage}
use Rattle.gl_calls.specs.Egl.{is_egl_call}
use Rattle.gl_calls.specs.Words.{payload_len, is_other_buffer}
use Rattle.tables.specs.Table.{entry}
use Rattle.gl_model.specs.declared.objects.BufferFacts.{BufferFacts}
use Rattle.gl_model.specs.declared.objects.Mapped.{Mapped}
use Rattle.gl_model.specs.declared.state.Context.{Context}
use Rattle.gl_model.specs.declared.state.GroupState.{GroupState}
use Rattle.gl_model.specs.Bindings.{current_context, buffer_binding, buffer_of, bound_buffer, same_option}
use Rattle.gl_model.specs.BufferRows.{size_of, map_len, is_mapped, is_past, gap}
use Rattle.gl_model.specs.GroupModel.{GroupModel}
use Rattle.gl_model.specs.Refusal.{gl_refusal, gl_rows}
use Rattle.gl_model.specs.RefusalRows.{Row, first_row, is_negative}
use Rattle.gl_model.specs.Sizes.{HasSizes}
use Rattle.front_model.specs.Wanted.{IsAccepted, IsBound, HasBound, HasMapRange, IsPositive}

-- no row holds
abbrev pub NoneHolds : List Row → Type 0
NoneHolds [] = Unit {0}
NoneHolds (row ∷ rows) = (row.0 ≡ false) × NoneHolds rows

row_fails : (row : Row) (rows : List Row) → first_row (row ∷ rows) ≡ None → (row.0 ≡ false) × (first_row rows ≡ None)
row_fails row rows h = by_case row.0 refl h
  where
    by_case : (c : Bool) → row.0 ≡ c → (if c then Some row.1 else first_row rows) ≡ None → (row.0 ≡ false) × (first_row rows ≡ None)
    by_case true is h = let bad : ⊥ = cc in absurd bad
    by_case false is h = (is, h)

pub none_holds : (rows : List Row) → first_row rows ≡ None → NoneHolds rows
none_holds [] h = tt
none_holds (row ∷ rows) h = let r : (row.0 ≡ false) × (first_row rows ≡ None) = row_fails row rows h in (r.0, none_holds rows r.1)

-- the rows of an accepted call
pub rows_fail : {state : GroupModel} {thread : ℕ} {asked : Call} {context : Context} → IsAccepted state thread asked context → is_egl_call asked ≡ false → NoneHolds (gl_rows state.group context asked)
rows_fail {state} {thread} {asked} {context} accepted gl =
    let here : gl_refusal state.group (current_context state.group thread) asked ≡ None = rw gl at accepted.accepted in
    none_holds (gl_rows state.group context asked) (ap (λ o. gl_refusal state.group o asked) (sym accepted.current) ∙ here)

-- Tests

pub neither : (a b : Bool) → (a || b) ≡ false → (a ≡ false) × (b ≡ false)
neither true b h = let bad : ⊥ = cc in absurd bad
neither false b h = (refl, h)

none_of : (a b c : Bool) → (a || b || c) ≡ false → (a ≡ false) × (b ≡ false) × (c ≡ false)
none_of true true c h = let bad : ⊥ = cc in absurd bad
none_of true false c h = let bad : ⊥ = cc in absurd bad
none_of false true c h = let bad : ⊥ = cc in absurd bad
none_of false false c h = (refl, refl, h)

not_false : (b : Bool) → not b ≡ false → b ≡ true
not_false true h = refl
not_false false h = let bad : ⊥ = cc in absurd bad

none_there : (o : Option Mapped) → is_some o ≡ false → o ≡ None
none_there None h = refl
none_there (Some m) h = let bad : ⊥ = cc in absurd bad

pub at_most : (a b : ℕ) → nat_lt a b ≡ false → b ≤ a
at_most a b h = grind (arith, common_steps)

is_positive : (z : ℤ) → is_negative z ≡ false → IsPositive z
is_positive (pos n) h = refl
is_positive (negsuc n) h = let bad : ⊥ = cc in absurd bad

-- What is bound

-- the buffer that is bound, from a test that there is one
found : (group : GroupState) (context : Context) (target : BufferTarget) (P : ℕ → BufferFacts → Type 0) → is_none (bound_buffer group context target) ≡ false → ((b : ℕ) (f : BufferFacts) → IsBound group context target b f → bound_buffer group context target ≡ Some f → P b f) → HasBound group context target P
found group context target P some holds = by_binding (buffer_binding context target) refl some
  where
    by_entry : (b : ℕ) → buffer_binding context target ≡ Some b → (o : Option BufferFacts) → entry b group.buffers ≡ o → is_none o ≡ false → HasBound group context target P
    by_entry b is None there h = let bad : ⊥ = cc in absurd bad
    by_entry b is (Some f) there h =
        let bound : IsBound group context target b f = record { bound = is; is = there } in
        record { b = b; facts = f; is_bound = bound; holds = holds b f bound (ap (buffer_of group) is ∙ there) }

    by_binding : (o : Option ℕ) → buffer_binding context target ≡ o → is_none (buffer_of group o) ≡ false → HasBound group context target P
    by_binding None is h = let bad : ⊥ = cc in absurd bad
    by_binding (Some b) is h = by_entry b is (entry b group.buffers) refl h

-- it is not mapped
free_map : {bound : Option BufferFacts} {f : BufferFacts} → bound ≡ Some f → is_mapped bound ≡ false → f.map ≡ None
free_map {bound} {f} is h = none_there f.map (ap is_mapped (sym is) ∙ h)

-- a range that does not reach past its end
in_size : {bound : Option BufferFacts} {f : BufferFacts} (at : ℤ) (len : ℕ) → bound ≡ Some f → is_past at len (size_of bound) ≡ false → unsigned_abs at + len ≤ f.size
in_size {bound} {f} at len is h = at_most f.size (unsigned_abs at + len) (ap (λ o. is_past at len (size_of o)) (sym is) ∙ h)

-- a range that does not reach past the end of its map
map_range : {state : GroupModel} {context : Context} {target : BufferTarget} {b : ℕ} {f : BufferFacts} (at : ℤ) (len : ℕ) → HasSizes state → IsBound state.group context target b f → is_some f.map ≡ true → is_past at len (map_len (Some f)) ≡ false → HasMapRange f (unsigned_abs at) len
map_range {state} {context} {target} {b} {f} at len sizes bound some past = by_map f.map refl some past (sizes.stores b f bound.is).map
  where
    by_map : (o : Option Mapped) → f.map ≡ o → is_some o ≡ true → is_past at len (option_map_or (λ m. m.len) o 0) ≡ false → IfSome o (λ m. m.at + m.len ≤ f.size) → HasMapRange f (unsigned_abs at) len
    by_map None is h past inside = let bad : ⊥ = cc in absurd bad
    by_map (Some m) is h past inside = record { mapped = m; map = is; in_map = at_most m.len (unsigned_abs at + len) past; in_buffer = inside }

-- Calls

pub data_range : (state : GroupModel) (thread : ℕ) (context : Context) (target : BufferTarget) (size : ℤ) (usage : Usage) (payload : Option Payload) → IsAccepted state thread (call.BufferData target size usage payload) context → IsPositive size × HasBound state.group context target (λ b facts. Unit {0})
data_range state thread context target size usage payload accepted =
    let rows = rows_fail accepted refl in
    (is_positive size rows.1.0, found state.group context target (λ b facts. Unit {0}) rows.1.1.1.0 (λ b f bound is. tt))

pub sub_range : (state : GroupModel) (thread : ℕ) (context : Context) (target : BufferTarget) (offset : ℤ) (payload : Payload) → IsAccepted state thread (call.BufferSubData target offset payload) context → HasBound state.group context target (λ b facts. (facts.map ≡ None) × (unsigned_abs offset + payload_len payload ≤ facts.size))
sub_range state thread context target offset payload accepted =
    let rows = rows_fail accepted refl in
    found state.group context target (λ b facts. (facts.map ≡ None) × (unsigned_abs offset + payload_len payload ≤ facts.size)) rows.1.1.0
    (λ b f bound is. (free_map is rows.1.1.1.0, in_size offset (payload_len payload) is rows.1.1.1.1.0))

-- two ranges of one buffer are apart
ranges_apart : (same : Bool) (read write size : ℕ) → (same && nat_lt 0 size && nat_lt (gap read write) size) ≡ false → same ≡ true → (read + size ≤ write) ⊎ (write + size ≤ read)
ranges_apart true read write size h is = by_side (cases_lt read write)
  where
    far : size ≤ gap read write
    far = grind (arith, common_steps)

    by_side : (read < write) ⊎ (write ≤ read) → (read + size ≤ write) ⊎ (write + size ≤ read)
    by_side (inl low) = inl (omega (arith, far))
    by_side (inr high) = inr (omega (arith, far))
ranges_apart false read write size h is = let bad : ⊥ = cc in absurd bad

same_numbers : {one two : Option ℕ} (a b : ℕ) → one ≡ Some a → two ≡ Some b → a ≡ b → same_option one two ≡ true
same_numbers a b one two same = rw (one, two, same) (grind (arith, common_steps))

pub copy_range : (state : GroupModel) (thread : ℕ) (context : Context) (from to : BufferTarget) (read write size : ℤ) → IsAccepted state thread (call.CopyBufferSubData from to read write size) context → HasBound state.group context from (λ r source. (source.map ≡ None) × (unsigned_abs read + unsigned_abs size ≤ source.size) × HasBound state.group context to (λ w target. (target.map ≡ None) × (unsigned_abs write + unsigned_abs size ≤ target.size) × (r ≡ w → (unsigned_abs read + unsigned_abs size ≤ unsigned_abs write) ⊎ (unsigned_abs write + unsigned_abs size ≤ unsigned_abs read))))
copy_range state thread context from to read write size accepted =
    let group = state.group in
    let rows = rows_fail accepted refl in
    let some = neither (is_none (bound_buffer group context from)) (is_none (bound_buffer group context to)) rows.1.1.0 in
    let free = neither (is_mapped (bound_buffer group context from)) (is_mapped (bound_buffer group context to)) rows.1.1.1.0 in
    let short = neither (is_past read (unsigned_abs size) (size_of (bound_buffer group context from))) (is_past write (unsigned_abs size) (size_of (bound_buffer group context to))) rows.1.1.1.1.0 in
    found group context from (λ r source. (source.map ≡ None) × (unsigned_abs read + unsigned_abs size ≤ source.size) × HasBound group context to (λ w target. (target.map ≡ None) × (unsigned_abs write + unsigned_abs size ≤ target.size) × (r ≡ w → (unsigned_abs read + unsigned_abs size ≤ unsigned_abs write) ⊎ (unsigned_abs write + unsigned_abs size ≤ unsigned_abs read)))) some.0
    (λ r source bound is. (
      free_map is free.0,
      in_size read (unsigned_abs size) is short.0,
      found group context to (λ w target. (target.map ≡ None) × (unsigned_abs write + unsigned_abs size ≤ target.size) × (r ≡ w → (unsigned_abs read + unsigned_abs size ≤ unsigned_abs write) ⊎ (unsigned_abs write + unsigned_abs size ≤ unsigned_abs read))) some.1
          (λ w target other there. (
            free_map there free.1,
            in_size write (unsigned_abs size) there short.1,
            λ same. ranges_apart (same_option (buffer_binding context from) (buffer_binding context to)) (unsigned_abs read) (unsigned_abs write) (unsigned_abs size) rows.1.1.1.1.1.0
                (same_numbers r w bound.bound other.bound same),
          )),
    ))

not_zero : (n : ℕ) → (n == 0) ≡ false → 1 ≤ n
not_zero n h = grind (arith, common_steps)

pub map_range_of : (state : GroupModel) (thread : ℕ) (context : Context) (target : BufferTarget) (offset len : ℤ) (access : AccessWord) → IsAccepted state thread (call.MapBufferRange target offset len access) context → HasBound state.group context target (λ b facts. (facts.map ≡ None) × (1 ≤ unsigned_abs len) × (unsigned_abs offset + unsigned_abs len ≤ facts.size))
map_range_of state thread context target offset len access accepted =
    let rows = rows_fail accepted refl in
    found state.group context target (λ b facts. (facts.map ≡ None) × (1 ≤ unsigned_abs len) × (unsigned_abs offset + unsigned_abs len ≤ facts.size)) rows.1.1.1.0
    (λ b f bound is. (free_map is rows.1.1.1.1.1.1.0, not_zero (unsigned_abs len) rows.1.1.1.1.1.0, in_size offset (unsigned_abs len) is rows.1.1.1.1.0))

pub read_range : (state : GroupModel) (thread : ℕ) (context : Context) (target : BufferTarget) (offset len : ℤ) → IsAccepted state thread (call.MapRead target offset len) context → HasBound state.group context target (λ b facts. HasMapRange facts (unsigned_abs offset) (unsigned_abs len))
read_range state thread context target offset len accepted =
    let rows = rows_fail accepted refl in
    let bound = bound_buffer state.group context target in
    let there = none_of (is_other_buffer target) (is_none bound) (not (is_mapped bound)) rows.0 in
    found state.group context target (λ b facts. HasMapRange facts (unsigned_abs offset) (unsigned_abs len)) there.1
    (λ b f is_bound is.
    map_range {state = state} offset (unsigned_abs len) accepted.sizes is_bound (ap is_mapped (sym is) ∙ not_false (is_mapped bound) there.2)
    (ap (λ o. is_past offset (unsigned_abs len) (map_len o)) (sym is) ∙ rows.1.1.0))

pub write_range : (state : GroupModel) (thread : ℕ) (context : Context) (target : BufferTarget) (offset : ℤ) (payload : Payload) → IsAccepted state thread (call.MapWrite target offset payload) context → HasBound state.group context target (λ b facts. HasMapRange facts (unsigned_abs offset) (payload_len payload))
write_range state thread context target offset payload accepted =
    let rows = rows_fail accepted refl in
    let bound = bound_buffer state.group context target in
    let there = none_of (is_other_buffer target) (is_none bound) (not (is_mapped bound)) rows.0 in
    found state.group context target (λ b facts. HasMapRange facts (unsigned_abs offset) (payload_len payload)) there.1
    (λ b f is_bound is.
    map_range {state = state} offset (payload_len payload) accepted.sizes is_bound (ap is_mapped (sym is) ∙ not_false (is_mapped bound) there.2)
    (ap (λ o. is_past offset (payload_len payload) (map_len o)) (sym is) ∙ rows.1.1.0))
