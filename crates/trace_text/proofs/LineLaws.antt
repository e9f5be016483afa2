-- The lines of a text that is read spell the trace, and lines that spell a trace are read.
use Rattle.std.proofs.Common.{◌≡◌, ℕ, ◌+◌, ◌<◌, ◌≤◌, ◌^◌, Bool, true, false, cond, eqb, ltb, leb, ◌&&◌, List, [], ◌∷◌, ◌++◌, length, Option, Some, None, Result, Ok, Err, refl, sym, ap, subst, ◌∙◌, inl, inr}
use Rattle.std.specs.Prelude.{slice_get, option_and_then, not}
use Rattle.std.specs.List.{list_all}
use Rattle.std.specs.Fmt.{decimal}
use Rattle.std.proofs.lemmas.Bool.{and_parts, eqb-true, eq-eqb, ltb-true, lt-ltb, leb-true, le-leb}
use Rattle.std.proofs.lemmas.Option.{cond_some}
use Rattle.gl_calls.specs.declared.call.Call.{Call}
use Rattle.trace_text.specs.declared.call_word.CallWord.{CallWord}
use Rattle.trace_words.specs.declared.fault.Fault.{Fault}
use Rattle.trace_words.specs.declared.fault.Fault.TheVariants as fault
use Rattle.trace_words.specs.Faults.{◌>>=◌, or_fault}
use Rattle.trace_words.specs.Lexing.{after_at}
use Rattle.trace_words.specs.Numbers.{decimal_of}
use Rattle.trace_words.specs.Tables.{meaning}
use Rattle.trace_text.specs.CallWords.{call_words}
use Rattle.trace_text.specs.Grammar.{call_of}
use Rattle.trace_text.specs.Limits.{has_its_length, is_in_profile, cost_of}
use Rattle.trace_text.specs.Reading.{Plan, State, with_line, is_owned, thread_of, earlier_line, after_of, call_word_of, sound_call, call_line}
use Rattle.trace_text.specs.Spelling.{StandsFor, SpelledCall}
use Rattle.trace_text.specs.Traces.{IsAfter, after_words, IsCallLine}
use Rattle.trace_text.proofs.WordLaws.{meaning_takes, meaning_again, decimal_takes, decimal_again}
use Rattle.trace_text.proofs.Steps.{bind_ok, or_fault_some, then_some, kept, ok_is, some_is}
use Rattle.trace_text.proofs.CallLaws.{call_takes, call_again}

-- ---- the thread

abbrev numbered : ℕ → Plan → Option (ℕ × Plan)
numbered n p = Some (n, p)

thread_takes : (s : State) (word : List ℕ) (t : ℕ × Plan) → thread_of s word ≡ Some t → (word ≡ decimal t.0) × (t.0 < 2 ^ 64) × (slice_get s.threads t.0 ≡ Some t.1)
unfolding thread_of
thread_takes s word t e =
    let a = then_some (λ n. option_and_then (numbered n) (slice_get s.threads n)) (decimal_of word) t e in
    let b = then_some (numbered a.0) (slice_get s.threads a.0) t a.2 in
    let d = decimal_takes word a.0 a.1 in
    subst (λ (x : ℕ × Plan). (word ≡ decimal x.0) × (x.0 < 2 ^ 64) × (slice_get s.threads x.0 ≡ Some x.1)) (some_is (a.0, b.0) t b.2) (d.0, d.1, b.1)

thread_again : (s : State) (n : ℕ) (p : Plan) → n < 2 ^ 64 → slice_get s.threads n ≡ Some p → thread_of s (decimal n) ≡ Some (n, p)
unfolding thread_of
thread_again s n p small h = rw (decimal_again n small, h) refl

-- ---- the line before the call

owned_is : (o : Option (Option ℕ)) (group : ℕ) → is_owned o group ≡ true → o ≡ Some (Some group)
owned_is None group e = absurd cc
owned_is (Some None) group e = absurd cc
owned_is (Some (Some owner)) group e = ap (λ (g : ℕ). Some (Some g)) (eqb-true owner group e)

earlier_takes : (s : State) (group : ℕ) (word : List ℕ) (n : ℕ) → earlier_line s group word ≡ Some n → (word ≡ decimal n) × IsAfter s group (Some n)
unfolding earlier_line
earlier_takes s group word n e =
    let a = then_some (λ m. cond (is_owned (slice_get s.owners m) group) (Some m) None) (decimal_of word) n e in
    let g = cond_some (is_owned (slice_get s.owners a.0) group) a.0 n a.2 in
    let d = decimal_takes word a.0 a.1 in
    subst (λ (x : ℕ). (word ≡ decimal x) × IsAfter s group (Some x)) g.1 (d.0, (d.1, owned_is (slice_get s.owners a.0) group g.0))

earlier_again : (s : State) (group n : ℕ) → IsAfter s group (Some n) → earlier_line s group (decimal n) ≡ Some n
unfolding earlier_line
earlier_again s group n h = rw (decimal_again n h.0, h.1, eq-eqb group group refl) refl

abbrev some_line : ℕ → Result (Option ℕ) Fault
some_line n = Ok (Some n)

abbrev parts : Bool → ℕ → List ℕ → List (List ℕ) → Option (List ℕ) × List (List ℕ)
parts b c cs words = cond b (Some cs, words) (None, (c ∷ cs) ∷ words)

-- a first word with a byte
first_word : (s : State) (group c : ℕ) (cs : List ℕ) (words : List (List ℕ)) (after : Option ℕ) (b : Bool) → eqb c 64 ≡ b → after_of s group (parts b c cs words).0 ≡ Ok after
    → IsAfter s group after × ((c ∷ cs) ∷ words ≡ after_words after ++ (parts b c cs words).1)
first_word s group c cs words after true is e =
    let a = bind_ok (or_fault fault.Profile (earlier_line s group cs)) some_line after e in
    let t = earlier_takes s group cs a.0 (or_fault_some fault.Profile (earlier_line s group cs) a.0 a.1) in
    let spelled : (c ∷ cs) ∷ words ≡ after_words (Some a.0) ++ words = ap (λ (w : List ℕ). w ∷ words) (ap (λ (d : ℕ). d ∷ cs) (eqb-true c 64 is) ∙ ap (λ (w : List ℕ). 64 ∷ w) t.0) in
    subst (λ (x : Option ℕ). IsAfter s group x × ((c ∷ cs) ∷ words ≡ after_words x ++ words)) (ok_is (Some a.0) after a.2) (t.1, spelled)
first_word s group c cs words after false is e =
    subst (λ (x : Option ℕ). IsAfter s group x × ((c ∷ cs) ∷ words ≡ after_words x ++ ((c ∷ cs) ∷ words))) (ok_is None after e) (tt, refl)

-- the words of the line before the call, and the words after them
after_takes : (s : State) (group : ℕ) (words : List (List ℕ)) (after : Option ℕ) → after_of s group (after_at words).0 ≡ Ok after → IsAfter s group after × (words ≡ after_words after ++ (after_at words).1)
unfolding after_at
after_takes s group [] after e = subst (λ (a : Option ℕ). IsAfter s group a × ([] ≡ after_words a ++ [])) (ok_is None after e) (tt, refl)
after_takes s group ([] ∷ words) after e = subst (λ (a : Option ℕ). IsAfter s group a × ([] ∷ words ≡ after_words a ++ ([] ∷ words))) (ok_is None after e) (tt, refl)
after_takes s group ((c ∷ cs) ∷ words) after e = first_word s group c cs words after (eqb c 64) refl e

-- what does not begin with `@` is no line before the call
abbrev IsPlain : List (List ℕ) → Type 0
IsPlain words = after_at words ≡ (None, words)

after_again : (s : State) (group : ℕ) (after : Option ℕ) (words : List (List ℕ)) → IsPlain words → IsAfter s group after
    → (after_of s group (after_at (after_words after ++ words)).0 ≡ Ok after) × ((after_at (after_words after ++ words)).1 ≡ words)
unfolding after_at
after_again s group None words plain h = (ap (λ (x : Option (List ℕ) × List (List ℕ)). after_of s group x.0) plain, ap (λ (x : Option (List ℕ) × List (List ℕ)). x.1) plain)
after_again s group (Some n) words plain h = (rw (earlier_again s group n h) refl, refl)

abbrev plain_word : List ℕ → Bool
plain_word [] = true
plain_word (c ∷ cs) = not (eqb c 64)

not_true : (b : Bool) → not b ≡ true → b ≡ false
not_true true e = absurd cc
not_true false e = refl

plain_is : (word : List ℕ) (words : List (List ℕ)) → plain_word word ≡ true → IsPlain (word ∷ words)
unfolding after_at
plain_is [] words e = refl
plain_is (c ∷ cs) words e = rw (not_true (eqb c 64) e) refl

plain_in : {T : Type 0} (table : List (List ℕ × T)) (word : List ℕ) (x : T) (words : List (List ℕ)) → list_all (λ entry. plain_word entry.0) table ≡ true → StandsFor table word x → IsPlain (word ∷ words)
plain_in [] word x words all h = absurd h
plain_in (entry ∷ others) word x words all (inl same) =
    plain_is word words (ap plain_word same.0 ∙ (and_parts (plain_word entry.0) (list_all (λ e. plain_word e.0) others) all).0)
plain_in (entry ∷ others) word x words all (inr later) =
    plain_in others word x words (and_parts (plain_word entry.0) (list_all (λ e. plain_word e.0) others) all).1 later

-- No call word begins with `@`.
word_is_plain : (word : List ℕ) (w : CallWord) (words : List (List ℕ)) → StandsFor call_words word w → IsPlain (word ∷ words)
word_is_plain word w words h = plain_in call_words word w words refl h

-- ---- the call

abbrev then_sound : Call → Result Call Fault
then_sound call = cond (has_its_length call) (cond (is_in_profile call) (kept call) (Err fault.Profile)) (Err fault.Length)

sound_is : (call c : Call) (b d : Bool) → has_its_length call ≡ b → is_in_profile call ≡ d → cond b (cond d (kept call) (Err fault.Profile)) (Err fault.Length) ≡ Ok c → (has_its_length call ≡ true) × (is_in_profile call ≡ true) × (call ≡ c)
sound_is call c true true b d e = (b, d, ok_is call c e)
sound_is call c true false b d e = absurd cc
sound_is call c false d b is e = absurd cc

-- the call word, and the call that its words spell
pub record IsSoundCall (words : List (List ℕ)) (c : Call) : Type 0 where
  pub word : List ℕ
  pub call_word : CallWord
  pub arguments : List (List ℕ)
  pub words_are : words ≡ word ∷ arguments
  pub is_word : StandsFor call_words word call_word
  pub is_call : SpelledCall call_word arguments c
  pub length_fits : has_its_length c ≡ true
  pub in_profile : is_in_profile c ≡ true

abbrev call_of_words : List (List ℕ) → CallWord → Result Call Fault
call_of_words words w = call_of w words

sound_takes : (words : List (List ℕ)) (c : Call) → sound_call words ≡ Ok c → IsSoundCall words c
unfolding sound_call
sound_takes [] c e = absurd cc
sound_takes (word ∷ words) c e =
    let a = bind_ok (call_word_of (word ∷ words)) then_sound c e in
    let t = sound_is a.0 c (has_its_length a.0) (is_in_profile a.0) refl refl a.2 in
    let b = bind_ok (or_fault fault.Word (meaning call_words word)) (call_of_words words) a.0 a.1 in
    subst (λ (x : Call). IsSoundCall (word ∷ words) x) t.2 (record {
      word = word;
      call_word = b.0;
      arguments = words;
      words_are = refl;
      is_word = meaning_takes call_words word b.0 (or_fault_some fault.Word (meaning call_words word) b.0 b.1);
      is_call = call_takes b.0 words a.0 b.2;
      length_fits = t.0;
      in_profile = t.1;
    })

sound_again : (words : List (List ℕ)) (c : Call) → IsSoundCall words c → sound_call words ≡ Ok c
unfolding sound_call
sound_again words c h =
    ap sound_call h.words_are ∙ rw (meaning_again call_words h.word h.call_word refl h.is_word, call_again h.call_word h.arguments c h.is_call, h.length_fits, h.in_profile) refl

-- ---- the line of a call

abbrev then_line : State → ℕ × Plan → Option ℕ → Call → Result State Fault
then_line s thread after call = cond (ltb (length thread.1.lines) 65536 && leb (s.cost + cost_of call) 268435456) (kept (with_line thread (record { number = length s.owners; after = after; call = call }) s)) (Err fault.TooLong)

abbrev then_after : State → List (List ℕ) → ℕ × Plan → Result State Fault
then_after s words thread = after_of s thread.1.group (after_at words).0 >>= λ after. sound_call (after_at words).1 >>= λ call. then_line s thread after call

line_is : (s t : State) (thread : ℕ × Plan) (after : Option ℕ) (call : Call) → then_line s thread after call ≡ Ok t
    → (length thread.1.lines < 65536) × (s.cost + cost_of call ≤ 268435456) × (with_line thread (record { number = length s.owners; after = after; call = call }) s ≡ t)
line_is s t thread after call e = go (ltb (length thread.1.lines) 65536 && leb (s.cost + cost_of call) 268435456) refl e
  where
    go : (b : Bool) → (ltb (length thread.1.lines) 65536 && leb (s.cost + cost_of call) 268435456) ≡ b → cond b (kept (with_line thread (record { number = length s.owners; after = after; call = call }) s)) (Err fault.TooLong) ≡ Ok t
        → (length thread.1.lines < 65536) × (s.cost + cost_of call ≤ 268435456) × (with_line thread (record { number = length s.owners; after = after; call = call }) s ≡ t)
    go true is e = let p = and_parts (ltb (length thread.1.lines) 65536) (leb (s.cost + cost_of call) 268435456) is in (ltb-true _ _ p.0, leb-true _ _ p.1, ok_is _ _ e)
    go false is e = absurd cc

pub call_line_takes : (s t : State) (first : List ℕ) (words : List (List ℕ)) → call_line s first words ≡ Ok t → IsCallLine s (first ∷ words) t
unfolding call_line
call_line_takes s t first words e =
    let a = bind_ok (or_fault fault.Thread (thread_of s first)) (then_after s words) t e in
    let thread = thread_takes s first a.0 (or_fault_some fault.Thread (thread_of s first) a.0 a.1) in
    let b = bind_ok (after_of s a.0.1.group (after_at words).0) (λ after. sound_call (after_at words).1 >>= λ call. then_line s a.0 after call) t a.2 in
    let after = after_takes s a.0.1.group words b.0 b.1 in
    let c = bind_ok (sound_call (after_at words).1) (λ call. then_line s a.0 b.0 call) t b.2 in
    let call = sound_takes (after_at words).1 c.0 c.1 in
    let line = line_is s t a.0 b.0 c.0 c.2 in
    record {
      thread = a.0.0;
      plan = a.0.1;
      after = b.0;
      word = call.word;
      call_word = call.call_word;
      arguments = call.arguments;
      call = c.0;
      spelled = ap (λ (f : List ℕ). f ∷ words) thread.0 ∙ ap (λ (w : List (List ℕ)). decimal a.0.0 ∷ w) (after.1 ∙ ap (λ (w : List (List ℕ)). after_words b.0 ++ w) call.words_are);
      is_thread = thread.2;
      is_after = after.0;
      is_word = call.is_word;
      is_call = call.is_call;
      length_fits = call.length_fits;
      in_profile = call.in_profile;
      calls_fit = line.0;
      cost_fits = line.1;
      small = thread.1;
      new = sym line.2;
    }

pub call_line_again : (s t : State) (words : List (List ℕ)) (h : IsCallLine s words t) → call_line s (decimal h.thread) (after_words h.after ++ h.word ∷ h.arguments) ≡ Ok t
unfolding call_line
call_line_again s t words h =
    let thread = thread_again s h.thread h.plan h.small h.is_thread in
    let after = after_again s h.plan.group h.after (h.word ∷ h.arguments) (word_is_plain h.word h.call_word h.arguments h.is_word) h.is_after in
    let call = sound_again (h.word ∷ h.arguments) h.call (record { word = h.word; call_word = h.call_word; arguments = h.arguments; words_are = refl; is_word = h.is_word; is_call = h.is_call; length_fits = h.length_fits; in_profile = h.in_profile }) in
    rw (thread, after.0, after.1, call, lt-ltb _ _ h.calls_fit, le-leb _ _ h.cost_fits, h.new) refl
