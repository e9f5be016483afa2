-- A text that is read spells the trace, and a text that spells a trace is read.
use Rattle.std.proofs.Common.{◌≡◌, ℕ, ◌<◌, ◌≤◌, ◌^◌, ◌⊎◌, Bool, true, false, cond, eqb, ltb, leb, ◌&&◌, List, [], ◌∷◌, ◌++◌, length, Some, None, Result, Ok, Err, refl, sym, ap, subst, ◌∙◌, arith, inl, inr}
use Rattle.std.specs.Prelude.{codes, option_and_then, map, IfOk}
use Rattle.std.specs.Str.{bytes_eq}
use Rattle.std.specs.Fmt.{decimal}
use Rattle.std.proofs.lemmas.Bool.{and_parts, eqb-true, eq-eqb, ltb-true, lt-ltb, leb-true, le-leb}
use Rattle.std.proofs.lemmas.List.{nil_from_length}
use Rattle.std.proofs.lemmas.Option.{cond_some}
use Rattle.std.proofs.lemmas.Slice.Eq.{bytes_eq-Decides}
use Rattle.trace_text.specs.declared.phase.Phase.{Phase}
use Rattle.trace_text.specs.declared.phase.Phase.TheVariants as phase
use Rattle.trace_words.specs.declared.fault.Fault.{Fault}
use Rattle.trace_words.specs.declared.fault.Fault.TheVariants as fault
use Rattle.trace_text.specs.declared.stop.ParseStop.{ParseStop}
use Rattle.trace_text.specs.declared.trace.Trace.{Trace}
use Rattle.trace_words.specs.Faults.{◌>>=◌, or_fault}
use Rattle.trace_words.specs.Lexing.{lines_of, words_of, at_byte}
use Rattle.trace_words.specs.Numbers.{decimal_of}
use Rattle.trace_text.specs.Reading.{GivesTrace, plan, Plan, State, Place, at_line, at_start, passed, group_of, thread_numbers, header_line, call_line, body_line, in_phase, line_after, or_place, lines_after, at_end, and_end, trace_of, is_skipped, is_text}
use Rattle.trace_text.specs.Traces.{IsBodyLine, IsThreadLine, IsPhaseLine, IsLine, AreLines, Spells}
use Rattle.trace_text.proofs.WordLaws.{decimal_takes, decimal_again}
use Rattle.trace_text.proofs.Steps.{bind_ok, or_fault_some, then_some, kept, ok_is}
use Rattle.trace_text.proofs.FeedLaws.{lines_take as feeds_take, lines_again as feeds_again}
use Rattle.trace_text.proofs.SpacingLaws.{spaced_takes, spaced_again}
use Rattle.trace_text.specs.Traces.{thread_text}
use Rattle.trace_text.proofs.HeaderLaws.{numbers_take, numbers_again}
use Rattle.trace_text.proofs.LineLaws.{call_line_takes, call_line_again}

abbrev no_state : Result State Fault
no_state = Err fault.Word

-- a test that decides between two readings
two_ways : {A : Type 0} (b : Bool) (x y : Result A Fault) (z : A) → cond b x y ≡ Ok z → ((b ≡ true) × (x ≡ Ok z)) ⊎ ((b ≡ false) × (y ≡ Ok z))
two_ways true x y z e = inl (refl, e)
two_ways false x y z e = inr (refl, e)

same_text : (xs ys : List ℕ) → bytes_eq xs ys ≡ true → xs ≡ ys
same_text xs ys e = (bytes_eq-Decides xs ys).0 e

text_same : (xs ys : List ℕ) → xs ≡ ys → bytes_eq xs ys ≡ true
text_same xs ys e = (bytes_eq-Decides xs ys).1 e

-- ---- the body

end_word : (s t : State) (words : List (List ℕ)) (b : Bool) → eqb (length words) 0 ≡ b → cond b (kept (passed (record s { phase = phase.Ended }))) (Err fault.Word) ≡ Ok t → (words ≡ []) × (t ≡ passed (record s { phase = phase.Ended }))
end_word s t words true is e = (nil_from_length words (eqb-true (length words) 0 is), sym (ok_is _ _ e))
end_word s t words false is e = absurd cc

abbrev ends : State → List (List ℕ) → Result State Fault
ends s words = cond (eqb (length words) 0) (kept (passed (record s { phase = phase.Ended }))) (Err fault.Word)

body_takes : (s t : State) (words : List (List ℕ)) → body_line s words ≡ Ok t → IsBodyLine s words t
unfolding body_line
body_takes s t [] e = absurd cc
body_takes s t (first ∷ words) e = go (two_ways (bytes_eq first (codes "end")) (ends s words) (call_line s first words) t e)
  where
    go : ((bytes_eq first (codes "end") ≡ true) × (ends s words ≡ Ok t)) ⊎ ((bytes_eq first (codes "end") ≡ false) × (call_line s first words ≡ Ok t)) → IsBodyLine s (first ∷ words) t
    go (inl h) = let w = end_word s t words (eqb (length words) 0) refl h.1 in inl (ap (λ (f : List ℕ). f ∷ words) (same_text first (codes "end") h.0) ∙ ap (λ (ws : List (List ℕ)). codes "end" ∷ ws) w.0, w.1)
    go (inr h) = inr (call_line_takes s t first words h.1)

-- No number is `end`.
number_is_not_end : (n : ℕ) → n < 2 ^ 64 → (b : Bool) → bytes_eq (decimal n) (codes "end") ≡ b → b ≡ false
unfolding decimal_of
number_is_not_end n small true is =
    let same : decimal n ≡ codes "end" = same_text (decimal n) (codes "end") is in
    let some : decimal_of (codes "end") ≡ Some n = ap decimal_of (sym same) ∙ decimal_again n small in absurd cc
number_is_not_end n small false is = refl

body_again : (s t : State) (words : List (List ℕ)) → IsBodyLine s words t → body_line s words ≡ Ok t
unfolding body_line
body_again s t words (inl h) = ap (body_line s) h.0 ∙ ap (λ (x : State). Ok x) (sym h.1)
body_again s t words (inr h) =
    ap (body_line s) h.spelled ∙ rw (number_is_not_end h.thread h.small (bytes_eq (decimal h.thread) (codes "end")) refl) (call_line_again s t words h)

-- ---- the lines before the body

group_takes : (count : ℕ) (number group : List ℕ) (g : ℕ) → group_of count number group ≡ Some g → (number ≡ decimal count) × (group ≡ decimal g) × (count < 16) × (g ≤ 7)
group_takes count number group g e =
    let a = then_some (λ n. cond (eqb n count && ltb count 16) (option_and_then (λ m. cond (leb m 7) (Some m) None) (decimal_of group)) None) (decimal_of number) g e in
    let d = decimal_takes number a.0 a.1 in
    go a.0 d.0 (eqb a.0 count && ltb count 16) refl a.2
  where
    small_group : (m : ℕ) → decimal_of group ≡ Some m → cond (leb m 7) (Some m) None ≡ Some g → (group ≡ decimal g) × (g ≤ 7)
    small_group m is e =
        let c = cond_some (leb m 7) m g e in
        let d = decimal_takes group m is in
        subst (λ (x : ℕ). (group ≡ decimal x) × (x ≤ 7)) c.1 (d.0, leb-true m 7 c.0)

    go : (n : ℕ) → number ≡ decimal n → (b : Bool) → (eqb n count && ltb count 16) ≡ b → cond b (option_and_then (λ m. cond (leb m 7) (Some m) None) (decimal_of group)) None ≡ Some g
        → (number ≡ decimal count) × (group ≡ decimal g) × (count < 16) × (g ≤ 7)
    go n is true test e =
        let p = and_parts (eqb n count) (ltb count 16) test in
        let a = then_some (λ m. cond (leb m 7) (Some m) None) (decimal_of group) g e in
        let q = small_group a.0 a.1 a.2 in
        (is ∙ ap decimal (eqb-true n count p.0), q.0, ltb-true count 16 p.1, q.1)
    go n is false test e = absurd cc

group_again : (count g : ℕ) → count < 16 → g ≤ 7 → group_of count (decimal count) (decimal g) ≡ Some g
group_again count g small le = rw (decimal_again count (omega arith), eq-eqb count count refl, lt-ltb count 16 small, decimal_again g (omega arith), le-leb g 7 le) refl

abbrev new_thread : State → ℕ → Result State Fault
new_thread s group = Ok (passed (record s { threads = s.threads ++ record { group = group; lines = [] } ∷ [] }))

abbrev then_group : State → List ℕ × List ℕ → Result State Fault
then_group s numbers = or_fault fault.Profile (group_of (length s.threads) numbers.0 numbers.1) >>= new_thread s

abbrev thread_line : State → List ℕ → Result State Fault
thread_line s line = or_fault fault.Word (thread_numbers line) >>= then_group s

thread_takes : (s t : State) (line : List ℕ) → thread_line s line ≡ Ok t → IsThreadLine s line t
thread_takes s t line e =
    let a = bind_ok (or_fault fault.Word (thread_numbers line)) (then_group s) t e in
    let b = bind_ok (or_fault fault.Profile (group_of (length s.threads) a.0.0 a.0.1)) (new_thread s) t a.2 in
    let g = group_takes (length s.threads) a.0.0 a.0.1 b.0 (or_fault_some fault.Profile (group_of (length s.threads) a.0.0 a.0.1) b.0 b.1) in
    record {
      group = b.0;
      spelled = numbers_take line a.0 (or_fault_some fault.Word (thread_numbers line) a.0 a.1) ∙ ap (λ (n : List ℕ). thread_text n a.0.1) g.0 ∙ ap (λ (n : List ℕ). thread_text (decimal (length s.threads)) n) g.1;
      threads_fit = g.2;
      group_fits = g.3;
      new = sym (ok_is _ _ b.2);
    }

numbers_are : (s t : State) (line : List ℕ) (h : IsThreadLine s line t) → thread_numbers line ≡ Some (decimal (length s.threads), decimal h.group)
numbers_are s t line h = ap thread_numbers h.spelled ∙ numbers_again (length s.threads) h.group (omega (arith, h.threads_fit)) (omega (arith, h.group_fits))

thread_again : (s t : State) (line : List ℕ) → IsThreadLine s line t → thread_line s line ≡ Ok t
thread_again s t line h = rw (numbers_are s t line h, group_again (length s.threads) h.group h.threads_fit h.group_fits, h.new) refl

abbrev IsHeaderLine : State → List ℕ → State → Type 0
IsHeaderLine s line t = ((line ≡ codes "begin") × (t ≡ passed (record s { phase = phase.Body }))) ⊎ IsThreadLine s line t

header_takes : (s t : State) (line : List ℕ) → header_line s line ≡ Ok t → IsHeaderLine s line t
unfolding header_line
header_takes s t line e = go (two_ways (bytes_eq line (codes "begin")) (kept (passed (record s { phase = phase.Body }))) (thread_line s line) t e)
  where
    go : ((bytes_eq line (codes "begin") ≡ true) × (kept (passed (record s { phase = phase.Body })) ≡ Ok t)) ⊎ ((bytes_eq line (codes "begin") ≡ false) × (thread_line s line ≡ Ok t)) → IsHeaderLine s line t
    go (inl h) = inl (same_text line (codes "begin") h.0, sym (ok_is _ _ h.1))
    go (inr h) = inr (thread_takes s t line h.1)

begin_is_no_thread : thread_numbers (codes "begin") ≡ None
unfolding thread_numbers at_byte
begin_is_no_thread = refl

thread_is_not_begin : (line : List ℕ) (numbers : List ℕ × List ℕ) (b : Bool) → thread_numbers line ≡ Some numbers → bytes_eq line (codes "begin") ≡ b → b ≡ false
thread_is_not_begin line numbers true some is =
    let none : thread_numbers line ≡ None = ap thread_numbers (same_text line (codes "begin") is) ∙ begin_is_no_thread in absurd cc
thread_is_not_begin line numbers false some is = refl

header_again : (s t : State) (line : List ℕ) → IsHeaderLine s line t → header_line s line ≡ Ok t
unfolding header_line
header_again s t line (inl h) = ap (header_line s) h.0 ∙ ap (λ (x : State). Ok x) (sym h.1)
header_again s t line (inr h) =
    rw (thread_is_not_begin line (decimal (length s.threads), decimal h.group) (bytes_eq line (codes "begin")) (numbers_are s t line h) refl) (thread_again s t line h)

-- ---- any line

phase_takes : (p : Phase) (s t : State) (line : List ℕ) → in_phase p s line ≡ Ok t → IsPhaseLine p s line t
phase_takes phase.Start s t line e = go (two_ways (bytes_eq line (codes "angle-trace 1")) (kept (passed (record s { phase = phase.Header }))) (Err fault.Word) t e)
  where
    go : ((bytes_eq line (codes "angle-trace 1") ≡ true) × (kept (passed (record s { phase = phase.Header })) ≡ Ok t)) ⊎ ((bytes_eq line (codes "angle-trace 1") ≡ false) × (no_state ≡ Ok t)) → IsPhaseLine phase.Start s line t
    go (inl h) = (same_text line (codes "angle-trace 1") h.0, sym (ok_is _ _ h.1))
    go (inr h) = absurd cc
phase_takes phase.Header s t line e = header_takes s t line e
phase_takes phase.Body s t line e = (words_of line, spaced_takes line, body_takes s t (words_of line) e)
phase_takes phase.Ended s t line e = absurd cc

phase_again : (p : Phase) (s t : State) (line : List ℕ) → IsPhaseLine p s line t → in_phase p s line ≡ Ok t
phase_again phase.Start s t line h = rw (text_same line (codes "angle-trace 1") h.0, h.1) refl
phase_again phase.Header s t line h = header_again s t line h
phase_again phase.Body s t line h = ap (body_line s) (spaced_again h.0 line h.1) ∙ body_again s t h.0 h.2
phase_again phase.Ended s t line h = absurd h

line_takes : (s t : State) (line : List ℕ) → line_after s line ≡ Ok t → IsLine s line t
unfolding line_after
line_takes s t line e = go (is_skipped line) (is_text line) refl refl e
  where
    go : (b d : Bool) → is_skipped line ≡ b → is_text line ≡ d → cond b (kept (passed s)) (cond d (in_phase s.phase s line) (Err fault.NotText)) ≡ Ok t → IsLine s line t
    go true d skipped text e = inl (skipped, sym (ok_is _ _ e))
    go false true skipped text e = inr (skipped, text, phase_takes s.phase s t line e)
    go false false skipped text e = absurd cc

line_again : (s t : State) (line : List ℕ) → IsLine s line t → line_after s line ≡ Ok t
unfolding line_after
line_again s t line (inl h) = rw (h.0, h.1) refl
line_again s t line (inr h) = rw (h.0, h.1) (phase_again s.phase s t line h.2)

-- ---- the lines of a text

place_ok : (number : ℕ) (step : Result State Fault) (go : State → Result State Place) (t : State) → or_place number step go ≡ Ok t → (m : State) × (step ≡ Ok m) × (go m ≡ Ok t)
place_ok number (Ok m) go t e = (m, refl, e)
place_ok number (Err f) go t e = absurd cc

lines_take : (s t : State) (lines : List (List ℕ)) → lines_after s lines ≡ Ok t → AreLines s lines t
unfolding lines_after
lines_take s t [] e = cc
lines_take s t (line ∷ lines) e =
    let a = place_ok (length s.owners) (line_after s line) (λ m. lines_after m lines) t e in
    (a.0, line_takes s a.0 line a.1, lines_take a.0 t lines a.2)

lines_again : (s t : State) (lines : List (List ℕ)) → AreLines s lines t → lines_after s lines ≡ Ok t
unfolding lines_after
lines_again s t [] h = ap (λ (x : State). Ok x) h
lines_again s t (line ∷ lines) h = rw (line_again s h.0 line h.1) (lines_again h.0 t lines h.2)

ended_takes : (p : Phase) (s : State) (threads : List Plan) → at_end p s ≡ Ok threads → (p ≡ phase.Ended) × (s.threads ≡ threads)
ended_takes phase.Start s threads e = absurd cc
ended_takes phase.Header s threads e = absurd cc
ended_takes phase.Body s threads e = absurd cc
ended_takes phase.Ended s threads e = (refl, cc)

run_takes : (run : Result State Place) (threads : List Plan) → and_end run ≡ Ok threads → (s : State) × (run ≡ Ok s) × (s.phase ≡ phase.Ended) × (s.threads ≡ threads)
run_takes (Ok s) threads e = let t = ended_takes s.phase s threads e in (s, refl, t.0, t.1)
run_takes (Err p) threads e = absurd cc

pub text_takes : (text : List ℕ) (threads : List Plan) → trace_of text ≡ Ok threads → Spells text threads
unfolding trace_of
text_takes text threads e = go (leb (length text) 67108864) refl e
  where
    go : (b : Bool) → leb (length text) 67108864 ≡ b → cond b (and_end (lines_after at_start (lines_of text))) (Err (at_line 0 fault.TooLong)) ≡ Ok threads → Spells text threads
    go true fits e =
        let a = run_takes (lines_after at_start (lines_of text)) threads e in
        record { lines = lines_of text; last = a.0; fits = leb-true (length text) 67108864 fits; is_text = feeds_take text; are_lines = lines_take at_start a.0 (lines_of text) a.1; ended = a.2; threads_are = a.3 }
    go false fits e = absurd cc

pub text_again : (text : List ℕ) (threads : List Plan) → Spells text threads → trace_of text ≡ Ok threads
unfolding trace_of
text_again text threads h = rw (le-leb (length text) 67108864 h.fits, feeds_again h.lines text h.is_text, lines_again at_start h.last h.lines h.are_lines, h.ended, h.threads_are) refl

pub given_spells : (text : List ℕ) (r : Result Trace ParseStop) → GivesTrace r (trace_of text) → IfOk r (λ trace. Spells text (map plan trace.threads.items))
given_spells text (Ok trace) given = text_takes text (map plan trace.threads.items) given
given_spells text (Err e) given = tt
