-- The text of the trace that words make spells a trace of four threads.
use Rattle.std.proofs.Common.{◌≡◌, ℕ, ◌+◌, ◌*◌, ◌/◌, ◌%◌, ◌<◌, ◌≤◌, Bool, true, false, cond, eqb, List, [], ◌∷◌, ◌++◌, length, refl, sym, ap, subst, ◌∙◌, arith, inl, inr}
use Rattle.std.specs.Prelude.{codes, map}
use Rattle.std.specs.Fmt.{decimal}
use Rattle.std.proofs.lemmas.List.{length-append}
use Rattle.trace_text.specs.declared.phase.Phase.{Phase}
use Rattle.trace_text.specs.declared.phase.Phase.TheVariants as phase
use Rattle.trace_text.specs.Reading.{Plan, State, at_start, passed}
use Rattle.trace_text.specs.Traces.{IsPhaseLine, AreLines, thread_text}
use Rattle.trace_gen.specs.Lines.{Words, lines_text, header, context_lines, source_lines, target_lines, image_lines, first_framebuffer_lines, second_framebuffer_lines, first_lines, update_lines, copy_lines, texels_lines, clear_lines, blit_lines, read_lines, drawn_lines, last_lines}
use Rattle.trace_gen.specs.Generated.{of_threads, round_lines, rounds, call_lines, generated_lines, generated_text, IsTraceOfFour}
use Rattle.trace_gen.proofs.PlainWords.{IsPlain, plain_word, plain_line, IsPlainLine, ArePlainLines, all_joined, lines_are_text, length_lines, plain_both, joined_both}
use Rattle.trace_gen.proofs.Spellings.{is_0, is_1, is_2, is_3}
use Rattle.trace_gen.proofs.Bodies.{IsReady, AreCalls, calls_both, calls_are_plain, calls_lead, lines_both}
use Rattle.trace_gen.proofs.CallLines.{first_calls, update_calls, copy_calls, texels_calls, clear_calls, blit_calls, read_calls, last_calls}

-- ---- the calls

either : (P : List Words → Type 0) (c : Bool) (x y : List Words) → P x → P y → P (cond c x y)
either P true x y h k = h
either P false x y h k = k

-- what holds of each of six holds of the one that is chosen
one_of_six : (P : List Words → Type 0) (kind : ℕ) (a b c d e f : List Words) → P a → P b → P c → P d → P e → P f
    → P (cond (eqb kind 0) a (cond (eqb kind 1) b (cond (eqb kind 2) c (cond (eqb kind 3) d (cond (eqb kind 4) e f)))))
one_of_six P kind a b c d e f pa pb pc pd pe pf =
    either P (eqb kind 0) a _ pa (either P (eqb kind 1) b _ pb (either P (eqb kind 2) c _ pc (either P (eqb kind 3) d _ pd (either P (eqb kind 4) e f pe pf))))

drawn_calls : (t word : ℕ) → t < 4 → AreCalls (drawn_lines t word)
unfolding drawn_lines
drawn_calls t word lt =
    let a : ℕ = word / 256 % 240 in
    let b : ℕ = word / 65536 % 16 in
    let a_lt : a < 240 = omega arith in
    let b_lt : b < 16 = omega arith in
    one_of_six AreCalls (word % 6) (update_lines t a b) (copy_lines t a b) (texels_lines t a b) (clear_lines t b) (blit_lines t b) (read_lines t b)
    (update_calls t a b lt a_lt b_lt) (copy_calls t a b lt a_lt b_lt) (texels_calls t a b lt a_lt b_lt) (clear_calls t b lt b_lt) (blit_calls t b lt b_lt) (read_calls t b lt b_lt)

abbrev AreFew : List Words → Type 0
AreFew lines = length lines ≤ 3

few_drawn : (t word : ℕ) → length (drawn_lines t word) ≤ 3
unfolding drawn_lines update_lines copy_lines texels_lines clear_lines blit_lines read_lines
few_drawn t word =
    let a : ℕ = word / 256 % 240 in
    let b : ℕ = word / 65536 % 16 in
    one_of_six AreFew (word % 6) (update_lines t a b) (copy_lines t a b) (texels_lines t a b) (clear_lines t b) (blit_lines t b) (read_lines t b)
    (omega arith) (omega arith) (omega arith) (omega arith) (omega arith) (omega arith)

round_calls : (w0 w1 w2 w3 : ℕ) → AreCalls (round_lines w0 w1 w2 w3)
unfolding round_lines
round_calls w0 w1 w2 w3 = calls_both _ _ (calls_both _ _ (calls_both _ _ (drawn_calls 0 w0 (omega arith)) (drawn_calls 1 w1 (omega arith))) (drawn_calls 2 w2 (omega arith))) (drawn_calls 3 w3 (omega arith))

four_lengths : (a b c d : List Words) → length (a ++ b ++ c ++ d) ≡ length a + length b + length c + length d
four_lengths a b c d = simp length-append

few_in_round : (w0 w1 w2 w3 : ℕ) → length (round_lines w0 w1 w2 w3) ≤ 12
unfolding round_lines
few_in_round w0 w1 w2 w3 = omega (arith, four_lengths (drawn_lines 0 w0) (drawn_lines 1 w1) (drawn_lines 2 w2) (drawn_lines 3 w3), few_drawn 0 w0, few_drawn 1 w1, few_drawn 2 w2, few_drawn 3 w3)

rounds_calls : (words : List ℕ) → AreCalls (rounds words)
unfolding rounds
rounds_calls [] = tt
rounds_calls (w0 ∷ []) = tt
rounds_calls (w0 ∷ w1 ∷ []) = tt
rounds_calls (w0 ∷ w1 ∷ w2 ∷ []) = tt
rounds_calls (w0 ∷ w1 ∷ w2 ∷ w3 ∷ words) = calls_both _ _ (round_calls w0 w1 w2 w3) (rounds_calls words)

few_rounds : (words : List ℕ) → length (rounds words) ≤ 3 * length words
unfolding rounds
few_rounds [] = omega arith
few_rounds (w0 ∷ []) = omega arith
few_rounds (w0 ∷ w1 ∷ []) = omega arith
few_rounds (w0 ∷ w1 ∷ w2 ∷ []) = omega arith
few_rounds (w0 ∷ w1 ∷ w2 ∷ w3 ∷ words) =
    let one : length (round_lines w0 w1 w2 w3) ≤ 12 = few_in_round w0 w1 w2 w3 in
    let more : length (rounds words) ≤ 3 * length words = few_rounds words in
    let all : length (round_lines w0 w1 w2 w3 ++ rounds words) ≡ length (round_lines w0 w1 w2 w3) + length (rounds words) = length-append (round_lines w0 w1 w2 w3) (rounds words) in omega arith

first_length : (t : ℕ) → length (first_lines t) ≡ 16
unfolding first_lines context_lines source_lines target_lines image_lines first_framebuffer_lines second_framebuffer_lines
first_length t = refl

last_length : (t : ℕ) → length (last_lines t) ≡ 4
unfolding last_lines
last_length t = refl

of_four : (lines : ℕ → List Words) → ((t : ℕ) → t < 4 → AreCalls (lines t)) → AreCalls (of_threads lines)
of_four lines h = calls_both _ _ (calls_both _ _ (calls_both _ _ (h 0 (omega arith)) (h 1 (omega arith))) (h 2 (omega arith))) (h 3 (omega arith))

all_calls : (words : List ℕ) → AreCalls (call_lines words)
unfolding call_lines
all_calls words = calls_both _ _ (calls_both _ _ (of_four first_lines first_calls) (rounds_calls words)) (of_four last_lines last_calls)

few_calls : (words : List ℕ) → length words ≤ 2000 → length (call_lines words) ≤ 6080
unfolding call_lines
few_calls words le =
    let first : length (of_threads first_lines) ≡ 64 = four_lengths (first_lines 0) (first_lines 1) (first_lines 2) (first_lines 3) ∙ rw (first_length 0, first_length 1, first_length 2, first_length 3) refl in
    let last : length (of_threads last_lines) ≡ 16 = four_lengths (last_lines 0) (last_lines 1) (last_lines 2) (last_lines 3) ∙ rw (last_length 0, last_length 1, last_length 2, last_length 3) refl in
    let some : length (rounds words) ≤ 3 * length words = few_rounds words in
    let front : length (of_threads first_lines ++ rounds words) ≡ length (of_threads first_lines) + length (rounds words) = length-append (of_threads first_lines) (rounds words) in
    let all : length (of_threads first_lines ++ rounds words ++ of_threads last_lines) ≡ length (of_threads first_lines ++ rounds words) + length (of_threads last_lines) = length-append (of_threads first_lines ++ rounds words) (of_threads last_lines) in
    omega arith

-- ---- the lines before the calls

thread_is_plain : (number group : List ℕ) → IsPlain number → IsPlain group → IsPlainLine (codes "thread" ∷ number ∷ codes "group" ∷ group ∷ [])
thread_is_plain number group n g = plain_line (codes "thread") (number ∷ codes "group" ∷ group ∷ []) refl (plain_word refl) (n, (plain_word refl, (g, tt))) (omega arith)

header_is_plain : ArePlainLines header
header_is_plain = (
  plain_line (codes "angle-trace") (codes "1" ∷ []) refl (plain_word refl) (plain_word refl, tt) (omega arith),
  (
    thread_is_plain (codes "0") (codes "0") (plain_word refl) (plain_word refl),
    (
      thread_is_plain (codes "1") (codes "0") (plain_word refl) (plain_word refl),
      (
        thread_is_plain (codes "2") (codes "1") (plain_word refl) (plain_word refl),
        (thread_is_plain (codes "3") (codes "1") (plain_word refl) (plain_word refl), (plain_line (codes "begin") [] refl (plain_word refl) tt (omega arith), tt)),
      ),
    ),
  ),
)

-- after a line of a thread in this group
abbrev with_thread : State → ℕ → State
with_thread s group = passed (record s { threads = s.threads ++ record { group = group; lines = [] } ∷ [] })

abbrev after_first : State
after_first = passed (record at_start { phase = phase.Header })

abbrev after_threads : State
after_threads = with_thread (with_thread (with_thread (with_thread after_first 0) 0) 1) 1

abbrev at_calls : State
at_calls = passed (record after_threads { phase = phase.Body })

thread_spelled : (number group : List ℕ) (n g : ℕ) → number ≡ decimal n → group ≡ decimal g → thread_text number group ≡ thread_text (decimal n) (decimal g)
thread_spelled number group n g a b = ap (λ (x : List ℕ). thread_text x group) a ∙ ap (λ (x : List ℕ). thread_text (decimal n) x) b

header_leads : AreLines at_start (all_joined header) at_calls
header_leads = (
  after_first,
  inr (refl, refl, (refl, refl)),
  (
    with_thread after_first 0,
    inr (refl, refl, inr (record { group = 0; spelled = thread_spelled (codes "0") (codes "0") 0 0 is_0 is_0; threads_fit = omega arith; group_fits = omega arith; new = refl })),
    (
      with_thread (with_thread after_first 0) 0,
      inr (refl, refl, inr (record { group = 0; spelled = thread_spelled (codes "1") (codes "0") 1 0 is_1 is_0; threads_fit = omega arith; group_fits = omega arith; new = refl })),
      (
        with_thread (with_thread (with_thread after_first 0) 0) 1,
        inr (refl, refl, inr (record { group = 1; spelled = thread_spelled (codes "2") (codes "1") 2 1 is_2 is_1; threads_fit = omega arith; group_fits = omega arith; new = refl })),
        (
          after_threads,
          inr (refl, refl, inr (record { group = 1; spelled = thread_spelled (codes "3") (codes "1") 3 1 is_3 is_1; threads_fit = omega arith; group_fits = omega arith; new = refl })),
          (at_calls, inr (refl, refl, inl (refl, refl)), refl),
        ),
      ),
    ),
  ),
)

ready_at_calls : IsReady at_calls 0
ready_at_calls = record {
  first = record { group = 0; lines = [] };
  second = record { group = 0; lines = [] };
  third = record { group = 1; lines = [] };
  fourth = record { group = 1; lines = [] };
  threads = refl;
  groups = (refl, refl, refl, refl);
  counts = (omega arith, omega arith, omega arith, omega arith);
  cost = omega arith;
  phase = refl;
}

-- ---- the last line

abbrev end_lines : List Words
end_lines = (codes "end" ∷ []) ∷ []

end_is_plain : ArePlainLines end_lines
end_is_plain = (plain_line (codes "end") [] refl (plain_word refl) tt (omega arith), tt)

abbrev ended : State → State
ended s = passed (record s { phase = phase.Ended })

end_leads : (s : State) (count : ℕ) → IsReady s count → AreLines s (all_joined end_lines) (ended s)
end_leads s count ready =
    let body : IsPhaseLine phase.Body s (codes "end") (ended s) = (codes "end" ∷ [], (refl, refl), inl (refl, refl)) in
    (ended s, inr (refl, refl, subst (λ (p : Phase). IsPhaseLine p s (codes "end") (ended s)) (sym ready.phase) body), refl)

-- ---- the text

groups_are : (a b c d : ℕ) → a ≡ 0 → b ≡ 0 → c ≡ 1 → d ≡ 1 → a ∷ b ∷ c ∷ d ∷ [] ≡ 0 ∷ 0 ∷ 1 ∷ 1 ∷ []
groups_are a b c d p q r s = cc

groups_of : (s : State) (count : ℕ) → IsReady s count → map (λ plan. plan.group) s.threads ≡ 0 ∷ 0 ∷ 1 ∷ 1 ∷ []
groups_of s count h = ap (λ (ts : List Plan). map (λ plan. plan.group) ts) h.threads ∙ groups_are h.first.group h.second.group h.third.group h.fourth.group h.groups.0 h.groups.1 h.groups.2 h.groups.3

pub accepted : (words : List ℕ) → length words ≤ 2000 → IsTraceOfFour (generated_text words)
unfolding generated_text generated_lines
accepted words le =
    let calls = call_lines words in
    let few : length calls ≤ 6080 = few_calls words le in
    let led = calls_lead at_calls 0 calls ready_at_calls (omega arith) (all_calls words) in
    let plain : ArePlainLines (header ++ calls ++ end_lines) = plain_both (header ++ calls) end_lines (plain_both header calls header_is_plain (calls_are_plain calls (all_calls words))) end_is_plain in
    let lines : AreLines at_start ((all_joined header ++ all_joined calls) ++ all_joined end_lines) (ended led.0) =
    lines_both at_start led.0 (ended led.0) (all_joined header ++ all_joined calls) (all_joined end_lines) (lines_both at_start at_calls led.0 (all_joined header) (all_joined calls) header_leads led.1) (end_leads led.0 _ led.2) in
    let same : all_joined (header ++ calls ++ end_lines) ≡ (all_joined header ++ all_joined calls) ++ all_joined end_lines =
    joined_both (header ++ calls) end_lines ∙ ap (λ (ls : List (List ℕ)). ls ++ all_joined end_lines) (joined_both header calls) in
    let long : length (lines_text (header ++ calls ++ end_lines)) ≤ 1000 * length (header ++ calls ++ end_lines) = length_lines (header ++ calls ++ end_lines) plain in
    let all : length (header ++ calls ++ end_lines) ≡ length (header ++ calls) + length end_lines = length-append (header ++ calls) end_lines in
    let front : length (header ++ calls) ≡ length header + length calls = length-append header calls in (
      led.0.threads,
      record {
        lines = all_joined (header ++ calls ++ end_lines);
        last = ended led.0;
        fits = omega arith;
        is_text = lines_are_text (header ++ calls ++ end_lines) plain;
        are_lines = subst (λ (ls : List (List ℕ)). AreLines at_start ls (ended led.0)) (sym same) lines;
        ended = refl;
        threads_are = refl;
      },
      groups_of led.0 _ led.2,
    )
