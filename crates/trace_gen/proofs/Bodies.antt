-- The lines of calls, and how they are read one after the other.
use Rattle.std.proofs.Common.{◌≡◌, ℕ, zero, suc, ◌+◌, ◌*◌, ◌<◌, ◌≤◌, true, List, [], ◌∷◌, ◌++◌, length, Some, None, refl, sym, ap, subst, arith, inr}
use Rattle.std.specs.Prelude.{slice_get, slice_set}
use Rattle.std.specs.Fmt.{decimal}
use Rattle.std.proofs.lemmas.List.{length-append}
use Rattle.gl_calls.specs.declared.call.Call.{Call}
use Rattle.trace_text.specs.declared.trace.Line.{Line}
use Rattle.trace_text.specs.declared.call_word.CallWord.{CallWord}
use Rattle.trace_text.specs.declared.phase.Phase.{Phase}
use Rattle.trace_text.specs.declared.phase.Phase.TheVariants as phase
use Rattle.trace_text.specs.CallWords.{call_words}
use Rattle.trace_text.specs.Limits.{has_its_length, is_in_profile, cost_of}
use Rattle.trace_text.specs.Reading.{Plan, State, with_line}
use Rattle.trace_text.specs.Spelling.{StandsFor, SpelledCall}
use Rattle.trace_text.specs.Traces.{IsCallLine, IsPhaseLine, IsLine, AreLines}
use Rattle.trace_gen.specs.Lines.{Words}
use Rattle.trace_gen.proofs.PlainWords.{ArePlain, IsPlainLine, joined, plain_line, plain_number, number_not_skipped, ArePlainLines, all_joined}

-- The words are those of a call of one of the four threads, which costs at most 16384.
pub record IsCall (words : Words) : Type 0 where
  pub thread : ℕ
  pub word : List ℕ
  pub call_word : CallWord
  pub arguments : Words
  pub call : Call
  pub small : thread < 4
  pub spelled : words ≡ decimal thread ∷ word ∷ arguments
  pub is_word : StandsFor call_words word call_word
  pub is_call : SpelledCall call_word arguments call
  pub length_fits : has_its_length call ≡ true
  pub in_profile : is_in_profile call ≡ true
  pub cheap : cost_of call ≤ 16384
  pub plain : ArePlain (word ∷ arguments)
  pub few : length arguments ≤ 11

-- Between two calls: the four threads with at most so many calls each, and a cost of at most 16384 for each call so far.
pub record IsReady (s : State) (count : ℕ) : Type 0 where
  pub first : Plan
  pub second : Plan
  pub third : Plan
  pub fourth : Plan
  pub threads : s.threads ≡ first ∷ second ∷ third ∷ fourth ∷ []
  pub groups : (first.group ≡ 0) × (second.group ≡ 0) × (third.group ≡ 1) × (fourth.group ≡ 1)
  pub counts : (length first.lines ≤ count) × (length second.lines ≤ count) × (length third.lines ≤ count) × (length fourth.lines ≤ count)
  pub cost : s.cost ≤ 16384 * count
  pub phase : s.phase ≡ phase.Body

-- a thread's plan with one line more
abbrev longer : Plan → Line → Plan
longer plan line = record { group = plan.group; lines = plan.lines ++ line ∷ [] }

one_more : (plan : Plan) (line : Line) (count : ℕ) → length plan.lines ≤ count → length (longer plan line).lines ≤ count + 1
one_more plan line count le = omega (arith, length-append plan.lines (line ∷ []))

-- a thread: its plan, and that all is ready again with a line more
pub record IsThread (s : State) (count thread : ℕ) : Type 0 where
  pub plan : Plan
  pub is : slice_get s.threads thread ≡ Some plan
  pub few : length plan.lines ≤ count
  pub after : (line : Line) → cost_of line.call ≤ 16384 → IsReady (with_line (thread, plan) line s) (count + 1)

pub thread_of : (s : State) (count thread : ℕ) → IsReady s count → thread < 4 → IsThread s count thread
thread_of s count zero h lt = record {
  plan = h.first;
  is = ap (λ (ts : List Plan). slice_get ts 0) h.threads;
  few = h.counts.0;
  after = λ line cheap. record {
    first = longer h.first line;
    second = h.second;
    third = h.third;
    fourth = h.fourth;
    threads = ap (λ (ts : List Plan). slice_set ts 0 (longer h.first line)) h.threads;
    groups = h.groups;
    counts = (one_more h.first line count h.counts.0, omega (arith, h.counts.1), omega (arith, h.counts.2), omega (arith, h.counts.3));
    cost = omega (arith, h.cost);
    phase = h.phase;
  };
}
thread_of s count (suc zero) h lt = record {
  plan = h.second;
  is = ap (λ (ts : List Plan). slice_get ts 1) h.threads;
  few = h.counts.1;
  after = λ line cheap. record {
    first = h.first;
    second = longer h.second line;
    third = h.third;
    fourth = h.fourth;
    threads = ap (λ (ts : List Plan). slice_set ts 1 (longer h.second line)) h.threads;
    groups = h.groups;
    counts = (omega (arith, h.counts.0), one_more h.second line count h.counts.1, omega (arith, h.counts.2), omega (arith, h.counts.3));
    cost = omega (arith, h.cost);
    phase = h.phase;
  };
}
thread_of s count (suc (suc zero)) h lt = record {
  plan = h.third;
  is = ap (λ (ts : List Plan). slice_get ts 2) h.threads;
  few = h.counts.2;
  after = λ line cheap. record {
    first = h.first;
    second = h.second;
    third = longer h.third line;
    fourth = h.fourth;
    threads = ap (λ (ts : List Plan). slice_set ts 2 (longer h.third line)) h.threads;
    groups = h.groups;
    counts = (omega (arith, h.counts.0), omega (arith, h.counts.1), one_more h.third line count h.counts.2, omega (arith, h.counts.3));
    cost = omega (arith, h.cost);
    phase = h.phase;
  };
}
thread_of s count (suc (suc (suc zero))) h lt = record {
  plan = h.fourth;
  is = ap (λ (ts : List Plan). slice_get ts 3) h.threads;
  few = h.counts.3;
  after = λ line cheap. record {
    first = h.first;
    second = h.second;
    third = h.third;
    fourth = longer h.fourth line;
    threads = ap (λ (ts : List Plan). slice_set ts 3 (longer h.fourth line)) h.threads;
    groups = h.groups;
    counts = (omega (arith, h.counts.0), omega (arith, h.counts.1), omega (arith, h.counts.2), one_more h.fourth line count h.counts.3);
    cost = omega (arith, h.cost);
    phase = h.phase;
  };
}
thread_of s count (suc (suc (suc (suc n)))) h lt = absurd (omega arith)

-- the words of a call make a plain line
pub call_is_plain : (words : Words) → IsCall words → IsPlainLine words
call_is_plain words h =
    let line : IsPlainLine (decimal h.thread ∷ h.word ∷ h.arguments) = plain_line (decimal h.thread) (h.word ∷ h.arguments) (number_not_skipped h.thread (omega (arith, h.small))) (plain_number h.thread (omega (arith, h.small))) h.plain (omega (arith, h.few)) in
    subst (λ (ws : Words). IsPlainLine ws) (sym h.spelled) line

-- the line of a call leads to a state that is ready again
pub call_leads : (s : State) (count : ℕ) (words : Words) → IsReady s count → count < 16384 → IsCall words → (t : State) × IsLine s (joined words) t × IsReady t (count + 1)
call_leads s count words ready lt h =
    let thread = thread_of s count h.thread ready h.small in
    let plain = call_is_plain words h in
    let line : Line = record { number = length s.owners; after = None; call = h.call } in
    let t : State = with_line (h.thread, thread.plan) line s in
    let call : IsCallLine s words t = record {
      thread = h.thread;
      plan = thread.plan;
      after = None;
      word = h.word;
      call_word = h.call_word;
      arguments = h.arguments;
      call = h.call;
      spelled = h.spelled;
      is_thread = thread.is;
      is_after = tt;
      is_word = h.is_word;
      is_call = h.is_call;
      length_fits = h.length_fits;
      in_profile = h.in_profile;
      calls_fit = omega (arith, thread.few);
      cost_fits = omega (arith, ready.cost, h.cheap);
      small = omega (arith, h.small);
      new = refl;
    } in
    let body : IsPhaseLine phase.Body s (joined words) t = (words, plain.spaced, inr call) in
    (t, inr (plain.kept, plain.text, subst (λ (p : Phase). IsPhaseLine p s (joined words) t) (sym ready.phase) body), thread.after line h.cheap)

abbrev pub AreCalls : List Words → Type 0
AreCalls [] = Unit {0}
AreCalls (words ∷ lines) = IsCall words × AreCalls lines

pub calls_both : (xs ys : List Words) → AreCalls xs → AreCalls ys → AreCalls (xs ++ ys)
calls_both [] ys h hs = hs
calls_both (words ∷ xs) ys h hs = (h.0, calls_both xs ys h.1 hs)

pub calls_are_plain : (lines : List Words) → AreCalls lines → ArePlainLines lines
calls_are_plain [] h = tt
calls_are_plain (words ∷ lines) h = (call_is_plain words h.0, calls_are_plain lines h.1)

-- all lines of calls lead to a state that is ready
pub calls_lead : (s : State) (count : ℕ) (lines : List Words) → IsReady s count → count + length lines ≤ 16384 → AreCalls lines → (t : State) × AreLines s (all_joined lines) t × IsReady t (count + length lines)
calls_lead s count [] ready le h = let sum : count ≡ count + length {A = Words} [] = omega arith in (s, refl, subst (λ (n : ℕ). IsReady s n) sum ready)
calls_lead s count (words ∷ lines) ready le h =
    let one = call_leads s count words ready (omega arith) h.0 in
    let more = calls_lead one.0 (count + 1) lines one.2 (omega arith) h.1 in
    let sum : count + 1 + length lines ≡ count + length (words ∷ lines) = omega arith in
    (more.0, (one.0, one.1, more.1), subst (λ (n : ℕ). IsReady more.0 n) sum more.2)

pub lines_both : (s m t : State) (xs ys : List (List ℕ)) → AreLines s xs m → AreLines m ys t → AreLines s (xs ++ ys) t
lines_both s m t [] ys h hs = subst (λ (x : State). AreLines x ys t) (sym h) hs
lines_both s m t (line ∷ xs) ys h hs = (h.0, h.1, lines_both h.0 m t xs ys h.2 hs)
