-- How a thread goes on through its lines.
use Rattle.std.proofs.Common.{◌≡◌, ◌≢◌, ℕ, zero, suc, ◌+◌, ◌<◌, ◌≤◌, Bool, true, false, List, [], ◌∷◌, ◌++◌, length, map, take, refl, sym, ap, ◌∙◌, subst, inl, inr, arith}
use Rattle.std.specs.Prelude.{◌⊎◌, ◌==◌, ◌||◌, slice_get, Option, Some, None}
use Rattle.std.specs.List.{list_any}
use Rattle.std.proofs.lemmas.Bool.{cases_Bool, cases_lt, false≢true}
use Rattle.std.proofs.lemmas.List.{append-nil, append_assoc, map_push, take_more}
use Rattle.std.proofs.lemmas.List.Concat.{flat_map-append}
use Rattle.std.proofs.lemmas.List.Folds.{list_any-append}
use Rattle.std.proofs.lemmas.Option.{same_Some, slice_get_within, get_or_from_slice_get}
use mathlib.Core.List.{IsPrefix}
use mathlib.Core.Logic.{dite}
use native.Mathlib.Decide.{ℕ_discrete}
use Rattle.gl_calls.specs.declared.reply.Entry.{Entry}
use Rattle.trace_text.specs.declared.trace.Line.{Line}
use Rattle.turnstile.specs.Histories.{own}
use Rattle.turnstile.specs.Views.{PassModel}
use Rattle.turnstile.proofs.Beginnings.{prefix_self, prefix_trans, nothing_more}
use Rattle.turnstile.proofs.Laws.{own_append, own_one}
use Rattle.front_core.specs.Front.{entry_of}
use Rattle.play_model.specs.Plays.{asked_by, asked_on}
use Rattle.group_gpu.specs.declared.noted_call.NotedCall.{NotedCall}
use Rattle.group_gpu.specs.declared.noted_call.NotedCall.TheVariants.{Founded, Answered}
use Rattle.group_gpu.specs.Groups.{names_of, call_by, calls_of, is_answered, EndsWith, IsBetween}
use Rattle.trace_threads.specs.Lines.{Rise, IsReady, IsBehind, HasMade, HasMadeSome, MadeCall, HasAsked}
use Rattle.trace_threads.proofs.Splitting.{not_nil, first_or_second, InFirstOrSecond, last_or_before, LastOrBefore}

-- Passes between their turns

pub between_self : (p : PassModel NotedCall) → p.holds ≡ false → IsBetween p p
between_self p idle = record { name = refl; number = refl; joined = refl; holds = idle }

pub between_then : (p q r : PassModel NotedCall) → IsBetween p q → IsBetween q r → IsBetween p r
between_then p q r a b = record { name = b.name ∙ a.name; number = b.number ∙ a.number; joined = b.joined ∙ a.joined; holds = b.holds }

-- What was answered stays so

answered_more : (xs ys : List Entry) (number : ℕ) → is_answered xs number ≡ true → is_answered (xs ++ ys) number ≡ true
answered_more xs ys number was =
    list_any-append (λ (e : Entry). e.line == number) xs ys ∙ ap (λ b. b || is_answered ys number) was

pub ready_later : (xs ys : List NotedCall) (line : Line) → IsPrefix xs ys → IsReady (calls_of xs) line → IsReady (calls_of ys) line
ready_later xs ys line begins ready number after =
    ap (λ l. is_answered (calls_of l) number) (sym begins.1)
    ∙ (ap (λ l. is_answered l number) (flat_map-append call_by xs begins.0) ∙ answered_more (calls_of xs) (calls_of begins.0) number (ready number after))

-- What a pass has added between is not its own

none_more : (n : ℕ) (xs ys : List NotedCall) (begins : IsPrefix xs ys) → own names_of n ys ≡ own names_of n xs → own names_of n begins.0 ≡ []
none_more n xs ys begins same =
    nothing_more (own names_of n xs) (own names_of n begins.0) (sym (own_append names_of n xs begins.0) ∙ (ap (own names_of n) begins.1 ∙ same))

not_among : (n : ℕ) (e : Entry) (before rest more : List NotedCall) → own names_of n more ≡ [] → more ≡ before ++ Answered n e ∷ rest → ⊥
not_among n e before rest more none is =
    let all : own names_of n more ≡ own names_of n before ++ (own names_of n (Answered n e ∷ []) ++ own names_of n rest) =
    ap (own names_of n) is ∙ (own_append names_of n before (Answered n e ∷ rest) ∙ ap (λ l. own names_of n before ++ l) (own_append names_of n (Answered n e ∷ []) rest)) in
    let has : [] ≡ own names_of n before ++ (Answered n e ∷ own names_of n rest) =
    sym none ∙ (all ∙ ap (λ l. own names_of n before ++ (l ++ own names_of n rest)) (own_one names_of n (Answered n e) refl)) in
    not_nil (own names_of n before) (own names_of n rest) (Answered n e) has

-- an own entry stands where it was seen before
stands_where : (n : ℕ) (e : Entry) (xs ys before rest : List NotedCall) → IsPrefix xs ys → own names_of n ys ≡ own names_of n xs → ys ≡ before ++ Answered n e ∷ rest → (more : List NotedCall) × (xs ≡ before ++ Answered n e ∷ more)
stands_where n e xs ys before rest begins same is = go (first_or_second xs begins.0 before rest (Answered n e) (begins.1 ∙ is))
  where
    go : InFirstOrSecond xs begins.0 before rest (Answered n e) → (more : List NotedCall) × (xs ≡ before ++ Answered n e ∷ more)
    go (inl first) = first
    go (inr second) = absurd (not_among n e second.0 rest begins.0 (none_more n xs ys begins same) second.1)

-- The first lines

module _ (thread : ℕ) (lines : List Line) (n : ℕ) where
  pub made_none : (seen : List NotedCall) → own names_of n seen ≡ [] → HasMade thread lines n seen 0
  made_none seen none = record {
    few = omega arith;
    in_order = ap (λ l. map asked_by (calls_of l)) none;
    behind = λ before rest e is. absurd (not_among n e before rest seen none is);
  }

  -- a pass that has seen more, and nothing more of its own
  pub made_still : (xs ys : List NotedCall) (count : ℕ) → IsPrefix xs ys → own names_of n ys ≡ own names_of n xs → HasMade thread lines n xs count → HasMade thread lines n ys count
  made_still xs ys count begins same made = record {
    few = made.few;
    in_order = ap (λ l. map asked_by (calls_of l)) same ∙ made.in_order;
    behind = λ before rest e is.
        let stood = stands_where n e xs ys before rest begins same is in
        made.behind before stood.0 e stood.1;
  }

  -- a line is the only one of its number
  one_line : Rise lines → (i j : ℕ) (a b : Line) → slice_get lines i ≡ Some a → slice_get lines j ≡ Some b → a.number ≡ b.number → a ≡ b
  one_line rise i j a b at there same = go (cases_lt i j) (cases_lt j i)
    where
      go : (i < j) ⊎ (j ≤ i) → (j < i) ⊎ (i ≤ j) → a ≡ b
      go (inl low) other = let less = rise i j a b at there low in absurd (omega (arith, less, same))
      go (inr high) (inl low) = let less = rise j i b a there at low in absurd (omega (arith, less, same))
      go (inr high) (inr low) = let e : i ≡ j = omega (arith, high, low) in same_Some a b (sym at ∙ (ap (slice_get lines) e ∙ there))

  take_next : (k : ℕ) (x : Line) → slice_get lines k ≡ Some x → take (k + 1) lines ≡ take k lines ++ x ∷ []
  take_next k x there = take_more lines k x (slice_get_within lines k x there) ∙ ap (λ y. take k lines ++ y ∷ []) (get_or_from_slice_get lines k x x there)

  pub made_more : (xs ys : List NotedCall) (count : ℕ) (line : Line) → Rise lines → slice_get lines count ≡ Some line → MadeCall thread line n xs ys → HasMade thread lines n xs count → HasMade thread lines n ys (count + 1)
  made_more xs ys count line rise at called made = record {
    few = let low = slice_get_within lines count line at in omega (arith, low);
    in_order = ap (λ l. map asked_by (calls_of l)) own_is ∙ (ap (map asked_by) calls_is
        ∙ (map_push asked_by (calls_of (own names_of n xs)) e ∙ (ap (λ l. l ++ asked_by e ∷ []) made.in_order
        ∙ (sym (map_push (asked_on thread) (take count lines) line) ∙ ap (map (asked_on thread)) (sym (take_next count line at))))));
    behind = λ before rest x is. stands_behind before rest x (last_or_before called.ends.before before rest (Answered n e) (Answered n x) (sym called.ends.is ∙ is));
  }
    where
      e : Entry
      e = entry_of thread line.number line.call called.reply

      own_before : own names_of n called.ends.before ≡ own names_of n xs
      own_before = called.ends.same ∙ called.same

      own_is : own names_of n ys ≡ own names_of n xs ++ Answered n e ∷ []
      own_is = ap (own names_of n) called.ends.is ∙ (own_append names_of n called.ends.before (Answered n e ∷ []) ∙ (λ i. own_before i ++ own_one names_of n (Answered n e) refl i))

      calls_is : calls_of (own names_of n xs ++ Answered n e ∷ []) ≡ calls_of (own names_of n xs) ++ e ∷ []
      calls_is = flat_map-append call_by (own names_of n xs) (Answered n e ∷ [])

      begins : IsPrefix xs called.ends.before
      begins = prefix_trans xs called.seen called.ends.before called.begins called.ends.begins

      same_entry : (x : Entry) → Answered n x ≡ Answered n e → x ≡ e
      same_entry x same = cc (same)

      stands_behind : (before rest : List NotedCall) (x : Entry) → LastOrBefore called.ends.before before (Answered n e) (Answered n x) → IsBehind lines (calls_of before) x
      stands_behind before rest x (inl last) place other there numbered =
          let same : other ≡ line = one_line rise place count other line there at (numbered ∙ ap (λ (y : Entry). y.line) (same_entry x last.1)) in
          subst (λ l. IsReady (calls_of before) l) (sym same) (subst (λ l. IsReady (calls_of l) line) (sym last.0) (ready_later called.seen called.ends.before line called.ends.begins called.ready))
      stands_behind before rest x (inr inner) place other there numbered =
          let stood = stands_where n x xs called.ends.before before inner.0 begins own_before inner.1 in
          made.behind before stood.0 x stood.1 place other there numbered

  pub made_some : (seen : List NotedCall) (count : ℕ) (all : Bool) → (all ≡ true → count ≡ length lines) → HasMade thread lines n seen count → HasMadeSome thread lines n seen all
  made_some seen count all is made = record { count = count; made = made; all_made = is }
