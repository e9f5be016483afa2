-- For each line it is noted whether that was answered.
use Rattle.std.proofs.Common.{◌≡◌, ◌≢◌, ℕ, ◌<◌, ◌==◌, ◌||◌, Bool, true, false, List, [], ◌∷◌, ◌++◌, length, Some, refl, sym, ap, ◌∙◌}
use Rattle.std.proofs.Common.{subst, eq-eqb}
use Rattle.std.specs.Prelude.{slice_get, slice_set, Option, None, IfSome}
use Rattle.std.specs.List.{list_any}
use Rattle.std.proofs.Math.Dec.{eqb}
use Rattle.std.proofs.lemmas.Bool.{eqb-true, ne_eqb, false≢true}
use Rattle.std.proofs.lemmas.List.Folds.{list_any-append}
use Rattle.std.proofs.lemmas.Option.{get_or_from_slice_get, slice_get_within}
use Rattle.gl_calls.specs.declared.reply.Entry.{Entry}
use Rattle.trace_text.specs.declared.trace.Line.{Line}
use Rattle.trace_text.specs.Reading.{Plan}
use Rattle.trace_text.specs.Orders.{HasLine, IsLineOf, IsTrace}
use Rattle.play_model.specs.Plays.{Play, IsReady, is_answered}
use Rattle.world_core.specs.Inside.{AreNoted, follows}
use Rattle.world_core.proofs.Lists.{get_set, get_set_other, same_at}

or_true : (a b : Bool) → b ≡ true → (a || (b || false)) ≡ true
or_true true b is = refl
or_true false true is = refl
or_true false false is = absurd (false≢true is)

or_false : (a b : Bool) → b ≡ false → (a || (b || false)) ≡ a
or_false true b is = refl
or_false false false is = refl
or_false false true is = absurd (false≢true (sym is))

answered_more : (history : List Entry) (e : Entry) (number : ℕ) →
    is_answered (history ++ e ∷ []) number ≡ (is_answered history number || ((e.line == number) || false))
answered_more history e number = list_any-append (λ (x : Entry). x.line == number) history (e ∷ [])

-- two lines of one number are of one group
same_group : (threads : List Plan) → IsTrace threads →
    (group number thread place : ℕ) (line : Line) (is : IsLineOf threads thread place line) (has : HasLine threads group number) →
    number ≡ line.number → group ≡ is.plan.group
same_group threads trace group number thread place line is has same =
    let thread_is : has.thread ≡ thread = trace.apart has.thread thread has.place place has.line line has.is is (has.numbered ∙ same) in
    let plan_is : has.is.plan ≡ is.plan =
    same_at threads thread has.is.plan is.plan
    (subst (λ (t : ℕ). slice_get threads t ≡ Some has.is.plan) thread_is has.is.is_thread) is.is_thread in
    sym has.of_group ∙ ap (λ (p : Plan). p.group) plan_is

module _ (threads : List Plan) (trace : IsTrace threads) (p q : Play) (answered : List Bool) (noted : AreNoted threads p answered)
    (thread place : ℕ) (line : Line) (is : IsLineOf threads thread place line) (e : Entry) (on : e.line ≡ line.number)
    (grown : q.histories is.plan.group ≡ p.histories is.plan.group ++ e ∷ [])
    (others : (group : ℕ) → group ≢ is.plan.group → q.histories group ≡ p.histories group) where
  here : HasLine threads is.plan.group line.number
  here = record { thread = thread; place = place; line = line; is = is; of_group = refl; numbered = refl }

  on_line : (number : ℕ) → number ≡ line.number → (e.line == number) ≡ true
  on_line number same = eq-eqb e.line number (on ∙ sym same)

  noted_here : (group number : ℕ) → HasLine threads group number → number ≡ line.number →
      slice_get (slice_set answered line.number true) number ≡ Some (is_answered (q.histories group) number)
  noted_here group number has same =
      let group_is : group ≡ is.plan.group = same_group threads trace group number thread place line is has same in
      let yes : is_answered (q.histories group) number ≡ true =
      ap (λ (g : ℕ). is_answered (q.histories g) number) group_is ∙ ap (λ (h : List Entry). is_answered h number) grown
      ∙ answered_more (p.histories is.plan.group) e number
      ∙ or_true (is_answered (p.histories is.plan.group) number) (e.line == number) (on_line number same) in
      ap (slice_get (slice_set answered line.number true)) same
      ∙ get_set answered line.number (is_answered (p.histories is.plan.group) line.number) true (noted is.plan.group line.number here)
      ∙ ap Some (sym yes)

  still : (group number : ℕ) → number ≢ line.number → is_answered (q.histories group) number ≡ is_answered (p.histories group) number
  still group number ne = by (eqb group is.plan.group) refl
    where
      off : (e.line == number) ≡ false
      off = ne_eqb e.line number (λ same. ne (sym same ∙ on))

      by : (b : Bool) → eqb group is.plan.group ≡ b → is_answered (q.histories group) number ≡ is_answered (p.histories group) number
      by true same =
          let group_is : group ≡ is.plan.group = eqb-true group is.plan.group same in
          subst (λ (g : ℕ). is_answered (q.histories g) number ≡ is_answered (p.histories g) number) (sym group_is)
          (ap (λ (h : List Entry). is_answered h number) grown ∙ answered_more (p.histories is.plan.group) e number
          ∙ or_false (is_answered (p.histories is.plan.group) number) (e.line == number) off)
      by false same = ap (λ (h : List Entry). is_answered h number)
          (others group (λ is_same. false≢true (sym same ∙ eq-eqb group is.plan.group is_same)))

  pub noted_more : AreNoted threads q (slice_set answered line.number true)
  noted_more group number has = by (eqb number line.number) refl
    where
      by : (b : Bool) → eqb number line.number ≡ b →
          slice_get (slice_set answered line.number true) number ≡ Some (is_answered (q.histories group) number)
      by true same = noted_here group number has (eqb-true number line.number same)
      by false same =
          let ne : number ≢ line.number = λ is_same. false≢true (sym same ∙ eq-eqb number line.number is_same) in
          get_set_other answered line.number number true ne ∙ noted group number has ∙ ap Some (sym (still group number ne))

-- A line that is waited for

module _ (threads : List Plan) (trace : IsTrace threads) (p : Play) (answered : List Bool) (noted : AreNoted threads p answered)
    (thread place : ℕ) (line : Line) (is : IsLineOf threads thread place line) where
  -- it was answered where that is noted
  follows_is : (number : ℕ) → line.after ≡ Some number → follows answered line.after ≡ is_answered (p.histories is.plan.group) number
  follows_is number waits =
      ap (follows answered) waits
      ∙ get_or_from_slice_get answered number (is_answered (p.histories is.plan.group) number) false
      (noted is.plan.group number (trace.waits thread place number line is waits).1)

  pub ready_from : follows answered line.after ≡ true → IsReady (p.histories is.plan.group) line
  ready_from followed number waits = sym (follows_is number waits) ∙ followed

  pub not_ready_from : follows answered line.after ≡ false → IsReady (p.histories is.plan.group) line → ⊥
  not_ready_from unfollowed ready = by line.after refl
    where
      by : (after : Option ℕ) → line.after ≡ after → ⊥
      by None waits = false≢true (sym unfollowed ∙ ap (follows answered) waits)
      by (Some number) waits = false≢true (sym unfollowed ∙ follows_is number waits ∙ ready number waits)

  -- its number is one of those for which that is noted
  pub awaited_low : (l : List Bool) → l ≡ answered → IfSome line.after (λ number. number < length l)
  awaited_low l same = by line.after refl
    where
      by : (after : Option ℕ) → line.after ≡ after → IfSome after (λ number. number < length l)
      by None waits = tt
      by (Some number) waits = subst (λ (x : List Bool). number < length x) (sym same)
          (slice_get_within answered number (is_answered (p.histories is.plan.group) number)
          (noted is.plan.group number (trace.waits thread place number line is waits).1))

-- the number of a line is one of those, too
pub own_low : (threads : List Plan) (p : Play) (answered : List Bool) → AreNoted threads p answered → (thread place : ℕ) (line : Line) →
    IsLineOf threads thread place line → line.number < length answered
own_low threads p answered noted thread place line is =
    slice_get_within answered line.number (is_answered (p.histories is.plan.group) line.number)
    (noted is.plan.group line.number (record { thread = thread; place = place; line = line; is = is; of_group = refl; numbered = refl }))
