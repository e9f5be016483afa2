-- The lines of a trace, and the threads of its groups.
use Rattle.std.proofs.Common.{◌≡◌, ℕ, zero, suc, ◌+◌, ◌<◌, ◌≤◌, sym, ap, ◌∙◌, subst, inl, inr, arith}
use Rattle.std.specs.Prelude.{◌⊎◌, ◌==◌, Bool, true, false, cond, List, [], ◌∷◌, slice_get, Contains, Some}
use Rattle.std.proofs.lemmas.Bool.{cases_order, cond-true, eq-eqb}
use Rattle.std.proofs.lemmas.Option.{same_Some, none-some}
use Rattle.trace_text.specs.declared.trace.Line.{Line}
use Rattle.trace_text.specs.Reading.{Plan}
use Rattle.trace_text.specs.Orders.{IsLineOf, IsTrace}
use Rattle.play_model.specs.Plays.{members_from, members, IsNext}
use Rattle.play_model.proofs.Lists.{Contains-cons}

-- The lines of a thread

-- two lines of a thread, each at its place
module _ (threads : List Plan) (thread i j : ℕ) (a b : Line) (one : IsLineOf threads thread i a) (two : IsLineOf threads thread j b) where
  -- lines at one place are one line
  pub same_line : i ≡ j → a ≡ b
  same_line here =
      let plans : one.plan ≡ two.plan = same_Some one.plan two.plan (sym one.is_thread ∙ two.is_thread) in
      same_Some a b
      (sym one.is_line ∙ ap (λ (p : Plan). slice_get p.lines i) plans ∙ ap (slice_get two.plan.lines) here ∙ two.is_line)

  -- a line that stands no earlier has no smaller number
  pub no_less : IsTrace threads → i ≤ j → a.number ≤ b.number
  no_less trace le = go (cases_order i j)
    where
      go : (i ≡ j) ⊎ ((i < j) ⊎ (j < i)) → a.number ≤ b.number
      go (inl same) = omega (arith, ap (λ (l : Line). l.number) (same_line same))
      go (inr (inl lt)) = omega (arith, trace.rises thread i j a b one two lt)
      go (inr (inr gt)) = absurd (omega (arith, le, gt))

  -- lines of one number are one line
  pub one_line : IsTrace threads → a.number ≡ b.number → a ≡ b
  one_line trace numbers = go (cases_order i j)
    where
      go : (i ≡ j) ⊎ ((i < j) ⊎ (j < i)) → a ≡ b
      go (inl same) = same_line same
      go (inr (inl lt)) = absurd (omega (arith, trace.rises thread i j a b one two lt, numbers))
      go (inr (inr gt)) = absurd (omega (arith, trace.rises thread j i b a two one gt, numbers))

-- a thread has one next line
pub one_next : (threads : List Plan) (done : List ℕ) (thread : ℕ) (a b : Line) → IsNext threads done thread a →
    IsNext threads done thread b → a ≡ b
one_next threads done thread a b one two =
    same_line threads thread one.place two.place a b one.is two.is (same_Some one.place two.place (sym one.at ∙ two.at))

-- The threads of a group

members_have : (threads : List Plan) (first thread : ℕ) (plan : Plan) → slice_get threads thread ≡ Some plan →
    Contains (members_from first threads plan.group) (first + thread)
members_have [] first thread plan at = absurd (none-some plan at)
members_have (p ∷ threads) first zero plan at =
    let later : List ℕ = members_from (suc first) threads plan.group in
    let same : p.group ≡ plan.group = ap (λ (x : Plan). x.group) (same_Some p plan at) in
    let has : Contains (first ∷ later) (first + 0) = (0, omega arith, omega arith) in
    subst (λ l. Contains l (first + 0))
    (sym (cond-true (p.group == plan.group) (first ∷ later) later (eq-eqb p.group plan.group same))) has
members_have (p ∷ threads) first (suc thread) plan at =
    let numbered : suc first + thread ≡ first + suc thread = omega arith in
    go (p.group == plan.group) (subst (Contains later) numbered (members_have threads (suc first) thread plan at))
  where
    later : List ℕ
    later = members_from (suc first) threads plan.group

    go : (b : Bool) → Contains later (first + suc thread) → Contains (cond b (first ∷ later) later) (first + suc thread)
    go true has = Contains-cons first later (first + suc thread) has
    go false has = has

pub members_are : (threads : List Plan) (thread : ℕ) (plan : Plan) → slice_get threads thread ≡ Some plan →
    Contains (members threads plan.group) thread
members_are threads thread plan at =
    let same : 0 + thread ≡ thread = omega arith in
    subst (Contains (members threads plan.group)) same (members_have threads 0 thread plan at)
