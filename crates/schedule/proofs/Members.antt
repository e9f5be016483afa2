-- The threads of a group.
use Rattle.std.proofs.Common.{◌≡◌, ℕ, zero, suc, ◌+◌, ◌<◌, Bool, true, false, cond, List, [], ◌∷◌, refl, ap, ◌∙◌, subst, inl, inr, arith}
use Rattle.std.specs.Prelude.{◌⊎◌, ◌==◌, ◌||◌, slice_get, slice_index_or, Contains, Some}
use Rattle.std.specs.List.{list_any}
use Rattle.std.proofs.lemmas.Bool.{eq-eqb, ne_eqb, eqb-true, or_cases, or_left}
use Rattle.std.proofs.lemmas.List.Folds.{list_any_at}
use Rattle.std.proofs.lemmas.Option.{same_Some, none-some}
use Rattle.trace_text.specs.Reading.{Plan}
use Rattle.play_model.specs.Plays.{members_from, members}

-- A list with a number more, if a test says so

abbrev pub put_if : Bool → ℕ → List ℕ → List ℕ
put_if test number list = cond test (number ∷ list) list

-- the number is among those of the list
abbrev pub is_one_of : ℕ → List ℕ → Bool
is_one_of number list = list_any (λ member. member == number) list

other_put : (test : Bool) (first number : ℕ) (list : List ℕ) → (first ≡ number → ⊥) →
    is_one_of number (put_if test first list) ≡ is_one_of number list
other_put true first number list other = ap (λ (b : Bool). b || is_one_of number list) (ne_eqb first number other)
other_put false first number list other = refl

same_put : (test : Bool) (first number : ℕ) (list : List ℕ) → first ≡ number → is_one_of number list ≡ false →
    is_one_of number (put_if test first list) ≡ test
same_put true first number list same none = or_left (first == number) (is_one_of number list) (eq-eqb first number same)
same_put false first number list same none = none

put_cases : (test : Bool) (first number : ℕ) (list : List ℕ) → is_one_of number (put_if test first list) ≡ true →
    ((test ≡ true) × (first ≡ number)) ⊎ (is_one_of number list ≡ true)
put_cases true first number list h = go (or_cases (first == number) (is_one_of number list) h)
  where
    go : ((first == number) ≡ true) ⊎ (is_one_of number list ≡ true) → ((true ≡ true) × (first ≡ number)) ⊎ (is_one_of number list ≡ true)
    go (inl here) = inl (refl, eqb-true first number here)
    go (inr later) = inr later
put_cases false first number list h = inr h

-- The members

-- the threads of a group before its first one have other numbers
none_before : (plans : List Plan) (first group number : ℕ) → number < first → is_one_of number (members_from first plans group) ≡ false
none_before [] first group number lt = refl
none_before (p ∷ plans) first group number lt =
    other_put (p.group == group) first number (members_from (suc first) plans group) (λ same. absurd (omega (arith, same, lt)))
    ∙ none_before plans (suc first) group number (omega (arith, lt))

member_from : (plans : List Plan) (first group thread : ℕ) (plan : Plan) → slice_get plans thread ≡ Some plan →
    is_one_of (first + thread) (members_from first plans group) ≡ (plan.group == group)
member_from [] first group thread plan at = absurd (none-some plan at)
member_from (p ∷ plans) first group zero plan at =
    let none = none_before plans (suc first) group (first + 0) (omega arith) in
    same_put (p.group == group) first (first + 0) (members_from (suc first) plans group) (omega arith) none
    ∙ ap (λ (q : Plan). q.group == group) (same_Some p plan at)
member_from (p ∷ plans) first group (suc thread) plan at =
    let later : List ℕ = members_from (suc first) plans group in
    let same : suc first + thread ≡ first + suc thread = omega arith in
    other_put (p.group == group) first (first + suc thread) later (λ e. absurd (omega (arith, e)))
    ∙ subst (λ (n : ℕ). is_one_of n later ≡ (plan.group == group)) same (member_from plans (suc first) group thread plan at)

-- a thread is among those of its own group, and of no other
pub member_test : (threads : List Plan) (group thread : ℕ) (plan : Plan) → slice_get threads thread ≡ Some plan →
    is_one_of thread (members threads group) ≡ (plan.group == group)
member_test threads group thread plan at =
    let same : 0 + thread ≡ thread = omega arith in
    subst (λ (n : ℕ). is_one_of n (members threads group) ≡ (plan.group == group)) same (member_from threads 0 group thread plan at)

-- A thread of a group has a plan.
pub record IsMember (plans : List Plan) (first group number : ℕ) : Type 0 where
  pub place : ℕ
  pub plan : Plan
  pub numbered : number ≡ first + place
  pub at : slice_get plans place ≡ Some plan
  pub of_group : plan.group ≡ group

has_plan : (plans : List Plan) (first group number : ℕ) → is_one_of number (members_from first plans group) ≡ true →
    IsMember plans first group number
has_plan [] first group number h = cc
has_plan (p ∷ plans) first group number h =
    go (put_cases (p.group == group) first number (members_from (suc first) plans group) h)
    (λ inner. has_plan plans (suc first) group number inner)
  where
    go : (((p.group == group) ≡ true) × (first ≡ number)) ⊎ (is_one_of number (members_from (suc first) plans group) ≡ true) →
        (is_one_of number (members_from (suc first) plans group) ≡ true → IsMember plans (suc first) group number) →
        IsMember (p ∷ plans) first group number
    go (inl here) more = record {
      place = 0;
      plan = p;
      numbered = omega (arith, here.1);
      at = refl;
      of_group = eqb-true p.group group here.0;
    }
    go (inr inner) more =
        let m = more inner in
        record { place = suc m.place; plan = m.plan; numbered = omega (arith, m.numbered); at = m.at; of_group = m.of_group }

pub plan_of_member : (threads : List Plan) (group thread : ℕ) → Contains (members threads group) thread →
    IsMember threads 0 group thread
plan_of_member threads group thread has =
    let list : List ℕ = members threads group in
    has_plan threads 0 group thread
    (list_any_at (λ member. member == thread) list has.0 thread has.1 (eq-eqb (slice_index_or list has.0 thread) thread has.2))
