-- What a link says of the objects that its group made.
use Rattle.std.proofs.Common.{◌≡◌, ℕ, ◌+◌, ◌<◌, ◌≤◌, ◌==◌, true, false, List, refl, sym, ◌∙◌, subst, inl, inr, arith}
use Rattle.std.specs.Prelude.{◌⊎◌, Some, None, Option, All}
use Rattle.std.proofs.lemmas.Bool.{cases_eq, cond-true, cond-false, eq-eqb, ne_eqb, false≢true, false_from_ne_true}
use Rattle.std.proofs.lemmas.List.Elements.{All-push}
use Rattle.std.proofs.lemmas.Option.{none-some}
use Rattle.vk_types.specs.declared.handles.Kind.{Kind}
use Rattle.vk_types.specs.declared.batches.Batch.{Batch}
use Rattle.vk_types.specs.declared.batches.QueueSerial.{QueueSerial}
use Rattle.back_core.specs.Own.{HostWrote, Enqueued, HostRead, own_touches, batch_touches}
use Rattle.back_core.specs.Link.{Link, put, created, wrote, enqueued, fetched, gave, abandoned}
use Rattle.back_core.specs.Needs.{MayTouch}

-- a function with another value at one place

pub put_here : {A : Type 0} (f : ℕ → A) (k : ℕ) (v : A) (i : ℕ) → i ≡ k → put f k v i ≡ v
unfolding put
put_here f k v i e = cond-true (i == k) v (f i) (eq-eqb i k e)

pub put_other : {A : Type 0} (f : ℕ → A) (k : ℕ) (v : A) (i : ℕ) → (i ≡ k → ⊥) → put f k v i ≡ f i
unfolding put
put_other f k v i e = cond-false (i == k) v (f i) (ne_eqb i k e)

-- an option by its cases

pub none_or_some : {A : Type 0} (o : Option A) → (o ≡ None) ⊎ ((x : A) × (o ≡ Some x))
none_or_some None = inl refl
none_or_some (Some x) = inr (x, refl)

-- the group made the object
abbrev pub IsMade : Link → ℕ → Type 0
IsMade l id = (kind : Kind) × (l.kinds id ≡ Some kind)

-- The objects of a link have numbers below a bound. What is held was made and not given, what was given was made, and
-- what was not made is not touched.
pub record IsKnown (bound : ℕ) (l : Link) : Type 0 where
  pub low : (id : ℕ) (kind : Kind) → l.kinds id ≡ Some kind → id < bound
  pub held_made : (id : ℕ) → l.held id ≡ true → IsMade l id
  pub held_kept : (id : ℕ) → l.held id ≡ true → l.given id ≡ None
  pub given_made : (id : ℕ) (uses : List QueueSerial) → l.given id ≡ Some uses → IsMade l id
  pub untouched : (id : ℕ) → l.kinds id ≡ None → All (λ x. own_touches x id ≡ false) l.mine

not_made : (l : Link) (id : ℕ) → IsMade l id → l.kinds id ≡ None → ⊥
not_made l id made none = none-some made.0 (sym none ∙ made.1)

module _ (bound : ℕ) (l : Link) (is : IsKnown bound l) where
  pub known_weaker : (more : ℕ) → bound ≤ more → IsKnown more l
  known_weaker more le = record {
    low = λ id kind at. omega (arith, is.low id kind at, le);
    held_made = is.held_made;
    held_kept = is.held_kept;
    given_made = is.given_made;
    untouched = is.untouched;
  }

  -- what may be touched was made
  pub touch_made : (index number id : ℕ) → MayTouch l index number id → IsMade l id
  touch_made index number id (inl held) = is.held_made id held
  touch_made index number id (inr given) = is.given_made id given.0 given.1

  -- an object that was not made is not given
  not_given : (id : ℕ) → ((kind : Kind) → l.kinds id ≡ Some kind → ⊥) → l.given id ≡ None
  not_given id never = go (none_or_some (l.given id))
    where
      go : (l.given id ≡ None) ⊎ ((uses : List QueueSerial) × (l.given id ≡ Some uses)) → l.given id ≡ None
      go (inl none) = none
      go (inr some) = let made = is.given_made id some.0 some.1 in absurd (never made.0 made.1)

  pub known_created : (id : ℕ) (kind : Kind) → id ≡ bound → IsKnown (bound + 1) (created l id kind)
  known_created id kind here = record {
    low = λ i k at. low i k at (cases_eq i id);
    held_made = λ i held. made i held (cases_eq i id);
    held_kept = λ i held. kept i held (cases_eq i id);
    given_made = λ i uses at. let made = is.given_made i uses at in (made.0, put_other l.kinds id (Some kind) i (apart i made.0 made.1) ∙ made.1);
    untouched = λ i none. is.untouched i (still_none i none (cases_eq i id));
  }
    where
      apart : (i : ℕ) (k : Kind) → l.kinds i ≡ Some k → i ≡ id → ⊥
      apart i k at same = omega (arith, is.low i k at, same, here)

      low : (i : ℕ) (k : Kind) → put l.kinds id (Some kind) i ≡ Some k → (i ≡ id) ⊎ (i ≡ id → ⊥) → i < bound + 1
      low i k at (inl same) = omega (arith, same, here)
      low i k at (inr other) = omega (arith, is.low i k (sym (put_other l.kinds id (Some kind) i other) ∙ at))

      made : (i : ℕ) → put l.held id true i ≡ true → (i ≡ id) ⊎ (i ≡ id → ⊥) → (k : Kind) × (put l.kinds id (Some kind) i ≡ Some k)
      made i held (inl same) = (kind, put_here l.kinds id (Some kind) i same)
      made i held (inr other) = let old = is.held_made i (sym (put_other l.held id true i other) ∙ held) in (old.0, put_other l.kinds id (Some kind) i other ∙ old.1)

      kept : (i : ℕ) → put l.held id true i ≡ true → (i ≡ id) ⊎ (i ≡ id → ⊥) → l.given i ≡ None
      kept i held (inl same) = not_given i (λ k at. apart i k at same)
      kept i held (inr other) = is.held_kept i (sym (put_other l.held id true i other) ∙ held)

      still_none : (i : ℕ) → put l.kinds id (Some kind) i ≡ None → (i ≡ id) ⊎ (i ≡ id → ⊥) → l.kinds i ≡ None
      still_none i none (inl same) = absurd (none-some kind (sym none ∙ put_here l.kinds id (Some kind) i same))
      still_none i none (inr other) = sym (put_other l.kinds id (Some kind) i other) ∙ none

  -- an object that was made is no other one
  differs : (id i : ℕ) → IsMade l id → l.kinds i ≡ None → (id == i) ≡ false
  differs id i made none = ne_eqb id i (λ same. not_made l i (subst (λ j. IsMade l j) same made) none)

  pub known_wrote : (id at : ℕ) (bytes : List ℕ) → l.held id ≡ true → IsKnown bound (wrote l id at bytes)
  known_wrote id at bytes held = record {
    low = is.low;
    held_made = is.held_made;
    held_kept = is.held_kept;
    given_made = is.given_made;
    untouched = λ i none. All-push (λ x. own_touches x i ≡ false) l.mine (HostWrote id at bytes) (is.untouched i none) (differs id i (is.held_made id held) none);
  }

  pub known_fetched : (id at : ℕ) (bytes : List ℕ) → l.held id ≡ true → IsKnown bound (fetched l id at bytes)
  known_fetched id at bytes held = record {
    low = is.low;
    held_made = is.held_made;
    held_kept = is.held_kept;
    given_made = is.given_made;
    untouched = λ i none. All-push (λ x. own_touches x i ≡ false) l.mine (HostRead id at bytes) (is.untouched i none) (differs id i (is.held_made id held) none);
  }

  pub known_enqueued : (b : Batch) → ((id : ℕ) → batch_touches b id ≡ true → MayTouch l b.index b.number id) → IsKnown bound (enqueued l b)
  known_enqueued b touched = record {
    low = is.low;
    held_made = is.held_made;
    held_kept = is.held_kept;
    given_made = is.given_made;
    untouched = λ i none. All-push (λ x. own_touches x i ≡ false) l.mine (Enqueued b) (is.untouched i none)
        (false_from_ne_true (batch_touches b i) (λ t. not_made l i (touch_made b.index b.number i (touched i t)) none));
  }

  -- an object that is no longer held
  let_go : (id i : ℕ) → put l.held id false i ≡ true → (i ≡ id → ⊥) × (l.held i ≡ true)
  let_go id i held = go (cases_eq i id)
    where
      go : (i ≡ id) ⊎ (i ≡ id → ⊥) → (i ≡ id → ⊥) × (l.held i ≡ true)
      go (inl same) = absurd (false≢true (sym (put_here l.held id false i same) ∙ held))
      go (inr other) = (other, sym (put_other l.held id false i other) ∙ held)

  pub known_abandoned : (id : ℕ) → IsKnown bound (abandoned l id)
  known_abandoned id = record {
    low = is.low;
    held_made = λ i held. is.held_made i (let_go id i held).1;
    held_kept = λ i held. is.held_kept i (let_go id i held).1;
    given_made = is.given_made;
    untouched = is.untouched;
  }

  pub known_gave : (id : ℕ) (uses : List QueueSerial) → l.held id ≡ true → IsKnown bound (gave l id uses)
  known_gave id uses held = record {
    low = is.low;
    held_made = λ i kept. is.held_made i (let_go id i kept).1;
    held_kept = λ i kept. let old = let_go id i kept in put_other l.given id (Some uses) i old.0 ∙ is.held_kept i old.1;
    given_made = λ i us at. made i us at (cases_eq i id);
    untouched = is.untouched;
  }
    where
      made : (i : ℕ) (us : List QueueSerial) → put l.given id (Some uses) i ≡ Some us → (i ≡ id) ⊎ (i ≡ id → ⊥) → IsMade l i
      made i us at (inl same) = subst (λ j. IsMade l j) (sym same) (is.held_made id held)
      made i us at (inr other) = is.given_made i us (sym (put_other l.given id (Some uses) i other) ∙ at)
