-- The batches that were pushed, and those of each group among them.
use Rattle.std.proofs.Common.{◌≡◌, ◌≢◌, ℕ, ◌≤◌, ◌==◌, Bool, true, false, cond, max, List, [], ◌∷◌, ◌++◌, refl, sym, ap, ◌∙◌, subst, inl, inr, arith, zero, suc}
use Rattle.std.specs.Prelude.{◌/◌, ◌⊎◌, ◌&&◌, Some, slice_get}
use Rattle.std.specs.List.{fold, flat_map, filter}
use Rattle.std.proofs.lemmas.Bool.{cases_eq, cases_Bool, cond-true, cond-false, eq-eqb, ne_eqb, eqb-true, and_from, false≢true}
use Rattle.std.proofs.lemmas.List.{append-nil}
use Rattle.std.proofs.lemmas.List.Concat.{flat_map-append}
use Rattle.std.proofs.lemmas.List.Elements.{filter-append}
use Rattle.std.proofs.lemmas.Option.{same_Some, none-some}
use Rattle.vk_types.specs.declared.batches.Batch.{Batch}
use Rattle.submit_queue.specs.Histories as queue
use Rattle.back_core.specs.declared.back_event.BackEvent.{BackEvent}
use Rattle.back_core.specs.declared.back_event.BackEvent.TheVariants.{Created, Wrote, Enqueued, Submitted, Ran, Retired, Fetched, Gave, Abandoned, Cleaned, Closing, Stopped}
use Rattle.back_core.specs.Own as own
use Rattle.back_core.specs.Own.{Own, batches_of, batch_touches, last_use}
use Rattle.back_core.specs.Link.{Link, created, wrote, enqueued, fetched, gave, abandoned}
use Rattle.back_core.specs.History.{queue_event, queue_history, if_own, link_after, own_part}
use Rattle.back_core.proofs.Sees.{part_then, if_own_is, if_own_not, group_of, queue_then}
use Rattle.back_core.proofs.Uses.{batches_then}
use Rattle.back_core.proofs.Runs.{at_each}

-- what holds of a link that is the group's own event's, or stays
pub either : (P : Link → Type 0) (h : List BackEvent) (g group : ℕ) (new : Link) → (group ≡ g → P new) → (group ≢ g → P (own_part h g)) → P (if_own (own_part h g) group new)
either P h g group new mine other = go (cases_eq group g)
  where
    go : (group ≡ g) ⊎ (group ≡ g → ⊥) → P (if_own (own_part h g) group new)
    go (inl e) = subst P (sym (if_own_is (own_part h g) group new (e ∙ sym (group_of h g)))) (mine e)
    go (inr d) = subst P (sym (if_own_not (own_part h g) group new (λ s. d (s ∙ group_of h g)))) (other d)

-- The batches

abbrev pub pushed : List BackEvent → List Batch
pushed h = queue.batches (queue_history h)

-- the batch that an event pushes
abbrev pub pushed_in : BackEvent → List Batch
pushed_in e = flat_map queue.pushed_by (queue_event e)

pub pushed_then : (h : List BackEvent) (e : BackEvent) → pushed (h ++ e ∷ []) ≡ pushed h ++ pushed_in e
pushed_then h e = ap queue.batches (queue_then h e) ∙ flat_map-append queue.pushed_by (queue_history h) (queue_event e)

pub pushed_same : (h : List BackEvent) (e : BackEvent) → pushed_in e ≡ [] → pushed (h ++ e ∷ []) ≡ pushed h
pushed_same h e none = pushed_then h e ∙ (ap (λ l. pushed h ++ l) none ∙ append-nil (pushed h))

-- whether the batch is of the group
abbrev pub is_of : ℕ → Batch → Bool
is_of g b = (b.index / 8) == g

abbrev own_batches : List BackEvent → ℕ → List Batch
own_batches h g = batches_of (own_part h g).mine

module _ (h : List BackEvent) (g : ℕ) where
  abbrev Grows : BackEvent → Link → Type 0
  Grows e l = batches_of l.mine ≡ own_batches h g ++ filter (is_of g) (pushed_in e)

  stays : batches_of (own_part h g).mine ≡ own_batches h g ++ []
  stays = sym (append-nil (own_batches h g))

  after : (e : BackEvent) → Grows e (link_after (own_part h g) e)
  after (Created group id kind) = either (Grows (Created group id kind)) h g group (created (own_part h g) id.0 kind) (λ e. stays) (λ d. stays)
  after (Wrote group id at bytes) = either (Grows (Wrote group id at bytes)) h g group (wrote (own_part h g) id.0 at bytes) (λ e. batches_then (own_part h g).mine (own.HostWrote id.0 at bytes)) (λ d. stays)
  after (Enqueued b) = either (Grows (Enqueued b)) h g (b.index / 8) (enqueued (own_part h g) b)
      (λ e. batches_then (own_part h g).mine (own.Enqueued b) ∙ ap (λ l. own_batches h g ++ l) (sym (cond-true (is_of g b) (b ∷ []) [] (eq-eqb (b.index / 8) g e))))
      (λ d. stays ∙ ap (λ l. own_batches h g ++ l) (sym (cond-false (is_of g b) (b ∷ []) [] (ne_eqb (b.index / 8) g d))))
  after Submitted = stays
  after (Ran batch node) = stays
  after (Retired serial) = stays
  after (Fetched group id at bytes) = either (Grows (Fetched group id at bytes)) h g group (fetched (own_part h g) id.0 at bytes) (λ e. batches_then (own_part h g).mine (own.HostRead id.0 at bytes)) (λ d. stays)
  after (Gave group id uses) = either (Grows (Gave group id uses)) h g group (gave (own_part h g) id.0 uses) (λ e. stays) (λ d. stays)
  after (Abandoned group id) = either (Grows (Abandoned group id)) h g group (abandoned (own_part h g) id.0) (λ e. stays) (λ d. stays)
  after (Cleaned read destroyed) = stays
  after Closing = stays
  after (Stopped stop) = stays

-- a group's batches are those of its indexes
pub own_batches_are : (g : ℕ) (h : List BackEvent) → batches_of (own_part h g).mine ≡ filter (is_of g) (pushed h)
own_batches_are g = at_each (λ h. own_batches h g ≡ filter (is_of g) (pushed h)) refl (λ h e so_far.
    ap (λ (l : Link). batches_of l.mine) (part_then h g e)
    ∙ after h g e
    ∙ ap (λ l. l ++ filter (is_of g) (pushed_in e)) so_far
    ∙ sym (filter-append (is_of g) (pushed h) (pushed_in e))
    ∙ ap (filter (is_of g)) (sym (pushed_then h e)))

-- Last numbers

abbrev number_from : ℕ → List Batch → ℕ → ℕ
number_from n list i = fold (λ n (b : Batch). cond (b.index == i) b.number n) n list

number_of_own : (g i n : ℕ) → i / 8 ≡ g → (xs : List Batch) → number_from n (filter (is_of g) xs) i ≡ number_from n xs i
number_of_own g i n own [] = refl
number_of_own g i n own (b ∷ xs) = go (cases_Bool (is_of g b)) (cases_eq b.index i) (λ m. number_of_own g i m own xs)
  where
    go : (is_of g b ≡ true) ⊎ (is_of g b ≡ false) → (b.index ≡ i) ⊎ (b.index ≡ i → ⊥) → ((m : ℕ) → number_from m (filter (is_of g) xs) i ≡ number_from m xs i)
        → number_from n (cond (is_of g b) (b ∷ filter (is_of g) xs) (filter (is_of g) xs)) i ≡ number_from (cond (b.index == i) b.number n) xs i
    go (inl t) c rest = ap (λ l. number_from n l i) (cond-true (is_of g b) (b ∷ filter (is_of g) xs) _ t) ∙ rest (cond (b.index == i) b.number n)
    go (inr f) (inl e) rest = absurd (false≢true (sym f ∙ eq-eqb (b.index / 8) g (ap (λ j. j / 8) e ∙ own)))
    go (inr f) (inr d) rest =
        ap (λ l. number_from n l i) (cond-false (is_of g b) (b ∷ filter (is_of g) xs) _ f)
        ∙ rest n
        ∙ ap (λ m. number_from m xs i) (sym (cond-false (b.index == i) b.number n (ne_eqb b.index i d)))

number_of_others : (g i n : ℕ) → i / 8 ≢ g → (xs : List Batch) → number_from n (filter (is_of g) xs) i ≡ n
number_of_others g i n other [] = refl
number_of_others g i n other (b ∷ xs) = go (cases_Bool (is_of g b)) (cases_eq b.index i) (λ m. number_of_others g i m other xs)
  where
    go : (is_of g b ≡ true) ⊎ (is_of g b ≡ false) → (b.index ≡ i) ⊎ (b.index ≡ i → ⊥) → ((m : ℕ) → number_from m (filter (is_of g) xs) i ≡ m) → number_from n (cond (is_of g b) (b ∷ filter (is_of g) xs) (filter (is_of g) xs)) i ≡ n
    go (inr f) c rest = ap (λ l. number_from n l i) (cond-false (is_of g b) (b ∷ filter (is_of g) xs) _ f) ∙ rest n
    go (inl t) (inl e) rest = absurd (other (ap (λ j. j / 8) (sym e) ∙ eqb-true (b.index / 8) g t))
    go (inl t) (inr d) rest =
        ap (λ l. number_from n l i) (cond-true (is_of g b) (b ∷ filter (is_of g) xs) _ t)
        ∙ rest (cond (b.index == i) b.number n)
        ∙ cond-false (b.index == i) b.number n (ne_eqb b.index i d)

-- the last number of an index in the list of its group
pub own_last_number : (h : List BackEvent) (g i : ℕ) → i / 8 ≡ g → queue.last_number (batches_of (own_part h g).mine) i ≡ queue.last_number (pushed h) i
own_last_number h g i own = ap (λ l. queue.last_number l i) (own_batches_are g h) ∙ number_of_own g i 0 own (pushed h)

-- and in that of another
pub other_last_number : (h : List BackEvent) (g i : ℕ) → i / 8 ≢ g → queue.last_number (batches_of (own_part h g).mine) i ≡ 0
other_last_number h g i other = ap (λ l. queue.last_number l i) (own_batches_are g h) ∙ number_of_others g i 0 other (pushed h)

-- Last uses

abbrev use_from : ℕ → List Batch → ℕ → ℕ → ℕ
use_from n list index id = fold (λ n (b : Batch). cond ((b.index == index) && batch_touches b id) (max n b.number) n) n list

more_use : (b : Bool) (n m : ℕ) → n ≤ cond b (max n m) n
more_use true n m = omega arith
more_use false n m = omega arith

use_grows : (xs : List Batch) (n index id : ℕ) → n ≤ use_from n xs index id
use_grows [] n index id = omega arith
use_grows (b ∷ xs) n index id =
    omega (arith, use_grows xs (cond ((b.index == index) && batch_touches b id) (max n b.number) n) index id, more_use ((b.index == index) && batch_touches b id) n b.number)

use_reaches : (g : ℕ) (xs : List Batch) (k n id : ℕ) (b : Batch) → slice_get xs k ≡ Some b → is_of g b ≡ true → batch_touches b id ≡ true → b.number ≤ use_from n (filter (is_of g) xs) b.index id
use_reaches g [] k n id b at own touches = absurd (none-some b at)
use_reaches g (c ∷ xs) zero n id b at own touches =
    let same : c ≡ b = same_Some c b at in
    let here : filter (is_of g) (c ∷ xs) ≡ c ∷ filter (is_of g) xs = cond-true (is_of g c) (c ∷ filter (is_of g) xs) _ (ap (is_of g) same ∙ own) in
    let test : ((c.index == b.index) && batch_touches c id) ≡ true = and_from (c.index == b.index) (batch_touches c id) (eq-eqb c.index b.index (ap (λ (x : Batch). x.index) same)) (ap (λ x. batch_touches x id) same ∙ touches) in
    let first : cond ((c.index == b.index) && batch_touches c id) (max n c.number) n ≡ max n c.number = cond-true _ (max n c.number) n test in
    let number : c.number ≡ b.number = ap (λ (x : Batch). x.number) same in
    subst (λ l. b.number ≤ use_from n l b.index id) (sym here) (omega (arith, use_grows (filter (is_of g) xs) (cond ((c.index == b.index) && batch_touches c id) (max n c.number) n) b.index id, first, number))
use_reaches g (c ∷ xs) (suc k) n id b at own touches = go (cases_Bool (is_of g c)) (λ m. use_reaches g xs k m id b at own touches)
  where
    go : (is_of g c ≡ true) ⊎ (is_of g c ≡ false) → ((m : ℕ) → b.number ≤ use_from m (filter (is_of g) xs) b.index id) → b.number ≤ use_from n (cond (is_of g c) (c ∷ filter (is_of g) xs) (filter (is_of g) xs)) b.index id
    go (inl t) rest = subst (λ l. b.number ≤ use_from n l b.index id) (sym (cond-true (is_of g c) (c ∷ filter (is_of g) xs) _ t)) (rest (cond ((c.index == b.index) && batch_touches c id) (max n c.number) n))
    go (inr f) rest = subst (λ l. b.number ≤ use_from n l b.index id) (sym (cond-false (is_of g c) (c ∷ filter (is_of g) xs) _ f)) (rest n)

-- a batch of the group that touches the object has no greater number than the last use
pub use_counts : (h : List BackEvent) (g k id : ℕ) (b : Batch) → slice_get (pushed h) k ≡ Some b → b.index / 8 ≡ g → batch_touches b id ≡ true → b.number ≤ last_use (own_part h g).mine b.index id
use_counts h g k id b at own touches =
    subst (λ l. b.number ≤ use_from 0 l b.index id) (sym (own_batches_are g h)) (use_reaches g (pushed h) k 0 id b at (eq-eqb (b.index / 8) g own) touches)
