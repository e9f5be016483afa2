-- What an event adds to the list of a group, and which objects the group made after it.
use Rattle.std.proofs.Common.{◌≡◌, ℕ, ◌==◌, Bool, true, false, cond, List, [], ◌∷◌, ◌++◌, refl, sym, ap, ◌∙◌, subst, inl, inr, eq-eqb}
use Rattle.std.specs.Prelude.{◌/◌, ◌⊎◌, Option, Some, IsSome}
use Rattle.std.proofs.lemmas.Bool.{cases_eq, cond-true, cond-false, ne_eqb}
use Rattle.std.proofs.lemmas.List.{append-nil}
use Rattle.std.proofs.lemmas.List.Concat.{flat_map-append}
use Rattle.std.proofs.lemmas.Option.{same_Some}
use Rattle.vk_types.specs.declared.handles.HandleId.{HandleId}
use Rattle.vk_types.specs.declared.handles.Kind.{Kind}
use Rattle.vk_types.specs.declared.batches.Batch.{Batch}
use Rattle.vk_model.specs.Log.{Item, HostWrite, commands}
use Rattle.back_core.specs.declared.back_event.BackEvent.{BackEvent}
use Rattle.back_core.specs.declared.back_event.BackEvent.TheVariants.{Created, Wrote, Enqueued, Submitted, Ran, Retired, Fetched, Gave, Abandoned, Cleaned, Closing, Stopped}
use Rattle.back_core.specs.Own as own
use Rattle.back_core.specs.Link.{Link, put, created, wrote, enqueued, fetched, gave, abandoned}
use Rattle.back_core.specs.History.{link_after, own_part}
use Rattle.back_core.proofs.Sees.{part_then}
use Rattle.back_core.proofs.Parts.{either}

-- Sorts of events

-- neither a write by the host nor a new batch
abbrev pub IsOther : BackEvent → Type 0
IsOther (Created group id kind) = Unit {0}
IsOther (Wrote group id at bytes) = ⊥
IsOther (Enqueued batch) = ⊥
IsOther Submitted = Unit {0}
IsOther (Ran batch node) = Unit {0}
IsOther (Retired serial) = Unit {0}
IsOther (Fetched group id at bytes) = Unit {0}
IsOther (Gave group id uses) = Unit {0}
IsOther (Abandoned group id) = Unit {0}
IsOther (Cleaned read destroyed) = Unit {0}
IsOther Closing = Unit {0}
IsOther (Stopped stop) = Unit {0}

pub by_sort : (P : BackEvent → Type 0) → ((group : ℕ) (id : HandleId) (at : ℕ) (bytes : List ℕ) → P (Wrote group id at bytes)) → ((b : Batch) → P (Enqueued b)) → ((e : BackEvent) → IsOther e → P e) → (e : BackEvent) → P e
by_sort P write batch other (Created group id kind) = other (Created group id kind) tt
by_sort P write batch other (Wrote group id at bytes) = write group id at bytes
by_sort P write batch other (Enqueued b) = batch b
by_sort P write batch other Submitted = other Submitted tt
by_sort P write batch other (Ran b node) = other (Ran b node) tt
by_sort P write batch other (Retired serial) = other (Retired serial) tt
by_sort P write batch other (Fetched group id at bytes) = other (Fetched group id at bytes) tt
by_sort P write batch other (Gave group id uses) = other (Gave group id uses) tt
by_sort P write batch other (Abandoned group id) = other (Abandoned group id) tt
by_sort P write batch other (Cleaned read destroyed) = other (Cleaned read destroyed) tt
by_sort P write batch other Closing = other Closing tt
by_sort P write batch other (Stopped stop) = other (Stopped stop) tt

-- The group's list

-- the log of a group's list
abbrev pub own_log : List BackEvent → ℕ → List Item
own_log h g = own.log_of (own_part h g).mine

-- what an event adds to it
abbrev pub own_items : ℕ → BackEvent → List Item
own_items g (Created group id kind) = []
own_items g (Wrote group id at bytes) = cond (group == g) (HostWrite id.0 at bytes ∷ []) []
own_items g (Enqueued batch) = cond ((batch.index / 8) == g) (commands 0 batch.nodes) []
own_items g Submitted = []
own_items g (Ran batch node) = []
own_items g (Retired serial) = []
own_items g (Fetched group id at bytes) = []
own_items g (Gave group id uses) = []
own_items g (Abandoned group id) = []
own_items g (Cleaned read destroyed) = []
own_items g Closing = []
own_items g (Stopped stop) = []

pub own_items-other : (g : ℕ) (e : BackEvent) → IsOther e → own_items g e ≡ []
own_items-other g (Created group id kind) other = refl
own_items-other g (Wrote group id at bytes) other = absurd other
own_items-other g (Enqueued batch) other = absurd other
own_items-other g Submitted other = refl
own_items-other g (Ran batch node) other = refl
own_items-other g (Retired serial) other = refl
own_items-other g (Fetched group id at bytes) other = refl
own_items-other g (Gave group id uses) other = refl
own_items-other g (Abandoned group id) other = refl
own_items-other g (Cleaned read destroyed) other = refl
own_items-other g Closing other = refl
own_items-other g (Stopped stop) other = refl

mine_then : (mine : List own.Own) (x : own.Own) → own.log_of (mine ++ x ∷ []) ≡ own.log_of mine ++ own.log_by x
mine_then mine x = flat_map-append own.log_by mine (x ∷ []) ∙ ap (λ l. own.log_of mine ++ l) (append-nil (own.log_by x))

module _ (h : List BackEvent) (g : ℕ) where
  abbrev Adds : BackEvent → Link → Type 0
  Adds e l = own.log_of l.mine ≡ own_log h g ++ own_items g e

  stays : own.log_of (own_part h g).mine ≡ own_log h g ++ []
  stays = sym (append-nil (own_log h g))

  adds : (e : BackEvent) → Adds e (link_after (own_part h g) e)
  adds (Created group id kind) = either (Adds (Created group id kind)) h g group (created (own_part h g) id.0 kind) (λ e. stays) (λ d. stays)
  adds (Wrote group id at bytes) = either (Adds (Wrote group id at bytes)) h g group (wrote (own_part h g) id.0 at bytes)
      (λ e. mine_then (own_part h g).mine (own.HostWrote id.0 at bytes) ∙ ap (λ l. own_log h g ++ l) (sym (cond-true (group == g) (HostWrite id.0 at bytes ∷ []) [] (eq-eqb group g e))))
      (λ d. stays ∙ ap (λ l. own_log h g ++ l) (sym (cond-false (group == g) (HostWrite id.0 at bytes ∷ []) [] (ne_eqb group g d))))
  adds (Enqueued b) = either (Adds (Enqueued b)) h g (b.index / 8) (enqueued (own_part h g) b)
      (λ e. mine_then (own_part h g).mine (own.Enqueued b) ∙ ap (λ l. own_log h g ++ l) (sym (cond-true ((b.index / 8) == g) (commands 0 b.nodes) [] (eq-eqb (b.index / 8) g e))))
      (λ d. stays ∙ ap (λ l. own_log h g ++ l) (sym (cond-false ((b.index / 8) == g) (commands 0 b.nodes) [] (ne_eqb (b.index / 8) g d))))
  adds Submitted = stays
  adds (Ran batch node) = stays
  adds (Retired serial) = stays
  adds (Fetched group id at bytes) = either (Adds (Fetched group id at bytes)) h g group (fetched (own_part h g) id.0 at bytes) (λ e. mine_then (own_part h g).mine (own.HostRead id.0 at bytes)) (λ d. stays)
  adds (Gave group id uses) = either (Adds (Gave group id uses)) h g group (gave (own_part h g) id.0 uses) (λ e. stays) (λ d. stays)
  adds (Abandoned group id) = either (Adds (Abandoned group id)) h g group (abandoned (own_part h g) id.0) (λ e. stays) (λ d. stays)
  adds (Cleaned read destroyed) = stays
  adds Closing = stays
  adds (Stopped stop) = stays

pub own_log-then : (h : List BackEvent) (e : BackEvent) (g : ℕ) → own_log (h ++ e ∷ []) g ≡ own_log h g ++ own_items g e
own_log-then h e g = ap (λ (l : Link). own.log_of l.mine) (part_then h g e) ∙ adds h g e

-- The objects that the group made

-- the event is the making of this object by the group
abbrev pub IsCreated : ℕ → ℕ → Kind → BackEvent → Type 0
IsCreated g i k (Created group id kind) = (group ≡ g) × (i ≡ id.0) × (kind ≡ k)
IsCreated g i k (Wrote group id at bytes) = ⊥
IsCreated g i k (Enqueued batch) = ⊥
IsCreated g i k Submitted = ⊥
IsCreated g i k (Ran batch node) = ⊥
IsCreated g i k (Retired serial) = ⊥
IsCreated g i k (Fetched group id at bytes) = ⊥
IsCreated g i k (Gave group id uses) = ⊥
IsCreated g i k (Abandoned group id) = ⊥
IsCreated g i k (Cleaned read destroyed) = ⊥
IsCreated g i k Closing = ⊥
IsCreated g i k (Stopped stop) = ⊥

put_cases : {A : Type 0} (f : ℕ → Option A) (k : ℕ) (v w : A) (i : ℕ) → put f k (Some v) i ≡ Some w → (f i ≡ Some w) ⊎ ((i ≡ k) × (v ≡ w))
unfolding put
put_cases {A} f k v w i is = go (cases_eq i k)
  where
    go : (i ≡ k) ⊎ (i ≡ k → ⊥) → (f i ≡ Some w) ⊎ ((i ≡ k) × (v ≡ w))
    go (inl e) = inr (e, same_Some v w (sym (cond-true (i == k) (Some v) (f i) (eq-eqb i k e)) ∙ is))
    go (inr d) = inl (sym (cond-false (i == k) (Some v) (f i) (ne_eqb i k d)) ∙ is)

put_some : {A : Type 0} (f : ℕ → Option A) (k : ℕ) (v : A) (i : ℕ) → IsSome (f i) → IsSome (put f k (Some v) i)
unfolding put
put_some {A} f k v i some = go (i == k)
  where
    go : (b : Bool) → IsSome (cond b (Some v) (f i))
    go true = refl
    go false = some

module _ (h : List BackEvent) (g i : ℕ) where
  abbrev Makes : Kind → BackEvent → Link → Type 0
  Makes k e l = l.kinds i ≡ Some k → ((own_part h g).kinds i ≡ Some k) ⊎ IsCreated g i k e

  makes : (k : Kind) (e : BackEvent) → Makes k e (link_after (own_part h g) e)
  makes k (Created group id kind) = either (Makes k (Created group id kind)) h g group (created (own_part h g) id.0 kind)
      (λ own is. elim (put_cases (own_part h g).kinds id.0 kind k i is) [ inl before ↦ inl before | inr now ↦ inr (own, now.0, now.1) ])
      (λ d is. inl is)
  makes k (Wrote group id at bytes) = either (Makes k (Wrote group id at bytes)) h g group (wrote (own_part h g) id.0 at bytes) (λ e is. inl is) (λ d is. inl is)
  makes k (Enqueued b) = either (Makes k (Enqueued b)) h g (b.index / 8) (enqueued (own_part h g) b) (λ e is. inl is) (λ d is. inl is)
  makes k Submitted = λ is. inl is
  makes k (Ran batch node) = λ is. inl is
  makes k (Retired serial) = λ is. inl is
  makes k (Fetched group id at bytes) = either (Makes k (Fetched group id at bytes)) h g group (fetched (own_part h g) id.0 at bytes) (λ e is. inl is) (λ d is. inl is)
  makes k (Gave group id uses) = either (Makes k (Gave group id uses)) h g group (gave (own_part h g) id.0 uses) (λ e is. inl is) (λ d is. inl is)
  makes k (Abandoned group id) = either (Makes k (Abandoned group id)) h g group (abandoned (own_part h g) id.0) (λ e is. inl is) (λ d is. inl is)
  makes k (Cleaned read destroyed) = λ is. inl is
  makes k Closing = λ is. inl is
  makes k (Stopped stop) = λ is. inl is

  abbrev Has : Link → Type 0
  Has l = IsSome ((own_part h g).kinds i) → IsSome (l.kinds i)

  has : (e : BackEvent) → Has (link_after (own_part h g) e)
  has (Created group id kind) = either Has h g group (created (own_part h g) id.0 kind) (λ e. put_some (own_part h g).kinds id.0 kind i) (λ d some. some)
  has (Wrote group id at bytes) = either Has h g group (wrote (own_part h g) id.0 at bytes) (λ e some. some) (λ d some. some)
  has (Enqueued b) = either Has h g (b.index / 8) (enqueued (own_part h g) b) (λ e some. some) (λ d some. some)
  has Submitted = λ some. some
  has (Ran batch node) = λ some. some
  has (Retired serial) = λ some. some
  has (Fetched group id at bytes) = either Has h g group (fetched (own_part h g) id.0 at bytes) (λ e some. some) (λ d some. some)
  has (Gave group id uses) = either Has h g group (gave (own_part h g) id.0 uses) (λ e some. some) (λ d some. some)
  has (Abandoned group id) = either Has h g group (abandoned (own_part h g) id.0) (λ e some. some) (λ d some. some)
  has (Cleaned read destroyed) = λ some. some
  has Closing = λ some. some
  has (Stopped stop) = λ some. some

-- what a group made it made before, or by the event
pub made_then : (h : List BackEvent) (e : BackEvent) (g i : ℕ) (k : Kind) → (own_part (h ++ e ∷ []) g).kinds i ≡ Some k → ((own_part h g).kinds i ≡ Some k) ⊎ IsCreated g i k e
made_then h e g i k is = makes h g i k e (ap (λ (l : Link). l.kinds i) (sym (part_then h g e)) ∙ is)

pub made_still : (h : List BackEvent) (e : BackEvent) (g i : ℕ) → IsSome ((own_part h g).kinds i) → IsSome ((own_part (h ++ e ∷ []) g).kinds i)
made_still h e g i some = subst (λ (l : Link). IsSome (l.kinds i)) (sym (part_then h g e)) (has h g i e some)
