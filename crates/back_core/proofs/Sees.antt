-- What a group sees after one more event.
use mathlib.Core.Path.{fun_ext}
use Rattle.std.proofs.Common.{◌≡◌, ◌≢◌, ℕ, ◌≤◌, ◌==◌, Bool, true, false, cond, List, [], ◌∷◌, ◌++◌, refl, sym, ap, ◌∙◌, subst, inl, inr, arith}
use Rattle.std.specs.Prelude.{◌/◌, ◌⊎◌, Some, None}
use Rattle.std.specs.List.{fold}
use Rattle.std.proofs.lemmas.Bool.{cases_eq, cond-true, cond-false, eq-eqb, ne_eqb}
use Rattle.std.proofs.lemmas.List.{append-nil}
use Rattle.std.proofs.lemmas.List.Concat.{flat_map-append}
use Rattle.std.proofs.lemmas.List.Sums.{fold-append}
use Rattle.vk_types.specs.declared.handles.HandleId.{HandleId}
use Rattle.vk_types.specs.declared.handles.Kind.{Kind}
use Rattle.vk_types.specs.declared.batches.Batch.{Batch}
use Rattle.vk_types.specs.declared.stops.Stop.{Stop}
use Rattle.vk_types.specs.declared.batches.QueueSerial.{QueueSerial}
use Rattle.submit_queue.specs.Histories as queue
use Rattle.back_core.specs.declared.back_event.BackEvent.{BackEvent}
use Rattle.back_core.specs.declared.back_event.BackEvent.TheVariants.{Created, Wrote, Enqueued, Submitted, Ran, Retired, Fetched, Gave, Abandoned, Cleaned, Closing, Stopped}
use Rattle.back_core.specs.Link.{Link, put, created, wrote, enqueued, fetched, gave, abandoned}
use Rattle.back_core.specs.Answers.{Learns, Completes}
use Rattle.back_core.specs.History.{queue_event, queue_history, completed, opening, if_own, link_after, own_part, link_of, IsOfOthers}

-- The group stays

own_keeps : (b : Bool) (l new : Link) → new.group ≡ l.group → (cond b new l).group ≡ l.group
own_keeps true l new e = e
own_keeps false l new e = refl

pub after_keeps : (l : Link) (e : BackEvent) → (link_after l e).group ≡ l.group
after_keeps l (Created group id kind) = own_keeps (group == l.group) l _ refl
after_keeps l (Wrote group id at bytes) = own_keeps (group == l.group) l _ refl
after_keeps l (Enqueued batch) = own_keeps ((batch.index / 8) == l.group) l _ refl
after_keeps l Submitted = refl
after_keeps l (Ran batch node) = refl
after_keeps l (Retired serial) = refl
after_keeps l (Fetched group id at bytes) = own_keeps (group == l.group) l _ refl
after_keeps l (Gave group id uses) = own_keeps (group == l.group) l _ refl
after_keeps l (Abandoned group id) = own_keeps (group == l.group) l _ refl
after_keeps l (Cleaned read destroyed) = refl
after_keeps l Closing = refl
after_keeps l (Stopped stop) = refl

all_keep : (l : Link) (h : List BackEvent) → (fold link_after l h).group ≡ l.group
all_keep l [] = refl
all_keep l (e ∷ h) = all_keep (link_after l e) h ∙ after_keeps l e

pub group_of : (h : List BackEvent) (g : ℕ) → (own_part h g).group ≡ g
group_of h g = all_keep (opening g) h

-- One more event

pub part_then : (h : List BackEvent) (g : ℕ) (e : BackEvent) → own_part (h ++ e ∷ []) g ≡ link_after (own_part h g) e
part_then h g e = fold-append link_after (opening g) h (e ∷ [])

pub if_own_is : (l : Link) (group : ℕ) (new : Link) → group ≡ l.group → if_own l group new ≡ new
if_own_is l group new e = cond-true (group == l.group) new l (eq-eqb group l.group e)

pub if_own_not : (l : Link) (group : ℕ) (new : Link) → group ≢ l.group → if_own l group new ≡ l
if_own_not l group new e = cond-false (group == l.group) new l (ne_eqb group l.group e)

pub queue_then : (h : List BackEvent) (e : BackEvent) → queue_history (h ++ e ∷ []) ≡ queue_history h ++ queue_event e
queue_then h e = flat_map-append queue_event h (e ∷ []) ∙ ap (λ l. queue_history h ++ l) (append-nil (queue_event e))

pub queue_same : (h : List BackEvent) (e : BackEvent) → queue_event e ≡ [] → queue_history (h ++ e ∷ []) ≡ queue_history h
queue_same h e none = queue_then h e ∙ (ap (λ l. queue_history h ++ l) none ∙ append-nil (queue_history h))

-- an event that is none of the queue's
pub completed_same : (h : List BackEvent) (e : BackEvent) → queue_event e ≡ [] → completed (h ++ e ∷ []) ≡ completed h
completed_same h e none = fun_ext (λ i. ap (λ q. queue.completed q i) (queue_same h e none))

-- the record of a part of the history, with the completed numbers
abbrev told : Link → (ℕ → ℕ) → Link
told l c = record l { done = c; now = Some c; asked = None }

link_then : (h : List BackEvent) (g : ℕ) (e : BackEvent) (new : Link) (c : ℕ → ℕ) → link_after (own_part h g) e ≡ new → completed (h ++ e ∷ []) ≡ c → link_of (h ++ e ∷ []) g ≡ told new c
link_then h g e new c part numbers = ap (λ l. told l (completed (h ++ e ∷ []))) (part_then h g e ∙ part) ∙ ap (λ k. told new k) numbers

-- the group's own event
own_then : (h : List BackEvent) (g : ℕ) (e : BackEvent) (group : ℕ) (new : Link) → link_after (own_part h g) e ≡ if_own (own_part h g) group new → group ≡ g → completed (h ++ e ∷ []) ≡ completed h → link_of (h ++ e ∷ []) g ≡ told new (completed h)
own_then h g e group new is own numbers = link_then h g e new (completed h) (is ∙ if_own_is (own_part h g) group new (own ∙ sym (group_of h g))) numbers

-- another group's
others_then : (h : List BackEvent) (g : ℕ) (e : BackEvent) (group : ℕ) (new : Link) → link_after (own_part h g) e ≡ if_own (own_part h g) group new → group ≢ g → completed (h ++ e ∷ []) ≡ completed h → link_of (h ++ e ∷ []) g ≡ link_of h g
others_then h g e group new is other numbers = link_then h g e (own_part h g) (completed h) (is ∙ if_own_not (own_part h g) group new (λ s. other (s ∙ group_of h g))) numbers

-- the law on completed numbers
abbrev pub Stays : Type 0
Stays = (h : List queue.Event) (e : queue.Event) → queue.is_retire e ≡ false → (i : ℕ) → queue.completed (h ++ e ∷ []) i ≡ queue.completed h i

abbrev pub Rises : Type 0
Rises = (h : List queue.Event) (e : queue.Event) (i : ℕ) → queue.completed h i ≤ queue.completed (h ++ e ∷ []) i

module _ (stays : Stays) where
  -- an event of the queue that is no retirement
  completed_stays : (h : List BackEvent) (e : BackEvent) (q : queue.Event) → queue_event e ≡ q ∷ [] → queue.is_retire q ≡ false → completed (h ++ e ∷ []) ≡ completed h
  completed_stays h e q is other =
      fun_ext (λ i. ap (λ l. queue.completed l i) (queue_then h e ∙ ap (λ l. queue_history h ++ l) is) ∙ stays (queue_history h) q other i)

  pub enqueue_then : (h : List BackEvent) (g : ℕ) (batch : Batch) → batch.index / 8 ≡ g → link_of (h ++ Enqueued batch ∷ []) g ≡ enqueued (link_of h g) batch
  enqueue_then h g batch own = own_then h g (Enqueued batch) (batch.index / 8) (enqueued (own_part h g) batch) refl own (completed_stays h (Enqueued batch) (queue.Pushed batch) refl refl)

  pub not_told : (h : List BackEvent) (g : ℕ) (e : BackEvent) → IsOfOthers e g → link_of (h ++ e ∷ []) g ≡ link_of h g
  not_told h g (Created group id kind) other = others_then h g (Created group id kind) group _ refl other (completed_same h (Created group id kind) refl)
  not_told h g (Wrote group id at bytes) other = others_then h g (Wrote group id at bytes) group _ refl other (completed_same h (Wrote group id at bytes) refl)
  not_told h g (Enqueued batch) other = others_then h g (Enqueued batch) (batch.index / 8) _ refl other (completed_stays h (Enqueued batch) (queue.Pushed batch) refl refl)
  not_told h g Submitted other = link_then h g Submitted (own_part h g) (completed h) refl (completed_stays h Submitted queue.Accepted refl refl)
  not_told h g (Ran batch node) other = link_then h g (Ran batch node) (own_part h g) (completed h) refl (completed_stays h (Ran batch node) (queue.Ran batch node) refl refl)
  not_told h g (Retired serial) other = absurd other
  not_told h g (Fetched group id at bytes) other = others_then h g (Fetched group id at bytes) group _ refl other (completed_same h (Fetched group id at bytes) refl)
  not_told h g (Gave group id uses) other = others_then h g (Gave group id uses) group _ refl other (completed_same h (Gave group id uses) refl)
  not_told h g (Abandoned group id) other = others_then h g (Abandoned group id) group _ refl other (completed_same h (Abandoned group id) refl)
  not_told h g (Cleaned read destroyed) other = link_then h g (Cleaned read destroyed) (own_part h g) (completed h) refl (completed_same h (Cleaned read destroyed) refl)
  not_told h g Closing other = link_then h g Closing (own_part h g) (completed h) refl (completed_same h Closing refl)
  not_told h g (Stopped stop) other = link_then h g (Stopped stop) (own_part h g) (completed h) refl (completed_same h (Stopped stop) refl)

pub create_then : (h : List BackEvent) (g : ℕ) (id : HandleId) (kind : Kind) → link_of (h ++ Created g id kind ∷ []) g ≡ created (link_of h g) id.0 kind
create_then h g id kind = own_then h g (Created g id kind) g (created (own_part h g) id.0 kind) refl refl (completed_same h (Created g id kind) refl)

pub write_then : (h : List BackEvent) (g : ℕ) (id : HandleId) (at : ℕ) (bytes : List ℕ) → link_of (h ++ Wrote g id at bytes ∷ []) g ≡ wrote (link_of h g) id.0 at bytes
write_then h g id at bytes = own_then h g (Wrote g id at bytes) g (wrote (own_part h g) id.0 at bytes) refl refl (completed_same h (Wrote g id at bytes) refl)

pub fetch_then : (h : List BackEvent) (g : ℕ) (id : HandleId) (at : ℕ) (bytes : List ℕ) → link_of (h ++ Fetched g id at bytes ∷ []) g ≡ fetched (link_of h g) id.0 at bytes
fetch_then h g id at bytes = own_then h g (Fetched g id at bytes) g (fetched (own_part h g) id.0 at bytes) refl refl (completed_same h (Fetched g id at bytes) refl)

pub give_then : (h : List BackEvent) (g : ℕ) (id : HandleId) (uses : List QueueSerial) → link_of (h ++ Gave g id uses ∷ []) g ≡ gave (link_of h g) id.0 uses
give_then h g id uses = own_then h g (Gave g id uses) g (gave (own_part h g) id.0 uses) refl refl (completed_same h (Gave g id uses) refl)

pub abandon_then : (h : List BackEvent) (g : ℕ) (id : HandleId) → link_of (h ++ Abandoned g id ∷ []) g ≡ abandoned (link_of h g) id.0
abandon_then h g id = own_then h g (Abandoned g id) g (abandoned (own_part h g) id.0) refl refl (completed_same h (Abandoned g id) refl)

pub retire_then : Rises → (h : List BackEvent) (g : ℕ) (serial : QueueSerial) → Learns (link_of h g) (link_of (h ++ Retired serial ∷ []) g)
retire_then rises h g serial =
    let up : (i : ℕ) → completed h i ≤ completed (h ++ Retired serial ∷ []) i
    = λ i. subst (λ q. queue.completed (queue_history h) i ≤ queue.completed q i) (sym (queue_then h (Retired serial))) (rises (queue_history h) (queue.Retired serial) i) in
    record {
      rest = ap (λ l. told l (completed (h ++ Retired serial ∷ []))) (part_then h g (Retired serial));
      rises = up;
      told = up;
      loaded = tt;
    }

-- a number that is asked is known already
put_own : (f : ℕ → ℕ) (k : ℕ) → put f k (f k) ≡ f
unfolding put
put_own f k = fun_ext (λ i. go i (cases_eq i k))
  where
    go : (i : ℕ) → (i ≡ k) ⊎ (i ≡ k → ⊥) → cond (i == k) (f k) (f i) ≡ f i
    go i (inl e) = cond-true (i == k) (f k) (f i) (eq-eqb i k e) ∙ ap f (sym e)
    go i (inr e) = cond-false (i == k) (f k) (f i) (ne_eqb i k e)

pub asked_then : (h : List BackEvent) (g index : ℕ) → Completes (link_of h g) (link_of h g) index (completed h index)
asked_then h g index = record {
  rest = ap (λ d. record (link_of h g) { done = d }) (sym (put_own (completed h) index));
  rises = omega arith;
  told = refl;
  loaded = refl;
}

-- a stop tells a group nothing
pub stop_then : (h : List BackEvent) (g : ℕ) (stop : Stop) → link_of (h ++ Stopped stop ∷ []) g ≡ link_of h g
stop_then h g stop = link_then h g (Stopped stop) (own_part h g) (completed h) refl (completed_same h (Stopped stop) refl)
