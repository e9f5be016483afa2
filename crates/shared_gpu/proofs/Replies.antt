-- What a turn with one call of the back leaves of a group's link, by the call's answer.
use Rattle.std.proofs.Common.{◌≡◌, ℕ, ◌+◌, true, List, [], ◌∷◌, ◌++◌, refl, sym, ap, ◌∙◌, subst, arith}
use Rattle.std.specs.Prelude.{Some, Result, Ok, Err, IfOk, IfErr, OnOk, OnErr}
use Rattle.vk_types.specs.declared.stops.Stop.{Stop}
use Rattle.vk_types.specs.declared.batches.Batch.{Batch}
use Rattle.vk_types.specs.declared.batches.QueueSerial.{QueueSerial}
use Rattle.back_core.specs.declared.back_event.BackEvent.{BackEvent}
use Rattle.back_core.specs.declared.ending.Ending.TheVariants.{Stopped}
use Rattle.cells.specs.Contents.{cells, Agrees}
use Rattle.back_core.specs.Own.{log_of, IsReadable}
use Rattle.back_core.specs.Link.{Link, contents_of}
use Rattle.back_core.specs.Needs.{IsFresh, HostMay, MayEnqueue, MayGive}
use Rattle.back_core.specs.History.{link_of}
use Rattle.back_core.specs.Back.{ending_of, stopped_by}
use Rattle.turnstile.specs.Views.{PassModel}
use Rattle.shared_gpu.specs.declared.noted.Noted.{Noted}
use Rattle.shared_gpu.specs.Notes.{owner, notes_of, events_of, Adds}
use Rattle.shared_gpu.specs.Seats.{told_by, link_by, Taken, GivenBack}
use Rattle.shared_gpu.proofs.Links.{IsStep, Others, events_noted, link_grown, link_kept, stopped_same, adds_nothing, adds_own, adds_stop}

-- an own event of a group, and what it does to the group's link
pub record IsMine (g : ℕ) (h : List BackEvent) (e : BackEvent) (f : Link → Link) : Type 0 where
  pub names : owner e ≡ Some (g + 1)
  pub step : IsStep f
  pub law : link_of (h ++ e ∷ []) g ≡ f (link_of h g)

module _ (g o o' : ℕ) (p t : PassModel Noted) (h new : List BackEvent) (taken : Taken g p t o h) (kept : o' ≡ o) where
  seen_is : t.seen ≡ notes_of o' h
  seen_is = ap (λ (x : PassModel Noted). x.seen) taken.is ∙ ap (λ k. notes_of k h) (sym kept)

  number_is : t.number ≡ g + 1
  number_is = ap (λ (x : PassModel Noted). x.number) taken.is ∙ taken.number

  pub adds_one : (e : BackEvent) (f : Link → Link) → IsMine g h e f → new ≡ h ++ e ∷ [] → Adds t o' new
  adds_one e f mine is = adds_own t o' h new seen_is taken.shown g e f number_is mine.names mine.step mine.law is

  pub adds_none : new ≡ h → Adds t o' new
  adds_none is = adds_nothing t o' h new seen_is taken.shown is

  pub adds_stopped : Others → (s : Stop) → new ≡ stopped_by h s → Adds t o' new
  adds_stopped others s is = adds_stop t o' h new seen_is taken.shown others s is

  pub adds_reply : {T : Type 0} → Others → (r : Result T Stop) (event : T → BackEvent) (f : T → Link → Link) → ((x : T) → IsMine g h (event x) (f x)) → IfOk r (λ x. new ≡ h ++ event x ∷ []) → IfErr r (λ s. new ≡ stopped_by h s) → Adds t o' new
  adds_reply others (Ok x) event f mine ok err = adds_one (event x) (f x) (mine x) ok
  adds_reply others (Err s) event f mine ok err = adds_stop t o' h new seen_is taken.shown others s err

module _ (g o o' : ℕ) (p t q : PassModel Noted) (h new : List BackEvent) (taken : Taken g p t o h) (kept : o' ≡ o) (given : GivenBack t q o' new) where
  seen_after : q.seen ≡ notes_of o' new
  seen_after = ap (λ (x : PassModel Noted). x.seen) given.is

  loads_after : q.loads ≡ p.loads
  loads_after = ap (λ (x : PassModel Noted). x.loads) given.is ∙ ap (λ (x : PassModel Noted). x.loads) taken.is

  pub events_after : events_of q.seen ≡ new
  events_after = ap events_of seen_after ∙ events_noted o' new

  pub link_one : (e : BackEvent) (f : Link → Link) → IsMine g h e f → new ≡ h ++ e ∷ [] → link_by g q ≡ f (link_by g p)
  link_one e f mine is = link_grown g p q o' h new taken.same seen_after loads_after e f mine.step mine.law is

  pub link_none : new ≡ h → link_by g q ≡ link_by g p
  link_none is = link_kept g p q o' h new taken.same seen_after loads_after (ap (λ l. link_of l g) is)

  pub link_stop : Others → (s : Stop) → new ≡ stopped_by h s → link_by g q ≡ link_by g p
  link_stop others s is = link_kept g p q o' h new taken.same seen_after loads_after (ap (λ l. link_of l g) is ∙ stopped_same others h g s)

  pub link_ok : {T : Type 0} (r : Result T Stop) (event : T → BackEvent) (f : T → Link → Link) → ((x : T) → IsMine g h (event x) (f x)) → IfOk r (λ x. new ≡ h ++ event x ∷ []) → IfOk r (λ x. link_by g q ≡ f x (link_by g p))
  link_ok (Ok x) event f mine ok = link_one (event x) (f x) (mine x) ok
  link_ok (Err s) event f mine ok = ok

  pub link_err : {T : Type 0} → Others → (r : Result T Stop) → IfErr r (λ s. new ≡ stopped_by h s) → OnErr r (link_by g q ≡ link_by g p)
  link_err others (Ok x) err = err
  link_err others (Err s) err = link_stop others s err

  pub stopped_seen : {T : Type 0} (r : Result T Stop) → IfErr r (λ s. ending_of new ≡ Stopped s) → IfErr r (λ s. ending_of (events_of q.seen) ≡ Stopped s)
  stopped_seen (Ok x) first = first
  stopped_seen (Err s) first = ap ending_of events_after ∙ first

-- What the calls of the back need follows from what those of the link need.

module _ (g o : ℕ) (p t : PassModel Noted) (h : List BackEvent) (taken : Taken g p t o h) where
  pub host_may : (id at size : ℕ) → HostMay (link_by g p) id at size → HostMay (link_of h g) id at size
  host_may id at size may =
      let there : HostMay (told_by p.loads (link_of h g)) id at size = subst (λ l. HostMay l id at size) (sym taken.same) may in
      record { held = there.held; range = there.range; retired = λ index. omega (arith, there.retired index, taken.reached index) }

  pub may_enqueue : (batch : Batch) → MayEnqueue (link_by g p) batch → MayEnqueue (link_of h g) batch
  may_enqueue batch may =
      let there : MayEnqueue (told_by p.loads (link_of h g)) batch = subst (λ l. MayEnqueue l batch) (sym taken.same) may in
      record { one_queue = there.one_queue; few = there.few; sound = there.sound; none_empty = there.none_empty; fits = there.fits; next = there.next; of_group = there.of_group; touched = there.touched }

  pub may_give : (id : ℕ) (uses : List QueueSerial) → MayGive (link_by g p) id uses → MayGive (link_of h g) id uses
  may_give id uses may =
      let there : MayGive (told_by p.loads (link_of h g)) id uses = subst (λ l. MayGive l id uses) (sym taken.same) may in
      record { held = there.held; exact = there.exact }

  pub fresh_too : {T : Type 0} (r : Result T Stop) (id : T → ℕ) → IfOk r (λ x. IsFresh (link_of h g) (id x)) → IfOk r (λ x. IsFresh (link_by g p) (id x))
  fresh_too (Ok x) id fresh = subst (λ l. IsFresh l (id x)) taken.same (record { not_made = fresh.not_made; not_held = fresh.not_held; not_given = fresh.not_given; untouched = fresh.untouched })
  fresh_too (Err s) id fresh = fresh

  pub held_too : (id : ℕ) → (link_by g p).held id ≡ true → (link_of h g).held id ≡ true
  held_too id held = ap (λ (l : Link). l.held id) taken.same ∙ held

  pub readable_too : (id at size : ℕ) → IsReadable (log_of (link_by g p).mine) id at size → IsReadable (log_of (link_of h g).mine) id at size
  readable_too id at size readable = subst (λ (l : Link). IsReadable (log_of l.mine) id at size) (sym taken.same) readable

  pub bytes_too : {T : Type 0} (r : Result T Stop) (id at size : ℕ) (out : List ℕ) → OnOk r (Agrees out (cells size (λ i. contents_of (link_of h g) id (at + i)))) → OnOk r (Agrees out (cells size (λ i. contents_of (link_by g p) id (at + i))))
  bytes_too (Ok x) id at size out agrees = subst (λ (l : Link). Agrees out (cells size (λ i. contents_of l id (at + i)))) taken.same agrees
  bytes_too (Err s) id at size out agrees = agrees

-- A batch is handed back in place of a stop.

pub adds_batch : (g o o' : ℕ) (p t : PassModel Noted) (h new : List BackEvent) → Taken g p t o h → o' ≡ o → (r : Result (Unit {0}) Batch) (e : BackEvent) (f : Link → Link) → IsMine g h e f → OnOk r (new ≡ h ++ e ∷ []) → OnErr r (new ≡ h) → Adds t o' new
adds_batch g o o' p t h new taken kept (Ok x) e f mine ok err = adds_one g o o' p t h new taken kept e f mine ok
adds_batch g o o' p t h new taken kept (Err b) e f mine ok err = adds_none g o o' p t h new taken kept err

pub link_batch_ok : (g o o' : ℕ) (p t q : PassModel Noted) (h new : List BackEvent) → Taken g p t o h → o' ≡ o → GivenBack t q o' new → (r : Result (Unit {0}) Batch) (e : BackEvent) (f : Link → Link) → IsMine g h e f → OnOk r (new ≡ h ++ e ∷ []) → OnOk r (link_by g q ≡ f (link_by g p))
link_batch_ok g o o' p t q h new taken kept given (Ok x) e f mine ok = link_one g o o' p t q h new taken kept given e f mine ok
link_batch_ok g o o' p t q h new taken kept given (Err b) e f mine ok = ok

pub link_batch_err : (g o o' : ℕ) (p t q : PassModel Noted) (h new : List BackEvent) → Taken g p t o h → o' ≡ o → GivenBack t q o' new → (r : Result (Unit {0}) Batch) → OnErr r (new ≡ h) → OnErr r (link_by g q ≡ link_by g p)
link_batch_err g o o' p t q h new taken kept given (Ok x) err = err
link_batch_err g o o' p t q h new taken kept given (Err b) err = link_none g o o' p t q h new taken kept given err
