-- Objects whose batches were all retired are left alone.
use Rattle.std.proofs.Common.{◌≡◌, ℕ, zero, suc, ◌<◌, ◌≤◌, Bool, true, List, [], ◌∷◌, sym, ap, ◌∙◌, subst, arith}
use Rattle.std.specs.Prelude.{◌/◌, Some, slice_get, Contains}
use Rattle.std.specs.List.{list_any}
use Rattle.std.proofs.lemmas.Bool.{false_from_ne_true, or_left, or_right}
use Rattle.std.proofs.lemmas.Option.{same_Some, none-some, slice_get_within}
use Rattle.vk_types.specs.declared.batches.Batch.{Batch}
use Rattle.vk_model.specs.Log.{Item, touches_object}
use Rattle.vk_model.specs.Meaning.{touches_id}
use Rattle.vk_model.proofs.Groups.{touches_id_is}
use Rattle.vk_device.specs.Journal.{accepted}
use Rattle.vk_device.specs.Order.{order_of}
use Rattle.submit_queue.specs.Histories as queue
use Rattle.back_core.specs.declared.back_event.BackEvent.{BackEvent}
use Rattle.back_core.specs.Own.{batch_touches, last_use}
use Rattle.back_core.specs.Needs.{HostMay}
use Rattle.back_core.specs.History.{queue_history, completed, link_of, own_part}
use Rattle.back_core.specs.Run.{journal_of, IsRun, IsLeftAlone}
use Rattle.back_core.proofs.Lists.{get_take}
use Rattle.back_core.proofs.Parts.{pushed, use_counts}
use Rattle.back_core.proofs.Going.{IsExecuted, completed_ran}
use Rattle.back_core.proofs.Placed.{Stands, by_host, in_batch}
use Rattle.back_core.proofs.Journals.{in_step}
use Rattle.back_core.proofs.Known.{known, one_group, touches_own}

pub any_of : {X : Type 0} (p : X → Bool) (xs : List X) (k : ℕ) (x : X) → slice_get xs k ≡ Some x → p x ≡ true → list_any p xs ≡ true
any_of p [] k x at e = absurd (none-some x at)
any_of p (y ∷ xs) zero x at e = or_left (p y) (list_any p xs) (ap p (same_Some y x at) ∙ e)
any_of p (y ∷ xs) (suc k) x at e = or_right (p y) (list_any p xs) (any_of p xs k x at e)

-- an accepted batch of the journal is one of the queue's
pub accepted_pushed : (h : List BackEvent) → IsRun h → (k : ℕ) (b : Batch) → slice_get (accepted (journal_of h)) k ≡ Some b → (k < queue.accepted (queue_history h)) × (slice_get (pushed h) k ≡ Some b)
accepted_pushed h run k b at = get_take (pushed h) (queue.accepted (queue_history h)) k b (subst (λ l. slice_get l k ≡ Some b) (in_step h run).accepted_is at)

-- each batch that touches the object has a number that is no greater than the completed one
abbrev pub AllCompleted : List BackEvent → ℕ → Type 0
AllCompleted h id = (k : ℕ) (b : Batch) → slice_get (pushed h) k ≡ Some b → batch_touches b id ≡ true → b.number ≤ completed h b.index

pub left_alone : (h : List BackEvent) (id : ℕ) → IsRun h → AllCompleted h id → IsLeftAlone h id
left_alone h id run all = record {
  settled = λ k x at touched. settled k x touched ((in_step h run).placed.stands k x at);
  flushed = λ k b le at. false_from_ne_true (batch_touches b id) (λ touched. omega (arith, le, (completed_ran h run k b at (all k b at touched)).accepted));
}
  where
    settled : (k : ℕ) (x : Item) → touches_id x id ≡ true → Stands (journal_of h) k x → Contains (order_of (journal_of h)) k
    settled k x touched (by_host i at bytes is done) = done
    settled k x touched (in_batch batch node b n at has is place) =
        let there : slice_get (pushed h) batch ≡ Some b = (accepted_pushed h run batch b at).1 in
        let touches : touches_object n id ≡ true = sym (touches_id_is 0 n id) ∙ subst (λ y. touches_id y id ≡ true) is touched in
        let was : IsExecuted h batch b = completed_ran h run batch b there (all batch b there (any_of (λ m. touches_object m id) b.nodes node n has touches)) in
        let inside : node < queue.item_count b = omega (arith, slice_get_within b.nodes node n has) in
        subst (Contains (order_of (journal_of h))) (sym place) ((in_step h run).placed.in_order batch node (was.ran node inside)).1

-- a buffer that the host may use
pub host_alone : (h : List BackEvent) (g id at size : ℕ) → IsRun h → HostMay (link_of h g) id at size → IsLeftAlone h id
host_alone h g id at size run may = left_alone h id run (λ k b is touched.
    let own : b.index / 8 ≡ g = one_group h run (b.index / 8) g id (touches_own h run k id b is touched) ((known h run g).held_made id may.held) in
    let used : b.number ≤ last_use (own_part h g).mine b.index id = use_counts h g k id b is own touched in
    omega (arith, used, may.retired b.index))
