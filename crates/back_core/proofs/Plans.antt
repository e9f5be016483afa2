-- The plan: what the device accepted, and behind it the nodes that it is to accept.
use Rattle.std.proofs.Common.{◌≡◌, ℕ, ◌+◌, ◌≤◌, cond, List, [], ◌∷◌, ◌++◌, length, map, drop, take, refl, sym, ap, ◌∙◌, arith, append_assoc}
use Rattle.std.specs.Prelude.{Some}
use Rattle.std.specs.List.{flat_map}
use Rattle.std.proofs.lemmas.List.{append-nil, map-append, drop-append-le}
use Rattle.std.proofs.lemmas.List.Concat.{flat_map-append}
use Rattle.std.proofs.lemmas.List.Sums.{sum_by-append}
use Rattle.vk_types.specs.declared.handles.HandleId.{HandleId}
use Rattle.vk_types.specs.declared.ops.Node.{Node}
use Rattle.vk_types.specs.declared.batches.Batch.{Batch}
use Rattle.vk_model.specs.Log.{Item, Command, HostWrite, Signal, Wait, commands}
use Rattle.vk_device.specs.declared.logged.Logged.{Logged}
use Rattle.vk_device.specs.declared.logged.Logged.TheVariants as logged
use Rattle.vk_device.specs.Order.{entry_items, log_of, IsOfOneQueue}
use Rattle.vk_device.proofs.Orders.{log_of-push, log_of-nil}
use Rattle.garbage.specs.declared.entry.Garbage.{Garbage}
use Rattle.submit_queue.specs.Histories as queue
use Rattle.back_core.specs.declared.back_event.BackEvent.{BackEvent}
use Rattle.back_core.specs.declared.back_event.BackEvent.TheVariants.{Created, Wrote, Enqueued, Submitted, Ran, Retired, Fetched, Gave, Abandoned, Cleaned, Closing, Stopped}
use Rattle.back_core.specs.History.{queue_event, queue_history}
use Rattle.back_core.specs.Run.{submission, destroys, covered_in, logged_by, journal_of, MayHappen, IsRun}
use Rattle.back_core.proofs.Sees.{queue_then}
use Rattle.back_core.proofs.Runs.{journal_nil, journal_then}
use Rattle.back_core.proofs.Lists.{some_at}
use Rattle.back_core.proofs.Parts.{pushed, pushed_in, pushed_then}
use Rattle.back_core.proofs.Going.{numbered, goes}
use Rattle.back_core.proofs.Each.{Each, drop_from}
use Rattle.back_core.proofs.Adding.{IsOther}

-- The batches

-- how many batches were accepted
abbrev pub accepted : List BackEvent → ℕ
accepted h = queue.accepted (queue_history h)

abbrev accepted_in : BackEvent → ℕ
accepted_in e = queue.accepted (queue_event e)

accepted_then : (h : List BackEvent) (e : BackEvent) → accepted (h ++ e ∷ []) ≡ accepted h + accepted_in e
accepted_then h e = ap queue.accepted (queue_then h e) ∙ sum_by-append (λ x. cond (queue.is_accept x) 1 0) (queue_history h) (queue_event e)

-- the batches that were flushed and not accepted, in order
abbrev pub flushed : List BackEvent → List Batch
flushed h = drop (accepted h) (pushed h)

-- no more batches were accepted than pushed, and each is for the one queue
pub record IsFed (h : List BackEvent) : Type 0 where
  pub within : accepted h ≤ length (pushed h)
  pub one_queue : Each IsOfOneQueue (pushed h)

pub is_fed : (h : List BackEvent) → IsRun h → IsFed h
is_fed h run = record { within = (goes h run).taken; one_queue = (numbered h run).one_queue }

flushed_still : (h : List BackEvent) (e : BackEvent) → pushed_in e ≡ [] → accepted_in e ≡ 0 → flushed (h ++ e ∷ []) ≡ flushed h
flushed_still h e none not_one =
    let count : accepted (h ++ e ∷ []) ≡ accepted h = omega (arith, accepted_then h e, not_one) in
    ap (λ n. drop n (pushed (h ++ e ∷ []))) count ∙ ap (drop (accepted h)) (pushed_then h e ∙ ap (λ l. pushed h ++ l) none ∙ append-nil (pushed h))

flushed_more : (h : List BackEvent) (b : Batch) → IsFed h → flushed (h ++ Enqueued b ∷ []) ≡ flushed h ++ b ∷ []
flushed_more h b fed =
    let count : accepted (h ++ Enqueued b ∷ []) ≡ accepted h = omega (arith, accepted_then h (Enqueued b)) in
    ap (λ n. drop n (pushed (h ++ Enqueued b ∷ []))) count ∙ ap (drop (accepted h)) (pushed_then h (Enqueued b)) ∙ drop-append-le (accepted h) (pushed h) (b ∷ []) fed.within

pub flushed_less : (h : List BackEvent) (b : Batch) → queue.first_flushed (queue_history h) ≡ Some b → flushed h ≡ b ∷ flushed (h ++ Submitted ∷ [])
flushed_less h b first =
    let count : accepted h + 1 ≡ accepted (h ++ Submitted ∷ []) = omega (arith, accepted_then h Submitted) in
    drop_from (accepted h) (pushed h) b first
    ∙ ap (λ n. b ∷ drop n (pushed h)) count
    ∙ ap (λ l. b ∷ drop (accepted (h ++ Submitted ∷ [])) l) (sym (pushed_then h Submitted ∙ append-nil (pushed h)))

-- The log

log_of-append : (journal more : List Logged) → log_of (journal ++ more) ≡ log_of journal ++ flat_map entry_items more
log_of-append journal [] = ap log_of (append-nil journal) ∙ sym (append-nil (log_of journal))
log_of-append journal (x ∷ more) =
    ap log_of (sym (append_assoc journal (x ∷ []) more))
    ∙ log_of-append (journal ++ x ∷ []) more
    ∙ ap (λ l. l ++ flat_map entry_items more) (log_of-push journal x)
    ∙ append_assoc (log_of journal) (entry_items x) (flat_map entry_items more)

-- the log of what the device accepted
abbrev pub device_log : List BackEvent → List Item
device_log h = log_of (journal_of h)

pub device_log-nil : device_log [] ≡ []
device_log-nil = ap log_of journal_nil ∙ log_of-nil

device_log-then : (h : List BackEvent) (e : BackEvent) → device_log (h ++ e ∷ []) ≡ device_log h ++ flat_map entry_items (logged_by h e)
device_log-then h e = ap log_of (journal_then h e) ∙ log_of-append (journal_of h) (logged_by h e)

destroys_items : (list : List Garbage) → flat_map entry_items (destroys list) ≡ []
destroys_items [] = refl
destroys_items (item ∷ list) = destroys_items list

batch_items : (b : Batch) → IsOfOneQueue b → entry_items (logged.Submitted b) ≡ commands 0 b.nodes
batch_items b one =
    ap (λ l. map (Wait b.queue) l ++ (map (Command b.queue) b.nodes ++ map (Signal b.queue) b.signals)) one.waits
    ∙ ap (λ l. map (Command b.queue) b.nodes ++ map (Signal b.queue) l) one.signals
    ∙ append-nil (map (Command b.queue) b.nodes)
    ∙ ap (λ q. commands q b.nodes) one.queue

-- The plan

abbrev pub nodes_in : List Batch → List Node
nodes_in list = flat_map (λ (b : Batch). b.nodes) list

abbrev pub plan : List BackEvent → List Item
plan h = device_log h ++ commands 0 (nodes_in (flushed h))

pub plan-nil : plan [] ≡ []
plan-nil = ap (λ l. l ++ []) device_log-nil

plan_still : (h : List BackEvent) (e : BackEvent) → flat_map entry_items (logged_by h e) ≡ [] → pushed_in e ≡ [] → accepted_in e ≡ 0 → plan (h ++ e ∷ []) ≡ plan h
plan_still h e no_item none not_one =
    ap (λ l. l ++ commands 0 (nodes_in (flushed (h ++ e ∷ [])))) (device_log-then h e ∙ ap (λ l. device_log h ++ l) no_item ∙ append-nil (device_log h))
    ∙ ap (λ l. device_log h ++ commands 0 (nodes_in l)) (flushed_still h e none not_one)

plan-submitted : (h : List BackEvent) → IsFed h → queue.MayAccept (queue_history h) → plan (h ++ Submitted ∷ []) ≡ plan h
plan-submitted h fed may = go (some_at (pushed h) (accepted h) may)
  where
    go : (b : Batch) × (queue.first_flushed (queue_history h) ≡ Some b) → plan (h ++ Submitted ∷ []) ≡ plan h
    go first =
        let b : Batch = first.0 in
        let items : flat_map entry_items (submission (queue.first_flushed (queue_history h))) ≡ commands 0 b.nodes =
        ap (λ o. flat_map entry_items (submission o)) first.1 ∙ append-nil (entry_items (logged.Submitted b)) ∙ batch_items b (fed.one_queue (accepted h) b first.1) in
        ap (λ l. l ++ commands 0 (nodes_in (flushed (h ++ Submitted ∷ [])))) (device_log-then h Submitted ∙ ap (λ l. device_log h ++ l) items)
        ∙ append_assoc (device_log h) (commands 0 b.nodes) (commands 0 (nodes_in (flushed (h ++ Submitted ∷ []))))
        ∙ ap (λ l. device_log h ++ l) (sym (map-append (Command 0) b.nodes (nodes_in (flushed (h ++ Submitted ∷ [])))))
        ∙ ap (λ l. device_log h ++ commands 0 (nodes_in l)) (sym (flushed_less h b first.1))

-- no other event changes the plan
pub plan-other : (h : List BackEvent) (e : BackEvent) → IsFed h → MayHappen h e → IsOther e → plan (h ++ e ∷ []) ≡ plan h
plan-other h (Created group id kind) fed may other = plan_still h (Created group id kind) refl refl refl
plan-other h (Wrote group id at bytes) fed may other = absurd other
plan-other h (Enqueued b) fed may other = absurd other
plan-other h Submitted fed may other = plan-submitted h fed may
plan-other h (Ran batch node) fed may other = plan_still h (Ran batch node) refl refl refl
plan-other h (Retired serial) fed may other = plan_still h (Retired serial) refl refl refl
plan-other h (Fetched group id at bytes) fed may other = plan_still h (Fetched group id at bytes) refl refl refl
plan-other h (Gave group id uses) fed may other = plan_still h (Gave group id uses) refl refl refl
plan-other h (Abandoned group id) fed may other = plan_still h (Abandoned group id) refl refl refl
plan-other h (Cleaned read destroyed) fed may other = plan_still h (Cleaned read destroyed) (destroys_items (take destroyed (covered_in h read))) refl refl
plan-other h Closing fed may other = plan_still h Closing refl refl refl
plan-other h (Stopped stop) fed may other = plan_still h (Stopped stop) refl refl refl

-- a new batch stands at the end
pub plan-enqueued : (h : List BackEvent) (b : Batch) → IsFed h → plan (h ++ Enqueued b ∷ []) ≡ plan h ++ commands 0 b.nodes
plan-enqueued h b fed =
    ap (λ l. l ++ commands 0 (nodes_in (flushed (h ++ Enqueued b ∷ [])))) (device_log-then h (Enqueued b) ∙ append-nil (device_log h))
    ∙ ap (λ l. device_log h ++ commands 0 (nodes_in l)) (flushed_more h b fed)
    ∙ ap (λ l. device_log h ++ commands 0 l) (flat_map-append (λ (c : Batch). c.nodes) (flushed h) (b ∷ []) ∙ ap (λ l. nodes_in (flushed h) ++ l) (append-nil b.nodes))
    ∙ ap (λ l. device_log h ++ l) (map-append (Command 0) (nodes_in (flushed h)) b.nodes)
    ∙ sym (append_assoc (device_log h) (commands 0 (nodes_in (flushed h))) (commands 0 b.nodes))

-- a write by the host stands behind what was accepted
pub plan-wrote : (h : List BackEvent) (group : ℕ) (id : HandleId) (at : ℕ) (bytes : List ℕ) → plan (h ++ Wrote group id at bytes ∷ []) ≡ device_log h ++ HostWrite id.0 at bytes ∷ commands 0 (nodes_in (flushed h))
plan-wrote h group id at bytes =
    ap (λ l. l ++ commands 0 (nodes_in (flushed (h ++ Wrote group id at bytes ∷ [])))) (device_log-then h (Wrote group id at bytes))
    ∙ append_assoc (device_log h) (HostWrite id.0 at bytes ∷ []) (commands 0 (nodes_in (flushed (h ++ Wrote group id at bytes ∷ []))))
    ∙ ap (λ l. device_log h ++ HostWrite id.0 at bytes ∷ commands 0 (nodes_in l)) (flushed_still h (Wrote group id at bytes) refl refl)
