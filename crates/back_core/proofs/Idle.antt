-- What ran, and what is left when nothing more may run.
use Rattle.std.proofs.Common.{◌≡◌, ℕ, zero, suc, ◌+◌, ◌<◌, ◌≤◌, Bool, true, List, [], ◌∷◌, ◌++◌, length, map, refl, sym, ap, ◌∙◌, subst, inl, inr, arith, length-append}
use Rattle.std.specs.Prelude.{◌⊎◌, ◌/◌, Some, None, slice_get, Contains}
use Rattle.std.proofs.lemmas.Bool.{cases_order, cases_lt, cases_eq, false≢true, false_from_ne_true}
use Rattle.std.proofs.lemmas.List.{append-nil, append_assoc, length-map}
use Rattle.std.proofs.lemmas.Option.{same_Some, none-some, slice_get_within, option_and_then_some}
use Rattle.vk_types.specs.declared.ops.Node.{Node}
use Rattle.vk_types.specs.declared.batches.Batch.{Batch}
use Rattle.vk_model.specs.Log.{Item, Command, HostWrite, Wait, Signal}
use Rattle.vk_model.specs.Meaning.{IsSettled}
use Rattle.garbage.specs.declared.entry.Garbage.{Garbage}
use Rattle.vk_device.specs.declared.logged.Logged.{Logged}
use Rattle.vk_device.specs.declared.logged.Logged.TheVariants as logged
use Rattle.vk_device.specs.Journal.{accepted, node_at}
use Rattle.vk_device.specs.Order.{entry_items, log_of, order_of, batch_start, place_of, AllRan}
use Rattle.vk_device.proofs.Orders.{quiet}
use Rattle.vk_device.proofs.Starts.{accepted-cons, accepted-nil}
use Rattle.submit_queue.specs.Histories as queue
use Rattle.submit_queue.specs.Kept.{HasNumber}
use Rattle.back_core.specs.declared.back_event.BackEvent.{BackEvent}
use Rattle.back_core.specs.Needs.{MayEnqueue, HasBatch}
use Rattle.back_core.specs.History.{queue_history, completed, link_of}
use Rattle.back_core.specs.Run.{destroys, journal_of, IsRun}
use Rattle.back_core.proofs.Lists.{some_at, get_taken}
use Rattle.back_core.proofs.Parts.{pushed, own_last_number, other_last_number}
use Rattle.back_core.proofs.Numbered.{reach_far}
use Rattle.back_core.proofs.Going.{next_in_all, numbered, goes}
use Rattle.back_core.proofs.Placed.{WasExecuted, host_did, node_ran, IsPlaced}
use Rattle.back_core.proofs.Journals.{in_step}
use Rattle.back_core.proofs.Alone.{accepted_pushed}

-- a batch that a group may hand over may be pushed
pub may_push : (h : List BackEvent) (b : Batch) → IsRun h → b.index < 64 → MayEnqueue (link_of h (b.index / 8)) b → queue.MayPush (queue_history h) b
may_push h b run low may = record {
  items = omega (arith, may.few, ap length may.one_queue.waits, ap length may.one_queue.signals);
  number = next_in_all h b may;
  one_queue = may.one_queue.queue;
}

-- destroys add nothing to the log and execute nothing
pub still_settled : (list : List Garbage) (journal : List Logged) (id : ℕ) → IsSettled (log_of journal) (order_of journal) id → IsSettled (log_of (journal ++ destroys list)) (order_of (journal ++ destroys list)) id
still_settled [] journal id settled = subst (λ j. IsSettled (log_of j) (order_of j) id) (sym (append-nil journal)) settled
still_settled (item ∷ list) journal id settled =
    let same = quiet journal (logged.Destroyed item.handle) refl refl in
    subst (λ j. IsSettled (log_of j) (order_of j) id) (append_assoc journal (logged.Destroyed item.handle ∷ []) (destroys list))
    (still_settled list (journal ++ logged.Destroyed item.handle ∷ []) id (subst (λ l. IsSettled l (order_of (journal ++ logged.Destroyed item.handle ∷ [])) id) (sym same.0) (subst (λ o. IsSettled (log_of journal) o id) (sym same.1) settled)))

-- Nodes have their own places

-- the nodes of a batch lie before those of a later one
starts_rise : (journal : List Logged) (j k : ℕ) (b : Batch) → j < k → k < length (accepted journal) → slice_get (accepted journal) j ≡ Some b → batch_start journal j + length b.nodes ≤ batch_start journal k
starts_rise [] j k b lt inside at = absurd (none-some b (subst (λ l. slice_get l j ≡ Some b) accepted-nil at))
starts_rise (logged.Created id kind ∷ journal) j k b lt inside at =
    starts_rise journal j k b lt (subst (λ l. k < length l) (accepted-cons (logged.Created id kind) journal) inside) (subst (λ l. slice_get l j ≡ Some b) (accepted-cons (logged.Created id kind) journal) at)
starts_rise (logged.Wrote id at' bytes ∷ journal) j k b lt inside at =
    let rest : batch_start journal j + length b.nodes ≤ batch_start journal k
    = starts_rise journal j k b lt (subst (λ l. k < length l) (accepted-cons (logged.Wrote id at' bytes) journal) inside) (subst (λ l. slice_get l j ≡ Some b) (accepted-cons (logged.Wrote id at' bytes) journal) at) in
    omega (arith, rest)
starts_rise (logged.Submitted c ∷ journal) zero zero b lt inside at = absurd (omega (arith, lt))
starts_rise (logged.Submitted c ∷ journal) zero (suc k) b lt inside at =
    let same : c ≡ b = same_Some c b (subst (λ l. slice_get l 0 ≡ Some b) (accepted-cons (logged.Submitted c) journal) at) in
    let count : length (entry_items (logged.Submitted c)) ≡ length c.waits + (length c.nodes + length c.signals) = items c in
    let nodes : length c.nodes ≡ length b.nodes = ap (λ (x : Batch). length x.nodes) same in
    omega (arith, count, nodes)
  where
    items : (c : Batch) → length (map (Wait c.queue) c.waits ++ (map (Command c.queue) c.nodes ++ map (Signal c.queue) c.signals)) ≡ length c.waits + (length c.nodes + length c.signals)
    items c = omega (
      arith,
      length-append (map (Wait c.queue) c.waits) (map (Command c.queue) c.nodes ++ map (Signal c.queue) c.signals),
      length-append (map (Command c.queue) c.nodes) (map (Signal c.queue) c.signals),
      length-map c.waits (Wait c.queue),
      length-map c.nodes (Command c.queue),
      length-map c.signals (Signal c.queue),
    )
starts_rise (logged.Submitted c ∷ journal) (suc j) zero b lt inside at = absurd (omega (arith, lt))
starts_rise (logged.Submitted c ∷ journal) (suc j) (suc k) b lt inside at =
    let rest : batch_start journal j + length b.nodes ≤ batch_start journal k
    = starts_rise journal j k b (omega (arith, lt)) (omega (arith, inside, ap length (accepted-cons (logged.Submitted c) journal))) (subst (λ l. slice_get l (suc j) ≡ Some b) (accepted-cons (logged.Submitted c) journal) at) in
    omega (arith, rest)
starts_rise (logged.Ran c n ∷ journal) j k b lt inside at =
    starts_rise journal j k b lt (subst (λ l. k < length l) (accepted-cons (logged.Ran c n) journal) inside) (subst (λ l. slice_get l j ≡ Some b) (accepted-cons (logged.Ran c n) journal) at)
starts_rise (logged.Fetched id at' bytes ∷ journal) j k b lt inside at =
    starts_rise journal j k b lt (subst (λ l. k < length l) (accepted-cons (logged.Fetched id at' bytes) journal) inside) (subst (λ l. slice_get l j ≡ Some b) (accepted-cons (logged.Fetched id at' bytes) journal) at)
starts_rise (logged.Destroyed id ∷ journal) j k b lt inside at =
    starts_rise journal j k b lt (subst (λ l. k < length l) (accepted-cons (logged.Destroyed id) journal) inside) (subst (λ l. slice_get l j ≡ Some b) (accepted-cons (logged.Destroyed id) journal) at)

module _ (journal : List Logged) (ran : ℕ → ℕ → Bool) (has : IsPlaced journal ran) where
  -- two nodes at one place are one node
  same_node : (j m k n : ℕ) (b c : Batch) → slice_get (accepted journal) j ≡ Some b → m < length b.nodes → slice_get (accepted journal) k ≡ Some c → n < length c.nodes → place_of journal j m ≡ place_of journal k n → (j ≡ k) × (m ≡ n)
  same_node j m k n b c at_j lt_m at_k lt_n same = go (cases_order j k)
    where
      go : (j ≡ k) ⊎ ((j < k) ⊎ (k < j)) → (j ≡ k) × (m ≡ n)
      go (inl e) = (e, let start : batch_start journal j ≡ batch_start journal k = ap (batch_start journal) e in omega (arith, same, start))
      go (inr (inl lt)) = absurd (omega (arith, same, lt_m, starts_rise journal j k b lt (slice_get_within (accepted journal) k c at_k) at_j))
      go (inr (inr lt)) = absurd (omega (arith, same, lt_n, starts_rise journal k j c lt (slice_get_within (accepted journal) j b at_j) at_k))

  -- a node whose place was executed ran
  pub executed_ran : (k n : ℕ) (b : Batch) → slice_get (accepted journal) k ≡ Some b → n < length b.nodes → Contains (order_of journal) (place_of journal k n) → ran k n ≡ true
  executed_ran k n b at lt c = go (place_of journal k n) refl (has.executed (place_of journal k n) c)
    where
      no_write : (x : Node) (id from : ℕ) (bytes : List ℕ) → ◌≡◌ {A = Item} (Command 0 x) (HostWrite id from bytes) → ⊥
      no_write x id from bytes e = let both : ◌≡◌ {A = Item} (Command 0 x) (HostWrite id from bytes) = e in cc

      go : (p : ℕ) → p ≡ place_of journal k n → WasExecuted journal ran p → ran k n ≡ true
      go p here (host_did id from bytes is) =
          let node = some_at b.nodes n lt in
          let command : slice_get (log_of journal) (place_of journal k n) ≡ Some (Command 0 node.0) = has.lies k n b node.0 at node.1 in
          absurd (no_write node.0 id from bytes (same_Some (Command 0 node.0) (HostWrite id from bytes) (sym command ∙ (ap (slice_get (log_of journal)) (sym here) ∙ is))))
      go p here (node_ran j m c at_j lt_m place was) =
          let same = same_node j m k n c b at_j lt_m at lt (sym place ∙ here) in
          subst (λ i. ran i n ≡ true) same.0 (subst (λ i. ran j i ≡ true) same.1 was)

  -- where all ran, each node of an accepted batch ran
  pub all_ran : AllRan journal → (k n : ℕ) (b : Batch) → slice_get (accepted journal) k ≡ Some b → n < length b.nodes → ran k n ≡ true
  all_ran all k n b at lt =
      let node = some_at b.nodes n lt in
      let inside : place_of journal k n < length (log_of journal) = slice_get_within (log_of journal) (place_of journal k n) (Command 0 node.0) (has.lies k n b node.0 at node.1) in
      executed_ran k n b at lt (all (place_of journal k n) inside)

module _ (h : List BackEvent) (run : IsRun h) where
  -- a batch of the queue that was accepted is one of the journal's, and its items are its nodes
  pub pushed_accepted : (k : ℕ) (b : Batch) → k < queue.accepted (queue_history h) → slice_get (pushed h) k ≡ Some b → slice_get (accepted (journal_of h)) k ≡ Some b
  pushed_accepted k b lt at = subst (λ l. slice_get l k ≡ Some b) (sym (in_step h run).accepted_is) (get_taken (pushed h) (queue.accepted (queue_history h)) k b lt at)

  item_is_node : (k i : ℕ) (b : Batch) → slice_get (pushed h) k ≡ Some b → i < queue.item_count b → i < length b.nodes
  item_is_node k i b at lt = let one = (numbered h run).one_queue k b at in omega (arith, lt, ap length one.waits, ap length one.signals)

  -- a node that was not executed may run
  pub may_run : (batch node : ℕ) (n : Node) → node_at (accepted (journal_of h)) batch node ≡ Some n → (Contains (order_of (journal_of h)) (place_of (journal_of h) batch node) → ⊥) → queue.MayRun (queue_history h) batch node
  may_run batch node n is new = option_and_then_some (λ (b : Batch). slice_get b.nodes node) (slice_get (accepted (journal_of h)) batch) n is (λ b at has. record {
    accepted_before = (accepted_pushed h run batch b at).0;
    what = b;
    at = (accepted_pushed h run batch b at).1;
    within = omega (arith, slice_get_within b.nodes node n has);
    not_before = false_from_ne_true (queue.has_run (queue_history h) batch node) (λ was. new ((in_step h run).placed.in_order batch node was).1);
  })

  module _ (all : AllRan (journal_of h)) where
    executed : (k i : ℕ) (b : Batch) → k < queue.accepted (queue_history h) → slice_get (pushed h) k ≡ Some b → i < queue.item_count b → queue.has_run (queue_history h) k i ≡ true
    executed k i b lt at inside = all_ran (journal_of h) (queue.has_run (queue_history h)) (in_step h run).placed all k i b (pushed_accepted k b lt at) (item_is_node k i b at inside)

    -- where all ran, nothing more may run
    pub idle : (batch node : ℕ) → queue.MayRun (queue_history h) batch node → ⊥
    idle batch node may = false≢true (sym may.not_before ∙ executed batch node may.what may.accepted_before may.at may.within)

    module _ (none : queue.first_flushed (queue_history h) ≡ None) (none_left : (place : ℕ) → queue.CanRetire (queue_history h) place → ⊥) where
      all_accepted : queue.accepted (queue_history h) ≡ length (pushed h)
      all_accepted = go (cases_lt (queue.accepted (queue_history h)) (length (pushed h)))
        where
          go : (queue.accepted (queue_history h) < length (pushed h)) ⊎ (length (pushed h) ≤ queue.accepted (queue_history h)) → queue.accepted (queue_history h) ≡ length (pushed h)
          go (inl lt) = let b = some_at (pushed h) (queue.accepted (queue_history h)) lt in absurd (none-some b.0 (sym none ∙ b.1))
          go (inr le) = omega (arith, le, (goes h run).taken)

      all_retired : length (pushed h) ≤ queue.retired (queue_history h)
      all_retired = go (cases_lt (queue.retired (queue_history h)) (length (pushed h)))
        where
          go : (queue.retired (queue_history h) < length (pushed h)) ⊎ (length (pushed h) ≤ queue.retired (queue_history h)) → length (pushed h) ≤ queue.retired (queue_history h)
          go (inr le) = le
          go (inl lt) =
              let b = some_at (pushed h) (queue.retired (queue_history h)) lt in
              let before : queue.retired (queue_history h) < queue.accepted (queue_history h) = omega (arith, lt, all_accepted) in
              absurd (none_left (queue.retired (queue_history h)) (record {
                batch = b.0;
                at = b.1;
                accepted_before = before;
                executed = λ i inside. executed (queue.retired (queue_history h)) i b.0 before b.1 inside;
                in_order = λ k c less at same. (goes h run).past k c at less;
                not_before = (goes h run).left (queue.retired (queue_history h)) b.0 b.1 (omega arith);
              }))

      each_completed : (index number : ℕ) → number ≤ queue.last_number (pushed h) index → number ≤ completed h index
      each_completed index number le = reach_far (queue.is_retired (queue_history h) index) number (λ m one small. gone m ((numbered h run).has index m one (omega (arith, small, le)))) 0 (queue.retired (queue_history h))
          (omega (arith, le, (numbered h run).short index, all_retired))
        where
          gone : (m : ℕ) → HasNumber (pushed h) index m → queue.is_retired (queue_history h) index m ≡ true
          gone m has = subst (λ n. queue.is_retired (queue_history h) index n ≡ true) has.of_number
              (subst (λ i. queue.is_retired (queue_history h) i has.batch.number ≡ true) has.of_index
              ((goes h run).past has.place has.batch has.at (omega (arith, slice_get_within (pushed h) has.place has.batch has.at, all_retired))))

      -- where nothing is left to do, each batch of a group is completed
      pub all_done : (g index number : ℕ) → HasBatch (link_of h g) index number → number ≤ completed h index
      all_done g index number has = go (cases_eq (index / 8) g)
        where
          go : (index / 8 ≡ g) ⊎ (index / 8 ≡ g → ⊥) → number ≤ completed h index
          go (inl own) = each_completed index number (omega (arith, has.1, own_last_number h g index own))
          go (inr other) = absurd (omega (arith, has.0, has.1, other_last_number h g index other))
