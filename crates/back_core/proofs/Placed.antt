-- Where the nodes of the accepted batches lie in a device's log, and which of them were executed.
use Rattle.std.proofs.Common.{◌≡◌, ℕ, zero, suc, ◌+◌, ◌<◌, Bool, true, false, List, [], ◌∷◌, ◌++◌, length, map, refl, sym, ap, ◌∙◌, subst, inl, inr, arith, length-append}
use Rattle.std.specs.Prelude.{◌⊎◌, Some, slice_get, Contains, option_map}
use Rattle.std.proofs.lemmas.Bool.{false≢true}
use Rattle.std.proofs.lemmas.List.{append-nil}
use Rattle.std.proofs.lemmas.List.Elements.{Contains-append_left, Contains-append_cases, Contains-push}
use Rattle.std.proofs.lemmas.Option.{same_Some, none-some, slice_get_within, slice_get-map}
use Rattle.vk_types.specs.declared.handles.HandleId.{HandleId}
use Rattle.vk_types.specs.declared.ops.Node.{Node}
use Rattle.vk_types.specs.declared.batches.Batch.{Batch}
use Rattle.vk_model.specs.Log.{Item, Command, HostWrite, Wait, Signal}
use Rattle.vk_model.proofs.Places.{contains_none, contains_cons_cases}
use Rattle.vk_device.specs.declared.logged.Logged.{Logged}
use Rattle.vk_device.specs.declared.logged.Logged.TheVariants as logged
use Rattle.vk_device.specs.Journal.{accepts, accepted}
use Rattle.vk_device.specs.Order.{entry_items, log_of, executes, order_of, batch_start, place_of, IsOfOneQueue}
use Rattle.vk_device.proofs.Orders.{log_of-nil, order_of-nil, log_of-push, order_of-push}
use Rattle.vk_device.proofs.Starts.{accepted-nil, accepted-push, start_stays, start_next}
use Rattle.back_core.proofs.Lists.{get_left, get_right, get_parts}

-- an item of the log is a write by the host, which was executed, or a node of an accepted batch
pub data Stands (journal : List Logged) (k : ℕ) (x : Item) : Type 0 where
  by_host : (id at : ℕ) (bytes : List ℕ) → x ≡ HostWrite id at bytes → Contains (order_of journal) k → Stands journal k x
  in_batch : (batch node : ℕ) (b : Batch) (n : Node) → slice_get (accepted journal) batch ≡ Some b → slice_get b.nodes node ≡ Some n → x ≡ Command 0 n → k ≡ place_of journal batch node → Stands journal k x

-- an executed place is that of a write by the host, or of a node that ran
pub data WasExecuted (journal : List Logged) (ran : ℕ → ℕ → Bool) (k : ℕ) : Type 0 where
  host_did : (id at : ℕ) (bytes : List ℕ) → slice_get (log_of journal) k ≡ Some (HostWrite id at bytes) → WasExecuted journal ran k
  node_ran : (batch node : ℕ) (b : Batch) → slice_get (accepted journal) batch ≡ Some b → node < length b.nodes → k ≡ place_of journal batch node → ran batch node ≡ true → WasExecuted journal ran k

-- the items of the log and the executed places, where these nodes ran
pub record IsPlaced (journal : List Logged) (ran : ℕ → ℕ → Bool) : Type 0 where
  pub stands : (k : ℕ) (x : Item) → slice_get (log_of journal) k ≡ Some x → Stands journal k x
  pub lies : (batch node : ℕ) (b : Batch) (n : Node) → slice_get (accepted journal) batch ≡ Some b → slice_get b.nodes node ≡ Some n → slice_get (log_of journal) (place_of journal batch node) ≡ Some (Command 0 n)
  pub executed : (k : ℕ) → Contains (order_of journal) k → WasExecuted journal ran k
  pub in_order : (batch node : ℕ) → ran batch node ≡ true → (batch < length (accepted journal)) × Contains (order_of journal) (place_of journal batch node)

pub none_placed : (ran : ℕ → ℕ → Bool) → ((k i : ℕ) → ran k i ≡ false) → IsPlaced [] ran
none_placed ran none = record {
  stands = λ k x at. absurd (none-some x (subst (λ l. slice_get l k ≡ Some x) log_of-nil at));
  lies = λ batch node b n at. absurd (none-some b (subst (λ l. slice_get l batch ≡ Some b) accepted-nil at));
  executed = λ k c. absurd (contains_none k (subst (λ o. Contains o k) order_of-nil c));
  in_order = λ k i was. absurd (false≢true (sym (none k i) ∙ was));
}

-- One more entry

module _ (journal : List Logged) (entry : Logged) where
  abbrev next : List Logged
  next = journal ++ entry ∷ []

  accepted_still : (batch : ℕ) (b : Batch) → slice_get (accepted journal) batch ≡ Some b → slice_get (accepted next) batch ≡ Some b
  accepted_still batch b at = subst (λ l. slice_get l batch ≡ Some b) (sym (accepted-push journal entry)) (get_left (accepted journal) (accepts entry) batch b at)

  accepted_within : (batch : ℕ) → batch < length (accepted journal) → batch < length (accepted next)
  accepted_within batch lt = omega (arith, lt, ap length (accepted-push journal entry), length-append (accepted journal) (accepts entry))

  place_still : (batch node : ℕ) → batch < length (accepted journal) → place_of next batch node ≡ place_of journal batch node
  place_still batch node lt = ap (λ n. n + node) (start_stays journal (entry ∷ []) batch lt)

  order_still : (k : ℕ) → Contains (order_of journal) k → Contains (order_of next) k
  order_still k c = subst (λ o. Contains o k) (sym (order_of-push journal entry)) (Contains-append_left (order_of journal) (executes journal entry) k c)

  log_still : (k : ℕ) (x : Item) → slice_get (log_of journal) k ≡ Some x → slice_get (log_of next) k ≡ Some x
  log_still k x at = subst (λ l. slice_get l k ≡ Some x) (sym (log_of-push journal entry)) (get_left (log_of journal) (entry_items entry) k x at)

  stands_still : (k : ℕ) (x : Item) → Stands journal k x → Stands next k x
  stands_still k x (by_host id at bytes is done) = by_host id at bytes is (order_still k done)
  stands_still k x (in_batch batch node b n at has is place) =
      in_batch batch node b n (accepted_still batch b at) has is (place ∙ sym (place_still batch node (slice_get_within (accepted journal) batch b at)))

  module _ (ran ran' : ℕ → ℕ → Bool) (has : IsPlaced journal ran) (still : (k i : ℕ) → ran k i ≡ true → ran' k i ≡ true) where
    executed_still : (k : ℕ) → WasExecuted journal ran k → WasExecuted next ran' k
    executed_still k (host_did id at bytes is) = host_did id at bytes (log_still k (HostWrite id at bytes) is)
    executed_still k (node_ran batch node b at lt place was) =
        node_ran batch node b (accepted_still batch b at) lt (place ∙ sym (place_still batch node (slice_get_within (accepted journal) batch b at))) (still batch node was)

    -- what the entry adds
    pub placed_then : ((j : ℕ) (x : Item) → slice_get (entry_items entry) j ≡ Some x → Stands next (length (log_of journal) + j) x)
        → ((j : ℕ) (b : Batch) → slice_get (accepts entry) j ≡ Some b → (node : ℕ) (n : Node) → slice_get b.nodes node ≡ Some n → slice_get (log_of next) (place_of next (length (accepted journal) + j) node) ≡ Some (Command 0 n))
        → ((k : ℕ) → Contains (executes journal entry) k → WasExecuted next ran' k)
        → ((batch node : ℕ) → ran' batch node ≡ true → (ran batch node ≡ true) ⊎ ((batch < length (accepted next)) × Contains (order_of next) (place_of next batch node)))
        → IsPlaced next ran'
    placed_then items batches places runs = record {
      stands = λ k x at. stands k x (get_parts (log_of journal) (entry_items entry) k x (subst (λ l. slice_get l k ≡ Some x) (log_of-push journal entry) at));
      lies = λ batch node b n at is. lies batch node b n (get_parts (accepted journal) (accepts entry) batch b (subst (λ l. slice_get l batch ≡ Some b) (accepted-push journal entry) at)) is;
      executed = λ k c. executed k (Contains-append_cases (order_of journal) (executes journal entry) k (subst (λ o. Contains o k) (order_of-push journal entry) c));
      in_order = λ batch node was. in_order batch node (runs batch node was);
    }
      where
        stands : (k : ℕ) (x : Item) → (slice_get (log_of journal) k ≡ Some x) ⊎ ((j : ℕ) × (k ≡ length (log_of journal) + j) × (slice_get (entry_items entry) j ≡ Some x)) → Stands next k x
        stands k x (inl old) = stands_still k x (has.stands k x old)
        stands k x (inr new) = subst (λ m. Stands next m x) (sym new.1) (items new.0 x new.2)

        lies : (batch node : ℕ) (b : Batch) (n : Node) → (slice_get (accepted journal) batch ≡ Some b) ⊎ ((j : ℕ) × (batch ≡ length (accepted journal) + j) × (slice_get (accepts entry) j ≡ Some b)) → slice_get b.nodes node ≡ Some n
            → slice_get (log_of next) (place_of next batch node) ≡ Some (Command 0 n)
        lies batch node b n (inl old) is =
            ap (slice_get (log_of next)) (place_still batch node (slice_get_within (accepted journal) batch b old)) ∙ log_still (place_of journal batch node) (Command 0 n) (has.lies batch node b n old is)
        lies batch node b n (inr new) is = subst (λ m. slice_get (log_of next) (place_of next m node) ≡ Some (Command 0 n)) (sym new.1) (batches new.0 b new.2 node n is)

        executed : (k : ℕ) → Contains (order_of journal) k ⊎ Contains (executes journal entry) k → WasExecuted next ran' k
        executed k (inl old) = executed_still k (has.executed k old)
        executed k (inr new) = places k new

        in_order : (batch node : ℕ) → (ran batch node ≡ true) ⊎ ((batch < length (accepted next)) × Contains (order_of next) (place_of next batch node)) → (batch < length (accepted next)) × Contains (order_of next) (place_of next batch node)
        in_order batch node (inl old) =
            let was = has.in_order batch node old in
            (accepted_within batch was.0, subst (Contains (order_of next)) (sym (place_still batch node was.0)) (order_still (place_of journal batch node) was.1))
        in_order batch node (inr new) = new

-- An entry that adds nothing to the log and executes nothing.
pub placed_quiet : (journal : List Logged) (entry : Logged) (ran : ℕ → ℕ → Bool) → entry_items entry ≡ [] → accepts entry ≡ [] → executes journal entry ≡ [] → IsPlaced journal ran → IsPlaced (journal ++ entry ∷ []) ran
placed_quiet journal entry ran no_item no_batch no_place has =
    placed_then journal entry ran ran has (λ k i was. was)
    (λ j x at. absurd (none-some x (subst (λ l. slice_get l j ≡ Some x) no_item at)))
    (λ j b at node n is. absurd (none-some b (subst (λ l. slice_get l j ≡ Some b) no_batch at)))
    (λ k c. absurd (contains_none k (subst (λ o. Contains o k) no_place c)))
    (λ batch node was. inl was)

only_one : {X : Type 0} (x y : X) (j : ℕ) → slice_get (x ∷ []) j ≡ Some y → (j ≡ 0) × (x ≡ y)
only_one x y zero at = (refl, same_Some x y at)
only_one x y (suc j) at = absurd (none-some y at)

one_place : (k l : ℕ) → Contains (k ∷ []) l → k ≡ l
one_place k l c = go (contains_cons_cases k [] l c)
  where
    go : (k ≡ l) ⊎ Contains [] l → k ≡ l
    go (inl same) = same
    go (inr none) = absurd (contains_none l none)

pub placed_wrote : (journal : List Logged) (id : HandleId) (at : ℕ) (bytes : List ℕ) (ran : ℕ → ℕ → Bool) → IsPlaced journal ran → IsPlaced (journal ++ logged.Wrote id at bytes ∷ []) ran
placed_wrote journal id at bytes ran has =
    placed_then journal (logged.Wrote id at bytes) ran ran has (λ k i was. was)
    (λ j x is. let o = only_one (HostWrite id.0 at bytes) x j is in
    by_host id.0 at bytes (sym o.1) (let here : length (log_of journal) ≡ length (log_of journal) + j = omega (arith, o.0) in subst (Contains (order_of next)) here done))
    (λ j b at node n is. absurd (none-some b at))
    (λ k c. host_did id.0 at bytes (ap (slice_get (log_of next)) (sym (one_place (length (log_of journal)) k c)) ∙ there))
    (λ batch node was. inl was)
  where
    next : List Logged
    next = journal ++ logged.Wrote id at bytes ∷ []

    done : Contains (order_of (journal ++ logged.Wrote id at bytes ∷ [])) (length (log_of journal))
    done = subst (λ o. Contains o (length (log_of journal))) (sym (order_of-push journal (logged.Wrote id at bytes))) (Contains-push (order_of journal) (length (log_of journal)))

    there : slice_get (log_of (journal ++ logged.Wrote id at bytes ∷ [])) (length (log_of journal)) ≡ Some (HostWrite id.0 at bytes)
    there =
        let same : length (log_of journal) ≡ length (log_of journal) + 0 = omega arith in
        ap (λ l. slice_get l (length (log_of journal))) (log_of-push journal (logged.Wrote id at bytes))
        ∙ ap (slice_get (log_of journal ++ HostWrite id.0 at bytes ∷ [])) same
        ∙ get_right (log_of journal) (HostWrite id.0 at bytes ∷ []) 0

mapped : {X Y : Type 0} (f : X → Y) (xs : List X) (j : ℕ) (y : Y) → slice_get (map f xs) j ≡ Some y → (x : X) × (slice_get xs j ≡ Some x) × (y ≡ f x)
mapped f [] j y at = absurd (none-some y at)
mapped f (x ∷ xs) zero y at = (x, refl, sym (same_Some (f x) y at))
mapped f (x ∷ xs) (suc j) y at = mapped f xs j y at

module _ (journal : List Logged) (b : Batch) (one : IsOfOneQueue b) where
  abbrev entry : Logged
  entry = logged.Submitted b

  nodes_only : entry_items (logged.Submitted b) ≡ map (Command 0) b.nodes
  nodes_only =
      ap (λ w. map (Wait b.queue) w ++ (map (Command b.queue) b.nodes ++ map (Signal b.queue) b.signals)) one.waits
      ∙ ap (λ s. map (Command b.queue) b.nodes ++ map (Signal b.queue) s) one.signals
      ∙ append-nil (map (Command b.queue) b.nodes)
      ∙ ap (λ q. map (Command q) b.nodes) one.queue

  starts : batch_start (journal ++ logged.Submitted b ∷ []) (length (accepted journal)) ≡ length (log_of journal)
  starts = start_next journal b ∙ ap (λ w. length (log_of journal) + length w) one.waits ∙ omega arith

  last_accepted : slice_get (accepted (journal ++ logged.Submitted b ∷ [])) (length (accepted journal)) ≡ Some b
  last_accepted =
      let same : length (accepted journal) ≡ length (accepted journal) + 0 = omega arith in
      ap (λ l. slice_get l (length (accepted journal))) (accepted-push journal (logged.Submitted b))
      ∙ ap (slice_get (accepted journal ++ b ∷ [])) same
      ∙ get_right (accepted journal) (b ∷ []) 0

  there : (node : ℕ) (n : Node) → slice_get b.nodes node ≡ Some n → slice_get (log_of (journal ++ logged.Submitted b ∷ [])) (length (log_of journal) + node) ≡ Some (Command 0 n)
  there node n is =
      ap (λ l. slice_get l (length (log_of journal) + node)) (log_of-push journal (logged.Submitted b) ∙ ap (λ l. log_of journal ++ l) nodes_only)
      ∙ get_right (log_of journal) (map (Command 0) b.nodes) node
      ∙ slice_get-map (Command 0) b.nodes node
      ∙ ap (option_map (Command 0)) is

  pub placed_submitted : (ran : ℕ → ℕ → Bool) → IsPlaced journal ran → IsPlaced (journal ++ logged.Submitted b ∷ []) ran
  placed_submitted ran has =
      placed_then journal (logged.Submitted b) ran ran has (λ k i was. was)
      (λ j x at. let m = mapped (Command 0) b.nodes j x (subst (λ l. slice_get l j ≡ Some x) nodes_only at) in
      in_batch (length (accepted journal)) j b m.0 last_accepted m.1 m.2 (ap (λ n. n + j) (sym starts)))
      (λ j c at node n is. let o = only_one b c j at in
      let here : length (accepted journal) + j ≡ length (accepted journal) = omega (arith, o.0) in
      ap (λ m. slice_get (log_of (journal ++ logged.Submitted b ∷ [])) (batch_start (journal ++ logged.Submitted b ∷ []) m + node)) here
      ∙ ap (λ m. slice_get (log_of (journal ++ logged.Submitted b ∷ [])) (m + node)) starts
      ∙ there node n (subst (λ (d : Batch). slice_get d.nodes node ≡ Some n) (sym o.1) is))
      (λ k c. absurd (contains_none k c))
      (λ batch node was. inl was)

-- an accepted node ran
pub placed_ran : (journal : List Logged) (batch node : ℕ) (b : Batch) (ran ran' : ℕ → ℕ → Bool) → IsPlaced journal ran → slice_get (accepted journal) batch ≡ Some b → node < length b.nodes
    → ((k i : ℕ) → ran k i ≡ true → ran' k i ≡ true) → ran' batch node ≡ true → ((k i : ℕ) → ran' k i ≡ true → (ran k i ≡ true) ⊎ ((batch ≡ k) × (node ≡ i))) → IsPlaced (journal ++ logged.Ran batch node ∷ []) ran'
placed_ran journal batch node b ran ran' has at lt still now only =
    placed_then journal (logged.Ran batch node) ran ran' has still
    (λ j x is. absurd (none-some x is))
    (λ j c is m n there. absurd (none-some c is))
    (λ k c. node_ran batch node b (accepted_still journal (logged.Ran batch node) batch b at) lt (sym (one_place (place_of journal batch node) k c) ∙ sym same) now)
    (λ k i was. runs k i (only k i was))
  where
    inside : batch < length (accepted journal)
    inside = slice_get_within (accepted journal) batch b at

    same : place_of (journal ++ logged.Ran batch node ∷ []) batch node ≡ place_of journal batch node
    same = place_still journal (logged.Ran batch node) batch node inside

    done : Contains (order_of (journal ++ logged.Ran batch node ∷ [])) (place_of (journal ++ logged.Ran batch node ∷ []) batch node)
    done = subst (λ o. Contains o (place_of (journal ++ logged.Ran batch node ∷ []) batch node)) (sym (order_of-push journal (logged.Ran batch node)))
        (subst (Contains (order_of journal ++ place_of journal batch node ∷ [])) (sym same) (Contains-push (order_of journal) (place_of journal batch node)))

    runs : (k i : ℕ) → (ran k i ≡ true) ⊎ ((batch ≡ k) × (node ≡ i)) → (ran k i ≡ true) ⊎ ((k < length (accepted (journal ++ logged.Ran batch node ∷ []))) × Contains (order_of (journal ++ logged.Ran batch node ∷ [])) (place_of (journal ++ logged.Ran batch node ∷ []) k i))
    runs k i (inl old) = inl old
    runs k i (inr new) = inr (
      subst (λ m. m < length (accepted (journal ++ logged.Ran batch node ∷ []))) new.0 (accepted_within journal (logged.Ran batch node) batch inside),
      subst (λ m. Contains (order_of (journal ++ logged.Ran batch node ∷ [])) (place_of (journal ++ logged.Ran batch node ∷ []) k m)) new.1
          (subst (λ m. Contains (order_of (journal ++ logged.Ran batch node ∷ [])) (place_of (journal ++ logged.Ran batch node ∷ []) m node)) new.0 done),
    )
