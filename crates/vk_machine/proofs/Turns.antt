-- What is left after a submission, and after a turn.
use Rattle.std.proofs.Common.{◌≡◌, ◌≢◌, ℕ, zero, suc, ◌+◌, ◌-◌, ◌<◌, ◌≤◌, List, [], ◌∷◌, ◌++◌, length, map, refl, sym, ◌∙◌, ap, subst, arith, inl, inr, length-append}
use Rattle.std.specs.Prelude.{◌⊎◌, Option, Some, None, slice_get, Contains, option_and_then, All}
use Rattle.std.specs.List.{remove}
use Rattle.std.proofs.lemmas.List.{append-nil}
use Rattle.std.proofs.lemmas.Option.{slice_get-map, slice_get_within, same_Some}
use Rattle.std.proofs.lemmas.Bool.{cases_eq, cases_lt}
use Rattle.vk_types.specs.declared.ops.Node.{Node}
use Rattle.vk_types.specs.declared.batches.Batch.{Batch}
use Rattle.vk_model.specs.Fitting.{NodeFits}
use Rattle.vk_model.specs.Log.{Item, Command, IsPermitted}
use Rattle.vk_model.proofs.Device.{get_front, get_next, order_inside}
use Rattle.vk_model.proofs.Places.{contains_none, contains_cons_cases}
use Rattle.vk_ready.specs.declared.nodes.WaitingNode.{WaitingNode}
use Rattle.vk_device.specs.declared.logged.Logged.{Logged}
use Rattle.vk_device.specs.declared.logged.Logged.TheVariants.{Submitted, Ran}
use Rattle.vk_device.specs.Journal.{accepted, node_at, kind_of}
use Rattle.vk_device.specs.Order.{entry_items, log_of, order_of, batch_start, IsOfOneQueue}
use Rattle.vk_device.proofs.Orders.{log_of-push, order_of-push, contains_last}
use Rattle.vk_machine.specs.Machine.{place_in, IsLeft, LiesAt, AreLeft, waiting_from}
use Rattle.vk_device.proofs.Starts.{accepted-push, start_next}
use Rattle.vk_machine.proofs.Left.{left_stays, still_rising, old_place, place_stays}

-- Lists

reads_below : {X : Type 0} (xs : List X) (p k : ℕ) → k < p → slice_get (remove xs p) k ≡ slice_get xs k
reads_below [] zero k lt = refl
reads_below [] (suc p) k lt = refl
reads_below (x ∷ xs) zero k lt = absurd (omega arith)
reads_below (x ∷ xs) (suc p) zero lt = refl
reads_below (x ∷ xs) (suc p) (suc k) lt = reads_below xs p k (omega arith)

reads_above : {X : Type 0} (xs : List X) (p k : ℕ) → p ≤ k → slice_get (remove xs p) k ≡ slice_get xs (suc k)
reads_above [] zero k le = refl
reads_above [] (suc p) k le = refl
reads_above (x ∷ xs) zero k le = refl
reads_above (x ∷ xs) (suc p) zero le = absurd (omega arith)
reads_above (x ∷ xs) (suc p) (suc k) le = reads_above xs p k (omega arith)

data Split {X : Type 0} (xs ys : List X) (k : ℕ) (x : X) : Type 0 where
  front : k < length xs → slice_get xs k ≡ Some x → Split xs ys k x
  back : (j : ℕ) → k ≡ length xs + j → slice_get ys j ≡ Some x → Split xs ys k x

split : {X : Type 0} (xs ys : List X) (k : ℕ) (x : X) → slice_get (xs ++ ys) k ≡ Some x → Split xs ys k x
split [] ys k x is = back k (omega arith) is
split (y ∷ xs) ys zero x is = front (omega arith) is
split {X} (y ∷ xs) ys (suc k) x is = further (split xs ys k x is)
  where
    further : Split xs ys k x → Split (y ∷ xs) ys (suc k) x
    further (front lt at) = front (omega (arith, lt)) at
    further (back j same at) = back j (omega (arith, same)) at

get_behind : {X : Type 0} (xs ys : List X) (j : ℕ) → slice_get (xs ++ ys) (length xs + j) ≡ slice_get ys j
get_behind [] ys j = let same : 0 + j ≡ j = omega arith in ap (slice_get ys) same
get_behind (x ∷ xs) ys j = let next : length (x ∷ xs) + j ≡ suc (length xs + j) = omega arith in ap (slice_get (x ∷ xs ++ ys)) next ∙ get_behind xs ys j

record Placed (batch node queue : ℕ) (commands : List Node) (k : ℕ) (w : WaitingNode) : Type 0 where
  of : w.batch ≡ batch
  number : w.node ≡ node + k
  on : w.queue ≡ queue
  command : slice_get commands k ≡ Some w.command

placed : (batch node queue : ℕ) (commands : List Node) (k : ℕ) (w : WaitingNode) → slice_get (waiting_from batch node queue commands) k ≡ Some w → Placed batch node queue commands k w
placed batch node queue [] k w is = let no : ◌≡◌ {A = Option WaitingNode} None (Some w) = is in absurd (cc)
placed batch node queue (c ∷ cs) zero w is =
    let same : (record { batch = batch; node = node; queue = queue; command = c }) ≡ w = same_Some (record { batch = batch; node = node; queue = queue; command = c }) w is in
    record { of = ap (λ (v : WaitingNode). v.batch) (sym same); number = ap (λ (v : WaitingNode). v.node) (sym same) ∙ omega arith; on = ap (λ (v : WaitingNode). v.queue) (sym same); command = ap (λ (v : WaitingNode). Some v.command) same }
placed batch node queue (c ∷ cs) (suc k) w is =
    let rest : Placed batch (suc node) queue cs k w = placed batch (suc node) queue cs k w is in
    record { of = rest.of; number = omega (arith, rest.number); on = rest.on; command = rest.command }

lists : (batch node queue : ℕ) (commands : List Node) (k : ℕ) (c : Node) → slice_get commands k ≡ Some c → slice_get (waiting_from batch node queue commands) k ≡ Some (record { batch = batch; node = node + k; queue = queue; command = c })
lists batch node queue [] k c is = let no : ◌≡◌ {A = Option Node} None (Some c) = is in absurd (cc)
lists batch node queue (d ∷ cs) zero c is = ap (λ n. Some (record { batch = batch; node = n; queue = queue; command = d })) (omega arith) ∙ ap (λ e. Some (record { batch = batch; node = node + 0; queue = queue; command = e })) (same_Some d c is)
lists batch node queue (d ∷ cs) (suc k) c is = lists batch (suc node) queue cs k c is ∙ ap (λ n. Some (record { batch = batch; node = n; queue = queue; command = c })) (omega arith)

record Item' {X : Type 0} (xs : List X) (k : ℕ) : Type 0 where
  item : X
  is : slice_get xs k ≡ Some item

some_at : {X : Type 0} (xs : List X) (k : ℕ) → k < length xs → Item' xs k
some_at [] k lt = absurd (omega (arith, lt))
some_at (x ∷ xs) zero lt = record { item = x; is = refl }
some_at (x ∷ xs) (suc k) lt = let rest : Item' xs k = some_at xs k (omega (arith, lt)) in record { item = rest.item; is = rest.is }

-- Submissions

module _ (journal : List Logged) (waiting : List WaitingNode) (batch : Batch) (has : AreLeft journal waiting) (permitted : IsPermitted (log_of journal) (order_of journal)) (one : IsOfOneQueue batch)
    (same_kinds : kind_of (journal ++ Submitted batch ∷ []) ≡ kind_of journal) (fits_old : (k : ℕ) (w : WaitingNode) → slice_get waiting k ≡ Some w → NodeFits (kind_of journal) w.command) (fits_new : All (NodeFits (kind_of journal)) batch.nodes) where
  abbrev next : List Logged
  next = journal ++ Submitted batch ∷ []

  abbrev new : List WaitingNode
  new = waiting_from (length (accepted journal)) 0 batch.queue batch.nodes

  fits : (k : ℕ) (w : WaitingNode) → slice_get waiting k ≡ Some w → NodeFits (kind_of next) w.command
  fits k w at = subst (λ o. NodeFits o w.command) (sym same_kinds) (fits_old k w at)

  nodes_only : entry_items (Submitted batch) ≡ map (Command batch.queue) batch.nodes
  nodes_only =
      ap (λ w. map (Rattle.vk_model.specs.Log.Wait batch.queue) w ++ (map (Command batch.queue) batch.nodes ++ map (Rattle.vk_model.specs.Log.Signal batch.queue) batch.signals)) one.waits
      ∙ ap (λ s. map (Command batch.queue) batch.nodes ++ map (Rattle.vk_model.specs.Log.Signal batch.queue) s) one.signals
      ∙ append-nil (map (Command batch.queue) batch.nodes)

  log_is : log_of next ≡ log_of journal ++ map (Command batch.queue) batch.nodes
  log_is = log_of-push journal (Submitted batch) ∙ ap (λ l. log_of journal ++ l) nodes_only

  start : batch_start next (length (accepted journal)) ≡ length (log_of journal)
  start = start_next journal batch ∙ ap (λ w. length (log_of journal) + length w) one.waits ∙ omega arith

  new_place : (j : ℕ) (w : WaitingNode) → Placed (length (accepted journal)) 0 batch.queue batch.nodes j w → place_in next w ≡ length (log_of journal) + j
  new_place j w p = ap (λ b. batch_start next b + w.node) p.of ∙ omega (arith, start, p.number)

  new_left : (j : ℕ) (w : WaitingNode) → Placed (length (accepted journal)) 0 batch.queue batch.nodes j w → IsLeft next w
  new_left j w p = record {
    is =
        ap (λ b. node_at b w.batch w.node) (accepted-push journal (Submitted batch))
        ∙ ap (λ b. node_at (accepted journal ++ batch ∷ []) b w.node) p.of
        ∙ ap (λ o. option_and_then (λ (b : Batch). slice_get b.nodes w.node) o) (get_next (accepted journal) batch [])
        ∙ ap (slice_get batch.nodes) (p.number ∙ omega arith)
        ∙ p.command;
    at =
        ap (slice_get (log_of next)) (new_place j w p)
        ∙ ap (λ l. slice_get l (length (log_of journal) + j)) log_is
        ∙ get_behind (log_of journal) (map (Command batch.queue) batch.nodes) j
        ∙ slice_get-map (Command batch.queue) batch.nodes j
        ∙ ap (Rattle.std.specs.Prelude.option_map (Command batch.queue)) p.command
        ∙ ap (λ q. Some (Command q w.command)) (sym p.on);
    left = λ c.
        let there : Contains (order_of journal) (place_in next w) = subst (λ o. Contains o (place_in next w)) (order_of-push journal (Submitted batch) ∙ append-nil (order_of journal)) c in
        let inside : place_in next w < length (log_of journal) = order_inside (log_of journal) [] (order_of journal) (place_in next w) permitted there in
        omega (arith, inside, new_place j w p);
    fits = subst (λ o. NodeFits o w.command) (sym same_kinds) (fit batch.nodes fits_new j w.command p.command);
  }
    where
      fit : (ns : List Node) → All (NodeFits (kind_of journal)) ns → (j : ℕ) (n : Node) → slice_get ns j ≡ Some n → NodeFits (kind_of journal) n
      fit [] all j n at = let no : ◌≡◌ {A = Option Node} None (Some n) = at in absurd (cc)
      fit (m ∷ ns) all zero n at = subst (NodeFits (kind_of journal)) (same_Some m n at) (all 0 m (omega arith))
      fit (m ∷ ns) all (suc j) n at = fit ns (λ k d lt. all (suc k) d (omega (arith, lt))) j n at

  place_old : (k : ℕ) (w : WaitingNode) → slice_get waiting k ≡ Some w → place_in next w < length (log_of journal)
  place_old k w at =
      let stays : place_in next w ≡ place_in journal w = place_stays journal (Submitted batch) w (has.each k w at) in
      let inside : place_in journal w < length (log_of journal) = slice_get_within (log_of journal) (place_in journal w) (Command w.queue w.command) (has.each k w at).at in
      omega (arith, stays, inside)

  pub left_submitted : AreLeft next (waiting ++ new)
  left_submitted = record { each = λ k w at. each k w (split waiting new k w at); all = all; rising = λ j k v w lt at_j at_k. rising j k v w lt (split waiting new j v at_j) (split waiting new k w at_k) }
    where
      each : (k : ℕ) (w : WaitingNode) → Split waiting new k w → IsLeft next w
      each k w (front lt at) = left_stays journal (Submitted batch) w (has.each k w at) (λ c. contains_none (place_in journal w) c) (fits k w at)
      each k w (back j same at) = new_left j w (placed (length (accepted journal)) 0 batch.queue batch.nodes j w at)

      rising : (j k : ℕ) (v w : WaitingNode) → j < k → Split waiting new j v → Split waiting new k w → place_in next v < place_in next w
      rising j k v w lt (front lt_j at_j) (front lt_k at_k) = still_rising journal (Submitted batch) waiting has fits j k v w lt at_j at_k
      rising j k v w lt (front lt_j at_j) (back i same at_k) = omega (arith, place_old j v at_j, new_place i w (placed (length (accepted journal)) 0 batch.queue batch.nodes i w at_k))
      rising j k v w lt (back i same at_j) (front lt_k at_k) = absurd (omega (arith, lt, same, lt_k))
      rising j k v w lt (back i same at_j) (back i' same' at_k) =
          omega (arith, lt, same, same', new_place i v (placed (length (accepted journal)) 0 batch.queue batch.nodes i v at_j), new_place i' w (placed (length (accepted journal)) 0 batch.queue batch.nodes i' w at_k))

      more : (place : ℕ) → Contains (order_of next) place ⊎ LiesAt next waiting place → Contains (order_of next) place ⊎ LiesAt next (waiting ++ new) place
      more place (inl c) = inl c
      more place (inr lies) = inr (record { k = lies.k; node = lies.node; at = get_front waiting new lies.k (slice_get_within waiting lies.k lies.node lies.at) ∙ lies.at; is = lies.is })

      all : (place : ℕ) → place < length (log_of next) → Contains (order_of next) place ⊎ LiesAt next (waiting ++ new) place
      all place lt = elim (cases_lt place (length (log_of journal))) [
        | inl old ↦ more place (old_place journal (Submitted batch) waiting has fits place (has.all place old))
        | inr past ↦
            let size : length (log_of next) ≡ length (log_of journal) + length batch.nodes = ap length log_is ∙ length-append (log_of journal) (map (Command batch.queue) batch.nodes) ∙ ap (λ n. length (log_of journal) + n) (Rattle.std.proofs.lemmas.List.length-map batch.nodes (Command batch.queue)) in
            let j : ℕ = place - length (log_of journal) in
            let c : Item' batch.nodes (place - length (log_of journal)) = some_at batch.nodes (place - length (log_of journal)) (omega (arith, lt, size, past)) in
            let at : slice_get new (place - length (log_of journal)) ≡ Some (record { batch = length (accepted journal); node = 0 + (place - length (log_of journal)); queue = batch.queue; command = c.item }) = lists (length (accepted journal)) 0 batch.queue batch.nodes (place - length (log_of journal)) c.item c.is in
            inr (record {
              k = length waiting + (place - length (log_of journal));
              node = record { batch = length (accepted journal); node = 0 + (place - length (log_of journal)); queue = batch.queue; command = c.item };
              at = get_behind waiting new (place - length (log_of journal)) ∙ at;
              is = omega (arith, start, past);
            })
      ]

-- Turns

module _ (journal : List Logged) (waiting : List WaitingNode) (t : ℕ) (w : WaitingNode) (has : AreLeft journal waiting) (at_t : slice_get waiting t ≡ Some w)
    (same_kinds : kind_of (journal ++ Ran w.batch w.node ∷ []) ≡ kind_of journal) where
  abbrev after : List Logged
  after = journal ++ Ran w.batch w.node ∷ []

  fits_after : (k : ℕ) (v : WaitingNode) → slice_get waiting k ≡ Some v → NodeFits (kind_of after) v.command
  fits_after k v at = subst (λ o. NodeFits o v.command) (sym same_kinds) (has.each k v at).fits

  -- the node of a place that is left is at its place before
  record Before (k : ℕ) (v : WaitingNode) : Type 0 where
    place : ℕ
    at : slice_get waiting place ≡ Some v
    other : place ≢ t
    below : k < t → place ≡ k
    above : t ≤ k → place ≡ suc k

  before : (k : ℕ) (v : WaitingNode) → slice_get (remove waiting t) k ≡ Some v → Before k v
  before k v at = elim (cases_lt k t) [
    | inl lt ↦ record { place = k; at = sym (reads_below waiting t k lt) ∙ at; other = λ e. omega (arith, e, lt); below = λ _. refl; above = λ le. absurd (omega (arith, le, lt)) }
    | inr le ↦ record { place = suc k; at = sym (reads_above waiting t k (omega (arith, le))) ∙ at; other = λ e. omega (arith, e, le); below = λ lt. absurd (omega (arith, le, lt)); above = λ _. refl }
  ]

  apart : (k : ℕ) (v : WaitingNode) → slice_get waiting k ≡ Some v → k ≢ t → place_in journal v ≢ place_in journal w
  apart k v at other same = elim (cases_lt k t) [
    | inl lt ↦ omega (arith, same, has.rising k t v w lt at at_t)
    | inr le ↦ omega (arith, same, has.rising t k w v (omega (arith, le, other)) at_t at)
  ]

  pub left_ran : AreLeft after (remove waiting t)
  left_ran = record {
    each = λ k v at. let b : Before k v = before k v at in left_stays journal (Ran w.batch w.node) v (has.each b.place v b.at) (λ c. not_now b.place v b.at b.other c) (fits_after b.place v b.at);
    all = λ place lt. all place (has.all place (subst (λ l. place < l) (ap length (log_of-push journal (Ran w.batch w.node) ∙ append-nil (log_of journal))) lt));
    rising = λ j k u v lt at_j at_k.
        let b : Before j u = before j u at_j in
        let c : Before k v = before k v at_k in
        still_rising journal (Ran w.batch w.node) waiting has fits_after b.place c.place u v (order j k u v b c lt) b.at c.at;
  }
    where
      not_now : (k : ℕ) (v : WaitingNode) → slice_get waiting k ≡ Some v → k ≢ t → Contains (place_in journal w ∷ []) (place_in journal v) → ⊥
      not_now k v at other c = elim (contains_cons_cases (place_in journal w) [] (place_in journal v) c) [ inl same ↦ apart k v at other (sym same) | inr none ↦ contains_none (place_in journal v) none ]

      order : (j k : ℕ) (u v : WaitingNode) (b : Before j u) (c : Before k v) → j < k → b.place < c.place
      order j k u v b c lt = elim (cases_lt j t) [
        | inl below ↦ elim (cases_lt k t) [ inl low ↦ omega (arith, lt, b.below below, c.below low) | inr high ↦ omega (arith, lt, b.below below, c.above (omega (arith, high))) ]
        | inr above ↦ omega (arith, lt, b.above (omega (arith, above)), c.above (omega (arith, above, lt)))
      ]

      all : (place : ℕ) → Contains (order_of journal) place ⊎ LiesAt journal waiting place → Contains (order_of after) place ⊎ LiesAt after (remove waiting t) place
      all place (inl c) = inl (subst (λ o. Contains o place) (sym (order_of-push journal (Ran w.batch w.node))) (Rattle.std.proofs.lemmas.List.Elements.Contains-append_left (order_of journal) (place_in journal w ∷ []) place c))
      all place (inr lies) = elim (cases_eq lies.k t) [
        | inl same ↦
            let node : w ≡ lies.node = same_Some w lies.node (sym at_t ∙ ap (slice_get waiting) (sym same) ∙ lies.at) in
            let here : place_in journal w ≡ place = ap (place_in journal) node ∙ lies.is in
            inl (subst (λ o. Contains o place) (sym (order_of-push journal (Ran w.batch w.node))) (subst (Contains (order_of journal ++ place_in journal w ∷ [])) here (contains_last (order_of journal) (place_in journal w))))
        | inr other ↦ inr (elim (cases_lt lies.k t) [
          | inl lt ↦ record { k = lies.k; node = lies.node; at = reads_below waiting t lies.k lt ∙ lies.at; is = place_stays journal (Ran w.batch w.node) lies.node (has.each lies.k lies.node lies.at) ∙ lies.is }
          | inr le ↦ record { k = lies.k - 1; node = lies.node; at = reads_above waiting t (lies.k - 1) (omega (arith, le, other)) ∙ ap (slice_get waiting) (omega (arith, le, other)) ∙ lies.at; is = place_stays journal (Ran w.batch w.node) lies.node (has.each lies.k lies.node lies.at) ∙ lies.is }
        ])
      ]
