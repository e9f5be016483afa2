-- A log that grows by a barrier, or by a node that its objects' last barriers guard, stays sound and tracked.
use Rattle.std.proofs.Common.{◌≡◌, ℕ, ◌<◌, List, [], ◌∷◌, ◌++◌, length, true, false, eqb, refl, sym, ◌∙◌, ap, subst, arith, inl, inr}
use Rattle.std.specs.Prelude.{◌⊎◌, ◌||◌, Option, Some, None, slice_get}
use Rattle.std.proofs.lemmas.Bool.{both_ways, cases_order, eq-eqb, and_from, or_left, or_right}
use Rattle.std.proofs.lemmas.List.{length-append}
use Rattle.std.proofs.lemmas.Option.{slice_get_within}
use Rattle.vk_types.specs.declared.regions.Barrier.{Barrier}
use Rattle.vk_types.specs.declared.ops.Node.{Node}
use Rattle.vk_types.specs.Accesses.{in_common}
use Rattle.vk_types.specs.Touches.{barrier_of}
use Rattle.vk_model.specs.Log.{Item, Command, conflict_on, touches_object, touches_with, waits_for, holds_back, chained, node_edge, item_edge, HasEdge, Reaches, direct, ReachesNext, FindsLayouts, IsSound, IsOneQueue, Conflicts}
use Rattle.vk_model.specs.Tracking.{IsLastBarrier, IsTracked, IsSince, TouchesSince}
use Rattle.vk_model.proofs.Clashes.{Shares, shares, ConflictsOn, conflicts_on, none_is_some}
use Rattle.vk_model.proofs.ObjectTouches.{barrier_object}
use Rattle.vk_model.proofs.Device.{get_front, get_next}
use Rattle.vk_model.proofs.Growth.{reaches_longer, reaches_then, reaches_next, sound_next, Last, place_cases}

same_node : {p q : ℕ} {m n : Node} → ◌≡◌ {A = Item} (Command p m) (Command q n) → m ≡ n
same_node e = cc

module _ (log : List Item) (one : IsOneQueue log) where
  -- the edge from a node of the log to a node that comes next
  edge_waits : (k q : ℕ) (a n : Node) → slice_get log k ≡ Some (Command q a) → node_edge a n ≡ true → item_edge (Command q a) (Command 0 n) ≡ true
  edge_waits k q a n at e = and_from (eqb q 0) (node_edge a n) (eq-eqb q 0 (one k q a at)) e

  from_barrier : (id place : ℕ) (l : IsLastBarrier log id place) (n : Node) → touches_with n id l.barrier.second ≡ true → node_edge l.node n ≡ true
  from_barrier id place l n t =
      or_left (waits_for l.node (barrier_of n) || holds_back (barrier_of l.node) n) (chained (barrier_of l.node) (barrier_of n))
      (or_right (waits_for l.node (barrier_of n)) (holds_back (barrier_of l.node) n)
      (ap (λ o. holds_back o n) l.is ∙ subst (λ i. touches_with n i l.barrier.second ≡ true) (sym l.of) t))

  to_barrier : (a n : Node) (y : Barrier) → barrier_of n ≡ Some y → touches_with a y.id.0 y.first ≡ true → node_edge a n ≡ true
  to_barrier a n y is t =
      or_left (waits_for a (barrier_of n) || holds_back (barrier_of a) n) (chained (barrier_of a) (barrier_of n))
      (or_left (waits_for a (barrier_of n)) (holds_back (barrier_of a) n) (ap (waits_for a) is ∙ t))

  between_barriers : (a n : Node) (x y : Barrier) → barrier_of a ≡ Some x → barrier_of n ≡ Some y → x.id.0 ≡ y.id.0 → in_common x.second y.first ≡ true → node_edge a n ≡ true
  between_barriers a n x y is_x is_y same e =
      or_right (waits_for a (barrier_of n) || holds_back (barrier_of a) n) (chained (barrier_of a) (barrier_of n))
      (ap (λ o. chained o (barrier_of n)) is_x ∙ ap (chained (Some x)) is_y ∙ and_from (eqb x.id.0 y.id.0) (in_common x.second y.first) (eq-eqb x.id.0 y.id.0 same) e)

  -- A barrier comes next

  module _ (id : ℕ) (n : Node) (y : Barrier) (is : barrier_of n ≡ Some y) (of : y.id.0 ≡ id) where
    -- what the barrier waits for by itself
    waited : (k q : ℕ) (a : Node) → slice_get log k ≡ Some (Command q a) → touches_with a id y.first ≡ true → (j : ℕ) → (j ≡ k) ⊎ Reaches log j k → ReachesNext log j (Command 0 n)
    waited k q a at t j chain = record { last = k; item = Command q a; at = at; waits = edge_waits k q a n at (to_barrier a n y is (subst (λ i. touches_with a i y.first ≡ true) (sym of) t)); chain = chain }

    -- all that touch the object reach the barrier
    all_reach : (last : Option ℕ) → IsTracked log id last →
        ((k q : ℕ) (a : Node) → IsSince last k → slice_get log k ≡ Some (Command q a) → touches_object a id ≡ true → touches_with a id y.first ≡ true) →
        ((place : ℕ) (l : IsLastBarrier log id place) → last ≡ Some place → TouchesSince log id last ⊎ (in_common l.barrier.second y.first ≡ true)) →
        (j p : ℕ) (a : Node) → slice_get log j ≡ Some (Command p a) → touches_object a id ≡ true → ReachesNext log j (Command 0 n)
    all_reach None tracked waits chains j p a at t = waited j p a at (waits j p a tt at t) j (inl refl)
    all_reach (Some place) tracked waits chains j p a at t = go (cases_order j place)
      where
        -- what reaches the last barrier, or is it
        through : (j ≡ place) ⊎ Reaches log j place → TouchesSince log id (Some place) ⊎ (in_common tracked.barrier.second y.first ≡ true) → ReachesNext log j (Command 0 n)
        through chain (inr e) = record { last = place; item = Command tracked.queue tracked.node; at = tracked.at; waits = edge_waits place tracked.queue tracked.node n tracked.at (between_barriers tracked.node n tracked.barrier y tracked.is is (tracked.of ∙ sym of) e); chain = chain }
        through chain (inl s) = waited s.place s.queue s.node s.at (waits s.place s.queue s.node s.since s.at s.touches) j (inr (joined chain))
          where
            edge : HasEdge log place s.place
            edge = record {
              earlier = s.since;
              a = Command tracked.queue tracked.node;
              b = Command s.queue s.node;
              a_at = tracked.at;
              b_at = s.at;
              waits = and_from (eqb tracked.queue s.queue) (node_edge tracked.node s.node) (eq-eqb tracked.queue s.queue (one place tracked.queue tracked.node tracked.at ∙ sym (one s.place s.queue s.node s.at))) (from_barrier id place tracked s.node (tracked.after s.place s.queue s.node s.since s.at s.touches).1);
            }

            joined : (j ≡ place) ⊎ Reaches log j place → Reaches log j s.place
            joined (inl e) = subst (λ i. Reaches log i s.place) (sym e) (direct edge)
            joined (inr r) = reaches_then log r edge

        go : (j ≡ place) ⊎ ((j < place) ⊎ (place < j)) → ReachesNext log j (Command 0 n)
        go (inl e) = through (inl e) (chains place tracked refl)
        go (inr (inl before)) = through (inr (tracked.before j p a before at t)) (chains place tracked refl)
        go (inr (inr later)) = waited j p a at (waits j p a later at t) j (inl refl)

    barrier_tracked : ((j p : ℕ) (a : Node) → slice_get log j ≡ Some (Command p a) → touches_object a id ≡ true → ReachesNext log j (Command 0 n)) → IsLastBarrier (log ++ Command 0 n ∷ []) id (length log)
    barrier_tracked reached = record {
      queue = 0;
      node = n;
      barrier = y;
      at = get_next log (Command 0 n) [];
      is = is;
      of = of;
      before = λ k q a lt at t. reaches_next log k (Command 0 n) (reached k q a (sym (get_front log (Command 0 n ∷ []) k lt) ∙ at) t);
      after = λ k q a lt at t. absurd (omega (arith, lt, slice_get_within (log ++ Command 0 n ∷ []) k (Command q a) at, length-append log (Command 0 n ∷ [])));
    }

    barrier_sound : IsSound log → FindsLayouts log n → ((j p : ℕ) (a : Node) → slice_get log j ≡ Some (Command p a) → touches_object a id ≡ true → ReachesNext log j (Command 0 n)) → IsSound (log ++ Command 0 n ∷ [])
    barrier_sound sound finds reached =
        sound_next log (Command 0 n) sound
        (λ q m same j p a at e.
        let here : n ≡ m = same_node same in
        let s : Shares a n = shares a n (subst (λ b. Conflicts a b) (sym here) e) in
        let object : y.id.0 ≡ s.id = barrier_object n y s.id is s.by_b in
        reached j p a at (subst (λ i. touches_object a i ≡ true) (sym object ∙ of) s.by_a))
        (λ q m same. subst (FindsLayouts log) (same_node same) finds)

  pub barrier_next : (id : ℕ) (last : Option ℕ) (n : Node) (y : Barrier) → IsSound log → IsTracked log id last → barrier_of n ≡ Some y → y.id.0 ≡ id → FindsLayouts log n →
      ((k q : ℕ) (a : Node) → IsSince last k → slice_get log k ≡ Some (Command q a) → touches_object a id ≡ true → touches_with a id y.first ≡ true) →
      ((place : ℕ) (l : IsLastBarrier log id place) → last ≡ Some place → TouchesSince log id last ⊎ (in_common l.barrier.second y.first ≡ true)) →
      IsSound (log ++ Command 0 n ∷ []) × IsTracked (log ++ Command 0 n ∷ []) id (Some (length log))
  barrier_next id last n y sound tracked is of finds waits chains = (
    barrier_sound id n y is of sound finds (all_reach id n y is of last tracked waits chains),
    barrier_tracked id n y is of (all_reach id n y is of last tracked waits chains),
  )

  -- A node comes next

  pub node_next : (last : ℕ → Option ℕ) (n : Node) → IsSound log → FindsLayouts log n →
      ((id : ℕ) → touches_object n id ≡ true → IsTracked log id (last id)) →
      ((id place : ℕ) (l : IsLastBarrier log id place) → touches_object n id ≡ true → last id ≡ Some place → touches_with n id l.barrier.second ≡ true) →
      ((id k q : ℕ) (a : Node) → touches_object n id ≡ true → IsSince (last id) k → slice_get log k ≡ Some (Command q a) → touches_object a id ≡ true → conflict_on id a n ≡ false) →
      IsSound (log ++ Command 0 n ∷ [])
  node_next last n sound finds tracked covered apart =
      sound_next log (Command 0 n) sound
      (λ q m same j p a at e.
      let here : n ≡ m = same_node same in
      let clash : Conflicts a n = subst (λ b. Conflicts a b) (sym here) e in
      let s : ConflictsOn a n = conflicts_on a n clash in
      reached j p a at s.id s.on s.by_a s.by_b (last s.id) refl (tracked s.id s.by_b))
      (λ q m same. subst (FindsLayouts log) (same_node same) finds)
    where
      reached : (j p : ℕ) (a : Node) → slice_get log j ≡ Some (Command p a) → (id : ℕ) → conflict_on id a n ≡ true → touches_object a id ≡ true → touches_object n id ≡ true → (o : Option ℕ) → last id ≡ o → IsTracked log id o → ReachesNext log j (Command 0 n)
      reached j p a at id clash ta tn None is t = absurd (both_ways (conflict_on id a n) (apart id j p a tn (subst (λ o. IsSince o j) (sym is) tt) at ta) clash)
      reached j p a at id clash ta tn (Some place) is l = go (cases_order j place)
        where
          through : (j ≡ place) ⊎ Reaches log j place → ReachesNext log j (Command 0 n)
          through chain = record { last = place; item = Command l.queue l.node; at = l.at; waits = edge_waits place l.queue l.node n l.at (from_barrier id place l n (covered id place l tn is)); chain = chain }

          go : (j ≡ place) ⊎ ((j < place) ⊎ (place < j)) → ReachesNext log j (Command 0 n)
          go (inl e) = through (inl e)
          go (inr (inl before)) = through (inr (l.before j p a before at ta))
          go (inr (inr later)) = absurd (both_ways (conflict_on id a n) (apart id j p a tn (subst (λ o. IsSince o j) (sym is) later) at ta) clash)

-- An item that is no barrier of the object, and waits for its last one where it touches it, leaves the tracker right.
pub tracked_next : (log : List Item) (id : ℕ) (last : Option ℕ) (x : Item) → IsTracked log id last →
    ((q : ℕ) (n : Node) → x ≡ Command q n → touches_object n id ≡ true → barrier_of n ≡ None) →
    ((q : ℕ) (n : Node) (place : ℕ) (l : IsLastBarrier log id place) → x ≡ Command q n → touches_object n id ≡ true → last ≡ Some place → touches_with n id l.barrier.second ≡ true) →
    IsTracked (log ++ x ∷ []) id last
tracked_next log id None x tracked no_barrier covered = λ k q n at t. go k q n t (place_cases log x (Command q n) k at)
  where
    go : (k q : ℕ) (n : Node) → touches_object n id ≡ true → ((k < length log) × (slice_get log k ≡ Some (Command q n))) ⊎ Last log x (Command q n) k → barrier_of n ≡ None
    go k q n t (inl here) = tracked k q n here.1 t
    go k q n t (inr new) = no_barrier q n (sym new.same) t
tracked_next log id (Some place) x l no_barrier covered = record {
  queue = l.queue;
  node = l.node;
  barrier = l.barrier;
  at = get_front log (x ∷ []) place inside ∙ l.at;
  is = l.is;
  of = l.of;
  before = λ k q n lt at t. reaches_longer log (x ∷ []) (l.before k q n lt (sym (get_front log (x ∷ []) k (omega (arith, lt, inside))) ∙ at) t);
  after = λ k q n lt at t. go k q n lt t (place_cases log x (Command q n) k at);
}
  where
    inside : place < length log
    inside = slice_get_within log place (Command l.queue l.node) l.at

    go : (k q : ℕ) (n : Node) → place < k → touches_object n id ≡ true → ((k < length log) × (slice_get log k ≡ Some (Command q n))) ⊎ Last log x (Command q n) k → (barrier_of n ≡ None) × (touches_with n id l.barrier.second ≡ true)
    go k q n lt t (inl here) = l.after k q n lt here.1 t
    go k q n lt t (inr new) = (no_barrier q n (sym new.same) t, covered q n place l (sym new.same) t refl)

pub tracked_nothing : (id : ℕ) → IsTracked [] id None
tracked_nothing id k q n at t = none_is_some at
