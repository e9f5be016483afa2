-- Over a sound log the last barrier of each object is known.
use Rattle.std.proofs.Common.{◌≡◌, ℕ, zero, suc, ◌<◌, List, [], ◌∷◌, true, false, eqb, refl, sym, ◌∙◌, ap, subst, arith, inl, inr}
use Rattle.std.specs.Prelude.{Bool, ◌⊎◌, ◌||◌, not, fold, All, Contains, Option, Some, None, slice_get, IfSome}
use Rattle.std.proofs.lemmas.Bool.{both_ways, cases_Bool, eqb-true, eq-eqb, or_left, or_parts, not-false}
use Rattle.std.proofs.lemmas.List.Folds.{list_any_at}
use Rattle.std.specs.List.{list_any}
use Rattle.std.specs.Option.{option_map_or}
use Rattle.vk_types.specs.Accesses.{host_read}
use Rattle.vk_types.specs.declared.handles.HandleId.{HandleId}
use Rattle.vk_types.specs.declared.regions.Touch.{Touch}
use Rattle.barriers.specs.Licence.{writes, changes_layout, layout_now, first_layout, is_licensed, barrier_due}
use Rattle.barriers.specs.Recording.{IsMadeKnown}
use Rattle.barriers.proofs.Due.{none_licensed}
use Rattle.barriers.proofs.Joint.{meets_turned}
use Rattle.std.proofs.lemmas.List.Elements.{All-contains}
use Rattle.vk_types.specs.Accesses.{in_common}
use Rattle.vk_types.specs.declared.regions.Barrier.{Barrier}
use Rattle.vk_types.specs.declared.ops.Node.{Node}
use Rattle.vk_types.specs.Touches.{barrier_of}
use Rattle.vk_model.specs.Log.{Item, Command, HostWrite, Wait, Signal, touches_object, touches_with, IsSound}
use Rattle.vk_model.specs.Tracking.{IsLastBarrier, IsTracked}
use Rattle.vk_model.proofs.Clashes.{conflict_before_barrier, none_is_some}
use Rattle.barriers.specs.Licence.{Use, barrier_after, accesses_after, last_barrier, since}
use Rattle.barriers.specs.Logs.{joint_access, AreUsesIn}
use Rattle.barriers.specs.Recording.{AreNoneEmpty}
use Rattle.barriers.proofs.Joint.{joint_meets}
use Rattle.barriers.proofs.Uses.{NoBarrier, last_without_reads, since_without_reads, touches_barrier, last_found, access_found}

-- a barrier of the object, with none of it behind
record Last (log : List Item) (id : ℕ) : Type 0 where
  place : ℕ
  queue : ℕ
  node : Node
  barrier : Barrier
  at : slice_get log place ≡ Some (Command queue node)
  is : barrier_of node ≡ Some barrier
  of : barrier.id.0 ≡ id
  later : (k q : ℕ) (n : Node) → place < k → slice_get log k ≡ Some (Command q n) → touches_object n id ≡ true → barrier_of n ≡ None

off_object : (n : Node) (id : ℕ) (barrier : Barrier) → barrier_of n ≡ Some barrier → eqb barrier.id.0 id ≡ false → touches_object n id ≡ true → barrier_of n ≡ None
off_object n id barrier is off on = absurd (both_ways (touches_object n id) (touches_barrier n id barrier is ∙ ap (λ b. b || false) off) on)

module _ (id : ℕ) where
  behind : (x : Item) (log : List Item) → Last log id → Last (x ∷ log) id
  behind x log l = record { place = suc l.place; queue = l.queue; node = l.node; barrier = l.barrier; at = l.at; is = l.is; of = l.of; later = later }
    where
      later : (k q : ℕ) (n : Node) → suc l.place < k → slice_get (x ∷ log) k ≡ Some (Command q n) → touches_object n id ≡ true → barrier_of n ≡ None
      later zero q n lt at on = absurd (omega (arith, lt))
      later (suc k) q n lt at on = l.later k q n (omega (arith, lt)) at on

  none_yet : (x : Item) (log : List Item) → ((q : ℕ) (n : Node) → x ≡ Command q n → touches_object n id ≡ true → barrier_of n ≡ None) → NoBarrier log id → NoBarrier (x ∷ log) id
  none_yet x log here free zero q n at on = here q n (let same : x ≡ Command q n = cc in same) on
  none_yet x log here free (suc k) q n at on = free k q n at on

  first : (x : Item) (log : List Item) → NoBarrier log id → NoBarrier (x ∷ log) id ⊎ Last (x ∷ log) id
  first (HostWrite i at bytes) log free = inl (none_yet (HostWrite i at bytes) log (λ q n e on. cc) free)
  first (Wait p m) log free = inl (none_yet (Wait p m) log (λ q n e on. cc) free)
  first (Signal p m) log free = inl (none_yet (Signal p m) log (λ q n e on. cc) free)
  first (Command p m) log free = go (barrier_of m) refl
    where
      same : (q : ℕ) (n : Node) → Command p m ≡ Command q n → m ≡ n
      same q n e = cc

      here : (barrier : Barrier) → barrier_of m ≡ Some barrier → (eqb barrier.id.0 id ≡ true) ⊎ (eqb barrier.id.0 id ≡ false) → NoBarrier (Command p m ∷ log) id ⊎ Last (Command p m ∷ log) id
      here barrier is (inl on) = inr (record { place = 0; queue = p; node = m; barrier = barrier; at = refl; is = is; of = eqb-true barrier.id.0 id on; later = later })
        where
          later : (k q : ℕ) (n : Node) → 0 < k → slice_get (Command p m ∷ log) k ≡ Some (Command q n) → touches_object n id ≡ true → barrier_of n ≡ None
          later zero q n lt at on = absurd (omega (arith, lt))
          later (suc k) q n lt at on = free k q n at on
      here barrier is (inr off) = inl (none_yet (Command p m) log (λ q n e on. subst (λ x. barrier_of x ≡ None) (same q n e) (off_object m id barrier is off (subst (λ x. touches_object x id ≡ true) (sym (same q n e)) on))) free)

      go : (o : Option Barrier) → barrier_of m ≡ o → NoBarrier (Command p m ∷ log) id ⊎ Last (Command p m ∷ log) id
      go None is = inl (none_yet (Command p m) log (λ q n e on. ap barrier_of (sym (same q n e)) ∙ is) free)
      go (Some barrier) is = here barrier is (cases_Bool (eqb barrier.id.0 id))

  find : (log : List Item) → NoBarrier log id ⊎ Last log id
  find [] = inl (λ k q n at on. none_is_some at)
  find (x ∷ log) = go (find log)
    where
      go : NoBarrier log id ⊎ Last log id → NoBarrier (x ∷ log) id ⊎ Last (x ∷ log) id
      go (inl free) = first x log free
      go (inr l) = inr (behind x log l)

module _ (log : List Item) (id : ℕ) (uses : List Use) (sound : IsSound log) (some : AreNoneEmpty log) (u : AreUsesIn log id uses) where
  last_of : (l : Last log id) → IsLastBarrier log id l.place
  last_of l = record {
    queue = l.queue;
    node = l.node;
    barrier = l.barrier;
    at = l.at;
    is = l.is;
    of = l.of;
    before = λ k q n lt at on. sound.ordered k l.place q l.queue n l.node lt at l.at (conflict_before_barrier n l.node l.barrier (some k q n at) l.is (subst (λ i. touches_object n i ≡ true) (sym l.of) on));
    after = λ k q n lt at on. (l.later k q n lt at on, through k q n lt at on);
  }
    where
      is_last : last_barrier uses ≡ Some l.barrier
      is_last =
          sym (last_without_reads uses None)
          ∙ (ap (fold barrier_after None) u.without_reads
          ∙ last_found log l.place id l.queue l.node l.barrier None l.at l.is (touches_barrier l.node id l.barrier l.is ∙ or_left (eqb l.barrier.id.0 id) false (eq-eqb l.barrier.id.0 id l.of)) l.later)

      has : (k q : ℕ) (n : Node) → l.place < k → slice_get log k ≡ Some (Command q n) → touches_object n id ≡ true → Contains (since uses) (joint_access n id)
      has k q n lt at on =
          since_without_reads uses [] [] (λ b h. h) (joint_access n id)
          (subst (λ us. Contains (fold accesses_after [] us) (joint_access n id)) (sym u.without_reads)
          (access_found log k id q n [] at (l.later k q n lt at on) on (λ j p b lt' at' on'. l.later j p b (omega (arith, lt, lt')) at' on')))

      through : (k q : ℕ) (n : Node) → l.place < k → slice_get log k ≡ Some (Command q n) → touches_object n id ≡ true → touches_with n id l.barrier.second ≡ true
      through k q n lt at on =
          sym (joint_meets n id l.barrier.second)
          ∙ All-contains (λ access. in_common access l.barrier.second ≡ true) (since uses) (joint_access n id)
          (subst (λ o. IfSome o (λ (b : Barrier). All (λ access. in_common access b.second ≡ true) (since uses))) is_last u.let_through) (has k q n lt at on)

  pub tracked : (last : Option ℕ) × IsTracked log id last
  tracked = go (find id log)
    where
      go : NoBarrier log id ⊎ Last log id → (last : Option ℕ) × IsTracked log id last
      go (inl free) = (None, free)
      go (inr l) = (Some l.place, last_of l)

-- What the host may read

module _ (log : List Item) (id : HandleId) (is_image : Bool) (uses : List Use) (touch : Touch) (u : AreUsesIn log id.0 uses) (host : touch.access ≡ host_read) (none : barrier_due id is_image uses touch ≡ None) where
  free : is_licensed is_image uses touch ≡ false
  free = none_licensed id is_image uses touch none

  abbrev moves : Bool
  moves = changes_layout (layout_now (first_layout is_image) uses) touch.layout

  abbrev written : Bool
  written = list_any (λ access. writes access || writes touch.access) (since uses)

  abbrev held : Bool
  held = option_map_or (λ barrier. not (in_common touch.access barrier.second)) (last_barrier uses) false

  unwritten : written ≡ false
  unwritten = (or_parts moves written (or_parts (moves || written) held free).0).1

  let_to_host : held ≡ false
  let_to_host = (or_parts (moves || written) held free).1

  module _ (k queue : ℕ) (n : Node) (at : slice_get log k ≡ Some (Command queue n)) (device : barrier_of n ≡ None) (on : touches_object n id.0 ≡ true) (writes_it : writes (joint_access n id.0) ≡ true) where
    -- it is not among the accesses since the last barrier
    not_since : Contains (since uses) (joint_access n id.0) → ⊥
    not_since has = both_ways written unwritten
        (list_any_at (λ access. writes access || writes touch.access) (since uses) has.0 (joint_access n id.0) has.1
        (ap (λ a. writes a || writes touch.access) has.2 ∙ or_left (writes (joint_access n id.0)) (writes touch.access) writes_it))

    -- where nothing behind it is a barrier, it is among them
    since_has : ((j q : ℕ) (a : Node) → k < j → slice_get log j ≡ Some (Command q a) → touches_object a id.0 ≡ true → barrier_of a ≡ None) → Contains (since uses) (joint_access n id.0)
    since_has later =
        since_without_reads uses [] [] (λ b h. h) (joint_access n id.0)
        (subst (λ us. Contains (fold accesses_after [] us) (joint_access n id.0)) (sym u.without_reads) (access_found log k id.0 queue n [] at device on later))

    pub made_known : IsMadeKnown log id.0 k
    made_known = go (find id.0 log)
      where
        order : (l : Last log id.0) → (k < l.place) ⊎ ((k ≡ l.place) ⊎ (l.place < k)) → IsMadeKnown log id.0 k
        order l (inl before) = record { later = l.place; queue = l.queue; node = l.node; barrier = l.barrier; behind = before; at = l.at; is = l.is; of_object = l.of; to_host = to_host }
          where
            is_last : last_barrier uses ≡ Some l.barrier
            is_last =
                sym (last_without_reads uses None)
                ∙ (ap (fold barrier_after None) u.without_reads
                ∙ last_found log l.place id.0 l.queue l.node l.barrier None l.at l.is (touches_barrier l.node id.0 l.barrier l.is ∙ or_left (eqb l.barrier.id.0 id.0) false (eq-eqb l.barrier.id.0 id.0 l.of)) l.later)

            to_host : in_common l.barrier.second host_read ≡ true
            to_host = meets_turned l.barrier.second host_read ∙ (ap (λ a. in_common a l.barrier.second) (sym host) ∙ not-false (in_common touch.access l.barrier.second) (ap (λ o. option_map_or (λ barrier. not (in_common touch.access barrier.second)) o false) (sym is_last) ∙ let_to_host))
        order l (inr (inl here)) =
            let same : Some (Command queue n) ≡ Some (Command l.queue l.node) = sym at ∙ (ap (slice_get log) here ∙ l.at) in
            let one : n ≡ l.node = cc in
            none_is_some (sym device ∙ (ap barrier_of one ∙ l.is))
        order l (inr (inr behind)) = absurd (not_since (since_has (λ j q a lt at' on'. l.later j q a (omega (arith, behind, lt)) at' on')))

        go : NoBarrier log id.0 ⊎ Last log id.0 → IsMadeKnown log id.0 k
        go (inl none_there) = absurd (not_since (since_has (λ j q a lt at' on'. none_there j q a at' on')))
        go (inr l) = order l (cases_order' k l.place)
          where
            cases_order' : (a b : ℕ) → (a < b) ⊎ ((a ≡ b) ⊎ (b < a))
            cases_order' zero zero = inr (inl refl)
            cases_order' zero (suc b) = inl (omega arith)
            cases_order' (suc a) zero = inr (inr (omega arith))
            cases_order' (suc a) (suc b) = elim (cases_order' a b) [ inl lt ↦ inl (omega (arith, lt)) | inr (inl e) ↦ inr (inl (ap suc e)) | inr (inr gt) ↦ inr (inr (omega (arith, gt))) ]
