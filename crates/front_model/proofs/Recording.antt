-- Recording nodes, and handing the pending nodes of a context to the back, keep what holds.
use Rattle.std.specs.Prelude.{fold}
use Rattle.std.specs.List.{flat_map, AllByRecursion}
use Rattle.vk_types.specs.declared.handles.HandleId.{HandleId}
use Rattle.barriers.specs.declared.tracker.Tracker.{Tracker}
use Rattle.barriers.specs.Licence.{Use}
use Rattle.barriers.specs.Trackers.{Tracks, taken}
use Rattle.barriers.specs.Logs.{uses_in}
use Rattle.barriers.specs.Recording.{handle, AreFenced}
use Rattle.front_model.specs.Stands.{is_image_of, own_uses, uses_of}
use Rattle.front_model.proofs.Tracking.{by_none, uses_with, GoesAlong, NodesMay, middle_first, last_between}
use Rattle.std.proofs.lemmas.List.{append-nil}
use Rattle.std.proofs.lemmas.List.Elements.{recursion_from_All}
use Rattle.std.proofs.Common.{◌≡◌, ◌≢◌, ℕ, ◌+◌, ◌<◌, ◌≤◌, ◌==◌, Bool, true, false, cond, max, List, [], ◌∷◌, ◌++◌, length, refl, sym, ◌∙◌, ap, subst, arith, inl, inr, length-append}
use Rattle.std.specs.Prelude.{◌⊎◌, ◌&&◌, ◌||◌, All}
use Rattle.std.specs.Option.{option_map}
use Rattle.std.proofs.lemmas.Bool.{cases_eq, cases_Bool, false_from_ne_true, cond-true, cond-false, eq-eqb, ne_eqb, and_from, and_left, and_right, or_cases, or_left}
use Rattle.std.proofs.lemmas.List.Elements.{All-nil, All-append}
use Rattle.vk_types.specs.declared.ops.Node.{Node}
use Rattle.vk_types.specs.declared.batches.Batch.{Batch}
use Rattle.vk_model.specs.Log.{IsSound, NoneEmpty, NoConflict, commands}
use Rattle.vk_model.specs.Fitting.{NodeFits}
use Rattle.resource_use.specs.Uses.{number_of}
use Rattle.submit_queue.specs.Histories.{last_number}
use Rattle.back_core.specs.Own.{Own, Enqueued, log_of, batches_of, batch_touches, last_use, next_number}
use Rattle.back_core.specs.Link.{Link, put, enqueued}
use Rattle.back_core.specs.Needs.{IsOfGroup, MayTouch}
use Rattle.front_model.specs.declared.object.Object.{Object}
use Rattle.front_model.specs.Face.{Slot, Stored, Face, nodes_touch, indexes_of, in_order}
use Rattle.front_model.specs.Stands.{Hands, Store, Staging, InHand, use_of, SlotStands, StoredStands, HandStands, IsPastUse, AreRecordable, ItemFits, Holds}
use Rattle.front_model.specs.Steps.{noted, noted_store, with_nodes, noted_hands, IsTarget, MayRecord, IsNextBatch, flushed}
use Rattle.front_model.proofs.Base.{put-same, put-other, put_at, put_holds, map_is, map_some, some_is, nodes_touch-append}
use Rattle.front_model.proofs.Uses.{log_then, number_then, use_then, use_apart}
use Rattle.front_model.proofs.Sounds.{recordable_nodes}
use Rattle.front_model.proofs.Fitted.{nodes_fit}
use Rattle.front_model.proofs.Orders.{Mutual, ChangePlaces, Split, each-append, none_left, none_right, apart_left, apart_right, apart_turned, split, before, behind, order_now, order_with, before_all, behind_all, sound_flushed, recordable_flushed, sound_recorded, recordable_recorded}
use Rattle.front_model.proofs.Standing.{SameSlot, waiting_kept, stored_kept, hand_kept, staging_stands}

-- What the laws of uses say

abbrev pub TracksAlong : Type 0
TracksAlong = (t : Tracker) (id : HandleId) (image : Bool) → GoesAlong (Tracks t id image)

abbrev pub FencedAlong : Type 0
FencedAlong = (id : HandleId) (image : Bool) → GoesAlong (AreFenced id image)

abbrev pub NodesTracked : Type 0
NodesTracked = (t : Tracker) (id : HandleId) (image : Bool) (uses : List Use) (nodes : List Node) → Tracks t id image uses →
    Tracks (fold taken t (uses_in (commands 0 nodes) id.0)) id image (uses ++ uses_in (commands 0 nodes) id.0)

-- The pending nodes become a batch

-- the law that a last use is no greater than the last number
abbrev pub BatchLow : Type 0
BatchLow = (mine : List Own) (batch : Batch) → batch.number ≡ next_number mine batch.index → (index id : ℕ) → last_use mine index id ≤ last_number (batches_of mine) index →
    last_use (mine ++ Enqueued batch ∷ []) index id ≤ last_number (batches_of (mine ++ Enqueued batch ∷ [])) index

module _ (f : Face) (hands : Hands) (s : Link) (index : ℕ) (batch : Batch) (h : Holds f hands s) (own : IsOfGroup f.group index) (next : IsNextBatch f index batch) where
  -- the last number of the index is the batch's now
  number_now : last_number (batches_of (enqueued s batch).mine) index ≡ f.last index + 1
  number_now = number_then s.mine batch index ∙ cond-true (batch.index == index) batch.number _ (eq-eqb batch.index index next.of_index) ∙ next.next

  number_other : (i : ℕ) → i ≢ index → last_number (batches_of (enqueued s batch).mine) i ≡ last_number (batches_of s.mine) i
  number_other i ne = number_then s.mine batch i ∙ cond-false (batch.index == i) batch.number _ (ne_eqb batch.index i (λ e. ne (sym e ∙ next.of_index)))

  touch_is : (j : ℕ) → batch_touches batch j ≡ nodes_touch (f.pending index) j
  touch_is j = ap (λ nodes. nodes_touch nodes j) next.all

  use_now : (j : ℕ) → last_use (enqueued s batch).mine index j ≡ use_of f s j index
  use_now j = go (cases_Bool (nodes_touch (f.pending index) j))
    where
      go : (nodes_touch (f.pending index) j ≡ true) ⊎ (nodes_touch (f.pending index) j ≡ false) → last_use (enqueued s batch).mine index j ≡ use_of f s j index
      go (inl t) =
          let low : last_use s.mine index j ≤ last_number (batches_of s.mine) index = h.low index j in
          let last : f.last index ≡ last_number (batches_of s.mine) index = h.last index own in
          let number : batch.number ≡ f.last index + 1 = next.next in
          let most : max (last_use s.mine index j) batch.number ≡ f.last index + 1 = omega (arith, low, last, number) in
          use_then s.mine batch index j
          ∙ cond-true ((batch.index == index) && batch_touches batch j) _ _ (and_from (batch.index == index) (batch_touches batch j) (eq-eqb batch.index index next.of_index) (touch_is j ∙ t))
          ∙ most ∙ sym (cond-true (nodes_touch (f.pending index) j) (f.last index + 1) (last_use s.mine index j) t)
      go (inr n) = use_apart s.mine batch index j (touch_is j ∙ n) ∙ sym (cond-false (nodes_touch (f.pending index) j) (f.last index + 1) (last_use s.mine index j) n)

  -- each handle's uses are as before
  flushed_use : (j i : ℕ) → use_of (flushed f index) (enqueued s batch) j i ≡ use_of f s j i
  flushed_use j i = go (cases_eq i index)
    where
      here : use_of (flushed f index) (enqueued s batch) j index ≡ use_of f s j index
      here = cond-false (nodes_touch (put f.pending index [] index) j) _ (last_use (enqueued s batch).mine index j) (ap (λ nodes. nodes_touch nodes j) (put-same f.pending index [])) ∙ use_now j

      go : (i ≡ index) ⊎ (i ≡ index → ⊥) → use_of (flushed f index) (enqueued s batch) j i ≡ use_of f s j i
      go (inl e) = subst (λ k. use_of (flushed f index) (enqueued s batch) j k ≡ use_of f s j k) (sym e) here
      go (inr ne) =
          ap (λ nodes. cond (nodes_touch nodes j) (put f.last index (f.last index + 1) i + 1) (last_use (enqueued s batch).mine i j)) (put-other f.pending index [] i ne)
          ∙ ap (λ n. cond (nodes_touch (f.pending i) j) (n + 1) (last_use (enqueued s batch).mine i j)) (put-other f.last index (f.last index + 1) i ne)
          ∙ ap (λ n. cond (nodes_touch (f.pending i) j) (f.last i + 1) n)
          (use_then s.mine batch i j ∙ cond-false ((batch.index == i) && batch_touches batch j) _ _ (and_left (batch.index == i) (batch_touches batch j) (ne_eqb batch.index i (λ e. ne (sym e ∙ next.of_index)))))

  log_now : log_of (enqueued s batch).mine ≡ log_of s.mine ++ commands 0 (f.pending index)
  log_now = log_then s.mine (Enqueued batch) ∙ ap (λ nodes. log_of s.mine ++ commands 0 nodes) next.all

  -- what holds of the uses of an object, in whatever order, holds of them still
  flushed_along : NodesMay → (X : List Use → Type 0) → GoesAlong X → (j : ℕ) → X (uses_of f s j) → X (uses_of (flushed f index) (enqueued s batch) j)
  flushed_along may X along j x =
      subst X (sym now)
      (middle_first X along may (flat_map (own_uses j) s.mine) j a (f.pending index) b
      (each-append NoneEmpty a b some_a some_b) (some index) some_b
      (behind_all f.pending (indexes_of f.group) index sp (NoConflict (f.pending index)) (none_right (f.pending index)) (apart_right (f.pending index)) (λ i ne. h.apart index i (λ e. ne (sym e))))
      (apart_left a b (f.pending index)
      (before_all f.pending (indexes_of f.group) index sp (λ l. NoConflict l (f.pending index)) tt (λ ys zs. apart_left ys zs (f.pending index)) (λ i ne. h.apart i index ne))
      (behind_all f.pending (indexes_of f.group) index sp (λ l. NoConflict l (f.pending index)) tt (λ ys zs. apart_left ys zs (f.pending index)) (λ i ne. h.apart i index ne)))
      (subst (λ l. X (flat_map (own_uses j) s.mine ++ uses_in (commands 0 l) j)) (order_now f.pending (indexes_of f.group) index sp) x))
    where
      sp : Split (indexes_of f.group) index
      sp = split f.group index own

      a : List Node
      a = before f.pending (indexes_of f.group) index (split f.group index own)

      b : List Node
      b = behind f.pending (indexes_of f.group) index (split f.group index own)

      some : (i : ℕ) → AllByRecursion NoneEmpty (f.pending i)
      some i = recursion_from_All NoneEmpty (f.pending i) (h.none_empty i)

      some_a : AllByRecursion NoneEmpty (before f.pending (indexes_of f.group) index (split f.group index own))
      some_a = before_all f.pending (indexes_of f.group) index (split f.group index own) (AllByRecursion NoneEmpty) tt (each-append NoneEmpty) (λ i ne. recursion_from_All NoneEmpty (f.pending i) (h.none_empty i))

      some_b : AllByRecursion NoneEmpty (behind f.pending (indexes_of f.group) index (split f.group index own))
      some_b = behind_all f.pending (indexes_of f.group) index (split f.group index own) (AllByRecursion NoneEmpty) tt (each-append NoneEmpty) (λ i ne. recursion_from_All NoneEmpty (f.pending i) (h.none_empty i))

      now : uses_of (flushed f index) (enqueued s batch) j
          ≡ (flat_map (own_uses j) s.mine ++ uses_in (commands 0 (f.pending index)) j)
          ++ uses_in (commands 0 (before f.pending (indexes_of f.group) index (split f.group index own) ++ behind f.pending (indexes_of f.group) index (split f.group index own))) j
      now =
          uses_with (flushed f index) s (Enqueued batch) j
          ∙ (ap (λ l. (flat_map (own_uses j) s.mine ++ uses_in (commands 0 l) j) ++ uses_in (commands 0 (in_order (flushed f index))) j) next.all
          ∙ ap (λ l. (flat_map (own_uses j) s.mine ++ uses_in (commands 0 (f.pending index)) j) ++ uses_in (commands 0 l) j) (order_with f.pending (indexes_of f.group) index (split f.group index own) []))

  past_now : (id i number : ℕ) → IsPastUse f s id i number → IsPastUse (flushed f index) (enqueued s batch) id i number
  past_now id i number past = go (cases_eq i index) past
    where
      number_at : i ≡ index → last_number (batches_of (enqueued s batch).mine) i ≡ f.last i + 1
      number_at e = subst (λ k. last_number (batches_of (enqueued s batch).mine) k ≡ f.last k + 1) (sym e) number_now

      go : (i ≡ index) ⊎ (i ≡ index → ⊥) → IsPastUse f s id i number → IsPastUse (flushed f index) (enqueued s batch) id i number
      go (inl e) (inl low) =
          let last : f.last i ≡ last_number (batches_of s.mine) i = h.last i (subst (IsOfGroup f.group) (sym e) own) in
          let now : last_number (batches_of (enqueued s batch).mine) i ≡ f.last i + 1 = number_at e in
          inl (omega (arith, low, last, now))
      go (inl e) (inr new) =
          let now : last_number (batches_of (enqueued s batch).mine) i ≡ f.last i + 1 = number_at e in
          let is : number ≡ f.last i + 1 = new.1 in
          inl (omega (arith, is, now))
      go (inr ne) (inl low) = let now : last_number (batches_of (enqueued s batch).mine) i ≡ last_number (batches_of s.mine) i = number_other i ne in inl (omega (arith, low, now))
      go (inr ne) (inr new) = inr (new.0, new.1 ∙ ap (λ n. n + 1) (sym (put-other f.last index (f.last index + 1) i ne)), ap (λ nodes. nodes_touch nodes id) (put-other f.pending index [] i ne) ∙ new.2)

  pub enqueued_holds : ChangePlaces → BatchLow → NodesMay → TracksAlong → FencedAlong → batch.number < 18446744073709551615 → Holds (flushed f index) hands (enqueued s batch)
  enqueued_holds change low may along fenced room =
      let g : Face = flushed f index in
      let t : Link = enqueued s batch in
      let same : (j : ℕ) → SameSlot f g s t j = λ j. record { held = refl; kind = refl; uses = flushed_use j; tracks = λ x b k. flushed_along may (Tracks x (handle j) b) (along x (handle j) b) j k } in
      record {
        sound = subst (λ l. IsSound (l ++ commands 0 (in_order g))) (sym log_now) (sound_flushed f.pending (indexes_of f.group) index (split f.group index own) (log_of s.mine) change h.apart h.none_empty h.sound);
        recordable = subst (λ l. AreRecordable (l ++ commands 0 (in_order g))) (sym log_now) (recordable_flushed f.pending (indexes_of f.group) index (split f.group index own) (log_of s.mine) h.recordable);
        fenced = λ j. flushed_along may (AreFenced (handle j) (is_image_of s j)) (fenced (handle j) (is_image_of s j)) j (h.fenced j);
        apart = λ i j ne. put_holds (λ l. NoConflict l (g.pending j)) f.pending index [] i (λ e. none_left (g.pending j))
            (λ other. put_holds (NoConflict (f.pending i)) f.pending index [] j (λ e. none_right (f.pending i)) (λ other. h.apart i j ne));
        fits = λ i. put_holds (All (NodeFits s.kinds)) f.pending index [] i (λ e. All-nil (NodeFits s.kinds)) (λ ne. h.fits i);
        fitted = subst (AllByRecursion (ItemFits s.kinds)) (sym log_now) (each-append (ItemFits s.kinds) (log_of s.mine) (commands 0 (f.pending index)) h.fitted (nodes_fit s.kinds (f.pending index) (h.fits index)));
        none_empty = λ i. put_holds (All NoneEmpty) f.pending index [] i (λ e. All-nil NoneEmpty) (λ ne. h.none_empty i);
        few = λ i. put_holds (λ (l : List Node). length l < 4294967294) f.pending index [] i (λ e. omega arith) (λ ne. h.few i);
        of_group = λ i other. put_holds (λ l. l ≡ []) f.pending index [] i (λ e. refl) (λ ne. h.of_group i other);
        owner = h.owner;
        objects = λ o b at. stored_kept f g s t h.owner h.owner (λ id kind at. at) o b (λ id has. same id) (λ id has. refl) (h.objects o b at);
        hands_stand = λ id slot at. hand_kept f g s t h.owner h.owner (λ id kind at. at) id slot (same id) refl (h.hands_stand id slot at);
        no_others = h.no_others;
        none_lost = h.none_lost;
        touched = λ i id touch. touched i id touch (cases_eq i index);
        given = λ id i uses at. past_now id i (number_of uses i) (h.given id i uses at);
        group = h.group;
        few_groups = h.few_groups;
        last = λ i of. last i of (cases_eq i index);
        room = λ i of. put_holds (λ n. n < 18446744073709551615) f.last index (f.last index + 1) i (λ e. let is : batch.number ≡ f.last index + 1 = next.next in omega (arith, is, room)) (λ ne. h.room i of);
        low = λ i id. low s.mine batch (next.next ∙ ap (λ n. n + 1) (h.last index own) ∙ ap (λ k. last_number (batches_of s.mine) k + 1) (sym next.of_index)) i id (h.low i id);
        foreign = λ i id far. foreign i id far;
      }
    where
      foreign : (i id : ℕ) → (IsOfGroup f.group i → ⊥) → last_use (s.mine ++ Enqueued batch ∷ []) i id ≡ 0
      foreign i id far =
          let other : batch.index ≢ i = λ e. far (subst (IsOfGroup f.group) (sym next.of_index ∙ e) own) in
          use_then s.mine batch i id ∙ cond-false ((batch.index == i) && batch_touches batch id) _ _ (and_left (batch.index == i) (batch_touches batch id) (ne_eqb batch.index i other)) ∙ h.foreign i id far

      touched : (i id : ℕ) → nodes_touch (put f.pending index [] i) id ≡ true → (i ≡ index) ⊎ (i ≡ index → ⊥) → MayTouch s i (put f.last index (f.last index + 1) i + 1) id
      touched i id touch (inl e) = let no : false ≡ true = sym (ap (λ nodes. nodes_touch nodes id) (put_at f.pending index [] i e)) ∙ touch in cc
      touched i id touch (inr ne) =
          subst (λ n. MayTouch s i (n + 1) id) (sym (put-other f.last index (f.last index + 1) i ne)) (h.touched i id (sym (ap (λ nodes. nodes_touch nodes id) (put-other f.pending index [] i ne)) ∙ touch))

      last : (i : ℕ) → IsOfGroup f.group i → (i ≡ index) ⊎ (i ≡ index → ⊥) → put f.last index (f.last index + 1) i ≡ last_number (batches_of (enqueued s batch).mine) i
      last i of (inl e) = put_at f.last index (f.last index + 1) i e ∙ sym number_now ∙ ap (last_number (batches_of (enqueued s batch).mine)) (sym e)
      last i of (inr ne) = put-other f.last index (f.last index + 1) i ne ∙ h.last i of ∙ sym (number_other i ne)

-- Nodes are recorded

module _ (f : Face) (hands : Hands) (s : Link) (index : ℕ) (nodes : List Node) (h : Holds f hands s) (may : MayRecord f hands s index nodes) (turn : Mutual) (places : NodesMay) (along : TracksAlong) (tracked : NodesTracked) where
  -- what holds of the uses of an object with those by the nodes behind them, in whatever order, holds of them then
  recorded_along : (X : List Use → Type 0) → GoesAlong X → (j : ℕ) → X (uses_of f s j ++ uses_in (commands 0 nodes) j) → X (uses_of (with_nodes f index nodes) s j)
  recorded_along X goes j x =
      subst (λ l. X (flat_map (own_uses j) s.mine ++ uses_in (commands 0 l) j)) (sym (order_with f.pending (indexes_of f.group) index (split f.group index may.of_group) (f.pending index ++ nodes)))
      (last_between X goes places (flat_map (own_uses j) s.mine) j (before f.pending (indexes_of f.group) index (split f.group index may.of_group)) (f.pending index) (behind f.pending (indexes_of f.group) index (split f.group index may.of_group)) nodes
      (behind_all f.pending (indexes_of f.group) index (split f.group index may.of_group) (AllByRecursion NoneEmpty) tt (each-append NoneEmpty) (λ i ne. recursion_from_All NoneEmpty (f.pending i) (h.none_empty i)))
      (recursion_from_All NoneEmpty nodes may.none_empty)
      (behind_all f.pending (indexes_of f.group) index (split f.group index may.of_group) (λ l. NoConflict l nodes) tt (λ ys zs. apart_left ys zs nodes) (λ i ne. apart_turned turn nodes (f.pending i) (may.apart i ne)))
      (subst (λ l. X ((flat_map (own_uses j) s.mine ++ uses_in (commands 0 l) j) ++ uses_in (commands 0 nodes) j)) (order_now f.pending (indexes_of f.group) index (split f.group index may.of_group)) x))

  -- what they touch is held
  target_held : (id : ℕ) → IsTarget f hands id → s.held id ≡ true
  target_held id (inl hand) = let slot = some_is (hands id) hand in (h.hands_stand id slot.0 slot.1).stands.held
  target_held id (inr (o, b, at, is)) = ap s.held (sym is) ∙ (h.objects o b at).slot.held

  -- and is no staging buffer
  staging_apart : (o : Object) (place id : ℕ) → h.owner id ≡ Staging o place → nodes_touch nodes id ≡ false
  staging_apart o place id own = false_from_ne_true (nodes_touch nodes id) (λ t. go (may.targets id t))
    where
      go : IsTarget f hands id → ⊥
      go (inl hand) =
          let slot = some_is (hands id) hand in
          let k : InHand ≡ Staging o place = sym (h.hands_stand id slot.0 slot.1).owned ∙ own in
          cc
      go (inr (q, b, at, is)) =
          let k : Store q ≡ Staging o place = sym (h.objects q b at).owned ∙ ap h.owner is ∙ own in
          cc

  touch_now : (j : ℕ) → nodes_touch ((with_nodes f index nodes).pending index) j ≡ (nodes_touch (f.pending index) j || nodes_touch nodes j)
  touch_now j = ap (λ l. nodes_touch l j) (put-same f.pending index (f.pending index ++ nodes)) ∙ nodes_touch-append (f.pending index) nodes j

  touch_other : (j i : ℕ) → i ≢ index → nodes_touch ((with_nodes f index nodes).pending i) j ≡ nodes_touch (f.pending i) j
  touch_other j i ne = ap (λ l. nodes_touch l j) (put-other f.pending index (f.pending index ++ nodes) i ne)

  -- a use that was noted is the one that the handle has then
  noted_use : (j i used : ℕ) → used ≡ use_of f s j i → cond ((i == index) && nodes_touch nodes j) (f.last index + 1) used ≡ use_of (with_nodes f index nodes) s j i
  noted_use j i used is = go (cases_eq i index)
    where
      by_tests : (old new : Bool) (n m : ℕ) → cond new n (cond old n m) ≡ cond (old || new) n m
      by_tests true true n m = refl
      by_tests true false n m = refl
      by_tests false true n m = refl
      by_tests false false n m = refl

      here : used ≡ use_of f s j index → cond ((index == index) && nodes_touch nodes j) (f.last index + 1) used ≡ use_of (with_nodes f index nodes) s j index
      here e =
          ap (λ b. cond (b && nodes_touch nodes j) (f.last index + 1) used) (eq-eqb index index refl)
          ∙ ap (cond (nodes_touch nodes j) (f.last index + 1)) e
          ∙ by_tests (nodes_touch (f.pending index) j) (nodes_touch nodes j) (f.last index + 1) (last_use s.mine index j)
          ∙ ap (λ b. cond b (f.last index + 1) (last_use s.mine index j)) (sym (touch_now j))

      go : (i ≡ index) ⊎ (i ≡ index → ⊥) → cond ((i == index) && nodes_touch nodes j) (f.last index + 1) used ≡ use_of (with_nodes f index nodes) s j i
      go (inl e) = subst (λ k. cond ((k == index) && nodes_touch nodes j) (f.last index + 1) used ≡ use_of (with_nodes f index nodes) s j k) (sym e) (here (is ∙ ap (use_of f s j) e))
      go (inr ne) =
          cond-false ((i == index) && nodes_touch nodes j) (f.last index + 1) used (and_left (i == index) (nodes_touch nodes j) (ne_eqb i index ne))
          ∙ is ∙ ap (λ b. cond b (f.last i + 1) (last_use s.mine i j)) (sym (touch_other j i ne))

  noted_slot : (j : ℕ) (slot : Slot) → SlotStands f s j slot → SlotStands (with_nodes f index nodes) s j (noted index (f.last index + 1) nodes j slot)
  noted_slot j slot stands = record {
    held = stands.held;
    kind = stands.kind;
    used = λ i. noted_use j i (slot.used i) (stands.used i);
    tracked =
        let tracker : Tracker = fold taken slot.tracker (uses_in (commands 0 nodes) j) in
        recorded_along (Tracks tracker (handle j) (is_image_of s j)) (along tracker (handle j) (is_image_of s j)) j (tracked slot.tracker (handle j) (is_image_of s j) (uses_of f s j) nodes stands.tracked);
  }

  -- a handle that they do not touch is as before
  apart_slot : (j : ℕ) → nodes_touch nodes j ≡ false → SameSlot f (with_nodes f index nodes) s s j
  apart_slot j none = record {
    held = refl;
    kind = refl;
    uses = λ i. sym (noted_use j i (use_of f s j i) refl) ∙ cond-false ((i == index) && nodes_touch nodes j) (f.last index + 1) (use_of f s j i) (and_right (i == index) (nodes_touch nodes j) none);
    tracks = λ x b k. recorded_along (Tracks x (handle j) b) (along x (handle j) b) j
        (subst (Tracks x (handle j) b) (sym (append-nil (uses_of f s j)) ∙ ap (λ us. uses_of f s j ++ us) (sym (by_none nodes j none))) k);
  }

  noted_stored : (o : Object) (b : Stored) → StoredStands f s h.owner o b → StoredStands (with_nodes f index nodes) s h.owner o (noted_store index (f.last index + 1) nodes b)
  noted_stored o b u = record {
    slot = noted_slot b.handle b.slot u.slot;
    owned = u.owned;
    waiting = λ place w at. waiting_kept f (with_nodes f index nodes) s s h.owner h.owner (λ i kind at. at) o b.handle place place w
        (λ id is. apart_slot id (staging_apart o place id (staging_stands f s h.owner o b.handle place id w is (u.waiting place w at)).owned)) (λ id is of. of) (u.waiting place w at);
  }

  touched_now : (i id : ℕ) → nodes_touch ((with_nodes f index nodes).pending i) id ≡ true → (i ≡ index) ⊎ (i ≡ index → ⊥) → MayTouch s i (f.last i + 1) id
  touched_now i id touch (inl e) = elim (or_cases (nodes_touch (f.pending i) id) (nodes_touch nodes id) (either ∙ touch)) [ inl old ↦ h.touched i id old | inr new ↦ inl (target_held id (may.targets id new)) ]
    where
      either : (nodes_touch (f.pending i) id || nodes_touch nodes id) ≡ nodes_touch ((with_nodes f index nodes).pending i) id
      either = subst (λ k. (nodes_touch (f.pending k) id || nodes_touch nodes id) ≡ nodes_touch ((with_nodes f index nodes).pending k) id) (sym e) (sym (touch_now id))
  touched_now i id touch (inr ne) = h.touched i id (sym (touch_other id i ne) ∙ touch)

  touch_more : (i id : ℕ) → nodes_touch (f.pending i) id ≡ true → (i ≡ index) ⊎ (i ≡ index → ⊥) → nodes_touch ((with_nodes f index nodes).pending i) id ≡ true
  touch_more i id touch (inl e) = subst (λ k. nodes_touch ((with_nodes f index nodes).pending k) id ≡ true) (sym e) (touch_now id ∙ or_left (nodes_touch (f.pending index) id) (nodes_touch nodes id) (ap (λ k. nodes_touch (f.pending k) id) (sym e) ∙ touch))
  touch_more i id touch (inr ne) = touch_other id i ne ∙ touch

  pub recorded_holds : ChangePlaces → FencedAlong → Holds (with_nodes f index nodes) (noted_hands hands index (f.last index + 1) nodes) s
  recorded_holds change fenced =
      let g : Face = with_nodes f index nodes in
      let both : List Node = f.pending index ++ nodes in
      record {
        sound = sound_recorded f.pending (indexes_of f.group) index (split f.group index may.of_group) (log_of s.mine) change turn h.none_empty nodes may.none_empty may.apart may.ordered.sound;
        recordable = recordable_recorded f.pending (indexes_of f.group) index (split f.group index may.of_group) (log_of s.mine) nodes (recordable_nodes nodes may.recordable) h.recordable;
        fenced = λ j. recorded_along (AreFenced (handle j) (is_image_of s j)) (fenced (handle j) (is_image_of s j)) j (may.ordered.fenced j);
        apart = λ i j ne. put_holds (λ l. NoConflict l (g.pending j)) f.pending index both i
            (λ e. put_holds (NoConflict both) f.pending index both j (λ e'. absurd (ne (e ∙ sym e')))
            (λ ne'. apart_left (f.pending index) nodes (f.pending j) (h.apart index j (λ e'. ne' (sym e'))) (may.apart j ne')))
            (λ ne'. put_holds (NoConflict (f.pending i)) f.pending index both j
            (λ e. apart_right (f.pending i) (f.pending index) nodes (h.apart i index ne') (apart_turned turn nodes (f.pending i) (may.apart i ne')))
            (λ other. h.apart i j ne));
        fits = λ i. put_holds (All (NodeFits s.kinds)) f.pending index both i (λ e. All-append (NodeFits s.kinds) (f.pending index) nodes (h.fits index) may.fits) (λ ne. h.fits i);
        fitted = h.fitted;
        none_empty = λ i. put_holds (All NoneEmpty) f.pending index both i (λ e. All-append NoneEmpty (f.pending index) nodes (h.none_empty index) may.none_empty) (λ ne. h.none_empty i);
        few = λ i. put_holds (λ (l : List Node). length l < 4294967294) f.pending index both i
            (λ e. let sum : length both ≡ length (f.pending index) + length nodes = length-append (f.pending index) nodes in let few : length (f.pending index) + length nodes < 4294967294 = may.few in omega (arith, sum, few)) (λ ne. h.few i);
        of_group = λ i other. put_holds (λ l. l ≡ []) f.pending index both i (λ e. absurd (other (subst (IsOfGroup f.group) (sym e) may.of_group))) (λ ne. h.of_group i other);
        owner = h.owner;
        objects = λ o c at. let from = map_is (noted_store index (f.last index + 1) nodes) (f.objects o) c at in
            subst (StoredStands g s h.owner o) from.2 (noted_stored o from.0 (h.objects o from.0 from.1));
        hands_stand = λ id slot at. let from = map_is (noted index (f.last index + 1) nodes id) (hands id) slot at in
            let u = h.hands_stand id from.0 from.1 in
            subst (HandStands g s h.owner id) from.2 (record { stands = noted_slot id from.0 u.stands; owned = u.owned });
        no_others = λ id held. elim (h.no_others id held) [
          | inl hand ↦ inl (map_some (noted index (f.last index + 1) nodes id) (hands id) hand)
          | inr has ↦ inr (has.0, noted_store index (f.last index + 1) nodes has.1, ap (option_map (noted_store index (f.last index + 1) nodes)) has.2, has.3)
        ];
        none_lost = h.none_lost;
        touched = λ i id touch. touched_now i id touch (cases_eq i index);
        given = λ id i uses at. elim (h.given id i uses at) [ inl low ↦ inl low | inr new ↦ inr (new.0, new.1, touch_more i id new.2 (cases_eq i index)) ];
        group = h.group;
        few_groups = h.few_groups;
        last = h.last;
        room = h.room;
        low = h.low;
        foreign = h.foreign;
      }
