-- The steps of the link keep what holds: beginning, making, writing, reading, learning and giving.
use Rattle.front_model.specs.Face.{Waiting}
use Rattle.front_model.proofs.Standing.{slot_kept, waiting_kept, staging_stands}
use Rattle.std.specs.Prelude.{if◌then◌else◌}
use Rattle.std.specs.Prelude.{unwrap_or, ◌==◌}
use Rattle.std.specs.List.{flat_map, AllByRecursion}
use Rattle.std.specs.Option.{option_map}
use Rattle.vk_types.specs.declared.handles.HandleId.{HandleId}
use Rattle.vk_types.specs.declared.accesses.Access.{Access}
use Rattle.vk_types.specs.declared.regions.Touch.{Touch}
use Rattle.vk_types.specs.Accesses.{host_read, no_access}
use Rattle.barriers.specs.declared.tracker.Tracker.{Tracker}
use Rattle.barriers.specs.Licence.{Use, Accessed, Fenced, barrier_due}
use Rattle.barriers.specs.Trackers.{Tracks, new_tracker, taken}
use Rattle.barriers.specs.Recording.{handle, AreFenced}
use Rattle.front_model.specs.declared.object.Object.{Object}
use Rattle.object_helper.specs.Objects.{is_image}
use Rattle.front_model.specs.Face.{Stored, indexes_of}
use Rattle.front_model.specs.Stands.{is_image_of, own_uses, uses_of, host_touch, IsKnownToHost, SlotStands, StoredStands, WaitingStands, HasHandle, Staging, Store}
use Rattle.front_model.specs.Steps.{IsTarget, heard, heard_store, with_read, heard_hands}
use Rattle.front_model.proofs.Tracking.{by_untouched, uses_without, uses_untouched, uses_read, uses_read_other}
use Rattle.front_model.proofs.Base.{map_is, map_some, some_is, nodes_touch-append}
use Rattle.std.proofs.lemmas.Bool.{eq-eqb, eqb-true, or_from}
use Rattle.std.proofs.Common.{Bool}
use Rattle.vk_types.specs.declared.handles.Kind.TheVariants as kinds
use Rattle.std.proofs.Common.{◌≡◌, ◌≢◌, ℕ, ◌+◌, ◌*◌, ◌<◌, ◌≤◌, true, false, List, [], ◌∷◌, ◌++◌, refl, sym, ◌∙◌, ap, subst, arith, inl, inr, append_assoc, append-nil}
use Rattle.std.specs.Prelude.{◌⊎◌, Option, Some, None, IsSome, if◌then◌else◌}
use Rattle.std.proofs.lemmas.Bool.{cases_Bool, cases_eq, cases_lt, both_ways, false_from_ne_true, cond-true, cond-false}
use Rattle.std.proofs.lemmas.Option.{none-some, same_Some}
use Rattle.std.proofs.lemmas.List.Elements.{All-nil, All-weaker}
use Rattle.vk_types.specs.declared.handles.Kind.{Kind}
use Rattle.vk_types.specs.declared.batches.QueueSerial.{QueueSerial}
use Rattle.vk_model.specs.Log.{Command, HostWrite, IsSound, NoneEmpty, commands}
use Rattle.vk_model.specs.Fitting.{NodeFits}
use Rattle.resource_use.specs.Uses.{number_of}
use Rattle.submit_queue.specs.Histories.{last_number}
use Rattle.back_core.specs.Own.{Own, HostWrote, HostRead, log_by, log_of, batch_by, batches_of, last_use}
use Rattle.back_core.specs.Link.{Link, Asked, IsNew, put, created, wrote, fetched, gave}
use Rattle.back_core.specs.Needs.{IsOfGroup, IsFresh, MayTouch}
use Rattle.back_core.specs.Answers.{Learns}
use Rattle.front_model.specs.Face.{Slot, Face, nodes_touch, in_order, whole_log}
use Rattle.front_model.specs.Stands.{Hands, no_hands, Owner, InHand, use_of, HandStands, IsPastUse, AreRecordable, ItemFits, Holds, new_face}
use Rattle.front_model.specs.Steps.{fresh_slot, AreUses}
use Rattle.front_model.proofs.Base.{put-same, put-other, put_at, put_is, put-some, put-true, is_some_of}
use Rattle.front_model.proofs.Uses.{log_then, use_stays, number_stays, use_none}
use Rattle.front_model.proofs.Sounds.{sound_with_write, recordable_left, recordable_right, recordable-append, recordable_write}
use Rattle.front_model.proofs.Orders.{each-append}
use Rattle.front_model.proofs.Fitted.{items_fit_more}
use Rattle.front_model.proofs.Standing.{KindsGrow, fits_more, SameSlot, stored_kept, hand_kept, handle_held, not_in_hand}

-- the indexes of a group are decided
pub own_or_not : (group index : ℕ) → IsOfGroup group index ⊎ (IsOfGroup group index → ⊥)
own_or_not group index = elim (cases_lt index (8 * group)) [
  | inl below ↦ inr (λ own. let low : 8 * group ≤ index = own.0 in absurd (omega arith))
  | inr low ↦ elim (cases_lt index (8 * group + 8)) [
    | inl high ↦ inl (low, high)
    | inr above ↦ inr (λ own. let high : index < 8 * group + 8 = own.1 in absurd (omega arith))
  ]
]

-- what no context touches is touched by none of them
pub order_untouched : (f : Face) (id : ℕ) → ((index : ℕ) → nodes_touch (f.pending index) id ≡ false) → (xs : List ℕ) → nodes_touch (flat_map f.pending xs) id ≡ false
order_untouched f id none [] = refl
order_untouched f id none (i ∷ xs) =
    nodes_touch-append (f.pending i) (flat_map f.pending xs) id
    ∙ or_from (nodes_touch (f.pending i) id) (nodes_touch (flat_map f.pending xs) id) (none i) (order_untouched f id none xs)

-- No use

no_fence : {X : Type 0} (before back : List X) (x : X) → [] ≡ before ++ x ∷ back → ⊥
no_fence [] back x e = cc
no_fence (b ∷ before) back x e = cc

none_fenced : (id : HandleId) (image : Bool) → AreFenced id image []
none_fenced id image = record { licensed = λ before back barrier e. absurd (no_fence before back (Fenced barrier) e); some = tt; let_through = tt }

-- Writes and reads by the host

-- the list has one item more, which is no batch
abbrev with_item : Link → Own → Link
with_item s x = record s { mine = s.mine ++ x ∷ [] }

host_holds : (f : Face) (hands : Hands) (s : Link) (x : Own) → batch_by x ≡ [] → ((j : ℕ) → own_uses j x ≡ []) → AllByRecursion (ItemFits s.kinds) (log_by x) → IsSound (whole_log f (with_item s x)) → AreRecordable (whole_log f (with_item s x)) → Holds f hands s → Holds f hands (with_item s x)
host_holds f hands s x none unused fit sound recordable h =
    let t : Link = with_item s x in
    let same : (j : ℕ) → SameSlot f f s t j = λ j. record {
      held = refl;
      kind = refl;
      uses = λ index. ap (λ n. if nodes_touch (f.pending index) j then f.last index + 1 else n) (use_stays s.mine x none index j);
      tracks = λ y b k. subst (Tracks y (handle j) b) (sym (uses_without f s x j (unused j))) k;
    } in
    record {
      sound = sound;
      recordable = recordable;
      fenced = λ j. subst (AreFenced (handle j) (is_image_of s j)) (sym (uses_without f s x j (unused j))) (h.fenced j);
      apart = h.apart;
      fits = h.fits;
      fitted = subst (AllByRecursion (ItemFits s.kinds)) (sym (log_then s.mine x)) (each-append (ItemFits s.kinds) (log_of s.mine) (log_by x) h.fitted fit);
      none_empty = h.none_empty;
      few = h.few;
      of_group = h.of_group;
      owner = h.owner;
      objects = λ o b at. stored_kept f f s t h.owner h.owner (λ id kind at. at) o b (λ id has. same id) (λ id has. refl) (h.objects o b at);
      hands_stand = λ id slot at. hand_kept f f s t h.owner h.owner (λ id kind at. at) id slot (same id) refl (h.hands_stand id slot at);
      no_others = h.no_others;
      none_lost = h.none_lost;
      touched = h.touched;
      given = λ id index uses at. let e = number_stays s.mine x none index in rw e (h.given id index uses at);
      group = h.group;
      few_groups = h.few_groups;
      last = λ index own. h.last index own ∙ sym (number_stays s.mine x none index);
      room = h.room;
      low = λ index id. let e = use_stays s.mine x none index id in let n = number_stays s.mine x none index in let l : last_use s.mine index id ≤ last_number (batches_of s.mine) index = h.low index id in omega (arith, e, n, l);
      foreign = λ index id far. use_stays s.mine x none index id ∙ h.foreign index id far;
    }

pub wrote_holds : (f : Face) (hands : Hands) (s : Link) (id at : ℕ) (bytes : List ℕ) → Holds f hands s → (len : ℕ) → s.kinds id ≡ Some (kinds.Buffer len) → Holds f hands (wrote s id at bytes)
wrote_holds f hands s id at bytes h len made =
    let x : Own = HostWrote id at bytes in
    let is : whole_log f (with_item s x) ≡ log_of s.mine ++ HostWrite id at bytes ∷ commands 0 (in_order f)
    = ap (λ l. l ++ commands 0 (in_order f)) (log_then s.mine x) ∙ append_assoc (log_of s.mine) (HostWrite id at bytes ∷ []) (commands 0 (in_order f)) in
    host_holds f hands s x refl (λ j. refl) ((len, made), tt)
    (subst IsSound (sym is) (sound_with_write id at bytes (log_of s.mine) (commands 0 (in_order f)) h.sound))
    (subst AreRecordable (sym is) (recordable-append (log_of s.mine) (HostWrite id at bytes ∷ commands 0 (in_order f))
    (recordable_left (log_of s.mine) (commands 0 (in_order f)) h.recordable)
    (recordable-append (HostWrite id at bytes ∷ []) (commands 0 (in_order f)) (recordable_write id at bytes) (recordable_right (log_of s.mine) (commands 0 (in_order f)) h.recordable))))
    h

-- what the laws of reads by the host say
abbrev pub ReadFenced : Type 0
ReadFenced = (id : HandleId) (image : Bool) (uses : List Use) (touch : Touch) → AreFenced id image uses → touch.access ≡ host_read →
    barrier_due id image uses touch ≡ None → AreFenced id image (uses ++ Accessed host_read ∷ [])

abbrev pub ReadTracked : Type 0
ReadTracked = (t : Tracker) (id : HandleId) (image : Bool) (uses : List Use) (access : Access) → Tracks t id image uses →
    access ≢ no_access → Tracks (taken t (Accessed access)) id image (uses ++ Accessed access ∷ [])

host_some : host_read ≢ no_access
host_some e = let n : 16 ≡ 0 = ap (λ a. a.0) e in absurd (omega (arith, n))

module _ (f : Face) (hands : Hands) (s : Link) (id at : ℕ) (bytes : List ℕ) (h : Holds f hands s) (target : IsTarget f hands id) (untouched : (index : ℕ) → nodes_touch (f.pending index) id ≡ false) (known : IsKnownToHost f s id) where
  abbrev x : Own
  x = HostRead id at bytes

  abbrev t : Link
  t = fetched s id at bytes

  abbrev g : Face
  g = with_read f id

  none_pending : nodes_touch (in_order f) id ≡ false
  none_pending = order_untouched f id untouched (indexes_of f.group)

  read_now : uses_of g t id ≡ uses_of f s id ++ Accessed host_read ∷ []
  read_now = uses_read f s id at bytes none_pending

  use_kept : (j index : ℕ) → use_of g t j index ≡ use_of f s j index
  use_kept j index = ap (λ n. if nodes_touch (f.pending index) j then f.last index + 1 else n) (use_stays s.mine (HostRead id at bytes) refl index j)

  same_other : (j : ℕ) → j ≢ id → SameSlot f g s t j
  same_other j ne = record {
    held = refl;
    kind = refl;
    uses = use_kept j;
    tracks = λ y b k. subst (Tracks y (handle j) b) (sym (uses_read_other f s id at bytes j ne)) k;
  }

  heard_slot : ReadTracked → (slot : Slot) → SlotStands f s id slot → SlotStands g t id (heard slot)
  heard_slot tracked slot u = record {
    held = u.held;
    kind = u.kind;
    used = λ index. u.used index ∙ sym (use_kept id index);
    tracked = subst (Tracks (taken slot.tracker (Accessed host_read)) (handle id) (is_image_of s id)) (sym read_now) (tracked slot.tracker (handle id) (is_image_of s id) (uses_of f s id) host_read u.tracked host_some);
  }

  not_staging : (o : Object) (place : ℕ) → h.owner id ≢ Staging o place
  not_staging o place of = go target
    where
      go : IsTarget f hands id → ⊥
      go (inl hand) = let slot = some_is (hands id) hand in let k : InHand ≡ Staging o place = sym (h.hands_stand id slot.0 slot.1).owned ∙ of in cc
      go (inr (q, b, is, same)) = let k : Store q ≡ Staging o place = sym (h.objects q b is).owned ∙ ap h.owner same ∙ of in cc

  waiting_heard : (o : Object) (handle' place : ℕ) (w : Waiting) → WaitingStands f s h.owner o handle' place w → WaitingStands g t h.owner o handle' place w
  waiting_heard o handle' place w u = waiting_kept f g s t h.owner h.owner (λ i kind at. at) o handle' place place w
      (λ j is. same_other j (λ e. not_staging o place (ap h.owner (sym e) ∙ (staging_stands f s h.owner o handle' place j w is u).owned))) (λ j is of. of) u

  heard_stored : ReadTracked → (o : Object) (b : Stored) → StoredStands f s h.owner o b → StoredStands g t h.owner o (heard_store id b)
  heard_stored tracked o b u = go (b.handle == id) refl
    where
      go : (e : Bool) → (b.handle == id) ≡ e → StoredStands g t h.owner o (if e then (record b { slot = heard b.slot }) else b)
      go true e = record {
        slot = let same : b.handle ≡ id = eqb-true b.handle id e in subst (λ i. SlotStands g t i (heard b.slot)) (sym same) (heard_slot tracked b.slot (subst (λ i. SlotStands f s i b.slot) same u.slot));
        owned = u.owned;
        waiting = λ place w at. waiting_heard o b.handle place w (u.waiting place w at);
      }
      go false e = record {
        slot = slot_kept f g s t b.handle b.slot (same_other b.handle (λ same. both_ways (b.handle == id) e (eq-eqb b.handle id same))) u.slot;
        owned = u.owned;
        waiting = λ place w at. waiting_heard o b.handle place w (u.waiting place w at);
      }

  heard_hand : ReadTracked → (j : ℕ) (slot : Slot) → heard_hands hands id j ≡ Some slot → HandStands g t h.owner j slot
  heard_hand tracked j slot at' = go (j == id) refl at'
    where
      go : (e : Bool) → (j == id) ≡ e → (if e then option_map heard (hands j) else hands j) ≡ Some slot → HandStands g t h.owner j slot
      go true e is =
          let from = map_is heard (hands j) slot is in
          let u = h.hands_stand j from.0 from.1 in
          let same : j ≡ id = eqb-true j id e in
          subst (HandStands g t h.owner j) from.2 (record { stands = subst (λ i. SlotStands g t i (heard from.0)) (sym same) (heard_slot tracked from.0 (subst (λ i. SlotStands f s i from.0) same u.stands)); owned = u.owned })
      go false e is = let u = h.hands_stand j slot is in hand_kept f g s t h.owner h.owner (λ i kind at. at) j slot (same_other j (λ same. both_ways (j == id) e (eq-eqb j id same))) refl u

  hand_there : (j : ℕ) → IsSome (hands j) → IsSome (heard_hands hands id j)
  hand_there j some = go (j == id)
    where
      go : (e : Bool) → IsSome (if e then option_map heard (hands j) else hands j)
      go true = map_some heard (hands j) some
      go false = some

  handle_there : (b : Stored) (j : ℕ) → HasHandle b j → HasHandle (heard_store id b) j
  handle_there b j has = go (b.handle == id)
    where
      go : (e : Bool) → HasHandle (if e then (record b { slot = heard b.slot }) else b) j
      go true = has
      go false = has

  pub fetched_holds : ReadFenced → ReadTracked → Holds (with_read f id) (heard_hands hands id) (fetched s id at bytes)
  fetched_holds fenced tracked =
      let is : whole_log f t ≡ whole_log f s = ap (λ l. l ++ commands 0 (in_order f)) (log_then s.mine (HostRead id at bytes) ∙ append-nil (log_of s.mine)) in
      record {
        sound = subst IsSound (sym is) h.sound;
        recordable = subst AreRecordable (sym is) h.recordable;
        fenced = λ j. elim (cases_eq j id) [
          | inl e ↦ subst (λ i. AreFenced (handle i) (is_image_of s i) (uses_of g t i)) (sym e) (subst (AreFenced (handle id) (is_image_of s id)) (sym read_now) (fenced (handle id) (is_image_of s id) (uses_of f s id) (host_touch id) (h.fenced id) refl known))
          | inr ne ↦ subst (AreFenced (handle j) (is_image_of s j)) (sym (uses_read_other f s id at bytes j ne)) (h.fenced j)
        ];
        apart = h.apart;
        fits = h.fits;
        fitted = subst (AllByRecursion (ItemFits s.kinds)) (sym (log_then s.mine (HostRead id at bytes) ∙ append-nil (log_of s.mine))) h.fitted;
        none_empty = h.none_empty;
        few = h.few;
        of_group = h.of_group;
        owner = h.owner;
        objects = λ o c at'. let from = map_is (heard_store id) (f.objects o) c at' in subst (StoredStands g t h.owner o) from.2 (heard_stored tracked o from.0 (h.objects o from.0 from.1));
        hands_stand = heard_hand tracked;
        no_others = λ j held. elim (h.no_others j held) [
          | inl hand ↦ inl (hand_there j hand)
          | inr has ↦ inr (has.0, heard_store id has.1, ap (option_map (heard_store id)) has.2, handle_there has.1 j has.3)
        ];
        none_lost = h.none_lost;
        touched = h.touched;
        given = λ j index uses at'. let e = number_stays s.mine (HostRead id at bytes) refl index in rw e (h.given j index uses at');
        group = h.group;
        few_groups = h.few_groups;
        last = λ index own. h.last index own ∙ sym (number_stays s.mine (HostRead id at bytes) refl index);
        room = h.room;
        low = λ index j. let e = use_stays s.mine (HostRead id at bytes) refl index j in let n = number_stays s.mine (HostRead id at bytes) refl index in let l : last_use s.mine index j ≤ last_number (batches_of s.mine) index = h.low index j in omega (arith, e, n, l);
        foreign = λ index j far. use_stays s.mine (HostRead id at bytes) refl index j ∙ h.foreign index j far;
      }

-- The group learns how far the back is

-- what is known and told may be anything
abbrev knowing : Link → (ℕ → ℕ) → Option (ℕ → ℕ) → Option Asked → Link
knowing s d n a = record s { done = d; now = n; asked = a }

knowing_holds : (f : Face) (hands : Hands) (s : Link) (d : ℕ → ℕ) (n : Option (ℕ → ℕ)) (a : Option Asked) → Holds f hands s → Holds f hands (knowing s d n a)
knowing_holds f hands s d n a h =
    let t : Link = knowing s d n a in
    let same : (id : ℕ) → SameSlot f f s t id = λ id. record { held = refl; kind = refl; uses = λ index. refl; tracks = λ x b k. k } in
    record {
      sound = h.sound;
      recordable = h.recordable;
      fenced = h.fenced;
      apart = h.apart;
      fits = h.fits;
      fitted = h.fitted;
      none_empty = h.none_empty;
      few = h.few;
      of_group = h.of_group;
      owner = h.owner;
      objects = λ o b at. stored_kept f f s t h.owner h.owner (λ id kind at. at) o b (λ id has. same id) (λ id has. refl) (h.objects o b at);
      hands_stand = λ id slot at. hand_kept f f s t h.owner h.owner (λ id kind at. at) id slot (same id) refl (h.hands_stand id slot at);
      no_others = h.no_others;
      none_lost = h.none_lost;
      touched = h.touched;
      given = h.given;
      group = h.group;
      few_groups = h.few_groups;
      last = h.last;
      room = h.room;
      low = h.low;
      foreign = h.foreign;
    }

pub learned_holds : (f : Face) (hands : Hands) (s t : Link) → Holds f hands s → Learns s t → Holds f hands t
learned_holds f hands s t h learns = subst (Holds f hands) (sym learns.rest) (knowing_holds f hands s t.done t.now t.asked h)

-- A group begins

pub new_holds : (s : Link) (group : ℕ) → group < 8 → IsNew s group → Holds (new_face group) no_hands s
new_holds s group few new =
    let mine : s.mine ≡ [] = new.empty in
    let log : log_of s.mine ≡ [] = ap log_of mine in
    record {
      sound = subst (λ l. IsSound (l ++ [])) (sym log) no_log;
      recordable = subst (λ l. AreRecordable (l ++ [])) (sym log) (λ k q n at. absurd (none-some (Command q n) at));
      fenced = λ id. subst (λ m. AreFenced (handle id) (is_image_of s id) (flat_map (own_uses id) m ++ [])) (sym mine) (none_fenced (handle id) (is_image_of s id));
      apart = λ i j ne. tt;
      fits = λ index. All-nil (NodeFits s.kinds);
      fitted = subst (AllByRecursion (ItemFits s.kinds)) (sym log) tt;
      none_empty = λ index. All-nil NoneEmpty;
      few = λ index. omega arith;
      of_group = λ index other. refl;
      owner = λ id. InHand;
      objects = λ o b at. absurd (none-some b at);
      hands_stand = λ id slot at. absurd (none-some slot at);
      no_others = λ id held. absurd (both_ways (s.held id) (ap (λ k. k id) new.none_held) held);
      none_lost = λ id made. let no : false ≡ true = subst IsSome (ap (λ k. k id) new.none_made) made in cc;
      touched = λ index id t. let no : false ≡ true = t in cc;
      given = λ id index uses at. absurd (none-some uses (sym (ap (λ k. k id) new.none_given) ∙ at));
      group = new.of_group;
      few_groups = few;
      last = λ index own. sym (ap (λ m. last_number (batches_of m) index) mine);
      room = λ index own. omega arith;
      low = λ index id. let u : last_use s.mine index id ≡ 0 = ap (λ m. last_use m index id) mine in omega arith;
      foreign = λ index id far. ap (λ m. last_use m index id) mine;
    }
  where
    no_log : IsSound []
    no_log = record {
      ordered = λ j k p q a b lt at_j at_k clash. absurd (none-some (Command p a) at_j);
      laid_out = λ k q n at. absurd (none-some (Command q n) at);
    }

-- A handle is made

pub untouched_fresh : (f : Face) (hands : Hands) (s : Link) (id index : ℕ) → Holds f hands s → IsFresh s id → nodes_touch (f.pending index) id ≡ false
untouched_fresh f hands s id index h fresh = false_from_ne_true (nodes_touch (f.pending index) id) (λ t. go (h.touched index id t))
  where
    go : MayTouch s index (f.last index + 1) id → ⊥
    go (inl held) = both_ways (s.held id) fresh.not_held held
    go (inr given) = none-some given.0 (sym fresh.not_given ∙ given.1)

-- nothing uses what was just made
fresh_unused : (f : Face) (hands : Hands) (s : Link) (id : ℕ) → Holds f hands s → IsFresh s id → uses_of f s id ≡ []
fresh_unused f hands s id h fresh =
    uses_untouched f s id (order_untouched f id (λ index. untouched_fresh f hands s id index h fresh) (indexes_of f.group))
    ∙ by_untouched s.mine id fresh.untouched

pub new_tracked : (id : HandleId) (image : Bool) → Tracks (new_tracker id image) id image []
new_tracked id image = record { of = refl; let_through = refl; accessed = refl; none_empty = All-nil (λ (access : Access). access ≢ no_access); layout = refl }

pub created_holds : (f : Face) (hands : Hands) (s : Link) (id : ℕ) (kind : Kind) → Holds f hands s → IsFresh s id → Holds f (put hands id (Some (fresh_slot id kind))) (created s id kind)
created_holds f hands s id kind h fresh =
    let t : Link = created s id kind in
    let also : ℕ → Owner = put h.owner id InHand in
    let other : (j : ℕ) → s.held j ≡ true → j ≢ id = λ j held same. both_ways (s.held id) fresh.not_held (ap s.held (sym same) ∙ held) in
    let grows : KindsGrow s.kinds t.kinds = λ j k at. put-other s.kinds id (Some kind) j (λ same. none-some k (sym fresh.not_made ∙ ap s.kinds (sym same) ∙ at)) ∙ at in
    let same : (j : ℕ) → j ≢ id → SameSlot f f s t j = λ j ne. record {
      held = put-other s.held id true j ne;
      kind = put-other s.kinds id (Some kind) j ne;
      uses = λ index. refl;
      tracks = λ x b k. k;
    } in
    let unused : uses_of f s id ≡ [] = fresh_unused f hands s id h fresh in
    record {
      sound = h.sound;
      recordable = h.recordable;
      fenced = λ j. elim (cases_eq j id) [
        | inl e ↦ subst (λ i. AreFenced (handle i) (is_image_of t i) (uses_of f s i)) (sym e) (subst (AreFenced (handle id) (is_image_of t id)) (sym unused) (none_fenced (handle id) (is_image_of t id)))
        | inr ne ↦ subst (λ b. AreFenced (handle j) b (uses_of f s j)) (ap (λ k. is_image (unwrap_or k (kinds.Buffer 0))) (sym (put-other s.kinds id (Some kind) j ne))) (h.fenced j)
      ];
      apart = h.apart;
      fits = λ index. All-weaker (NodeFits s.kinds) (NodeFits t.kinds) (fits_more s.kinds t.kinds grows) (f.pending index) (h.fits index);
      fitted = items_fit_more s.kinds t.kinds grows (log_of s.mine) h.fitted;
      none_empty = h.none_empty;
      few = h.few;
      of_group = h.of_group;
      owner = also;
      objects = λ o b at. let u = h.objects o b at in
          stored_kept f f s t h.owner also grows o b
          (λ j has. same j (other j (handle_held f s h.owner o b j u has)))
          (λ j has. put-other h.owner id InHand j (other j (handle_held f s h.owner o b j u has))) u;
      hands_stand = λ j slot at. elim (put_is hands id (Some (fresh_slot id kind)) j (Some slot) at) [
        | inl e ↦ subst (λ i. HandStands f t also i slot) (sym e.0) (subst (HandStands f t also id) (same_Some (fresh_slot id kind) slot e.1) (record {
          stands = record {
            held = put-same s.held id true;
            kind = put-same s.kinds id (Some kind);
            used = λ index. sym (cond-false (nodes_touch (f.pending index) id) (f.last index + 1) (last_use s.mine index id) (untouched_fresh f hands s id index h fresh) ∙ use_none s.mine index id fresh.untouched);
            tracked = subst (λ us. Tracks (new_tracker (handle id) (is_image kind)) (handle id) (is_image_of t id) us) (sym unused) (subst (λ k. Tracks (new_tracker (handle id) (is_image kind)) (handle id) (is_image (unwrap_or k (kinds.Buffer 0))) []) (sym (put-same s.kinds id (Some kind))) (new_tracked (handle id) (is_image kind)));
          };
          owned = put-same h.owner id InHand;
        }))
        | inr e ↦ let u = h.hands_stand j slot e.1 in
            let ne : j ≢ id = other j u.stands.held in
            hand_kept f f s t h.owner also grows j slot (same j ne) (put-other h.owner id InHand j ne) u
      ];
      no_others = λ j held. elim (put_is s.held id true j true held) [
        | inl e ↦ inl (is_some_of (put hands id (Some (fresh_slot id kind)) j) (fresh_slot id kind) (put_at hands id (Some (fresh_slot id kind)) j e.0))
        | inr e ↦ elim (h.no_others j e.1) [
          | inl hand ↦ inl (put-some hands id (fresh_slot id kind) j hand)
          | inr has ↦ inr has
        ]
      ];
      none_lost = λ j made. elim (cases_eq j id) [
        | inl e ↦ inl (put_at s.held id true j e)
        | inr ne ↦ elim (h.none_lost j (subst IsSome (put-other s.kinds id (Some kind) j ne) made)) [
          | inl held ↦ inl (put-true s.held id j held)
          | inr given ↦ inr given
        ]
      ];
      touched = λ index j touch. elim (h.touched index j touch) [
        | inl held ↦ inl (put-true s.held id j held)
        | inr given ↦ inr given
      ];
      given = h.given;
      group = h.group;
      few_groups = h.few_groups;
      last = h.last;
      room = h.room;
      low = h.low;
      foreign = h.foreign;
    }

-- A handle is given away

-- the number that the uses have for an index is that of the last batch that uses the handle
pub given_uses : (f : Face) (hands : Hands) (s : Link) (id : ℕ) (slot : Slot) (uses : List QueueSerial) → Holds f hands s → hands id ≡ Some slot → AreUses uses slot
    → (index : ℕ) → number_of uses index ≡ use_of f s id index
given_uses f hands s id slot uses h at are index = are index ∙ (h.hands_stand id slot at).stands.used index

-- a context with pending nodes is one of the group
pub touching_index : (f : Face) (hands : Hands) (s : Link) (id index : ℕ) → Holds f hands s → nodes_touch (f.pending index) id ≡ true → IsOfGroup f.group index
touching_index f hands s id index h touch = go (own_or_not f.group index)
  where
    go : IsOfGroup f.group index ⊎ (IsOfGroup f.group index → ⊥) → IsOfGroup f.group index
    go (inl own) = own
    go (inr other) = absurd (both_ways (nodes_touch (f.pending index) id) (ap (λ nodes. nodes_touch nodes id) (h.of_group index other)) touch)

pub gave_holds : (f : Face) (hands : Hands) (s : Link) (id : ℕ) (slot : Slot) (uses : List QueueSerial) → Holds f hands s → hands id ≡ Some slot → AreUses uses slot
    → Holds f (put hands id None) (gave s id uses)
gave_holds f hands s id slot uses h at are =
    let t : Link = gave s id uses in
    let u = h.hands_stand id slot at in
    let number : (index : ℕ) → number_of uses index ≡ use_of f s id index = given_uses f hands s id slot uses h at are in
    let same : (j : ℕ) → j ≢ id → SameSlot f f s t j = λ j ne. record { held = put-other s.held id false j ne; kind = refl; uses = λ index. refl; tracks = λ x b k. k } in
    let not_it : (j : ℕ) → h.owner j ≢ InHand → j ≢ id = λ j ne e. ne (ap h.owner e ∙ u.owned) in
    record {
      sound = h.sound;
      recordable = h.recordable;
      fenced = h.fenced;
      apart = h.apart;
      fits = h.fits;
      fitted = h.fitted;
      none_empty = h.none_empty;
      few = h.few;
      of_group = h.of_group;
      owner = h.owner;
      objects = λ o b at'. let v = h.objects o b at' in
          stored_kept f f s t h.owner h.owner (λ j k at''. at'') o b (λ j has. same j (not_it j (not_in_hand f s h.owner o b j v has))) (λ j has. refl) v;
      hands_stand = λ j d at'. elim (put_is hands id None j (Some d) at') [
        | inl e ↦ absurd (none-some d e.1)
        | inr e ↦ hand_kept f f s t h.owner h.owner (λ i k at''. at'') j d (same j e.0) refl (h.hands_stand j d e.1)
      ];
      no_others = λ j held. elim (put_is s.held id false j true held) [
        | inl e ↦ let no : false ≡ true = e.1 in cc
        | inr e ↦ elim (h.no_others j e.1) [
          | inl hand ↦ inl (subst IsSome (sym (put-other hands id None j e.0)) hand)
          | inr has ↦ inr has
        ]
      ];
      none_lost = λ j made. elim (cases_eq j id) [
        | inl e ↦ inr (is_some_of (put s.given id (Some uses) j) uses (put_at s.given id (Some uses) j e))
        | inr ne ↦ elim (h.none_lost j made) [
          | inl held ↦ inl (put-other s.held id false j ne ∙ held)
          | inr given ↦ inr (put-some s.given id uses j given)
        ]
      ];
      touched = λ index j touch. elim (cases_eq j id) [
        | inl e ↦ inr (
          uses,
          put_at s.given id (Some uses) j e,
          number index ∙ cond-true (nodes_touch (f.pending index) id) (f.last index + 1) (last_use s.mine index id) (ap (nodes_touch (f.pending index)) (sym e) ∙ touch),
        )
        | inr ne ↦ elim (h.touched index j touch) [
          | inl held ↦ inl (put-other s.held id false j ne ∙ held)
          | inr given ↦ inr (given.0, put-other s.given id (Some uses) j ne ∙ given.1, given.2)
        ]
      ];
      given = λ j index v at'. elim (put_is s.given id (Some uses) j (Some v) at') [
        | inl e ↦ past j index v e.0 (same_Some uses v e.1) (number index) (cases_Bool (nodes_touch (f.pending index) id))
        | inr e ↦ h.given j index v e.1
      ];
      group = h.group;
      few_groups = h.few_groups;
      last = h.last;
      room = h.room;
      low = h.low;
      foreign = h.foreign;
    }
  where
    past : (j index : ℕ) (v : List QueueSerial) → j ≡ id → uses ≡ v → number_of uses index ≡ use_of f s id index
        → (nodes_touch (f.pending index) id ≡ true) ⊎ (nodes_touch (f.pending index) id ≡ false) → IsPastUse f (gave s id uses) j index (number_of v index)
    past j index v is same number (inl touch) = inr (
      touching_index f hands s id index h touch,
      ap (λ l. number_of l index) (sym same) ∙ number ∙ cond-true (nodes_touch (f.pending index) id) (f.last index + 1) (last_use s.mine index id) touch,
      ap (nodes_touch (f.pending index)) is ∙ touch,
    )
    past j index v is same number (inr none) = inl (
        let n : number_of v index ≡ last_use s.mine index id
        = ap (λ l. number_of l index) (sym same) ∙ number ∙ cond-false (nodes_touch (f.pending index) id) (f.last index + 1) (last_use s.mine index id) none in
        let low : last_use s.mine index id ≤ last_number (batches_of s.mine) index = h.low index id in
        omega (arith, n, low)
        )
