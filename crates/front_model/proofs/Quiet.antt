-- An object that is quiet stays so.
use Rattle.std.specs.Prelude.{if◌then◌else◌}
use Rattle.std.specs.Prelude.{is_some, unwrap_or, ◌⊎◌, ◌&&◌, ◌||◌}
use Rattle.std.specs.List.{flat_map}
use Rattle.vk_types.specs.Accesses.{host_read, transfer_write, color_write, in_common}
use Rattle.vk_model.specs.Log.{Range}
use Rattle.barriers.specs.Licence.{Use, Accessed, barrier_due, writes}
use Rattle.barriers.specs.Logs.{joint_access, AreUsesIn}
use Rattle.barriers.specs.Recording.{handle, AreFenced, IsMadeKnown}
use Rattle.barriers.proofs.Joint.{joint_meets}
use Rattle.object_helper.specs.Objects.{is_image}
use Rattle.front_model.specs.Face.{indexes_of}
use Rattle.front_model.specs.Stands.{is_image_of, own_uses, uses_of, host_touch, IsKnownToHost}
use Rattle.front_model.specs.Steps.{heard, heard_store, with_read}
use Rattle.front_model.proofs.Tracking.{by_none, own_uses-push, uses_without, uses_untouched, uses_read, uses_read_other}
use Rattle.front_model.proofs.LinkSteps.{order_untouched}
use Rattle.front_model.proofs.Barriers.{mine_device}
use Rattle.front_model.proofs.Base.{put-other}
use Rattle.std.proofs.lemmas.Bool.{cases_eq, and_from, false≢true}
use Rattle.std.proofs.lemmas.List.{append-nil}
use Rattle.std.proofs.Common.{Bool}
use Rattle.back_core.specs.Own.{writes_in}
use Rattle.vk_types.specs.declared.handles.Kind.TheVariants as kinds
use Rattle.std.proofs.Common.{◌≡◌, ◌≢◌, ℕ, ◌+◌, ◌≤◌, ◌==◌, zero, suc, true, false, List, [], ◌∷◌, ◌++◌, refl, sym, ◌∙◌, ap, subst, arith, inl, inr}
use Rattle.std.specs.Prelude.{Option, Some, None, map, slice_get}
use Rattle.std.specs.List.{list_any}
use Rattle.std.specs.Option.{option_map}
use Rattle.std.proofs.lemmas.Bool.{both_ways, and_parts, or_cases, or_left, or_right, or_from, or_parts}
use Rattle.std.proofs.lemmas.Option.{none-some, same_Some}
use Rattle.vk_types.specs.declared.handles.HandleId.{HandleId}
use Rattle.vk_types.specs.declared.handles.Kind.{Kind}
use Rattle.vk_types.specs.declared.regions.Touch.{Touch}
use Rattle.vk_types.specs.declared.batches.Batch.{Batch}
use Rattle.vk_types.specs.declared.batches.QueueSerial.{QueueSerial}
use Rattle.vk_types.specs.declared.ops.Node.{Node}
use Rattle.vk_types.specs.Touches.{touches, barrier_of}
use Rattle.vk_model.specs.Log.{Item, Command, HostWrite, commands, touches_object, node_range, clash}
use Rattle.back_core.specs.Own.{Own, HostWrote, Enqueued, HostRead, log_by, log_of, batch_by, batch_touches, last_use, HasHostBarrier, IsReadable}
use Rattle.back_core.specs.Link.{Link, Asked, created, wrote, enqueued, fetched, gave}
use Rattle.back_core.specs.Needs.{IsFresh}
use Rattle.back_core.specs.Answers.{Learns}
use Rattle.front_model.specs.declared.object.Object.{Object}
use Rattle.front_model.specs.Face.{Stored, Face, nodes_touch}
use Rattle.front_model.specs.Stands.{Hands, Holds, IsQuiet}
use Rattle.front_model.specs.Steps.{noted_store, with_nodes, IsNextBatch, flushed, with_object}
use Rattle.front_model.proofs.Base.{put_holds, put_object-other, nodes_touch-append}
use Rattle.front_model.proofs.Uses.{log_then, use_stays, use_apart}
use Rattle.front_model.proofs.Sounds.{get_left, get_either}

-- Logs in which what nodes wrote to an object was made known to the host

-- a node that writes a range of an object touches it
writes_touch : (ts : List Touch) (n : Node) (id at size : ℕ)
    → list_any (λ r. clash r (record { id = id; start = at; end = at + size; written = false })) (map (node_range n) ts) ≡ true → list_any (λ (t : Touch). t.id.0 == id) ts ≡ true
writes_touch [] n id at size e = e
writes_touch (t ∷ ts) n id at size e = elim (or_cases (clash (node_range n t) (record { id = id; start = at; end = at + size; written = false })) _ e) [
  | inl here ↦ or_left (t.id.0 == id) _ (and_parts (t.id.0 == id) _ (and_parts _ _ here).0).0
  | inr there ↦ or_right (t.id.0 == id) _ (writes_touch ts n id at size there)
]

-- behind more of the log the barrier still stands
barrier_longer : (log more : List Item) (id place : ℕ) → HasHostBarrier log id place → HasHostBarrier (log ++ more) id place
barrier_longer log more id place b = record {
  later = b.later;
  queue = b.queue;
  node = b.node;
  barrier = b.barrier;
  behind = b.behind;
  at = get_left log more b.later (Command b.queue b.node) b.at;
  is = b.is;
  of_object = b.of_object;
  to_host = b.to_host;
}

-- items that do not write the object may come behind
readable_longer : (log more : List Item) (id at size : ℕ) → ((k queue : ℕ) (n : Node) → slice_get more k ≡ Some (Command queue n) → touches_object n id ≡ false) → IsReadable log id at size → IsReadable (log ++ more) id at size
readable_longer log more id at size apart readable k queue n here none writes = elim (get_either log more k (Command queue n) here) [
  | inl old ↦ barrier_longer log more id k (readable k queue n old none writes)
  | inr new ↦ absurd (both_ways (touches_object n id) (apart new.0 queue n new.2) (writes_touch (touches n) n id at size writes))
]

-- Where no barrier is due before a read by the host

-- what the law of such reads says
abbrev pub MadeKnown : Type 0
MadeKnown = (log : List Item) (id : HandleId) (image : Bool) (uses : List Use) (touch : Touch) → AreUsesIn log id.0 uses →
    touch.access ≡ host_read → barrier_due id image uses touch ≡ None → (k queue : ℕ) (n : Node) →
    slice_get log k ≡ Some (Command queue n) → barrier_of n ≡ None → touches_object n id.0 ≡ true → writes (joint_access n id.0) ≡ true →
    IsMadeKnown log id.0 k

-- a node that writes a range of an object accesses it by a write
writes_joint : (n : Node) (id at size : ℕ) → barrier_of n ≡ None → writes_in n id at size ≡ true → writes (joint_access n id) ≡ true
writes_joint n id at size device e = go (some_write (touches n) e)
  where
    whole_range : Range
    whole_range = record { id = id; start = at; end = at + size; written = false }

    none : is_some (barrier_of n) ≡ false
    none = ap is_some device

    or_cases3 : (x y z : Bool) → ((x || y) || z) ≡ true → z ≡ false → (x ≡ true) ⊎ (y ≡ true)
    or_cases3 true y z e f = inl refl
    or_cases3 false true z e f = inr refl
    or_cases3 false false z e f = absurd (both_ways z f e)

    written_is : (t : Touch) → clash (node_range n t) (record { id = id; start = at; end = at + size; written = false }) ≡ true →
        ((t.id.0 == id) ≡ true) × ((in_common t.access transfer_write ≡ true) ⊎ (in_common t.access color_write ≡ true))
    written_is t here =
        let parts = and_parts (((node_range n t).id == id) && _) ((node_range n t).written || false) here in
        let front = and_parts ((node_range n t).id == id) _ parts.0 in
        (front.0, or_cases3 (in_common t.access transfer_write) (in_common t.access color_write) (is_some (barrier_of n)) (only (node_range n t).written parts.1) (ap is_some device))
      where
        only : (b : Bool) → (b || false) ≡ true → b ≡ true
        only true e = refl
        only false e = e

    some_write : (ts : List Touch) → list_any (λ r. clash r (record { id = id; start = at; end = at + size; written = false })) (map (node_range n) ts) ≡ true →
        (list_any (λ t. (t.id.0 == id) && in_common t.access transfer_write) ts ≡ true) ⊎ (list_any (λ t. (t.id.0 == id) && in_common t.access color_write) ts ≡ true)
    some_write [] e = absurd (false≢true e)
    some_write (t ∷ ts) e = one (or_cases (clash (node_range n t) (record { id = id; start = at; end = at + size; written = false })) _ e) (some_write ts)
      where
        one : (clash (node_range n t) (record { id = id; start = at; end = at + size; written = false }) ≡ true) ⊎ (list_any (λ r. clash r (record { id = id; start = at; end = at + size; written = false })) (map (node_range n) ts) ≡ true) →
            (list_any (λ r. clash r (record { id = id; start = at; end = at + size; written = false })) (map (node_range n) ts) ≡ true → (list_any (λ t. (t.id.0 == id) && in_common t.access transfer_write) ts ≡ true) ⊎ (list_any (λ t. (t.id.0 == id) && in_common t.access color_write) ts ≡ true)) →
            (list_any (λ t. (t.id.0 == id) && in_common t.access transfer_write) (t ∷ ts) ≡ true) ⊎ (list_any (λ t. (t.id.0 == id) && in_common t.access color_write) (t ∷ ts) ≡ true)
        one (inl here) rest =
            let is = written_is t here in
            elim is.1 [
              | inl w ↦ inl (or_left ((t.id.0 == id) && in_common t.access transfer_write) _ (and_from (t.id.0 == id) (in_common t.access transfer_write) is.0 w))
              | inr w ↦ inr (or_left ((t.id.0 == id) && in_common t.access color_write) _ (and_from (t.id.0 == id) (in_common t.access color_write) is.0 w))
            ]
        one (inr there) rest = elim (rest there) [
          | inl w ↦ inl (or_right ((t.id.0 == id) && in_common t.access transfer_write) _ w)
          | inr w ↦ inr (or_right ((t.id.0 == id) && in_common t.access color_write) _ w)
        ]

    go : (list_any (λ t. (t.id.0 == id) && in_common t.access transfer_write) (touches n) ≡ true) ⊎ (list_any (λ t. (t.id.0 == id) && in_common t.access color_write) (touches n) ≡ true) → writes (joint_access n id) ≡ true
    go (inl w) = or_left (in_common (joint_access n id) transfer_write) _ (joint_meets n id transfer_write ∙ w)
    go (inr w) = or_right (in_common (joint_access n id) transfer_write) _ (joint_meets n id color_write ∙ w)

pub known_readable : MadeKnown → (f : Face) (hands : Hands) (s : Link) (id at size : ℕ) → Holds f hands s → ((index : ℕ) → nodes_touch (f.pending index) id ≡ false) → IsKnownToHost f s id → IsReadable (log_of s.mine) id at size
known_readable law f hands s id at size h untouched known k queue n here device writes_it =
    let r : IsMadeKnown (log_of s.mine) id k
    = law (log_of s.mine) (handle id) (is_image_of s id) (flat_map (own_uses id) s.mine) (host_touch id) used refl
    (subst (λ us. barrier_due (handle id) (is_image_of s id) us (host_touch id) ≡ None) is known) k queue n here device (writes_touch (touches n) n id at size writes_it) (writes_joint n id at size device writes_it) in
    record { later = r.later; queue = r.queue; node = r.node; barrier = r.barrier; behind = r.behind; at = r.at; is = r.is; of_object = r.of_object; to_host = r.to_host }
  where
    is : uses_of f s id ≡ flat_map (own_uses id) s.mine
    is = uses_untouched f s id (order_untouched f id untouched (indexes_of f.group))

    fenced : AreFenced (handle id) (is_image_of s id) (flat_map (own_uses id) s.mine)
    fenced = subst (AreFenced (handle id) (is_image_of s id)) (uses_untouched f s id (order_untouched f id untouched (indexes_of f.group))) (h.fenced id)

    used : AreUsesIn (log_of s.mine) id (flat_map (own_uses id) s.mine)
    used = record { without_reads = mine_device s.mine id; some = fenced.some; let_through = fenced.let_through }

-- Steps that do not touch the object

pub created_quiet : (f : Face) (hands : Hands) (s : Link) (o : Object) (id : ℕ) (kind : Kind) → Holds f hands s → IsFresh s id → IsQuiet f s o → IsQuiet f (created s id kind) o
created_quiet f hands s o id kind h fresh quiet = record {
  stored = quiet.stored;
  is = quiet.is;
  clear = quiet.clear;
  untouched = quiet.untouched;
  retired = quiet.retired;
  known = subst (λ b. barrier_due (handle quiet.stored.handle) b (uses_of f s quiet.stored.handle) (host_touch quiet.stored.handle) ≡ None)
      (ap (λ k. is_image (unwrap_or k (kinds.Buffer 0))) (sym (put-other s.kinds id (Some kind) quiet.stored.handle (λ same. both_ways (s.held id) fresh.not_held (ap s.held (sym same) ∙ (h.objects o quiet.stored quiet.is).slot.held)))))
      quiet.known;
  readable = quiet.readable;
}

pub gave_quiet : (f : Face) (s : Link) (o : Object) (id : ℕ) (uses : List QueueSerial) → IsQuiet f s o → IsQuiet f (gave s id uses) o
gave_quiet f s o id uses quiet = record { stored = quiet.stored; is = quiet.is; clear = quiet.clear; untouched = quiet.untouched; retired = quiet.retired; known = quiet.known; readable = quiet.readable }

-- the list with one item more, which is no batch and has no node
host_quiet : (f : Face) (s : Link) (o : Object) (x : Own) → batch_by x ≡ [] → ((j : ℕ) → own_uses j x ≡ []) → ((k queue : ℕ) (n : Node) → slice_get (log_by x) k ≡ Some (Command queue n) → ⊥) → IsQuiet f s o → IsQuiet f (record s { mine = s.mine ++ x ∷ [] }) o
host_quiet f s o x none unused no_node quiet = record {
  stored = quiet.stored;
  is = quiet.is;
  clear = quiet.clear;
  untouched = quiet.untouched;
  retired = λ index. subst (λ n. n ≤ s.done index) (sym (use_stays s.mine x none index quiet.stored.handle)) (quiet.retired index);
  known = subst (λ us. barrier_due (handle quiet.stored.handle) (is_image_of s quiet.stored.handle) us (host_touch quiet.stored.handle) ≡ None) (sym (uses_without f s x quiet.stored.handle (unused quiet.stored.handle))) quiet.known;
  readable = λ at size. subst (λ l. IsReadable l quiet.stored.handle at size) (sym (log_then s.mine x))
      (readable_longer (log_of s.mine) (log_by x) quiet.stored.handle at size (λ k queue n here. absurd (no_node k queue n here)) (quiet.readable at size));
}

pub wrote_quiet : (f : Face) (s : Link) (o : Object) (id at : ℕ) (bytes : List ℕ) → IsQuiet f s o → IsQuiet f (wrote s id at bytes) o
wrote_quiet f s o id at bytes quiet = host_quiet f s o (HostWrote id at bytes) refl (λ j. refl) no_node quiet
  where
    no_node : (k queue : ℕ) (n : Node) → slice_get (HostWrite id at bytes ∷ []) k ≡ Some (Command queue n) → ⊥
    no_node zero queue n e = let both : HostWrite id at bytes ≡ Command queue n = same_Some (HostWrite id at bytes) (Command queue n) e in cc
    no_node (suc k) queue n e = none-some (Command queue n) e

-- what a read by the host notes leaves the handle, and what waits
heard_handle : (id : ℕ) (b : Stored) → (heard_store id b).handle ≡ b.handle
heard_handle id b = go (b.handle == id)
  where
    go : (e : Bool) → (if e then (record b { slot = heard b.slot }) else b).handle ≡ b.handle
    go true = refl
    go false = refl

heard_waiting : (id : ℕ) (b : Stored) → (heard_store id b).waiting ≡ b.waiting
heard_waiting id b = go (b.handle == id)
  where
    go : (e : Bool) → (if e then (record b { slot = heard b.slot }) else b).waiting ≡ b.waiting
    go true = refl
    go false = refl

-- what the law of such reads says
abbrev pub KnownAgain : Type 0
KnownAgain = (id : HandleId) (image : Bool) (uses : List Use) (touch : Touch) → touch.access ≡ host_read →
    barrier_due id image uses touch ≡ None → barrier_due id image (uses ++ Accessed host_read ∷ []) touch ≡ None

pub fetched_quiet : KnownAgain → (f : Face) (s : Link) (o : Object) (id at : ℕ) (bytes : List ℕ) → ((index : ℕ) → nodes_touch (f.pending index) id ≡ false) → IsQuiet f s o → IsQuiet (with_read f id) (fetched s id at bytes) o
fetched_quiet again f s o id at bytes untouched quiet = record {
  stored = heard_store id quiet.stored;
  is = ap (option_map (heard_store id)) quiet.is;
  clear = heard_waiting id quiet.stored ∙ quiet.clear;
  untouched = λ index. ap (nodes_touch (f.pending index)) (heard_handle id quiet.stored) ∙ quiet.untouched index;
  retired = λ index. subst (λ j. last_use (s.mine ++ HostRead id at bytes ∷ []) index j ≤ s.done index) (sym (heard_handle id quiet.stored))
      (subst (λ n. n ≤ s.done index) (sym (use_stays s.mine (HostRead id at bytes) refl index quiet.stored.handle)) (quiet.retired index));
  known = subst (IsKnownToHost (with_read f id) (fetched s id at bytes)) (sym (heard_handle id quiet.stored)) (known (cases_eq quiet.stored.handle id));
  readable = λ at' size. subst (λ j. IsReadable (log_of (s.mine ++ HostRead id at bytes ∷ [])) j at' size) (sym (heard_handle id quiet.stored))
      (subst (λ l. IsReadable l quiet.stored.handle at' size) (sym (log_then s.mine (HostRead id at bytes)))
      (readable_longer (log_of s.mine) [] quiet.stored.handle at' size (λ k queue n here. absurd (none-some (Command queue n) here)) (quiet.readable at' size)));
}
  where
    known : (quiet.stored.handle ≡ id) ⊎ (quiet.stored.handle ≢ id) → IsKnownToHost (with_read f id) (fetched s id at bytes) quiet.stored.handle
    known (inl same) =
        subst (IsKnownToHost (with_read f id) (fetched s id at bytes)) (sym same)
        (subst (λ us. barrier_due (handle id) (is_image_of s id) us (host_touch id) ≡ None) (sym (uses_read f s id at bytes (order_untouched f id untouched (indexes_of f.group))))
        (again (handle id) (is_image_of s id) (uses_of f s id) (host_touch id) refl (subst (IsKnownToHost f s) same quiet.known)))
    known (inr ne) = subst (λ us. barrier_due (handle quiet.stored.handle) (is_image_of s quiet.stored.handle) us (host_touch quiet.stored.handle) ≡ None) (sym (uses_read_other f s id at bytes quiet.stored.handle ne)) quiet.known

knowing_quiet : (f : Face) (s : Link) (o : Object) (d : ℕ → ℕ) (n : Option (ℕ → ℕ)) (a : Option Asked) → ((index : ℕ) → s.done index ≤ d index) → IsQuiet f s o → IsQuiet f (record s { done = d; now = n; asked = a }) o
knowing_quiet f s o d n a rises quiet = record {
  stored = quiet.stored;
  is = quiet.is;
  clear = quiet.clear;
  untouched = quiet.untouched;
  retired = λ index. let was : last_use s.mine index quiet.stored.handle ≤ s.done index = quiet.retired index in let up : s.done index ≤ d index = rises index in omega (arith, was, up);
  known = quiet.known;
  readable = quiet.readable;
}

pub learned_quiet : (f : Face) (s t : Link) (o : Object) → Learns s t → IsQuiet f s o → IsQuiet f t o
learned_quiet f s t o learns quiet = subst (λ l. IsQuiet f l o) (sym learns.rest) (knowing_quiet f s o t.done t.now t.asked learns.rises quiet)

-- nodes that do not touch the object, each of them
none_touch : (nodes : List Node) (id k queue : ℕ) (n : Node) → nodes_touch nodes id ≡ false → slice_get (commands 0 nodes) k ≡ Some (Command queue n) → touches_object n id ≡ false
none_touch [] id k queue n none at = absurd (none-some (Command queue n) at)
none_touch (m ∷ nodes) id zero queue n none at =
    let both : Command 0 m ≡ Command queue n = same_Some (Command 0 m) (Command queue n) at in
    let is : m ≡ n = cc in
    ap (λ x. touches_object x id) (sym is) ∙ (or_parts (touches_object m id) (nodes_touch nodes id) none).0
none_touch (m ∷ nodes) id (suc k) queue n none at = none_touch nodes id k queue n (or_parts (touches_object m id) (nodes_touch nodes id) none).1 at

-- the uses of what is quiet are those by the group's list
quiet_uses : (f : Face) (s : Link) (id : ℕ) → ((index : ℕ) → nodes_touch (f.pending index) id ≡ false) → uses_of f s id ≡ flat_map (own_uses id) s.mine
quiet_uses f s id untouched = uses_untouched f s id (order_untouched f id untouched (indexes_of f.group))

pub enqueued_quiet : (f : Face) (s : Link) (o : Object) (index : ℕ) (batch : Batch) → IsNextBatch f index batch → IsQuiet f s o → IsQuiet (flushed f index) (enqueued s batch) o
enqueued_quiet f s o index batch next quiet =
    let apart : batch_touches batch quiet.stored.handle ≡ false = ap (λ nodes. nodes_touch nodes quiet.stored.handle) next.all ∙ quiet.untouched index in
    record {
      stored = quiet.stored;
      is = quiet.is;
      clear = quiet.clear;
      untouched = λ i. put_holds (λ l. nodes_touch l quiet.stored.handle ≡ false) f.pending index [] i (λ e. refl) (λ ne. quiet.untouched i);
      retired = λ i. subst (λ n. n ≤ s.done i) (sym (use_apart s.mine batch i quiet.stored.handle apart)) (quiet.retired i);
      known = subst (λ us. barrier_due (handle quiet.stored.handle) (is_image_of s quiet.stored.handle) us (host_touch quiet.stored.handle) ≡ None) (sym (same_uses apart)) quiet.known;
      readable = λ at size. subst (λ l. IsReadable l quiet.stored.handle at size) (sym (log_then s.mine (Enqueued batch)))
          (readable_longer (log_of s.mine) (commands 0 batch.nodes) quiet.stored.handle at size (λ k queue n here. none_touch batch.nodes quiet.stored.handle k queue n apart here) (quiet.readable at size));
    }
  where
    same_uses : batch_touches batch quiet.stored.handle ≡ false → uses_of (flushed f index) (enqueued s batch) quiet.stored.handle ≡ uses_of f s quiet.stored.handle
    same_uses apart =
        quiet_uses (flushed f index) (enqueued s batch) quiet.stored.handle (λ i. put_holds (λ l. nodes_touch l quiet.stored.handle ≡ false) f.pending index [] i (λ e. refl) (λ ne. quiet.untouched i))
        ∙ (own_uses-push s.mine (Enqueued batch) quiet.stored.handle
        ∙ (ap (λ us. flat_map (own_uses quiet.stored.handle) s.mine ++ us) (by_none batch.nodes quiet.stored.handle apart)
        ∙ (append-nil (flat_map (own_uses quiet.stored.handle) s.mine) ∙ sym (quiet_uses f s quiet.stored.handle quiet.untouched))))

pub recorded_quiet : (f : Face) (s : Link) (o : Object) (index : ℕ) (nodes : List Node) → (quiet : IsQuiet f s o) → nodes_touch nodes quiet.stored.handle ≡ false → IsQuiet (with_nodes f index nodes) s o
recorded_quiet f s o index nodes quiet none = record {
  stored = noted_store index (f.last index + 1) nodes quiet.stored;
  is = ap (option_map (noted_store index (f.last index + 1) nodes)) quiet.is;
  clear = quiet.clear;
  untouched = λ i. put_holds (λ l. nodes_touch l quiet.stored.handle ≡ false) f.pending index (f.pending index ++ nodes) i
      (λ e. nodes_touch-append (f.pending index) nodes quiet.stored.handle ∙ or_from (nodes_touch (f.pending index) quiet.stored.handle) (nodes_touch nodes quiet.stored.handle) (quiet.untouched index) none)
      (λ ne. quiet.untouched i);
  retired = quiet.retired;
  known = subst (λ us. barrier_due (handle quiet.stored.handle) (is_image_of s quiet.stored.handle) us (host_touch quiet.stored.handle) ≡ None)
      (sym (quiet_uses (with_nodes f index nodes) s quiet.stored.handle (λ i. put_holds (λ l. nodes_touch l quiet.stored.handle ≡ false) f.pending index (f.pending index ++ nodes) i
      (λ e. nodes_touch-append (f.pending index) nodes quiet.stored.handle ∙ or_from (nodes_touch (f.pending index) quiet.stored.handle) (nodes_touch nodes quiet.stored.handle) (quiet.untouched index) none)
      (λ ne. quiet.untouched i)) ∙ sym (quiet_uses f s quiet.stored.handle quiet.untouched))) quiet.known;
  readable = quiet.readable;
}

pub other_quiet : (f : Face) (s : Link) (o q : Object) (b : Option Stored) → IsQuiet f s o → o ≢ q → IsQuiet (with_object f q b) s o
other_quiet f s o q b quiet ne = record {
  stored = quiet.stored;
  is = put_object-other f.objects q b o ne ∙ quiet.is;
  clear = quiet.clear;
  untouched = quiet.untouched;
  retired = quiet.retired;
  known = quiet.known;
  readable = quiet.readable;
}
