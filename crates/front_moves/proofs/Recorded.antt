-- The front after nodes were added and the stores of the objects noted their use.
use Rattle.barriers.specs.Recording.{handle}
use mathlib.Core.Path.{fun_ext}
use Rattle.std.proofs.Common.{◌≡◌, ◌≢◌, ℕ, ◌+◌, ◌-◌, ◌*◌, ◌<◌, ◌≤◌, ◌==◌, max, Bool, true, false, cond, List, [], ◌∷◌, ◌++◌, length, refl, sym, ◌∙◌, ap, subst, arith, inl, inr}
use Rattle.std.specs.Prelude.{◌⊎◌, ◌&&◌, nat_le, nat_lt, Option, Some, None, fold, slice_set, slice_index_or}
use Rattle.std.specs.Option.{option_map}
use Rattle.std.proofs.lemmas.Bool.{cases_eq, cond-true, cond-false, eq-eqb, ne_eqb, eqb-true, and_from, and_parts, and_right, le-leb, lt-ltb, leb-true}
use Rattle.std.proofs.lemmas.List.{get_or-set_same, get_or-set_other}
use Rattle.cells.specs.Contents.{in_range}
use Rattle.vk_types.specs.declared.ops.Node.{Node}
use Rattle.vk_types.specs.declared.batches.QueueSerial.{QueueSerial}
use Rattle.queue_serials.specs.Indexes.{IndexTable}
use Rattle.tables.specs.Table.{Entries, entry}
use Rattle.resource_use.specs.Uses.{number_of, noted}
use Rattle.resource_use.proofs.Noting.{number_of-noted}
use Rattle.object_helper.specs.Objects.{ObjectStore, access_of}
use Rattle.vk_types.specs.Accesses.{host_read}
use Rattle.vk_types.specs.declared.accesses.Access.{Access}
use Rattle.vk_types.specs.declared.regions.Barrier.{Barrier}
use Rattle.vk_model.specs.Log.{commands}
use Rattle.barriers.specs.declared.tracker.Tracker.{Tracker}
use Rattle.barriers.specs.Licence.{Accessed, Fenced, fenced_by}
use Rattle.barriers.specs.Trackers.{due_by, taken}
use Rattle.barriers.specs.Logs.{uses_in}
use Rattle.barriers.specs.Recording.{barrier_node}
use Rattle.front_model.proofs.Tracking.{by_none}
use Rattle.submit_queue.specs.Histories.{last_number}
use Rattle.back_core.specs.Own.{batches_of, last_use}
use Rattle.back_core.specs.Link.{Link, put}
use Rattle.back_core.specs.Needs.{IsOfGroup}
use Rattle.front_model.specs.declared.object.Object.{Object}
use Rattle.front_model.specs.Face.{Stored, Face, outline, outline_at, nodes_touch}
use Rattle.front_model.specs.Stands.{Hands, Holds, use_of}
use Rattle.front_model.specs.Steps.{noted_store, with_nodes}
use Rattle.front_model.proofs.Base.{put-same, put-other}
use Rattle.front_moves.specs.Objects.{key_of, stored_of, objects_of, used, fenced_in, with_use, ChangesOne}
use Rattle.front_moves.specs.Core.{CoreParts, face, last_in, pending_in}
use Rattle.front_moves.proofs.Keys.{object_at}
use Rattle.front_moves.proofs.ObjectStores.{stored_at}
use Rattle.front_moves.specs.Recording.{IsNextSerial, IsRecorded, IsAccessed, IsOpened}

-- What is pending

pending_at : (group : ℕ) (lists : List (List Node)) (index place : ℕ) → IsOfGroup group index → place + 8 * group ≡ index → pending_in group lists index ≡ slice_index_or lists place []
pending_at group lists index place own is =
    let at : index - 8 * group ≡ place = omega (arith, is) in
    cond-true (in_range (8 * group) 8 index) (slice_index_or lists (index - 8 * group) []) []
    (and_from (nat_le (8 * group) index) (nat_lt index (8 * group + 8)) (le-leb (8 * group) index own.0) (lt-ltb index (8 * group + 8) own.1))
    ∙ ap (λ k. slice_index_or lists k []) at

pending_recorded : (group : ℕ) (lists : List (List Node)) (index place : ℕ) (nodes : List Node) → IsOfGroup group index → place + 8 * group ≡ index → length lists ≡ 8 →
    pending_in group (slice_set lists place (slice_index_or lists place [] ++ nodes)) ≡ put (pending_in group lists) index (pending_in group lists index ++ nodes)
pending_recorded group lists index place nodes own is eight = fun_ext (λ i. go i (cases_eq i index))
  where
    new : List (List Node)
    new = slice_set lists place (slice_index_or lists place [] ++ nodes)

    both : List Node
    both = pending_in group lists index ++ nodes

    here : pending_in group new index ≡ both
    here =
        pending_at group new index place own is
        ∙ get_or-set_same lists place (slice_index_or lists place [] ++ nodes) [] (let last : index < 8 * group + 8 = own.1 in omega (arith, last, is, eight))
        ∙ ap (λ l. l ++ nodes) (sym (pending_at group lists index place own is))

    there : (i : ℕ) → i ≢ index → (t : Bool) → in_range (8 * group) 8 i ≡ t → cond t (slice_index_or new (i - 8 * group) []) [] ≡ cond t (slice_index_or lists (i - 8 * group) []) []
    there i ne true inside =
        let first : 8 * group ≤ i = leb-true (8 * group) i (and_parts (nat_le (8 * group) i) (nat_lt i (8 * group + 8)) inside).0 in
        get_or-set_other lists place (i - 8 * group) (slice_index_or lists place [] ++ nodes) [] (λ e. ne (omega (arith, e, is, first)))
    there i ne false inside = refl

    go : (i : ℕ) → (i ≡ index) ⊎ (i ≡ index → ⊥) → pending_in group new i ≡ put (pending_in group lists) index both i
    go i (inl e) = subst (λ k. pending_in group new k ≡ put (pending_in group lists) index both k) (sym e) (here ∙ sym (put-same (pending_in group lists) index both))
    go i (inr ne) = there i ne (in_range (8 * group) 8 i) refl ∙ sym (put-other (pending_in group lists) index both i ne)

-- Uses

-- a noted number that is above the one that was there
uses_noted : (x : ObjectStore) (serial : QueueSerial) (i : ℕ) → number_of x.uses serial.index ≤ serial.number → number_of (noted x.uses serial) i ≡ cond (i == serial.index) serial.number (number_of x.uses i)
uses_noted x serial i low = number_of-noted x.uses serial i ∙ go (cases_eq i serial.index)
  where
    go : (i ≡ serial.index) ⊎ (i ≡ serial.index → ⊥) → cond (serial.index == i) (max (number_of x.uses i) serial.number) (number_of x.uses i) ≡ cond (i == serial.index) serial.number (number_of x.uses i)
    go (inl e) =
        let low_here : number_of x.uses i ≤ serial.number = subst (λ k. number_of x.uses k ≤ serial.number) (sym e) low in
        let most : max (number_of x.uses i) serial.number ≡ serial.number = omega (arith, low_here) in
        cond-true (serial.index == i) (max (number_of x.uses i) serial.number) (number_of x.uses i) (eq-eqb serial.index i (sym e))
        ∙ most ∙ sym (cond-true (i == serial.index) serial.number (number_of x.uses i) (eq-eqb i serial.index e))
    go (inr ne) =
        cond-false (serial.index == i) (max (number_of x.uses i) serial.number) (number_of x.uses i) (ne_eqb serial.index i (λ e. ne (sym e)))
        ∙ sym (cond-false (i == serial.index) serial.number (number_of x.uses i) (ne_eqb i serial.index ne))

and_true : (b : Bool) → (b && true) ≡ b
and_true true = refl
and_true false = refl

store_noted : (x : ObjectStore) (serial : QueueSerial) (nodes : List Node) (t : Bool) → nodes_touch nodes x.handle.0 ≡ t → number_of x.uses serial.index ≤ serial.number →
    option_map stored_of (cond t (Some (with_use serial nodes x)) (Some x)) ≡ Some (noted_store serial.index serial.number nodes (stored_of x))
store_noted x serial nodes t touch low = go t touch
  where
    with_uses : (ℕ → ℕ) → Tracker → Option Stored
    with_uses u t = Some (record { handle = x.handle.0; slot = record { kind = x.kind; used = u; tracker = t }; waiting = [] })

    go : (t : Bool) → nodes_touch nodes x.handle.0 ≡ t → option_map stored_of (cond t (Some (with_use serial nodes x)) (Some x)) ≡ Some (noted_store serial.index serial.number nodes (stored_of x))
    go true touch = ap (λ u. with_uses u (fold taken x.tracker (uses_in (commands 0 nodes) x.handle.0))) (fun_ext (λ i. uses_noted x serial i low
        ∙ sym (ap (λ b. cond b serial.number (number_of x.uses i)) (ap (λ b. (i == serial.index) && b) touch ∙ and_true (i == serial.index)))))
    go false touch =
        ap (with_uses (number_of x.uses)) (sym (ap (fold taken x.tracker) (by_none nodes x.handle.0 touch)))
        ∙ ap (λ u. with_uses u (fold taken x.tracker (uses_in (commands 0 nodes) x.handle.0))) (fun_ext (λ i. sym (cond-false ((i == serial.index) && nodes_touch nodes x.handle.0) serial.number (number_of x.uses i) (and_right (i == serial.index) (nodes_touch nodes x.handle.0) touch))))

objects_recorded : (old new : Entries ObjectStore) (serial : QueueSerial) (nodes : List Node) (touched : ℕ → Bool) →
    ((b : ℕ) → entry b new ≡ cond (touched b) (option_map (with_use serial nodes) (entry b old)) (entry b old)) →
    ((b : ℕ) (x : ObjectStore) → entry b old ≡ Some x → nodes_touch nodes x.handle.0 ≡ touched b) →
    ((b : ℕ) (x : ObjectStore) → entry b old ≡ Some x → number_of x.uses serial.index ≤ serial.number) →
    objects_of new ≡ (λ o. option_map (noted_store serial.index serial.number nodes) (objects_of old o))
objects_recorded old new serial nodes touched are touch low = fun_ext go
  where
    none : (t : Bool) → option_map stored_of (cond t None None) ≡ None
    none true = refl
    none false = refl

    at : (b : ℕ) (v : Option ObjectStore) → entry b old ≡ v → option_map stored_of (cond (touched b) (option_map (with_use serial nodes) v) v) ≡ option_map (noted_store serial.index serial.number nodes) (option_map stored_of v)
    at b None is = none (touched b)
    at b (Some x) is = store_noted x serial nodes (touched b) (touch b x is) (low b x is)

    go : (o : Object) → objects_of new o ≡ option_map (noted_store serial.index serial.number nodes) (objects_of old o)
    go o = ap (option_map stored_of) (are (key_of o)) ∙ at (key_of o) (entry (key_of o) old) refl

-- a last use is at most the next number
use_low : (f : Face) (hands : Hands) (s : Link) (index id : ℕ) → Holds f hands s → IsOfGroup f.group index → use_of f s id index ≤ f.last index + 1
use_low f hands s index id h own = go (nodes_touch (f.pending index) id)
  where
    go : (t : Bool) → cond t (f.last index + 1) (last_use s.mine index id) ≤ f.last index + 1
    go true = omega arith
    go false =
        let low : last_use s.mine index id ≤ last_number (batches_of s.mine) index = h.low index id in
        let last : f.last index ≡ last_number (batches_of s.mine) index = h.last index own in
        omega (arith, low, last)

pub face_recorded : (c d : CoreParts) (hands : Hands) (s : Link) (place : ℕ) (nodes : List Node) (serial : QueueSerial) (touched : ℕ → Bool) → Holds (face c) hands s → IsNextSerial c place serial → IsRecorded c d place nodes serial touched →
    ((b : ℕ) (x : ObjectStore) → entry b c.stores ≡ Some x → nodes_touch nodes x.handle.0 ≡ touched b) → face d ≡ with_nodes (face c) serial.index nodes
face_recorded c d hands s place nodes serial touched h next r touch =
    ap (λ i. record { group = i.group; last = last_in i; pending = pending_in i.group d.pending; objects = objects_of d.stores }) r.indexes
    ∙ ap (λ p. record { group = c.indexes.group; last = last_in c.indexes; pending = p; objects = objects_of d.stores })
    (ap (pending_in c.indexes.group) r.pending ∙ pending_recorded c.indexes.group c.pending serial.index place nodes next.group next.place_is r.eight)
    ∙ ap (λ o. record { group = c.indexes.group; last = last_in c.indexes; pending = put (pending_in c.indexes.group c.pending) serial.index (pending_in c.indexes.group c.pending serial.index ++ nodes); objects = o })
    (objects_recorded c.stores d.stores serial nodes touched r.stores touch low
    ∙ ap (λ n. λ o. option_map (noted_store serial.index n nodes) (objects_of c.stores o)) next.next)
  where
    low : (b : ℕ) (x : ObjectStore) → entry b c.stores ≡ Some x → number_of x.uses serial.index ≤ serial.number
    low b x is =
        let used : number_of x.uses serial.index ≡ use_of (face c) s x.handle.0 serial.index = (h.objects (object_at b) (stored_of x) (stored_at c.stores b x is)).slot.used serial.index in
        let most : use_of (face c) s x.handle.0 serial.index ≤ (face c).last serial.index + 1 = use_low (face c) hands s serial.index x.handle.0 h next.group in
        let number : serial.number ≡ (face c).last serial.index + 1 = next.next in
        omega (arith, used, most, number)

-- Outlines are as before

pub outlines_recorded : (f : Face) (index : ℕ) (nodes : List Node) → outline_at (with_nodes f index nodes) ≡ outline_at f
outlines_recorded f index nodes = fun_ext (λ o. go (f.objects o))
  where
    go : (v : Option Stored) → option_map outline (option_map (noted_store index (f.last index + 1) nodes) v) ≡ option_map outline v
    go None = refl
    go (Some b) = refl

-- The accesses that stores took in are those by the nodes

-- what a list of nodes is to a store that they touch is this access, behind what was due before it
abbrev pub IsAccessBy : List Node → ObjectStore → Access → Type 0
IsAccessBy nodes x access = uses_in (commands 0 nodes) x.handle.0 ≡ fenced_by (due_by x.tracker (access_of x.handle access)) ++ Accessed access ∷ []

used_by_nodes : (x : ObjectStore) (serial : QueueSerial) (nodes : List Node) (access : Access) → IsAccessBy nodes x access → used access serial x ≡ with_use serial nodes x
used_by_nodes x serial nodes access is = ap (λ us. record x { uses = noted x.uses serial; tracker = fold taken x.tracker us }) (sym is)

pub accessed_recorded : (c d : CoreParts) (place : ℕ) (nodes : List Node) (serial : QueueSerial) (touched : ℕ → Bool) (access : ℕ → Access) → IsAccessed c d place nodes serial touched access →
    ((b : ℕ) (x : ObjectStore) → entry b c.stores ≡ Some x → touched b ≡ true → IsAccessBy nodes x (access b)) → IsRecorded c d place nodes serial touched
accessed_recorded c d place nodes serial touched access r by = record { indexes = r.indexes; eight = r.eight; pending = r.pending; stores = λ b. r.stores b ∙ at b (touched b) refl (entry b c.stores) refl }
  where
    at : (b : ℕ) (t : Bool) → touched b ≡ t → (v : Option ObjectStore) → entry b c.stores ≡ v → cond t (option_map (used (access b) serial) v) v ≡ cond t (option_map (with_use serial nodes) v) v
    at b true is None at_b = refl
    at b true is (Some x) at_b = ap Some (used_by_nodes x serial nodes (access b) (by b x at_b is))
    at b false is v at_b = refl

pub opened_recorded : (c d : CoreParts) (place : ℕ) (barrier : Barrier) (serial : QueueSerial) (b : ℕ) → IsOpened c d place barrier serial b →
    ((x : ObjectStore) → entry b c.stores ≡ Some x → uses_in (commands 0 (barrier_node barrier ∷ [])) x.handle.0 ≡ Fenced barrier ∷ []) →
    IsRecorded c d place (barrier_node barrier ∷ []) serial (λ k. k == b)
opened_recorded c d place barrier serial b r by = record { indexes = r.indexes; eight = r.eight; pending = r.pending; stores = λ k. r.stores k ∙ at k (k == b) refl (entry k c.stores) refl }
  where
    at : (k : ℕ) (t : Bool) → (k == b) ≡ t → (v : Option ObjectStore) → entry k c.stores ≡ v → cond t (option_map (fenced_in serial barrier) v) v ≡ cond t (option_map (with_use serial (barrier_node barrier ∷ [])) v) v
    at k true is None at_k = refl
    at k true is (Some x) at_k = ap (λ us. Some (record x { uses = noted x.uses serial; tracker = fold taken x.tracker us })) (sym (by x (ap (λ i. entry i c.stores) (sym (eqb-true k b is)) ∙ at_k)))
    at k false is v at_k = refl

-- What was pushed and taken in

pub accessed_from : (old : CoreParts) (indexes : IndexTable) (was now : List (List Node)) (had have : Entries ObjectStore) (place : ℕ) (nodes : List Node) (serial : QueueSerial) (touched : ℕ → Bool) (access : ℕ → Access) →
    record { indexes = indexes; pending = was; stores = had } ≡ old → length was ≡ 8 → now ≡ slice_set was place (slice_index_or was place [] ++ nodes) →
    ((b : ℕ) → entry b have ≡ cond (touched b) (option_map (used (access b) serial) (entry b had)) (entry b had)) →
    IsAccessed old (record { indexes = indexes; pending = now; stores = have }) place nodes serial touched access
accessed_from old indexes was now had have place nodes serial touched access is eight pending stores =
    subst (λ (p : CoreParts). IsAccessed p (record { indexes = indexes; pending = now; stores = have }) place nodes serial touched access) is
    (record { indexes = refl; eight = eight; pending = pending; stores = stores })

pub opened_from : (old : CoreParts) (indexes : IndexTable) (was now : List (List Node)) (had have : Entries ObjectStore) (place : ℕ) (barrier : Barrier) (serial : QueueSerial) (b : ℕ) →
    record { indexes = indexes; pending = was; stores = had } ≡ old → length was ≡ 8 → now ≡ slice_set was place (slice_index_or was place [] ++ barrier_node barrier ∷ []) →
    ChangesOne b (fenced_in serial barrier) had have → IsOpened old (record { indexes = indexes; pending = now; stores = have }) place barrier serial b
opened_from old indexes was now had have place barrier serial b is eight pending stores =
    subst (λ (p : CoreParts). IsOpened p (record { indexes = indexes; pending = now; stores = have }) place barrier serial b) is
    (record { indexes = refl; eight = eight; pending = pending; stores = stores })
