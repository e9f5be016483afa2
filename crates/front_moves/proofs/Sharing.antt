-- What is pending in another context and at most reads an object does not conflict with a copy that reads it too.
use Rattle.std.proofs.Common.{◌≡◌, ◌≢◌, ℕ, Bool, true, false, cond, eqb, List, [], ◌∷◌, ◌++◌, fold, refl, sym, ◌∙◌, ap, subst, inl, inr}
use Rattle.std.specs.Prelude.{◌⊎◌, ◌==◌, ◌||◌, not, map, Option, Some, None}
use Rattle.std.specs.List.{list_any, filter, flat_map, AllByRecursion}
use Rattle.std.specs.Option.{option_map_or}
use Rattle.std.proofs.lemmas.Bool.{false≢true, both_ways, cases_Bool, eq-eqb, eqb-true, or_left, or_parts, or_cases, false_from_ne_true}
use Rattle.std.proofs.lemmas.List.{append_assoc}
use Rattle.std.proofs.lemmas.List.Sums.{fold-append}
use Rattle.std.proofs.lemmas.List.Folds.{list_any-append}
use Rattle.std.proofs.lemmas.List.Elements.{recursion_from_All}
use Rattle.vk_types.specs.declared.accesses.Access.{Access}
use Rattle.vk_types.specs.declared.handles.HandleId.{HandleId}
use Rattle.vk_types.specs.declared.regions.Barrier.{Barrier}
use Rattle.vk_types.specs.declared.regions.Touch.{Touch}
use Rattle.vk_types.specs.declared.ops.Node.{Node}
use Rattle.vk_types.specs.Accesses.{transfer_read, transfer_write, in_common}
use Rattle.vk_types.specs.Touches.{barrier_of, part}
use Rattle.vk_model.specs.Log.{NoneEmpty, NoConflict, commands, conflict, conflict_on, touches_object}
use Rattle.vk_model.proofs.Clashes.{ConflictsOn, conflicts_on}
use Rattle.vk_model.proofs.ObjectTouches.{barrier_object}
use Rattle.barriers.specs.Licence.{Use, Accessed, accesses_after, since, last_barrier, writes, changes_layout, layout_now, first_layout, union, is_licensed, barrier_due}
use Rattle.barriers.specs.Trackers.{Tracks}
use Rattle.barriers.specs.Logs.{joint_access, uses_in}
use Rattle.barriers.specs.Recording.{handle, MayChangePlaces, node_for}
use Rattle.barriers.proofs.Due.{none_licensed}
use Rattle.barriers.proofs.Licences.{due_by_is}
use Rattle.barriers.proofs.Joint.{apart as reads_apart}
use Rattle.barriers.proofs.Places.{nodes_may, tracks_placed}
use Rattle.barriers.proofs.Uses.{use_of_access, use_of_none}
use Rattle.back_core.specs.Link.{Link}
use Rattle.back_core.specs.Needs.{IsOfGroup}
use Rattle.front_model.specs.Face.{Stored, Face, indexes_of, in_order, nodes_touch}
use Rattle.front_model.specs.Stands.{Hands, Holds, SlotStands, is_image_of, own_uses, uses_of}
use Rattle.front_model.proofs.Orders.{Split, split, before, behind, order_now, each-append, none_right, apart_left, apart_right, behind_all}
use Rattle.front_model.proofs.Tracking.{by_nodes-append}
use Rattle.front_moves.specs.Core.{IsReadTogether, NoneConflicts, read_touch}
use Rattle.front_moves.specs.Fences.{is_barrier_of, has_barrier}
use Rattle.front_moves.specs.Recording.{IsFence, behind_both}
use Rattle.front_moves.proofs.Recordable.{copy_node, apart_where, fence_touches}

-- what conflicts with no use at all does not touch the object
pub untouched : (nodes : List Node) (x : Stored) → NoneConflicts false nodes x → nodes_touch nodes x.handle ≡ false
untouched nodes x (inl none) = none
untouched nodes x (inr both) = absurd (false≢true both.0)

-- The nodes of one context, as uses that stand last

-- each node that touches the object is no barrier, and its access passes no test that none since the last barrier passes
abbrev TouchesSo : (Access → Bool) → ℕ → Node → Type 0
TouchesSo p id n = touches_object n id ≡ true → (barrier_of n ≡ None) × (p (joint_access n id) ≡ false)

each_so : (p : Access → Bool) (id : ℕ) (nodes : List Node) (so_far : List Access) → has_barrier nodes id ≡ false →
    list_any p (fold accesses_after so_far (uses_in (commands 0 nodes) id)) ≡ false → AllByRecursion (TouchesSo p id) nodes × (list_any p so_far ≡ false)
each_so p id [] so_far none clear = (tt, clear)
each_so p id (n ∷ nodes) so_far none clear = go (λ more still. each_so p id nodes more parts.1 still) (cases_Bool (touches_object n id))
  where
    parts : (is_barrier_of id n ≡ false) × (has_barrier nodes id ≡ false)
    parts = or_parts (is_barrier_of id n) (has_barrier nodes id) none

    Next : Type 0
    Next = (more : List Access) → list_any p (fold accesses_after more (uses_in (commands 0 nodes) id)) ≡ false → AllByRecursion (TouchesSo p id) nodes × (list_any p more ≡ false)

    barrier : Next → (o : Option Barrier) → barrier_of n ≡ o → touches_object n id ≡ true → AllByRecursion (TouchesSo p id) (n ∷ nodes) × (list_any p so_far ≡ false)
    barrier next (Some b) is on =
        let same : is_barrier_of id n ≡ true = ap (λ o. option_map_or (λ x. x.id.0 == id) o false) is ∙ eq-eqb b.id.0 id (barrier_object n b id is on) in
        absurd (both_ways (is_barrier_of id n) parts.0 same)
    barrier next None is on =
        let a : Access = joint_access n id in
        let rest = next (so_far ++ a ∷ []) (ap (λ us. list_any p (fold accesses_after so_far (us ++ uses_in (commands 0 nodes) id))) (sym (use_of_access 0 n id on is)) ∙ clear) in
        let two = or_parts (list_any p so_far) (list_any p (a ∷ [])) (sym (list_any-append p so_far (a ∷ [])) ∙ rest.1) in
        (((λ on. (is, (or_parts (p a) false two.1).0)), rest.0), two.0)

    go : Next → (touches_object n id ≡ true) ⊎ (touches_object n id ≡ false) → AllByRecursion (TouchesSo p id) (n ∷ nodes) × (list_any p so_far ≡ false)
    go next (inl on) = barrier next (barrier_of n) refl on
    go next (inr off) =
        let rest = next so_far (ap (λ us. list_any p (fold accesses_after so_far (us ++ uses_in (commands 0 nodes) id))) (sym (use_of_none 0 n id off)) ∙ clear) in
        (((λ on. absurd (both_ways (touches_object n id) off on)), rest.0), rest.1)

module _ (f : Face) (hands : Hands) (s : Link) (h : Holds f hands s) (i : ℕ) (own : IsOfGroup f.group i) (x : Stored) (slot : SlotStands f s x.handle x.slot) (read : IsReadTogether (f.pending i) x) where
  -- what the tracker knows, where the nodes of the context stand last
  last_tracked : Tracks x.slot.tracker (handle x.handle) (is_image_of s x.handle)
      (((flat_map (own_uses x.handle) s.mine ++ uses_in (commands 0 (before f.pending (indexes_of f.group) i (split f.group i own))) x.handle)
      ++ uses_in (commands 0 (behind f.pending (indexes_of f.group) i (split f.group i own))) x.handle) ++ uses_in (commands 0 (f.pending i)) x.handle)
  last_tracked =
      let id : ℕ = x.handle in
      let sp : Split (indexes_of f.group) i = split f.group i own in
      let xs : List Node = before f.pending (indexes_of f.group) i sp in
      let zs : List Node = behind f.pending (indexes_of f.group) i sp in
      let m : List Use = flat_map (own_uses id) s.mine in
      let a : List Use = uses_in (commands 0 xs) id in
      let b : List Use = uses_in (commands 0 (f.pending i)) id in
      let c : List Use = uses_in (commands 0 zs) id in
      let T : List Use → Type 0 = Tracks x.slot.tracker (handle id) (is_image_of s id) in
      let some : (j : ℕ) → AllByRecursion NoneEmpty (f.pending j) = λ j. recursion_from_All NoneEmpty (f.pending j) (h.none_empty j) in
      let some_z : AllByRecursion NoneEmpty zs = behind_all f.pending (indexes_of f.group) i sp (AllByRecursion NoneEmpty) tt (each-append NoneEmpty) (λ j ne. some j) in
      let apart : NoConflict (f.pending i) zs =
      behind_all f.pending (indexes_of f.group) i sp (NoConflict (f.pending i)) (none_right (f.pending i)) (apart_right (f.pending i)) (λ j ne. h.apart i j (λ e. ne (sym e))) in
      let may : MayChangePlaces b c = nodes_may id (f.pending i) zs (some i) some_z apart in
      let parts : uses_in (commands 0 (in_order f)) id ≡ a ++ (b ++ c) =
      ap (λ l. uses_in (commands 0 l) id) (order_now f.pending (indexes_of f.group) i sp)
      ∙ (by_nodes-append xs (f.pending i ++ zs) id ∙ ap (λ us. a ++ us) (by_nodes-append (f.pending i) zs id)) in
      tracks_placed x.slot.tracker (handle id) (is_image_of s id) (m ++ a) b c may
      (subst T (ap (λ us. m ++ us) parts ∙ (sym (append_assoc m a (b ++ c)) ∙ sym (append_assoc (m ++ a) b c))) slot.tracked)

  -- so each of them that touches the object only reads it
  pub each_reads : AllByRecursion (TouchesSo (λ access. writes access || writes transfer_read) x.handle) (f.pending i)
  each_reads =
      let id : ℕ = x.handle in
      let p : Access → Bool = λ access. writes access || writes transfer_read in
      let sp : Split (indexes_of f.group) i = split f.group i own in
      let front : List Use = (flat_map (own_uses id) s.mine ++ uses_in (commands 0 (before f.pending (indexes_of f.group) i sp)) id)
      ++ uses_in (commands 0 (behind f.pending (indexes_of f.group) i sp)) id in
      let last : List Use = uses_in (commands 0 (f.pending i)) id in
      let image : Bool = is_image_of s id in
      let none : barrier_due (handle id) image (front ++ last) (read_touch id) ≡ None =
      sym (due_by_is x.slot.tracker (handle id) image (front ++ last) last_tracked (read_touch id)) ∙ read.due in
      let free : is_licensed image (front ++ last) (read_touch id) ≡ false = none_licensed (handle id) image (front ++ last) (read_touch id) none in
      let outer = or_parts (changes_layout (layout_now (first_layout image) (front ++ last)) None || list_any p (since (front ++ last)))
      (option_map_or (λ barrier. not (in_common transfer_read barrier.second)) (last_barrier (front ++ last)) false) free in
      let inner = or_parts (changes_layout (layout_now (first_layout image) (front ++ last)) None) (list_any p (since (front ++ last))) outer.0 in
      (each_so p id (f.pending i) (since front) read.none (ap (list_any p) (sym (fold-append accesses_after [] front last)) ∙ inner.1)).0

-- A copy from the object

copy_reads : (src dst : HandleId) (src_at dst_at size id : ℕ) → (dst.0 == id) ≡ false → writes (joint_access (copy_node src src_at dst dst_at size) id) ≡ false
copy_reads src dst src_at dst_at size id other = go (src.0 == id) (dst.0 == id) other
  where
    go : (p q : Bool) → q ≡ false →
        writes (union (map (λ (t : Touch). t.access) (cond p (part src src_at size transfer_read ∷ cond q (part dst dst_at size transfer_write ∷ []) []) (cond q (part dst dst_at size transfer_write ∷ []) [])))) ≡ false
    go true false e = refl
    go false false e = refl
    go p true e = absurd (false≢true (sym e))

-- nothing in a list conflicts with it that touches the target nowhere, and reads the source at most
reads_with : (src dst : HandleId) (src_at dst_at size : ℕ) (p : Access → Bool) → ((a : Access) → p a ≡ false → writes a ≡ false) → (nodes : List Node) →
    AllByRecursion (TouchesSo p src.0) nodes → nodes_touch nodes dst.0 ≡ false → AllByRecursion (λ m. conflict (copy_node src src_at dst dst_at size) m ≡ false) nodes
reads_with src dst src_at dst_at size p unwritten [] so off = tt
reads_with src dst src_at dst_at size p unwritten (m ∷ nodes) so off =
    (false_from_ne_true (conflict copy m) (λ e. apart (conflicts_on copy m e)), reads_with src dst src_at dst_at size p unwritten nodes so.1 parts.1)
  where
    copy : Node
    copy = copy_node src src_at dst dst_at size

    parts : (touches_object m dst.0 ≡ false) × (nodes_touch nodes dst.0 ≡ false)
    parts = or_parts (touches_object m dst.0) (nodes_touch nodes dst.0) off

    apart : ConflictsOn (copy_node src src_at dst dst_at size) m → ⊥
    apart k = to (cases_Bool (dst.0 == k.id))
      where
        to : ((dst.0 == k.id) ≡ true) ⊎ ((dst.0 == k.id) ≡ false) → ⊥
        to (inl is) = both_ways (touches_object m dst.0) parts.0 (ap (touches_object m) (eqb-true dst.0 k.id is) ∙ k.by_b)
        to (inr other) =
            let from : src.0 ≡ k.id = eqb-true src.0 k.id (only (src.0 == k.id) (dst.0 == k.id) other k.by_a) in
            let reads = so.0 (ap (touches_object m) from ∙ k.by_b) in
            both_ways (conflict_on k.id (copy_node src src_at dst dst_at size) m)
            (subst (λ i. conflict_on i (copy_node src src_at dst dst_at size) m ≡ false) from
            (reads_apart src.0 (copy_node src src_at dst dst_at size) m refl reads.0
            (copy_reads src dst src_at dst_at size src.0 (ap (λ i. dst.0 == i) from ∙ other)) (unwritten (joint_access m src.0) reads.1)))
            k.on
          where
            only : (a b : Bool) → b ≡ false → (a || (b || false)) ≡ true → a ≡ true
            only true b e f = refl
            only false true e f = absurd (false≢true (sym e))
            only false false e f = f

-- A copy behind the barrier that is due before its target does not conflict with what is pending in another context, where that touches
-- its target nowhere and may stand beside a read of its source.
pub copy_apart : (f : Face) (hands : Hands) (s : Link) (i : ℕ) → Holds f hands s → IsOfGroup f.group i → (src dst : HandleId) (src_at dst_at size : ℕ) (other : Option Barrier) → IsFence dst other →
    (x : Stored) → SlotStands f s x.handle x.slot → x.handle ≡ src.0 → IsReadTogether (f.pending i) x → nodes_touch (f.pending i) dst.0 ≡ false →
    NoConflict (behind_both None other (copy_node src src_at dst dst_at size)) (f.pending i)
copy_apart f hands s i h own src dst src_at dst_at size other fence x slot is read off =
    apart_left (node_for other) (copy_node src src_at dst dst_at size ∷ []) (f.pending i)
    (apart_where (node_for other) (f.pending i) (λ id touch. subst (λ j. nodes_touch (f.pending i) j ≡ false) (eqb-true dst.0 id (fence_touches dst other fence id touch)) off)) (
      reads_with src dst src_at dst_at size (λ access. writes access || writes transfer_read) (λ a none. (or_parts (writes a) (writes transfer_read) none).0) (f.pending i)
          (subst (λ id. AllByRecursion (TouchesSo (λ access. writes access || writes transfer_read) id) (f.pending i)) is (each_reads f hands s h i own x slot read)) off,
      tt,
    )
