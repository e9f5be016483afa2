use Rattle.vk_types.specs.declared.ops.Node.{Node}
use Rattle.front_moves.specs.Recording.{HasBuffer, IsFence, IsDueBefore, IsRecorded, behind_both, copy_access}
use Rattle.std.proofs.Common.{◌≡◌, ◌≢◌, ℕ, ◌==◌, true, false, List, refl, sym, ◌∙◌, ap, subst, inl, inr}
use Rattle.std.specs.Prelude.{◌||◌, ◌⊎◌, not, Option, Some, None, IfSome}
use Rattle.std.proofs.lemmas.Bool.{false≢true, eq-eqb}
use Rattle.vk_types.specs.declared.regions.Barrier.{Barrier}
use Rattle.vk_types.specs.Accesses.{transfer_read}
use Rattle.vk_model.specs.Log.{NoConflict}
use Rattle.barriers.specs.Trackers.{due_by}
use Rattle.back_core.specs.Link.{Link}
use Rattle.back_core.specs.Needs.{IsOfGroup}
use Rattle.front_model.proofs.LinkSteps.{own_or_not}
use Rattle.front_model.proofs.Orders.{none_right}
use Rattle.vk_types.specs.declared.handles.HandleId.{HandleId}
use Rattle.tables.specs.Table.{entry}
use Rattle.object_helper.specs.Objects.{ObjectStore, access_of}
use Rattle.front_model.specs.declared.object.Object.TheVariants.{Buffer}
use Rattle.front_model.specs.Face.{Face, outline_at, view, nodes_touch}
use Rattle.front_model.specs.Stands.{Holds, IsQuiet, no_hands}
use Rattle.front_model.specs.Steps.{MayRecord, with_nodes}
use Rattle.front_moves.specs.Objects.{key_of, stored_of}
use Rattle.front_moves.proofs.Keys.{same_key}
use Rattle.front_moves.specs.Core.{CoreParts, face, IsReadTogether, NoneConflicts}
use Rattle.front_moves.proofs.Recorded.{accessed_recorded, face_recorded, outlines_recorded}
use Rattle.front_moves.proofs.Dues.{Copied, copied}
use Rattle.front_moves.proofs.Recordable.{copy_node, copy_touches, copy_where, copy_may, IsFree}
use Rattle.front_moves.proofs.Sharing.{copy_apart}
use Rattle.front_moves.proofs.ObjectStores.{IsStore, store_of, store_at, Distinct, handle_is, other_handle, buffer_free, buffer_parted}
use Rattle.front_moves.proofs.recording_comes_to.copy_comes_to.Goals as goal

-- stores of one buffer are one object
one_store : (c : CoreParts) (a b : ℕ) (from to : HandleId) (m n : ℕ) → Distinct c → IsStore c a from m → IsStore c b to n → from.0 ≡ to.0 → a ≡ b
one_store c a b from to m n distinct x y e =
    let same : Buffer a ≡ Buffer b = distinct (Buffer a) (Buffer b) (stored_of x.store) (stored_of y.store) (store_at c a x.store x.is) (store_at c b y.store y.is) (x.handle ∙ e ∙ sym y.handle) in
    cc

-- and one buffer has one object
one_object : (c : CoreParts) (a b : ℕ) (from to : HandleId) (m n : ℕ) → IsStore c a from m → IsStore c b to n → a ≡ b → from.0 ≡ to.0
one_object c a b from to m n x y e =
    let same : Some x.store ≡ Some y.store = sym x.is ∙ (ap (λ n. entry (key_of (Buffer n)) c.stores) e ∙ y.is) in
    let one : x.store ≡ y.store = cc in
    sym x.handle ∙ (ap (λ (z : ObjectStore). z.handle.0) one ∙ y.handle)

-- buffers under one key are one
same_number : (a b : ℕ) → key_of (Buffer a) ≡ key_of (Buffer b) → a ≡ b
same_number a b e = let same : Buffer a ≡ Buffer b = same_key (Buffer a) (Buffer b) e in cc

-- the copy and the barriers before it do not conflict with what is pending in another context
copy_parted : (c : CoreParts) (s : Link) (index src src_at dst dst_at size src_len dst_len : ℕ) (from to : HandleId) (one other : Option Barrier) → Holds (face c) no_hands s →
    HasBuffer (not (src == dst)) c index src from src_len → HasBuffer false c index dst to dst_len → IsStore c src from src_len → IsStore c dst to dst_len → IsDueBefore (key_of (Buffer src)) (key_of (Buffer dst)) c.stores one other →
    IsFence from one → IsFence to other → (i : ℕ) → i ≢ index → NoConflict (behind_both one other (copy_node from src_at to dst_at size)) ((face c).pending i)
copy_parted c s index src src_at dst dst_at size src_len dst_len from to one other h at_src at_dst a b due first second i ne =
    go (at_src.parted i ne (stored_of a.store) at_store) (own_or_not (face c).group i)
  where
    nodes : List Node
    nodes = behind_both one other (copy_node from src_at to dst_at size)

    at_store : (face c).objects (Buffer src) ≡ Some (stored_of a.store)
    at_store = store_at c src a.store a.is

    off : nodes_touch ((face c).pending i) to.0 ≡ false
    off = buffer_parted c index dst to dst_len i at_dst b ne

    none_due : not (src == dst) ≡ true → IsReadTogether ((face c).pending i) (stored_of a.store) → one ≡ None
    none_due reads together =
        subst (λ o. IfSome o (λ x. one ≡ due_by x.tracker (access_of x.handle transfer_read))) a.is
        (due.source (λ same. false≢true (sym (ap not (eq-eqb src dst (same_number src dst same))) ∙ reads)))
        ∙ together.due

    go : NoneConflicts (not (src == dst)) ((face c).pending i) (stored_of a.store) → IsOfGroup (face c).group i ⊎ (IsOfGroup (face c).group i → ⊥) → NoConflict nodes ((face c).pending i)
    go (inl none) group =
        copy_where one other from src_at to dst_at size ((face c).pending i) first second (subst (λ j. nodes_touch ((face c).pending i) j ≡ false) a.handle none) off
    go (inr both) (inl own) =
        subst (λ o. NoConflict (behind_both o other (copy_node from src_at to dst_at size)) ((face c).pending i)) (sym (none_due both.0 both.1))
        (copy_apart (face c) no_hands s i h own from to src_at dst_at size other second (stored_of a.store) (h.objects (Buffer src) (stored_of a.store) at_store).slot a.handle both.1 off)
    go (inr both) (inr far) = subst (NoConflict nodes) (sym (h.of_group i far)) (none_right nodes)

pub returns : goal.returns
returns l = record {
  moved = λ c d s place src src_at dst dst_at size src_len dst_len serial from to one other h next at_src at_dst src_in dst_in some apart due accessed.
      let f : Face = face c in
      let n : Node = copy_node from src_at to dst_at size in
      let nodes = behind_both one other n in
      let distinct : Distinct c = λ o q x y. l.steps_may.ensures.distinct f no_hands s o q x y h in
      let a : IsStore c src from src_len = store_of (not (src == dst)) c serial.index src from src_len at_src in
      let b : IsStore c dst to dst_len = store_of false c serial.index dst to dst_len at_dst in
      let free_a : IsFree f no_hands s from src_at size = buffer_free (not (src == dst)) c no_hands s serial.index src from src_len src_at size h at_src a some src_in in
      let free_b : IsFree f no_hands s to dst_at size = buffer_free false c no_hands s serial.index dst to dst_len dst_at size h at_dst b some dst_in in
      let laws = l.due_nodes_may_be_recorded.ensures in
      let copied' : Copied c s (key_of (Buffer src)) (key_of (Buffer dst)) one other from to n =
      copied laws.told l.due_barriers_fit.ensures.of l.due_barriers_fit.ensures.layouts laws.node laws.behind c no_hands s h src dst one other from to src_at dst_at size src_len dst_len a b due
      (λ e. one_object c src dst from to src_len dst_len a b (same_number src dst e)) (λ e. ap (λ n. key_of (Buffer n)) (one_store c src dst from to src_len dst_len distinct a b e)) in
      let recorded : IsRecorded c d place nodes serial (λ k. (k == key_of (Buffer src)) || (k == key_of (Buffer dst))) = accessed_recorded c d place nodes serial (λ k. (k == key_of (Buffer src)) || (k == key_of (Buffer dst))) (copy_access (key_of (Buffer src)) (key_of (Buffer dst))) accessed copied'.accesses in
      let may : MayRecord f no_hands s serial.index nodes =
      copy_may f no_hands s serial.index one other from src_at to dst_at size next.group next.few copied'.ordered copied'.first copied'.second some free_a free_b
      (copy_parted c s serial.index src src_at dst dst_at size src_len dst_len from to one other h at_src at_dst a b due copied'.first copied'.second)
      (λ e. apart (one_store c src dst from to src_len dst_len distinct a b e)) in
      let touch : (k : ℕ) (x : ObjectStore) → entry k c.stores ≡ Some x → nodes_touch nodes x.handle.0 ≡ ((k == key_of (Buffer src)) || (k == key_of (Buffer dst))) =
      λ k x is. copy_touches one other from src_at to dst_at size x.handle.0 copied'.first copied'.second
      ∙ ap (λ t. t || (to.0 == x.handle.0)) (handle_is c k src from src_len x distinct a is)
      ∙ ap (λ t. (k == key_of (Buffer src)) || t) (handle_is c k dst to dst_len x distinct b is) in
      let same : face d ≡ with_nodes f serial.index nodes = face_recorded c d no_hands s place nodes serial (λ k. (k == key_of (Buffer src)) || (k == key_of (Buffer dst))) h next recorded touch in
      record {
        holds = subst (λ g. Holds g no_hands s) (sym same) (l.steps_hold.ensures.records f no_hands s serial.index nodes h may);
        view_is = ap (λ g. view g s) same
            ∙ l.front_steps_show.ensures.copies f no_hands s serial.index nodes (Buffer src) (Buffer dst) (stored_of a.store) (stored_of b.store) from to src_at dst_at size h may copied'.behind
            (store_at c src a.store a.is) refl a.handle (store_at c dst b.store b.is) refl b.handle free_a.end free_b.end;
        outlines_are = ap outline_at same ∙ outlines_recorded f serial.index nodes;
        still = λ o stays. let quiet : IsQuiet f s o = stays.0.0 in
            subst (λ g. IsQuiet g s o) (sym same) (l.quiet_objects_stay.ensures.records f s o serial.index nodes quiet
            (copy_touches one other from src_at to dst_at size quiet.stored.handle copied'.first copied'.second
            ∙ ap (λ t. t || (to.0 == quiet.stored.handle)) (other_handle c src from src_len o quiet.stored distinct a quiet.is stays.1)
            ∙ other_handle c dst to dst_len o quiet.stored distinct b quiet.is stays.0.1));
      };
}
