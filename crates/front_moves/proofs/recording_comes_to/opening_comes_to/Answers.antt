use Rattle.front_moves.specs.Objects.{key_of, fenced_in}
use Rattle.std.specs.Prelude.{IfSome, Option, Some, None}
use Rattle.std.specs.List.{AllByRecursion}
use Rattle.std.specs.Option.{option_map}
use Rattle.vk_types.specs.declared.regions.Barrier.{Barrier}
use Rattle.vk_types.specs.declared.ops.Node.{Node}
use Rattle.vk_types.specs.Accesses.{host_read}
use Rattle.vk_model.specs.Log.{commands}
use Rattle.barriers.specs.Licence.{Fenced, barrier_due}
use Rattle.barriers.specs.Trackers.{due_by}
use Rattle.barriers.specs.Logs.{uses_in}
use Rattle.barriers.specs.Recording.{handle, node_for, barrier_node}
use Rattle.front_model.specs.Stands.{is_image_of, uses_of, host_touch}
use Rattle.front_model.specs.Steps.{noted_store, with_nodes, IsOrdered, KeepsContents, MayRecord}
use Rattle.front_model.proofs.Base.{map_is, put-other}
use Rattle.std.proofs.lemmas.Bool.{cond-true, eq-eqb}
use Rattle.std.proofs.Common.{List, inl}
use Rattle.back_core.specs.Link.{Link}
use Rattle.object_helper.specs.Objects.{ObjectStore, access_of}
use Rattle.front_moves.specs.Objects.{stored_of}
use Rattle.front_moves.specs.Core.{CoreParts, face, IsOpen, IsParted}
use Rattle.front_moves.specs.Recording.{IsNextSerial, HasBuffer, IsOpened, IsFence}
use Rattle.std.proofs.Common.{◌≡◌, ℕ, ◌+◌, ◌==◌, false, [], ◌∷◌, ◌++◌, refl, sym, ◌∙◌, ap, subst, inr}
use Rattle.vk_types.specs.declared.handles.HandleId.{HandleId}
use Rattle.vk_types.specs.declared.handles.Kind.TheVariants as kind
use Rattle.vk_types.specs.declared.batches.QueueSerial.{QueueSerial}
use Rattle.vk_model.specs.Fitting.{LayoutsFit}
use Rattle.tables.specs.Table.{Entries, entry}
use Rattle.front_model.specs.declared.object.Object.TheVariants.{Buffer}
use Rattle.front_model.specs.Face.{Stored, Face, outline_at, view, nodes_touch}
use Rattle.front_model.specs.Stands.{Holds, IsQuiet, no_hands}
use Rattle.front_moves.proofs.Recorded.{opened_recorded, face_recorded, outlines_recorded}
use Rattle.front_moves.proofs.Recordable.{barrier_touches, barrier_may}
use Rattle.front_moves.proofs.Fencing.{fence_use}
use Rattle.front_moves.proofs.Dues.{TellsDue, DueOf, DueLayouts, no_image, store_due, due_fence, some_host, if_there, opens}
use Rattle.front_moves.proofs.ObjectStores.{IsStore, store_of, store_at, Distinct, handle_is, other_handle, buffer_parted}
use Rattle.front_moves.proofs.Sharing.{untouched}
use Rattle.front_moves.proofs.recording_comes_to.opening_comes_to.Goals as goal

-- What the barrier is

record Opened (c : CoreParts) (s : Link) (b : ℕ) (id : HandleId) (barrier : Barrier) : Type 0 where
  fence : IsFence id (Some barrier)
  due : barrier_due (handle id.0) (is_image_of s id.0) (uses_of (face c) s id.0) (host_touch id.0) ≡ Some barrier
  image : is_image_of s id.0 ≡ false

opened : (tells : TellsDue) (of : DueOf) (layouts : DueLayouts) (c : CoreParts) (s : Link) (b len : ℕ) (id : HandleId) (barrier : Barrier) → Holds (face c) no_hands s → IsStore c b id len →
    IfSome (entry (key_of (Buffer b)) c.stores) (λ x. Some barrier ≡ due_by x.tracker (access_of x.handle host_read)) → Opened c s b id barrier
opened tells of layouts c s b len id barrier h at is =
    let told : Some barrier ≡ due_by at.store.tracker (access_of at.store.handle host_read) = if_there (λ x. Some barrier ≡ due_by x.tracker (access_of x.handle host_read)) (entry (key_of (Buffer b)) c.stores) at.store is at.is in
    let due : Some barrier ≡ barrier_due id (is_image_of s id.0) (uses_of (face c) s id.0) (access_of id host_read) = told ∙ store_due c no_hands s h tells b id len at host_read in
    let image : is_image_of s id.0 ≡ false = no_image c no_hands s h b id len at in
    record {
      fence = due_fence of layouts id (is_image_of s id.0) (uses_of (face c) s id.0) host_read image some_host (Some barrier) due;
      due = sym due;
      image = image;
    }

-- the front after the barrier
after : (c d : CoreParts) (s : Link) (place b len : ℕ) (serial : QueueSerial) (id : HandleId) (barrier : Barrier) → Holds (face c) no_hands s → Distinct c → IsNextSerial c place serial → (of : IsStore c b id len) → IsFence id (Some barrier) →
    IsOpened c d place barrier serial (key_of (Buffer b)) → face d ≡ with_nodes (face c) serial.index (barrier_node barrier ∷ [])
after c d s place b len serial id barrier h distinct next of fence was_opened =
    face_recorded c d no_hands s place (barrier_node barrier ∷ []) serial (λ k. k == key_of (Buffer b)) h next
    (opened_recorded c d place barrier serial (key_of (Buffer b)) was_opened
    (λ x is. let both : Some of.store ≡ Some x = sym of.is ∙ is in let one : of.store ≡ x = cc in
    subst (λ (y : ObjectStore). uses_in (commands 0 (barrier_node barrier ∷ [])) y.handle.0 ≡ Fenced barrier ∷ []) one (ap (uses_in (commands 0 (barrier_node barrier ∷ []))) of.handle ∙ fence_use id (Some barrier) fence)))
    (λ k x is. barrier_touches barrier id x.handle.0 (fence barrier refl).0 ∙ handle_is c k b id len x distinct of is)

still_parted : (c : CoreParts) (index b len : ℕ) (id : HandleId) (nodes : List Node) → HasBuffer false c index b id len → IsParted false (with_nodes (face c) index nodes) index (Buffer b)
still_parted c index b len id nodes has i ne x at =
    let from = map_is (noted_store index ((face c).last index + 1) nodes) ((face c).objects (Buffer b)) x at in
    inl (ap (λ l. nodes_touch l x.handle) (put-other (face c).pending index ((face c).pending index ++ nodes) i ne)
    ∙ subst (λ (y : Stored). nodes_touch ((face c).pending i) y.handle ≡ false) from.2 (untouched ((face c).pending i) from.0 (has.parted i ne from.0 from.1)))

is_open : (c d : CoreParts) (place b : ℕ) (serial : QueueSerial) (barrier : Barrier) → IfSome (entry (key_of (Buffer b)) c.stores) (λ x. Some barrier ≡ due_by x.tracker (access_of x.handle host_read)) → IsOpened c d place barrier serial (key_of (Buffer b)) → IsOpen (face d) (Buffer b)
is_open c d place b serial barrier is was_opened x at = go (entry (key_of (Buffer b)) c.stores) is (sym now ∙ at)
  where
    now : (face d).objects (Buffer b) ≡ option_map stored_of (option_map (fenced_in serial barrier) (entry (key_of (Buffer b)) c.stores))
    now = ap (option_map stored_of) (was_opened.stores (key_of (Buffer b)) ∙ cond-true (key_of (Buffer b) == key_of (Buffer b)) (option_map (fenced_in serial barrier) (entry (key_of (Buffer b)) c.stores)) (entry (key_of (Buffer b)) c.stores) (eq-eqb (key_of (Buffer b)) (key_of (Buffer b)) refl))

    go : (o : Option ObjectStore) → IfSome o (λ x. Some barrier ≡ due_by x.tracker (access_of x.handle host_read)) → option_map stored_of (option_map (fenced_in serial barrier) o) ≡ Some x → due_by x.slot.tracker (host_touch x.handle) ≡ None
    go None is e = cc
    go (Some y) is e =
        let both : stored_of (fenced_in serial barrier y) ≡ x = cc in
        subst (λ (z : Stored). due_by z.slot.tracker (host_touch z.handle) ≡ None) both (opens y.tracker y.handle barrier (sym is))

open_now : (c : CoreParts) (b : ℕ) → IfSome (entry (key_of (Buffer b)) c.stores) (λ x. None ≡ due_by x.tracker (access_of x.handle host_read)) → IsOpen (face c) (Buffer b)
open_now c b is x at = go (entry (key_of (Buffer b)) c.stores) is at
  where
    go : (o : Option ObjectStore) → IfSome o (λ x. None ≡ due_by x.tracker (access_of x.handle host_read)) → option_map stored_of o ≡ Some x → due_by x.slot.tracker (host_touch x.handle) ≡ None
    go None is e = cc
    go (Some y) is e = let both : stored_of y ≡ x = cc in subst (λ (z : Stored). due_by z.slot.tracker (host_touch z.handle) ≡ None) both (sym is)

pub returns : goal.returns
returns l = record {
  moved = λ c d s place b len serial id barrier h next has is was_opened.
      let f : Face = face c in
      let nodes : List Node = barrier_node barrier ∷ [] in
      let distinct : Distinct c = λ o q x y. l.steps_may.ensures.distinct f no_hands s o q x y h in
      let of : IsStore c b id len = store_of false c serial.index b id len has in
      let at = store_at c b of.store of.is in
      let laws = l.due_nodes_may_be_recorded.ensures in
      let o : Opened c s b id barrier = opened laws.told l.due_barriers_fit.ensures.of l.due_barriers_fit.ensures.layouts c s b len id barrier h of is in
      let kind_is : s.kinds id.0 ≡ Some (kind.Buffer len) = ap s.kinds (sym of.handle) ∙ l.steps_may.ensures.kinds f no_hands s (Buffer b) (stored_of of.store) h at ∙ ap Some of.is_buffer in
      let ordered : IsOrdered f s nodes = subst (λ d. IsOrdered f s (node_for d)) o.due (laws.host f no_hands s id.0 h o.image) in
      let keep : AllByRecursion KeepsContents nodes = subst (λ d. AllByRecursion KeepsContents (node_for d)) o.due (laws.keeps f s id.0 o.image) in
      let may : MayRecord f no_hands s serial.index nodes =
      barrier_may f no_hands s serial.index id barrier o.fence next.group next.few ordered (subst (λ k. LayoutsFit k None) (sym kind_is) refl)
      (inr (Buffer b, stored_of of.store, at, of.handle))
      (λ i ne. buffer_parted c serial.index b id len i has of ne) in
      let same : face d ≡ with_nodes f serial.index nodes = after c d s place b len serial id barrier h distinct next of o.fence was_opened in
      record {
        holds = subst (λ g. Holds g no_hands s) (sym same) (l.steps_hold.ensures.records f no_hands s serial.index nodes h may);
        view_is = ap (λ g. view g s) same ∙ l.front_steps_show.ensures.barriers f no_hands s serial.index nodes h may keep;
        outlines_are = ap outline_at same ∙ outlines_recorded f serial.index nodes;
        still = λ q stays. let quiet : IsQuiet f s q = stays.0 in
            subst (λ g. IsQuiet g s q) (sym same) (l.quiet_objects_stay.ensures.records f s q serial.index nodes quiet
            (barrier_touches barrier id quiet.stored.handle (o.fence barrier refl).0 ∙ other_handle c b id len q quiet.stored distinct of quiet.is stays.1));
      };
  behind = λ c d s place b len serial id barrier h next has is was_opened.
      let distinct : Distinct c = λ o q x y. l.steps_may.ensures.distinct (face c) no_hands s o q x y h in
      let of : IsStore c b id len = store_of false c serial.index b id len has in
      let o : Opened c s b id barrier = opened l.due_nodes_may_be_recorded.ensures.told l.due_barriers_fit.ensures.of l.due_barriers_fit.ensures.layouts c s b len id barrier h of is in
      let same : face d ≡ with_nodes (face c) serial.index (barrier_node barrier ∷ []) = after c d s place b len serial id barrier h distinct next of o.fence was_opened in (
        subst (λ g. IsParted false g serial.index (Buffer b)) (sym same) (still_parted c serial.index b len id (barrier_node barrier ∷ []) has),
        is_open c d place b serial barrier is was_opened,
      );
  already = λ c s index b len id h has is. (has.parted, open_now c b is, record { holds = h; view_is = refl; outlines_are = refl; still = λ o q. q.0 });
}
