use Rattle.std.specs.Prelude.{IfSome, Option, None}
use Rattle.vk_types.specs.declared.regions.Barrier.{Barrier}
use Rattle.vk_types.specs.Accesses.{transfer_write}
use Rattle.barriers.specs.Trackers.{due_by}
use Rattle.object_helper.specs.Objects.{access_of, accessed}
use Rattle.front_moves.specs.Recording.{IsAccessed, behind_both}
use Rattle.std.proofs.Common.{◌≡◌, ℕ, ◌+◌, ◌<◌, ◌≤◌, ◌==◌, false, refl, sym, ◌∙◌, ap, subst, arith}
use Rattle.std.specs.Prelude.{◌||◌}
use Rattle.vk_types.specs.declared.handles.HandleId.{HandleId}
use Rattle.vk_types.specs.declared.handles.Kind.TheVariants as kind
use Rattle.back_core.specs.Link.{Link, gave}
use Rattle.front_model.specs.declared.object.Object.TheVariants.{Buffer}
use Rattle.front_model.specs.Face.{Face, outline_at, view}
use Rattle.front_model.specs.Stands.{Hands, Holds, IsQuiet, no_hands}
use Rattle.front_model.specs.Steps.{MayRecord, fresh_slot, with_nodes}
use Rattle.front_moves.specs.Objects.{key_of, stored_of}
use Rattle.front_moves.specs.Core.{CoreParts, face, in_hand}
use Rattle.vk_types.specs.declared.batches.QueueSerial.{QueueSerial}
use Rattle.vk_types.specs.Touches.{the_end}
use Rattle.front_moves.specs.Recording.{IsNextSerial, HasBuffer, IsRecorded}
use Rattle.front_moves.proofs.Recorded.{accessed_recorded, outlines_recorded}
use Rattle.front_moves.proofs.Dues.{Uploaded, uploaded}
use Rattle.tables.specs.Table.{entry}
use Rattle.front_moves.proofs.Recordable.{copy_node, copy_touches, copy_where, copy_may, IsFree}
use Rattle.front_moves.proofs.ObjectStores.{IsStore, store_of, store_at, Distinct, IsInNone, hand_apart, other_handle, buffer_free, buffer_parted}
use Rattle.front_moves.proofs.Uploads.{no_fence, hand_at, hand_free, after_upload, hands_after, slot_after, hand_after, are_uses, hands_empty}
use Rattle.front_moves.proofs.recording_comes_to.upload_comes_to.Goals as goal

pub returns : goal.returns
returns l =
    let laws = l.due_nodes_may_be_recorded.ensures in
    let was : (c : CoreParts) (s : Link) (serial : QueueSerial) (b at len size : ℕ) (src to : HandleId) (due : Option Barrier) → Holds (face c) (in_hand src.0 (kind.Buffer len)) s → HasBuffer false c serial.index b to size →
    IfSome (entry (key_of (Buffer b)) c.stores) (λ x. due ≡ due_by x.tracker (access_of x.handle transfer_write)) → Uploaded c s b due to (copy_node src 0 to at len) =
    λ c s serial b at len size src to due h has is.
    let of : IsStore c b to size = store_of false c serial.index b to size has in
    uploaded laws.told l.due_barriers_fit.ensures.of l.due_barriers_fit.ensures.layouts laws.node laws.behind c s len src to h b at size due of is
    (λ e. l.steps_may.ensures.in_no_object (face c) (in_hand src.0 (kind.Buffer len)) s (Buffer b) (stored_of of.store) src.0 (fresh_slot src.0 (kind.Buffer len)) h (hand_at src.0 len) (store_at c b of.store of.is) (of.handle ∙ sym e)) in
    let may_copy : (c : CoreParts) (s : Link) (place b at len size : ℕ) (serial : QueueSerial) (src to : HandleId) (due : Option Barrier) → Uploaded c s b due to (copy_node src 0 to at len) → Holds (face c) (in_hand src.0 (kind.Buffer len)) s → IsNextSerial c place serial → HasBuffer false c serial.index b to size →
    at + len ≤ size → 0 < len → len ≤ the_end → MayRecord (face c) (in_hand src.0 (kind.Buffer len)) s serial.index (behind_both None due (copy_node src 0 to at len)) =
    λ c s place b at len size serial src to due up h next has inside some end.
    let f : Face = face c in
    let hands : Hands = in_hand src.0 (kind.Buffer len) in
    let slot = fresh_slot src.0 (kind.Buffer len) in
    let of : IsStore c b to size = store_of false c serial.index b to size has in
    copy_may f hands s serial.index None due src 0 to at len next.group next.few up.ordered (no_fence src) up.fence some
    (hand_free f s src len (l.steps_may.ensures.hands f hands s src.0 slot h (hand_at src.0 len)) some end)
    (buffer_free false c hands s serial.index b to size at len h has of some inside)
    (λ i ne. copy_where None due src 0 to at len (f.pending i) (no_fence src) up.fence
    (l.steps_may.ensures.untouched f hands s src.0 i (kind.Buffer len) h (hand_at src.0 len)) (buffer_parted c serial.index b to size i has of ne))
    (λ e. absurd (l.steps_may.ensures.in_no_object f hands s (Buffer b) (stored_of of.store) src.0 slot h (hand_at src.0 len) (store_at c b of.store of.is) (of.handle ∙ sym e))) in
    let same : (c d : CoreParts) (s : Link) (place b at len size : ℕ) (serial : QueueSerial) (src to : HandleId) (due : Option Barrier) → Uploaded c s b due to (copy_node src 0 to at len) → Holds (face c) (in_hand src.0 (kind.Buffer len)) s → IsNextSerial c place serial → HasBuffer false c serial.index b to size →
    IsAccessed c d place (behind_both None due (copy_node src 0 to at len)) serial (λ k. k == key_of (Buffer b)) (λ k. transfer_write) → face d ≡ with_nodes (face c) serial.index (behind_both None due (copy_node src 0 to at len)) =
    λ c d s place b at len size serial src to due up h next has accessed.
    after_upload c d s place b at len size serial src to due h (λ o q x y. l.steps_may.ensures.distinct (face c) (in_hand src.0 (kind.Buffer len)) s o q x y h)
    (λ o x. l.steps_may.ensures.in_no_object (face c) (in_hand src.0 (kind.Buffer len)) s o x src.0 (fresh_slot src.0 (kind.Buffer len)) h (hand_at src.0 len)) next (store_of false c serial.index b to size has) up.fence
    (accessed_recorded c d place (behind_both None due (copy_node src 0 to at len)) serial (λ k. k == key_of (Buffer b)) (λ k. transfer_write) accessed up.accesses) in
    record {
      may = λ c d s place b at len size serial src to due uses h next has inside some end is recorded one.
          let f : Face = face c in
          let nodes = behind_both None due (copy_node src 0 to at len) in
          let up = was c s serial b at len size src to due h has is in
          let number : ℕ = f.last serial.index + 1 in
          l.steps_may.ensures.give (with_nodes f serial.index nodes) (hands_after src len serial.index number nodes) s src.0 (slot_after src len serial.index number nodes) uses
          (l.steps_hold.ensures.records f (in_hand src.0 (kind.Buffer len)) s serial.index nodes h (may_copy c s place b at len size serial src to due up h next has inside some end))
          (hand_after src len serial.index number nodes) (are_uses src to due up.fence at len number serial uses next.next one);
      moved = λ c d s place b at len size serial src to due uses h next has inside some end is recorded one.
          let f : Face = face c in
          let hands : Hands = in_hand src.0 (kind.Buffer len) in
          let nodes = behind_both None due (copy_node src 0 to at len) in
          let up = was c s serial b at len size src to due h has is in
          let number : ℕ = f.last serial.index + 1 in
          let distinct : Distinct c = λ o q x y. l.steps_may.ensures.distinct f hands s o q x y h in
          let none : IsInNone c src.0 = λ o x. l.steps_may.ensures.in_no_object f hands s o x src.0 (fresh_slot src.0 (kind.Buffer len)) h (hand_at src.0 len) in
          let of : IsStore c b to size = store_of false c serial.index b to size has in
          let free : IsFree f hands s to at len = buffer_free false c hands s serial.index b to size at len h has of some inside in
          let may : MayRecord f hands s serial.index nodes = may_copy c s place b at len size serial src to due up h next has inside some end in
          let is_now : face d ≡ with_nodes f serial.index nodes = same c d s place b at len size serial src to due up h next has recorded in
          record {
            holds = subst (λ g. Holds g no_hands (gave s src.0 uses)) (sym is_now) (subst (λ (k : Hands). Holds (with_nodes f serial.index nodes) k (gave s src.0 uses)) (hands_empty src len serial.index number nodes)
                (l.steps_hold.ensures.gives (with_nodes f serial.index nodes) (hands_after src len serial.index number nodes) s src.0 (slot_after src len serial.index number nodes) uses
                (l.steps_hold.ensures.records f hands s serial.index nodes h may) (hand_after src len serial.index number nodes) (are_uses src to due up.fence at len number serial uses next.next one)));
            view_is = l.link_steps_show.ensures.gives (face d) s src.0 uses
                ∙ ap (λ g. view g s) is_now
                ∙ l.front_steps_show.ensures.uploads f hands s serial.index nodes (Buffer b) (stored_of of.store) src to 0 at len h may up.behind (store_at c b of.store of.is) refl of.handle (let e : 0 + len ≤ the_end = omega (arith, end) in e) free.end;
            outlines_are = ap outline_at is_now ∙ outlines_recorded f serial.index nodes;
            still = λ o stays. let quiet : IsQuiet f s o = stays.0 in
                l.quiet_objects_stay.ensures.gives (face d) s o src.0 uses (subst (λ g. IsQuiet g s o) (sym is_now) (l.quiet_objects_stay.ensures.records f s o serial.index nodes quiet
                (copy_touches None due src 0 to at len quiet.stored.handle (no_fence src) up.fence
                ∙ ap (λ t. t || (to.0 == quiet.stored.handle)) (hand_apart c src o quiet.stored none quiet.is)
                ∙ other_handle c b to size o quiet.stored distinct of quiet.is stays.1)));
          };
    }
