-- A copy from the handle in hand.
use Rattle.std.specs.Prelude.{Option}
use Rattle.vk_types.specs.declared.regions.Barrier.{Barrier}
use Rattle.vk_types.specs.Touches.{whole}
use Rattle.front_moves.specs.Recording.{IsFence, behind_both}
use mathlib.Core.Path.{fun_ext}
use Rattle.std.proofs.Common.{◌≡◌, ℕ, ◌+◌, ◌<◌, ◌≤◌, ◌==◌, Bool, true, false, cond, List, refl, sym, ◌∙◌, ap, subst, arith, inl, inr}
use Rattle.std.specs.Prelude.{◌⊎◌, ◌||◌, ◌&&◌, Some, None}
use Rattle.std.specs.Option.{option_map}
use Rattle.std.proofs.lemmas.Bool.{cases_eq, eq-eqb, or_left}
use Rattle.vk_types.specs.declared.handles.HandleId.{HandleId}
use Rattle.vk_types.specs.declared.handles.Kind.TheVariants as kind
use Rattle.vk_types.specs.declared.ops.Node.{Node}
use Rattle.vk_types.specs.declared.batches.QueueSerial.{QueueSerial}
use Rattle.vk_types.specs.Touches.{the_end}
use Rattle.vk_model.specs.Fitting.{HasRange}
use Rattle.tables.specs.Table.{entry}
use Rattle.resource_use.specs.Uses.{number_of}
use Rattle.object_helper.specs.Objects.{ObjectStore}
use Rattle.back_core.specs.Link.{Link, put}
use Rattle.front_model.specs.declared.object.Object.TheVariants.{Buffer}
use Rattle.front_model.specs.Face.{Slot, Face, nodes_touch}
use Rattle.front_model.specs.Stands.{Hands, Holds, no_hands}
use Rattle.front_model.specs.Steps.{AreUses, fresh_slot, noted, noted_hands, with_nodes}
use Rattle.front_model.proofs.Base.{put-same, put-other, put_at, is_some_of}
use Rattle.front_moves.specs.Objects.{key_of, stored_of}
use Rattle.front_moves.specs.Core.{CoreParts, face, in_hand}
use Rattle.front_moves.specs.Recording.{IsNextSerial, IsRecorded}
use Rattle.front_moves.proofs.Keys.{object_at}
use Rattle.front_moves.proofs.Recorded.{face_recorded}
use Rattle.front_moves.proofs.Recordable.{IsFree, copy_node, copy_touches}
use Rattle.front_moves.proofs.ObjectStores.{IsStore, stored_at, Distinct, IsInNone, handle_is, hand_apart}

-- no barrier is one of any object
pub no_fence : (id : HandleId) → IsFence id None
no_fence id barrier e = cc

-- the slot in hand
pub hand_at : (id len : ℕ) → in_hand id (kind.Buffer len) id ≡ Some (fresh_slot id (kind.Buffer len))
hand_at id len = put-same no_hands id (Some (fresh_slot id (kind.Buffer len)))

-- nodes may touch the whole of it
pub hand_free : (f : Face) (s : Link) (id : HandleId) (len : ℕ) → s.kinds id.0 ≡ Some (kind.Buffer len) → 0 < len → len ≤ the_end → IsFree f (in_hand id.0 (kind.Buffer len)) s id 0 len
hand_free f s id len is some end = record {
  range = subst (λ k. HasRange k 0 len) (sym is) (some, let whole : 0 + len ≤ len = omega arith in whole);
  end = omega (arith, end);
  target = inl (is_some_of (in_hand id.0 (kind.Buffer len) id.0) (fresh_slot id.0 (kind.Buffer len)) (hand_at id.0 len));
}

-- the front after the copy
pub after_upload : (c d : CoreParts) (s : Link) (place b at len size : ℕ) (serial : QueueSerial) (src to : HandleId) (due : Option Barrier) → Holds (face c) (in_hand src.0 (kind.Buffer len)) s → Distinct c → IsInNone c src.0 → IsNextSerial c place serial → IsStore c b to size →
    IsFence to due → IsRecorded c d place (behind_both None due (copy_node src 0 to at len)) serial (λ k. k == key_of (Buffer b)) → face d ≡ with_nodes (face c) serial.index (behind_both None due (copy_node src 0 to at len))
after_upload c d s place b at len size serial src to due h distinct none next of fence recorded =
    face_recorded c d (in_hand src.0 (kind.Buffer len)) s place (behind_both None due (copy_node src 0 to at len)) serial (λ k. k == key_of (Buffer b)) h next recorded touch
  where
    touch : (k : ℕ) (x : ObjectStore) → entry k c.stores ≡ Some x → nodes_touch (behind_both None due (copy_node src 0 to at len)) x.handle.0 ≡ (k == key_of (Buffer b))
    touch k x is =
        copy_touches None due src 0 to at len x.handle.0 (no_fence src) fence
        ∙ ap (λ t. t || (to.0 == x.handle.0)) (hand_apart c src (object_at k) (stored_of x) none (stored_at c.stores k x is))
        ∙ handle_is c k b to size x distinct of is

-- the hands then, and its slot
abbrev pub hands_after : HandleId → ℕ → ℕ → ℕ → List Node → Hands
hands_after src len index number nodes = noted_hands (in_hand src.0 (kind.Buffer len)) index number nodes

abbrev pub slot_after : HandleId → ℕ → ℕ → ℕ → List Node → Slot
slot_after src len index number nodes = noted index number nodes src.0 (fresh_slot src.0 (kind.Buffer len))

pub hand_after : (src : HandleId) (len index number : ℕ) (nodes : List Node) → hands_after src len index number nodes src.0 ≡ Some (slot_after src len index number nodes)
hand_after src len index number nodes = ap (option_map (noted index number nodes src.0)) (hand_at src.0 len)

-- its uses are those of the one batch
pub are_uses : (src to : HandleId) (due : Option Barrier) → IsFence to due → (at len number : ℕ) (serial : QueueSerial) (uses : List QueueSerial) → serial.number ≡ number → ((i : ℕ) → number_of uses i ≡ cond (i == serial.index) serial.number 0) →
    AreUses uses (slot_after src len serial.index number (behind_both None due (copy_node src 0 to at len)))
are_uses src to due fence at len number serial uses is one i =
    one i
    ∙ ap (λ n. cond (i == serial.index) n 0) is
    ∙ ap (λ t. cond t number 0) (sym (both (i == serial.index) (nodes_touch (behind_both None due (copy_node src 0 to at len)) src.0) touched))
  where
    touched : nodes_touch (behind_both None due (copy_node src 0 to at len)) src.0 ≡ true
    touched = copy_touches None due src 0 to at len src.0 (no_fence src) fence ∙ or_left (src.0 == src.0) (to.0 == src.0) (eq-eqb src.0 src.0 refl)

    both : (a t : Bool) → t ≡ true → (a && t) ≡ a
    both true t e = e
    both false t e = refl

-- nothing is in hand once it was given away
pub hands_empty : (src : HandleId) (len index number : ℕ) (nodes : List Node) → put (hands_after src len index number nodes) src.0 None ≡ no_hands
hands_empty src len index number nodes = fun_ext (λ j. go j (cases_eq j src.0))
  where
    go : (j : ℕ) → (j ≡ src.0) ⊎ (j ≡ src.0 → ⊥) → put (hands_after src len index number nodes) src.0 None j ≡ None
    go j (inl e) = put_at (hands_after src len index number nodes) src.0 None j e
    go j (inr ne) =
        put-other (hands_after src len index number nodes) src.0 None j ne
        ∙ ap (option_map (noted index number nodes j)) (put-other no_hands src.0 (Some (fresh_slot src.0 (kind.Buffer len))) j ne)
