-- What the calls of the link need follows from what holds of a front.
use Rattle.std.proofs.Common.{◌≡◌, ◌≢◌, ℕ, ◌+◌, ◌<◌, ◌≤◌, true, false, List, [], ◌∷◌, ◌++◌, length, flat_map, refl, sym, ◌∙◌, ap, subst, arith, inl, inr}
use Rattle.std.specs.Prelude.{◌⊎◌, Option, Some, None, All, slice_get}
use Rattle.std.proofs.lemmas.Bool.{cases_Bool, false_from_ne_true, cond-true, cond-false}
use Rattle.std.proofs.lemmas.List.{append_assoc}
use Rattle.std.proofs.lemmas.Option.{none-some, same_Some}
use Rattle.vk_types.specs.declared.handles.Kind.{Kind}
use Rattle.vk_types.specs.declared.handles.Kind.TheVariants.{Buffer, Image}
use Rattle.vk_types.specs.declared.batches.Batch.{Batch}
use Rattle.vk_types.specs.declared.batches.QueueSerial.{QueueSerial}
use Rattle.vk_types.specs.declared.ops.Node.{Node}
use Rattle.vk_types.specs.declared.ops.Op.{Op}
use Rattle.vk_types.specs.declared.ops.Op.TheVariants.{CopyBuffer, BufferToImage, ImageToBuffer, CopyImage, BlitImage, ClearImage, FillBuffer, PassPart}
use Rattle.vk_types.specs.Touches.{rows_size}
use Rattle.vk_model.specs.Log.{IsSound, NoneEmpty, commands}
use Rattle.vk_model.specs.Fitting.{HasRange, OpFits, NodeFits}
use Rattle.resource_use.specs.Uses.{number_of}
use Rattle.submit_queue.specs.Histories.{last_number}
use Rattle.barriers.specs.Licence.{Use, Fenced}
use Rattle.barriers.specs.Logs.{uses_in}
use Rattle.back_core.specs.Own.{log_of, batches_of, last_use, next_number}
use Rattle.back_core.specs.Link.{Link, put, abandoned}
use Rattle.back_core.specs.Needs.{IsOfGroup, HostMay, MayTouch, MayEnqueue, MayGive, HasBatch}
use Rattle.front_model.specs.declared.object.Object.{Object}
use Rattle.front_model.specs.Face.{Waiting, Slot, Stored, Face, nodes_touch, indexes_of, in_order, IsUpdate}
use Rattle.front_model.specs.Stands.{Hands, Store, Staging, InHand, SlotStands, StagingStands, Holds, IsQuiet, Owns, BarriersAreLicensed}
use Rattle.front_model.specs.Steps.{fresh_slot, AreUses, IsNextBatch}
use Rattle.front_model.proofs.Base.{put-other}
use Rattle.front_model.proofs.Sounds.{sound_front}
use Rattle.front_model.proofs.Orders.{ChangePlaces, split, sound_flushed}
use Rattle.front_model.proofs.Standing.{staging_stands}
use Rattle.front_model.proofs.LinkSteps.{given_uses, touching_index}

module _ (f : Face) (hands : Hands) (s : Link) (h : Holds f hands s) where
  pub may_enqueue : ChangePlaces → (index : ℕ) (batch : Batch) → IsOfGroup f.group index → IsNextBatch f index batch → MayEnqueue s batch
  may_enqueue change index batch own next = record {
    one_queue = next.one_queue;
    few = subst (λ (l : List Node). length l < 4294967294) (sym next.all) (h.few index);
    sound = subst (λ l. IsSound (log_of s.mine ++ commands 0 l)) (sym next.all)
        (sound_front (log_of s.mine ++ commands 0 (f.pending index)) (commands 0 (flat_map (put f.pending index []) (indexes_of f.group)))
        (sound_flushed f.pending (indexes_of f.group) index (split f.group index own) (log_of s.mine) change h.apart h.none_empty h.sound));
    none_empty = subst (All NoneEmpty) (sym next.all) (h.none_empty index);
    fits = subst (All (NodeFits s.kinds)) (sym next.all) (h.fits index);
    next = next.next ∙ ap (λ n. n + 1) (h.last index own) ∙ ap (next_number s.mine) (sym next.of_index);
    of_group = subst (IsOfGroup s.group) (sym next.of_index) (subst (λ g. IsOfGroup g index) (sym h.group) own);
    touched = λ id touch. subst (λ i. MayTouch s i batch.number id) (sym next.of_index) (subst (λ n. MayTouch s index n id) (sym next.next)
        (h.touched index id (ap (λ nodes. nodes_touch nodes id) (sym next.all) ∙ touch)));
  }

  pub may_give : (id : ℕ) (slot : Slot) (uses : List QueueSerial) → hands id ≡ Some slot → AreUses uses slot → MayGive s id uses
  may_give id slot uses at are = record { held = (h.hands_stand id slot at).stands.held; exact = λ index. exact index (cases_Bool (nodes_touch (f.pending index) id)) }
    where
      exact : (index : ℕ) → (nodes_touch (f.pending index) id ≡ true) ⊎ (nodes_touch (f.pending index) id ≡ false)
          → (number_of uses index ≡ last_use s.mine index id) ⊎ (IsOfGroup s.group index × (number_of uses index ≡ next_number s.mine index))
      exact index (inl touch) =
          let own : IsOfGroup f.group index = touching_index f hands s id index h touch in
          inr (
            subst (λ g. IsOfGroup g index) (sym h.group) own,
            given_uses f hands s id slot uses h at are index ∙ cond-true (nodes_touch (f.pending index) id) (f.last index + 1) (last_use s.mine index id) touch ∙ ap (λ n. n + 1) (h.last index own),
          )
      exact index (inr none) = inl (given_uses f hands s id slot uses h at are index ∙ cond-false (nodes_touch (f.pending index) id) (f.last index + 1) (last_use s.mine index id) none)

  -- the last use of a handle is a batch, where no pending node touches it
  slot_has_batch : (id : ℕ) (slot : Slot) (index : ℕ) → SlotStands f s id slot → nodes_touch (f.pending index) id ≡ false → 1 ≤ slot.used index → HasBatch s index (slot.used index)
  slot_has_batch id slot index stands none some =
      let is : slot.used index ≡ last_use s.mine index id = stands.used index ∙ cond-false (nodes_touch (f.pending index) id) (f.last index + 1) (last_use s.mine index id) none in
      let low : last_use s.mine index id ≤ last_number (batches_of s.mine) index = h.low index id in
      (some, omega (arith, is, low))

  pub has_batch : (o : Object) (b : Stored) (index : ℕ) → f.objects o ≡ Some b → nodes_touch (f.pending index) b.handle ≡ false → 1 ≤ b.slot.used index → HasBatch s index (b.slot.used index)
  has_batch o b index at none some = slot_has_batch b.handle b.slot index (h.objects o b at).slot none some

  pub hand_has_batch : (id : ℕ) (slot : Slot) (index : ℕ) → hands id ≡ Some slot → nodes_touch (f.pending index) id ≡ false → 1 ≤ slot.used index → HasBatch s index (slot.used index)
  hand_has_batch id slot index at none some = slot_has_batch id slot index (h.hands_stand id slot at).stands none some

  -- no batch and no pending node uses a handle that was just made
  pub fresh_untouched : (id index : ℕ) (kind : Kind) → hands id ≡ Some (fresh_slot id kind) → nodes_touch (f.pending index) id ≡ false
  fresh_untouched id index kind at = false_from_ne_true (nodes_touch (f.pending index) id) (λ touch.
      let n : 0 ≡ f.last index + 1 = (h.hands_stand id (fresh_slot id kind) at).stands.used index ∙ cond-true (nodes_touch (f.pending index) id) (f.last index + 1) (last_use s.mine index id) touch in
      absurd (omega (arith, n)))

  fresh_unused : (id index : ℕ) (kind : Kind) → hands id ≡ Some (fresh_slot id kind) → last_use s.mine index id ≡ 0
  fresh_unused id index kind at =
      sym ((h.hands_stand id (fresh_slot id kind) at).stands.used index ∙ cond-false (nodes_touch (f.pending index) id) (f.last index + 1) (last_use s.mine index id) (fresh_untouched id index kind at))

  has_range : (id len at size : ℕ) → s.kinds id ≡ Some (Buffer len) → 1 ≤ size → at + size ≤ len → HasRange (s.kinds id) at size
  has_range id len at size is some fits = subst (λ k. HasRange k at size) (sym is) (some, fits)

  pub may_write_fresh : (id len at size : ℕ) → hands id ≡ Some (fresh_slot id (Buffer len)) → 1 ≤ size → at + size ≤ len → HostMay s id at size
  may_write_fresh id len at size hand some fits = record {
    held = (h.hands_stand id (fresh_slot id (Buffer len)) hand).stands.held;
    range = has_range id len at size (h.hands_stand id (fresh_slot id (Buffer len)) hand).stands.kind some fits;
    retired = λ index. let none : last_use s.mine index id ≡ 0 = fresh_unused id index (Buffer len) hand in omega (arith, none);
  }

  pub host_may : (o : Object) (quiet : IsQuiet f s o) (len at size : ℕ) → quiet.stored.slot.kind ≡ Buffer len → 1 ≤ size → at + size ≤ len → HostMay s quiet.stored.handle at size
  host_may o quiet len at size kind some fits =
      let u = (h.objects o quiet.stored quiet.is).slot in
      record { held = u.held; range = has_range quiet.stored.handle len at size (u.kind ∙ ap Some kind) some fits; retired = quiet.retired }

  -- a buffer in hand, once each batch that uses it is known to be retired
  pub hand_may : (id : ℕ) (slot : Slot) (len at size : ℕ) → hands id ≡ Some slot → slot.kind ≡ Buffer len → ((index : ℕ) → nodes_touch (f.pending index) id ≡ false) → ((index : ℕ) → slot.used index ≤ s.done index)
      → 1 ≤ size → at + size ≤ len → HostMay s id at size
  hand_may id slot len at size hand kind none done some fits =
      let u = (h.hands_stand id slot hand).stands in
      record {
        held = u.held;
        range = has_range id len at size (u.kind ∙ ap Some kind) some fits;
        retired = λ index. subst (λ n. n ≤ s.done index) (u.used index ∙ cond-false (nodes_touch (f.pending index) id) (f.last index + 1) (last_use s.mine index id) (none index)) (done index);
      }

  pub objects_distinct : (o q : Object) (b c : Stored) → f.objects o ≡ Some b → f.objects q ≡ Some c → b.handle ≡ c.handle → o ≡ q
  objects_distinct o q b c at_o at_q same = let k : Store o ≡ Store q = sym (h.objects o b at_o).owned ∙ ap h.owner same ∙ (h.objects q c at_q).owned in cc

  pub in_no_object : (o : Object) (b : Stored) (id : ℕ) (slot : Slot) → hands id ≡ Some slot → f.objects o ≡ Some b → b.handle ≢ id
  in_no_object o b id slot hand at same = let k : Store o ≡ InHand = sym (h.objects o b at).owned ∙ ap h.owner same ∙ (h.hands_stand id slot hand).owned in cc

  -- whose a staging buffer is
  waits_at : (o : Object) (b : Stored) (place id : ℕ) (w : Waiting) → f.objects o ≡ Some b → slice_get b.waiting place ≡ Some w → w.staging ≡ Some id → StagingStands f s h.owner o place id
  waits_at o b place id w at waits is = staging_stands f s h.owner o b.handle place id w is ((h.objects o b at).waiting place w waits)

  -- what was licensed with what is pending behind it was licensed without
  pub at_back_licensed : BarriersAreLicensed s
  at_back_licensed id front back barrier e =
      let pending : List Use = uses_in (commands 0 (in_order f)) id in
      (h.fenced id).licensed front (back ++ pending) barrier (ap (λ us. us ++ pending) e ∙ append_assoc front (Fenced barrier ∷ back) pending)

  pub holds_owns : Owns f.objects s
  holds_owns = record {
    owner = h.owner;
    each = λ o b at. record {
      held = (h.objects o b at).slot.held;
      owned = (h.objects o b at).owned;
      waiting = λ place id w waits is. let v = waits_at o b place id w at waits is in (v.held, v.owned);
    };
    licensed = at_back_licensed;
  }

  -- what is in hand can be let go
  pub abandoned_owns : (id : ℕ) (slot : Slot) → hands id ≡ Some slot → Owns f.objects (abandoned s id)
  abandoned_owns id slot hand =
      let stays : (j : ℕ) → h.owner j ≢ InHand → s.held j ≡ true → (abandoned s id).held j ≡ true
      = λ j ne held. put-other s.held id false j (λ e. ne (ap h.owner e ∙ (h.hands_stand id slot hand).owned)) ∙ held in
      record {
        owner = h.owner;
        each = λ o b at. let u = h.objects o b at in record {
          held = stays b.handle (λ e. let k : Store o ≡ InHand = sym u.owned ∙ e in cc) u.slot.held;
          owned = u.owned;
          waiting = λ place j w waits is. let v = waits_at o b place j w at waits is in
              (stays j (λ e. let k : Staging o place ≡ InHand = sym v.owned ∙ e in cc) v.held, v.owned);
        };
        licensed = at_back_licensed;
      }

-- A staging buffer is a buffer

has_kind : (k : Option Kind) (at size : ℕ) → HasRange k at size → (len : ℕ) × (k ≡ Some (Buffer len))
has_kind None at size has = absurd has
has_kind (Some (Buffer len)) at size has = (len, refl)
has_kind (Some (Image format width height)) at size has = absurd has

module _ (kinds : ℕ → Option Kind) (id handle : ℕ) where
  staged_kind : (op : Op) → IsUpdate (Some id) handle op → OpFits kinds op → (len : ℕ) × (kinds id ≡ Some (Buffer len))
  staged_kind (CopyBuffer src src_at dst dst_at size) is fits =
      let found = has_kind (kinds src.0) src_at size fits.0 in
      (found.0, ap kinds (same_Some id src.0 is.0) ∙ found.1)
  staged_kind (BufferToImage src src_at stride texel_size dst rect) is fits =
      let found = has_kind (kinds src.0) src_at (rows_size rect stride texel_size) fits.0 in
      (found.0, ap kinds (same_Some id src.0 is.0) ∙ found.1)
  staged_kind (ImageToBuffer src rect dst dst_at stride texel_size expand) is fits = absurd is
  staged_kind (CopyImage src src_x src_y dst rect) is fits = absurd is
  staged_kind (BlitImage src dst coords clip) is fits = absurd is
  staged_kind (ClearImage image rect texel) is fits = absurd (none-some id (sym is.0))
  staged_kind (FillBuffer dst dst_at size byte) is fits = absurd is
  staged_kind (PassPart a b image c d clears) is fits = absurd is
  staged_kind (Op.Barrier b) is fits = absurd is

pub staging_kind : (f : Face) (hands : Hands) (s : Link) (o : Object) (b : Stored) (place id : ℕ) (w : Waiting) → Holds f hands s → f.objects o ≡ Some b
    → slice_get b.waiting place ≡ Some w → w.staging ≡ Some id → (len : ℕ) × (s.kinds id ≡ Some (Buffer len))
staging_kind f hands s o b place id w h at waits is =
    let stands = (h.objects o b at).waiting place w waits in
    staged_kind s.kinds id b.handle w.node.op (subst (λ staging. IsUpdate staging b.handle w.node.op) is stands.update) stands.fits
