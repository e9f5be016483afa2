-- What of a front that holds stays where its handles are as before.
use Rattle.std.specs.Prelude.{unwrap_or}
use Rattle.barriers.specs.declared.tracker.Tracker.{Tracker}
use Rattle.barriers.specs.Trackers.{Tracks, new_tracker}
use Rattle.barriers.specs.Recording.{handle}
use Rattle.object_helper.specs.Objects.{is_image}
use Rattle.front_model.specs.Stands.{is_image_of, uses_of, IsTrackedBy}
use Rattle.std.proofs.Common.{Bool}
use Rattle.vk_types.specs.declared.handles.Kind.TheVariants as kinds
use Rattle.std.proofs.Common.{◌≡◌, ◌≢◌, ℕ, true, get_or, refl, sym, ◌∙◌, ap, subst, inl, inr}
use Rattle.std.specs.Prelude.{◌⊎◌, Option, Some, None, IfSome}
use Rattle.vk_types.specs.declared.handles.Kind.{Kind}
use Rattle.vk_types.specs.declared.ops.Op.{Op}
use Rattle.vk_types.specs.declared.ops.Op.TheVariants.{CopyBuffer, BufferToImage, ImageToBuffer, CopyImage, BlitImage, ClearImage, FillBuffer, PassPart}
use Rattle.vk_types.specs.declared.ops.Node.{Node}
use Rattle.vk_types.specs.Touches.{rows_size, buffer_texel}
use Rattle.vk_model.specs.Fitting.{HasRange, HasRect, HasTexels, IsImage, format_in, LayoutsFit, OpFits, NodeFits}
use Rattle.back_core.specs.Link.{Link}
use Rattle.front_model.specs.declared.object.Object.{Object}
use Rattle.front_model.specs.Face.{Waiting, Slot, Stored, Face}
use Rattle.front_model.specs.Stands.{Owner, Store, Staging, InHand, use_of, SlotStands, StagingStands, WaitingStands, StoredStands, HandStands, HasHandle}

-- Nodes fit where more objects have kinds

-- each object that had a kind has it still
abbrev pub KindsGrow : (ℕ → Option Kind) → (ℕ → Option Kind) → Type 0
KindsGrow old new = (id : ℕ) (kind : Kind) → old id ≡ Some kind → new id ≡ Some kind

-- a kind of which something is said that is said of no absent one
same_kind : (P : Option Kind → Type 0) → (P None → ⊥) → (old new : Option Kind) → ((kind : Kind) → old ≡ Some kind → new ≡ Some kind) → P old → old ≡ new
same_kind P none None new grows h = absurd (none h)
same_kind P none (Some kind) new grows h = sym (grows kind refl)

kind_kept : (P : Option Kind → Type 0) → (P None → ⊥) → (old new : Option Kind) → ((kind : Kind) → old ≡ Some kind → new ≡ Some kind) → P old → P new
kind_kept P none old new grows h = subst P (same_kind P none old new grows h) h

module _ (old new : ℕ → Option Kind) (grows : KindsGrow old new) where
  op_fits_more : (op : Op) → OpFits old op → OpFits new op
  op_fits_more (CopyBuffer src src_at dst dst_at size) fits = (
    kind_kept (λ k. HasRange k src_at size) (λ h. h) (old src.0) (new src.0) (grows src.0) fits.0,
    kind_kept (λ k. HasRange k dst_at size) (λ h. h) (old dst.0) (new dst.0) (grows dst.0) fits.1,
    fits.2,
  )
  op_fits_more (BufferToImage src src_at stride texel_size dst rect) fits = (
    kind_kept (λ k. HasRange k src_at (rows_size rect stride texel_size)) (λ h. h) (old src.0) (new src.0) (grows src.0) fits.0,
    kind_kept (λ k. HasRect k rect) (λ h. h) (old dst.0) (new dst.0) (grows dst.0) fits.1,
    kind_kept (λ k. HasTexels k texel_size) (λ h. h) (old dst.0) (new dst.0) (grows dst.0) fits.2,
  )
  op_fits_more (ImageToBuffer src rect dst dst_at stride texel_size expand) fits = (
    kind_kept (λ k. HasRect k rect) (λ h. h) (old src.0) (new src.0) (grows src.0) fits.0,
    kind_kept (λ k. HasTexels k texel_size) (λ h. h) (old src.0) (new src.0) (grows src.0) fits.1,
    kind_kept (λ k. HasRange k dst_at (rows_size rect stride (buffer_texel texel_size expand))) (λ h. h) (old dst.0) (new dst.0) (grows dst.0) fits.2,
  )
  op_fits_more (CopyImage src src_x src_y dst rect) fits =
      let from : old src.0 ≡ new src.0 = same_kind (λ k. HasRect k (record { x = src_x; y = src_y; w = rect.w; h = rect.h })) (λ h. h) (old src.0) (new src.0) (grows src.0) fits.0 in
      let to : old dst.0 ≡ new dst.0 = same_kind (λ k. HasRect k rect) (λ h. h) (old dst.0) (new dst.0) (grows dst.0) fits.1 in (
        subst (λ k. HasRect k (record { x = src_x; y = src_y; w = rect.w; h = rect.h })) from fits.0,
        subst (λ k. HasRect k rect) to fits.1,
        ap format_in (sym from) ∙ fits.2 ∙ ap format_in to,
        fits.3,
      )
  op_fits_more (BlitImage src dst coords clip) fits = (
    kind_kept IsImage (λ h. h) (old src.0) (new src.0) (grows src.0) fits.0,
    kind_kept (λ k. HasRect k clip) (λ h. h) (old dst.0) (new dst.0) (grows dst.0) fits.1,
    fits.2,
  )
  op_fits_more (ClearImage image rect texel) fits = kind_kept (λ k. HasRect k rect) (λ h. h) (old image.0) (new image.0) (grows image.0) fits
  op_fits_more (FillBuffer dst dst_at size byte) fits = kind_kept (λ k. HasRange k dst_at size) (λ h. h) (old dst.0) (new dst.0) (grows dst.0) fits
  op_fits_more (PassPart a b image c d clears) fits = (
    kind_kept IsImage (λ h. h) (old image.0) (new image.0) (grows image.0) fits.0,
    λ k d lt. kind_kept (λ kind. HasRect kind (get_or clears k d).rect) (λ h. h) (old image.0) (new image.0) (grows image.0) (fits.1 k d lt),
  )
  op_fits_more (Op.Barrier b) fits = kind_kept (λ k. LayoutsFit k b.layouts) (λ h. h) (old b.id.0) (new b.id.0) (grows b.id.0) fits

  pub fits_more : (n : Node) → NodeFits old n → NodeFits new n
  fits_more n fits = op_fits_more n.op fits

-- A handle is held as before, with the kind and the uses as before, and what tracked it tracks it.
pub record SameSlot (f g : Face) (s t : Link) (id : ℕ) : Type 0 where
  pub held : t.held id ≡ s.held id
  pub kind : t.kinds id ≡ s.kinds id
  pub uses : (index : ℕ) → use_of g t id index ≡ use_of f s id index
  pub tracks : (x : Tracker) (is_image : Bool) → Tracks x (handle id) is_image (uses_of f s id) → Tracks x (handle id) is_image (uses_of g t id)

-- whether it is an image is as before
pub same_image : (f g : Face) (s t : Link) (id : ℕ) → SameSlot f g s t id → is_image_of t id ≡ is_image_of s id
same_image f g s t id same = ap (λ k. is_image (unwrap_or k (kinds.Buffer 0))) same.kind

pub tracked_kept : (f g : Face) (s t : Link) (id : ℕ) (x : Tracker) → SameSlot f g s t id → IsTrackedBy f s x id → IsTrackedBy g t x id
tracked_kept f g s t id x same k = subst (λ b. Tracks x (handle id) b (uses_of g t id)) (sym (same_image f g s t id same)) (same.tracks x (is_image_of s id) k)

pub slot_kept : (f g : Face) (s t : Link) (id : ℕ) (slot : Slot) → SameSlot f g s t id → SlotStands f s id slot → SlotStands g t id slot
slot_kept f g s t id slot same stands = record { held = same.held ∙ stands.held; kind = same.kind ∙ stands.kind; used = λ index. stands.used index ∙ sym (same.uses index); tracked = tracked_kept f g s t id slot.tracker same stands.tracked }

module _ (f g : Face) (s t : Link) (owner also : ℕ → Owner) (fit : KindsGrow s.kinds t.kinds) where
  staging_kept : (o : Object) (place place' : ℕ) (staging : Option ℕ)
      → ((id : ℕ) → staging ≡ Some id → SameSlot f g s t id) → ((id : ℕ) → staging ≡ Some id → owner id ≡ Staging o place → also id ≡ Staging o place')
      → IfSome staging (StagingStands f s owner o place) → IfSome staging (StagingStands g t also o place')
  staging_kept o place place' None same owned stands = tt
  staging_kept o place place' (Some id) same owned stands = record {
    held = (same id refl).held ∙ stands.held;
    owned = owned id refl stands.owned;
    unused = λ index. (same id refl).uses index ∙ stands.unused index;
    untracked = subst (λ b. IsTrackedBy g t (new_tracker (handle id) b) id) (sym (same_image f g s t id (same id refl))) (tracked_kept f g s t id (new_tracker (handle id) (is_image_of s id)) (same id refl) stands.untracked);
  }

  -- what waits stands, also at another place
  pub waiting_kept : (o : Object) (handle place place' : ℕ) (w : Waiting)
      → ((id : ℕ) → w.staging ≡ Some id → SameSlot f g s t id) → ((id : ℕ) → w.staging ≡ Some id → owner id ≡ Staging o place → also id ≡ Staging o place')
      → WaitingStands f s owner o handle place w → WaitingStands g t also o handle place' w
  waiting_kept o handle place place' w same owned stands = record {
    staging = staging_kept o place place' w.staging same owned stands.staging;
    fits = fits_more s.kinds t.kinds fit w.node stands.fits;
    none_empty = stands.none_empty;
    update = stands.update;
  }

  -- an object stands where its handles are as before
  pub stored_kept : (o : Object) (b : Stored) → ((id : ℕ) → HasHandle b id → SameSlot f g s t id) → ((id : ℕ) → HasHandle b id → also id ≡ owner id)
      → StoredStands f s owner o b → StoredStands g t also o b
  stored_kept o b same owned stands = record {
    slot = slot_kept f g s t b.handle b.slot (same b.handle (inl refl)) stands.slot;
    owned = owned b.handle (inl refl) ∙ stands.owned;
    waiting = λ place w at. waiting_kept o b.handle place place w (λ id is. same id (inr (place, w, at, is))) (λ id is of. owned id (inr (place, w, at, is)) ∙ of) (stands.waiting place w at);
  }

  pub hand_kept : (id : ℕ) (slot : Slot) → SameSlot f g s t id → also id ≡ owner id → HandStands f s owner id slot → HandStands g t also id slot
  hand_kept id slot same owned stands = record { stands = slot_kept f g s t id slot same stands.stands; owned = owned ∙ stands.owned }

-- Whose the handles are

module _ (f : Face) (s : Link) (owner : ℕ → Owner) (o : Object) where
  pub staging_stands : (handle place id : ℕ) (w : Waiting) → w.staging ≡ Some id → WaitingStands f s owner o handle place w → StagingStands f s owner o place id
  staging_stands handle place id w is stands = subst (λ staging. IfSome staging (StagingStands f s owner o place)) is stands.staging

  -- a handle of an object is held
  pub handle_held : (b : Stored) (id : ℕ) → StoredStands f s owner o b → HasHandle b id → s.held id ≡ true
  handle_held b id stands (inl is) = ap s.held (sym is) ∙ stands.slot.held
  handle_held b id stands (inr has) = (staging_stands b.handle has.0 id has.1 has.3 (stands.waiting has.0 has.1 has.2)).held

  -- it is its store, or one of its staging buffers
  pub handle_owner : (b : Stored) (id : ℕ) → StoredStands f s owner o b → HasHandle b id → (owner id ≡ Store o) ⊎ ((place : ℕ) × (owner id ≡ Staging o place))
  handle_owner b id stands (inl is) = inl (ap owner (sym is) ∙ stands.owned)
  handle_owner b id stands (inr has) = inr (has.0, (staging_stands b.handle has.0 id has.1 has.3 (stands.waiting has.0 has.1 has.2)).owned)

  pub not_in_hand : (b : Stored) (id : ℕ) → StoredStands f s owner o b → HasHandle b id → owner id ≢ InHand
  not_in_hand b id stands has e = elim (handle_owner b id stands has) [ inl k ↦ cc | inr k ↦ let own : owner id ≡ Staging o k.0 = k.1 in cc ]
