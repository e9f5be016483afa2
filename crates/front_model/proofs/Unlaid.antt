-- An image that is still in the layout Undefined: no barrier laid it out, so no node touched it, and it has no cell that is defined.
use Rattle.std.proofs.Common.{◌≡◌, ◌≢◌, ℕ, zero, suc, Bool, true, false, cond, eqb, List, [], ◌∷◌, ◌++◌, take, get_or, refl, sym, ◌∙◌, ap, subst, append_assoc}
use Rattle.std.specs.Prelude.{not, Option, Some, None, is_some, IfSome, slice_get, unwrap_or}
use Rattle.std.specs.List.{filter, list_any, AllByRecursion}
use Rattle.std.specs.Option.{option_map_or}
use Rattle.std.proofs.lemmas.Bool.{false≢true, false_from_ne_true, or_left, or_from, ne_eqb, cond-false}
use Rattle.std.proofs.lemmas.Option.{none-some, same_Some, IfSome_then}
use Rattle.std.proofs.lemmas.List.Elements.{recursion_from_All}
use Rattle.vk_types.specs.declared.accesses.Layout.{Layout}
use Rattle.vk_types.specs.declared.accesses.Layout.TheVariants.{Undefined, TransferSrc, TransferDst, ColorAttachment}
use Rattle.vk_types.specs.declared.handles.HandleId.{HandleId}
use Rattle.vk_types.specs.declared.handles.Kind.{Kind}
use Rattle.vk_types.specs.declared.handles.Kind.TheVariants.{Buffer, Image}
use Rattle.vk_types.specs.declared.regions.Touch.{Touch}
use Rattle.vk_types.specs.declared.regions.Barrier.{Barrier}
use Rattle.vk_types.specs.declared.ops.Op.{Op}
use Rattle.vk_types.specs.declared.ops.Op.TheVariants.{CopyBuffer, BufferToImage, ImageToBuffer, CopyImage, BlitImage, ClearImage, FillBuffer, PassPart}
use Rattle.vk_types.specs.declared.ops.Node.{Node}
use Rattle.vk_types.specs.Touches.{touches, op_touches, barrier_of, op_barrier, rows_size, buffer_texel}
use Rattle.vk_model.specs.Cells.{Contents}
use Rattle.vk_model.specs.Fitting.{HasRange, OpFits}
use Rattle.vk_model.specs.Log.{Item, Command, HostWrite, Wait, Signal, layout_set, layout_by, layout_step, layout_from, IsSound}
use Rattle.vk_model.specs.Meaning.{nothing, apply, after_all, touches_id}
use Rattle.vk_model.proofs.Order.{after_untouched}
use Rattle.barriers.specs.Licence.{Use, Accessed, Fenced, layout_after, layout_now, first_layout, barrier_due}
use Rattle.barriers.specs.Logs.{uses_by, uses_in, is_host_read}
use Rattle.barriers.specs.Recording.{handle, AreLicensed, NoFence}
use Rattle.barriers.specs.Trackers.{IsTouchOf}
use Rattle.barriers.proofs.Uses.{use_of_barrier, touches_barrier}
use Rattle.back_core.specs.Link.{Link, kinds_of}
use Rattle.object_helper.specs.Objects.{is_image}
use Rattle.front_model.specs.Face.{Face, recorded, whole_log}
use Rattle.front_model.specs.Stands.{Hands, ItemFits, Holds, is_image_of, uses_of}
use Rattle.front_model.proofs.Barriers.{whole_used}
use Rattle.front_model.proofs.Contents.{command_touches, one, two}
use Rattle.front_model.proofs.DueNodes.{DueLayouts}
use Rattle.front_model.proofs.Fitted.{whole_fits}

-- Barriers of an image name a layout that is not Undefined

-- what the laws of barriers that are due say
abbrev pub DueNew : Type 0
DueNew = (id : HandleId) (image : Bool) (uses : List Use) (touch : Touch) (barrier : Barrier) →
    barrier_due id image uses touch ≡ Some barrier → IfSome barrier.layouts (λ both. Some both.1 ≡ touch.layout)

abbrev pub Lays : Use → Type 0
Lays (Accessed access) = Unit {0}
Lays (Fenced barrier) = (both : Layout × Layout) × (barrier.layouts ≡ Some both) × (both.1 ≢ Undefined)

module _ (law : DueLayouts) (new : DueNew) where
  lays : (id : HandleId) (before : List Use) (barrier : Barrier) (touch : Touch) → IsTouchOf id true touch → barrier_due id true before touch ≡ Some barrier → Lays (Fenced barrier)
  lays id before barrier touch of due = go barrier.layouts refl (law id true before touch barrier of due) (new id true before touch barrier due)
    where
      go : (o : Option (Layout × Layout)) → barrier.layouts ≡ o → is_some o ≡ true → IfSome o (λ both. Some both.1 ≡ touch.layout) → Lays (Fenced barrier)
      go None e some is = absurd (false≢true some)
      go (Some both) e some is = (both, e, λ u. of.defined (sym is ∙ ap Some u))

  pub all_lay : (id : HandleId) (before uses : List Use) → AreLicensed id true (before ++ uses) → AllByRecursion Lays uses
  all_lay id before [] licensed = tt
  all_lay id before (Accessed access ∷ uses) licensed =
      (tt, all_lay id (before ++ Accessed access ∷ []) uses (subst (AreLicensed id true) (sym (append_assoc before (Accessed access ∷ []) uses)) licensed))
  all_lay id before (Fenced barrier ∷ uses) licensed =
      let due = licensed before uses barrier refl in
      (lays id before barrier due.0 due.1 due.2, all_lay id (before ++ Fenced barrier ∷ []) uses (subst (AreLicensed id true) (sym (append_assoc before (Fenced barrier ∷ []) uses)) licensed))

-- behind such a barrier the layout is not Undefined, and stays so
laid : (barrier : Barrier) (layout : Option Layout) → Lays (Fenced barrier) → layout_after layout (Fenced barrier) ≢ Some Undefined
laid barrier layout names e =
    let is : Some names.0.1 ≡ Some Undefined = sym (ap (λ (o : Option (Layout × Layout)). option_map_or (λ both. Some both.1) o layout) names.1) ∙ e in
    names.2 (same_Some names.0.1 Undefined is)

stays_laid : (uses : List Use) (layout : Option Layout) → AllByRecursion Lays uses → layout ≢ Some Undefined → layout_now layout uses ≢ Some Undefined
stays_laid [] layout all ne = ne
stays_laid (Accessed access ∷ uses) layout all ne = stays_laid uses layout all.1 ne
stays_laid (Fenced barrier ∷ uses) layout all ne = stays_laid uses (layout_after layout (Fenced barrier)) all.1 (laid barrier layout all.0)

-- so it was Undefined before, where it is Undefined still
pub was_unlaid : (uses : List Use) (layout : Option Layout) → AllByRecursion Lays uses → layout_now layout uses ≡ Some Undefined → layout ≡ Some Undefined
was_unlaid [] layout all e = e
was_unlaid (Accessed access ∷ uses) layout all e = was_unlaid uses layout all.1 e
was_unlaid (Fenced barrier ∷ uses) layout all e = absurd (stays_laid uses (layout_after layout (Fenced barrier)) all.1 (laid barrier layout all.0) e)

-- and no barrier is among the uses
no_fence : (uses : List Use) (layout : Option Layout) → AllByRecursion Lays uses → layout_now layout uses ≡ Some Undefined → NoFence uses
no_fence [] layout all e = tt
no_fence (Accessed access ∷ uses) layout all e = no_fence uses layout all.1 e
no_fence (Fenced barrier ∷ uses) layout all e = absurd (stays_laid uses (layout_after layout (Fenced barrier)) all.1 (laid barrier layout all.0) e)

no_fence-filter : (p : Use → Bool) (uses : List Use) → NoFence uses → NoFence (filter p uses)
no_fence-filter p [] free = tt
no_fence-filter p (Accessed access ∷ uses) free = go (p (Accessed access)) (no_fence-filter p uses free)
  where
    go : (b : Bool) → NoFence (filter p uses) → NoFence (cond b (Accessed access ∷ filter p uses) (filter p uses))
    go true rest = rest
    go false rest = rest
no_fence-filter p (Fenced barrier ∷ uses) free = absurd free

no_fence-parts : (xs ys : List Use) → NoFence (xs ++ ys) → NoFence xs × NoFence ys
no_fence-parts [] ys free = (tt, free)
no_fence-parts (Accessed access ∷ xs) ys free = no_fence-parts xs ys free
no_fence-parts (Fenced barrier ∷ xs) ys free = absurd free

-- Logs without a barrier of the image

no_barrier : (q : ℕ) (n : Node) (id : ℕ) (barrier : Barrier) → barrier_of n ≡ Some barrier → NoFence (uses_by id (Command q n)) → eqb barrier.id.0 id ≡ false
no_barrier q n id barrier is free =
    false_from_ne_true (eqb barrier.id.0 id) (λ t. subst NoFence (use_of_barrier q n id barrier (touches_barrier n id barrier is ∙ or_left (eqb barrier.id.0 id) false t) is) free)

step_stays : (x : Item) (id : ℕ) (layout : Layout) → NoFence (uses_by id x) → layout_step x id layout ≡ layout
step_stays (HostWrite i at bytes) id layout free = refl
step_stays (Wait q k) id layout free = refl
step_stays (Signal q k) id layout free = refl
step_stays (Command q n) id layout free = go (barrier_of n) refl
  where
    go : (o : Option Barrier) → barrier_of n ≡ o → layout_by (barrier_of n) id layout ≡ layout
    go None e = ap (λ o. layout_by o id layout) e
    go (Some barrier) e = ap (λ o. layout_by o id layout) e ∙ cond-false (eqb barrier.id.0 id) (layout_set barrier.layouts layout) layout (no_barrier q n id barrier e free)

-- each part of them leaves it in its layout
layout_stays : (log : List Item) (k id : ℕ) (layout : Layout) → NoFence (uses_in log id) → layout_from layout (take k log) id ≡ layout
layout_stays [] zero id layout free = refl
layout_stays [] (suc k) id layout free = refl
layout_stays (x ∷ log) zero id layout free = refl
layout_stays (x ∷ log) (suc k) id layout free =
    let parts = no_fence-parts (uses_by id x) (uses_in log id) free in
    ap (λ l. layout_from l (take k log) id) (step_stays x id layout parts.0) ∙ layout_stays log k id layout parts.1

item_free : (log : List Item) (k id : ℕ) (x : Item) → slice_get log k ≡ Some x → NoFence (uses_in log id) → NoFence (uses_by id x)
item_free [] k id x at free = absurd (none-some x at)
item_free (y ∷ log) zero id x at free = subst (λ z. NoFence (uses_by id z)) (same_Some y x at) (no_fence-parts (uses_by id y) (uses_in log id) free).0
item_free (y ∷ log) (suc k) id x at free = item_free log k id x at (no_fence-parts (uses_by id y) (uses_in log id) free).1

item_at : {X : Type 0} (P : X → Type 0) (xs : List X) (k : ℕ) (x : X) → slice_get xs k ≡ Some x → AllByRecursion P xs → P x
item_at P [] k x at all = absurd (none-some x at)
item_at P (y ∷ xs) zero x at all = subst P (same_Some y x at) all.0
item_at P (y ∷ xs) (suc k) x at all = item_at P xs k x at all.1

-- Nodes that find it do not touch it

src_defined : TransferSrc ≢ Undefined
src_defined e = cc

dst_defined : TransferDst ≢ Undefined
dst_defined e = cc

color_defined : ColorAttachment ≢ Undefined
color_defined e = cc

module _ (made : ℕ → Option Kind) (id format width height : ℕ) (is : made id ≡ Some (Image format width height)) where
  -- a handle of which something is said that is said of no image
  no_image : (j : ℕ) (P : Option Kind → Type 0) → (P (Some (Image format width height)) → ⊥) → P (made j) → eqb j id ≡ false
  no_image j P none p = ne_eqb j id (λ e. none (subst P (ap made e ∙ is) p))

  not_found : (j : ℕ) (layout : Layout) → layout ≢ Undefined → (j ≡ id → layout ≡ Undefined) → eqb j id ≡ false
  not_found j layout ne found = ne_eqb j id (λ e. ne (found e))

  abbrev Finds : Touch → Type 0
  Finds t = IfSome t.layout (λ layout. t.id.0 ≡ id → layout ≡ Undefined)

  op_unlaid : (o : Op) → OpFits made o → AllByRecursion Finds (op_touches o) → ((barrier : Barrier) → op_barrier o ≡ Some barrier → eqb barrier.id.0 id ≡ false) → list_any (λ t. eqb t.id.0 id) (op_touches o) ≡ false
  op_unlaid (CopyBuffer src src_at dst dst_at size) fits finds free =
      two (eqb src.0 id) (eqb dst.0 id) (no_image src.0 (λ k. HasRange k src_at size) (λ x. x) fits.0) (no_image dst.0 (λ k. HasRange k dst_at size) (λ x. x) fits.1)
  op_unlaid (BufferToImage src src_at stride texel_size dst rect) fits finds free =
      two (eqb src.0 id) (eqb dst.0 id) (no_image src.0 (λ k. HasRange k src_at (rows_size rect stride texel_size)) (λ x. x) fits.0) (not_found dst.0 TransferDst dst_defined finds.1.0)
  op_unlaid (ImageToBuffer src rect dst dst_at stride texel_size expand) fits finds free =
      two (eqb src.0 id) (eqb dst.0 id) (not_found src.0 TransferSrc src_defined finds.0) (no_image dst.0 (λ k. HasRange k dst_at (rows_size rect stride (buffer_texel texel_size expand))) (λ x. x) fits.2)
  op_unlaid (CopyImage src src_x src_y dst rect) fits finds free = two (eqb src.0 id) (eqb dst.0 id) (not_found src.0 TransferSrc src_defined finds.0) (not_found dst.0 TransferDst dst_defined finds.1.0)
  op_unlaid (BlitImage src dst coords clip) fits finds free = two (eqb src.0 id) (eqb dst.0 id) (not_found src.0 TransferSrc src_defined finds.0) (not_found dst.0 TransferDst dst_defined finds.1.0)
  op_unlaid (ClearImage image rect texel) fits finds free = one (eqb image.0 id) (not_found image.0 TransferDst dst_defined finds.0)
  op_unlaid (FillBuffer dst dst_at size byte) fits finds free = one (eqb dst.0 id) (no_image dst.0 (λ k. HasRange k dst_at size) (λ x. x) fits)
  op_unlaid (PassPart _ _ image _ _ clears) fits finds free = one (eqb image.0 id) (not_found image.0 ColorAttachment color_defined finds.0)
  op_unlaid (Op.Barrier barrier) fits finds free = one (eqb barrier.id.0 id) (free barrier refl)

  module _ (log : List Item) (sound : IsSound log) (free : NoFence (uses_in log id)) (fit : AllByRecursion (ItemFits made) log) where
    item_unlaid : (k : ℕ) (x : Item) → slice_get log k ≡ Some x → ItemFits made x → touches_id x id ≡ false
    item_unlaid k (Command q n) at fits =
        command_touches q n id
        ∙ op_unlaid n.op fits
        (recursion_from_All Finds (touches n) (λ j d lt. IfSome_then (get_or (touches n) j d).layout ((sound.laid_out k q n at).touched j d lt)
        (λ layout e same. e ∙ ap (λ i. layout_from Undefined (take k log) i) same ∙ layout_stays log k id Undefined free)))
        (λ barrier e. no_barrier q n id barrier e (item_free log k id (Command q n) at free))
    item_unlaid k (HostWrite i start bytes) at fits = or_from (eqb i id) false (no_image i (λ o. o ≡ Some (Buffer fits.0)) (λ e. let no : ⊥ = cc in no) fits.1) refl
    item_unlaid k (Wait q m) at fits = refl
    item_unlaid k (Signal q m) at fits = refl

    pub untouched : (k : ℕ) (x : Item) → slice_get log k ≡ Some x → touches_id x id ≡ false
    untouched k x at = item_unlaid k x at (item_at (ItemFits made) log k x at fit)

log_leaves : (kinds : ℕ → Kind) (log : List Item) (id : ℕ) → ((k : ℕ) (x : Item) → slice_get log k ≡ Some x → touches_id x id ≡ false) → (c : Contents) → after_all kinds log c id ≡ c id
log_leaves kinds [] id each c = refl
log_leaves kinds (x ∷ log) id each c = log_leaves kinds log id (λ k y at. each (suc k) y at) (apply kinds x c) ∙ after_untouched kinds x id (each 0 x refl) c

-- What a front recorded

module _ (f : Face) (hands : Hands) (s : Link) (h : Holds f hands s) (law : DueLayouts) (new : DueNew) where
  image_lays : (id : ℕ) → is_image_of s id ≡ true → AllByRecursion Lays (uses_of f s id)
  image_lays id image = all_lay law new (handle id) [] (uses_of f s id) (subst (λ b. AreLicensed (handle id) b (uses_of f s id)) image (h.fenced id).licensed)

  image_free : (id : ℕ) → is_image_of s id ≡ true → layout_now (first_layout true) (uses_of f s id) ≡ Some Undefined → NoFence (uses_in (whole_log f s) id)
  image_free id image undefined =
      subst NoFence ((whole_used f hands s h).in_log id).without_reads
      (no_fence-filter (λ u. not (is_host_read u)) (uses_of f s id) (no_fence (uses_of f s id) (Some Undefined) (image_lays id image) undefined))

  -- an image in the layout Undefined has no cell that is defined
  pub unlaid : (id : ℕ) → is_image_of s id ≡ true → layout_now (first_layout true) (uses_of f s id) ≡ Some Undefined → recorded f s id ≡ nothing id
  unlaid id image undefined = go (s.kinds id) refl
    where
      go : (o : Option Kind) → s.kinds id ≡ o → recorded f s id ≡ nothing id
      go None e = absurd (false≢true (sym (ap (λ k. is_image (unwrap_or k (Buffer 0))) e) ∙ image))
      go (Some (Buffer size)) e = absurd (false≢true (sym (ap (λ k. is_image (unwrap_or k (Buffer 0))) e) ∙ image))
      go (Some (Image format width height)) e =
          log_leaves (kinds_of s) (whole_log f s) id
          (untouched s.kinds id format width height e (whole_log f s) h.sound (image_free id image undefined) (whole_fits f hands s h)) nothing
