-- What a front shows as nodes are recorded behind barriers, whatever layouts these name.
use mathlib.Core.Path.{fun_ext}
use Rattle.std.proofs.Common.{◌≡◌, ◌≢◌, ℕ, true, List, [], ◌∷◌, ◌++◌, sym, ◌∙◌, ap, subst, inl, inr, append_assoc}
use Rattle.std.specs.Prelude.{◌⊎◌, Some, slice_get, unwrap_or}
use Rattle.std.specs.List.{AllByRecursion}
use Rattle.cells.specs.Contents.{UNDEFINED}
use Rattle.vk_types.specs.declared.accesses.Layout.TheVariants.{Undefined}
use Rattle.vk_types.specs.declared.handles.Kind.TheVariants.{Buffer}
use Rattle.vk_types.specs.declared.regions.Barrier.{Barrier}
use Rattle.vk_types.specs.declared.ops.Node.{Node}
use Rattle.vk_model.specs.Cells.{Contents, discards}
use Rattle.vk_model.specs.Log.{Command, commands}
use Rattle.vk_model.specs.Meaning.{nothing, apply, after_all}
use Rattle.barriers.specs.Licence.{first_layout, layout_now}
use Rattle.barriers.specs.Logs.{uses_in}
use Rattle.barriers.specs.Recording.{handle, AreLicensed, barrier_node, joint_touches, due_before, with_due}
use Rattle.back_core.specs.Link.{Link, kinds_of}
use Rattle.front_model.specs.declared.object.Object.{Object}
use Rattle.object_helper.specs.Objects.{is_image}
use Rattle.front_model.specs.Face.{Waiting, Slot, Stored, Face, put_object, recorded, content_in, view}
use Rattle.front_model.specs.Stands.{Hands, Holds, is_image_of, uses_of}
use Rattle.front_model.specs.Steps.{with_nodes, with_object, taken_from, MayRecord, IsBarrier}
use Rattle.front_model.proofs.Contents.{nodes-append}
use Rattle.front_model.proofs.DueNodes.{DueLayouts}
use Rattle.front_model.proofs.Fences.{licensed_before, due_barriers, AreUnlaid, fences_leave, blank_before}
use Rattle.front_model.proofs.FrontViews.{recorded_nodes, shown_nodes, view_drained_by}
use Rattle.front_model.proofs.Base.{cases_object, put_object-same, put_object-other}
use Rattle.front_model.proofs.Shown.{content_clear, shown_but, store_apart, in_hand_apart}
use Rattle.front_model.proofs.Tracking.{by_nodes-append}
use Rattle.front_model.proofs.Unlaid.{DueNew, unlaid}

-- an object on which nothing waits shows what its store has
pub view_clear : (f : Face) (s : Link) (o : Object) (b : Stored) → f.objects o ≡ Some b → b.waiting ≡ [] → view f s o ≡ recorded f s b.handle
view_clear f s o b at clear = ap (content_in (kinds_of s) (recorded f s)) at ∙ content_clear (kinds_of s) (recorded f s) b clear

module _ (law : DueLayouts) (new : DueNew) (f : Face) (hands : Hands) (s : Link) where
  -- an image that is in the layout Undefined
  pub recorded_unlaid : (id : ℕ) → Holds f hands s → is_image_of s id ≡ true → layout_now (first_layout true) (uses_of f s id) ≡ Some Undefined → recorded f s id ≡ (λ p. UNDEFINED)
  recorded_unlaid id h image undefined = unlaid f hands s h law new id image undefined

  pub view_unlaid : (o : Object) (b : Stored) → Holds f hands s → f.objects o ≡ Some b → b.waiting ≡ [] → is_image b.slot.kind ≡ true → b.slot.tracker.layout ≡ Some Undefined → (p : ℕ) → view f s o p ≡ UNDEFINED
  view_unlaid o b h at clear image undefined p =
      let slot = (h.objects o b at).slot in
      let is : is_image_of s b.handle ≡ true = ap (λ k. is_image (unwrap_or k (Buffer 0))) slot.kind ∙ image in
      let now : layout_now (first_layout true) (uses_of f s b.handle) ≡ Some Undefined =
      ap (λ i. layout_now (first_layout i) (uses_of f s b.handle)) (sym is) ∙ (sym slot.tracked.layout ∙ undefined) in
      ap (λ (v : ℕ → ℕ). v p) (view_clear f s o b at clear ∙ unlaid f hands s h law new b.handle is now)

  module _ (index : ℕ) (h : Holds f hands s) where
    none_laid : AreUnlaid (kinds_of s) (is_image_of s) (recorded f s) law new (uses_of f s)
    none_laid id image undefined = unlaid f hands s h law new id image undefined

    after_behind : (fences : List Node) (n : Node) → AllByRecursion IsBarrier fences → MayRecord f hands s index (fences ++ n ∷ []) → after_all (kinds_of s) (commands 0 (fences ++ n ∷ [])) (recorded f s) ≡ apply (kinds_of s) (Command 0 n) (recorded f s)
    after_behind fences n all may =
        nodes-append (kinds_of s) fences (n ∷ []) (recorded f s)
        ∙ ap (apply (kinds_of s) (Command 0 n))
        (fences_leave (kinds_of s) (is_image_of s) (recorded f s) law new fences (uses_of f s) all none_laid (λ id.
        licensed_before (handle id) (is_image_of s id) (uses_of f s id ++ uses_in (commands 0 fences) id) (uses_in (commands 0 (n ∷ [])) id)
        (subst (AreLicensed (handle id) (is_image_of s id))
        (ap (λ us. uses_of f s id ++ us) (by_nodes-append fences (n ∷ []) id) ∙ sym (append_assoc (uses_of f s id) (uses_in (commands 0 fences) id) (uses_in (commands 0 (n ∷ [])) id)))
        (may.ordered.fenced id).licensed)))

    -- what a node leaves behind barriers
    pub recorded_behind : (fences : List Node) (n : Node) → AllByRecursion IsBarrier fences → MayRecord f hands s index (fences ++ n ∷ []) → recorded (with_nodes f index (fences ++ n ∷ [])) s ≡ apply (kinds_of s) (Command 0 n) (recorded f s)
    recorded_behind fences n all may = recorded_nodes f hands s index (fences ++ n ∷ []) h may ∙ after_behind fences n all may

    shown_behind : (fences : List Node) (n : Node) → AllByRecursion IsBarrier fences → MayRecord f hands s index (fences ++ n ∷ []) → (o : Object) →
        view (with_nodes f index (fences ++ n ∷ [])) s o ≡ content_in (kinds_of s) (apply (kinds_of s) (Command 0 n) (recorded f s)) (f.objects o)
    shown_behind fences n all may o = shown_nodes f hands s index (fences ++ n ∷ []) h may o ∙ ap (λ c. content_in (kinds_of s) c (f.objects o)) (after_behind fences n all may)

    -- a node that changes the store of an object alone
    pub view_changed : (fences : List Node) (n : Node) (q : Object) (b : Stored) → AllByRecursion IsBarrier fences → MayRecord f hands s index (fences ++ n ∷ []) → f.objects q ≡ Some b → b.waiting ≡ [] →
        ((id p : ℕ) → id ≢ b.handle → apply (kinds_of s) (Command 0 n) (recorded f s) id p ≡ recorded f s id p) →
        view (with_nodes f index (fences ++ n ∷ [])) s ≡ put_object (view f s) q (apply (kinds_of s) (Command 0 n) (recorded f s) b.handle)
    view_changed fences n q b all may at clear others = fun_ext (λ o. shown_behind fences n all may o ∙ go o (cases_object o q))
      where
        changed : Contents
        changed = apply (kinds_of s) (Command 0 n) (recorded f s)

        go : (o : Object) → (o ≡ q) ⊎ (o ≢ q) → content_in (kinds_of s) changed (f.objects o) ≡ put_object (view f s) q (changed b.handle) o
        go o (inl same) =
            ap (λ x. content_in (kinds_of s) changed (f.objects x)) same
            ∙ ap (content_in (kinds_of s) changed) at
            ∙ content_clear (kinds_of s) changed b clear
            ∙ sym (put_object-same (view f s) q (changed b.handle))
            ∙ sym (ap (put_object (view f s) q (changed b.handle)) same)
        go o (inr other) =
            shown_but f hands s h (kinds_of s) changed (recorded f s) o b.handle (store_apart h.owner o q b.handle (h.objects q b at).owned other) (λ j ne. fun_ext (λ p. others j p ne))
            ∙ sym (put_object-other (view f s) q (changed b.handle) o other)

    -- a node that changes a handle in hand alone
    pub view_left : (fences : List Node) (n : Node) (id : ℕ) (slot : Slot) → AllByRecursion IsBarrier fences → MayRecord f hands s index (fences ++ n ∷ []) → hands id ≡ Some slot →
        ((j p : ℕ) → j ≢ id → apply (kinds_of s) (Command 0 n) (recorded f s) j p ≡ recorded f s j p) → view (with_nodes f index (fences ++ n ∷ [])) s ≡ view f s
    view_left fences n id slot all may hand others = fun_ext (λ o.
        shown_behind fences n all may o
        ∙ shown_but f hands s h (kinds_of s) (apply (kinds_of s) (Command 0 n) (recorded f s)) (recorded f s) o id (in_hand_apart h.owner o id (h.hands_stand id slot hand).owned) (λ j ne. fun_ext (λ p. others j p ne)))

    pub recorded_due : (n : Node) → MayRecord f hands s index (with_due (is_image_of s) (uses_of f s) n) →
        recorded (with_nodes f index (with_due (is_image_of s) (uses_of f s) n)) s ≡ apply (kinds_of s) (Command 0 n) (recorded f s)
    recorded_due n may = recorded_behind (due_before (is_image_of s) (uses_of f s) (joint_touches n)) n (due_barriers (is_image_of s) (uses_of f s) (joint_touches n)) may

    -- barriers alone
    pub view_fenced : (fences : List Node) → AllByRecursion IsBarrier fences → MayRecord f hands s index fences → view (with_nodes f index fences) s ≡ view f s
    view_fenced fences all may =
        let leave : after_all (kinds_of s) (commands 0 fences) (recorded f s) ≡ recorded f s =
        fences_leave (kinds_of s) (is_image_of s) (recorded f s) law new fences (uses_of f s) all none_laid (λ id. (may.ordered.fenced id).licensed) in
        fun_ext (λ o. shown_nodes f hands s index fences h may o ∙ ap (λ c. content_in (kinds_of s) c (f.objects o)) leave)

    pub view_discarded : (fences : List Node) (place : ℕ) (o : Object) (b : Stored) (barrier : Barrier) → AllByRecursion IsBarrier fences → MayRecord f hands s index fences → f.objects o ≡ Some b → b.waiting ≡ [] →
        slice_get fences place ≡ Some (barrier_node barrier) → barrier.id.0 ≡ b.handle → discards barrier.layouts ≡ true → (p : ℕ) → view (with_nodes f index fences) s o p ≡ UNDEFINED
    view_discarded fences place o b barrier all may at clear here same all_lost p =
        let blank : recorded f s barrier.id.0 ≡ nothing barrier.id.0 =
        blank_before (kinds_of s) (is_image_of s) (recorded f s) law new fences place (uses_of f s) barrier here all_lost none_laid (λ id. (may.ordered.fenced id).licensed) in
        ap (λ (v : Object → ℕ → ℕ). v o p) (view_fenced fences all may)
        ∙ ap (λ (v : ℕ → ℕ). v p) (view_clear f s o b at clear ∙ (ap (recorded f s) (sym same) ∙ blank))

-- the first that waits on an object, taken and recorded behind barriers
pub view_drained_behind : DueLayouts → DueNew → (f : Face) (hands also : Hands) (s : Link) (index : ℕ) (fences : List Node) (o : Object) (b : Stored) (w : Waiting) → Holds f hands s →
    f.objects o ≡ Some b → slice_get b.waiting 0 ≡ Some w → Holds (with_object f o (Some (taken_from b 0))) also s → AllByRecursion IsBarrier fences →
    MayRecord (with_object f o (Some (taken_from b 0))) also s index (fences ++ w.node ∷ []) →
    view (with_nodes (with_object f o (Some (taken_from b 0))) index (fences ++ w.node ∷ [])) s ≡ view f s
view_drained_behind law new f hands also s index fences o b w h is first h' all may =
    view_drained_by f hands also s index (fences ++ w.node ∷ []) o b w h is first h' may (after_behind law new (with_object f o (Some (taken_from b 0))) also s index h' fences w.node all may)
