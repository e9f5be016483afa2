-- A node that fits may be recorded behind the barriers that are due before it.
use Rattle.std.proofs.Common.{◌≡◌, ◌≢◌, ℕ, ◌+◌, ◌<◌, ◌≤◌, ◌==◌, Bool, true, false, cond, eqb, List, [], ◌∷◌, ◌++◌, length, length-append, refl, sym, ◌∙◌, ap, subst, arith, inl, inr}
use Rattle.std.specs.Prelude.{◌⊎◌, not, map, Option, Some, None, is_some, Contains, unwrap_or}
use Rattle.std.specs.List.{filter, list_any, AllByRecursion}
use Rattle.std.proofs.lemmas.Bool.{false≢true, false_from_ne_true, both_ways, or_cases, or_parts, eqb-true}
use Rattle.std.proofs.lemmas.List.Elements.{All-cons, All-nil, All-from_recursion}
use Rattle.vk_types.specs.declared.accesses.Layout.{Layout}
use Rattle.vk_types.specs.declared.handles.HandleId.{HandleId}
use Rattle.vk_types.specs.declared.handles.Kind.{Kind}
use Rattle.vk_types.specs.declared.handles.Kind.TheVariants.{Buffer, Image}
use Rattle.vk_types.specs.declared.regions.Touch.{Touch}
use Rattle.vk_types.specs.declared.regions.Barrier.{Barrier}
use Rattle.vk_types.specs.declared.ops.Op.{Op}
use Rattle.vk_types.specs.declared.ops.Op.TheVariants.{CopyBuffer, BufferToImage, ImageToBuffer, CopyImage, BlitImage, ClearImage, FillBuffer, PassPart}
use Rattle.vk_types.specs.declared.ops.Node.{Node}
use Rattle.vk_types.specs.Accesses.{no_access}
use Rattle.vk_types.specs.Touches.{touches, op_touches, whole}
use Rattle.vk_model.specs.Fitting.{LayoutsFit, NodeFits}
use Rattle.vk_model.specs.Log.{NoneEmpty, NoConflict, conflict, touches_object}
use Rattle.vk_model.proofs.Clashes.{Shares, shares}
use Rattle.barriers.specs.Licence.{Use, barrier_due}
use Rattle.barriers.specs.Logs.{jointly}
use Rattle.barriers.specs.Recording.{firsts, joint_touches, barrier_node, node_for, due_before, with_due}
use Rattle.barriers.specs.Trackers.{IsTouchOf}
use Rattle.back_core.specs.Link.{Link}
use Rattle.back_core.specs.Needs.{IsOfGroup}
use Rattle.object_helper.specs.Objects.{is_image}
use Rattle.front_model.specs.Face.{Face, nodes_touch}
use Rattle.front_model.specs.Stands.{Hands, Holds, IsRecordable, is_image_of, uses_of}
use Rattle.front_model.specs.Steps.{IsTarget, IsOrdered, MayRecord}
use Rattle.front_model.proofs.Base.{some_is}
use Rattle.front_model.proofs.Updates.{only}
use Rattle.front_model.proofs.DueNodes.{DueLayouts, OfEachDue, own_touches, with_due_each}

-- what the laws of barriers that are due say
abbrev pub DueOf : Type 0
DueOf = (id : HandleId) (image : Bool) (uses : List Use) (touch : Touch) (barrier : Barrier) → barrier_due id image uses touch ≡ Some barrier → barrier.id ≡ id

-- What a node and the barriers before it touch

-- a touch of the object, of which something holds
touching : (P : Touch → Type 0) (id : ℕ) (ts : List Touch) → AllByRecursion P ts → list_any (λ t. eqb t.id.0 id) ts ≡ true → (t : Touch) × P t × (t.id.0 ≡ id)
touching P id [] all e = absurd (false≢true e)
touching P id (t ∷ ts) all e = go (or_cases (eqb t.id.0 id) (list_any (λ u. eqb u.id.0 id) ts) e) (touching P id ts all.1)
  where
    go : (eqb t.id.0 id ≡ true) ⊎ (list_any (λ u. eqb u.id.0 id) ts ≡ true) → (list_any (λ u. eqb u.id.0 id) ts ≡ true → (u : Touch) × P u × (u.id.0 ≡ id)) → (u : Touch) × P u × (u.id.0 ≡ id)
    go (inl here) rest = (t, all.0, eqb-true t.id.0 id here)
    go (inr later) rest = rest later

-- the node touches the object
abbrev HasTouch : Node → ℕ → Type 0
HasTouch n id = (t : Touch) × Contains (touches n) t × (t.id.0 ≡ id)

touch_of : (n : Node) (id : ℕ) → touches_object n id ≡ true → HasTouch n id
touch_of n id e = touching (Contains (touches n)) id (touches n) (own_touches n) e

barrier_touch : (barrier : Barrier) (id : HandleId) (j : ℕ) → barrier.id ≡ id → touches_object (barrier_node barrier) j ≡ true → id.0 ≡ j
barrier_touch barrier id j is e = ap (λ (i : HandleId). i.0) (sym is) ∙ eqb-true barrier.id.0 j (only (eqb barrier.id.0 j) e)

some_touch : (nodes : List Node) (id : ℕ) (T : Type 0) → AllByRecursion (λ m. touches_object m id ≡ true → T) nodes → nodes_touch nodes id ≡ true → T
some_touch [] id T all e = absurd (false≢true e)
some_touch (m ∷ nodes) id T all e = elim (or_cases (touches_object m id) (nodes_touch nodes id) e) [ inl here ↦ all.0 here | inr later ↦ some_touch nodes id T all.1 later ]

-- How many they are

touches_few : (o : Op) → length (op_touches o) ≤ 2
touches_few (CopyBuffer src src_at dst dst_at size) = omega arith
touches_few (BufferToImage src src_at stride texel_size dst rect) = omega arith
touches_few (ImageToBuffer src rect dst dst_at stride texel_size expand) = omega arith
touches_few (CopyImage src src_x src_y dst rect) = omega arith
touches_few (BlitImage src dst coords clip) = omega arith
touches_few (ClearImage image rect texel) = omega arith
touches_few (FillBuffer dst dst_at size byte) = omega arith
touches_few (PassPart _ _ image _ _ _) = omega arith
touches_few (Op.Barrier barrier) = omega arith

filter_few : (p : Touch → Bool) (ts : List Touch) → length (filter p ts) ≤ length ts
filter_few p [] = omega arith
filter_few p (t ∷ ts) = go (p t) (filter_few p ts)
  where
    go : (b : Bool) → length (filter p ts) ≤ length ts → length (cond b (t ∷ filter p ts) (filter p ts)) ≤ length (t ∷ ts)
    go true rest = omega (arith, rest)
    go false rest = omega (arith, rest)

firsts_few : (ts : List Touch) → length (firsts ts) ≤ length ts
firsts_few [] = omega arith
firsts_few (t ∷ ts) =
    let rest : length (firsts ts) ≤ length ts = firsts_few ts in
    let kept : length (filter (λ u. not (u.id.0 == t.id.0)) (firsts ts)) ≤ length (firsts ts) = filter_few (λ u. not (u.id.0 == t.id.0)) (firsts ts) in
    omega (arith, rest, kept)

one_few : (o : Option Barrier) → length (node_for o) ≤ 1
one_few None = omega arith
one_few (Some barrier) = omega arith

due_few : (image : ℕ → Bool) (uses : ℕ → List Use) (n : Node) (ts : List Touch) → length (due_before image uses (map (jointly n) ts)) ≤ length ts
due_few image uses n [] = omega arith
due_few image uses n (t ∷ ts) =
    let first : List Node = node_for (barrier_due t.id (image t.id.0) (uses t.id.0) (jointly n t)) in
    let sum : length (first ++ due_before image uses (map (jointly n) ts)) ≡ length first + length (due_before image uses (map (jointly n) ts)) = length-append first (due_before image uses (map (jointly n) ts)) in
    let here : length first ≤ 1 = one_few (barrier_due t.id (image t.id.0) (uses t.id.0) (jointly n t)) in
    let rest : length (due_before image uses (map (jointly n) ts)) ≤ length ts = due_few image uses n ts in
    omega (arith, sum, here, rest)

with_due_few : (image : ℕ → Bool) (uses : ℕ → List Use) (n : Node) → length (with_due image uses n) ≤ 3
with_due_few image uses n =
    let fences : List Node = due_before image uses (joint_touches n) in
    let sum : length (fences ++ n ∷ []) ≡ length fences + 1 = length-append fences (n ∷ []) in
    let due : length fences ≤ length (firsts (touches n)) = due_few image uses n (firsts (touches n)) in
    let first : length (firsts (touches n)) ≤ length (touches n) = firsts_few (touches n) in
    let few : length (touches n) ≤ 2 = touches_few n.op in
    omega (arith, sum, due, first, few)

-- Barriers

barrier_some : (barrier : Barrier) → NoneEmpty (barrier_node barrier)
barrier_some barrier = All-cons (λ (t : Touch). t.start < t.end) (whole barrier.id no_access None) [] (omega arith) (All-nil (λ (t : Touch). t.start < t.end))

barrier_recordable : (barrier : Barrier) → IsRecordable (barrier_node barrier)
barrier_recordable barrier = record { plain = tt; some = barrier_some barrier }

layouts_fit : (k : Option Kind) (o : Option (Layout × Layout)) (kind : Kind) → k ≡ Some kind → is_some o ≡ is_image kind → LayoutsFit k o
layouts_fit k o (Buffer size) is e = subst (λ k. LayoutsFit k o) (sym is) (none o e)
  where
    none : (o : Option (Layout × Layout)) → is_some o ≡ false → o ≡ None
    none None e = refl
    none (Some both) e = absurd (false≢true (sym e))
layouts_fit k o (Image format width height) is e = subst (λ k. LayoutsFit k o) (sym is) e

-- Contexts apart

module _ (m : Node) where
  one_apart : (ys : List Node) → ((id : ℕ) → touches_object m id ≡ true → nodes_touch ys id ≡ false) → AllByRecursion (λ y. conflict m y ≡ false) ys
  one_apart [] none = tt
  one_apart (y ∷ ys) none = (
    false_from_ne_true (conflict m y) (λ e. let on : Shares m y = shares m y e in
        both_ways (touches_object y on.id) (or_parts (touches_object y on.id) (nodes_touch ys on.id) (none on.id on.by_a)).0 on.by_b),
    one_apart ys (λ id t. (or_parts (touches_object y id) (nodes_touch ys id) (none id t)).1),
  )

module _ (image : ℕ → Bool) (uses : ℕ → List Use) (n : Node) (others : List Node) (of : DueOf) where
  pub due_apart : NoConflict (n ∷ []) others →
      ((t : Touch) (barrier : Barrier) → Contains (touches n) t → barrier_due t.id (image t.id.0) (uses t.id.0) (jointly n t) ≡ Some barrier → nodes_touch others t.id.0 ≡ false) → NoConflict (with_due image uses n) others
  due_apart apart none = with_due_each image uses n (λ m. AllByRecursion (λ y. conflict m y ≡ false) others)
      (λ t barrier has due. one_apart (barrier_node barrier) others (λ id e.
      subst (λ j. nodes_touch others j ≡ false) (barrier_touch barrier t.id id (of t.id (image t.id.0) (uses t.id.0) (jointly n t) barrier due) e) (none t barrier has due))) apart.0

  pub due_parted : ((t : Touch) → Contains (touches n) t → nodes_touch others t.id.0 ≡ false) → NoConflict (with_due image uses n) others
  due_parted none = due_apart
      (one_apart n others (λ id e. let t : HasTouch n id = touch_of n id e in subst (λ j. nodes_touch others j ≡ false) t.2 (none t.0 t.1)), tt)
      (λ t barrier has due. none t has)

-- Recording

module _ (f : Face) (hands : Hands) (s : Link) (h : Holds f hands s) where
  target_kind : (id : ℕ) → IsTarget f hands id → (kind : Kind) × (s.kinds id ≡ Some kind)
  target_kind id (inl hand) = let slot = some_is (hands id) hand in (slot.0.kind, (h.hands_stand id slot.0 slot.1).stands.kind)
  target_kind id (inr (o, b, at, is)) = (b.slot.kind, ap s.kinds (sym is) ∙ (h.objects o b at).slot.kind)

  -- a barrier with layouts exactly where its object is an image
  barrier_fits : (id : HandleId) (barrier : Barrier) → barrier.id ≡ id → IsTarget f hands id.0 → is_some barrier.layouts ≡ is_image_of s id.0 → NodeFits s.kinds (barrier_node barrier)
  barrier_fits id barrier named target is =
      let kind = target_kind id.0 target in
      subst (λ (i : HandleId). LayoutsFit (s.kinds i.0) barrier.layouts) (sym named)
      (layouts_fit (s.kinds id.0) barrier.layouts kind.0 kind.1 (is ∙ ap (λ k. is_image (unwrap_or k (Buffer 0))) kind.1))

module _ (f : Face) (hands : Hands) (s : Link) (index : ℕ) (n : Node) (h : Holds f hands s) where
  abbrev due : List Node
  due = with_due (is_image_of s) (uses_of f s) n

  pub due_may : DueLayouts → DueOf → ((t : Touch) → Contains (touches n) t → IsTouchOf t.id (is_image_of s t.id.0) (jointly n t)) → IsOrdered f s (with_due (is_image_of s) (uses_of f s) n) →
      IsOfGroup f.group index → IsRecordable n → NodeFits s.kinds n → length (f.pending index) + 3 < 4294967294 → ((t : Touch) → Contains (touches n) t → IsTarget f hands t.id.0) →
      ((i : ℕ) → i ≢ index → NoConflict (with_due (is_image_of s) (uses_of f s) n) (f.pending i)) → MayRecord f hands s index (with_due (is_image_of s) (uses_of f s) n)
  due_may law of touch ordered own recordable fits room targets apart = record {
    of_group = own;
    ordered = ordered;
    recordable = All-from_recursion IsRecordable due (with_due_each (is_image_of s) (uses_of f s) n IsRecordable (λ t barrier has e. barrier_recordable barrier) recordable);
    fits = All-from_recursion (NodeFits s.kinds) due (with_due_each (is_image_of s) (uses_of f s) n (NodeFits s.kinds) fit fits);
    none_empty = All-from_recursion NoneEmpty due (with_due_each (is_image_of s) (uses_of f s) n NoneEmpty (λ t barrier has e. barrier_some barrier) recordable.some);
    few = let most : length (with_due (is_image_of s) (uses_of f s) n) ≤ 3 = with_due_few (is_image_of s) (uses_of f s) n in omega (arith, room, most);
    apart = apart;
    targets = λ id e. some_touch due id (IsTarget f hands id) (with_due_each (is_image_of s) (uses_of f s) n (λ m. touches_object m id ≡ true → IsTarget f hands id)
        (λ t barrier has is on. subst (IsTarget f hands) (barrier_touch barrier t.id id (of t.id (is_image_of s t.id.0) (uses_of f s t.id.0) (jointly n t) barrier is) on) (targets t has))
        (λ on. let t : HasTouch n id = touch_of n id on in subst (IsTarget f hands) t.2 (targets t.0 t.1))) e;
  }
    where
      fit : OfEachDue (is_image_of s) (uses_of f s) n (NodeFits s.kinds)
      fit t barrier has is =
          barrier_fits f hands s h t.id barrier (of t.id (is_image_of s t.id.0) (uses_of f s t.id.0) (jointly n t) barrier is) (targets t has)
          (law t.id (is_image_of s t.id.0) (uses_of f s t.id.0) (jointly n t) barrier (touch t has) is)

-- a barrier alone
pub alone_may : (f : Face) (hands : Hands) (s : Link) (index : ℕ) (t : Touch) → Holds f hands s → DueLayouts → DueOf → IsTouchOf t.id (is_image_of s t.id.0) t →
    IsOrdered f s (node_for (barrier_due t.id (is_image_of s t.id.0) (uses_of f s t.id.0) t)) → IsOfGroup f.group index → length (f.pending index) + 1 < 4294967294 → IsTarget f hands t.id.0 →
    ((i : ℕ) → i ≢ index → nodes_touch (f.pending i) t.id.0 ≡ false) → MayRecord f hands s index (node_for (barrier_due t.id (is_image_of s t.id.0) (uses_of f s t.id.0) t))
alone_may f hands s index t h law of touch ordered own room target apart = go (barrier_due t.id (is_image_of s t.id.0) (uses_of f s t.id.0) t) refl ordered
  where
    go : (o : Option Barrier) → barrier_due t.id (is_image_of s t.id.0) (uses_of f s t.id.0) t ≡ o → IsOrdered f s (node_for o) → MayRecord f hands s index (node_for o)
    go None e ordered = record {
      of_group = own;
      ordered = ordered;
      recordable = All-nil IsRecordable;
      fits = All-nil (NodeFits s.kinds);
      none_empty = All-nil NoneEmpty;
      few = omega (arith, room);
      apart = λ i ne. tt;
      targets = λ id on. absurd (false≢true on);
    }
    go (Some barrier) e ordered =
        let named : barrier.id ≡ t.id = of t.id (is_image_of s t.id.0) (uses_of f s t.id.0) t barrier e in
        record {
          of_group = own;
          ordered = ordered;
          recordable = All-cons IsRecordable (barrier_node barrier) [] (barrier_recordable barrier) (All-nil IsRecordable);
          fits = All-cons (NodeFits s.kinds) (barrier_node barrier) [] (barrier_fits f hands s h t.id barrier named target (law t.id (is_image_of s t.id.0) (uses_of f s t.id.0) t barrier touch e)) (All-nil (NodeFits s.kinds));
          none_empty = All-cons NoneEmpty (barrier_node barrier) [] (barrier_some barrier) (All-nil NoneEmpty);
          few = omega (arith, room);
          apart = λ i ne. (one_apart (barrier_node barrier) (f.pending i) (λ id on. subst (λ j. nodes_touch (f.pending i) j ≡ false) (barrier_touch barrier t.id id named on) (apart i ne)), tt);
          targets = λ id on. subst (IsTarget f hands) (barrier_touch barrier t.id id named (only (touches_object (barrier_node barrier) id) on)) target;
        }
