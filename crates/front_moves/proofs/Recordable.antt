-- Copies and barriers of buffers may be recorded.
use Rattle.vk_types.specs.declared.accesses.Access.{Access}
use Rattle.vk_types.specs.declared.accesses.Layout.{Layout}
use Rattle.vk_types.specs.declared.regions.Barrier.{Barrier}
use Rattle.barriers.specs.Recording.{node_for, barrier_node}
use Rattle.front_model.proofs.Base.{nodes_touch-append}
use Rattle.std.proofs.lemmas.List.Elements.{All-append}
use Rattle.std.proofs.Common.{ap}
use Rattle.front_moves.specs.Recording.{IsFence, behind_both}
use Rattle.std.proofs.Common.{◌≡◌, ◌≢◌, ℕ, ◌+◌, ◌<◌, ◌≤◌, ◌==◌, Bool, true, false, List, [], ◌∷◌, ◌++◌, length, refl, sym, ◌∙◌, subst, arith, inl, inr}
use Rattle.std.specs.Prelude.{◌⊎◌, ◌||◌, min, Option, Some, None, All}
use Rattle.std.specs.List.{AllByRecursion}
use Rattle.std.proofs.lemmas.Bool.{false≢true, false_from_ne_true, or_left, or_right, or_cases, eqb-true}
use Rattle.std.proofs.lemmas.List.Elements.{All-nil, All-cons}
use Rattle.vk_types.specs.declared.handles.HandleId.{HandleId}
use Rattle.vk_types.specs.declared.handles.Kind.{Kind}
use Rattle.vk_types.specs.declared.handles.Kind.TheVariants as kind
use Rattle.vk_types.specs.declared.regions.Touch.{Touch}
use Rattle.vk_types.specs.declared.ops.Op.TheVariants as op
use Rattle.vk_types.specs.declared.ops.Node.{Node}
use Rattle.vk_types.specs.Accesses.{no_access, transfer_read, transfer_write}
use Rattle.vk_types.specs.Touches.{part, whole, the_end}
use Rattle.vk_model.specs.Log.{IsSound, NoneEmpty, NoConflict, commands, conflict, touches_object}
use Rattle.vk_model.specs.Fitting.{HasRange, LayoutsFit, NodeFits}
use Rattle.vk_model.proofs.Clashes.{Shares, shares}
use Rattle.back_core.specs.Link.{Link}
use Rattle.back_core.specs.Needs.{IsOfGroup}
use Rattle.front_model.specs.Face.{Face, whole_log, nodes_touch}
use Rattle.front_model.specs.Stands.{Hands, IsRecordable}
use Rattle.front_model.specs.Steps.{MayRecord, IsTarget, IsOrdered, plain_barrier}

-- Barriers

abbrev pub copy_node : HandleId → ℕ → HandleId → ℕ → ℕ → Node
copy_node src src_at dst dst_at size = record { op = op.CopyBuffer src src_at dst dst_at size }

-- what holds of each barrier of an object that leaves the layout
pub all_fence : (P : Node → Type 0) (id : HandleId) (due : Option Barrier) → IsFence id due → ((first second : Access) → P (plain_barrier id first second)) → All P (node_for due)
all_fence P id None is each = All-nil P
all_fence P id (Some barrier) is each =
    let both = is barrier refl in
    let named : plain_barrier id barrier.first barrier.second ≡ barrier_node barrier =
    ap (λ i. plain_barrier i barrier.first barrier.second) (sym both.0)
    ∙ ap (λ (o : Option (Layout × Layout)). barrier_node (record { id = barrier.id; first = barrier.first; second = barrier.second; layouts = o })) (sym both.1) in
    All-cons P (barrier_node barrier) [] (subst P named (each barrier.first barrier.second)) (All-nil P)

pub fence_touches : (id : HandleId) (due : Option Barrier) → IsFence id due → (h : ℕ) → nodes_touch (node_for due) h ≡ true → (id.0 == h) ≡ true
fence_touches id None is h e = absurd (false≢true e)
fence_touches id (Some barrier) is h e = ap (λ (i : HandleId). i.0 == h) (sym (is barrier refl).0) ∙ go (barrier.id.0 == h) e
  where
    go : (a : Bool) → ((a || false) || false) ≡ true → a ≡ true
    go true e = refl
    go false e = e

-- What they touch

pub barrier_touches : (barrier : Barrier) (id : HandleId) (h : ℕ) → barrier.id ≡ id → nodes_touch (barrier_node barrier ∷ []) h ≡ (id.0 == h)
barrier_touches barrier id h is = go (barrier.id.0 == h) ∙ ap (λ (i : HandleId). i.0 == h) is
  where
    go : (a : Bool) → ((a || false) || false) ≡ a
    go true = refl
    go false = refl

pub copy_touches : (one other : Option Barrier) (src : HandleId) (src_at : ℕ) (dst : HandleId) (dst_at size h : ℕ) → IsFence src one → IsFence dst other →
    nodes_touch (behind_both one other (copy_node src src_at dst dst_at size)) h ≡ ((src.0 == h) || (dst.0 == h))
copy_touches one other src src_at dst dst_at size h a b =
    nodes_touch-append (node_for one ++ node_for other) (copy_node src src_at dst dst_at size ∷ []) h
    ∙ (ap (λ t. t || nodes_touch (copy_node src src_at dst dst_at size ∷ []) h) (nodes_touch-append (node_for one) (node_for other) h)
    ∙ go (nodes_touch (node_for one) h) (nodes_touch (node_for other) h) (src.0 == h) (dst.0 == h) (fence_touches src one a h) (fence_touches dst other b h))
  where
    go : (p q s d : Bool) → (p ≡ true → s ≡ true) → (q ≡ true → d ≡ true) → ((p || q) || ((s || (d || false)) || false)) ≡ (s || d)
    go true q true d f g = refl
    go true q false d f g = absurd (false≢true (f refl))
    go false true true d f g = refl
    go false true false true f g = refl
    go false true false false f g = absurd (false≢true (g refl))
    go false false true d f g = refl
    go false false false true f g = refl
    go false false false false f g = refl

-- Nodes that touch nothing in common do not conflict

none_first : (a b : Bool) → (a || b) ≡ false → a ≡ false
none_first true b e = absurd (false≢true (sym e))
none_first false b e = refl

none_second : (a b : Bool) → (a || b) ≡ false → b ≡ false
none_second true b e = absurd (false≢true (sym e))
none_second false b e = e

one_apart : (x : Node) (ys : List Node) → ((id : ℕ) → touches_object x id ≡ true → nodes_touch ys id ≡ false) → AllByRecursion (λ y. conflict x y ≡ false) ys
one_apart x [] none = tt
one_apart x (y ∷ ys) none = (
  false_from_ne_true (conflict x y) (λ e. let s : Shares x y = shares x y e in
      false≢true (sym (none_first (touches_object y s.id) (nodes_touch ys s.id) (none s.id s.by_a)) ∙ s.by_b)),
  one_apart x ys (λ id t. none_second (touches_object y id) (nodes_touch ys id) (none id t)),
)

pub apart_where : (xs ys : List Node) → ((id : ℕ) → nodes_touch xs id ≡ true → nodes_touch ys id ≡ false) → NoConflict xs ys
apart_where [] ys none = tt
apart_where (x ∷ xs) ys none = (
  one_apart x ys (λ id t. none id (or_left (touches_object x id) (nodes_touch xs id) t)),
  apart_where xs ys (λ id t. none id (or_right (touches_object x id) (nodes_touch xs id) t)),
)

-- Copies

-- what holds of a copy and of the barriers before it
pub all_behind : (P : Node → Type 0) (one other : Option Barrier) (src : HandleId) (dst : HandleId) (n : Node) → IsFence src one → IsFence dst other →
    ((first second : Access) → P (plain_barrier src first second)) → ((first second : Access) → P (plain_barrier dst first second)) → P n → All P (behind_both one other n)
all_behind P one other src dst n a b from to last =
    All-append P (node_for one ++ node_for other) (n ∷ []) (All-append P (node_for one) (node_for other) (all_fence P src one a from) (all_fence P dst other b to)) (All-cons P n [] last (All-nil P))

at_most_three : (one other : Option Barrier) (n : Node) → length (behind_both one other n) ≤ 3
at_most_three None None n = omega arith
at_most_three None (Some y) n = omega arith
at_most_three (Some x) None n = omega arith
at_most_three (Some x) (Some y) n = omega arith

-- a barrier that leaves the layout fits a buffer
layouts_fit : (k : Option Kind) (at size : ℕ) → HasRange k at size → LayoutsFit k None
layouts_fit None at size bad = absurd bad
layouts_fit (Some (kind.Buffer len)) at size range = refl
layouts_fit (Some (kind.Image format width height)) at size bad = absurd bad

barrier_not_empty : (id : HandleId) (first second : Access) → NoneEmpty (plain_barrier id first second)
barrier_not_empty id first second = All-cons (λ (t : Touch). t.start < t.end) (whole id no_access None) [] (omega arith) (All-nil (λ (t : Touch). t.start < t.end))

barrier_recordable : (id : HandleId) (first second : Access) → IsRecordable (plain_barrier id first second)
barrier_recordable id first second = record { plain = tt; some = barrier_not_empty id first second }

-- a range of a buffer that nodes may touch
pub record IsFree (f : Face) (hands : Hands) (s : Link) (id : HandleId) (at size : ℕ) : Type 0 where
  pub range : HasRange (s.kinds id.0) at size
  pub end : at + size ≤ the_end
  pub target : IsTarget f hands id.0

copy_not_empty : (src : HandleId) (src_at : ℕ) (dst : HandleId) (dst_at size : ℕ) → 0 < size → src_at + size ≤ the_end → dst_at + size ≤ the_end → NoneEmpty (copy_node src src_at dst dst_at size)
copy_not_empty src src_at dst dst_at size some src_end dst_end =
    let first : src_at < min (src_at + size) the_end = omega (arith, some, src_end) in
    let second : dst_at < min (dst_at + size) the_end = omega (arith, some, dst_end) in
    All-cons (λ (t : Touch). t.start < t.end) (part src src_at size transfer_read) (part dst dst_at size transfer_write ∷ []) first
    (All-cons (λ (t : Touch). t.start < t.end) (part dst dst_at size transfer_write) [] second (All-nil (λ (t : Touch). t.start < t.end)))

-- what holds of both objects holds of each that is touched
touched_by : (one other : Option Barrier) (src : HandleId) (src_at : ℕ) (dst : HandleId) (dst_at size : ℕ) → IsFence src one → IsFence dst other →
    (P : ℕ → Type 0) (id : ℕ) → P src.0 → P dst.0 → nodes_touch (behind_both one other (copy_node src src_at dst dst_at size)) id ≡ true → P id
touched_by one other src src_at dst dst_at size a b P id x y touch = elim (or_cases (src.0 == id) (dst.0 == id) (sym (copy_touches one other src src_at dst dst_at size id a b) ∙ touch)) [
  | inl e ↦ subst P (eqb-true src.0 id e) x
  | inr e ↦ subst P (eqb-true dst.0 id e) y
]

-- nodes that touch neither object do not conflict with the copy and the barriers before it
pub copy_where : (one other : Option Barrier) (src : HandleId) (src_at : ℕ) (dst : HandleId) (dst_at size : ℕ) (nodes : List Node) → IsFence src one → IsFence dst other →
    nodes_touch nodes src.0 ≡ false → nodes_touch nodes dst.0 ≡ false → NoConflict (behind_both one other (copy_node src src_at dst dst_at size)) nodes
copy_where one other src src_at dst dst_at size nodes a b from to =
    apart_where (behind_both one other (copy_node src src_at dst dst_at size)) nodes (λ id touch. touched_by one other src src_at dst dst_at size a b (λ j. nodes_touch nodes j ≡ false) id from to touch)

pub copy_may : (f : Face) (hands : Hands) (s : Link) (index : ℕ) (one other : Option Barrier) (src : HandleId) (src_at : ℕ) (dst : HandleId) (dst_at size : ℕ) → IsOfGroup f.group index → length (f.pending index) < 1024 →
    IsOrdered f s (behind_both one other (copy_node src src_at dst dst_at size)) → IsFence src one → IsFence dst other → 0 < size →
    IsFree f hands s src src_at size → IsFree f hands s dst dst_at size →
    ((i : ℕ) → i ≢ index → NoConflict (behind_both one other (copy_node src src_at dst dst_at size)) (f.pending i)) → (src.0 ≡ dst.0 → (src_at + size ≤ dst_at) ⊎ (dst_at + size ≤ src_at)) →
    MayRecord f hands s index (behind_both one other (copy_node src src_at dst dst_at size))
copy_may f hands s index one other src src_at dst dst_at size own few ordered a b some from to parted apart = record {
  of_group = own;
  ordered = ordered;
  recordable = all_behind IsRecordable one other src dst copy a b (barrier_recordable src) (barrier_recordable dst) (record { plain = tt; some = not_empty });
  fits = all_behind (NodeFits s.kinds) one other src dst copy a b (λ first second. layouts_fit (s.kinds src.0) src_at size from.range) (λ first second. layouts_fit (s.kinds dst.0) dst_at size to.range) (from.range, to.range, apart);
  none_empty = all_behind NoneEmpty one other src dst copy a b (barrier_not_empty src) (barrier_not_empty dst) not_empty;
  few = let most : length (behind_both one other (copy_node src src_at dst dst_at size)) ≤ 3 = at_most_three one other (copy_node src src_at dst dst_at size) in omega (arith, few, most);
  apart = parted;
  targets = λ id touch. by (IsTarget f hands) id from.target to.target touch;
}
  where
    copy : Node
    copy = copy_node src src_at dst dst_at size

    not_empty : NoneEmpty (copy_node src src_at dst dst_at size)
    not_empty = copy_not_empty src src_at dst dst_at size some from.end to.end

    by : (P : ℕ → Type 0) (id : ℕ) → P src.0 → P dst.0 → nodes_touch (behind_both one other (copy_node src src_at dst dst_at size)) id ≡ true → P id
    by P id = touched_by one other src src_at dst dst_at size a b P id

-- A barrier alone

pub barrier_may : (f : Face) (hands : Hands) (s : Link) (index : ℕ) (id : HandleId) (barrier : Barrier) → IsFence id (Some barrier) → IsOfGroup f.group index → length (f.pending index) < 1024 →
    IsOrdered f s (barrier_node barrier ∷ []) → LayoutsFit (s.kinds id.0) None → IsTarget f hands id.0 →
    ((i : ℕ) → i ≢ index → nodes_touch (f.pending i) id.0 ≡ false) → MayRecord f hands s index (barrier_node barrier ∷ [])
barrier_may f hands s index id barrier is own few ordered fits target parted = record {
  of_group = own;
  ordered = ordered;
  recordable = all_fence IsRecordable id (Some barrier) is (barrier_recordable id);
  fits = all_fence (NodeFits s.kinds) id (Some barrier) is (λ first second. fits);
  none_empty = all_fence NoneEmpty id (Some barrier) is (barrier_not_empty id);
  few = omega (arith, few);
  apart = λ i ne. apart_where (barrier_node barrier ∷ []) (f.pending i) (λ j touch. subst (λ k. nodes_touch (f.pending i) k ≡ false) (same j touch) (parted i ne));
  targets = λ j touch. subst (IsTarget f hands) (same j touch) target;
}
  where
    same : (j : ℕ) → nodes_touch (barrier_node barrier ∷ []) j ≡ true → id.0 ≡ j
    same j touch = eqb-true id.0 j (sym (barrier_touches barrier id j (is barrier refl).0) ∙ touch)
