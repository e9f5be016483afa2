-- Nodes behind the barriers that are due before them.
use Rattle.std.proofs.Common.{arith}
use Rattle.std.specs.Prelude.{◌==◌}
use Rattle.std.proofs.Common.{◌≡◌, ℕ, Bool, true, false, cond, List, [], ◌∷◌, ◌++◌, refl, sym, ◌∙◌, ap}
use Rattle.std.specs.Prelude.{not, map, is_some, Contains, Option, Some, None}
use Rattle.std.specs.List.{filter, AllByRecursion}
use Rattle.std.proofs.lemmas.Bool.{false≢true}
use Rattle.std.proofs.lemmas.Option.{none-some}
use Rattle.std.proofs.lemmas.List.Elements.{recursion_from_All, All-contains_itself}
use Rattle.vk_types.specs.declared.accesses.Layout.{Layout}
use Rattle.vk_types.specs.declared.handles.HandleId.{HandleId}
use Rattle.vk_types.specs.declared.regions.Touch.{Touch}
use Rattle.vk_types.specs.declared.regions.Barrier.{Barrier}
use Rattle.vk_types.specs.declared.ops.Node.{Node}
use Rattle.vk_types.specs.Touches.{touches}
use Rattle.vk_model.specs.Log.{commands, IsSound}
use Rattle.barriers.specs.Licence.{Use, is_licensed, waited_for, layouts_of, layout_now, first_layout, barrier_due}
use Rattle.barriers.specs.Trackers.{IsTouchOf}
use Rattle.barriers.specs.Logs.{jointly, uses_in}
use Rattle.barriers.specs.Recording.{handle, AreUsed, firsts, joint_touches, barrier_node, node_for, due_before, with_due}
use Rattle.back_core.specs.Link.{Link}
use Rattle.front_model.specs.Face.{Face, whole_log}
use Rattle.front_model.specs.Stands.{is_image_of, uses_of, host_touch}
use Rattle.front_model.specs.Steps.{KeepsContents, IsBehind, IsOrdered}
use Rattle.front_model.proofs.Orders.{each-append}

pub ordered : (f : Face) (s : Link) (nodes : List Node) → IsSound (whole_log f s ++ commands 0 nodes)
    × AreUsed (is_image_of s) (whole_log f s ++ commands 0 nodes) (λ id. uses_of f s id ++ uses_in (commands 0 nodes) id) → IsOrdered f s nodes
ordered f s nodes both = record {
  sound = both.0;
  fenced = λ id. record { licensed = both.1.licensed id; some = (both.1.in_log id).some; let_through = (both.1.in_log id).let_through };
}

-- what the host touches
pub host_of : (s : Link) (id : ℕ) → is_image_of s id ≡ false → IsTouchOf (handle id) (is_image_of s id) (host_touch id)
host_of s id buffer = record {
  of = refl;
  some = λ e. let n : 16 ≡ 0 = ap (λ a. a.0) e in absurd (omega (arith, n));
  image = λ e. absurd (false≢true (sym buffer ∙ e));
  buffer = λ some. absurd (some refl);
  defined = λ e. none-some _ e;
}

pub due_none : (id : HandleId) (image : Bool) (uses : List Use) (touch : Touch) → is_licensed image uses touch ≡ false → barrier_due id image uses touch ≡ None
due_none id image uses touch e = ap (λ b. cond b (Some (record { id = id; first = waited_for uses; second = touch.access; layouts = layouts_of (layout_now (first_layout image) uses) touch.layout })) None) e

-- What holds of each barrier that is due before a node

kept_ones : (P : Touch → Type 0) (p : Touch → Bool) (ts : List Touch) → AllByRecursion P ts → AllByRecursion P (filter p ts)
kept_ones P p [] all = tt
kept_ones P p (t ∷ ts) all = go (p t) (kept_ones P p ts all.1)
  where
    go : (b : Bool) → AllByRecursion P (filter p ts) → AllByRecursion P (cond b (t ∷ filter p ts) (filter p ts))
    go true rest = (all.0, rest)
    go false rest = rest

first_ones : (P : Touch → Type 0) (ts : List Touch) → AllByRecursion P ts → AllByRecursion P (firsts ts)
first_ones P [] all = tt
first_ones P (t ∷ ts) all = (all.0, kept_ones P (λ u. not (u.id.0 == t.id.0)) (firsts ts) (first_ones P ts all.1))

pub own_touches : (n : Node) → AllByRecursion (Contains (touches n)) (touches n)
own_touches n = recursion_from_All (Contains (touches n)) (touches n) (All-contains_itself (touches n))

-- what holds of a barrier that is due before some touch of the node
abbrev pub OfEachDue : (ℕ → Bool) → (ℕ → List Use) → Node → (Node → Type 0) → Type 0
OfEachDue image uses n P = (t : Touch) (barrier : Barrier) → Contains (touches n) t → barrier_due t.id (image t.id.0) (uses t.id.0) (jointly n t) ≡ Some barrier → P (barrier_node barrier)

module _ (image : ℕ → Bool) (uses : ℕ → List Use) (n : Node) (P : Node → Type 0) (each : OfEachDue image uses n P) where
  one_due : (t : Touch) → Contains (touches n) t → (o : Option Barrier) → barrier_due t.id (image t.id.0) (uses t.id.0) (jointly n t) ≡ o → AllByRecursion P (node_for o)
  one_due t has None e = tt
  one_due t has (Some barrier) e = (each t barrier has e, tt)

  many_due : (ts : List Touch) → AllByRecursion (Contains (touches n)) ts → AllByRecursion P (due_before image uses (map (jointly n) ts))
  many_due [] all = tt
  many_due (t ∷ ts) all =
      each-append P (node_for (barrier_due t.id (image t.id.0) (uses t.id.0) (jointly n t))) (due_before image uses (map (jointly n) ts))
      (one_due t all.0 (barrier_due t.id (image t.id.0) (uses t.id.0) (jointly n t)) refl) (many_due ts all.1)

  pub due_each : AllByRecursion P (due_before image uses (joint_touches n))
  due_each = many_due (firsts (touches n)) (first_ones (Contains (touches n)) (touches n) (own_touches n))

  -- and of the node
  pub with_due_each : P n → AllByRecursion P (with_due image uses n)
  with_due_each here = each-append P (due_before image uses (joint_touches n)) (n ∷ []) due_each (here, tt)

-- Barriers of buffers

-- what the laws of barriers that are due say
abbrev pub DueLayouts : Type 0
DueLayouts = (id : HandleId) (image : Bool) (uses : List Use) (touch : Touch) (barrier : Barrier) →
    IsTouchOf id image touch → barrier_due id image uses touch ≡ Some barrier → is_some barrier.layouts ≡ image

without_layouts : (barrier : Barrier) → is_some barrier.layouts ≡ false → KeepsContents (barrier_node barrier)
without_layouts barrier none = record { id = barrier.id; first = barrier.first; second = barrier.second; is = ap (λ o. barrier_node (record { id = barrier.id; first = barrier.first; second = barrier.second; layouts = o })) (go barrier.layouts none) }
  where
    go : (o : Option (Layout × Layout)) → is_some o ≡ false → o ≡ None
    go None e = refl
    go (Some both) e = absurd (false≢true (sym e))

pub due_keeps : DueLayouts → (id : HandleId) (image : Bool) (uses : List Use) (touch : Touch) → image ≡ false → IsTouchOf id image touch → AllByRecursion KeepsContents (node_for (barrier_due id image uses touch))
due_keeps law id image uses touch buffer of = go (barrier_due id image uses touch) refl
  where
    go : (o : Option Barrier) → barrier_due id image uses touch ≡ o → AllByRecursion KeepsContents (node_for o)
    go None e = tt
    go (Some barrier) e = (without_layouts barrier (law id image uses touch barrier of e ∙ buffer), tt)

module _ (s : Link) (n : Node) (uses : ℕ → List Use) (buffers : (t : Touch) → Contains (touches n) t → is_image_of s t.id.0 ≡ false) (law : DueLayouts) (some : (t : Touch) → Contains (touches n) t → IsTouchOf t.id (is_image_of s t.id.0) (jointly n t)) where
  pub node_behind : IsBehind (with_due (is_image_of s) uses n) n
  node_behind = record {
    fences = due_before (is_image_of s) uses (joint_touches n);
    is = refl;
    keep = due_each (is_image_of s) uses n KeepsContents (λ t barrier has due. without_layouts barrier (law t.id (is_image_of s t.id.0) (uses t.id.0) (jointly n t) barrier (some t has) due ∙ buffers t has));
  }
