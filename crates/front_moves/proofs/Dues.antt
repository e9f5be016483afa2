-- The barriers that the trackers of stores tell are those that are due.
use Rattle.barriers.specs.Licence.{layouts_of, changes_layout}
use Rattle.barriers.specs.Trackers.{is_due, first_of}
use Rattle.front_model.specs.Stands.{no_hands}
use Rattle.std.specs.Prelude.{not}
use Rattle.std.specs.Option.{option_map_or}
use Rattle.vk_types.specs.Accesses.{in_common}
use Rattle.barriers.specs.Licence.{Fenced}
use Rattle.barriers.specs.Trackers.{new_tracker, taken}
use Rattle.front_model.specs.Stands.{SlotStands}
use Rattle.front_model.specs.Steps.{fresh_slot}
use Rattle.front_model.proofs.Base.{put-same}
use Rattle.front_moves.specs.Core.{in_hand}
use Rattle.vk_types.specs.declared.handles.HandleId.{HandleId}
use Rattle.vk_types.specs.declared.accesses.Access.{Access}
use Rattle.vk_types.specs.declared.regions.Touch.{Touch}
use Rattle.vk_types.specs.declared.regions.Barrier.{Barrier}
use Rattle.vk_types.specs.declared.ops.Node.{Node}
use Rattle.vk_types.specs.Accesses.{host_read, no_access, transfer_read, transfer_write}
use Rattle.vk_types.specs.Touches.{touches, barrier_of}
use Rattle.vk_model.specs.Log.{commands}
use Rattle.barriers.specs.declared.tracker.Tracker.{Tracker}
use Rattle.barriers.specs.Licence.{Use, Accessed, barrier_due, fenced_by}
use Rattle.barriers.specs.Trackers.{IsTouchOf, due_by}
use Rattle.barriers.specs.Logs.{uses_in}
use Rattle.barriers.specs.Recording.{handle, with_due, HasLayouts}
use Rattle.front_model.specs.Stands.{is_image_of, uses_of, IsTrackedBy}
use Rattle.front_model.specs.Steps.{IsOrdered, IsBehind}
use Rattle.std.proofs.lemmas.Bool.{cases_eq, cond-true, cond-false, eq-eqb, ne_eqb, eqb-true, or_cases, false≢true}
use Rattle.back_core.specs.Link.{Link}
use Rattle.object_helper.specs.Objects.{ObjectStore, access_of}
use Rattle.front_moves.specs.Objects.{key_of, stored_of}
use Rattle.front_moves.specs.Core.{CoreParts, face}
use Rattle.front_moves.specs.Recording.{IsDueBefore, IsFence, behind_both, read_write, copy_access}
use Rattle.std.specs.Prelude.{◌+◌}
use Rattle.std.proofs.Common.{◌≡◌, ◌≢◌, ℕ, Bool, true, false, cond, List, [], ◌∷◌, ◌++◌, refl, sym, ◌∙◌, ap, subst, arith, inl, inr}
use Rattle.std.specs.Prelude.{◌⊎◌, ◌==◌, ◌||◌, is_some, Contains, Option, Some, None, IfSome, unwrap_or}
use Rattle.std.specs.Option.{option_map}
use Rattle.vk_types.specs.declared.handles.Kind.TheVariants as kind
use Rattle.vk_types.specs.declared.accesses.Layout.{Layout}
use Rattle.tables.specs.Table.{entry}
use Rattle.front_model.specs.declared.object.Object.TheVariants.{Buffer}
use Rattle.object_helper.specs.Objects.{is_image}
use Rattle.front_model.specs.Face.{Face}
use Rattle.front_model.specs.Stands.{Hands, Holds}
use Rattle.front_moves.proofs.Recordable.{copy_node}
use Rattle.front_moves.proofs.ObjectStores.{IsStore, store_at, Distinct}
use Rattle.front_moves.proofs.Recorded.{IsAccessBy}
use Rattle.front_moves.proofs.Fencing.{source_uses, target_uses, within_uses, due_apart, due_within, copy_layouts, copy_buffers}

-- What the laws say

abbrev pub TellsDue : Type 0
TellsDue = (f : Face) (s : Link) (id : ℕ) (t : Tracker) (touch : Touch) → IsTrackedBy f s t id →
    due_by t touch ≡ barrier_due (handle id) (is_image_of s id) (uses_of f s id) touch

abbrev pub DueOf : Type 0
DueOf = (id : HandleId) (image : Bool) (uses : List Use) (touch : Touch) (barrier : Barrier) → barrier_due id image uses touch ≡ Some barrier → barrier.id ≡ id

abbrev pub DueLayouts : Type 0
DueLayouts = (id : HandleId) (image : Bool) (uses : List Use) (touch : Touch) (barrier : Barrier) →
    IsTouchOf id image touch → barrier_due id image uses touch ≡ Some barrier → is_some barrier.layouts ≡ image

abbrev pub NodeOrdered : Type 0
NodeOrdered = (f : Face) (hands : Hands) (s : Link) (n : Node) → Holds f hands s → barrier_of n ≡ None → HasLayouts (is_image_of s) n →
    IsOrdered f s (with_due (is_image_of s) (uses_of f s) n)

abbrev pub NodeBehind : Type 0
NodeBehind = (f : Face) (s : Link) (n : Node) → HasLayouts (is_image_of s) n → ((t : Touch) → Contains (touches n) t → is_image_of s t.id.0 ≡ false) →
    barrier_of n ≡ None → IsBehind (with_due (is_image_of s) (uses_of f s) n) n

-- Accesses of buffers

same_handle : (a b : HandleId) → a.0 ≡ b.0 → a ≡ b
same_handle a b e = ap handle e

pub buffer_touch : (id : HandleId) (access : Access) → access ≢ no_access → IsTouchOf id false (access_of id access)
buffer_touch id access some = record {
  of = refl;
  some = some;
  image = λ e. absurd (false≢true e);
  buffer = λ some. absurd (some refl);
  defined = λ e. cc;
}

-- what is due before an access of a buffer is a barrier of it that leaves the layout
pub due_fence : DueOf → DueLayouts → (id : HandleId) (image : Bool) (uses : List Use) (access : Access) → image ≡ false → access ≢ no_access → (due : Option Barrier) →
    due ≡ barrier_due id image uses (access_of id access) → IsFence id due
due_fence of layouts id image uses access buffer some due is barrier e = (
  of id image uses (access_of id access) barrier (sym is ∙ e),
  none barrier.layouts (layouts id image uses (access_of id access) barrier (subst (λ b. IsTouchOf id b (access_of id access)) (sym buffer) (buffer_touch id access some)) (sym is ∙ e) ∙ buffer),
)
  where
    none : (o : Option (Layout × Layout)) → is_some o ≡ false → o ≡ None
    none None e = refl
    none (Some both) e = absurd (false≢true (sym e))

pub some_read : transfer_read ≢ no_access
some_read e = let n : 1 ≡ 0 = ap (λ (a : Access). a.0) e in absurd (omega (arith, n))

pub some_write : transfer_write ≢ no_access
some_write e = let n : 2 ≡ 0 = ap (λ (a : Access). a.0) e in absurd (omega (arith, n))

pub some_both : read_write ≢ no_access
some_both e = let n : 3 ≡ 0 = ap (λ (a : Access). a.0) e in absurd (omega (arith, n))

pub some_host : host_read ≢ no_access
some_host e = let n : 16 ≡ 0 = ap (λ (a : Access). a.0) e in absurd (omega (arith, n))

module _ (c : CoreParts) (hands : Hands) (s : Link) (h : Holds (face c) hands s) where
  -- the store of a buffer is none of an image
  pub no_image : (b : ℕ) (id : HandleId) (len : ℕ) → IsStore c b id len → is_image_of s id.0 ≡ false
  no_image b id len of =
      ap (λ i. is_image_of s i) (sym of.handle)
      ∙ ap (λ k. is_image (unwrap_or k (kind.Buffer 0))) (h.objects (Buffer b) (stored_of of.store) (store_at c b of.store of.is)).slot.kind
      ∙ ap is_image of.is_buffer

  -- what the tracker of a store tells is what is due
  pub store_due : TellsDue → (b : ℕ) (id : HandleId) (len : ℕ) → (of : IsStore c b id len) → (access : Access) →
      due_by of.store.tracker (access_of of.store.handle access) ≡ barrier_due id (is_image_of s id.0) (uses_of (face c) s id.0) (access_of id access)
  store_due tells b id len of access =
      tells (face c) s of.store.handle.0 of.store.tracker (access_of of.store.handle access) (h.objects (Buffer b) (stored_of of.store) (store_at c b of.store of.is)).slot.tracked
      ∙ ap (λ (i : HandleId). barrier_due i (is_image_of s i.0) (uses_of (face c) s i.0) (access_of i access)) (same_handle of.store.handle id of.handle)

-- the store that is at a place is the one that a clause speaks of
pub if_there : (P : ObjectStore → Type 0) (o : Option ObjectStore) (x : ObjectStore) → IfSome o P → o ≡ Some x → P x
if_there P (Some y) x p e = subst P (let is : y ≡ x = cc in is) p
if_there P None x p e = absurd cc

-- A copy between buffers

pub record Copied (c : CoreParts) (s : Link) (src dst : ℕ) (one other : Option Barrier) (from to : HandleId) (n : Node) : Type 0 where
  pub first : IsFence from one
  pub second : IsFence to other
  pub ordered : IsOrdered (face c) s (behind_both one other n)
  pub behind : IsBehind (behind_both one other n) n
  pub accesses : (b : ℕ) (x : ObjectStore) → entry b c.stores ≡ Some x → ((b == src) || (b == dst)) ≡ true → IsAccessBy (behind_both one other n) x (copy_access src dst b)

module _ (tells : TellsDue) (due_of : DueOf) (layouts : DueLayouts) (orders : NodeOrdered) (behind : NodeBehind) (c : CoreParts) (hands : Hands) (s : Link) (h : Holds (face c) hands s) (src dst : ℕ) (one other : Option Barrier) (from to : HandleId) (src_at dst_at size src_len dst_len : ℕ) (a : IsStore c src from src_len) (b : IsStore c dst to dst_len) (due : IsDueBefore (key_of (Buffer src)) (key_of (Buffer dst)) c.stores one other) where
  abbrev n : Node
  n = copy_node from src_at to dst_at size

  image_a : is_image_of s from.0 ≡ false
  image_a = no_image c hands s h src from src_len a

  image_b : is_image_of s to.0 ≡ false
  image_b = no_image c hands s h dst to dst_len b

  has_layouts : HasLayouts (is_image_of s) (copy_node from src_at to dst_at size)
  has_layouts = copy_layouts from src_at to dst_at size (is_image_of s) image_a image_b

  all_ordered : IsOrdered (face c) s (with_due (is_image_of s) (uses_of (face c) s) (copy_node from src_at to dst_at size))
  all_ordered = orders (face c) hands s (copy_node from src_at to dst_at size) h refl has_layouts

  all_behind : IsBehind (with_due (is_image_of s) (uses_of (face c) s) (copy_node from src_at to dst_at size)) (copy_node from src_at to dst_at size)
  all_behind = behind (face c) s (copy_node from src_at to dst_at size) has_layouts (copy_buffers from src_at to dst_at size (is_image_of s) image_a image_b) refl

  same_store : (b : ℕ) (x : ObjectStore) (id : HandleId) (len : ℕ) → entry (key_of (Buffer b)) c.stores ≡ Some x → (of : IsStore c b id len) → of.store ≡ x
  same_store b x id len at of = let both : Some of.store ≡ Some x = sym of.is ∙ at in cc

  -- what a store is to the nodes, by what it is to its handle
  access_by : (nodes : List Node) (b : ℕ) (x : ObjectStore) (id : HandleId) (len : ℕ) (access : Access) (o : Option Barrier) → entry (key_of (Buffer b)) c.stores ≡ Some x → (of : IsStore c b id len) → o ≡ due_by of.store.tracker (access_of of.store.handle access) →
      uses_in (commands 0 nodes) id.0 ≡ fenced_by o ++ Accessed access ∷ [] → IsAccessBy nodes x access
  access_by nodes b x id len access o at of is uses =
      subst (λ (y : ObjectStore). IsAccessBy nodes y access) (same_store b x id len at of)
      (ap (uses_in (commands 0 nodes)) of.handle ∙ (uses ∙ ap (λ d. fenced_by d ++ Accessed access ∷ []) is))

  apart : (key_of (Buffer src)) ≢ (key_of (Buffer dst)) → from.0 ≢ to.0 → Copied c s (key_of (Buffer src)) (key_of (Buffer dst)) one other from to (copy_node from src_at to dst_at size)
  apart ne ids = record {
    first = first;
    second = second;
    ordered = subst (IsOrdered (face c) s) list all_ordered;
    behind = subst (λ l. IsBehind l (copy_node from src_at to dst_at size)) list all_behind;
    accesses = accesses;
  }
    where
      one_is : one ≡ due_by a.store.tracker (access_of a.store.handle transfer_read)
      one_is = if_there (λ x. one ≡ due_by x.tracker (access_of x.handle transfer_read)) (entry (key_of (Buffer src)) c.stores) a.store (due.source ne) a.is

      other_is : other ≡ due_by b.store.tracker (access_of b.store.handle transfer_write)
      other_is = if_there (λ x. other ≡ due_by x.tracker (access_of x.handle transfer_write)) (entry (key_of (Buffer dst)) c.stores) b.store (due.target ne) b.is

      one_due : one ≡ barrier_due from (is_image_of s from.0) (uses_of (face c) s from.0) (access_of from transfer_read)
      one_due = one_is ∙ store_due c hands s h tells src from src_len a transfer_read

      other_due : other ≡ barrier_due to (is_image_of s to.0) (uses_of (face c) s to.0) (access_of to transfer_write)
      other_due = other_is ∙ store_due c hands s h tells dst to dst_len b transfer_write

      first : IsFence from one
      first = due_fence due_of layouts from (is_image_of s from.0) (uses_of (face c) s from.0) transfer_read image_a some_read one one_due

      second : IsFence to other
      second = due_fence due_of layouts to (is_image_of s to.0) (uses_of (face c) s to.0) transfer_write image_b some_write other other_due

      list : with_due (is_image_of s) (uses_of (face c) s) (copy_node from src_at to dst_at size) ≡ behind_both one other (copy_node from src_at to dst_at size)
      list =
          due_apart from src_at to dst_at size (is_image_of s) (uses_of (face c) s) ids
          ∙ (ap (λ o. behind_both o (barrier_due to (is_image_of s to.0) (uses_of (face c) s to.0) (access_of to transfer_write)) (copy_node from src_at to dst_at size)) (sym one_due)
          ∙ ap (λ o. behind_both one o (copy_node from src_at to dst_at size)) (sym other_due))

      at_source : (k : ℕ) (x : ObjectStore) → entry k c.stores ≡ Some x → k ≡ (key_of (Buffer src)) → IsAccessBy (behind_both one other (copy_node from src_at to dst_at size)) x (copy_access (key_of (Buffer src)) (key_of (Buffer dst)) k)
      at_source k x at e =
          subst (IsAccessBy (behind_both one other (copy_node from src_at to dst_at size)) x)
          (sym (cond-false ((key_of (Buffer src)) == (key_of (Buffer dst))) read_write (cond (k == (key_of (Buffer src))) transfer_read transfer_write) (ne_eqb (key_of (Buffer src)) (key_of (Buffer dst)) ne) ∙ cond-true (k == (key_of (Buffer src))) transfer_read transfer_write (eq-eqb k (key_of (Buffer src)) e)))
          (access_by (behind_both one other (copy_node from src_at to dst_at size)) src x from src_len transfer_read one (ap (λ j. entry j c.stores) (sym e) ∙ at) a one_is (source_uses from src_at to dst_at size one other ids first second))

      at_target : (k : ℕ) (x : ObjectStore) → entry k c.stores ≡ Some x → k ≡ (key_of (Buffer dst)) → IsAccessBy (behind_both one other (copy_node from src_at to dst_at size)) x (copy_access (key_of (Buffer src)) (key_of (Buffer dst)) k)
      at_target k x at e =
          subst (IsAccessBy (behind_both one other (copy_node from src_at to dst_at size)) x)
          (sym (cond-false ((key_of (Buffer src)) == (key_of (Buffer dst))) read_write (cond (k == (key_of (Buffer src))) transfer_read transfer_write) (ne_eqb (key_of (Buffer src)) (key_of (Buffer dst)) ne) ∙ cond-false (k == (key_of (Buffer src))) transfer_read transfer_write (ne_eqb k (key_of (Buffer src)) (λ f. ne (sym f ∙ e)))))
          (access_by (behind_both one other (copy_node from src_at to dst_at size)) dst x to dst_len transfer_write other (ap (λ j. entry j c.stores) (sym e) ∙ at) b other_is (target_uses from src_at to dst_at size one other ids first second))

      accesses : (k : ℕ) (x : ObjectStore) → entry k c.stores ≡ Some x → ((k == (key_of (Buffer src))) || (k == (key_of (Buffer dst)))) ≡ true → IsAccessBy (behind_both one other (copy_node from src_at to dst_at size)) x (copy_access (key_of (Buffer src)) (key_of (Buffer dst)) k)
      accesses k x at touched = elim (or_cases (k == (key_of (Buffer src))) (k == (key_of (Buffer dst))) touched) [
        | inl e ↦ at_source k x at (eqb-true k (key_of (Buffer src)) e)
        | inr e ↦ at_target k x at (eqb-true k (key_of (Buffer dst)) e)
      ]

  within : (key_of (Buffer src)) ≡ (key_of (Buffer dst)) → from.0 ≡ to.0 → Copied c s (key_of (Buffer src)) (key_of (Buffer dst)) one other from to (copy_node from src_at to dst_at size)
  within same ids = record {
    first = first;
    second = λ barrier e. let no : ◌≡◌ {A = Option Barrier} None (Some barrier) = sym (due.within same).1 ∙ e in cc;
    ordered = subst (IsOrdered (face c) s) list all_ordered;
    behind = subst (λ l. IsBehind l (copy_node from src_at to dst_at size)) list all_behind;
    accesses = accesses;
  }
    where
      one_is : one ≡ due_by a.store.tracker (access_of a.store.handle read_write)
      one_is = if_there (λ x. one ≡ due_by x.tracker (access_of x.handle read_write)) (entry (key_of (Buffer src)) c.stores) a.store (due.within same).0 a.is

      one_due : one ≡ barrier_due from (is_image_of s from.0) (uses_of (face c) s from.0) (access_of from read_write)
      one_due = one_is ∙ store_due c hands s h tells src from src_len a read_write

      first : IsFence from one
      first = due_fence due_of layouts from (is_image_of s from.0) (uses_of (face c) s from.0) read_write image_a some_both one one_due

      list : with_due (is_image_of s) (uses_of (face c) s) (copy_node from src_at to dst_at size) ≡ behind_both one other (copy_node from src_at to dst_at size)
      list =
          due_within from src_at to dst_at size (is_image_of s) (uses_of (face c) s) ids
          ∙ (ap (λ o. behind_both o None (copy_node from src_at to dst_at size)) (sym one_due)
          ∙ ap (λ o. behind_both one o (copy_node from src_at to dst_at size)) (sym (due.within same).1))

      accesses : (k : ℕ) (x : ObjectStore) → entry k c.stores ≡ Some x → ((k == (key_of (Buffer src))) || (k == (key_of (Buffer dst)))) ≡ true → IsAccessBy (behind_both one other (copy_node from src_at to dst_at size)) x (copy_access (key_of (Buffer src)) (key_of (Buffer dst)) k)
      accesses k x at touched =
          let here : k ≡ (key_of (Buffer src)) = elim (or_cases (k == (key_of (Buffer src))) (k == (key_of (Buffer dst))) touched) [ inl e ↦ eqb-true k (key_of (Buffer src)) e | inr e ↦ eqb-true k (key_of (Buffer dst)) e ∙ sym same ] in
          subst (IsAccessBy (behind_both one other (copy_node from src_at to dst_at size)) x)
          (sym (cond-true ((key_of (Buffer src)) == (key_of (Buffer dst))) read_write (cond (k == (key_of (Buffer src))) transfer_read transfer_write) (eq-eqb (key_of (Buffer src)) (key_of (Buffer dst)) same)))
          (access_by (behind_both one other (copy_node from src_at to dst_at size)) src x from src_len read_write one (ap (λ j. entry j c.stores) (sym here) ∙ at) a one_is (within_uses from src_at to dst_at size one other ids first (due.within same).1))

  pub copied : ((key_of (Buffer src)) ≡ (key_of (Buffer dst)) → from.0 ≡ to.0) → (from.0 ≡ to.0 → (key_of (Buffer src)) ≡ (key_of (Buffer dst))) → Copied c s (key_of (Buffer src)) (key_of (Buffer dst)) one other from to (copy_node from src_at to dst_at size)
  copied there back = elim (cases_eq (key_of (Buffer src)) (key_of (Buffer dst))) [
    | inl same ↦ within same (there same)
    | inr ne ↦ apart ne (λ e. ne (back e))
  ]

-- A copy from the handle in hand

pub record Uploaded (c : CoreParts) (s : Link) (b : ℕ) (due : Option Barrier) (to : HandleId) (n : Node) : Type 0 where
  pub fence : IsFence to due
  pub ordered : IsOrdered (face c) s (behind_both None due n)
  pub behind : IsBehind (behind_both None due n) n
  pub accesses : (k : ℕ) (x : ObjectStore) → entry k c.stores ≡ Some x → (k == key_of (Buffer b)) ≡ true → IsAccessBy (behind_both None due n) x transfer_write

module _ (tells : TellsDue) (due_of : DueOf) (layouts : DueLayouts) (orders : NodeOrdered) (behind : NodeBehind) (c : CoreParts) (s : Link) (len : ℕ) (from to : HandleId) (h : Holds (face c) (in_hand from.0 (kind.Buffer len)) s) (b at size : ℕ) (due : Option Barrier) (of : IsStore c b to size) (is : IfSome (entry (key_of (Buffer b)) c.stores) (λ x. due ≡ due_by x.tracker (access_of x.handle transfer_write))) (ids : from.0 ≢ to.0) where
  hand_slot : SlotStands (face c) s from.0 (fresh_slot from.0 (kind.Buffer len))
  hand_slot = (h.hands_stand from.0 (fresh_slot from.0 (kind.Buffer len)) (put-same no_hands from.0 (Some (fresh_slot from.0 (kind.Buffer len))))).stands

  image_from : is_image_of s from.0 ≡ false
  image_from = ap (λ k. is_image (unwrap_or k (kind.Buffer 0))) hand_slot.kind

  image_to : is_image_of s to.0 ≡ false
  image_to = no_image c (in_hand from.0 (kind.Buffer len)) s h b to size of

  -- nothing is due before the first access of what is in hand
  none_due : None ≡ barrier_due from (is_image_of s from.0) (uses_of (face c) s from.0) (access_of from transfer_read)
  none_due = tells (face c) s from.0 (new_tracker (handle from.0) false) (access_of from transfer_read) hand_slot.tracked

  due_is : due ≡ due_by of.store.tracker (access_of of.store.handle transfer_write)
  due_is = if_there (λ x. due ≡ due_by x.tracker (access_of x.handle transfer_write)) (entry (key_of (Buffer b)) c.stores) of.store is of.is

  due_due : due ≡ barrier_due to (is_image_of s to.0) (uses_of (face c) s to.0) (access_of to transfer_write)
  due_due = due_is ∙ store_due c (in_hand from.0 (kind.Buffer len)) s h tells b to size of transfer_write

  has_layouts' : HasLayouts (is_image_of s) (copy_node from 0 to at len)
  has_layouts' = copy_layouts from 0 to at len (is_image_of s) image_from image_to

  upload_list : with_due (is_image_of s) (uses_of (face c) s) (copy_node from 0 to at len) ≡ behind_both None due (copy_node from 0 to at len)
  upload_list =
      due_apart from 0 to at len (is_image_of s) (uses_of (face c) s) ids
      ∙ (ap (λ o. behind_both o (barrier_due to (is_image_of s to.0) (uses_of (face c) s to.0) (access_of to transfer_write)) (copy_node from 0 to at len)) (sym none_due)
      ∙ ap (λ o. behind_both None o (copy_node from 0 to at len)) (sym due_due))

  to_fence : IsFence to due
  to_fence = due_fence due_of layouts to (is_image_of s to.0) (uses_of (face c) s to.0) transfer_write image_to some_write due due_due

  pub uploaded : Uploaded c s b due to (copy_node from 0 to at len)
  uploaded = record {
    fence = to_fence;
    ordered = subst (IsOrdered (face c) s) upload_list (orders (face c) (in_hand from.0 (kind.Buffer len)) s (copy_node from 0 to at len) h refl has_layouts');
    behind = subst (λ l. IsBehind l (copy_node from 0 to at len)) upload_list (behind (face c) s (copy_node from 0 to at len) has_layouts' (copy_buffers from 0 to at len (is_image_of s) image_from image_to) refl);
    accesses = λ k x at_k on.
        let same : Some of.store ≡ Some x = sym of.is ∙ (ap (λ j. entry j c.stores) (sym (eqb-true k (key_of (Buffer b)) on)) ∙ at_k) in
        let one : of.store ≡ x = cc in
        subst (λ (y : ObjectStore). IsAccessBy (behind_both None due (copy_node from 0 to at len)) y transfer_write) one
        (ap (uses_in (commands 0 (behind_both None due (copy_node from 0 to at len)))) of.handle
        ∙ (target_uses from 0 to at len None due ids (λ barrier e. cc) to_fence
        ∙ ap (λ d. fenced_by d ++ Accessed transfer_write ∷ []) due_is));
  }

-- A barrier before a read by the host

-- what is due before it names reads by the host
second_is : (t : Tracker) (touch : Touch) (barrier : Barrier) → due_by t touch ≡ Some barrier → barrier.second ≡ touch.access
second_is t touch barrier e = go (is_due t touch) e
  where
    go : (b : Bool) → cond b (Some (record { id = t.id; first = first_of t; second = touch.access; layouts = layouts_of t.layout touch.layout })) None ≡ Some barrier → barrier.second ≡ touch.access
    go true e = let same : ◌≡◌ {A = Barrier} (record { id = t.id; first = first_of t; second = touch.access; layouts = layouts_of t.layout touch.layout }) barrier = cc in ap (λ (x : Barrier). x.second) (sym same)
    go false e = cc

no_layout : (now : Option Layout) → changes_layout now None ≡ false
no_layout None = refl
no_layout (Some now) = refl

-- behind it none is due
pub opens : (t : Tracker) (id : HandleId) (barrier : Barrier) → due_by t (access_of id host_read) ≡ Some barrier → due_by (taken t (Fenced barrier)) (access_of id host_read) ≡ None
opens t id barrier e = ap (λ b. cond b (Some (record { id = now.id; first = first_of now; second = host_read; layouts = layouts_of now.layout None })) None) free
  where
    now : Tracker
    now = taken t (Fenced barrier)

    free : is_due (taken t (Fenced barrier)) (access_of id host_read) ≡ false
    free =
        ap (λ b. (b || false) || not (in_common host_read barrier.second)) (no_layout (option_map_or (λ both. Some both.1) barrier.layouts t.layout))
        ∙ ap (λ a. not (in_common host_read a)) (second_is t (access_of id host_read) barrier e)
