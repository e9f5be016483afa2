-- The uses of an object, and those in a log: the last barrier, the accesses since and the layout.
use Rattle.std.proofs.Common.{◌≡◌, ℕ, zero, suc, ◌<◌, List, [], ◌∷◌, ◌++◌, Bool, true, false, cond, eqb, refl, sym, ◌∙◌, ap, subst, arith, inl, inr}
use Rattle.std.specs.Prelude.{◌⊎◌, ◌||◌, not, fold, Contains, Option, Some, None, slice_get, IfSome}
use Rattle.std.specs.List.{filter, list_any}
use Rattle.std.specs.Option.{option_map_or}
use Rattle.std.proofs.lemmas.Bool.{cases_Bool}
use Rattle.std.proofs.lemmas.List.Elements.{Contains-push, Contains-append_left, Contains-push_cases}
use Rattle.std.proofs.lemmas.List.Sums.{fold-append}
use Rattle.vk_types.specs.declared.accesses.Access.{Access}
use Rattle.vk_types.specs.declared.accesses.Layout.{Layout}
use Rattle.vk_types.specs.declared.regions.Barrier.{Barrier}
use Rattle.vk_types.specs.declared.ops.Node.{Node}
use Rattle.vk_types.specs.Accesses.{host_read}
use Rattle.vk_types.specs.Touches.{barrier_of}
use Rattle.vk_model.specs.Log.{Item, Command, HostWrite, Wait, Signal, touches_object, layout_set, layout_by, layout_step, layout_from}
use Rattle.vk_model.proofs.Clashes.{barrier_touches, none_is_some}
use Rattle.barriers.specs.Licence.{Use, Accessed, Fenced, barrier_after, accesses_after, layout_after}
use Rattle.barriers.specs.Logs.{joint_access, use_by, uses_by, uses_in, is_host_read}

-- Reads by the host change neither the last barrier nor the layout

abbrev without_reads : List Use → List Use
without_reads uses = filter (λ u. not (is_host_read u)) uses

pub last_without_reads : (uses : List Use) (last : Option Barrier) → fold barrier_after last (without_reads uses) ≡ fold barrier_after last uses
last_without_reads [] last = refl
last_without_reads (Fenced barrier ∷ uses) last = last_without_reads uses (Some barrier)
last_without_reads (Accessed a ∷ uses) last = go (not (eqb a.0 host_read.0)) (last_without_reads uses last)
  where
    go : (b : Bool) → fold barrier_after last (without_reads uses) ≡ fold barrier_after last uses → fold barrier_after last (cond b (Accessed a ∷ without_reads uses) (without_reads uses)) ≡ fold barrier_after last uses
    go true e = e
    go false e = e

pub layout_without_reads : (uses : List Use) (layout : Option Layout) → fold layout_after layout (without_reads uses) ≡ fold layout_after layout uses
layout_without_reads [] layout = refl
layout_without_reads (Fenced barrier ∷ uses) layout = layout_without_reads uses (layout_after layout (Fenced barrier))
layout_without_reads (Accessed a ∷ uses) layout = go (not (eqb a.0 host_read.0)) (layout_without_reads uses layout)
  where
    go : (b : Bool) → fold layout_after layout (without_reads uses) ≡ fold layout_after layout uses → fold layout_after layout (cond b (Accessed a ∷ without_reads uses) (without_reads uses)) ≡ fold layout_after layout uses
    go true e = e
    go false e = e

abbrev IsPart : List Access → List Access → Type 0
IsPart some more = (a : Access) → Contains some a → Contains more a

pub since_without_reads : (uses : List Use) (some more : List Access) → IsPart some more → IsPart (fold accesses_after some (without_reads uses)) (fold accesses_after more uses)
since_without_reads [] some more part = part
since_without_reads (Fenced barrier ∷ uses) some more part = since_without_reads uses [] [] (λ a h. h)
since_without_reads (Accessed b ∷ uses) some more part = go (not (eqb b.0 host_read.0)) (since_without_reads uses)
  where
    pushed : (a : Access) → Contains some a ⊎ (b ≡ a) → Contains (more ++ b ∷ []) a
    pushed a (inl h) = Contains-append_left more (b ∷ []) a (part a h)
    pushed a (inr e) = subst (Contains (more ++ b ∷ [])) e (Contains-push more b)

    go : (t : Bool) → ((some more : List Access) → IsPart some more → IsPart (fold accesses_after some (without_reads uses)) (fold accesses_after more uses)) →
        IsPart (fold accesses_after some (cond t (Accessed b ∷ without_reads uses) (without_reads uses))) (fold accesses_after (more ++ b ∷ []) uses)
    go true rest = rest (some ++ b ∷ []) (more ++ b ∷ []) (λ a h. pushed a (Contains-push_cases some b a h))
    go false rest = rest some (more ++ b ∷ []) (λ a h. pushed a (inl h))

-- A node's use of an object

pub use_of_node : (q : ℕ) (n : Node) (id : ℕ) → touches_object n id ≡ true → uses_by id (Command q n) ≡ use_by n id ∷ []
use_of_node q n id on = ap (λ b. cond b (use_by n id ∷ []) []) on

pub use_of_access : (q : ℕ) (n : Node) (id : ℕ) → touches_object n id ≡ true → barrier_of n ≡ None → uses_by id (Command q n) ≡ Accessed (joint_access n id) ∷ []
use_of_access q n id on none = use_of_node q n id on ∙ ap (λ o. option_map_or (λ barrier. Fenced barrier) o (Accessed (joint_access n id)) ∷ []) none

pub use_of_barrier : (q : ℕ) (n : Node) (id : ℕ) (barrier : Barrier) → touches_object n id ≡ true → barrier_of n ≡ Some barrier → uses_by id (Command q n) ≡ Fenced barrier ∷ []
use_of_barrier q n id barrier on is = use_of_node q n id on ∙ ap (λ o. option_map_or (λ barrier. Fenced barrier) o (Accessed (joint_access n id)) ∷ []) is

pub use_of_none : (q : ℕ) (n : Node) (id : ℕ) → touches_object n id ≡ false → uses_by id (Command q n) ≡ []
use_of_none q n id off = ap (λ b. cond b (use_by n id ∷ []) []) off

pub touches_barrier : (n : Node) (id : ℕ) (barrier : Barrier) → barrier_of n ≡ Some barrier → touches_object n id ≡ (eqb barrier.id.0 id || false)
touches_barrier n id barrier is = ap (list_any (λ t. eqb t.id.0 id)) (barrier_touches n barrier is)

-- Items without a barrier of the object

abbrev pub NoBarrier : List Item → ℕ → Type 0
NoBarrier log id = (k q : ℕ) (n : Node) → slice_get log k ≡ Some (Command q n) → touches_object n id ≡ true → barrier_of n ≡ None

-- an item's uses are none, or one access, where it is no barrier
data Plain (id : ℕ) (x : Item) : Type 0 where
  unused : uses_by id x ≡ [] → Plain id x
  accessed : (a : Access) → uses_by id x ≡ Accessed a ∷ [] → Plain id x

plain : (id : ℕ) (x : Item) → ((q : ℕ) (n : Node) → x ≡ Command q n → touches_object n id ≡ true → barrier_of n ≡ None) → Plain id x
plain id (HostWrite _ _ _) free = unused refl
plain id (Wait _ _) free = unused refl
plain id (Signal _ _) free = unused refl
plain id (Command q n) free = go (cases_Bool (touches_object n id))
  where
    go : (touches_object n id ≡ true) ⊎ (touches_object n id ≡ false) → Plain id (Command q n)
    go (inl on) = accessed (joint_access n id) (use_of_access q n id on (free q n refl on))
    go (inr off) = unused (use_of_none q n id off)

head_plain : (x : Item) (log : List Item) (id : ℕ) → NoBarrier (x ∷ log) id → Plain id x
head_plain x log id free = plain id x (λ q n e on. free 0 q n (ap Some e) on)

tail_plain : (x : Item) (log : List Item) (id : ℕ) → NoBarrier (x ∷ log) id → NoBarrier log id
tail_plain x log id free k q n at on = free (suc k) q n at on

-- such items leave the last barrier
pub last_kept : (log : List Item) (id : ℕ) (last : Option Barrier) → NoBarrier log id → fold barrier_after last (uses_in log id) ≡ last
last_kept [] id last free = refl
last_kept (x ∷ log) id last free = fold-append barrier_after last (uses_by id x) (uses_in log id) ∙ (ap (λ l. fold barrier_after l (uses_in log id)) (go (head_plain x log id free)) ∙ last_kept log id last (tail_plain x log id free))
  where
    go : Plain id x → fold barrier_after last (uses_by id x) ≡ last
    go (unused e) = ap (fold barrier_after last) e
    go (accessed a e) = ap (fold barrier_after last) e

-- and all accesses so far
pub accesses_kept : (log : List Item) (id : ℕ) (so_far : List Access) (a : Access) → NoBarrier log id → Contains so_far a → Contains (fold accesses_after so_far (uses_in log id)) a
accesses_kept [] id so_far a free has = has
accesses_kept (x ∷ log) id so_far a free has =
    subst (λ s. Contains s a) (sym (fold-append accesses_after so_far (uses_by id x) (uses_in log id)))
    (accesses_kept log id (fold accesses_after so_far (uses_by id x)) a (tail_plain x log id free) (go (head_plain x log id free)))
  where
    go : Plain id x → Contains (fold accesses_after so_far (uses_by id x)) a
    go (unused e) = subst (λ us. Contains (fold accesses_after so_far us) a) (sym e) has
    go (accessed b e) = subst (λ us. Contains (fold accesses_after so_far us) a) (sym e) (Contains-append_left so_far (b ∷ []) a has)

-- A barrier with free other after it is the last one

pub last_found : (log : List Item) (place : ℕ) (id q : ℕ) (n : Node) (barrier : Barrier) (last : Option Barrier) → slice_get log place ≡ Some (Command q n) → barrier_of n ≡ Some barrier → touches_object n id ≡ true →
    ((k q : ℕ) (a : Node) → place < k → slice_get log k ≡ Some (Command q a) → touches_object a id ≡ true → barrier_of a ≡ None) →
    fold barrier_after last (uses_in log id) ≡ Some barrier
last_found [] place id q n barrier last at is on later = none_is_some at
last_found (x ∷ log) zero id q n barrier last at is on later =
    let here : x ≡ Command q n = cc in
    fold-append barrier_after last (uses_by id x) (uses_in log id)
    ∙ (ap (λ us. fold barrier_after (fold barrier_after last us) (uses_in log id)) (ap (uses_by id) here ∙ use_of_barrier q n id barrier on is)
    ∙ last_kept log id (Some barrier) (λ k p a e f. later (suc k) p a (omega arith) e f))
last_found (x ∷ log) (suc place) id q n barrier last at is on later =
    fold-append barrier_after last (uses_by id x) (uses_in log id)
    ∙ last_found log place id q n barrier (fold barrier_after last (uses_by id x)) at is on (λ k p a lt e f. later (suc k) p a (omega arith) e f)

-- a node with no barrier after it, or at it, is among the accesses
pub access_found : (log : List Item) (place : ℕ) (id q : ℕ) (n : Node) (so_far : List Access) → slice_get log place ≡ Some (Command q n) → barrier_of n ≡ None → touches_object n id ≡ true →
    ((k q : ℕ) (a : Node) → place < k → slice_get log k ≡ Some (Command q a) → touches_object a id ≡ true → barrier_of a ≡ None) →
    Contains (fold accesses_after so_far (uses_in log id)) (joint_access n id)
access_found [] place id q n so_far at device on later = none_is_some at
access_found (x ∷ log) zero id q n so_far at device on later =
    let here : x ≡ Command q n = cc in
    subst (λ s. Contains s (joint_access n id)) (sym (fold-append accesses_after so_far (uses_by id x) (uses_in log id)))
    (accesses_kept log id (fold accesses_after so_far (uses_by id x)) (joint_access n id) (λ k p a e f. later (suc k) p a (omega arith) e f)
    (subst (λ us. Contains (fold accesses_after so_far us) (joint_access n id)) (sym (ap (uses_by id) here ∙ use_of_access q n id on device)) (Contains-push so_far (joint_access n id))))
access_found (x ∷ log) (suc place) id q n so_far at device on later =
    subst (λ s. Contains s (joint_access n id)) (sym (fold-append accesses_after so_far (uses_by id x) (uses_in log id)))
    (access_found log place id q n (fold accesses_after so_far (uses_by id x)) at device on (λ k p a lt e f. later (suc k) p a (omega arith) e f))

-- The layout

abbrev use_for : Node → ℕ → Option Barrier → Use
use_for n id o = option_map_or (λ barrier. Fenced barrier) o (Accessed (joint_access n id))

-- the layout, if there is one
abbrev pub IsLayout : Option Layout → Layout → Type 0
IsLayout o layout = IfSome o (λ l. l ≡ layout)

layout_of_item : (x : Item) (id : ℕ) (o : Option Layout) (layout : Layout) → IsLayout o layout → IsLayout (fold layout_after o (uses_by id x)) (layout_step x id layout)
layout_of_item (HostWrite _ _ _) id o layout is = is
layout_of_item (Wait _ _) id o layout is = is
layout_of_item (Signal _ _) id o layout is = is
layout_of_item (Command q n) id o layout is = go (barrier_of n) refl
  where
    set : (both : Option (Layout × Layout)) → IsLayout (option_map_or (λ both. Some both.1) both o) (layout_set both layout)
    set None = is
    set (Some both) = refl

    named : (barrier : Barrier) (b : Bool) → IsLayout (fold layout_after o (cond (b || false) (Fenced barrier ∷ []) [])) (cond b (layout_set barrier.layouts layout) layout)
    named barrier true = set barrier.layouts
    named barrier false = is

    touched : (b : Bool) → IsLayout (fold layout_after o (cond b (Accessed (joint_access n id) ∷ []) [])) layout
    touched true = is
    touched false = is

    go : (b : Option Barrier) → barrier_of n ≡ b → IsLayout (fold layout_after o (cond (touches_object n id) (use_for n id (barrier_of n) ∷ []) [])) (layout_by (barrier_of n) id layout)
    go None e = subst (λ b. IsLayout (fold layout_after o (cond (touches_object n id) (use_for n id b ∷ []) [])) (layout_by b id layout)) (sym e) (touched (touches_object n id))
    go (Some barrier) e =
        subst (λ b. IsLayout (fold layout_after o (cond (touches_object n id) (use_for n id b ∷ []) [])) (layout_by b id layout)) (sym e)
        (subst (λ b. IsLayout (fold layout_after o (cond b (Fenced barrier ∷ []) [])) (cond (eqb barrier.id.0 id) (layout_set barrier.layouts layout) layout)) (sym (touches_barrier n id barrier e))
        (named barrier (eqb barrier.id.0 id)))

pub layout_in_log : (log : List Item) (id : ℕ) (o : Option Layout) (layout : Layout) → IsLayout o layout → IsLayout (fold layout_after o (uses_in log id)) (layout_from layout log id)
layout_in_log [] id o layout is = is
layout_in_log (x ∷ log) id o layout is =
    subst (λ l. IsLayout l (layout_from (layout_step x id layout) log id)) (sym (fold-append layout_after o (uses_by id x) (uses_in log id)))
    (layout_in_log log id (fold layout_after o (uses_by id x)) (layout_step x id layout) (layout_of_item x id o layout is))
