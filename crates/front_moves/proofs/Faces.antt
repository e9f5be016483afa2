-- The front that lists make: what it has at each index of the group.
use Rattle.std.proofs.Common.{◌≡◌, ◌≢◌, ℕ, ◌+◌, ◌-◌, ◌*◌, ◌<◌, ◌≤◌, ◌⊎◌, inl, inr, true, false, List, [], replicate, get_or, length, refl, sym, ap, ◌∙◌, arith}
use Rattle.std.specs.Prelude.{Option, None, slice_index_or, slice_set}
use Rattle.std.proofs.lemmas.Bool.{cases_Bool, cases_eq, cases_lt, cond-true, cond-false}
use Rattle.std.proofs.lemmas.Bool.Decides.{nat_tests}
use Rattle.std.proofs.lemmas.List.{get_or-set_other, get_or-set_same, get_or_past, get_or-replicate, set_past}
use mathlib.Core.Path.{fun_ext}
use Rattle.cells.specs.Contents.{in_range}
use Rattle.vk_types.specs.declared.ops.Node.{Node}
use Rattle.queue_serials.specs.Indexes.{IndexTable, last_of, with_last, unused}
use Rattle.back_core.specs.Link.{put}
use Rattle.back_core.specs.Needs.{IsOfGroup}
use Rattle.front_model.specs.declared.object.Object.{Object}
use Rattle.front_model.specs.declared.object.Object.TheVariants.{Buffer, Texture, Renderbuffer}
use Rattle.front_model.specs.Face.{Stored, Face}
use Rattle.front_model.specs.Stands.{new_face}
use Rattle.front_model.specs.Steps.{flushed}
use Rattle.front_model.proofs.Base.{put-other, put_at}
use Rattle.front_model.proofs.LinkSteps.{own_or_not}
use Rattle.front_moves.specs.Objects.{objects_of}
use Rattle.front_moves.specs.Core.{CoreParts, last_in, pending_in, face}

abbrev the_face : ℕ → (ℕ → ℕ) → (ℕ → List Node) → (Object → Option Stored) → Face
the_face group last pending objects = record { group = group; last = last; pending = pending; objects = objects }

-- two fronts of a group are one where they have the same
pub faces_are : (group : ℕ) (last last' : ℕ → ℕ) (pending pending' : ℕ → List Node) (objects objects' : Object → Option Stored) →
    last ≡ last' → pending ≡ pending' → objects ≡ objects' → the_face group last pending objects ≡ the_face group last' pending' objects'
faces_are group last last' pending pending' objects objects' l p o = cc

-- Indexes

pub range_own : (group i : ℕ) → IsOfGroup group i → in_range (8 * group) 8 i ≡ true
range_own group i own = let low : 8 * group ≤ i = own.0 in let high : i < 8 * group + 8 = own.1 in grind (arith, nat_tests)

pub range_other : (group i : ℕ) → (IsOfGroup group i → ⊥) → in_range (8 * group) 8 i ≡ false
range_other group i far = elim (cases_Bool (in_range (8 * group) 8 i)) [ inl t ↦ absurd (far (own_of t)) | inr f ↦ f ]
  where
    own_of : in_range (8 * group) 8 i ≡ true → IsOfGroup group i
    own_of t = (grind (arith, nat_tests), grind (arith, nat_tests))

-- Last numbers

pub last_own : (t : IndexTable) (i : ℕ) → IsOfGroup t.group i → last_in t i ≡ last_of t i
last_own t i own = cond-true (in_range (8 * t.group) 8 i) (last_of t i) 0 (range_own t.group i own)

pub last_other : (t : IndexTable) (i : ℕ) → (IsOfGroup t.group i → ⊥) → last_in t i ≡ 0
last_other t i far = cond-false (in_range (8 * t.group) 8 i) (last_of t i) 0 (range_other t.group i far)

pub last_in-with_last : (t : IndexTable) (index n : ℕ) → IsOfGroup t.group index → last_of (with_last t index n) index ≡ n →
    last_in (with_last t index n) ≡ put (last_in t) index n
last_in-with_last t index n own is = fun_ext (λ i. go i (cases_eq i index) (own_or_not t.group i))
  where
    go : (i : ℕ) → (i ≡ index) ⊎ (i ≢ index) → IsOfGroup t.group i ⊎ (IsOfGroup t.group i → ⊥) → last_in (with_last t index n) i ≡ put (last_in t) index n i
    go i (inl same) of_i = ap (last_in (with_last t index n)) same ∙ last_own (with_last t index n) index own ∙ is ∙ sym (put_at (last_in t) index n i same)
    go i (inr other) (inl of_i) =
        let apart : i - 8 * t.group ≢ index - 8 * t.group = λ e. other (let low : 8 * t.group ≤ i = of_i.0 in let also : 8 * t.group ≤ index = own.0 in omega arith) in
        last_own (with_last t index n) i of_i ∙ get_or-set_other t.last (index - 8 * t.group) (i - 8 * t.group) n 0 apart ∙ sym (last_own t i of_i) ∙ sym (put-other (last_in t) index n i other)
    go i (inr other) (inr far) = last_other (with_last t index n) i far ∙ sym (last_other t i far) ∙ sym (put-other (last_in t) index n i other)

-- What is pending

pub pending_own : (group : ℕ) (lists : List (List Node)) (i : ℕ) → IsOfGroup group i → pending_in group lists i ≡ slice_index_or lists (i - 8 * group) []
pending_own group lists i own = cond-true (in_range (8 * group) 8 i) (slice_index_or lists (i - 8 * group) []) [] (range_own group i own)

pub pending_other : (group : ℕ) (lists : List (List Node)) (i : ℕ) → (IsOfGroup group i → ⊥) → pending_in group lists i ≡ []
pending_other group lists i far = cond-false (in_range (8 * group) 8 i) (slice_index_or lists (i - 8 * group) []) [] (range_other group i far)

pub place_of : (group place index : ℕ) → place + 8 * group ≡ index → index - 8 * group ≡ place
place_of group place index at = omega arith

-- what is pending at a place of the group
pub pending_at : (group : ℕ) (lists : List (List Node)) (index place : ℕ) → IsOfGroup group index → place + 8 * group ≡ index →
    pending_in group lists index ≡ slice_index_or lists place []
pending_at group lists index place own at = pending_own group lists index own ∙ ap (λ p. slice_index_or lists p []) (place_of group place index at)

-- one list is another
pub pending_in-set : (group : ℕ) (lists : List (List Node)) (index place : ℕ) (nodes : List Node) → IsOfGroup group index → place + 8 * group ≡ index →
    slice_index_or (slice_set lists place nodes) place [] ≡ nodes → pending_in group (slice_set lists place nodes) ≡ put (pending_in group lists) index nodes
pending_in-set group lists index place nodes own at is = fun_ext (λ i. go i (cases_eq i index) (own_or_not group i))
  where
    go : (i : ℕ) → (i ≡ index) ⊎ (i ≢ index) → IsOfGroup group i ⊎ (IsOfGroup group i → ⊥) → pending_in group (slice_set lists place nodes) i ≡ put (pending_in group lists) index nodes i
    go i (inl same) of_i = ap (pending_in group (slice_set lists place nodes)) same ∙ pending_at group (slice_set lists place nodes) index place own at ∙ is ∙ sym (put_at (pending_in group lists) index nodes i same)
    go i (inr other) (inl of_i) =
        let apart : i - 8 * group ≢ place = λ e. other (let low : 8 * group ≤ i = of_i.0 in omega arith) in
        pending_own group (slice_set lists place nodes) i of_i ∙ get_or-set_other lists place (i - 8 * group) nodes [] apart ∙ sym (pending_own group lists i of_i) ∙ sym (put-other (pending_in group lists) index nodes i other)
    go i (inr other) (inr far) = pending_other group (slice_set lists place nodes) i far ∙ sym (pending_other group lists i far) ∙ sym (put-other (pending_in group lists) index nodes i other)

-- an emptied list is empty, whether it was there or not
pub emptied : (lists : List (List Node)) (place : ℕ) → slice_index_or (slice_set lists place []) place [] ≡ []
emptied lists place = elim (cases_lt place (length lists)) [
  | inl inside ↦ get_or-set_same lists place [] [] inside
  | inr past ↦ ap (λ l. get_or l place []) (set_past lists place [] past) ∙ get_or_past lists place [] past
]

-- A front with nothing in it

pub nothing_in : (group : ℕ) → group < 8 → face (record { indexes = unused group; pending = replicate 8 []; stores = [] }) ≡ new_face group
nothing_in group few =
    let lists : List (List Node) = replicate 8 [] in
    let last : last_in (unused group) ≡ (λ i. 0) = fun_ext (λ i. elim (own_or_not group i) [
      | inl own ↦ last_own (unused group) i own ∙ get_or-replicate 8 (i - 8 * group) 0 0 (let low : 8 * group ≤ i = own.0 in let high : i < 8 * group + 8 = own.1 in omega arith)
      | inr far ↦ last_other (unused group) i far
    ]) in
    let pending : pending_in group lists ≡ (λ i. []) = fun_ext (λ i. elim (own_or_not group i) [
      | inl own ↦ pending_own group lists i own ∙ get_or-replicate 8 (i - 8 * group) [] [] (let low : 8 * group ≤ i = own.0 in let high : i < 8 * group + 8 = own.1 in omega arith)
      | inr far ↦ pending_other group lists i far
    ]) in
    let objects : objects_of [] ≡ (λ o. None) = fun_ext (λ o. none o) in
    faces_are group (last_in (unused group)) (λ i. 0) (pending_in group lists) (λ i. []) (objects_of []) (λ o. None) last pending objects
  where
    none : (o : Object) → objects_of [] o ≡ None
    none (Buffer b) = refl
    none (Texture t) = refl
    none (Renderbuffer r) = refl

-- The front after a flush

pub face_flushed : (c d : CoreParts) (index place number : ℕ) → IsOfGroup c.indexes.group index → place + 8 * c.indexes.group ≡ index →
    number ≡ last_in c.indexes index + 1 → last_of (with_last c.indexes index number) index ≡ number →
    d ≡ record c { indexes = with_last c.indexes index number; pending = slice_set c.pending place [] } → face d ≡ flushed (face c) index
face_flushed c d index place number own at is kept e =
    let group : ℕ = c.indexes.group in
    ap face e
    ∙ faces_are group (last_in (with_last c.indexes index number)) (put (last_in c.indexes) index (last_in c.indexes index + 1))
    (pending_in group (slice_set c.pending place [])) (put (pending_in group c.pending) index []) (objects_of c.stores) (objects_of c.stores)
    (last_in-with_last c.indexes index number own kept ∙ ap (put (last_in c.indexes) index) is)
    (pending_in-set group c.pending index place [] own at (emptied c.pending place)) refl
