-- What it comes to that a context is flushed only where something that is pending in it conflicts with a use of an object.
use Rattle.std.proofs.Common.{◌≡◌, ◌≢◌, not, nat_eq, ℕ, ◌+◌, ◌*◌, ◌<◌, ◌≤◌, Bool, true, false, List, [], length, refl, sym, ap, subst, ◌∙◌, arith, inl, inr}
use Rattle.std.specs.Prelude.{◌⊎◌, Option, Some, None, IfSome, IfNone, nat_lt, Result, Ok, Err, OnOk}
use Rattle.std.specs.Option.{option_map}
use Rattle.std.proofs.lemmas.Bool.{false≢true, cases_eq, cases_lt, cond-true, cond-false, eq-eqb, ne_eqb}
use Rattle.std.proofs.lemmas.Bool.Decides.{nat_tests}
use Rattle.vk_types.specs.declared.stops.Stop.{Stop}
use Rattle.vk_device.specs.Faults.{HasCause}
use Rattle.vk_types.specs.declared.ops.Node.{Node}
use Rattle.tables.specs.Table.{entry}
use Rattle.resource_use.specs.Uses.{number_of}
use Rattle.object_helper.specs.Objects.{ObjectStore}
use Rattle.queue_serials.specs.Indexes.{last_of}
use Rattle.submit_queue.specs.Histories.{last_number}
use Rattle.back_core.specs.Own.{batches_of, last_use}
use Rattle.back_core.specs.Link.{Link}
use Rattle.back_core.specs.Needs.{IsOfGroup}
use Rattle.front_model.specs.declared.object.Object.{Object}
use Rattle.front_model.specs.Face.{Stored, Face, nodes_touch, outline_at, view}
use Rattle.front_model.specs.Stands.{no_hands, Holds, Moved, IsQuiet, use_of}
use Rattle.front_model.proofs.Base.{put-same, put-other, put_at}
use Rattle.front_model.proofs.LinkSteps.{own_or_not}
use Rattle.front_moves.specs.Objects.{key_of, stored_of}
use Rattle.front_moves.specs.Core.{CoreParts, face, IsFlushed, OnlyFlushed, HasFlushedSome, IsReadTogether, NoneConflicts, IsApart, IsParted}
use Rattle.front_moves.specs.Reasons.{Conflicts, Decides}
use Rattle.front_moves.proofs.Faces.{last_own}

-- what is pending in an index touches an object where its last use there is past the last number
pub touched_is : (c : CoreParts) (s : Link) (index : ℕ) (object : Object) (x : ObjectStore) → Holds (face c) no_hands s → IsOfGroup c.indexes.group index →
    entry (key_of object) c.stores ≡ Some x → nodes_touch ((face c).pending index) x.handle.0 ≡ nat_lt (last_of c.indexes index) (number_of x.uses index)
touched_is c s index object x h own is = go (nodes_touch ((face c).pending index) x.handle.0) refl
  where
    id : ℕ
    id = x.handle.0

    used : number_of x.uses index ≡ use_of (face c) s id index
    used = (h.objects object (stored_of x) (ap (option_map stored_of) is)).slot.used index

    last : (face c).last index ≡ last_of c.indexes index
    last = last_own c.indexes index own

    go : (t : Bool) → nodes_touch ((face c).pending index) id ≡ t → t ≡ nat_lt (last_of c.indexes index) (number_of x.uses index)
    go true t =
        let u : number_of x.uses index ≡ (face c).last index + 1 = used ∙ cond-true (nodes_touch ((face c).pending index) id) ((face c).last index + 1) (last_use s.mine index id) t in
        let l : (face c).last index ≡ last_of c.indexes index = last in
        grind (arith, nat_tests)
    go false t =
        let u : number_of x.uses index ≡ last_use s.mine index id = used ∙ cond-false (nodes_touch ((face c).pending index) id) ((face c).last index + 1) (last_use s.mine index id) t in
        let l : (face c).last index ≡ last_of c.indexes index = last in
        let low : last_use s.mine index id ≤ last_number (batches_of s.mine) index = h.low index id in
        let n : (face c).last index ≡ last_number (batches_of s.mine) index = h.last index own in
        grind (arith, nat_tests)

pub test_is : (c : CoreParts) (s : Link) (index : ℕ) (object : Object) (last used : ℕ) (x : ObjectStore) → Holds (face c) no_hands s → IsOfGroup c.indexes.group index →
    entry (key_of object) c.stores ≡ Some x → last ≡ last_of c.indexes index → used ≡ number_of x.uses index →
    IfSome ((face c).objects object) (λ y. nodes_touch ((face c).pending index) y.handle ≡ nat_lt last used)
test_is c s index object last used x h own is l u =
    subst (λ o. IfSome (option_map stored_of o) (λ y. nodes_touch ((face c).pending index) y.handle ≡ nat_lt last used)) (sym is)
    (touched_is c s index object x h own is ∙ ap (λ k. nat_lt k (number_of x.uses index)) (sym l) ∙ ap (λ k. nat_lt last k) (sym u))

-- Results

pub on_ok : {T E P Q : Type 0} (r : Result T E) → (P → Q) → OnOk r P → OnOk r Q
on_ok (Ok v) f p = f p
on_ok (Err e) f p = tt

pub on_ok_both : {T E P Q R : Type 0} (r : Result T E) → (P → Q → R) → OnOk r P → OnOk r Q → OnOk r R
on_ok_both (Ok v) f p q = f p q
on_ok_both (Err e) f p q = tt

-- a count of faults that rose before
pub cause_later : {T : Type 0} (r : Result T Stop) (first before now : ℕ) → first ≤ before → HasCause before now r → HasCause first now r
cause_later r first before now low cause = record {
  later = let l : before ≤ now = cause.later in omega arith;
  lost = λ e. let rose = cause.lost e in omega arith;
}

-- Some contexts were flushed

pub some_flushed : (f g : Face) (s t : Link) (index : ℕ) → Moved g t (view f s) (outline_at f) (IsQuiet f s) → IsFlushed f g index → HasFlushedSome f g s t
some_flushed f g s t index moved one = record {
  moved = moved;
  flushed = record {
    pending = λ i. elim (cases_eq i index) [
      | inl same ↦ inr (ap (λ p. p i) one.pending ∙ put_at f.pending index [] i same)
      | inr other ↦ inl (ap (λ p. p i) one.pending ∙ put-other f.pending index [] i other)
    ];
    objects = one.objects;
    group = one.group;
  };
}

pub none_flushed : (f : Face) (s : Link) → Holds f no_hands s → HasFlushedSome f f s s
none_flushed f s h = record {
  moved = record { holds = h; view_is = refl; outlines_are = refl; still = λ o quiet. quiet };
  flushed = record { pending = λ i. inl refl; objects = refl; group = refl };
}

pub flushed_more : (f g h : Face) (s t u : Link) → HasFlushedSome f g s t → HasFlushedSome g h t u → HasFlushedSome f h s u
flushed_more f g h s t u first second = record {
  moved = record {
    holds = second.moved.holds;
    view_is = second.moved.view_is ∙ first.moved.view_is;
    outlines_are = second.moved.outlines_are ∙ first.moved.outlines_are;
    still = λ o quiet. second.moved.still o (first.moved.still o quiet);
  };
  flushed = record {
    pending = λ i. go i (first.flushed.pending i) (second.flushed.pending i);
    objects = second.flushed.objects ∙ first.flushed.objects;
    group = second.flushed.group ∙ first.flushed.group;
  };
}
  where
    go : (i : ℕ) → (g.pending i ≡ f.pending i) ⊎ (g.pending i ≡ []) → (h.pending i ≡ g.pending i) ⊎ (h.pending i ≡ []) → (h.pending i ≡ f.pending i) ⊎ (h.pending i ≡ [])
    go i (inl p) (inl q) = inl (q ∙ p)
    go i (inr p) (inl q) = inr (q ∙ p)
    go i one (inr q) = inr q

-- What conflicts with a use of the object

-- what touches the object conflicts with a use of it that may not stand beside
pub conflicting : (reads : Bool) (f : Face) (index : ℕ) (object : Object) (touched : Bool) → IfSome (f.objects object) (λ x. nodes_touch (f.pending index) x.handle ≡ touched) →
    IfNone (f.objects object) (touched ≡ false) → touched ≡ true →
    ((x : Stored) → f.objects object ≡ Some x → reads ≡ true → IsReadTogether (f.pending index) x → ⊥) → Conflicts reads f index object
conflicting reads f index object touched some none told refutes = go (f.objects object) refl some none
  where
    go : (o : Option Stored) → f.objects object ≡ o → IfSome o (λ x. nodes_touch (f.pending index) x.handle ≡ touched) → IfNone o (touched ≡ false) → Conflicts reads f index object
    go (Some x) is touch absent = record { stored = x; is = is; touches = touch ∙ told; conflicts = refutes x is }
    go None is touch absent = absurd (false≢true (sym absent ∙ told))

-- what a test says of the nodes beside a read
abbrev pub SaysTogether : Bool → List Node → Stored → Type 0
SaysTogether test nodes x = (test ≡ true → IsReadTogether nodes x) × (test ≡ false → IsReadTogether nodes x → ⊥)

pub decides : (reads : Bool) (f : Face) (index : ℕ) (object : Object) (touched : Bool) → IfSome (f.objects object) (λ x. nodes_touch (f.pending index) x.handle ≡ touched) →
    IfNone (f.objects object) (touched ≡ false) → touched ≡ true → reads ≡ true → (together : Bool) → IfSome (f.objects object) (SaysTogether together (f.pending index)) →
    Decides reads f index object (not together)
decides reads f index object touched some none told alone true are = λ x at. inr (alone, (subst (λ o. IfSome o (SaysTogether true (f.pending index))) at are).0 refl)
decides reads f index object touched some none told alone false are =
    conflicting reads f index object touched some none told (λ x at also together. (subst (λ o. IfSome o (SaysTogether false (f.pending index))) at are).1 refl together)

pub decides_apart : (reads : Bool) (f : Face) (index : ℕ) (object : Object) (touched : Bool) → IfSome (f.objects object) (λ x. nodes_touch (f.pending index) x.handle ≡ touched) → touched ≡ false → IsApart reads f index object
decides_apart reads f index object touched some none x at = inl (subst (λ o. IfSome o (λ y. nodes_touch (f.pending index) y.handle ≡ touched)) at some ∙ none)

pub none_pending_apart : (reads : Bool) (f : Face) (index : ℕ) (object : Object) → f.pending index ≡ [] → IsApart reads f index object
none_pending_apart reads f index object none x at = inl (ap (λ nodes. nodes_touch nodes x.handle) none)

pub decided : (reads : Bool) (f : Face) (index : ℕ) (object : Object) (test told : Bool) → test ≡ told → Decides reads f index object test → Decides reads f index object told
decided reads f index object test told is decides = subst (Decides reads f index object) is decides

pub apart_flushed : (reads : Bool) (f g : Face) (index : ℕ) (object : Object) → IsFlushed f g index → IsApart reads g index object
apart_flushed reads f g index object one x at = inl (ap (λ p. nodes_touch (p index) x.handle) one.pending ∙ ap (λ nodes. nodes_touch nodes x.handle) (put-same f.pending index []))

pub apart_more : (reads : Bool) (f g : Face) (i : ℕ) (object : Object) → OnlyFlushed f g → IsApart reads f i object → IsApart reads g i object
apart_more reads f g i object some apart x at = go (some.pending i)
  where
    go : (g.pending i ≡ f.pending i) ⊎ (g.pending i ≡ []) → NoneConflicts reads (g.pending i) x
    go (inl same) = subst (λ nodes. NoneConflicts reads nodes x) (sym same) (apart x (ap (λ os. os object) (sym some.objects) ∙ at))
    go (inr none) = inl (ap (λ nodes. nodes_touch nodes x.handle) none)

-- the same of each index of the group below a place, but for one
abbrev pub AreApart : (reads : Bool) → Face → ℕ → Object → ℕ → Type 0
AreApart reads f index object place = (i : ℕ) → IsOfGroup f.group i → i < 8 * f.group + place → i ≢ index → IsApart reads f i object

pub none_apart : (reads : Bool) (f : Face) (index : ℕ) (object : Object) → AreApart reads f index object 0
none_apart reads f index object i own below ne = let low : 8 * f.group ≤ i = own.0 in absurd (omega arith)

pub apart_kept : (reads : Bool) (f g : Face) (index : ℕ) (object : Object) (place : ℕ) → OnlyFlushed f g → AreApart reads f index object place → AreApart reads g index object place
apart_kept reads f g index object place some apart i own below ne =
    apart_more reads f g i object some (apart i (subst (λ n. IsOfGroup n i) some.group own) (subst (λ n. i < 8 * n + place) some.group below) ne)

pub apart_then : (reads : Bool) (f : Face) (index : ℕ) (object : Object) (place other : ℕ) → other ≡ 8 * f.group + place → AreApart reads f index object place → (other ≢ index → IsApart reads f other object) → AreApart reads f index object (place + 1)
apart_then reads f index object place other at apart here i own below ne = elim (cases_lt i (8 * f.group + place)) [
  | inl low ↦ apart i own low ne
  | inr high ↦
      let same : i ≡ other = omega arith in
      subst (λ j. IsApart reads f j object) (sym same) (here (λ e. ne (same ∙ e)))
]

pub all_apart : (reads : Bool) (f : Face) (s : Link) (index : ℕ) (object : Object) → Holds f no_hands s → AreApart reads f index object 8 → IsParted reads f index object
all_apart reads f s index object h apart i ne = go (own_or_not f.group i)
  where
    go : IsOfGroup f.group i ⊎ (IsOfGroup f.group i → ⊥) → IsApart reads f i object
    go (inl own) = apart i own own.1 ne
    go (inr far) = λ x at. inl (ap (λ nodes. nodes_touch nodes x.handle) (h.of_group i far))

pub parted_more : (reads : Bool) (f g : Face) (index : ℕ) (object : Object) → OnlyFlushed f g → IsParted reads f index object → IsParted reads g index object
parted_more reads f g index object some parted i ne = apart_more reads f g i object some (parted i ne)

pub same_by_test : (a b : ℕ) (test : Bool) → test ≡ not (nat_eq a b) → test ≡ false → a ≡ b
same_by_test a b test is none = elim (cases_eq a b) [
  | inl same ↦ same
  | inr other ↦ let e : nat_eq a b ≡ false = ne_eqb a b other in let no : true ≡ false = sym (ap not e) ∙ sym is ∙ none in cc
]

pub other_by_test : (a b : ℕ) (test : Bool) → test ≡ not (nat_eq a b) → test ≡ true → a ≢ b
other_by_test a b test is told same = let no : true ≡ false = sym told ∙ is ∙ ap not (eq-eqb a b same) in cc

pub few_flushed : (f g : Face) (index : ℕ) → IsFlushed f g index → length (g.pending index) < 1024
few_flushed f g index one =
    let none : length (g.pending index) ≡ 0 = ap (λ p. length (p index)) one.pending ∙ ap length (put-same f.pending index []) in
    omega arith
