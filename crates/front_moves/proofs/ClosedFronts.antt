-- How far the end of a front has come.
use Rattle.std.proofs.Common.{◌≡◌, ◌≢◌, ℕ, ◌+◌, ◌*◌, ◌<◌, ◌≤◌, ◌==◌, true, false, cond, [], refl, sym, ap, subst, ◌∙◌, arith, inl, inr, eq-eqb}
use Rattle.std.specs.Prelude.{◌⊎◌, Option, Some, None}
use Rattle.std.specs.Option.{option_map}
use Rattle.std.proofs.lemmas.Bool.{cases_Bool, cases_eq, cases_lt, cond-true, cond-false, false≢true, ne_eqb}
use Rattle.tables.specs.Table.{Entries, entry}
use Rattle.object_helper.specs.Objects.{ObjectStore}
use Rattle.resource_use.specs.Uses.{number_of}
use Rattle.submit_queue.specs.Histories.{last_number}
use Rattle.back_core.specs.Own.{batches_of}
use Rattle.back_core.specs.Link.{Link, put, abandoned}
use Rattle.front_model.specs.declared.object.Object.{Object}
use Rattle.front_model.specs.Face.{Stored, Face, nodes_touch}
use Rattle.front_model.specs.Stands.{Store, no_hands, Holds, Owns, IsKnown, IsPastUse}
use Rattle.front_model.proofs.Base.{put_at, put-other}
use Rattle.front_model.proofs.LinkSteps.{own_or_not}
use Rattle.front_model.proofs.Needs.{at_back_licensed}
use Rattle.front_moves.specs.Objects.{key_of, stored_of, objects_of, TakesOne}
use Rattle.front_moves.proofs.Keys.{object_at, key_at}
use Rattle.front_moves.proofs.ObjectStores.{stored_at}
use Rattle.front_moves.specs.Core.{IsFlushed}
use Rattle.front_moves.specs.Ending.{HasClosed, HasLetGo}

-- Contexts are flushed one after another

-- nothing is pending in the contexts of so many places
pub record IsFlushedTo (f : Face) (s : Link) (place : ℕ) : Type 0 where
  pub holds : Holds f no_hands s
  pub below : (i : ℕ) → 8 * f.group ≤ i → i < 8 * f.group + place → f.pending i ≡ []

pub flushed_to_none : (f : Face) (s : Link) → Holds f no_hands s → IsFlushedTo f s 0
flushed_to_none f s h = record { holds = h; below = λ i low high. absurd (omega arith) }

-- one more
pub flushed_one : (f g : Face) (s t : Link) (index place : ℕ) → IsFlushedTo f s place → index ≡ 8 * f.group + place → Holds g no_hands t → IsFlushed f g index →
    IsFlushedTo g t (place + 1)
flushed_one f g s t index place before at h one = record {
  holds = h;
  below = λ i low high. go i (subst (λ n. 8 * n ≤ i) one.group low) (subst (λ n. i < 8 * n + (place + 1)) one.group high) (cases_eq i index);
}
  where
    go : (i : ℕ) → 8 * f.group ≤ i → i < 8 * f.group + (place + 1) → (i ≡ index) ⊎ (i ≢ index) → g.pending i ≡ []
    go i low high (inl same) = ap (λ p. p i) one.pending ∙ put_at f.pending index [] i same
    go i low high (inr other) =
        let less : i < 8 * f.group + place = elim (cases_lt i (8 * f.group + place)) [ inl less ↦ less | inr past ↦ absurd (other (omega arith)) ] in
        ap (λ p. p i) one.pending ∙ put-other f.pending index [] i other ∙ before.below i low less

-- all of them
pub all_flushed : (f : Face) (s : Link) (place : ℕ) → IsFlushedTo f s place → 8 ≤ place → (index : ℕ) → f.pending index ≡ []
all_flushed f s place to all index = elim (own_or_not f.group index) [
  | inl own ↦ to.below index own.0 (let high : index < 8 * f.group + 8 = own.1 in omega arith)
  | inr far ↦ to.holds.of_group index far
]

-- A front has closed

none_touched : (f : Face) (index id : ℕ) → f.pending index ≡ [] → nodes_touch (f.pending index) id ≡ true → ⊥
none_touched f index id none touched = false≢true (sym (ap (λ nodes. nodes_touch nodes id) none) ∙ touched)

none_known : (f : Face) (id : ℕ) → ((o : Object) → f.objects o ≡ None) → IsKnown f no_hands id → ⊥
none_known f id none (inl hand) = false≢true hand
none_known f id none (inr known) = let both : None ≡ Some known.1 = sym (none known.0) ∙ known.2 in cc

pub has_closed : (f : Face) (s : Link) → Holds f no_hands s → ((index : ℕ) → f.pending index ≡ []) → ((o : Object) → f.objects o ≡ None) → HasClosed f s
has_closed f s h pending stored = record {
  none_pending = pending;
  none_stored = stored;
  none_held = not_held;
  none_lost = λ id made. elim (h.none_lost id made) [ inl held ↦ absurd (false≢true (sym (not_held id) ∙ held)) | inr given ↦ given ];
  given = λ id index uses is. past id index (number_of uses index) (h.given id index uses is);
  licensed = at_back_licensed f no_hands s h;
}
  where
    not_held : (id : ℕ) → s.held id ≡ false
    not_held id = elim (cases_Bool (s.held id)) [ inl held ↦ absurd (none_known f id stored (h.no_others id held)) | inr not ↦ not ]

    past : (id index number : ℕ) → IsPastUse f s id index number → number ≤ last_number (batches_of s.mine) index
    past id index number (inl low) = low
    past id index number (inr next) = absurd (none_touched f index id (pending index) next.2)

-- Stores are let go one after another

-- the stores of one handle are under one key
one_owner : (stores : Entries ObjectStore) (s : Link) (b c : ℕ) (x y : ObjectStore) → Owns (objects_of stores) s → entry b stores ≡ Some x → entry c stores ≡ Some y →
    x.handle.0 ≡ y.handle.0 → b ≡ c
one_owner stores s b c x y owns at also same =
    let one : owns.owner x.handle.0 ≡ Store (object_at b) = (owns.each (object_at b) (stored_of x) (stored_at stores b x at)).owned in
    let two : owns.owner y.handle.0 ≡ Store (object_at c) = (owns.each (object_at c) (stored_of y) (stored_at stores c y also)).owned in
    let both : Store (object_at b) ≡ Store (object_at c) = sym one ∙ ap owns.owner same ∙ two in
    sym (key_at b) ∙ ap key_of (same_owner (object_at b) (object_at c) both) ∙ key_at c
  where
    same_owner : (o q : Object) → Store o ≡ Store q → o ≡ q
    same_owner o q e = cc

pub lets_none_go : (stores : Entries ObjectStore) (s : Link) → Owns (objects_of stores) s → HasLetGo stores stores s s
lets_none_go stores s owns = record {
  rest = refl;
  held = λ b x at. (at, (owns.each (object_at b) (stored_of x) (stored_at stores b x at)).held);
  others = λ b x at. inl at;
}

-- what is under a number where one was taken out
left_after : {A : Type 0} (c b : ℕ) (o new : Option A) → new ≡ cond (c == b) None o → ((c ≡ b) × (new ≡ None)) ⊎ ((c ≢ b) × (new ≡ o))
left_after c b o new is = elim (cases_eq c b) [
  | inl same ↦ inl (same, is ∙ cond-true (c == b) None o (eq-eqb c b same))
  | inr other ↦ inr (other, is ∙ cond-false (c == b) None o (ne_eqb c b other))
]

-- one more
pub lets_one_go : (stores old new : Entries ObjectStore) (s t : Link) (b : ℕ) (store : ObjectStore) → Owns (objects_of stores) s → HasLetGo stores old s t → TakesOne b store old new →
    HasLetGo stores new s (abandoned t store.handle.0)
lets_one_go stores old new s t b store owns before takes = record {
  rest = ap (λ (x : Link). record x { held = put t.held store.handle.0 false }) before.rest;
  held = λ c x at. still c x at (left_after c b (entry c old) (entry c new) (takes.others c));
  others = λ c x at. gone c x at (before.others c x at) (left_after c b (entry c old) (entry c new) (takes.others c));
}
  where
    id : ℕ
    id = store.handle.0

    was : entry b stores ≡ Some store
    was = (before.held b store takes.taken).0

    still : (c : ℕ) (x : ObjectStore) → entry c new ≡ Some x → ((c ≡ b) × (entry c new ≡ None)) ⊎ ((c ≢ b) × (entry c new ≡ entry c old)) →
        (entry c stores ≡ Some x) × (put t.held id false x.handle.0 ≡ true)
    still c x at (inl none) = let both : None ≡ Some x = sym none.1 ∙ at in cc
    still c x at (inr other) =
        let one : (entry c stores ≡ Some x) × (t.held x.handle.0 ≡ true) = before.held c x (sym other.1 ∙ at) in
        (one.0, put-other t.held id false x.handle.0 (λ same. other.0 (one_owner stores s c b x store owns one.0 was same)) ∙ one.1)

    let_go : (x : ObjectStore) → t.held x.handle.0 ≡ false → put t.held id false x.handle.0 ≡ false
    let_go x not = elim (cases_eq x.handle.0 id) [
      | inl same ↦ put_at t.held id false x.handle.0 same
      | inr other ↦ put-other t.held id false x.handle.0 other ∙ not
    ]

    gone : (c : ℕ) (x : ObjectStore) → entry c stores ≡ Some x → (entry c old ≡ Some x) ⊎ (t.held x.handle.0 ≡ false) →
        ((c ≡ b) × (entry c new ≡ None)) ⊎ ((c ≢ b) × (entry c new ≡ entry c old)) → (entry c new ≡ Some x) ⊎ (put t.held id false x.handle.0 ≡ false)
    gone c x at (inr not) place = inr (let_go x not)
    gone c x at (inl left) (inr other) = inl (other.1 ∙ left)
    gone c x at (inl left) (inl taken) =
        let both : Some store ≡ Some x = sym was ∙ ap (λ q. entry q stores) (sym taken.0) ∙ at in
        inr (put_at t.held id false x.handle.0 (let same : x.handle.0 ≡ store.handle.0 = cc in same))

-- all of them
pub lets_all_go : (stores : Entries ObjectStore) (s t : Link) (o : Object) (x : Stored) → HasLetGo stores [] s t → objects_of stores o ≡ Some x → t.held x.handle ≡ false
lets_all_go stores s t o x all at = go (entry (key_of o) stores) refl at
  where
    go : (e : Option ObjectStore) → entry (key_of o) stores ≡ e → option_map stored_of e ≡ Some x → t.held x.handle ≡ false
    go None is none = cc
    go (Some store) is some =
        let same : store.handle.0 ≡ x.handle = let both : stored_of store ≡ x = cc in ap (λ (y : Stored). y.handle) both in
        elim (all.others (key_of o) store is) [
          | inl left ↦ cc
          | inr not ↦ subst (λ id. t.held id ≡ false) same not
        ]
