-- Taking covered garbage out of its list, one entry after the other.
use Rattle.std.proofs.Common.{◌≡◌, ℕ, zero, suc, ◌+◌, ◌<◌, ◌≤◌, Bool, true, false, cond, List, [], ◌∷◌, ◌++◌, length, get_or, take, drop, refl, sym, ap, ◌∙◌, subst, inl, inr, add-one, arith}
use Rattle.std.specs.Prelude.{Some, None, IsSome, slice_get, slice_index_or}
use Rattle.std.specs.List.{insert}
use Rattle.std.proofs.lemmas.List.{append-nil, append_assoc, map-append}
use Rattle.std.proofs.lemmas.Bool.{cases_order}
use Rattle.vk_types.specs.declared.stops.Stop.{Stop}
use Rattle.vk_model.specs.Meaning.{IsSettled}
use Rattle.vk_device.specs.declared.logged.Logged.{Logged}
use Rattle.vk_device.specs.declared.logged.Logged.TheVariants as logged
use Rattle.vk_device.specs.Journal.{kind_of}
use Rattle.vk_device.specs.Order.{log_of, order_of}
use Rattle.garbage.specs.declared.entry.Garbage.{Garbage}
use Rattle.garbage.specs.Collecting.{is_covered, AreKept, TakesOut}
use Rattle.back_core.specs.declared.back_event.BackEvent.{BackEvent}
use Rattle.back_core.specs.Run.{without_covered, destroys, covered_in, garbage_of, journal_of, IsLeftAlone}
use Rattle.back_core.specs.Cleaning.{covered_of, CanDestroy, Destroys}

-- What is left after so many were taken out

covered_step : (b : Bool) (read : List ℕ) (n : ℕ) (x : Garbage) (list : List Garbage) → is_covered read x ≡ b
    → covered_of read (without_covered read n list) ≡ drop n (covered_of read list) → covered_of read (without_covered read (suc n) list) ≡ drop (suc n) (covered_of read list)
    → covered_of read (cond b (without_covered read n list) (x ∷ without_covered read (suc n) list)) ≡ drop (suc n) (covered_of read (x ∷ list))
covered_step true read n x list e here later = rw e here
covered_step false read n x list e here later = rw e later

-- the covered entries of what is left
pub covered-without : (read : List ℕ) (n : ℕ) (list : List Garbage) → covered_of read (without_covered read n list) ≡ drop n (covered_of read list)
covered-without read zero list = refl
covered-without read (suc n) [] = refl
covered-without read (suc n) (x ∷ list) = covered_step (is_covered read x) read n x list refl (covered-without read n list) (covered-without read (suc n) list)

one_step : (b : Bool) (read : List ℕ) (n : ℕ) (x : Garbage) (list : List Garbage) → is_covered read x ≡ b
    → without_covered read (suc n) list ≡ without_covered read 1 (without_covered read n list) → without_covered read (suc (suc n)) list ≡ without_covered read 1 (without_covered read (suc n) list)
    → cond b (without_covered read (suc n) list) (x ∷ without_covered read (suc (suc n)) list) ≡ without_covered read 1 (cond b (without_covered read n list) (x ∷ without_covered read (suc n) list))
one_step true read n x list e here later = here
one_step false read n x list e here later = rw e (ap (λ l. x ∷ l) later)

-- one more was taken out
pub without-one : (read : List ℕ) (n : ℕ) (list : List Garbage) → without_covered read (suc n) list ≡ without_covered read 1 (without_covered read n list)
without-one read zero list = refl
without-one read (suc n) [] = refl
without-one read (suc n) (x ∷ list) = one_step (is_covered read x) read n x list refl (without-one read n list) (without-one read (suc n) list)

-- One entry

insert_before : (new : List Garbage) (place : ℕ) (item : Garbage) (k : ℕ) (d : Garbage) → k < place → place ≤ length new → get_or (insert new place item) k d ≡ get_or new k d
insert_before new zero item k d lt within = absurd (omega (arith, lt))
insert_before [] (suc place) item k d lt within = absurd (omega (arith, within))
insert_before (x ∷ new) (suc place) item zero d lt within = refl
insert_before (x ∷ new) (suc place) item (suc k) d lt within = insert_before new place item k d (omega (arith, lt)) (omega (arith, within))

-- none before the place is covered
pub kept_before : (read : List ℕ) (old new : List Garbage) (from place : ℕ) (item : Garbage) → TakesOut old new from read place item → AreKept read old 0 from → AreKept read new 0 place
kept_before read old new from place item out kept k d low lt =
    elim (cases_order k from) [
      | inl same ↦ out.first k d (omega (arith, same)) lt
      | inr (inl before) ↦ rw (← insert_before new place item k d lt out.within, ← out.taken) (kept k d low before)
      | inr (inr after) ↦ out.first k d (omega (arith, after)) lt
    ]

-- the first covered entry is taken out
pub takes_first : (read : List ℕ) (new : List Garbage) (place : ℕ) (item : Garbage) → place ≤ length new → is_covered read item ≡ true → AreKept read new 0 place
    → (covered_of read (insert new place item) ≡ item ∷ covered_of read new) × (without_covered read 1 (insert new place item) ≡ new)
takes_first read new zero item within covered kept = (rw covered refl, rw covered refl)
takes_first read [] (suc place) item within covered kept = absurd (omega (arith, within))
takes_first read (x ∷ new) (suc place) item within covered kept =
    let no : is_covered read x ≡ false = kept 0 x (omega arith) (omega arith) in
    let rest = takes_first read new place item (omega (arith, within)) covered (λ k d low lt. kept (suc k) d (omega arith) (omega (arith, lt))) in
    (rw no rest.0, rw no (ap (λ l. x ∷ l) rest.1))

-- where none is covered, none is taken out
pub takes_none : (read : List ℕ) (list : List Garbage) → AreKept read list 0 (length list) → (covered_of read list ≡ []) × (without_covered read 1 list ≡ list)
takes_none read [] kept = (refl, refl)
takes_none read (x ∷ list) kept =
    let no : is_covered read x ≡ false = kept 0 x (omega arith) (omega arith) in
    let rest = takes_none read list (λ k d low lt. kept (suc k) d (omega arith) (omega (arith, lt))) in
    (rw no rest.0, rw no (ap (λ l. x ∷ l) rest.1))

-- The covered ones by their places

pub at_drop : {X : Type 0} (list rest : List X) (n : ℕ) (x : X) → drop n list ≡ x ∷ rest → slice_get list n ≡ Some x
at_drop [] rest zero x e = absurd (cc e)
at_drop [] rest (suc n) x e = absurd (cc e)
at_drop (y ∷ list) rest zero x e = cc e
at_drop (y ∷ list) rest (suc n) x e = at_drop list rest n x e

pub take_then : {X : Type 0} (list rest : List X) (n : ℕ) (x : X) → drop n list ≡ x ∷ rest → take (suc n) list ≡ take n list ++ x ∷ []
take_then [] rest zero x e = absurd (cc e)
take_then [] rest (suc n) x e = absurd (cc e)
take_then (y ∷ list) rest zero x e = cc e
take_then (y ∷ list) rest (suc n) x e = ap (λ l. y ∷ l) (take_then list rest n x e)

pub inside_drop : {X : Type 0} (list rest : List X) (n : ℕ) (x : X) → drop n list ≡ x ∷ rest → n < length list
inside_drop [] rest zero x e = absurd (cc e)
inside_drop [] rest (suc n) x e = absurd (cc e)
inside_drop (y ∷ list) rest zero x e = omega arith
inside_drop (y ∷ list) rest (suc n) x e = let l = inside_drop list rest n x e in omega arith

pub end_drop : {X : Type 0} (list : List X) (n : ℕ) → drop n list ≡ [] → length list ≤ n
end_drop [] n e = omega arith
end_drop (y ∷ list) zero e = absurd (cc e)
end_drop (y ∷ list) (suc n) e = let l = end_drop list n e in omega arith

pub length-covered : (read : List ℕ) (list : List Garbage) → length (covered_of read list) ≤ length list
length-covered read [] = omega arith
length-covered read (x ∷ list) = length-covered_at (is_covered read x) x _ _ (length-covered read list)
  where
    length-covered_at : (b : Bool) (x : Garbage) (l list : List Garbage) → length l ≤ length list → length (cond b (x ∷ l) l) ≤ suc (length list)
    length-covered_at true x l list le = omega arith
    length-covered_at false x l list le = omega arith

-- A cleanup on its way

-- so many of the covered ones were destroyed, and none before the place is covered
pub record Cleaning (before now : List Logged) (old cur : List Garbage) (read : List ℕ) (count from : ℕ) : Type 0 where
  pub destroyed : now ≡ before ++ destroys (take count (covered_of read old))
  pub left : cur ≡ without_covered read count old
  pub few : count ≤ length (covered_of read old)
  pub kept : AreKept read cur 0 from

pub cleaning_starts : (before : List Logged) (old : List Garbage) (read : List ℕ) → Cleaning before before old old read 0 0
cleaning_starts before old read = record { destroyed = sym (append-nil before); left = refl; few = omega arith; kept = λ k d low lt. absurd (omega (arith, lt)) }

module _ (before now : List Logged) (old cur new : List Garbage) (read : List ℕ) (count from : ℕ) (cleaning : Cleaning before now old cur read count from) where
  -- the next covered one
  pub cleaning_head : (place : ℕ) (item : Garbage) → TakesOut cur new from read place item → drop count (covered_of read old) ≡ item ∷ covered_of read new
  cleaning_head place item out =
      let first = takes_first read new place item out.within out.covered (kept_before read cur new from place item out cleaning.kept) in
      sym (covered-without read count old) ∙ (ap (covered_of read) (sym cleaning.left ∙ out.taken) ∙ first.0)

  pub cleaning_left : (place : ℕ) (item : Garbage) → TakesOut cur new from read place item → new ≡ without_covered read (count + 1) old
  cleaning_left place item out =
      let first = takes_first read new place item out.within out.covered (kept_before read cur new from place item out cleaning.kept) in
      rw (add-one count) (sym first.1 ∙ (ap (without_covered read 1) (sym out.taken ∙ cleaning.left) ∙ sym (without-one read count old)))

  pub cleaning_next : (now' : List Logged) (place : ℕ) (item : Garbage) → TakesOut cur new from read place item → now' ≡ now ++ logged.Destroyed item.handle ∷ [] → Cleaning before now' old new read (count + 1) place
  cleaning_next now' place item out entry = record {
    destroyed = entry
        ∙ (ap (λ l. l ++ destroys (item ∷ [])) cleaning.destroyed
        ∙ (append_assoc before (destroys (take count (covered_of read old))) (destroys (item ∷ []))
        ∙ ap (λ l. before ++ l) (sym (map-append (λ (i : Garbage). logged.Destroyed i.handle) (take count (covered_of read old)) (item ∷ []))
        ∙ ap destroys (sym (take_then (covered_of read old) (covered_of read new) count item (cleaning_head place item out)) ∙ ap (λ n. take n (covered_of read old)) (sym (add-one count))))));
    left = cleaning_left place item out;
    few = let l = inside_drop (covered_of read old) (covered_of read new) count item (cleaning_head place item out) in omega arith;
    kept = kept_before read cur new from place item out cleaning.kept;
  }

  pub cleaning_stops : (place : ℕ) (item : Garbage) (stop : Stop) → TakesOut cur new from read place item → Destroys before now old new read count (Some stop)
  cleaning_stops place item stop out = record {
    destroyed = cleaning.destroyed;
    left = cleaning_left place item out;
    all = λ e. absurd (cc e);
    some = λ s e. inside_drop (covered_of read old) (covered_of read new) count item (cleaning_head place item out);
  }

  pub cleaning_ends : new ≡ cur → AreKept read cur from (length cur) → Destroys before now old new read count None
  cleaning_ends same rest =
      let kept : AreKept read cur 0 (length cur) = λ k d low lt. elim (cases_order k from) [
        | inl e ↦ rest k d (omega (arith, e)) lt
        | inr (inl l) ↦ cleaning.kept k d low l
        | inr (inr l) ↦ rest k d (omega (arith, l)) lt
      ] in
      let none = takes_none read cur kept in
      record {
        destroyed = cleaning.destroyed;
        left = same ∙ rw (add-one count) (sym none.1 ∙ (ap (without_covered read 1) cleaning.left ∙ sym (without-one read count old)));
        all = λ e. let few = cleaning.few in let l = end_drop (covered_of read old) count (sym (covered-without read count old) ∙ (ap (covered_of read) (sym cleaning.left) ∙ none.0)) in omega arith;
        some = λ s e. absurd (cc e);
      }

  -- it can be destroyed
  pub cleaning_live : CanDestroy before (covered_of read old) → (place : ℕ) (item : Garbage) → TakesOut cur new from read place item → IsSome (kind_of now item.handle.0)
  cleaning_live can place item out = subst (λ j. IsSome (kind_of j item.handle.0)) (sym cleaning.destroyed) (can.live count item (at_drop (covered_of read old) (covered_of read new) count item (cleaning_head place item out)))

  pub cleaning_settled : CanDestroy before (covered_of read old) → (place : ℕ) (item : Garbage) → TakesOut cur new from read place item → IsSettled (log_of now) (order_of now) item.handle.0
  cleaning_settled can place item out = subst (λ j. IsSettled (log_of j) (order_of j) item.handle.0) (sym cleaning.destroyed) (can.settled count item (at_drop (covered_of read old) (covered_of read new) count item (cleaning_head place item out)))

pub shorter : (old new : List Garbage) (from : ℕ) (read : List ℕ) (place : ℕ) (item : Garbage) → TakesOut old new from read place item → length old ≡ length new + 1
shorter old new from read place item out = ap length out.taken ∙ length_insert new place item out.within
  where
    length_insert : (new : List Garbage) (place : ℕ) (item : Garbage) → place ≤ length new → length (insert new place item) ≡ length new + 1
    length_insert new zero item le = omega arith
    length_insert [] (suc place) item le = absurd (omega (arith, le))
    length_insert (x ∷ new) (suc place) item le = let l = length_insert new place item (omega (arith, le)) in omega arith

-- where there is a covered entry, one is taken out at least
less_at : (b : Bool) (x : Garbage) (here later list covered : List Garbage) → length here ≤ length list → (0 < length covered → length later < length list) → 0 < length (cond b (x ∷ covered) covered) → length (cond b here (x ∷ later)) < suc (length list)
less_at true x here later list covered le more some = omega arith
less_at false x here later list covered le more some = let l = more some in omega arith

no_more_at : (b : Bool) (x : Garbage) (here later list : List Garbage) → length here ≤ length list → length later ≤ length list → length (cond b here (x ∷ later)) ≤ suc (length list)
no_more_at true x here later list a c = omega arith
no_more_at false x here later list a c = omega arith

no_longer : (read : List ℕ) (n : ℕ) (list : List Garbage) → length (without_covered read n list) ≤ length list
no_longer read zero list = omega arith
no_longer read (suc n) [] = omega arith
no_longer read (suc n) (x ∷ list) = no_more_at (is_covered read x) x _ _ list (no_longer read n list) (no_longer read (suc n) list)

pub without_shorter : (read : List ℕ) (n : ℕ) (list : List Garbage) → 0 < length (covered_of read list) → length (without_covered read (suc n) list) < length list
without_shorter read n [] some = absurd (omega (arith, some))
without_shorter read n (x ∷ list) some = less_at (is_covered read x) x _ _ list (covered_of read list) (no_longer read n list) (without_shorter read n list) some

same_at : (b : Bool) (x : Garbage) (later list covered : List Garbage) → (covered ≡ [] → later ≡ list) → cond b (x ∷ covered) covered ≡ [] → cond b list (x ∷ later) ≡ x ∷ list
same_at true x later list covered same e = absurd (cc e)
same_at false x later list covered same e = ap (λ l. x ∷ l) (same e)

pub without_same : (read : List ℕ) (list : List Garbage) → covered_of read list ≡ [] → without_covered read 1 list ≡ list
without_same read [] e = refl
without_same read (x ∷ list) e = same_at (is_covered read x) x _ list (covered_of read list) (without_same read list) e

pub empty : {X : Type 0} (list : List X) → 0 ≡ length list → list ≡ []
empty [] e = refl
empty (x ∷ list) e = absurd (omega arith)

-- an element and its place
pub place_in : {X : Type 0} (list : List X) (k : ℕ) (x : X) → k < length list → slice_index_or list k x ≡ x → slice_get list k ≡ Some x
place_in [] k x lt e = absurd (omega (arith, lt))
place_in (y ∷ list) zero x lt e = ap Some e
place_in (y ∷ list) (suc k) x lt e = place_in list k x (omega (arith, lt)) e

-- what is garbage and covered can be destroyed in order, as laws tell it
pub can_destroy : (h : List BackEvent) (journal : List Logged) (read : List ℕ) (items : List Garbage)
    → ((k : ℕ) (item : Garbage) → slice_get (covered_in h read) k ≡ Some item → IsSome (kind_of (journal_of h ++ destroys (take k (covered_in h read))) item.handle.0))
    → ((k : ℕ) (item : Garbage) → slice_get (covered_in h read) k ≡ Some item → IsLeftAlone h item.handle.0)
    → ((list : List Garbage) (id : ℕ) → IsSettled (log_of (journal_of h)) (order_of (journal_of h)) id → IsSettled (log_of (journal_of h ++ destroys list)) (order_of (journal_of h ++ destroys list)) id)
    → journal ≡ journal_of h → items ≡ garbage_of h → CanDestroy journal (covered_of read items)
can_destroy h journal read items live alone stays same all =
    subst (λ j. CanDestroy j (covered_of read items)) (sym same) (subst (λ l. CanDestroy (journal_of h) (covered_of read l)) (sym all) (record {
      live = live;
      settled = λ k item at. let a = alone k item at in stays (take k (covered_in h read)) item.handle.0 a.settled;
    }))
