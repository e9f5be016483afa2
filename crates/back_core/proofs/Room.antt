-- The room that a back keeps for events to come.
use Rattle.std.proofs.Common.{◌≡◌, ℕ, zero, suc, ◌+◌, ◌≤◌, ◌==◌, Bool, true, false, cond, List, [], ◌∷◌, ◌++◌, length, refl, sym, ap, ◌∙◌, subst, inl, inr, arith, length-append}
use Rattle.std.specs.Prelude.{◌/◌, ◌⊎◌, ◌&&◌, ◌||◌}
use Rattle.std.specs.List.{fold, count_by}
use mathlib.Core.Path.{fun_ext}
use Rattle.std.proofs.lemmas.Bool.{cases_eq, cond-true, cond-false, eqb-true, eq-eqb, ne_eqb}
use Rattle.std.proofs.lemmas.List.Sums.{fold-append, sum_by_push}
use Rattle.std.proofs.lemmas.List.Folds.{list_any-append}
use Rattle.std.proofs.lemmas.List.Concat.{flat_map-append}
use Rattle.vk_types.specs.declared.handles.Kind.{Kind}
use Rattle.vk_types.specs.declared.batches.Batch.{Batch}
use Rattle.submit_queue.specs.Histories as queue
use Rattle.back_core.specs.declared.back_event.BackEvent.{BackEvent}
use Rattle.back_core.specs.declared.back_event.BackEvent.TheVariants.{Created, Wrote, Enqueued, Submitted, Ran, Retired, Fetched, Gave, Abandoned, Cleaned, Closing, Stopped}
use Rattle.back_core.specs.Link.{Link, put, created}
use Rattle.back_core.specs.History.{if_own, link_after, opening, own_part}
use Rattle.back_core.specs.Run.{items_left, all_items_left, work_in}
use Rattle.back_core.specs.declared.ending.Ending.TheVariants.{Running}
use Rattle.back_core.specs.Back.{without, holdings_after, holdings_of, ending_after, ending_of}
use Rattle.back_core.proofs.Sees.{group_of}

-- Who holds what

-- this pair names the group and the object
abbrev Names : ℕ × ℕ → ℕ → ℕ → Type 0
Names x group id = ((x.0 == group) && (x.1 == id)) ≡ true

-- a pair of the list names them
abbrev pub IsIn : List (ℕ × ℕ) → ℕ → ℕ → Type 0
IsIn [] group id = ⊥
IsIn (x ∷ list) group id = Names x group id ⊎ IsIn list group id

names_self : (group id : ℕ) → Names (group, id) group id
names_self group id = rw (eq-eqb group group refl, eq-eqb id id refl) refl

and-left : (a b : Bool) → (a && b) ≡ true → a ≡ true
and-left true b e = refl
and-left false b e = e

and-right : (a b : Bool) → (a && b) ≡ true → b ≡ true
and-right true b e = e
and-right false b e = absurd (cc e)

length-without_at : (b : Bool) (x : ℕ × ℕ) (list rest : List (ℕ × ℕ)) → (b ≡ false → length rest + 1 ≡ length list) → length (cond b list (x ∷ rest)) + 1 ≡ suc (length list)
length-without_at true x list rest h = omega arith
length-without_at false x list rest h = let e : length rest + 1 ≡ length list = h refl in omega arith

other : (P : Type 0) (b : Bool) → b ≡ false → ((b ≡ true) ⊎ P) → P
other P b e (inl t) = absurd (cc (e, t))
other P b e (inr p) = p

pub length-without : (list : List (ℕ × ℕ)) (group id : ℕ) → IsIn list group id → length (without list group id) + 1 ≡ length list
length-without [] group id is = absurd is
length-without (x ∷ list) group id is = length-without_at ((x.0 == group) && (x.1 == id)) x list (without list group id) (λ no. length-without list group id (other (IsIn list group id) _ no is))

-- the pairs that name others stay
stays_at : (b : Bool) (x : ℕ × ℕ) (list rest : List (ℕ × ℕ)) (g i : ℕ) → (b ≡ true → Names x g i → ⊥) → (IsIn list g i → IsIn rest g i) → Names x g i ⊎ IsIn list g i → IsIn (cond b list (x ∷ rest)) g i
stays_at true x list rest g i differs h (inl t) = absurd (differs refl t)
stays_at true x list rest g i differs h (inr is) = is
stays_at false x list rest g i differs h (inl t) = inl t
stays_at false x list rest g i differs h (inr is) = inr (h is)

pub stays_in : (list : List (ℕ × ℕ)) (group id g i : ℕ) → (group ≡ g → id ≡ i → ⊥) → IsIn list g i → IsIn (without list group id) g i
stays_in [] group id g i differs is = absurd is
stays_in (x ∷ list) group id g i differs is =
    stays_at ((x.0 == group) && (x.1 == id)) x list (without list group id) g i
    (λ a b. differs (sym (eqb-true x.0 group (and-left _ _ a)) ∙ eqb-true x.0 g (and-left _ _ b)) (sym (eqb-true x.1 id (and-right _ _ a)) ∙ eqb-true x.1 i (and-right _ _ b)))
    (stays_in list group id g i differs) is

-- the group of the link has its objects in the list
abbrev AreIn : Link → List (ℕ × ℕ) → Type 0
AreIn l list = (id : ℕ) → l.held id ≡ true → IsIn list l.group id

put_here : (f : ℕ → Bool) (k i : ℕ) (v : Bool) → i ≡ k → put f k v i ≡ v
unfolding put
put_here f k i v e = cond-true (i == k) v (f i) (eq-eqb i k e)

put_else : (f : ℕ → Bool) (k i : ℕ) (v : Bool) → (i ≡ k → ⊥) → put f k v i ≡ f i
unfolding put
put_else f k i v e = cond-false (i == k) v (f i) (ne_eqb i k e)

-- the link after an event that is the group's own or not
by_own : (b : Bool) (l new : Link) (list : List (ℕ × ℕ)) (group : ℕ) → (group == l.group) ≡ b → new.group ≡ l.group
    → (group ≡ l.group → (id : ℕ) → new.held id ≡ true → IsIn list l.group id)
    → ((group ≡ l.group → ⊥) → (id : ℕ) → l.held id ≡ true → IsIn list l.group id)
    → AreIn (cond b new l) list
by_own true l new list group e same own others = λ id h. subst (λ g. IsIn list g id) (sym same) (own (eqb-true group l.group e) id h)
by_own false l new list group e same own others = λ id h. others (λ is. absurd (cc (e, eq-eqb group l.group is))) id h

created_in : (l : Link) (list : List (ℕ × ℕ)) (group i : ℕ) (kind : Kind) → AreIn l list → AreIn (if_own l group (created l i kind)) ((group, i) ∷ list)
created_in l list group i kind all =
    by_own (group == l.group) l (created l i kind) ((group, i) ∷ list) group refl refl
    (λ own id h. elim (cases_eq id i) [
      | inl same ↦ inl (subst (λ g. Names (group, i) g id) own (subst (λ k. Names (group, i) group k) (sym same) (names_self group i)))
      | inr differs ↦ inr (all id (sym (put_else l.held i id true differs) ∙ h))
    ])
    (λ others id h. inr (all id h))

let_go_in : (l new : Link) (list : List (ℕ × ℕ)) (group i : ℕ) → new.group ≡ l.group → new.held ≡ put l.held i false → AreIn l list → AreIn (if_own l group new) (without list group i)
let_go_in l new list group i same held all =
    by_own (group == l.group) l new (without list group i) group refl same
    (λ own id h. elim (cases_eq id i) [
      | inl here ↦ absurd (cc (h, ap (λ (f : ℕ → Bool). f id) held, put_here l.held i id false here))
      | inr differs ↦ stays_in list group i l.group id (λ a b. differs (sym b)) (all id (sym (put_else l.held i id false differs) ∙ (sym (ap (λ (f : ℕ → Bool). f id) held) ∙ h)))
    ])
    (λ others id h. stays_in list group i l.group id (λ a b. others a) (all id h))

same_in : (l new : Link) (list : List (ℕ × ℕ)) (group : ℕ) → new.group ≡ l.group → new.held ≡ l.held → AreIn l list → AreIn (if_own l group new) list
same_in l new list group same held all =
    by_own (group == l.group) l new list group refl same
    (λ own id h. all id (sym (ap (λ (f : ℕ → Bool). f id) held) ∙ h))
    (λ others id h. all id h)

after_in : (l : Link) (list : List (ℕ × ℕ)) (e : BackEvent) → AreIn l list → AreIn (link_after l e) (holdings_after list e)
after_in l list (Created group id kind) all = created_in l list group id.0 kind all
after_in l list (Wrote group id at bytes) all = same_in l _ list group refl refl all
after_in l list (Enqueued batch) all = same_in l _ list (batch.index / 8) refl refl all
after_in l list Submitted all = all
after_in l list (Ran batch node) all = all
after_in l list (Retired serial) all = all
after_in l list (Fetched group id at bytes) all = same_in l _ list group refl refl all
after_in l list (Gave group id uses) all = let_go_in l _ list group id.0 refl refl all
after_in l list (Abandoned group id) all = let_go_in l _ list group id.0 refl refl all
after_in l list (Cleaned read destroyed) all = all
after_in l list Closing all = all
after_in l list (Stopped stop) all = all

all_in : (l : Link) (list : List (ℕ × ℕ)) (h : List BackEvent) → AreIn l list → AreIn (fold link_after l h) (fold holdings_after list h)
all_in l list [] all = all
all_in l list (e ∷ h) all = all_in (link_after l e) (holdings_after list e) h (after_in l list e all)

-- what a group holds is in the list
pub held_in : (h : List BackEvent) (g id : ℕ) → (own_part h g).held id ≡ true → IsIn (holdings_of h) g id
unfolding holdings_of
held_in h g id held = subst (λ k. IsIn (holdings_of h) k id) (group_of h g) (all_in (opening g) [] h (λ i none. absurd (cc none)) id held)

pub holdings_then : (h : List BackEvent) (e : BackEvent) → holdings_of (h ++ e ∷ []) ≡ holdings_after (holdings_of h) e
unfolding holdings_of
holdings_then h e = fold-append holdings_after [] h (e ∷ [])

pub ending_then : (h : List BackEvent) (e : BackEvent) → ending_of (h ++ e ∷ []) ≡ ending_after (ending_of h) e
unfolding ending_of
ending_then h e = fold-append ending_after Running h (e ∷ [])

-- The work that is left

items_left_few : (ran : ℕ → Bool) (count : ℕ) → items_left ran count ≤ count
items_left_few ran zero = omega arith
items_left_few ran (suc count) = items_left_few_at (ran count) (items_left ran count) count (items_left_few ran count)
  where
    items_left_few_at : (b : Bool) (n count : ℕ) → n ≤ count → cond b 0 1 + n ≤ suc count
    items_left_few_at true n count le = omega arith
    items_left_few_at false n count le = omega arith

-- a batch is pushed: its items are left, and those of the others as before
pushed_items : (ran ran' : ℕ → ℕ → Bool) (place : ℕ) (batches : List Batch) (batch : Batch) → ran' ≡ ran
    → all_items_left ran' place (batches ++ batch ∷ []) ≤ all_items_left ran place batches + queue.item_count batch
pushed_items ran ran' place [] batch e = let few = items_left_few (ran' place) (queue.item_count batch) in omega arith
pushed_items ran ran' place (b ∷ batches) batch e =
    let more = pushed_items ran ran' (suc place) batches batch e in
    let same : items_left (ran' place) (queue.item_count b) ≡ items_left (ran place) (queue.item_count b) = ap (λ (r : ℕ → ℕ → Bool). items_left (r place) (queue.item_count b)) e in
    omega (arith, more, same)

or-false : (b : Bool) → (b || false) ≡ b
or-false true = refl
or-false false = refl

plus-none : (n k : ℕ) → k ≡ 0 → n + k ≡ n
plus-none n k e = omega arith

pub work_pushed : (h : List queue.Event) (batch : Batch) → work_in (h ++ queue.Pushed batch ∷ []) ≤ work_in h + 2 + queue.item_count batch
work_pushed h batch =
    let batches : queue.batches (h ++ queue.Pushed batch ∷ []) ≡ queue.batches h ++ batch ∷ [] = flat_map-append queue.pushed_by h (queue.Pushed batch ∷ []) in
    let accepted : queue.accepted (h ++ queue.Pushed batch ∷ []) ≡ queue.accepted h = count-pushed queue.is_accept h batch refl in
    let retired : queue.retired (h ++ queue.Pushed batch ∷ []) ≡ queue.retired h = count-pushed queue.is_retire h batch refl in
    let ran : queue.has_run (h ++ queue.Pushed batch ∷ []) ≡ queue.has_run h = fun_ext (λ b. fun_ext (λ i. list_any-append (queue.is_run b i) h (queue.Pushed batch ∷ []) ∙ or-false _)) in
    let items = pushed_items (queue.has_run h) (queue.has_run (h ++ queue.Pushed batch ∷ [])) 0 (queue.batches h) batch ran in
    rw (batches, accepted, retired) (omega (arith, items, length-append (queue.batches h) (batch ∷ [])))
  where
    count-pushed : (p : queue.Event → Bool) (h : List queue.Event) (batch : Batch) → p (queue.Pushed batch) ≡ false → count_by p (h ++ queue.Pushed batch ∷ []) ≡ count_by p h
    count-pushed p h batch e =
        let all : count_by p (h ++ queue.Pushed batch ∷ []) ≡ count_by p h + cond (p (queue.Pushed batch)) 1 0 = sum_by_push (λ x. cond (p x) 1 0) h (queue.Pushed batch) in
        all ∙ plus-none (count_by p h) _ (ap (λ b. cond b 1 0) e)
