-- The ready slots are the ready nodes, in the same order.
use Rattle.std.proofs.Common.{◌≡◌, ℕ, zero, suc, ◌+◌, ◌<◌, ◌≤◌, List, [], ◌∷◌, ◌++◌, length, get_or, set, map, Bool, true, false, cond, refl, sym, ◌∙◌, ap, subst, arith, inl, inr}
use Rattle.std.specs.Prelude.{Option, Some, None, slice_get}
use Rattle.std.specs.List.{filter, range_with_len, remove}
use Rattle.std.proofs.lemmas.Bool.{cases_lt, false≢true}
use Rattle.std.proofs.lemmas.Option.{slice_get_within}
use Rattle.vk_ready.specs.declared.nodes.WaitingNode.{WaitingNode}
use Rattle.vk_ready.specs.Ready.{is_ready, ready_places, ready_place, edge}
use Rattle.vk_ready.specs.Slots.{in_slot, waiting_in, edge_from, Has, Rises, IsOffered, IsWatched}
use Rattle.vk_ready.proofs.Places.{exact}
use Rattle.vk_ready.proofs.Readiness.{At, item_at}
use Rattle.vk_ready.proofs.Watching.{in_slot_within}
use Rattle.vk_ready.proofs.Rising.{has_at, same_rising, has_contains, contains_has}

abbrev past_slot : Option WaitingNode → ℕ → ℕ
past_slot None n = n
past_slot (Some x) n = suc n

-- how many nodes wait in the slots before this one
abbrev pub rank : List (Option WaitingNode) → ℕ → ℕ
rank [] k = 0
rank (s ∷ slots) zero = 0
rank (s ∷ slots) (suc k) = past_slot s (rank slots k)

past_more : (s : Option WaitingNode) (m n : ℕ) → m ≤ n → past_slot s m ≤ past_slot s n
past_more None m n le = le
past_more (Some x) m n le = omega arith

past_less : (s : Option WaitingNode) (m n : ℕ) → m < n → past_slot s m < past_slot s n
past_less None m n lt = lt
past_less (Some x) m n lt = omega arith

pub at_rank : (slots : List (Option WaitingNode)) (k : ℕ) (x : WaitingNode) → in_slot slots k ≡ Some x → slice_get (waiting_in slots) (rank slots k) ≡ Some x
at_rank [] k x at = cc
at_rank (None ∷ slots) zero x at = cc
at_rank (Some y ∷ slots) zero x at = at
at_rank (None ∷ slots) (suc k) x at = at_rank slots k x at
at_rank (Some y ∷ slots) (suc k) x at = at_rank slots k x at

pub without : (slots : List (Option WaitingNode)) (k : ℕ) (x : WaitingNode) → in_slot slots k ≡ Some x → waiting_in (set slots k None) ≡ remove (waiting_in slots) (rank slots k)
without [] k x at = cc
without (None ∷ slots) zero x at = cc
without (Some y ∷ slots) zero x at = refl
without (None ∷ slots) (suc k) x at = without slots k x at
without (Some y ∷ slots) (suc k) x at = ap (λ l. y ∷ l) (without slots k x at)

pub pushed : (slots : List (Option WaitingNode)) (x : WaitingNode) → waiting_in (slots ++ Some x ∷ []) ≡ waiting_in slots ++ x ∷ []
pushed [] x = refl
pushed (None ∷ slots) x = pushed slots x
pushed (Some y ∷ slots) x = ap (λ l. y ∷ l) (pushed slots x)

pub waiting_append : (xs ys : List (Option WaitingNode)) → waiting_in (xs ++ ys) ≡ waiting_in xs ++ waiting_in ys
waiting_append [] ys = refl
waiting_append (None ∷ xs) ys = waiting_append xs ys
waiting_append (Some x ∷ xs) ys = ap (λ l. x ∷ l) (waiting_append xs ys)

pub few_waiting : (slots : List (Option WaitingNode)) → length (waiting_in slots) ≤ length slots
few_waiting [] = omega arith
few_waiting (None ∷ slots) = let le = few_waiting slots in omega (arith, le)
few_waiting (Some x ∷ slots) = let le = few_waiting slots in omega (arith, le)

rank_least : (slots : List (Option WaitingNode)) (k : ℕ) (x : WaitingNode) → in_slot slots k ≡ Some x → (m : ℕ) → k < m → rank slots k < rank slots m
rank_least [] k x at m lt = cc
rank_least (None ∷ slots) zero x at m lt = cc
rank_least (Some y ∷ slots) zero x at zero lt = absurd (omega arith)
rank_least (Some y ∷ slots) zero x at (suc m) lt = omega arith
rank_least (s ∷ slots) (suc k) x at zero lt = absurd (omega arith)
rank_least (s ∷ slots) (suc k) x at (suc m) lt = past_less s (rank slots k) (rank slots m) (rank_least slots k x at m (omega arith))

rank_most : (slots : List (Option WaitingNode)) (k m : ℕ) → k ≤ m → rank slots k ≤ rank slots m
rank_most [] k m le = omega arith
rank_most (s ∷ slots) zero m le = omega arith
rank_most (s ∷ slots) (suc k) zero le = absurd (omega arith)
rank_most (s ∷ slots) (suc k) (suc m) le = past_more s (rank slots k) (rank slots m) (rank_most slots k m (omega arith))

-- the slot of a node that waits
pub record SlotOf (slots : List (Option WaitingNode)) (p : ℕ) (x : WaitingNode) : Type 0 where
  pub slot : ℕ
  pub at : in_slot slots slot ≡ Some x
  pub is : rank slots slot ≡ p

slot_of : (slots : List (Option WaitingNode)) (p : ℕ) (x : WaitingNode) → slice_get (waiting_in slots) p ≡ Some x → SlotOf slots p x
slot_of [] p x at = cc
slot_of (None ∷ slots) p x at = let s = slot_of slots p x at in record { slot = suc s.slot; at = s.at; is = s.is }
slot_of (Some y ∷ slots) zero x at = record { slot = 0; at = at; is = refl }
slot_of (Some y ∷ slots) (suc p) x at = let s = slot_of slots p x at in record { slot = suc s.slot; at = s.at; is = ap suc s.is }

-- Lists that rise, by a function

pub record From (f : ℕ → ℕ) (ns : List ℕ) (p : ℕ) : Type 0 where
  pub number : ℕ
  pub has : Has ns number
  pub is : p ≡ f number

from_map : (f : ℕ → ℕ) (ns : List ℕ) (p : ℕ) → Has (map f ns) p → From f ns p
from_map f [] p h = absurd h
from_map f (n ∷ ns) p (inl e) = record { number = n; has = inl refl; is = e }
from_map f (n ∷ ns) p (inr h) = let r = from_map f ns p h in record { number = r.number; has = inr r.has; is = r.is }

to_map : (f : ℕ → ℕ) (ns : List ℕ) (n : ℕ) → Has ns n → Has (map f ns) (f n)
to_map f [] n h = absurd h
to_map f (m ∷ ns) n (inl e) = inl (ap f e)
to_map f (m ∷ ns) n (inr h) = inr (to_map f ns n h)

rises_map : (f : ℕ → ℕ) (ns : List ℕ) → Rises ns → ((j k : ℕ) → Has ns j → j < k → f j < f k) → Rises (map f ns)
rises_map f [] r up = r
rises_map f (n ∷ ns) r up = (
  λ p h. let o = from_map f ns p h in let above = r.0 o.number o.has in let lt = up n o.number (inl refl) above in let is = o.is in omega (arith, lt, is),
  rises_map f ns r.1 (λ j k h. up j k (inr h)),
)

pub length_mapped : (f : ℕ → ℕ) (ns : List ℕ) → length (map f ns) ≡ length ns
length_mapped f [] = refl
length_mapped f (n ∷ ns) = ap suc (length_mapped f ns)

pub at_mapped : (f : ℕ → ℕ) (ns : List ℕ) (i : ℕ) → i < length ns → get_or (map f ns) i 0 ≡ f (get_or ns i 0)
at_mapped f [] i lt = absurd (omega arith)
at_mapped f (n ∷ ns) zero lt = refl
at_mapped f (n ∷ ns) (suc i) lt = at_mapped f ns i (omega arith)

-- The places that a filter keeps rise.

kept_more : (b : Bool) (a k : ℕ) (rest : List ℕ) → (Has rest k → a + 1 ≤ k) → Has (cond b (a ∷ rest) rest) k → a ≤ k
kept_more true a k rest more h = elim h [ inl e ↦ omega (arith, e) | inr h' ↦ let le = more h' in omega (arith, le) ]
kept_more false a k rest more h = let le = more h in omega (arith, le)

kept_from : (p : ℕ → Bool) (a n k : ℕ) → Has (filter p (range_with_len a n)) k → a ≤ k
kept_from p a zero k h = absurd h
kept_from p a (suc n) k h = kept_more (p a) a k (filter p (range_with_len (a + 1) n)) (kept_from p (a + 1) n k) h

rises_more : (b : Bool) (a : ℕ) (rest : List ℕ) → ((k : ℕ) → Has rest k → a + 1 ≤ k) → Rises rest → Rises (cond b (a ∷ rest) rest)
rises_more true a rest more r = ((λ k h. let le = more k h in omega (arith, le)), r)
rises_more false a rest more r = r

rises_kept : (p : ℕ → Bool) (a n : ℕ) → Rises (filter p (range_with_len a n))
rises_kept p a zero = tt
rises_kept p a (suc n) = rises_more (p a) a (filter p (range_with_len (a + 1) n)) (kept_from p (a + 1) n) (rises_kept p (a + 1) n)

-- The ready slots are the ready places.
module _ (slots : List (Option WaitingNode)) (holders ends ready : List ℕ) (kept : IsWatched slots holders ends ready 0 0 0) where
  rank_rises : (j k : ℕ) → Has ready j → j < k → rank slots j < rank slots k
  rank_rises j k h lt = let o = kept.offered j h in rank_least slots j o.node o.at k lt

  -- a ready slot is a ready place
  offered_is_ready : (k : ℕ) → Has ready k → Has (ready_places (waiting_in slots)) (rank slots k)
  offered_is_ready k h =
      let o = kept.offered k h in
      let here : slice_get (waiting_in slots) (rank slots k) ≡ Some o.node = at_rank slots k o.node o.at in
      contains_has (ready_places (waiting_in slots)) (rank slots k) ((exact (waiting_in slots) (rank slots k)).1 (
        slice_get_within (waiting_in slots) (rank slots k) o.node here,
        λ j x y lt at_j at_k.
            let s = slot_of slots j x at_j in
            let is : rank slots s.slot ≡ j = s.is in
            let both : Some o.node ≡ Some y = sym here ∙ at_k in
            let node_is : o.node ≡ y = cc in
            let earlier : s.slot < k = elim (cases_lt s.slot k) [ inl below ↦ below | inr above ↦ let more = rank_most slots k s.slot above in absurd (omega (arith, more, is, lt)) ] in
            let free = o.free in
            let none : edge_from (in_slot slots s.slot) o.node ≡ false = (kept.each k o.node o.at).free s.slot (omega (arith, free)) earlier in
            ap (edge x) (sym node_is) ∙ ap (λ z. edge_from z o.node) (sym s.at) ∙ none,
      ))

  -- a ready place is a ready slot
  ready_is_offered : (p : ℕ) → Has (ready_places (waiting_in slots)) p → Has (map (rank slots) ready) p
  ready_is_offered p h =
      let both = (exact (waiting_in slots) p).0 (has_contains (ready_places (waiting_in slots)) p h) in
      let node : At (waiting_in slots) p = item_at (waiting_in slots) p both.0 in
      let s = slot_of slots p node.item node.is in
      subst (Has (map (rank slots) ready)) s.is (to_map (rank slots) ready s.slot (kept.all s.slot node.item s.at (go s.slot node.item s.at s.is both.1 node.is (get_or holders s.slot 0) refl)))
    where
      go : (k : ℕ) (y : WaitingNode) → in_slot slots k ≡ Some y → rank slots k ≡ p → ((j : ℕ) (x y : WaitingNode) → j < p → slice_get (waiting_in slots) j ≡ Some x → slice_get (waiting_in slots) p ≡ Some y → edge x y ≡ false) → slice_get (waiting_in slots) p ≡ Some y → (holder : ℕ) → get_or holders k 0 ≡ holder → get_or holders k 0 ≡ 0
      go k y at is free at_p zero e = e
      go k y at is free at_p (suc q) e = elim ((kept.each k y at).held q e) [
        | inl behind ↦ absurd (held q (in_slot slots q) refl behind.waits)
        | inr stale ↦ let b = stale.before in absurd (omega (arith, b))
      ]
        where
          earlier : q < k
          earlier = let h = kept.each k y at in let le = h.earlier in omega (arith, le, e)

          held : (q' : ℕ) (s : Option WaitingNode) → in_slot slots q ≡ s → edge_from (in_slot slots q) y ≡ true → ⊥
          held q' None at_q waits = false≢true (ap (λ z. edge_from z y) (sym at_q) ∙ waits)
          held q' (Some x) at_q waits =
              let less : rank slots q < rank slots k = rank_least slots q x at_q k earlier in
              let none : edge x y ≡ false = free (rank slots q) x y (omega (arith, less, is)) (at_rank slots q x at_q) at_p in
              let yes : edge x y ≡ true = ap (λ z. edge_from z y) (sym at_q) ∙ waits in
              false≢true (sym none ∙ yes)

  pub ready_are : ready_places (waiting_in slots) ≡ map (rank slots) ready
  ready_are = same_rising (ready_places (waiting_in slots)) (map (rank slots) ready) (rises_kept (is_ready (waiting_in slots)) 0 (length (waiting_in slots))) (rises_map (rank slots) ready kept.rises rank_rises)
      ready_is_offered
      (λ p h. let o = from_map (rank slots) ready p h in subst (Has (ready_places (waiting_in slots))) (sym o.is) (offered_is_ready o.number o.has))

  pub ready_total : length ready ≡ length (ready_places (waiting_in slots))
  ready_total = sym (ap length ready_are ∙ length_mapped (rank slots) ready)

  pub place_of : (number : ℕ) → number < length ready → ready_place (waiting_in slots) number ≡ rank slots (get_or ready number 0)
  place_of number lt = ap (λ l. get_or l number 0) ready_are ∙ at_mapped (rank slots) ready number lt

  -- no earlier node has an edge to an offered one
  pub waits_for_none : (k : ℕ) (o : IsOffered slots holders k) → Has ready k → (j : ℕ) (x : WaitingNode) → j < rank slots k → slice_get (waiting_in slots) j ≡ Some x → edge x o.node ≡ false
  waits_for_none k o h j x lt at = ((exact (waiting_in slots) (rank slots k)).0 (has_contains (ready_places (waiting_in slots)) (rank slots k) (offered_is_ready k h))).1 j x o.node lt at (at_rank slots k o.node o.at)

-- all that a call needs of the slot that it takes
pub record IsTaken (slots : List (Option WaitingNode)) (holders ends ready : List ℕ) (number slot : ℕ) : Type 0 where
  pub has : Has ready slot
  pub offered : IsOffered slots holders slot
  pub inside : slot < length slots
  pub place : ready_place (waiting_in slots) number ≡ rank slots slot
  pub free : (j : ℕ) (x : WaitingNode) → j < rank slots slot → slice_get (waiting_in slots) j ≡ Some x → edge x offered.node ≡ false

pub taken_at : (slots : List (Option WaitingNode)) (holders ends ready : List ℕ) → IsWatched slots holders ends ready 0 0 0 → (number slot : ℕ) → number < length ready → slot ≡ get_or ready number 0 → IsTaken slots holders ends ready number slot
taken_at slots holders ends ready kept number slot inside is =
    let h : Has ready slot = subst (Has ready) (sym is) (has_at ready number inside) in
    let o : IsOffered slots holders slot = kept.offered slot h in record {
      has = h;
      offered = o;
      inside = in_slot_within slots slot o.node o.at;
      place = place_of slots holders ends ready kept number inside ∙ ap (rank slots) (sym is);
      free = waits_for_none slots holders ends ready kept slot o h;
    }
