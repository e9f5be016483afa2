-- Steps that keep what each slot watches.
use Rattle.std.proofs.Common.{◌≡◌, ℕ, zero, suc, ◌+◌, ◌<◌, ◌≤◌, List, [], ◌∷◌, ◌++◌, length, get_or, set, min, true, refl, sym, ◌∙◌, ap, subst, arith, inl, inr}
use Rattle.std.specs.Prelude.{◌⊎◌, ◌↔◌, Option, Some, None}
use Rattle.std.proofs.lemmas.Bool.{cases_eq, cases_lt}
use Rattle.std.proofs.lemmas.List.{length-set, get_or-set_same, get_or-set_other, get_or_append_left, length-append}
use Rattle.vk_ready.specs.declared.nodes.WaitingNode.{WaitingNode}
use Rattle.vk_ready.specs.Slots.{in_slot, edge_from, IsFreeOf, AreGone, Has, Rises, AreStarts, IsHeld, IsOffered, IsWatched}

-- nothing stands past the last slot
pub in_slot_past : (slots : List (Option WaitingNode)) (k : ℕ) → length slots ≤ k → in_slot slots k ≡ None
in_slot_past [] k le = refl
in_slot_past (s ∷ slots) zero le = absurd (omega arith)
in_slot_past (s ∷ slots) (suc k) le = in_slot_past slots k (omega arith)

past_end : (ns : List ℕ) (k : ℕ) → length ns ≤ k → get_or ns k 0 ≡ 0
past_end [] k le = refl
past_end (n ∷ ns) zero le = absurd (omega arith)
past_end (n ∷ ns) (suc k) le = past_end ns k (omega arith)

pub in_slot_within : (slots : List (Option WaitingNode)) (k : ℕ) (x : WaitingNode) → in_slot slots k ≡ Some x → k < length slots
in_slot_within slots k x at = elim (cases_lt k (length slots)) [ inl lt ↦ lt | inr le ↦ let none : in_slot slots k ≡ None = in_slot_past slots k le in cc ]

module _ (slots : List (Option WaitingNode)) (holders ends ready : List ℕ) (gone i end : ℕ) (kept : IsWatched slots holders ends ready gone i end) where
  -- the slot does not name the one that ran
  pub watched_other : (get_or holders i 0 ≡ suc gone → ⊥) → IsWatched slots holders ends ready gone (i + 1) end
  watched_other other = record {
    holders_size = kept.holders_size;
    ends_size = kept.ends_size;
    each = λ k later at. held_past k later at;
    empty = kept.empty;
    rises = kept.rises;
    offered = kept.offered;
    all = kept.all;
  }
    where
      held_past : (k : ℕ) (later : WaitingNode) → in_slot slots k ≡ Some later → IsHeld slots holders ends gone (i + 1) end k later
      held_past k later at = let h = kept.each k later at in record {
        earlier = h.earlier;
        free = h.free;
        held = λ p e. elim (h.held p e) [
          | inl behind ↦ inl behind
          | inr left ↦ elim (cases_eq k i) [
            | inl same ↦ absurd (other (ap (λ j. get_or holders j 0) (sym same) ∙ e ∙ ap suc left.is))
            | inr ne ↦ let after = left.after in inr (record { is = left.is; after = omega (arith, after, ne); before = left.before })
          ]
        ];
      }

  -- the slot names the one that ran
  module _ (named : get_or holders i 0 ≡ suc gone) (after : gone < i) (inside : i < length slots) (empty : in_slot slots gone ≡ None) (node : WaitingNode) (at : in_slot slots i ≡ Some node) (holder : ℕ) (below : holder ≤ gone) (free : IsFreeOf slots holder gone node) where
    abbrev new : List ℕ
    new = set holders i holder

    here : get_or new i 0 ≡ holder
    here = get_or-set_same holders i holder 0 (let size = kept.holders_size in omega arith)

    there : (k : ℕ) → (k ≡ i → ⊥) → get_or new k 0 ≡ get_or holders k 0
    there k ne = get_or-set_other holders i k holder 0 ne

    free_here : IsFreeOf slots holder i node
    free_here j le lt = elim (cases_lt j gone) [
      | inl less ↦ free j le less
      | inr more ↦ elim (cases_eq j gone) [
        | inl same ↦ ap (λ k. edge_from (in_slot slots k) node) same ∙ ap (λ s. edge_from s node) empty
        | inr ne ↦ (kept.each i node at).free j (omega (arith, named, more, ne)) lt
      ]
    ]

    empty_new : (k : ℕ) → in_slot slots k ≡ None → get_or new k 0 ≡ 0
    empty_new k none = elim (cases_eq k i) [
      | inl same ↦ let both : in_slot slots i ≡ None = ap (in_slot slots) (sym same) ∙ none in absurd (cc)
      | inr ne ↦ there k ne ∙ kept.empty k none
    ]

    not_ready : Has ready i → ⊥
    not_ready h = let o = kept.offered i h in let zero_is = o.free in omega (arith, zero_is, named)

    pub is_new : Has ready i → ⊥
    is_new = not_ready

    others : (ends' : List ℕ) → ((p : ℕ) → get_or ends p 0 ≤ get_or ends' p 0) → (k : ℕ) (later : WaitingNode) → in_slot slots k ≡ Some later → (k ≡ i → ⊥) → IsHeld slots new ends' gone (i + 1) end k later
    others ends' risen k later at_k ne =
        let h = kept.each k later at_k in
        record {
          earlier = subst (λ n. n ≤ k) (sym (there k ne)) h.earlier;
          free = subst (λ n. IsFreeOf slots n k later) (sym (there k ne)) h.free;
          held = λ p e. elim (h.held p (sym (there k ne) ∙ e)) [
            | inl behind ↦ inl (record { waits = behind.waits; seen = let more = risen p in let seen = behind.seen in omega (arith, more, seen) })
            | inr left ↦ let after_k = left.after in inr (record { is = left.is; after = omega (arith, after_k, ne); before = left.before })
          ];
        }

    -- it waits for none
    pub watched_ready : (ready' : List ℕ) → holder ≡ 0 → Rises ready' → ((k : ℕ) → Has ready' k ↔ ((k ≡ i) ⊎ Has ready k)) → IsWatched slots new ends ready' gone (i + 1) end
    watched_ready ready' none rises holds = record {
      holders_size = length-set holders i holder ∙ kept.holders_size;
      ends_size = kept.ends_size;
      each = λ k later at_k. elim (cases_eq k i) [
        | inl same ↦
            let zero_is : get_or new k 0 ≡ 0 = ap (λ j. get_or new j 0) same ∙ here ∙ none in
            let both : Some node ≡ Some later = sym at ∙ ap (in_slot slots) (sym same) ∙ at_k in
            let node_is : node ≡ later = cc in
            record {
              earlier = omega (arith, zero_is);
              free = subst (λ n. IsFreeOf slots n k later) (sym (ap (λ j. get_or new j 0) same ∙ here)) (subst (λ j. IsFreeOf slots holder j later) (sym same) (subst (IsFreeOf slots holder i) node_is free_here));
              held = λ p e. absurd (omega (arith, zero_is, e));
            }
        | inr ne ↦ others ends (λ p. omega arith) k later at_k ne
      ];
      empty = empty_new;
      rises = rises;
      offered = λ k h. elim ((holds k).0 h) [
        | inl same ↦ record { node = node; at = ap (in_slot slots) same ∙ at; free = ap (λ j. get_or new j 0) same ∙ here ∙ none }
        | inr old ↦ let o = kept.offered k old in record { node = o.node; at = o.at; free = there k (λ same. not_ready (subst (Has ready) same old)) ∙ o.free }
      ];
      all = λ k later at_k zero_is. elim (cases_eq k i) [
        | inl same ↦ (holds k).1 (inl same)
        | inr ne ↦ (holds k).1 (inr (kept.all k later at_k (sym (there k ne) ∙ zero_is)))
      ];
    }

    -- it waits for another
    pub watched_behind : (ends' : List ℕ) (p : ℕ) → holder ≡ suc p → edge_from (in_slot slots p) node ≡ true → length ends' ≡ length ends → ((p : ℕ) → get_or ends p 0 ≤ get_or ends' p 0) → i < get_or ends' p 0 → IsWatched slots new ends' ready gone (i + 1) end
    watched_behind ends' p is waits size risen seen = record {
      holders_size = length-set holders i holder ∙ kept.holders_size;
      ends_size = size ∙ kept.ends_size;
      each = λ k later at_k. elim (cases_eq k i) [
        | inl same ↦
            let holder_is : get_or new k 0 ≡ holder = ap (λ j. get_or new j 0) same ∙ here in
            let both : Some node ≡ Some later = sym at ∙ ap (in_slot slots) (sym same) ∙ at_k in
            let node_is : node ≡ later = cc in
            record {
              earlier = omega (arith, holder_is, same);
              free = subst (λ n. IsFreeOf slots n k later) (sym holder_is) (subst (λ j. IsFreeOf slots holder j later) (sym same) (subst (IsFreeOf slots holder i) node_is free_here));
              held = λ q e. let q_is : p ≡ q = omega (arith, is, holder_is, e) in inl (record {
                waits = subst (λ j. edge_from (in_slot slots j) later ≡ true) q_is (subst (λ z. edge_from (in_slot slots p) z ≡ true) node_is waits);
                seen = subst (λ j. k < get_or ends' j 0) q_is (omega (arith, same, seen));
              });
            }
        | inr ne ↦ others ends' risen k later at_k ne
      ];
      empty = empty_new;
      rises = kept.rises;
      offered = λ k h. let o = kept.offered k h in record { node = o.node; at = o.at; free = there k (λ same. not_ready (subst (Has ready) same h)) ∙ o.free };
      all = λ k later at_k zero_is. elim (cases_eq k i) [
        | inl same ↦ let e : get_or new k 0 ≡ holder = ap (λ j. get_or new j 0) same ∙ here in absurd (omega (arith, is, e, zero_is))
        | inr ne ↦ kept.all k later at_k (sym (there k ne) ∙ zero_is)
      ];
    }

-- no slot is left that names the one that ran
pub watched_all : (slots : List (Option WaitingNode)) (holders ends ready : List ℕ) (gone i end : ℕ) → IsWatched slots holders ends ready gone i end → end ≤ i → IsWatched slots holders ends ready 0 0 0
watched_all slots holders ends ready gone i end kept done = record {
  holders_size = kept.holders_size;
  ends_size = kept.ends_size;
  each = λ k later at. let h = kept.each k later at in record {
    earlier = h.earlier;
    free = h.free;
    held = λ p e. elim (h.held p e) [ inl behind ↦ inl behind | inr left ↦ let a = left.after in let b = left.before in absurd (omega (arith, a, b, done)) ];
  };
  empty = kept.empty;
  rises = kept.rises;
  offered = kept.offered;
  all = kept.all;
}

-- A ready node runs

emptied_here : (slots : List (Option WaitingNode)) (g : ℕ) → in_slot (set slots g None) g ≡ None
emptied_here [] g = refl
emptied_here (s ∷ slots) zero = refl
emptied_here (s ∷ slots) (suc g) = emptied_here slots g

pub emptied_there : (slots : List (Option WaitingNode)) (g k : ℕ) → (k ≡ g → ⊥) → in_slot (set slots g None) k ≡ in_slot slots k
emptied_there slots g k ne = get_or-set_other slots g k None None ne

pub emptied : (slots : List (Option WaitingNode)) (g : ℕ) → in_slot (set slots g None) g ≡ None
emptied slots g = emptied_here slots g

pub gone_on : (slots : List (Option WaitingNode)) (g first : ℕ) → AreGone slots first → AreGone (set slots g None) first
gone_on slots g first gone k lt = elim (cases_eq k g) [
  | inl same ↦ ap (in_slot (set slots g None)) same ∙ emptied_here slots g
  | inr ne ↦ emptied_there slots g k ne ∙ gone k lt
]

module _ (slots : List (Option WaitingNode)) (holders ends ready : List ℕ) (kept : IsWatched slots holders ends ready 0 0 0) (g : ℕ) (is_ready : Has ready g) (end : ℕ) (end_is : end ≡ min (get_or ends g 0) (length slots)) (ready' : List ℕ) (rises : Rises ready') (others : (k : ℕ) → Has ready' k ↔ ((k ≡ g → ⊥) × Has ready k)) where
  abbrev left : List (Option WaitingNode)
  left = set slots g None

  not_gone : (k : ℕ) (later : WaitingNode) → in_slot left k ≡ Some later → k ≡ g → ⊥
  not_gone k later at same = let none : in_slot left k ≡ None = ap (in_slot left) same ∙ emptied_here slots g in cc

  before : (k : ℕ) (later : WaitingNode) → in_slot left k ≡ Some later → in_slot slots k ≡ Some later
  before k later at = sym (emptied_there slots g k (not_gone k later at)) ∙ at

  held_left : (k : ℕ) (later : WaitingNode) → in_slot left k ≡ Some later → IsHeld left holders ends g (g + 1) end k later
  held_left k later at = let h = kept.each k later (before k later at) in record {
    earlier = h.earlier;
    free = λ j le lt. elim (cases_eq j g) [
      | inl same ↦ ap (λ i. edge_from (in_slot left i) later) same ∙ ap (λ s. edge_from s later) (emptied_here slots g)
      | inr ne ↦ ap (λ s. edge_from s later) (emptied_there slots g j ne) ∙ h.free j le lt
    ];
    held = λ p e. elim (h.held p e) [
      | inl behind ↦ elim (cases_eq p g) [
        | inl same ↦
            let seen : k < get_or ends p 0 = behind.seen in
            let seen_g : k < get_or ends g 0 = subst (λ i. k < get_or ends i 0) same seen in
            let inside : k < length slots = in_slot_within slots k later (before k later at) in
            let earlier : get_or holders k 0 ≤ k = h.earlier in
            inr (record { is = same; after = omega (arith, earlier, e, same); before = omega (arith, end_is, seen_g, inside) })
        | inr ne ↦ inl (record { waits = ap (λ s. edge_from s later) (emptied_there slots g p ne) ∙ behind.waits; seen = behind.seen })
      ]
      | inr stale ↦ let b = stale.before in absurd (omega (arith, b))
    ];
  }

  pub watched_left : IsWatched left holders ends ready' g (g + 1) end
  watched_left = record {
    holders_size = kept.holders_size ∙ sym (length-set slots g None);
    ends_size = kept.ends_size ∙ sym (length-set slots g None);
    each = held_left;
    empty = λ k none. elim (cases_eq k g) [
      | inl same ↦ let o = kept.offered g is_ready in ap (λ i. get_or holders i 0) same ∙ o.free
      | inr ne ↦ kept.empty k (sym (emptied_there slots g k ne) ∙ none)
    ];
    rises = rises;
    offered = λ k h. let both = (others k).0 h in let o = kept.offered k both.1 in record { node = o.node; at = emptied_there slots g k both.0 ∙ o.at; free = o.free };
    all = λ k later at free. (others k).1 (not_gone k later at, kept.all k later (before k later at) free);
  }

pub gone_pushed : (slots : List (Option WaitingNode)) (s : Option WaitingNode) (first : ℕ) → AreGone slots first → first ≤ length slots → AreGone (slots ++ s ∷ []) first
gone_pushed slots s first gone le k lt = get_or_append_left slots (s ∷ []) None k (omega (arith, le, lt)) ∙ gone k lt

-- One more node waits

below_last : {X : Type 0} (xs : List X) (x d : X) (k : ℕ) → k < length xs → get_or (xs ++ x ∷ []) k d ≡ get_or xs k d
below_last xs x d k lt = get_or_append_left xs (x ∷ []) d k lt

at_last : {X : Type 0} (xs : List X) (x d : X) → get_or (xs ++ x ∷ []) (length xs) d ≡ x
at_last [] x d = refl
at_last (y ∷ xs) x d = at_last xs x d

pub no_less : (ns : List ℕ) (p : ℕ) → get_or ns p 0 ≤ get_or (ns ++ 0 ∷ []) p 0
no_less [] p = omega arith
no_less (n ∷ ns) zero = omega arith
no_less (n ∷ ns) (suc p) = no_less ns p

module _ (slots : List (Option WaitingNode)) (holders ends ready : List ℕ) (kept : IsWatched slots holders ends ready 0 0 0) (node : WaitingNode) (holder : ℕ) (within : holder ≤ length slots) (free : IsFreeOf slots holder (length slots) node) where
  abbrev more : List (Option WaitingNode)
  more = slots ++ Some node ∷ []

  abbrev named : List ℕ
  named = holders ++ holder ∷ []

  named_below : (k : ℕ) → k < length slots → get_or named k 0 ≡ get_or holders k 0
  named_below k lt = below_last holders holder 0 k (let size = kept.holders_size in omega (arith, lt, size))

  named_last : get_or named (length slots) 0 ≡ holder
  named_last = ap (λ n. get_or named n 0) (sym kept.holders_size) ∙ at_last holders holder 0

  pub next_is_new : Has ready (length slots) → ⊥
  next_is_new h = let o = kept.offered (length slots) h in let lt = in_slot_within slots (length slots) o.node o.at in omega (arith, lt)

  more_size : length more ≡ length slots + 1
  more_size = length-append slots (Some node ∷ [])

  pub record WhereIs (k : ℕ) : Type 0 where
    pub cases : (k < length slots) ⊎ ((k ≡ length slots) ⊎ (length slots < k))

  where_is : (k : ℕ) → WhereIs k
  where_is k = record {
    cases = elim (cases_lt k (length slots)) [
      | inl lt ↦ inl lt
      | inr le ↦ elim (cases_eq k (length slots)) [ inl same ↦ inr (inl same) | inr ne ↦ inr (inr (omega (arith, le, ne))) ]
    ];
  }

  past_more : (k : ℕ) → length slots < k → in_slot more k ≡ None
  past_more k lt = in_slot_past more k (omega (arith, more_size, lt))

  free_more : (start end k : ℕ) (later : WaitingNode) → end ≤ length slots → IsFreeOf slots start end later → IsFreeOf more start end later
  free_more start end k later le is j from lt = ap (λ s. edge_from s later) (below_last slots (Some node) None j (omega (arith, le, lt))) ∙ is j from lt

  -- a slot from before
  module _ (ends' : List ℕ) (risen : (p : ℕ) → get_or ends p 0 ≤ get_or ends' p 0) where
    held_more : (k : ℕ) (later : WaitingNode) → k < length slots → in_slot more k ≡ Some later → IsHeld more named ends' 0 0 0 k later
    held_more k later lt at =
        let h = kept.each k later (sym (below_last slots (Some node) None k lt) ∙ at) in
        let earlier : get_or holders k 0 ≤ k = h.earlier in
        record {
          earlier = subst (λ n. n ≤ k) (sym (named_below k lt)) earlier;
          free = subst (λ n. IsFreeOf more n k later) (sym (named_below k lt)) (free_more (get_or holders k 0) k k later (omega (arith, lt)) h.free);
          held = λ p e. elim (h.held p (sym (named_below k lt) ∙ e)) [
            | inl behind ↦
                let e' : get_or holders k 0 ≡ suc p = sym (named_below k lt) ∙ e in
                let r = risen p in
                let seen = behind.seen in
                inl (record { waits = ap (λ s. edge_from s later) (below_last slots (Some node) None p (omega (arith, e', earlier, lt))) ∙ behind.waits; seen = omega (arith, r, seen) })
            | inr stale ↦ let b = stale.before in absurd (omega (arith, b))
          ];
        }

    empty_more : (k : ℕ) → in_slot more k ≡ None → get_or named k 0 ≡ 0
    empty_more k none = go (where_is k).cases
      where
        go : (k < length slots) ⊎ ((k ≡ length slots) ⊎ (length slots < k)) → get_or named k 0 ≡ 0
        go (inl lt) = named_below k lt ∙ kept.empty k (sym (below_last slots (Some node) None k lt) ∙ none)
        go (inr (inl same)) = let both : in_slot more k ≡ Some node = ap (in_slot more) same ∙ at_last slots (Some node) None in absurd (cc)
        go (inr (inr past)) = past_end named k (let size = kept.holders_size in let longer = length-append holders (holder ∷ []) in omega (arith, past, size, longer))

    -- it waits for none
    pub pushed_ready : length ends' ≡ length slots + 1 → holder ≡ 0 → (ready' : List ℕ) → Rises ready' → ((k : ℕ) → Has ready' k ↔ ((k ≡ length slots) ⊎ Has ready k)) → IsWatched more named ends' ready' 0 0 0
    pushed_ready size none ready' rises holds = record {
      holders_size = length-append holders (holder ∷ []) ∙ ap (λ n. n + 1) kept.holders_size ∙ sym more_size;
      ends_size = size ∙ sym more_size;
      each = λ k later at. each_ready k later at (where_is k).cases;
      empty = empty_more;
      rises = rises;
      offered = λ k h. elim ((holds k).0 h) [
        | inl same ↦ record { node = node; at = ap (in_slot more) same ∙ at_last slots (Some node) None; free = ap (λ j. get_or named j 0) same ∙ named_last ∙ none }
        | inr old ↦ offered_more k (kept.offered k old)
      ];
      all = λ k later at free_k. all_ready k later at free_k (where_is k).cases;
    }
      where
        each_ready : (k : ℕ) (later : WaitingNode) → in_slot more k ≡ Some later → (k < length slots) ⊎ ((k ≡ length slots) ⊎ (length slots < k)) → IsHeld more named ends' 0 0 0 k later
        each_ready k later at (inl lt) = held_more k later lt at
        each_ready k later at (inr (inl same)) =
            let holder_is : get_or named k 0 ≡ 0 = ap (λ j. get_or named j 0) same ∙ named_last ∙ none in
            let both : Some node ≡ Some later = sym (at_last slots (Some node) None) ∙ ap (in_slot more) (sym same) ∙ at in
            let node_is : node ≡ later = cc in
            record {
              earlier = omega (arith, holder_is);
              free = subst (λ n. IsFreeOf more n k later) (sym holder_is) (subst (λ n. IsFreeOf more n k later) none (subst (λ j. IsFreeOf more holder j later) (sym same) (free_more holder (length slots) k later (omega arith) (subst (IsFreeOf slots holder (length slots)) node_is free))));
              held = λ p e. absurd (omega (arith, holder_is, e));
            }
        each_ready k later at (inr (inr past)) = let no : in_slot more k ≡ None = past_more k past in absurd (cc)

        offered_more : (k : ℕ) → IsOffered slots holders k → IsOffered more named k
        offered_more k o = let lt : k < length slots = in_slot_within slots k o.node o.at in record { node = o.node; at = below_last slots (Some node) None k lt ∙ o.at; free = named_below k lt ∙ o.free }

        all_ready : (k : ℕ) (later : WaitingNode) → in_slot more k ≡ Some later → get_or named k 0 ≡ 0 → (k < length slots) ⊎ ((k ≡ length slots) ⊎ (length slots < k)) → Has ready' k
        all_ready k later at free_k (inl lt) = (holds k).1 (inr (kept.all k later (sym (below_last slots (Some node) None k lt) ∙ at) (sym (named_below k lt) ∙ free_k)))
        all_ready k later at free_k (inr (inl same)) = (holds k).1 (inl same)
        all_ready k later at free_k (inr (inr past)) = let no : in_slot more k ≡ None = past_more k past in absurd (cc)

    -- it waits for another
    pub pushed_behind : length ends' ≡ length slots + 1 → (p : ℕ) → holder ≡ suc p → edge_from (in_slot slots p) node ≡ true → length slots < get_or ends' p 0 → IsWatched more named ends' ready 0 0 0
    pushed_behind size p is waits seen = record {
      holders_size = length-append holders (holder ∷ []) ∙ ap (λ n. n + 1) kept.holders_size ∙ sym more_size;
      ends_size = size ∙ sym more_size;
      each = λ k later at. each_behind k later at (where_is k).cases;
      empty = empty_more;
      rises = kept.rises;
      offered = λ k h. let o = kept.offered k h in let lt : k < length slots = in_slot_within slots k o.node o.at in record { node = o.node; at = below_last slots (Some node) None k lt ∙ o.at; free = named_below k lt ∙ o.free };
      all = λ k later at free_k. all_behind k later at free_k (where_is k).cases;
    }
      where
        each_behind : (k : ℕ) (later : WaitingNode) → in_slot more k ≡ Some later → (k < length slots) ⊎ ((k ≡ length slots) ⊎ (length slots < k)) → IsHeld more named ends' 0 0 0 k later
        each_behind k later at (inl lt) = held_more k later lt at
        each_behind k later at (inr (inl same)) =
            let holder_is : get_or named k 0 ≡ holder = ap (λ j. get_or named j 0) same ∙ named_last in
            let both : Some node ≡ Some later = sym (at_last slots (Some node) None) ∙ ap (in_slot more) (sym same) ∙ at in
            let node_is : node ≡ later = cc in
            record {
              earlier = omega (arith, holder_is, within, same);
              free = subst (λ n. IsFreeOf more n k later) (sym holder_is) (subst (λ j. IsFreeOf more holder j later) (sym same) (free_more holder (length slots) k later (omega arith) (subst (IsFreeOf slots holder (length slots)) node_is free)));
              held = λ q e. let q_is : p ≡ q = omega (arith, is, holder_is, e) in inl (record {
                waits = subst (λ j. edge_from (in_slot more j) later ≡ true) q_is (ap (λ s. edge_from s later) (below_last slots (Some node) None p (omega (arith, is, within))) ∙ subst (λ z. edge_from (in_slot slots p) z ≡ true) node_is waits);
                seen = subst (λ j. k < get_or ends' j 0) q_is (omega (arith, same, seen));
              });
            }
        each_behind k later at (inr (inr past)) = let no : in_slot more k ≡ None = past_more k past in absurd (cc)

        all_behind : (k : ℕ) (later : WaitingNode) → in_slot more k ≡ Some later → get_or named k 0 ≡ 0 → (k < length slots) ⊎ ((k ≡ length slots) ⊎ (length slots < k)) → Has ready k
        all_behind k later at free_k (inl lt) = kept.all k later (sym (below_last slots (Some node) None k lt) ∙ at) (sym (named_below k lt) ∙ free_k)
        all_behind k later at free_k (inr (inl same)) = let e : get_or named k 0 ≡ holder = ap (λ j. get_or named j 0) same ∙ named_last in absurd (omega (arith, e, is, free_k))
        all_behind k later at free_k (inr (inr past)) = let no : in_slot more k ≡ None = past_more k past in absurd (cc)

-- Where the slots that are held by another begin

-- a slot gets another holder
pub starts_moved : (holders starts starts' : List ℕ) (i holder : ℕ) → AreStarts holders starts → i < length holders → length starts' ≡ length starts → ((p : ℕ) → get_or starts' p 0 ≤ get_or starts p 0)
    → ((p : ℕ) → holder ≡ suc p → (p < length starts) × (get_or starts' p 0 ≤ i)) → AreStarts (set holders i holder) starts'
starts_moved holders starts starts' i holder has inside size lowered here = record {
  size = size ∙ has.size ∙ sym (length-set holders i holder);
  low = λ k p e. elim (cases_eq k i) [
    | inl same ↦
        let held : holder ≡ suc p = sym (ap (λ j. get_or (set holders i holder) j 0) same ∙ get_or-set_same holders i holder 0 inside) ∙ e in
        let both = here p held in (omega (arith, both.0, size), omega (arith, both.1, same))
    | inr ne ↦
        let old = has.low k p (sym (get_or-set_other holders i k holder 0 ne) ∙ e) in
        let less = lowered p in (omega (arith, old.0, size), omega (arith, old.1, less))
  ];
}

-- one more slot
pub starts_pushed : (holders starts starts' : List ℕ) (holder m : ℕ) → AreStarts holders starts → length starts' ≡ length starts + 1 → ((p : ℕ) → get_or starts' p 0 ≤ get_or (starts ++ m ∷ []) p 0)
    → ((p : ℕ) → holder ≡ suc p → (p < length starts + 1) × (get_or starts' p 0 ≤ length holders)) → AreStarts (holders ++ holder ∷ []) starts'
starts_pushed holders starts starts' holder m has size lowered here = record {
  size = size ∙ ap (λ n. n + 1) has.size ∙ sym (length-append holders (holder ∷ []));
  low = λ k p e. elim (cases_lt k (length holders)) [
    | inl below ↦
        let old = has.low k p (sym (get_or_append_left holders (holder ∷ []) 0 k below) ∙ e) in
        let less = lowered p in
        let same : get_or (starts ++ m ∷ []) p 0 ≡ get_or starts p 0 = get_or_append_left starts (m ∷ []) 0 p old.0 in (omega (arith, old.0, size), omega (arith, old.1, less, same))
    | inr past ↦ elim (cases_eq k (length holders)) [
      | inl same ↦
          let held : holder ≡ suc p = sym (ap (λ j. get_or (holders ++ holder ∷ []) j 0) same ∙ at_last holders holder 0) ∙ e in
          let both = here p held in (omega (arith, both.0, size), omega (arith, both.1, same))
      | inr ne ↦
          let none : get_or (holders ++ holder ∷ []) k 0 ≡ 0 = past_end (holders ++ holder ∷ []) k (let longer = length-append holders (holder ∷ []) in omega (arith, longer, past, ne)) in
          absurd (omega (arith, none, e))
    ]
  ];
}

-- no slot before the start is held by the one that ran
pub watched_later : (slots : List (Option WaitingNode)) (holders starts ends ready : List ℕ) (gone end start : ℕ) → IsWatched slots holders ends ready gone (gone + 1) end → AreStarts holders starts
    → ((k : ℕ) → get_or starts gone 0 ≤ k → gone + 1 ≤ k → start ≤ k) → IsWatched slots holders ends ready gone start end
watched_later slots holders starts ends ready gone end start kept has from = record {
  holders_size = kept.holders_size;
  ends_size = kept.ends_size;
  each = λ k later at. let h = kept.each k later at in record {
    earlier = h.earlier;
    free = h.free;
    held = λ p e. elim (h.held p e) [
      | inl behind ↦ inl behind
      | inr left ↦
          let low = has.low k p e in
          let first : get_or starts gone 0 ≤ k = subst (λ j. get_or starts j 0 ≤ k) left.is low.1 in
          inr (record { is = left.is; after = from k first left.after; before = left.before })
    ];
  };
  empty = kept.empty;
  rises = kept.rises;
  offered = kept.offered;
  all = kept.all;
}
