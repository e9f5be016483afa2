-- Slots that are filed in buckets.
use Rattle.std.proofs.Common.{◌≡◌, ℕ, ◌+◌, ◌<◌, ◌≤◌, List, [], ◌∷◌, ◌++◌, length, get_or, set, Bool, true, false, cond, eqb, refl, sym, ◌∙◌, ap, subst, arith, inl, inr}
use Rattle.std.specs.Prelude.{◌⊎◌, ◌%◌, ◌||◌, Option, Some, None, is_some}
use Rattle.std.proofs.lemmas.Bool.{cases_Bool, cases_eq, cases_lt, eqb-true, eqb-false, cond-true, cond-false, and_right, false≢true}
use Rattle.std.proofs.lemmas.List.{length-set, get_or-set_same, get_or-set_other, get_or_append_left, length-append}
use Rattle.vk_types.specs.declared.regions.Barrier.{Barrier}
use Rattle.vk_types.specs.Touches.{barrier_of}
use Rattle.vk_model.specs.Log.{touches_object, waits_for, holds_back, chained, node_edge}
use Rattle.vk_ready.specs.declared.nodes.WaitingNode.{WaitingNode}
use Rattle.vk_ready.specs.declared.links.Filed.{Filed}
use Rattle.vk_ready.specs.Slots.{in_slot, edge_from}
use Rattle.vk_ready.specs.Filing.{nowhere, filed_at, IsIn, IsPlain, IsPassed, IsLast, link_in, AreLinked, AreChained, IsFiled, AreAllFiled, AreFiled}
use Rattle.vk_ready.proofs.Sharing.{Share, edge_shares}
use Rattle.vk_ready.proofs.Watching.{in_slot_past, in_slot_within, emptied, emptied_there}

pub at_end : {X : Type 0} (xs : List X) (x d : X) → get_or (xs ++ x ∷ []) (length xs) d ≡ x
at_end [] x d = refl
at_end (y ∷ xs) x d = at_end xs x d

-- Slots that are passed over

plain_free : (s : Option WaitingNode) (later : WaitingNode) → barrier_of later.command ≡ None → IsPlain s → edge_from s later ≡ false
plain_free None later none plain = refl
plain_free (Some x) later none plain =
    let no_edge : node_edge x.command later.command ≡ false =
    ap (λ o. waits_for x.command o || holds_back (barrier_of x.command) later.command || chained (barrier_of x.command) o) none
    ∙ ap (λ o. waits_for x.command None || holds_back o later.command || chained o None) plain in
    and_right (eqb x.queue later.queue) (node_edge x.command later.command) no_edge

-- a slot that is passed over has no edge to the later node
pub passed_free : (b : Bool) (s : Option WaitingNode) (later : WaitingNode) → (b ≡ true → barrier_of later.command ≡ None) → IsPassed b s → edge_from s later ≡ false
passed_free false s later none passed = absurd passed
passed_free true s later none passed = plain_free s later (none refl) passed

pub no_barrier : (o : Option Barrier) → is_some o ≡ false → o ≡ None
no_barrier None e = refl
no_barrier (Some x) e = absurd (false≢true (sym e))

passed_emptied : (b : Bool) (slots : List (Option WaitingNode)) (g k : ℕ) → IsPassed b (in_slot slots k) → IsPassed b (in_slot (set slots g None) k)
passed_emptied false slots g k passed = absurd passed
passed_emptied true slots g k passed = elim (cases_eq k g) [
  | inl same ↦ let none : in_slot (set slots g None) k ≡ None = ap (in_slot (set slots g None)) same ∙ emptied slots g in subst IsPlain (sym none) tt
  | inr ne ↦ subst IsPlain (sym (emptied_there slots g k ne)) passed
]

passed_before : (b : Bool) (slots : List (Option WaitingNode)) (s : Option WaitingNode) (k : ℕ) → IsPassed b (in_slot (slots ++ s ∷ []) k) → IsPassed b (in_slot slots k)
passed_before false slots s k passed = absurd passed
passed_before true slots s k passed = elim (cases_lt k (length slots)) [
  | inl lt ↦ subst IsPlain (get_or_append_left slots (s ∷ []) None k lt) passed
  | inr past ↦ subst IsPlain (sym (in_slot_past slots k past)) tt
]

-- the links hold without the last slot
pub linked_before : (b : Bool) (slots : List (Option WaitingNode)) (s : Option WaitingNode) (filed : List Filed) → AreLinked b (slots ++ s ∷ []) filed → AreLinked b slots filed
linked_before b slots s filed linked k bucket lt h = let l = linked k bucket lt h in record {
  inside = l.inside;
  has = l.has;
  none = λ j from to at. passed_before b slots s j (l.none j from to at);
}

pub both_linked : (slots : List (Option WaitingNode)) (heads barriers : List ℕ) (filed : List Filed) → AreFiled slots heads barriers filed → (b : Bool) → AreLinked b slots filed
both_linked slots heads barriers filed has false = has.every.linked
both_linked slots heads barriers filed has true = has.barriers_alone.linked

-- the node of a slot ran
last_emptied : (b : Bool) (slots : List (Option WaitingNode)) (filed : List Filed) (g bucket end link : ℕ) → IsLast b slots filed bucket end link → IsLast b (set slots g None) filed bucket end link
last_emptied b slots filed g bucket end link l = record { inside = l.inside; has = l.has; none = λ k from to h. passed_emptied b slots g k (l.none k from to h) }

chained_emptied : (b : Bool) (slots : List (Option WaitingNode)) (heads : List ℕ) (filed : List Filed) (g : ℕ) → AreChained b slots heads filed → AreChained b (set slots g None) heads filed
chained_emptied b slots heads filed g has = record {
  heads_are = λ bucket lt. last_emptied b slots filed g bucket (length filed) (get_or heads bucket 0) (has.heads_are bucket lt);
  linked = λ k bucket lt h. last_emptied b slots filed g bucket k (link_in b (filed_at filed k) bucket) (has.linked k bucket lt h);
}

pub filed_emptied : (slots : List (Option WaitingNode)) (heads barriers : List ℕ) (filed : List Filed) (g : ℕ) → AreFiled slots heads barriers filed → AreFiled (set slots g None) heads barriers filed
filed_emptied slots heads barriers filed g has = record {
  size = has.size ∙ sym (length-set slots g None);
  heads_size = has.heads_size;
  every = chained_emptied false slots heads filed g has.every;
  barriers_alone = chained_emptied true slots barriers filed g has.barriers_alone;
  all = λ k x at. elim (cases_eq k g) [
    | inl same ↦ let none : in_slot (set slots g None) k ≡ None = ap (in_slot (set slots g None)) same ∙ emptied slots g in absurd (let no : ◌≡◌ {A = Option WaitingNode} None (Some x) = sym none ∙ at in cc)
    | inr ne ↦ has.all k x (sym (emptied_there slots g k ne) ∙ at)
  ];
}

-- One more slot

-- one of two links, as two entries of a list
link_is : (heads : List ℕ) (first second one other bucket : ℕ) → one ≡ get_or heads first 0 → other ≡ get_or heads second 0 → (bucket ≡ first) ⊎ (bucket ≡ second) → cond (eqb first bucket) one other ≡ get_or heads bucket 0
link_is heads first second one other bucket one_is other_is h = elim (cases_Bool (eqb first bucket)) [
  | inl is_it ↦ cond-true (eqb first bucket) one other is_it ∙ one_is ∙ ap (λ b. get_or heads b 0) (eqb-true first bucket is_it)
  | inr is_not ↦
      let same : second ≡ bucket = elim h [ inl e ↦ absurd (eqb-false first bucket is_not (sym e)) | inr e ↦ sym e ] in
      cond-false (eqb first bucket) one other is_not ∙ other_is ∙ ap (λ b. get_or heads b 0) same
]

module _ (filed : List Filed) (f : Filed) where
  abbrev more : List Filed
  more = filed ++ f ∷ []

  longer : length more ≡ length filed + 1
  longer = length-append filed (f ∷ [])

  at_below : (k : ℕ) → k < length filed → filed_at more k ≡ filed_at filed k
  at_below k lt = get_or_append_left filed (f ∷ []) nowhere k lt

  at_last : filed_at more (length filed) ≡ f
  at_last = at_end filed f nowhere

  in_old : (k bucket : ℕ) → k < length filed → IsIn more k bucket → IsIn filed k bucket
  in_old k bucket lt h = subst (λ (g : Filed). (bucket ≡ g.first) ⊎ (bucket ≡ g.second)) (at_below k lt) h

  in_more : (k bucket : ℕ) → k < length filed → IsIn filed k bucket → IsIn more k bucket
  in_more k bucket lt h = subst (λ (g : Filed). (bucket ≡ g.first) ⊎ (bucket ≡ g.second)) (sym (at_below k lt)) h

  in_last : (bucket : ℕ) → (bucket ≡ f.first) ⊎ (bucket ≡ f.second) → IsIn more (length filed) bucket
  in_last bucket h = subst (λ (g : Filed). (bucket ≡ g.first) ⊎ (bucket ≡ g.second)) (sym at_last) h

  last_in : (bucket : ℕ) → IsIn more (length filed) bucket → (bucket ≡ f.first) ⊎ (bucket ≡ f.second)
  last_in bucket h = subst (λ (g : Filed). (bucket ≡ g.first) ⊎ (bucket ≡ g.second)) at_last h

  module _ (slots : List (Option WaitingNode)) (node : WaitingNode) (size : length filed ≡ length slots) where
    abbrev all_slots : List (Option WaitingNode)
    all_slots = slots ++ Some node ∷ []

    slot_below : (k : ℕ) → k < length filed → in_slot all_slots k ≡ in_slot slots k
    slot_below k lt = get_or_append_left slots (Some node ∷ []) None k (omega (arith, size, lt))

    slot_last : in_slot all_slots (length filed) ≡ Some node
    slot_last = ap (in_slot all_slots) size ∙ at_end slots (Some node) None

    module _ (b : Bool) where
      last_below : (bucket end link : ℕ) → end ≤ length filed → IsLast b slots filed bucket end link → IsLast b all_slots more bucket end link
      last_below bucket end link le l = record {
        inside = l.inside;
        has = λ k e. let inside = l.inside in in_more k bucket (omega (arith, e, inside, le)) (l.has k e);
        none = λ k from lt h. subst (IsPassed b) (sym (slot_below k (omega (arith, lt, le)))) (l.none k from lt (in_old k bucket (omega (arith, lt, le)) h));
      }

      -- the new slot is the last one of its buckets
      last_here : (bucket : ℕ) → (bucket ≡ f.first) ⊎ (bucket ≡ f.second) → IsLast b all_slots more bucket (length more) (length filed + 1)
      last_here bucket h = record {
        inside = omega (arith, longer);
        has = λ k e. let same : length filed ≡ k = omega (arith, e) in subst (λ j. IsIn more j bucket) same (in_last bucket h);
        none = λ k from lt h. absurd (omega (arith, from, lt, longer));
      }

      -- and not where it is passed over, or of any other
      last_stays : (bucket link : ℕ) → (IsIn more (length filed) bucket → IsPassed b (Some node)) → IsLast b slots filed bucket (length filed) link → IsLast b all_slots more bucket (length more) link
      last_stays bucket link passed l = record {
        inside = let inside = l.inside in omega (arith, longer, inside);
        has = λ k e. let inside = l.inside in in_more k bucket (omega (arith, e, inside)) (l.has k e);
        none = λ k from lt h. elim (cases_lt k (length filed)) [
          | inl below ↦ subst (IsPassed b) (sym (slot_below k below)) (l.none k from below (in_old k bucket below h))
          | inr past ↦
              let same : k ≡ length filed = omega (arith, past, lt, longer) in
              subst (λ j. IsPassed b (in_slot all_slots j)) (sym same) (subst (IsPassed b) (sym slot_last) (passed (subst (λ j. IsIn more j bucket) same h)))
        ];
      }

      module _ (heads : List ℕ) (has : AreChained b slots heads filed) (first_in : f.first < length heads) (second_in : f.second < length heads)
          (links : (bucket : ℕ) → (bucket ≡ f.first) ⊎ (bucket ≡ f.second) → link_in b f bucket ≡ get_or heads bucket 0) where
        abbrev named : List ℕ
        named = set (set heads f.first (length filed + 1)) f.second (length filed + 1)

        pub named_size : length named ≡ length heads
        named_size = length-set (set heads f.first (length filed + 1)) f.second (length filed + 1) ∙ length-set heads f.first (length filed + 1)

        heads_more : (bucket : ℕ) → bucket < length heads → IsLast b all_slots more bucket (length more) (get_or named bucket 0)
        heads_more bucket lt = elim (cases_eq bucket f.second) [
          | inl same ↦
              let is : get_or named bucket 0 ≡ length filed + 1 = ap (λ k. get_or named k 0) same ∙ get_or-set_same (set heads f.first (length filed + 1)) f.second (length filed + 1) 0 (let size' = length-set heads f.first (length filed + 1) in omega (arith, size', second_in)) in
              subst (IsLast b all_slots more bucket (length more)) (sym is) (last_here bucket (inr same))
          | inr ne ↦
              let beside : get_or named bucket 0 ≡ get_or (set heads f.first (length filed + 1)) bucket 0 = get_or-set_other (set heads f.first (length filed + 1)) f.second bucket (length filed + 1) 0 ne in
              elim (cases_eq bucket f.first) [
                | inl same ↦
                    let is : get_or named bucket 0 ≡ length filed + 1 = beside ∙ ap (λ k. get_or (set heads f.first (length filed + 1)) k 0) same ∙ get_or-set_same heads f.first (length filed + 1) 0 first_in in
                    subst (IsLast b all_slots more bucket (length more)) (sym is) (last_here bucket (inl same))
                | inr other ↦
                    let is : get_or named bucket 0 ≡ get_or heads bucket 0 = beside ∙ get_or-set_other heads f.first bucket (length filed + 1) 0 other in
                    subst (IsLast b all_slots more bucket (length more)) (sym is)
                    (last_stays bucket (get_or heads bucket 0) (λ h. absurd (elim (last_in bucket h) [ inl e ↦ other e | inr e ↦ ne e ])) (has.heads_are bucket lt))
              ]
        ]

        linked_last : (bucket : ℕ) → (bucket ≡ f.first) ⊎ (bucket ≡ f.second) → IsLast b all_slots more bucket (length filed) (link_in b f bucket)
        linked_last bucket h =
            let inside : bucket < length heads = elim h [ inl e ↦ omega (arith, e, first_in) | inr e ↦ omega (arith, e, second_in) ] in
            subst (IsLast b all_slots more bucket (length filed)) (sym (links bucket h)) (last_below bucket (length filed) (get_or heads bucket 0) (omega arith) (has.heads_are bucket inside))

        linked_more : AreLinked b all_slots more
        linked_more k bucket lt h = elim (cases_lt k (length filed)) [
          | inl below ↦
              subst (λ (g : Filed). IsLast b all_slots more bucket k (link_in b g bucket)) (sym (at_below k below))
              (last_below bucket k (link_in b (filed_at filed k) bucket) (omega (arith, below)) (has.linked k bucket below (in_old k bucket below h)))
          | inr past ↦
              let same : k ≡ length filed = omega (arith, past, lt, longer) in
              subst (λ j. IsLast b all_slots more bucket j (link_in b (filed_at more j) bucket)) (sym same)
              (subst (λ (g : Filed). IsLast b all_slots more bucket (length filed) (link_in b g bucket)) (sym at_last) (linked_last bucket (last_in bucket (subst (λ j. IsIn more j bucket) same h))))
        ]

        -- the new slot is looked at
        chained_named : AreChained b all_slots named more
        chained_named = record {
          heads_are = λ bucket lt. heads_more bucket (subst (λ n. bucket < n) named_size lt);
          linked = linked_more;
        }

        -- it is passed over
        chained_passed : IsPassed b (Some node) → AreChained b all_slots heads more
        chained_passed passed = record {
          heads_are = λ bucket lt. last_stays bucket (get_or heads bucket 0) (λ _. passed) (has.heads_are bucket lt);
          linked = linked_more;
        }

  module _ (slots : List (Option WaitingNode)) (heads barriers : List ℕ) (has : AreFiled slots heads barriers filed) (first_in : f.first < length heads) (second_in : f.second < length heads)
      (first_before : f.first_before ≡ get_or heads f.first 0) (second_before : f.second_before ≡ get_or heads f.second 0)
      (first_barrier : f.first_barrier ≡ get_or barriers f.first 0) (second_barrier : f.second_barrier ≡ get_or barriers f.second 0)
      (node : WaitingNode) (one other : ℕ) (first_is : f.first ≡ one % length heads) (second_is : f.second ≡ other % length heads)
      (touched : (id : ℕ) → touches_object node.command id ≡ true → (id ≡ one) ⊎ (id ≡ other)) where
    filed_last : IsFiled more (length heads) (length filed) node
    filed_last id t = in_last (id % length heads) (elim (touched id t) [
      | inl e ↦ inl (ap (λ i. i % length heads) e ∙ sym first_is)
      | inr e ↦ inr (ap (λ i. i % length heads) e ∙ sym second_is)
    ])

    all_more : (k : ℕ) (x : WaitingNode) → in_slot (slots ++ Some node ∷ []) k ≡ Some x → IsFiled more (length heads) k x
    all_more k x at = elim (cases_lt k (length slots)) [
      | inl below ↦
          let old : in_slot slots k ≡ Some x = sym (get_or_append_left slots (Some node ∷ []) None k below) ∙ at in
          let size = has.size in
          λ id t. in_more k (id % length heads) (omega (arith, size, below)) (has.all k x old id t)
      | inr past ↦
          let within : k < length (slots ++ Some node ∷ []) = in_slot_within (slots ++ Some node ∷ []) k x at in
          let long = length-append slots (Some node ∷ []) in
          let same : k ≡ length slots = omega (arith, past, within, long) in
          let both : Some node ≡ Some x = sym (at_end slots (Some node) None) ∙ ap (in_slot (slots ++ Some node ∷ [])) (sym same) ∙ at in
          let node_is : node ≡ x = cc in
          let place : length filed ≡ k = has.size ∙ sym same in
          subst (λ j. IsFiled more (length heads) j x) place (subst (IsFiled more (length heads) (length filed)) node_is filed_last)
    ]

    before_links : (bucket : ℕ) → (bucket ≡ f.first) ⊎ (bucket ≡ f.second) → link_in false f bucket ≡ get_or heads bucket 0
    before_links bucket h = link_is heads f.first f.second f.first_before f.second_before bucket first_before second_before h

    barrier_links : (bucket : ℕ) → (bucket ≡ f.first) ⊎ (bucket ≡ f.second) → link_in true f bucket ≡ get_or barriers bucket 0
    barrier_links bucket h = link_is barriers f.first f.second f.first_barrier f.second_barrier bucket first_barrier second_barrier h

    abbrev heads' : List ℕ
    heads' = set (set heads f.first (length filed + 1)) f.second (length filed + 1)

    abbrev barriers' : List ℕ
    barriers' = set (set barriers f.first (length filed + 1)) f.second (length filed + 1)

    heads_size' : length heads' ≡ length heads
    heads_size' = length-set (set heads f.first (length filed + 1)) f.second (length filed + 1) ∙ length-set heads f.first (length filed + 1)

    barriers_size' : length barriers' ≡ length barriers
    barriers_size' = length-set (set barriers f.first (length filed + 1)) f.second (length filed + 1) ∙ length-set barriers f.first (length filed + 1)

    barriers_first : f.first < length barriers
    barriers_first = let size = has.heads_size in omega (arith, size, first_in)

    barriers_second : f.second < length barriers
    barriers_second = let size = has.heads_size in omega (arith, size, second_in)

    -- a barrier
    pub filed_barrier : AreFiled (slots ++ Some node ∷ []) heads' barriers' more
    filed_barrier = record {
      size = longer ∙ ap (λ n. n + 1) has.size ∙ sym (length-append slots (Some node ∷ []));
      heads_size = barriers_size' ∙ has.heads_size ∙ sym heads_size';
      every = chained_named slots node has.size false heads has.every first_in second_in before_links;
      barriers_alone = chained_named slots node has.size true barriers has.barriers_alone barriers_first barriers_second barrier_links;
      all = λ k x at. subst (λ n. IsFiled more n k x) (sym heads_size') (all_more k x at);
    }

    -- no barrier
    pub filed_plain : barrier_of node.command ≡ None → AreFiled (slots ++ Some node ∷ []) heads' barriers more
    filed_plain none = record {
      size = longer ∙ ap (λ n. n + 1) has.size ∙ sym (length-append slots (Some node ∷ []));
      heads_size = has.heads_size ∙ sym heads_size';
      every = chained_named slots node has.size false heads has.every first_in second_in before_links;
      barriers_alone = chained_passed slots node has.size true barriers has.barriers_alone barriers_first barriers_second barrier_links none;
      all = λ k x at. subst (λ n. IsFiled more n k x) (sym heads_size') (all_more k x at);
    }

-- A slot with an edge to another shares a bucket with it.
module _ (slots : List (Option WaitingNode)) (filed : List Filed) (count slot : ℕ) (later : WaitingNode) (all : AreAllFiled slots filed count) (here : IsFiled filed count slot later) where
  pub shares_bucket : (k : ℕ) → edge_from (in_slot slots k) later ≡ true → IsIn filed k (filed_at filed slot).first ⊎ IsIn filed k (filed_at filed slot).second
  shares_bucket k e = go (in_slot slots k) refl e
    where
      go : (o : Option WaitingNode) → in_slot slots k ≡ o → edge_from o later ≡ true → IsIn filed k (filed_at filed slot).first ⊎ IsIn filed k (filed_at filed slot).second
      go None at e = absurd (false≢true e)
      go (Some x) at e =
          let s : Share x.command later.command = edge_shares x later e in
          let there : IsIn filed k (s.id % count) = all k x at s.id s.by_a in
          elim (here s.id s.by_b) [
            | inl is ↦ inl (subst (IsIn filed k) is there)
            | inr is ↦ inr (subst (IsIn filed k) is there)
          ]

  -- where no slot of either bucket has an edge, none has
  pub free_of_both : (k : ℕ) → (IsIn filed k (filed_at filed slot).first → edge_from (in_slot slots k) later ≡ false) → (IsIn filed k (filed_at filed slot).second → edge_from (in_slot slots k) later ≡ false) → edge_from (in_slot slots k) later ≡ false
  free_of_both k one other = elim (cases_Bool (edge_from (in_slot slots k) later)) [
    | inl e ↦ elim (shares_bucket k e) [ inl h ↦ one h | inr h ↦ other h ]
    | inr e ↦ e
  ]

-- the links of a slot
pub first_link : (b : Bool) (slots : List (Option WaitingNode)) (filed : List Filed) (slot : ℕ) → AreLinked b slots filed → slot < length filed → IsLast b slots filed (filed_at filed slot).first slot (link_in b (filed_at filed slot) (filed_at filed slot).first)
first_link b slots filed slot linked lt = linked slot (filed_at filed slot).first lt (inl refl)

pub second_link : (b : Bool) (slots : List (Option WaitingNode)) (filed : List Filed) (slot : ℕ) → AreLinked b slots filed → slot < length filed → IsLast b slots filed (filed_at filed slot).second slot (link_in b (filed_at filed slot) (filed_at filed slot).second)
second_link b slots filed slot linked lt = linked slot (filed_at filed slot).second lt (inr refl)
