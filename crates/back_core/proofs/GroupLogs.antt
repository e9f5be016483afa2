-- The own logs of groups beside a plan: the plan has for each group a list that can replace its own log.
use Rattle.std.proofs.Common.{◌≡◌, ℕ, ◌==◌, true, false, cond, List, [], ◌∷◌, ◌++◌, refl, sym, ap, ◌∙◌, subst, inl, inr, eq-eqb}
use Rattle.std.specs.Prelude.{◌⊎◌}
use Rattle.std.specs.List.{filter}
use Rattle.std.proofs.lemmas.Bool.{cases_eq, cond-true, cond-false, ne_eqb}
use Rattle.std.proofs.lemmas.List.{append-nil}
use Rattle.std.proofs.lemmas.List.Elements.{filter_map-append}
use Rattle.vk_types.specs.declared.ops.Node.{Node}
use Rattle.vk_model.specs.Log.{Item, Command, HostWrite, commands, touches_object, IsOneQueue}
use Rattle.vk_model.specs.Queues.{in_group, group_list, IsInOneGroup, HasGroups}
use Rattle.back_core.proofs.Each.{Each, Each-nil, Each-cons, Each-append, Each-left, Each-right, Each-map, Each-weaker, Each-filter}
use Rattle.back_core.proofs.Replacing.{CanReplace, itself, through, longer, all_passed}
use Rattle.back_core.proofs.Grouped.{BelongsTo, is_of, group_list-nodes, group_list-own, group_list-other, group_list-write_own, group_list-write_other}

-- a command is for the one queue, and touches objects of one group
abbrev IsPlanned : (ℕ → ℕ) → Item → Type 0
IsPlanned group_of x = (q : ℕ) (n : Node) → x ≡ Command q n → (q ≡ 0) × IsInOneGroup group_of n

pub record IsGrouped (group_of : ℕ → ℕ) (own : ℕ → List Item) (plan : List Item) : Type 0 where
  pub replaces : (g : ℕ) → CanReplace (own g) (group_list group_of g plan)
  pub planned : Each (IsPlanned group_of) plan

pub one_queue : (group_of : ℕ → ℕ) (own : ℕ → List Item) (plan : List Item) → IsGrouped group_of own plan → IsOneQueue plan
one_queue group_of own plan grouped k q n at = (grouped.planned k (Command q n) at q n refl).0

pub has_groups : (group_of : ℕ → ℕ) (own : ℕ → List Item) (plan : List Item) → IsGrouped group_of own plan → HasGroups group_of plan
has_groups group_of own plan grouped k q n at = (grouped.planned k (Command q n) at q n refl).1

pub grouped-same : (group_of : ℕ → ℕ) (own own' : ℕ → List Item) (plan plan' : List Item) → ((g : ℕ) → own' g ≡ own g) → plan' ≡ plan → IsGrouped group_of own plan → IsGrouped group_of own' plan'
grouped-same group_of own own' plan plan' same_own same grouped = record {
  replaces = λ g. subst (λ l. CanReplace l (group_list group_of g plan')) (sym (same_own g)) (subst (λ l. CanReplace (own g) (group_list group_of g l)) (sym same) (grouped.replaces g));
  planned = subst (Each (IsPlanned group_of)) (sym same) grouped.planned;
}

pub grouped-nil : (group_of : ℕ → ℕ) → IsGrouped group_of (λ g. []) []
grouped-nil group_of = record { replaces = λ g. itself []; planned = Each-nil (IsPlanned group_of) }

-- A batch of one group at the end
module _ (group_of : ℕ → ℕ) (own : ℕ → List Item) (plan : List Item) (grouped : IsGrouped group_of own plan) (group : ℕ) (ns : List Node) (belong : Each (BelongsTo group_of group) ns) where
  batch_planned : Each (IsPlanned group_of) (commands 0 ns)
  batch_planned = Each-map (IsPlanned group_of) (Command 0) ns (Each-weaker (BelongsTo group_of group) (λ n. IsPlanned group_of (Command 0 n)) ns planned belong)
    where
      planned : (n : Node) → BelongsTo group_of group n → IsPlanned group_of (Command 0 n)
      planned n belongs q m is =
          let same : n ≡ m = cc in
          let queue : q ≡ 0 = cc in
          (queue, λ i j ti tj. belongs i (subst (λ z. touches_object z i ≡ true) (sym same) ti) ∙ sym (belongs j (subst (λ z. touches_object z j ≡ true) (sym same) tj)))

  batch_replaces : (g : ℕ) → (group ≡ g) ⊎ (group ≡ g → ⊥) → CanReplace (own g ++ cond (group == g) (commands 0 ns) []) (group_list group_of g plan ++ group_list group_of g (commands 0 ns))
  batch_replaces g (inl same) =
      subst (λ l. CanReplace (own g ++ l) (group_list group_of g plan ++ group_list group_of g (commands 0 ns))) (sym (cond-true (group == g) (commands 0 ns) [] (eq-eqb group g same)))
      (subst (λ l. CanReplace (own g ++ commands 0 ns) (group_list group_of g plan ++ l)) (sym (group_list-own group_of g ns (subst (λ f. Each (BelongsTo group_of f) ns) same belong)))
      (longer (own g) (group_list group_of g plan) (commands 0 ns) (grouped.replaces g)))
  batch_replaces g (inr differs) =
      subst (λ l. CanReplace (own g ++ l) (group_list group_of g plan ++ group_list group_of g (commands 0 ns))) (sym (cond-false (group == g) (commands 0 ns) [] (ne_eqb group g differs)))
      (subst (λ l. CanReplace (own g ++ []) (group_list group_of g plan ++ l)) (sym (group_list-other group_of g group ns belong differs))
      (longer (own g) (group_list group_of g plan) [] (grouped.replaces g)))

  pub grouped-batch : IsGrouped group_of (λ g. own g ++ cond (group == g) (commands 0 ns) []) (plan ++ commands 0 ns)
  grouped-batch = record {
    replaces = λ g. subst (CanReplace (own g ++ cond (group == g) (commands 0 ns) [])) (sym (filter_map-append (in_group group_of g) plan (commands 0 ns))) (batch_replaces g (cases_eq group g));
    planned = Each-append (IsPlanned group_of) plan (commands 0 ns) grouped.planned batch_planned;
  }

-- A write by the host, before nodes that do not touch its object
module _ (group_of : ℕ → ℕ) (own : ℕ → List Item) (front : List Item) (ns : List Node) (grouped : IsGrouped group_of own (front ++ commands 0 ns)) (id at : ℕ) (bytes : List ℕ) (untouched : Each (λ n. touches_object n id ≡ false) ns) where
  -- the group's list of the plan so far
  abbrev list : ℕ → List Item
  list g = group_list group_of g front ++ commands 0 (filter (is_of group_of g) ns)

  list_is : (g : ℕ) → group_list group_of g (front ++ commands 0 ns) ≡ list g
  list_is g = filter_map-append (in_group group_of g) front (commands 0 ns) ∙ ap (λ l. group_list group_of g front ++ l) (group_list-nodes group_of g ns)

  before : (g : ℕ) → CanReplace (own g) (list g)
  before g = subst (CanReplace (own g)) (list_is g) (grouped.replaces g)

  write_replaces : (g : ℕ) → (group_of id ≡ g) ⊎ (group_of id ≡ g → ⊥) → CanReplace (own g ++ cond (group_of id == g) (HostWrite id at bytes ∷ []) []) (group_list group_of g front ++ group_list group_of g (HostWrite id at bytes ∷ commands 0 ns))
  write_replaces g (inl same) =
      subst (λ l. CanReplace (own g ++ l) (group_list group_of g front ++ group_list group_of g (HostWrite id at bytes ∷ commands 0 ns))) (sym (cond-true (group_of id == g) (HostWrite id at bytes ∷ []) [] (eq-eqb (group_of id) g same)))
      (subst (λ l. CanReplace (own g ++ HostWrite id at bytes ∷ []) (group_list group_of g front ++ l)) (sym (group_list-write_own group_of g id at bytes (commands 0 ns) same ∙ ap (λ l. HostWrite id at bytes ∷ l) (group_list-nodes group_of g ns)))
      (through (own g ++ HostWrite id at bytes ∷ []) (list g ++ HostWrite id at bytes ∷ []) (group_list group_of g front ++ HostWrite id at bytes ∷ commands 0 (filter (is_of group_of g) ns))
      (longer (own g) (list g) (HostWrite id at bytes ∷ []) (before g))
      (all_passed id at bytes (group_list group_of g front) (filter (is_of group_of g) ns) (Each-filter (λ n. touches_object n id ≡ false) (is_of group_of g) ns untouched))))
  write_replaces g (inr differs) =
      subst (λ l. CanReplace (own g ++ l) (group_list group_of g front ++ group_list group_of g (HostWrite id at bytes ∷ commands 0 ns))) (sym (cond-false (group_of id == g) (HostWrite id at bytes ∷ []) [] (ne_eqb (group_of id) g differs)))
      (subst (λ l. CanReplace (own g ++ []) (group_list group_of g front ++ l)) (sym (group_list-write_other group_of g id at bytes (commands 0 ns) differs ∙ group_list-nodes group_of g ns))
      (subst (λ l. CanReplace l (list g)) (sym (append-nil (own g))) (before g)))

  write_planned : IsPlanned group_of (HostWrite id at bytes)
  write_planned q n is = absurd (no_command is)
    where
      no_command : HostWrite id at bytes ≡ Command q n → ⊥
      no_command is = cc

  pub grouped-write : IsGrouped group_of (λ g. own g ++ cond (group_of id == g) (HostWrite id at bytes ∷ []) []) (front ++ HostWrite id at bytes ∷ commands 0 ns)
  grouped-write = record {
    replaces = λ g. subst (CanReplace (own g ++ cond (group_of id == g) (HostWrite id at bytes ∷ []) [])) (sym (filter_map-append (in_group group_of g) front (HostWrite id at bytes ∷ commands 0 ns))) (write_replaces g (cases_eq (group_of id) g));
    planned = Each-append (IsPlanned group_of) front (HostWrite id at bytes ∷ commands 0 ns)
        (Each-left (IsPlanned group_of) front (commands 0 ns) grouped.planned)
        (Each-cons (IsPlanned group_of) (HostWrite id at bytes) (commands 0 ns) write_planned (Each-right (IsPlanned group_of) front (commands 0 ns) grouped.planned));
  }
