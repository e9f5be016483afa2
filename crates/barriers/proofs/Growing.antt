-- A log grows by the barrier that is due, or by a node before which none is.
use Rattle.std.proofs.Common.{◌≡◌, ℕ, suc, ◌<◌, List, [], ◌∷◌, ◌++◌, length, Bool, true, false, cond, eqb, refl, sym, ◌∙◌, ap, subst, arith, inl, inr}
use Rattle.std.specs.Prelude.{◌≢◌, ◌⊎◌, ◌||◌, not, fold, All, Contains, Option, Some, None, slice_get, IfSome}
use Rattle.std.specs.List.{filter, list_any}
use Rattle.std.specs.Option.{option_map_or}
use Rattle.std.proofs.lemmas.Bool.{false≢true, both_ways, eqb-true, eq-eqb, not-false, or_left, or_parts, or_cases, false_from_ne_true}
use Rattle.std.proofs.lemmas.List.{append-nil}
use Rattle.std.proofs.lemmas.List.Elements.{All-nil, All-cons, All-head, All-push, All-weaker, All-contains_itself, filter-append}
use Rattle.std.proofs.lemmas.List.Folds.{list_any_at}
use Rattle.std.proofs.lemmas.List.Sums.{fold_push}
use Rattle.std.proofs.lemmas.Grind.{flat_map-append}
use Rattle.vk_types.specs.declared.accesses.Access.{Access}
use Rattle.vk_types.specs.declared.accesses.Layout.{Layout}
use Rattle.vk_types.specs.declared.accesses.Layout.TheVariants.{Undefined, TransferSrc, TransferDst, ColorAttachment}
use Rattle.vk_types.specs.declared.handles.HandleId.{HandleId}
use Rattle.vk_types.specs.declared.regions.Touch.{Touch}
use Rattle.vk_types.specs.declared.regions.Barrier.{Barrier}
use Rattle.vk_types.specs.declared.ops.Node.{Node}
use Rattle.vk_types.specs.Accesses.{no_access, host_read, in_common}
use Rattle.vk_types.specs.Touches.{touches, barrier_of, whole}
use Rattle.vk_model.specs.Log.{Item, Command, HostWrite, Wait, Signal, touches_object, touches_with, conflict_on, layout_after as layout_in, FindsLayouts, IsOneQueue}
use Rattle.vk_model.specs.Tracking.{IsLastBarrier, IsTracked, IsSince}
use Rattle.vk_model.proofs.Growth.{Last, place_cases}
use Rattle.vk_model.proofs.Clashes.{barrier_touches, none_is_some}
use Rattle.barriers.specs.Licence.{Use, Accessed, Fenced, barrier_after, accesses_after, last_barrier, since, union, is_empty, writes, layout_after, layout_now, first_layout, same_layout, changes_layout, is_licensed, waited_for, layouts_of, barrier_due}
use Rattle.barriers.specs.Logs.{joint_access, jointly, uses_by, uses_in, is_host_read, AreUsesIn}
use Rattle.barriers.proofs.Accesses.{meets_itself, union_meets}
use Rattle.barriers.proofs.Joint.{joint_meets, meets_turned, meets_union, joint_some, joint_by_device, apart}
use Rattle.barriers.proofs.Uses.{last_without_reads, layout_without_reads, since_without_reads, use_of_access, use_of_barrier, use_of_none, touches_barrier, last_found, access_found, IsLayout, layout_in_log}

-- What the uses tell of the log

module _ (log : List Item) (id : ℕ) (uses : List Use) (u : AreUsesIn log id uses) where
  -- the last barrier of the log is the last one of the uses
  pub last_is : (place : ℕ) (l : IsLastBarrier log id place) → last_barrier uses ≡ Some l.barrier
  last_is place l =
      sym (last_without_reads uses None)
      ∙ (ap (fold barrier_after None) u.without_reads
      ∙ last_found log place id l.queue l.node l.barrier None l.at l.is (touches_barrier l.node id l.barrier l.is ∙ or_left (eqb l.barrier.id.0 id) false (eq-eqb l.barrier.id.0 id l.of)) (λ k q a lt at on. (l.after k q a lt at on).0))

  pub since_device : (last : Option ℕ) → IsTracked log id last → (k q : ℕ) (a : Node) → IsSince last k → slice_get log k ≡ Some (Command q a) → touches_object a id ≡ true → barrier_of a ≡ None
  since_device None tracked k q a after at on = tracked k q a at on
  since_device (Some place) l k q a after at on = (l.after k q a after at on).0

  since_later : (last : Option ℕ) → (k j : ℕ) → IsSince last k → k < j → IsSince last j
  since_later None k j after lt = tt
  since_later (Some place) k j after lt = omega (arith, after, lt)

  -- a node since is an access since
  pub since_has : (last : Option ℕ) → IsTracked log id last → (k q : ℕ) (a : Node) → IsSince last k → slice_get log k ≡ Some (Command q a) → touches_object a id ≡ true → Contains (since uses) (joint_access a id)
  since_has last tracked k q a after at on =
      since_without_reads uses [] [] (λ b h. h) (joint_access a id)
      (subst (λ us. Contains (fold accesses_after [] us) (joint_access a id)) (sym u.without_reads)
      (access_found log k id q a [] at (since_device last tracked k q a after at on) on (λ j p b lt at' on'. since_device last tracked j p b (since_later last k j after lt) at' on')))

  pub layout_is : (is_image : Bool) → IsLayout (layout_now (first_layout is_image) uses) (layout_in log id)
  layout_is is_image = subst (λ o. IsLayout o (layout_in log id)) (ap (fold layout_after (first_layout is_image)) (sym u.without_reads) ∙ layout_without_reads uses (first_layout is_image)) (layout_in_log log id (first_layout is_image) Undefined (first is_image))
    where
      first : (b : Bool) → IsLayout (first_layout b) Undefined
      first true = refl
      first false = tt

-- The uses of a longer log

abbrev device : Use → Bool
device u = not (is_host_read u)

longer_uses : (log : List Item) (id : ℕ) (x : Item) → uses_in (log ++ x ∷ []) id ≡ uses_in log id ++ uses_by id x
longer_uses log id x = flat_map-append (uses_by id) log (x ∷ []) ∙ ap (λ us. uses_in log id ++ us) (append-nil (uses_by id x))

longer : (log : List Item) (id : ℕ) (uses : List Use) → AreUsesIn log id uses → (x : Item) (more : List Use) → filter device more ≡ uses_by id x → filter device (uses ++ more) ≡ uses_in (log ++ x ∷ []) id
longer log id uses u x more e =
    filter-append device uses more
    ∙ (ap (λ us. us ++ filter device more) u.without_reads
    ∙ (ap (λ us. uses_in log id ++ us) e
    ∙ sym (longer_uses log id x)))

pub longer_by_barrier : (log : List Item) (id : ℕ) (uses : List Use) → AreUsesIn log id uses → (x : Item) (barrier : Barrier) → uses_by id x ≡ Fenced barrier ∷ [] → barrier.second ≢ no_access → AreUsesIn (log ++ x ∷ []) id (uses ++ Fenced barrier ∷ [])
longer_by_barrier log id uses u x barrier is some = record {
  without_reads = longer log id uses u x (Fenced barrier ∷ []) (sym is);
  some = subst (λ o. IfSome o (λ b. b.second ≢ no_access)) (sym (fold_push barrier_after None uses (Fenced barrier))) some;
  let_through =
      subst (λ o. IfSome o (λ b. All (λ access. in_common access b.second ≡ true) (since (uses ++ Fenced barrier ∷ [])))) (sym (fold_push barrier_after None uses (Fenced barrier)))
      (subst (All (λ access. in_common access barrier.second ≡ true)) (sym (fold_push accesses_after [] uses (Fenced barrier))) (All-nil (λ access. in_common access barrier.second ≡ true)));
}

pub longer_by_access : (log : List Item) (id : ℕ) (uses : List Use) → AreUsesIn log id uses → (x : Item) (a : Access) → uses_by id x ≡ Accessed a ∷ [] → eqb a.0 host_read.0 ≡ false →
    IfSome (last_barrier uses) (λ b. in_common a b.second ≡ true) → AreUsesIn (log ++ x ∷ []) id (uses ++ Accessed a ∷ [])
longer_by_access log id uses u x a is device_s through = record {
  without_reads = longer log id uses u x (Accessed a ∷ []) (ap (λ b. cond (not b) (Accessed a ∷ []) []) device_s ∙ sym is);
  some = subst (λ o. IfSome o (λ b. b.second ≢ no_access)) (sym (fold_push barrier_after None uses (Accessed a))) u.some;
  let_through =
      subst (λ o. IfSome o (λ b. All (λ access. in_common access b.second ≡ true) (since (uses ++ Accessed a ∷ [])))) (sym (fold_push barrier_after None uses (Accessed a)))
      (subst (λ s. IfSome (last_barrier uses) (λ b. All (λ access. in_common access b.second ≡ true) s)) (sym (fold_push accesses_after [] uses (Accessed a))) (go (last_barrier uses) u.let_through through));
}
  where
    go : (o : Option Barrier) → IfSome o (λ b. All (λ access. in_common access b.second ≡ true) (since uses)) → IfSome o (λ b. in_common a b.second ≡ true) → IfSome o (λ b. All (λ access. in_common access b.second ≡ true) (since uses ++ a ∷ []))
    go None all one = tt
    go (Some b) all one = All-push (λ access. in_common access b.second ≡ true) (since uses) a all one

pub longer_by_other : (log : List Item) (id : ℕ) (uses : List Use) → AreUsesIn log id uses → (x : Item) → ((q : ℕ) (n : Node) → x ≡ Command q n → touches_object n id ≡ false) → AreUsesIn (log ++ x ∷ []) id uses
longer_by_other log id uses u x off = record {
  without_reads = u.without_reads ∙ (sym (append-nil (uses_in log id)) ∙ (ap (λ us. uses_in log id ++ us) (sym (go x off)) ∙ sym (longer_uses log id x)));
  some = u.some;
  let_through = u.let_through;
}
  where
    go : (x : Item) → ((q : ℕ) (n : Node) → x ≡ Command q n → touches_object n id ≡ false) → uses_by id x ≡ []
    go (Command q n) off = use_of_none q n id (off q n refl)
    go (HostWrite _ _ _) off = refl
    go (Wait _ _) off = refl
    go (Signal _ _) off = refl

-- a log of one queue with one more item of it
pub longer_queue : (log : List Item) (x : Item) → IsOneQueue log → ((q : ℕ) (n : Node) → x ≡ Command q n → q ≡ 0) → IsOneQueue (log ++ x ∷ [])
longer_queue log x one new k q n at = go (place_cases log x (Command q n) k at)
  where
    go : ((k < length log) × (slice_get log k ≡ Some (Command q n))) ⊎ Last log x (Command q n) k → q ≡ 0
    go (inl here) = one k q n here.1
    go (inr last) = new q n (sym last.same)

-- The barrier that is due

pub due_is : (b : Bool) (due barrier : Barrier) → cond b (Some due) None ≡ Some barrier → due ≡ barrier
due_is true due barrier e = cc
due_is false due barrier e = none_is_some e

not_empty : (accesses : List Access) (a : Access) → Contains accesses a → is_empty accesses ≡ false
not_empty [] a has = absurd (omega (arith, has.1))
not_empty (b ∷ accesses) a has = refl

-- the kinds that a barrier waits for have one in common with those that the last one let through
chained_by : (accesses : List Access) (c : Access) → c ≢ no_access → All (λ a. in_common a c ≡ true) accesses → in_common c (cond (is_empty accesses) c (union accesses)) ≡ true
chained_by [] c some all = meets_itself c some
chained_by (a ∷ accesses) c some all =
    meets_turned c (union (a ∷ accesses))
    ∙ (union_meets (a ∷ accesses) c
    ∙ or_left (in_common a c) (list_any (λ b. in_common b c) accesses) (All-head (λ b. in_common b c ≡ true) a accesses all))

old_layout : (now wanted : Option Layout) (layout : Layout) → IsLayout now layout → IfSome (layouts_of now wanted) (λ both. both.0 ≡ layout)
old_layout None wanted layout is = tt
old_layout (Some now) None layout is = tt
old_layout (Some now) (Some wanted) layout is = is

module _ (log : List Item) (id : HandleId) (is_image : Bool) (uses : List Use) (u : AreUsesIn log id.0 uses) (touch : Touch) (barrier : Barrier) (due : barrier_due id is_image uses touch ≡ Some barrier) where
  abbrev due_barrier : Barrier
  due_barrier = record { id = id; first = waited_for uses; second = touch.access; layouts = layouts_of (layout_now (first_layout is_image) uses) touch.layout }

  pub is_due_barrier : barrier ≡ due_barrier
  is_due_barrier = sym (due_is (is_licensed is_image uses touch) due_barrier barrier due)

  pub due_first : barrier.first ≡ waited_for uses
  due_first = ap (λ b. b.first) is_due_barrier

  pub due_second : barrier.second ≡ touch.access
  due_second = ap (λ b. b.second) is_due_barrier

  pub due_id : barrier.id.0 ≡ id.0
  due_id = ap (λ b. b.id.0) is_due_barrier

  pub due_waits : (last : Option ℕ) → IsTracked log id.0 last → (k q : ℕ) (a : Node) → IsSince last k → slice_get log k ≡ Some (Command q a) → touches_object a id.0 ≡ true → touches_with a id.0 barrier.first ≡ true
  due_waits last tracked k q a after at on =
      let has : Contains (since uses) (joint_access a id.0) = since_has log id.0 uses u last tracked k q a after at on in
      sym (joint_meets a id.0 barrier.first)
      ∙ (ap (in_common (joint_access a id.0)) (due_first ∙ ap (λ b. cond b (option_map_or (λ b. b.second) (last_barrier uses) no_access) (union (since uses))) (not_empty (since uses) (joint_access a id.0) has))
      ∙ meets_union (since uses) (joint_access a id.0) (joint_some a id.0 (since_device log id.0 uses u last tracked k q a after at on) on) has)

  pub due_chains : (place : ℕ) (l : IsLastBarrier log id.0 place) → in_common l.barrier.second barrier.first ≡ true
  due_chains place l =
      let is : last_barrier uses ≡ Some l.barrier = last_is log id.0 uses u place l in
      ap (in_common l.barrier.second) (due_first ∙ ap (λ o. cond (is_empty (since uses)) (option_map_or (λ b. b.second) o no_access) (union (since uses))) is)
      ∙ chained_by (since uses) l.barrier.second (subst (λ o. IfSome o (λ b. b.second ≢ no_access)) is u.some) (subst (λ o. IfSome o (λ b. All (λ a. in_common a b.second ≡ true) (since uses))) is u.let_through)

  pub due_finds : (n : Node) → barrier_of n ≡ Some barrier → FindsLayouts log n
  due_finds n is = record {
    touched = subst (All (λ t. IfSome t.layout (λ layout. layout ≡ layout_in log t.id.0))) (sym (barrier_touches n barrier is)) (All-cons (λ t. IfSome t.layout (λ layout. layout ≡ layout_in log t.id.0)) (whole barrier.id no_access None) [] tt (All-nil (λ t. IfSome t.layout (λ layout. layout ≡ layout_in log t.id.0))));
    old = subst (λ o. IfSome o (λ b. IfSome b.layouts (λ both. both.0 ≡ layout_in log b.id.0))) (sym is) (subst (λ b. IfSome b.layouts (λ both. both.0 ≡ layout_in log b.id.0)) (sym is_due_barrier) (old_layout (layout_now (first_layout is_image) uses) touch.layout (layout_in log id.0) (layout_is log id.0 uses u is_image)));
  }

  pub due_longer : (q : ℕ) (n : Node) → barrier_of n ≡ Some barrier → touch.access ≢ no_access → AreUsesIn (log ++ Command q n ∷ []) id.0 (uses ++ Fenced barrier ∷ [])
  due_longer q n is some =
      longer_by_barrier log id.0 uses u (Command q n) barrier
      (use_of_barrier q n id.0 barrier (touches_barrier n id.0 barrier is ∙ or_left (eqb barrier.id.0 id.0) false (eq-eqb barrier.id.0 id.0 due_id)) is)
      (λ e. some (sym due_second ∙ e))

-- A node before which no barrier is due

same_layouts : (a b : Layout) → same_layout a b ≡ true → a ≡ b
same_layouts Undefined Undefined e = refl
same_layouts Undefined TransferSrc e = absurd (false≢true e)
same_layouts Undefined TransferDst e = absurd (false≢true e)
same_layouts Undefined ColorAttachment e = absurd (false≢true e)
same_layouts TransferSrc Undefined e = absurd (false≢true e)
same_layouts TransferSrc TransferSrc e = refl
same_layouts TransferSrc TransferDst e = absurd (false≢true e)
same_layouts TransferSrc ColorAttachment e = absurd (false≢true e)
same_layouts TransferDst Undefined e = absurd (false≢true e)
same_layouts TransferDst TransferSrc e = absurd (false≢true e)
same_layouts TransferDst TransferDst e = refl
same_layouts TransferDst ColorAttachment e = absurd (false≢true e)
same_layouts ColorAttachment Undefined e = absurd (false≢true e)
same_layouts ColorAttachment TransferSrc e = absurd (false≢true e)
same_layouts ColorAttachment TransferDst e = absurd (false≢true e)
same_layouts ColorAttachment ColorAttachment e = refl

found_layout : (now wanted : Option Layout) (layout : Layout) → changes_layout now wanted ≡ false → IsLayout now layout → IsLayout wanted layout
found_layout now None layout e is = tt
found_layout None (Some wanted) layout e is = absurd (false≢true (sym e))
found_layout (Some now) (Some wanted) layout e is = sym (same_layouts now wanted (not-false (same_layout now wanted) e)) ∙ is

none_at : {X : Type 0} (p : X → Bool) (xs : List X) (x : X) → list_any p xs ≡ false → Contains xs x → p x ≡ false
none_at p xs x none has = false_from_ne_true (p x) (λ e. both_ways (list_any p xs) none (list_any_at p xs has.0 x has.1 (ap p has.2 ∙ e)))

contains_next : {X : Type 0} (y : X) (xs : List X) (x : X) → Contains xs x → Contains (y ∷ xs) x
contains_next y xs x has = (suc has.0, omega (arith, has.1), has.2)

record TouchOn (ts : List Touch) (id : ℕ) : Type 0 where
  touch : Touch
  has : Contains ts touch
  on : touch.id.0 ≡ id

touch_on : (ts : List Touch) (id : ℕ) → list_any (λ t. eqb t.id.0 id) ts ≡ true → TouchOn ts id
touch_on [] id e = absurd (false≢true e)
touch_on (t ∷ ts) id e = go (or_cases (eqb t.id.0 id) (list_any (λ t. eqb t.id.0 id) ts) e) (touch_on ts id)
  where
    go : (eqb t.id.0 id ≡ true) ⊎ (list_any (λ t. eqb t.id.0 id) ts ≡ true) → (list_any (λ t. eqb t.id.0 id) ts ≡ true → TouchOn ts id) → TouchOn (t ∷ ts) id
    go (inl f) rest = record { touch = t; has = (0, omega arith, refl); on = eqb-true t.id.0 id f }
    go (inr f) rest = let r : TouchOn ts id = rest f in record { touch = r.touch; has = contains_next t ts r.touch r.has; on = r.on }

through_last : (o : Option Barrier) (a : Access) → option_map_or (λ b. not (in_common a b.second)) o false ≡ false → IfSome o (λ b. in_common a b.second ≡ true)
through_last None a e = tt
through_last (Some b) a e = not-false (in_common a b.second) e

module _ (log : List Item) (is_image : ℕ → Bool) (last : ℕ → Option ℕ) (uses : ℕ → List Use) (n : Node) (device_s : barrier_of n ≡ None) (tracked : (id : ℕ) → touches_object n id ≡ true → IsTracked log id (last id) × AreUsesIn log id (uses id)) (free : (t : Touch) → Contains (touches n) t → is_licensed (is_image t.id.0) (uses t.id.0) (jointly n t) ≡ false) where
  -- why no barrier is licensed before a touch
  record Free (t : Touch) (id : ℕ) : Type 0 where
    layout : changes_layout (layout_now (first_layout (is_image id)) (uses id)) t.layout ≡ false
    unwritten : list_any (λ access. writes access || writes (joint_access n id)) (since (uses id)) ≡ false
    through : IfSome (last_barrier (uses id)) (λ b. in_common (joint_access n id) b.second ≡ true)

  free_at : (t : Touch) → Contains (touches n) t → Free t t.id.0
  free_at t has =
      let moves : Bool = changes_layout (layout_now (first_layout (is_image t.id.0)) (uses t.id.0)) t.layout in
      let writes_now : Bool = list_any (λ access. writes access || writes (joint_access n t.id.0)) (since (uses t.id.0)) in
      let held : Bool = option_map_or (λ b. not (in_common (joint_access n t.id.0) b.second)) (last_barrier (uses t.id.0)) false in
      let outer = or_parts (moves || writes_now) held (free t has) in
      let inner = or_parts moves writes_now outer.0 in
      record { layout = inner.0; unwritten = inner.1; through = through_last (last_barrier (uses t.id.0)) (joint_access n t.id.0) outer.1 }

  on_object : (t : Touch) → Contains (touches n) t → touches_object n t.id.0 ≡ true
  on_object t has = list_any_at (λ s. eqb s.id.0 t.id.0) (touches n) has.0 t has.1 (ap (λ s. eqb s.id.0 t.id.0) has.2 ∙ eq-eqb t.id.0 t.id.0 refl)

  free_on : (id : ℕ) → touches_object n id ≡ true → (t : Touch) × Free t id
  free_on id on = let found : TouchOn (touches n) id = touch_on (touches n) id on in (found.touch, subst (Free found.touch) found.on (free_at found.touch found.has))

  pub node_finds : FindsLayouts log n
  node_finds = record {
    touched = All-weaker (Contains (touches n)) (λ t. IfSome t.layout (λ layout. layout ≡ layout_in log t.id.0)) (λ t has. found_layout (layout_now (first_layout (is_image t.id.0)) (uses t.id.0)) t.layout (layout_in log t.id.0) (free_at t has).layout (layout_is log t.id.0 (uses t.id.0) (tracked t.id.0 (on_object t has)).1 (is_image t.id.0))) (touches n) (All-contains_itself (touches n));
    old = subst (λ o. IfSome o (λ b. IfSome b.layouts (λ both. both.0 ≡ layout_in log b.id.0))) (sym device_s) tt;
  }

  pub node_covered : (id place : ℕ) (l : IsLastBarrier log id place) → touches_object n id ≡ true → touches_with n id l.barrier.second ≡ true
  node_covered id place l on = sym (joint_meets n id l.barrier.second) ∙ subst (λ o. IfSome o (λ b. in_common (joint_access n id) b.second ≡ true)) (last_is log id (uses id) (tracked id on).1 place l) (free_on id on).1.through

  pub node_apart : (id k q : ℕ) (a : Node) → touches_object n id ≡ true → IsSince (last id) k → slice_get log k ≡ Some (Command q a) → touches_object a id ≡ true → conflict_on id a n ≡ false
  node_apart id k q a on after at on' =
      let quiet : (writes (joint_access a id) || writes (joint_access n id)) ≡ false = none_at (λ access. writes access || writes (joint_access n id)) (since (uses id)) (joint_access a id) (free_on id on).1.unwritten (since_has log id (uses id) (tracked id on).1 (last id) (tracked id on).0 k q a after at on') in
      let both = or_parts (writes (joint_access a id)) (writes (joint_access n id)) quiet in
      apart id a n (since_device log id (uses id) (tracked id on).1 (last id) (tracked id on).0 k q a after at on') device_s both.0 both.1

  pub node_longer : (q id : ℕ) → touches_object n id ≡ true → AreUsesIn (log ++ Command q n ∷ []) id (uses id ++ Accessed (joint_access n id) ∷ [])
  node_longer q id on = longer_by_access log id (uses id) (tracked id on).1 (Command q n) (joint_access n id) (use_of_access q n id on device_s) (joint_by_device n id device_s) (free_on id on).1.through
