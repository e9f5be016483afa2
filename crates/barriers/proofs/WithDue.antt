-- A node behind the barriers that are due before it: the log stays sound, and each barrier was licensed.
use Rattle.std.proofs.Common.{◌≡◌, ℕ, zero, suc, List, [], ◌∷◌, ◌++◌, length, Bool, true, false, cond, eqb, refl, sym, ◌∙◌, ap, subst, inl, inr}
use Rattle.std.specs.Prelude.{◌≢◌, ◌⊎◌, ◌||◌, not, map, Contains, Option, Some, None, is_some, IsSome, slice_get}
use Rattle.std.specs.List.{filter, AllByRecursion}
use Rattle.std.proofs.lemmas.Bool.{false≢true, both_ways, cases_Bool, eqb-true, eq-eqb, ne_eqb, not-true}
use Rattle.std.proofs.lemmas.List.{append-nil, append_assoc, map-append}
use Rattle.std.proofs.lemmas.List.Elements.{recursion_from_All, All-from_recursion, All-contains, All-contains_itself, filter_passes}
use Rattle.std.proofs.lemmas.List.Folds.{list_any_at}
use Rattle.std.proofs.lemmas.Grind.{flat_map-append}
use Rattle.vk_types.specs.declared.accesses.Access.{Access}
use Rattle.vk_types.specs.declared.accesses.Layout.{Layout}
use Rattle.vk_types.specs.declared.handles.HandleId.{HandleId}
use Rattle.vk_types.specs.declared.regions.Touch.{Touch}
use Rattle.vk_types.specs.declared.regions.Barrier.{Barrier}
use Rattle.vk_types.specs.declared.ops.Op.{Op}
use Rattle.vk_types.specs.declared.ops.Node.{Node}
use Rattle.vk_types.specs.Touches.{touches, barrier_of}
use Rattle.vk_model.specs.Log.{Item, Command, commands, touches_object, IsSound, IsOneQueue}
use Rattle.vk_model.specs.Tracking.{IsTracked}
use Rattle.vk_model.proofs.Clashes.{none_is_some}
use Rattle.barriers.specs.Licence.{Use, Accessed, Fenced, barrier_due, is_licensed, fenced_by}
use Rattle.barriers.specs.Trackers.{IsTouchOf}
use Rattle.barriers.specs.Logs.{joint_access, jointly, uses_by, uses_in, AreUsesIn}
use Rattle.barriers.specs.Recording.{handle, AreLicensed, firsts, joint_touches, barrier_node, node_for, due_before, with_due, HasLayouts}
use Rattle.barriers.proofs.Joint.{joint_some}
use Rattle.barriers.proofs.Uses.{use_of_none, use_of_access, use_of_barrier, touches_barrier}
use Rattle.barriers.proofs.Due.{none_licensed, once_licensed, named_object}

-- Licensed uses, with one more

data Pushed (uses before : List Use) (u : Use) (barrier : Barrier) : Type 0 where
  earlier : (rest : List Use) → uses ≡ before ++ Fenced barrier ∷ rest → Pushed uses before u barrier
  itself : uses ≡ before → u ≡ Fenced barrier → Pushed uses before u barrier

pushed : (uses before back : List Use) (u : Use) (barrier : Barrier) → uses ++ u ∷ [] ≡ before ++ Fenced barrier ∷ back → Pushed uses before u barrier
pushed [] [] back u barrier e = itself refl (let same : u ≡ Fenced barrier = cc in same)
pushed [] (b ∷ []) back u barrier e = cc
pushed [] (b ∷ c ∷ before) back u barrier e = cc
pushed (x ∷ uses) [] back u barrier e = earlier uses (let same : x ≡ Fenced barrier = cc in ap (λ y. y ∷ uses) same)
pushed (x ∷ uses) (b ∷ before) back u barrier e =
    let head : x ≡ b = cc in
    let tail : uses ++ u ∷ [] ≡ before ++ Fenced barrier ∷ back = cc in
    go head (pushed uses before back u barrier tail)
  where
    go : x ≡ b → Pushed uses before u barrier → Pushed (x ∷ uses) (b ∷ before) u barrier
    go head (earlier rest is) = earlier rest (ap (λ y. y ∷ uses) head ∙ ap (λ us. b ∷ us) is)
    go head (itself is same) = itself (ap (λ y. y ∷ uses) head ∙ ap (λ us. b ∷ us) is) same

pub licensed_access : (id : HandleId) (is_image : Bool) (uses : List Use) (access : Access) → AreLicensed id is_image uses → AreLicensed id is_image (uses ++ Accessed access ∷ [])
licensed_access id is_image uses access licensed before back barrier e = go (pushed uses before back (Accessed access) barrier e)
  where
    go : Pushed uses before (Accessed access) barrier → (touch : Touch) × IsTouchOf id is_image touch × (barrier_due id is_image before touch ≡ Some barrier)
    go (earlier rest is) = licensed before rest barrier is
    go (itself is same) = cc

pub licensed_barrier : (id : HandleId) (is_image : Bool) (uses : List Use) (barrier : Barrier) (touch : Touch) → IsTouchOf id is_image touch → barrier_due id is_image uses touch ≡ Some barrier →
    AreLicensed id is_image uses → AreLicensed id is_image (uses ++ Fenced barrier ∷ [])
licensed_barrier id is_image uses barrier touch of due licensed before back b e = go (pushed uses before back (Fenced barrier) b e)
  where
    go : Pushed uses before (Fenced barrier) b → (touch : Touch) × IsTouchOf id is_image touch × (barrier_due id is_image before touch ≡ Some b)
    go (earlier rest is) = licensed before rest b is
    go (itself is same) = let one : barrier ≡ b = cc in (touch, of, subst (λ us. barrier_due id is_image us touch ≡ Some b) is (due ∙ ap Some one))

-- The joint access of a node on what it touches

on_object : (n : Node) (t : Touch) → Contains (touches n) t → touches_object n t.id.0 ≡ true
on_object n t has = list_any_at (λ s. eqb s.id.0 t.id.0) (touches n) has.0 t has.1 (ap (λ s. eqb s.id.0 t.id.0) has.2 ∙ eq-eqb t.id.0 t.id.0 refl)

pub joint_touch : (is_image : ℕ → Bool) (n : Node) → barrier_of n ≡ None → HasLayouts is_image n → (t : Touch) → Contains (touches n) t → IsTouchOf t.id (is_image t.id.0) (jointly n t)
joint_touch is_image n device layouts t has = record {
  of = refl;
  some = joint_some n t.id.0 device (on_object n t has);
  image = λ e. is_there t.layout (layouts.images t has ∙ e);
  buffer = λ some. sym (layouts.images t has) ∙ there t.layout some;
  defined = layouts.defined t has;
}
  where
    is_there : (o : Option Layout) → is_some o ≡ true → IsSome o
    is_there None e = absurd (false≢true e)
    is_there (Some layout) e = refl

    there : (o : Option Layout) → o ≢ None → is_some o ≡ true
    there None some = absurd (some refl)
    there (Some layout) some = refl

-- What the laws of growing logs say

abbrev pub GrowsByBarrier : Type 0
GrowsByBarrier = (log : List Item) → IsOneQueue log → IsSound log →
    (id : HandleId) (is_image : Bool) (last : Option ℕ) (uses : List Use) → IsTracked log id.0 last → AreUsesIn log id.0 uses →
    (touch : Touch) (barrier : Barrier) (n : Node) → IsTouchOf id is_image touch → barrier_due id is_image uses touch ≡ Some barrier →
    n.op ≡ Op.Barrier barrier →
    IsSound (log ++ Command 0 n ∷ []) × IsTracked (log ++ Command 0 n ∷ []) id.0 (Some (length log))
    × AreUsesIn (log ++ Command 0 n ∷ []) id.0 (uses ++ Fenced barrier ∷ [])

abbrev pub GrowsByNode : Type 0
GrowsByNode = (log : List Item) → IsOneQueue log → IsSound log →
    (is_image : ℕ → Bool) (last : ℕ → Option ℕ) (uses : ℕ → List Use) (n : Node) → barrier_of n ≡ None →
    ((id : ℕ) → touches_object n id ≡ true → IsTracked log id (last id) × AreUsesIn log id (uses id)) →
    ((t : Touch) → Contains (touches n) t → is_licensed (is_image t.id.0) (uses t.id.0) (jointly n t) ≡ false) →
    IsSound (log ++ Command 0 n ∷ [])
    × ((id : ℕ) → touches_object n id ≡ true → IsTracked (log ++ Command 0 n ∷ []) id (last id)
    × AreUsesIn (log ++ Command 0 n ∷ []) id (uses id ++ Accessed (joint_access n id) ∷ []))

abbrev pub GrowsByOther : Type 0
GrowsByOther = (log : List Item) (id : ℕ) (last : Option ℕ) (uses : List Use) (x : Item) → IsTracked log id last →
    AreUsesIn log id uses → ((q : ℕ) (n : Node) → x ≡ Command q n → touches_object n id ≡ false) →
    IsTracked (log ++ x ∷ []) id last × AreUsesIn (log ++ x ∷ []) id uses

abbrev pub StaysOneQueue : Type 0
StaysOneQueue = (log : List Item) (x : Item) → IsOneQueue log → ((q : ℕ) (n : Node) → x ≡ Command q n → q ≡ 0) → IsOneQueue (log ++ x ∷ [])

-- A log and the uses of all objects in it

pub record Grown (is_image : ℕ → Bool) (log : List Item) (now : ℕ → List Use) : Type 0 where
  pub one : IsOneQueue log
  pub sound : IsSound log
  pub tracked : (id : ℕ) → (last : Option ℕ) × IsTracked log id last
  pub used : (id : ℕ) → AreUsesIn log id (now id)
  pub licensed : (id : ℕ) → AreLicensed (handle id) (is_image id) (now id)

module _ (is_image : ℕ → Bool) (by_barrier : GrowsByBarrier) (by_node : GrowsByNode) (by_other : GrowsByOther) (one_queue : StaysOneQueue) where
  -- the uses are told by equal lists
  same_uses : (log : List Item) (now then' : ℕ → List Use) → ((id : ℕ) → now id ≡ then' id) → Grown is_image log now → Grown is_image log then'
  same_uses log now then' same g = record {
    one = g.one;
    sound = g.sound;
    tracked = g.tracked;
    used = λ id. subst (AreUsesIn log id) (same id) (g.used id);
    licensed = λ id. subst (AreLicensed (handle id) (is_image id)) (same id) (g.licensed id);
  }

  same_log : (log more : List Item) (now : ℕ → List Use) → log ≡ more → Grown is_image log now → Grown is_image more now
  same_log log more now e g = subst (λ l. Grown is_image l now) e g

  command_is : (m n : Node) (q : ℕ) → Command 0 m ≡ Command q n → (m ≡ n) × (q ≡ 0)
  command_is m n q e = (cc, cc)

  -- One barrier

  module _ (log : List Item) (now : ℕ → List Use) (g : Grown is_image log now) (t : Touch) (of : IsTouchOf t.id (is_image t.id.0) t) (barrier : Barrier) (due : barrier_due t.id (is_image t.id.0) (now t.id.0) t ≡ Some barrier) where
    abbrev node : Node
    node = barrier_node barrier

    abbrev longer : List Item
    longer = log ++ Command 0 (barrier_node barrier) ∷ []

    grown_one : IsSound longer × IsTracked longer t.id.0 (Some (length log)) × AreUsesIn longer t.id.0 (now t.id.0 ++ Fenced barrier ∷ [])
    grown_one = by_barrier log g.one g.sound t.id (is_image t.id.0) (g.tracked t.id.0).0 (now t.id.0) (g.tracked t.id.0).1 (g.used t.id.0) t barrier node of due refl

    of_id : barrier.id.0 ≡ t.id.0
    of_id = ap (λ h. h.0) (named_object t.id (is_image t.id.0) (now t.id.0) t barrier due)

    on_it : uses_in (commands 0 (node ∷ [])) t.id.0 ≡ Fenced barrier ∷ []
    on_it = append-nil (uses_by t.id.0 (Command 0 node)) ∙ use_of_barrier 0 node t.id.0 barrier (touches_barrier node t.id.0 barrier refl ∙ ap (λ b. b || false) (eq-eqb barrier.id.0 t.id.0 of_id)) refl

    off_others : (id : ℕ) → id ≢ t.id.0 → touches_object node id ≡ false
    off_others id other = touches_barrier node id barrier refl ∙ ap (λ b. b || false) (ne_eqb barrier.id.0 id (λ e. other (sym e ∙ of_id)))

    on_others : (id : ℕ) → id ≢ t.id.0 → uses_in (commands 0 (node ∷ [])) id ≡ []
    on_others id other = append-nil (uses_by id (Command 0 node)) ∙ use_of_none 0 node id (off_others id other)

    other_one : (id : ℕ) → id ≢ t.id.0 → IsTracked longer id (g.tracked id).0 × AreUsesIn longer id (now id)
    other_one id other = by_other log id (g.tracked id).0 (now id) (Command 0 node) (g.tracked id).1 (g.used id) (λ q n e. subst (λ m. touches_object m id ≡ false) (command_is node n q e).0 (off_others id other))

    barrier_grown : Grown is_image longer (λ id. now id ++ uses_in (commands 0 (node ∷ [])) id)
    barrier_grown = record {
      one = one_queue log (Command 0 node) g.one (λ q n e. (command_is node n q e).1);
      sound = grown_one.0;
      tracked = λ id. tracked id (cases_Bool (eqb id t.id.0));
      used = λ id. used id (cases_Bool (eqb id t.id.0));
      licensed = λ id. licensed id (cases_Bool (eqb id t.id.0));
    }
      where
        apart : (id : ℕ) → eqb id t.id.0 ≡ false → id ≢ t.id.0
        apart id off e = both_ways (eqb id t.id.0) off (eq-eqb id t.id.0 e)

        tracked : (id : ℕ) → (eqb id t.id.0 ≡ true) ⊎ (eqb id t.id.0 ≡ false) → (last : Option ℕ) × IsTracked longer id last
        tracked id (inl on) = subst (λ i. (last : Option ℕ) × IsTracked longer i last) (sym (eqb-true id t.id.0 on)) (Some (length log), grown_one.1)
        tracked id (inr off) = ((g.tracked id).0, (other_one id (apart id off)).0)

        used : (id : ℕ) → (eqb id t.id.0 ≡ true) ⊎ (eqb id t.id.0 ≡ false) → AreUsesIn longer id (now id ++ uses_in (commands 0 (node ∷ [])) id)
        used id (inl on) = subst (λ i. AreUsesIn longer i (now i ++ uses_in (commands 0 (node ∷ [])) i)) (sym (eqb-true id t.id.0 on)) (subst (λ us. AreUsesIn longer t.id.0 (now t.id.0 ++ us)) (sym on_it) grown_one.2)
        used id (inr off) = subst (AreUsesIn longer id) (sym (append-nil (now id)) ∙ ap (λ us. now id ++ us) (sym (on_others id (apart id off)))) (other_one id (apart id off)).1

        licensed : (id : ℕ) → (eqb id t.id.0 ≡ true) ⊎ (eqb id t.id.0 ≡ false) → AreLicensed (handle id) (is_image id) (now id ++ uses_in (commands 0 (node ∷ [])) id)
        licensed id (inl on) =
            subst (λ i. AreLicensed (handle i) (is_image i) (now i ++ uses_in (commands 0 (node ∷ [])) i)) (sym (eqb-true id t.id.0 on))
            (subst (λ us. AreLicensed t.id (is_image t.id.0) (now t.id.0 ++ us)) (sym on_it) (licensed_barrier t.id (is_image t.id.0) (now t.id.0) barrier t of due (g.licensed t.id.0)))
        licensed id (inr off) = subst (AreLicensed (handle id) (is_image id)) (sym (append-nil (now id)) ∙ ap (λ us. now id ++ us) (sym (on_others id (apart id off)))) (g.licensed id)

  -- the barrier that is due, or none
  pub due_grown : (log : List Item) (now : ℕ → List Use) → Grown is_image log now → (t : Touch) → IsTouchOf t.id (is_image t.id.0) t → (o : Option Barrier) → barrier_due t.id (is_image t.id.0) (now t.id.0) t ≡ o →
      Grown is_image (log ++ commands 0 (node_for o)) (λ id. now id ++ uses_in (commands 0 (node_for o)) id)
  due_grown log now g t of None due = same_log log (log ++ []) (λ id. now id ++ []) (sym (append-nil log)) (same_uses log now (λ id. now id ++ []) (λ id. sym (append-nil (now id))) g)
  due_grown log now g t of (Some barrier) due = barrier_grown log now g t of barrier due

  -- Several

  abbrev Distinct : List Touch → Type 0
  Distinct [] = Unit {0}
  Distinct (t ∷ ts) = AllByRecursion (λ u. u.id.0 ≢ t.id.0) ts × Distinct ts

  -- the uses by the barrier before one touch
  used_by_due : (o : Option Barrier) (id : ℕ) → ((barrier : Barrier) → o ≡ Some barrier → barrier.id.0 ≡ id) → uses_in (commands 0 (node_for o)) id ≡ fenced_by o
  used_by_due None id of = refl
  used_by_due (Some barrier) id of = append-nil (uses_by id (Command 0 (barrier_node barrier))) ∙ use_of_barrier 0 (barrier_node barrier) id barrier (touches_barrier (barrier_node barrier) id barrier refl ∙ ap (λ b. b || false) (eq-eqb barrier.id.0 id (of barrier refl))) refl

  unused_by_due : (o : Option Barrier) (id : ℕ) → ((barrier : Barrier) → o ≡ Some barrier → barrier.id.0 ≢ id) → uses_in (commands 0 (node_for o)) id ≡ []
  unused_by_due None id of = refl
  unused_by_due (Some barrier) id of = append-nil (uses_by id (Command 0 (barrier_node barrier))) ∙ use_of_none 0 (barrier_node barrier) id (touches_barrier (barrier_node barrier) id barrier refl ∙ ap (λ b. b || false) (ne_eqb barrier.id.0 id (of barrier refl)))

  module _ (uses : ℕ → List Use) where
    abbrev due : Touch → Option Barrier
    due t = barrier_due t.id (is_image t.id.0) (uses t.id.0) t

    due_of : (t : Touch) (barrier : Barrier) → due t ≡ Some barrier → barrier.id.0 ≡ t.id.0
    due_of t barrier e = ap (λ h. h.0) (named_object t.id (is_image t.id.0) (uses t.id.0) t barrier e)

    more_nodes : (xs ys : List Node) (id : ℕ) → uses_in (commands 0 (xs ++ ys)) id ≡ uses_in (commands 0 xs) id ++ uses_in (commands 0 ys) id
    more_nodes xs ys id = ap (λ l. uses_in l id) (map-append (Command 0) xs ys) ∙ flat_map-append (uses_by id) (commands 0 xs) (commands 0 ys)

    -- no barrier is due of an object that is not touched
    unused : (ts : List Touch) (id : ℕ) → AllByRecursion (λ u. u.id.0 ≢ id) ts → uses_in (commands 0 (due_before is_image uses ts)) id ≡ []
    unused [] id others = refl
    unused (t ∷ ts) id others =
        more_nodes (node_for (due t)) (due_before is_image uses ts) id
        ∙ (ap (λ us. us ++ uses_in (commands 0 (due_before is_image uses ts)) id) (unused_by_due (due t) id (λ barrier e f. others.0 (sym (due_of t barrier e) ∙ f)))
        ∙ unused ts id others.1)

    fences_grown : (ts : List Touch) → Distinct ts → AllByRecursion (λ t. IsTouchOf t.id (is_image t.id.0) t) ts → (log : List Item) (now : ℕ → List Use) → AllByRecursion (λ t. now t.id.0 ≡ uses t.id.0) ts →
        Grown is_image log now → Grown is_image (log ++ commands 0 (due_before is_image uses ts)) (λ id. now id ++ uses_in (commands 0 (due_before is_image uses ts)) id)
    fences_grown [] distinct of log now same g = same_log log (log ++ []) (λ id. now id ++ []) (sym (append-nil log)) (same_uses log now (λ id. now id ++ []) (λ id. sym (append-nil (now id))) g)
    fences_grown (t ∷ ts) distinct of log now same g =
        same_log ((log ++ commands 0 (node_for (due t))) ++ commands 0 (due_before is_image uses ts)) (log ++ commands 0 (due_before is_image uses (t ∷ ts)))
        (λ id. now id ++ uses_in (commands 0 (due_before is_image uses (t ∷ ts))) id)
        (append_assoc log (commands 0 (node_for (due t))) (commands 0 (due_before is_image uses ts)) ∙ ap (λ l. log ++ l) (sym (map-append (Command 0) (node_for (due t)) (due_before is_image uses ts))))
        (same_uses ((log ++ commands 0 (node_for (due t))) ++ commands 0 (due_before is_image uses ts))
        (λ id. (now id ++ uses_in (commands 0 (node_for (due t))) id) ++ uses_in (commands 0 (due_before is_image uses ts)) id)
        (λ id. now id ++ uses_in (commands 0 (due_before is_image uses (t ∷ ts))) id)
        (λ id. append_assoc (now id) (uses_in (commands 0 (node_for (due t))) id) (uses_in (commands 0 (due_before is_image uses ts)) id) ∙ ap (λ us. now id ++ us) (sym (more_nodes (node_for (due t)) (due_before is_image uses ts) id)))
        (fences_grown ts distinct.1 of.1 (log ++ commands 0 (node_for (due t))) (λ id. now id ++ uses_in (commands 0 (node_for (due t))) id) (later ts distinct.0 same.1)
        (due_grown log now g t of.0 (due t) (ap (λ us. barrier_due t.id (is_image t.id.0) us t) same.0))))
      where
        later : (us : List Touch) → AllByRecursion (λ u. u.id.0 ≢ t.id.0) us → AllByRecursion (λ u. now u.id.0 ≡ uses u.id.0) us → AllByRecursion (λ u. (now u.id.0 ++ uses_in (commands 0 (node_for (due t))) u.id.0) ≡ uses u.id.0) us
        later [] others e = tt
        later (u ∷ us) others e =
            (ap (λ xs. now u.id.0 ++ xs) (unused_by_due (due t) u.id.0 (λ barrier f h. others.0 (sym h ∙ due_of t barrier f))) ∙ (append-nil (now u.id.0) ∙ e.0), later us others.1 e.1)

    -- what stands before a touch of the list
    fenced_at : (ts : List Touch) → Distinct ts → (k : ℕ) (t : Touch) → slice_get ts k ≡ Some t → uses_in (commands 0 (due_before is_image uses ts)) t.id.0 ≡ fenced_by (due t)
    fenced_at [] distinct k t at = none_is_some at
    fenced_at (u ∷ ts) distinct zero t at =
        let same : u ≡ t = cc in
        subst (λ x. uses_in (commands 0 (due_before is_image uses (u ∷ ts))) x.id.0 ≡ fenced_by (due x)) same
        (more_nodes (node_for (due u)) (due_before is_image uses ts) u.id.0
        ∙ (ap (λ us. us ++ uses_in (commands 0 (due_before is_image uses ts)) u.id.0) (used_by_due (due u) u.id.0 (due_of u))
        ∙ (ap (λ us. fenced_by (due u) ++ us) (unused ts u.id.0 distinct.0) ∙ append-nil (fenced_by (due u)))))
    fenced_at (u ∷ ts) distinct (suc k) t at =
        more_nodes (node_for (due u)) (due_before is_image uses ts) t.id.0
        ∙ (ap (λ us. us ++ uses_in (commands 0 (due_before is_image uses ts)) t.id.0) (unused_by_due (due u) t.id.0 (λ barrier e f. other ts k distinct.0 at (sym f ∙ due_of u barrier e)))
        ∙ fenced_at ts distinct.1 k t at)
      where
        other : (us : List Touch) (j : ℕ) → AllByRecursion (λ v. v.id.0 ≢ u.id.0) us → slice_get us j ≡ Some t → t.id.0 ≢ u.id.0
        other [] j others at = none_is_some at
        other (v ∷ us) zero others at = let same : v ≡ t = cc in subst (λ (x : Touch). x.id.0 ≢ u.id.0) same others.0
        other (v ∷ us) (suc j) others at = other us j others.1 at

    fenced_all : (ts : List Touch) → Distinct ts → AllByRecursion (λ t. uses_in (commands 0 (due_before is_image uses ts)) t.id.0 ≡ fenced_by (due t)) ts
    fenced_all ts distinct = all_from_get (λ t. uses_in (commands 0 (due_before is_image uses ts)) t.id.0 ≡ fenced_by (due t)) ts (fenced_at ts distinct)
      where
        all_from_get : (P : Touch → Type 0) (xs : List Touch) → ((k : ℕ) (t : Touch) → slice_get xs k ≡ Some t → P t) → AllByRecursion P xs
        all_from_get P [] each = tt
        all_from_get P (x ∷ xs) each = (each 0 x refl, all_from_get P xs (λ k t at. each (suc k) t at))

  -- Lists of touches

  all_filter : (P : Touch → Type 0) (p : Touch → Bool) (ts : List Touch) → AllByRecursion P ts → AllByRecursion P (filter p ts)
  all_filter P p [] all = tt
  all_filter P p (t ∷ ts) all = go (p t) (all_filter P p ts all.1)
    where
      go : (b : Bool) → AllByRecursion P (filter p ts) → AllByRecursion P (cond b (t ∷ filter p ts) (filter p ts))
      go true rest = (all.0, rest)
      go false rest = rest

  distinct_filter : (p : Touch → Bool) (ts : List Touch) → Distinct ts → Distinct (filter p ts)
  distinct_filter p [] distinct = tt
  distinct_filter p (t ∷ ts) distinct = go (p t) (distinct_filter p ts distinct.1)
    where
      go : (b : Bool) → Distinct (filter p ts) → Distinct (cond b (t ∷ filter p ts) (filter p ts))
      go true rest = (all_filter (λ u. u.id.0 ≢ t.id.0) p ts distinct.0, rest)
      go false rest = rest

  weaker : (P Q : Touch → Type 0) → ((t : Touch) → P t → Q t) → (ts : List Touch) → AllByRecursion P ts → AllByRecursion Q ts
  weaker P Q from [] all = tt
  weaker P Q from (t ∷ ts) all = (from t all.0, weaker P Q from ts all.1)

  both_of : (P Q R : Touch → Type 0) → ((t : Touch) → P t → Q t → R t) → (ts : List Touch) → AllByRecursion P ts → AllByRecursion Q ts → AllByRecursion R ts
  both_of P Q R from [] p q = tt
  both_of P Q R from (t ∷ ts) p q = (from t p.0 q.0, both_of P Q R from ts p.1 q.1)

  firsts_distinct : (ts : List Touch) → Distinct (firsts ts)
  firsts_distinct [] = tt
  firsts_distinct (t ∷ ts) = (
    weaker (λ u. not (eqb u.id.0 t.id.0) ≡ true) (λ u. u.id.0 ≢ t.id.0) (λ u e f. both_ways (eqb u.id.0 t.id.0) (not-true (eqb u.id.0 t.id.0) e) (eq-eqb u.id.0 t.id.0 f))
        (filter (λ u. not (eqb u.id.0 t.id.0)) (firsts ts))
        (recursion_from_All (λ u. not (eqb u.id.0 t.id.0) ≡ true) (filter (λ u. not (eqb u.id.0 t.id.0)) (firsts ts)) (filter_passes (λ u. not (eqb u.id.0 t.id.0)) (firsts ts))),
    distinct_filter (λ u. not (eqb u.id.0 t.id.0)) (firsts ts) (firsts_distinct ts),
  )

  all_firsts : (P : Touch → Type 0) (ts : List Touch) → AllByRecursion P ts → AllByRecursion P (firsts ts)
  all_firsts P [] all = tt
  all_firsts P (t ∷ ts) all = (all.0, all_filter P (λ u. not (eqb u.id.0 t.id.0)) (firsts ts) (all_firsts P ts all.1))

  -- what holds of the elements that pass a test, and of the others, holds of all
  module _ (C P : Touch → Type 0) (t : Touch) (others : (x : Touch) → C x → eqb x.id.0 t.id.0 ≡ true → P x) where
    unfiltered : (xs : List Touch) → AllByRecursion C xs → AllByRecursion P (filter (λ u. not (eqb u.id.0 t.id.0)) xs) → AllByRecursion P xs
    unfiltered [] c p = tt
    unfiltered (x ∷ xs) c p = go (eqb x.id.0 t.id.0) refl p (unfiltered xs c.1)
      where
        go : (b : Bool) → eqb x.id.0 t.id.0 ≡ b → AllByRecursion P (cond (not b) (x ∷ filter (λ u. not (eqb u.id.0 t.id.0)) xs) (filter (λ u. not (eqb u.id.0 t.id.0)) xs)) →
            (AllByRecursion P (filter (λ u. not (eqb u.id.0 t.id.0)) xs) → AllByRecursion P xs) → AllByRecursion P (x ∷ xs)
        go true e p rest = (others x c.0 e, rest p)
        go false e p rest = (p.0, rest p.1)

  -- what holds of the first touch of each object, and goes over to others of that object, holds of all
  from_firsts : (C P : Touch → Type 0) → ((f t : Touch) → C f → C t → f.id.0 ≡ t.id.0 → P f → P t) → (ts : List Touch) → AllByRecursion C ts → AllByRecursion P (firsts ts) → AllByRecursion P ts
  from_firsts C P over [] cs ps = tt
  from_firsts C P over (t ∷ ts) cs ps =
      (ps.0, from_firsts C P over ts cs.1 (unfiltered C P t (λ x c e. over t x cs.0 c (sym (eqb-true x.id.0 t.id.0 e)) ps.0) (firsts ts) (all_firsts C ts cs.1) ps.1))

  map_all : (n : Node) (P : Touch → Type 0) (ts : List Touch) → AllByRecursion (λ t. P (jointly n t)) ts → AllByRecursion P (map (jointly n) ts)
  map_all n P [] all = tt
  map_all n P (t ∷ ts) all = (all.0, map_all n P ts all.1)

  unmap_all : (n : Node) (P : Touch → Type 0) (ts : List Touch) → AllByRecursion P (map (jointly n) ts) → AllByRecursion (λ t. P (jointly n t)) ts
  unmap_all n P [] all = tt
  unmap_all n P (t ∷ ts) all = (all.0, unmap_all n P ts all.1)

  map_distinct : (n : Node) (ts : List Touch) → Distinct ts → Distinct (map (jointly n) ts)
  map_distinct n [] distinct = tt
  map_distinct n (t ∷ ts) distinct = (map_all n (λ u. u.id.0 ≢ t.id.0) ts distinct.0, map_distinct n ts distinct.1)

  contained : (ts : List Touch) → AllByRecursion (Contains ts) ts
  contained ts = recursion_from_All (Contains ts) ts (All-contains_itself ts)

  at_all : (P : Touch → Type 0) (ts : List Touch) (t : Touch) → AllByRecursion P ts → Contains ts t → P t
  at_all P ts t all has = All-contains P ts t (All-from_recursion P ts all) has

  -- The node behind its barriers

  module _ (log : List Item) (uses : ℕ → List Use) (g : Grown is_image log uses) (n : Node) (device : barrier_of n ≡ None) (layouts : HasLayouts is_image n) where
    joint_ok : (t : Touch) → Contains (touches n) t → IsTouchOf t.id (is_image t.id.0) (jointly n t)
    joint_ok = joint_touch is_image n device layouts

    joint_all : AllByRecursion (λ t. IsTouchOf t.id (is_image t.id.0) (jointly n t)) (firsts (touches n))
    joint_all = all_firsts (λ t. IsTouchOf t.id (is_image t.id.0) (jointly n t)) (touches n) (weaker (Contains (touches n)) (λ t. IsTouchOf t.id (is_image t.id.0) (jointly n t)) joint_ok (touches n) (contained (touches n)))

    distinct : Distinct (joint_touches n)
    distinct = map_distinct n (firsts (touches n)) (firsts_distinct (touches n))

    abbrev fences : List Node
    fences = due_before is_image uses (joint_touches n)

    abbrev behind : List Item
    behind = log ++ commands 0 (due_before is_image uses (joint_touches n))

    abbrev now : ℕ → List Use
    now = λ id. uses id ++ uses_in (commands 0 (due_before is_image uses (joint_touches n))) id

    same_all : (ts : List Touch) → AllByRecursion (λ t. uses t.id.0 ≡ uses t.id.0) ts
    same_all [] = tt
    same_all (t ∷ ts) = (refl, same_all ts)

    grown : Grown is_image behind now
    grown = fences_grown uses (joint_touches n) distinct (map_all n (λ t. IsTouchOf t.id (is_image t.id.0) t) (firsts (touches n)) joint_all) log uses (same_all (joint_touches n)) g

    -- no barrier is licensed any more
    abbrev IsFree : Touch → Type 0
    IsFree t = is_licensed (is_image t.id.0) (now t.id.0) (jointly n t) ≡ false

    free_first : (t : Touch) → uses_in (commands 0 fences) t.id.0 ≡ fenced_by (barrier_due t.id (is_image t.id.0) (uses t.id.0) (jointly n t)) → IsTouchOf t.id (is_image t.id.0) (jointly n t) → IsFree t
    free_first t is of = go (barrier_due t.id (is_image t.id.0) (uses t.id.0) (jointly n t)) refl is
      where
        go : (o : Option Barrier) → barrier_due t.id (is_image t.id.0) (uses t.id.0) (jointly n t) ≡ o → uses_in (commands 0 fences) t.id.0 ≡ fenced_by o → IsFree t
        go None due is = ap (λ us. is_licensed (is_image t.id.0) us (jointly n t)) (ap (λ us. uses t.id.0 ++ us) is ∙ append-nil (uses t.id.0)) ∙ none_licensed t.id (is_image t.id.0) (uses t.id.0) (jointly n t) due
        go (Some barrier) due is = ap (λ us. is_licensed (is_image t.id.0) (uses t.id.0 ++ us) (jointly n t)) is ∙ once_licensed t.id (is_image t.id.0) (uses t.id.0) (jointly n t) barrier of due

    -- a touch of the same object has the same access and the same layout
    over : (f t : Touch) → Contains (touches n) f → Contains (touches n) t → f.id.0 ≡ t.id.0 → IsFree f → IsFree t
    over f t has_f has_t same free = go f.id.0 t.id.0 f.layout t.layout same (layouts.one f t has_f has_t same) free
      where
        touch_with : ℕ → Option Layout → Touch → Touch
        touch_with id layout x = record { id = handle id; start = x.start; «end» = x.end; access = joint_access n id; layout = layout }

        go : (i j : ℕ) (k l : Option Layout) → i ≡ j → k ≡ l → is_licensed (is_image i) (now i) (touch_with i k f) ≡ false → is_licensed (is_image j) (now j) (touch_with j l t) ≡ false
        go i j k l e h free = subst (λ x. is_licensed (is_image x) (now x) (touch_with x l t) ≡ false) e (subst (λ x. is_licensed (is_image i) (now i) (touch_with i x t) ≡ false) h free)

    free : (t : Touch) → Contains (touches n) t → IsFree t
    free t has = at_all IsFree (touches n) t
        (from_firsts (Contains (touches n)) IsFree over (touches n) (contained (touches n))
        (both_of (λ t. uses_in (commands 0 fences) t.id.0 ≡ fenced_by (barrier_due t.id (is_image t.id.0) (uses t.id.0) (jointly n t))) (λ t. IsTouchOf t.id (is_image t.id.0) (jointly n t)) IsFree free_first (firsts (touches n))
        (unmap_all n (λ t. uses_in (commands 0 fences) t.id.0 ≡ fenced_by (barrier_due t.id (is_image t.id.0) (uses t.id.0) t)) (firsts (touches n)) (fenced_all uses (joint_touches n) distinct))
        joint_all)) has

    node_grown : Grown is_image (behind ++ Command 0 n ∷ []) (λ id. now id ++ uses_in (commands 0 (n ∷ [])) id)
    node_grown = record {
      one = one_queue behind (Command 0 n) grown.one (λ q m e. (command_is n m q e).1);
      sound = next.0;
      tracked = λ id. tracked id (cases_Bool (touches_object n id));
      used = λ id. used id (cases_Bool (touches_object n id));
      licensed = λ id. licensed id (cases_Bool (touches_object n id));
    }
      where
        next : IsSound (behind ++ Command 0 n ∷ []) × ((id : ℕ) → touches_object n id ≡ true → IsTracked (behind ++ Command 0 n ∷ []) id (grown.tracked id).0 × AreUsesIn (behind ++ Command 0 n ∷ []) id (now id ++ Accessed (joint_access n id) ∷ []))
        next = by_node behind grown.one grown.sound is_image (λ id. (grown.tracked id).0) now n device (λ id on. ((grown.tracked id).1, grown.used id)) free

        other : (id : ℕ) → touches_object n id ≡ false → IsTracked (behind ++ Command 0 n ∷ []) id (grown.tracked id).0 × AreUsesIn (behind ++ Command 0 n ∷ []) id (now id)
        other id off = by_other behind id (grown.tracked id).0 (now id) (Command 0 n) (grown.tracked id).1 (grown.used id) (λ q m e. subst (λ x. touches_object x id ≡ false) (command_is n m q e).0 off)

        by_it : (id : ℕ) → touches_object n id ≡ true → uses_in (commands 0 (n ∷ [])) id ≡ Accessed (joint_access n id) ∷ []
        by_it id on = append-nil (uses_by id (Command 0 n)) ∙ use_of_access 0 n id on device

        by_none : (id : ℕ) → touches_object n id ≡ false → uses_in (commands 0 (n ∷ [])) id ≡ []
        by_none id off = append-nil (uses_by id (Command 0 n)) ∙ use_of_none 0 n id off

        tracked : (id : ℕ) → (touches_object n id ≡ true) ⊎ (touches_object n id ≡ false) → (last : Option ℕ) × IsTracked (behind ++ Command 0 n ∷ []) id last
        tracked id (inl on) = ((grown.tracked id).0, (next.1 id on).0)
        tracked id (inr off) = ((grown.tracked id).0, (other id off).0)

        used : (id : ℕ) → (touches_object n id ≡ true) ⊎ (touches_object n id ≡ false) → AreUsesIn (behind ++ Command 0 n ∷ []) id (now id ++ uses_in (commands 0 (n ∷ [])) id)
        used id (inl on) = subst (λ us. AreUsesIn (behind ++ Command 0 n ∷ []) id (now id ++ us)) (sym (by_it id on)) (next.1 id on).1
        used id (inr off) = subst (AreUsesIn (behind ++ Command 0 n ∷ []) id) (sym (append-nil (now id)) ∙ ap (λ us. now id ++ us) (sym (by_none id off))) (other id off).1

        licensed : (id : ℕ) → (touches_object n id ≡ true) ⊎ (touches_object n id ≡ false) → AreLicensed (handle id) (is_image id) (now id ++ uses_in (commands 0 (n ∷ [])) id)
        licensed id (inl on) = subst (λ us. AreLicensed (handle id) (is_image id) (now id ++ us)) (sym (by_it id on)) (licensed_access (handle id) (is_image id) (now id) (joint_access n id) (grown.licensed id))
        licensed id (inr off) = subst (AreLicensed (handle id) (is_image id)) (sym (append-nil (now id)) ∙ ap (λ us. now id ++ us) (sym (by_none id off))) (grown.licensed id)

    pub with_due_grown : Grown is_image (log ++ commands 0 (with_due is_image uses n)) (λ id. uses id ++ uses_in (commands 0 (with_due is_image uses n)) id)
    with_due_grown =
        same_log (behind ++ Command 0 n ∷ []) (log ++ commands 0 (with_due is_image uses n)) (λ id. uses id ++ uses_in (commands 0 (with_due is_image uses n)) id)
        (append_assoc log (commands 0 fences) (Command 0 n ∷ []) ∙ ap (λ l. log ++ l) (sym (map-append (Command 0) fences (n ∷ []))))
        (same_uses (behind ++ Command 0 n ∷ []) (λ id. now id ++ uses_in (commands 0 (n ∷ [])) id) (λ id. uses id ++ uses_in (commands 0 (with_due is_image uses n)) id)
        (λ id. append_assoc (uses id) (uses_in (commands 0 fences) id) (uses_in (commands 0 (n ∷ [])) id) ∙ ap (λ us. uses id ++ us) (sym (more_nodes uses fences (n ∷ []) id)))
        node_grown)
