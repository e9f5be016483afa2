-- The objects of a group have what the group's own list makes of them.
use mathlib.Core.Path.{fun_ext}
use Rattle.std.proofs.Common.{◌≡◌, ℕ, suc, List, [], ◌∷◌, ◌++◌, Bool, true, false, cond, eqb, refl, sym, ◌∙◌, ap, subst, inl, inr}
use Rattle.std.specs.Prelude.{◌⊎◌, ◌||◌, Option, Some, None, map, slice_get}
use Rattle.std.specs.List.{list_any, cons_option}
use Rattle.std.proofs.lemmas.Bool.{false≢true, cases_Bool, eqb-true, eq-eqb, or_cases, or_left, or_right, and_parts, false_from_ne_true}
use Rattle.vk_types.specs.declared.handles.Kind.{Kind}
use Rattle.vk_types.specs.declared.regions.Touch.{Touch}
use Rattle.vk_types.specs.declared.ops.Node.{Node}
use Rattle.vk_types.specs.Touches.{touches}
use Rattle.vk_model.specs.Cells.{Contents}
use Rattle.vk_model.specs.Log.{Item, Command, HostWrite, Wait, Signal, node_range, ranges, touches_object}
use Rattle.vk_model.specs.Meaning.{nothing, covers, is_touched, is_written, found, item_cell, apply, after_all, eval, touches_id}
use Rattle.vk_model.specs.Queues.{in_group, group_list, IsInOneGroup, HasGroups}
use Rattle.vk_model.proofs.Local.{found_same}
use Rattle.vk_model.proofs.Order.{after_all-append, after_untouched}
use Rattle.vk_model.proofs.Handover.{plain, in_group_of}

-- an element that passes a test
pub record Witness {X : Type 0} (p : X → Bool) (xs : List X) : Type 0 where
  pub element : X
  pub passes : p element ≡ true
  pub inside : (q : X → Bool) → q element ≡ true → list_any q xs ≡ true

pub witness : {X : Type 0} (p : X → Bool) (xs : List X) → list_any p xs ≡ true → Witness p xs
witness p [] e = absurd (false≢true e)
witness {X} p (x ∷ xs) e = go (or_cases (p x) (list_any p xs) e) (witness p xs)
  where
    go : (p x ≡ true) ⊎ (list_any p xs ≡ true) → (list_any p xs ≡ true → Witness p xs) → Witness p (x ∷ xs)
    go (inl f) rest = record { element = x; passes = f; inside = λ q g. or_left (q x) (list_any q xs) g }
    go (inr f) rest = let w = rest f in record { element = w.element; passes = w.passes; inside = λ q g. or_right (q x) (list_any q xs) (w.inside q g) }

-- a node touches an object by its ranges as by its touches
pub touches_id_is : (q : ℕ) (n : Node) (id : ℕ) → touches_id (Command q n) id ≡ touches_object n id
touches_id_is q n id = go (touches n)
  where
    go : (ts : List Touch) → list_any (λ r. eqb r.id id) (map (node_range n) ts) ≡ list_any (λ t. eqb t.id.0 id) ts
    go [] = refl
    go (t ∷ ts) = ap (λ b. eqb t.id.0 id || b) (go ts)

pub object_of_touched : (x : Item) (id i : ℕ) → is_touched x id i ≡ true → touches_id x id ≡ true
object_of_touched x id i e =
    let w : Witness (covers id i) (ranges x) = witness (covers id i) (ranges x) e in
    w.inside (λ r. eqb r.id id) (and_parts (eqb w.element.id id) _ (and_parts _ _ w.passes).0).0

-- contents that are the same at a group's objects
abbrev pub SameIn : (ℕ → ℕ) → ℕ → Contents → Contents → Type 0
SameIn group_of g c d = (id : ℕ) → group_of id ≡ g → c id ≡ d id

module _ (kinds : ℕ → Kind) (group_of : ℕ → ℕ) (g : ℕ) where
  same_after : (x : Item) (c d : Contents) → SameIn group_of g c d → ((id : ℕ) → touches_id x id ≡ true → group_of id ≡ g) → SameIn group_of g (apply kinds x c) (apply kinds x d)
  same_after x c d same inside id of = fun_ext (λ i. ap (λ f. cond (is_written x id i) (item_cell kinds x f id i) (c id i)) (found_same x c d (λ id' i' t. ap (λ f. f i') (same id' (inside id' (object_of_touched x id' i' t))))) ∙ ap (λ f. cond (is_written x id i) (item_cell kinds x (found x d) id i) (f i)) (same id of))

  same_unless : (x : Item) (c d : Contents) → SameIn group_of g c d → ((id : ℕ) → group_of id ≡ g → touches_id x id ≡ false) → SameIn group_of g (apply kinds x c) d
  same_unless x c d same outside id of = after_untouched kinds x id (outside id of) c ∙ same id of

  -- one item, and what the group's list has of it
  same_step : (x : Item) (o : Option Item) → in_group group_of g x ≡ o → ((q : ℕ) (n : Node) → x ≡ Command q n → IsInOneGroup group_of n) → (c d : Contents) → SameIn group_of g c d → SameIn group_of g (apply kinds x c) (after_all kinds (cons_option o []) d)
  same_step (Command q n) (Some y) is one c d same =
      subst (λ z. SameIn group_of g (apply kinds (Command q n) c) (apply kinds z d)) (sym (plain group_of g (Command q n) y is))
      (same_after (Command q n) c d same (λ id t. member (cases_Bool (list_any (λ t. eqb (group_of t.id.0) g) (touches n))) id (sym (touches_id_is q n id) ∙ t)))
    where
      none : list_any (λ t. eqb (group_of t.id.0) g) (touches n) ≡ false → ◌≡◌ {A = Option Item} None (Some y)
      none e = sym (ap (λ b. cond b (Some (Command 0 n)) None) e) ∙ is

      member : (list_any (λ t. eqb (group_of t.id.0) g) (touches n) ≡ true) ⊎ (list_any (λ t. eqb (group_of t.id.0) g) (touches n) ≡ false) → (id : ℕ) → touches_object n id ≡ true → group_of id ≡ g
      member (inl e) id t =
          let w : Witness (λ t. eqb (group_of t.id.0) g) (touches n) = witness (λ t. eqb (group_of t.id.0) g) (touches n) e in
          one q n refl id w.element.id.0 t (w.inside (λ t. eqb t.id.0 w.element.id.0) (eq-eqb w.element.id.0 w.element.id.0 refl)) ∙ eqb-true (group_of w.element.id.0) g w.passes
      member (inr e) id t = let both : ◌≡◌ {A = Option Item} None (Some y) = none e in cc
  same_step (Command q n) None is one c d same =
      same_unless (Command q n) c d same (λ id of. false_from_ne_true (touches_id (Command q n) id) (λ t.
      let some : in_group group_of (group_of id) (Command q n) ≡ Some (Command 0 n) = in_group_of group_of q n id (sym (touches_id_is q n id) ∙ t) in
      let both : ◌≡◌ {A = Option Item} None (Some (Command 0 n)) = sym is ∙ subst (λ h. in_group group_of h (Command q n) ≡ Some (Command 0 n)) of some in
      cc))
  same_step (HostWrite at start bytes) (Some y) is one c d same =
      subst (λ z. SameIn group_of g (apply kinds (HostWrite at start bytes) c) (apply kinds z d)) (sym (plain group_of g (HostWrite at start bytes) y is))
      (same_after (HostWrite at start bytes) c d same (λ id t. elim (or_cases (eqb at id) false t) [ inl e ↦ ap group_of (sym (eqb-true at id e)) ∙ member (cases_Bool (eqb (group_of at) g)) | inr e ↦ absurd (false≢true e) ]))
    where
      none : eqb (group_of at) g ≡ false → ◌≡◌ {A = Option Item} None (Some y)
      none e = sym (ap (λ b. cond b (Some (HostWrite at start bytes)) None) e) ∙ is

      member : (eqb (group_of at) g ≡ true) ⊎ (eqb (group_of at) g ≡ false) → group_of at ≡ g
      member (inl e) = eqb-true (group_of at) g e
      member (inr e) = let both : ◌≡◌ {A = Option Item} None (Some y) = none e in cc
  same_step (HostWrite at start bytes) None is one c d same =
      same_unless (HostWrite at start bytes) c d same (λ id of. false_from_ne_true (touches_id (HostWrite at start bytes) id) (λ t.
      elim (or_cases (eqb at id) false t) [ inl e ↦ none id of (eqb-true at id e) | inr e ↦ false≢true e ]))
    where
      none : (id : ℕ) → group_of id ≡ g → at ≡ id → ⊥
      none id of e =
          let both : ◌≡◌ {A = Option Item} None (Some (HostWrite at start bytes)) = sym is ∙ ap (λ b. cond b (Some (HostWrite at start bytes)) None) (eq-eqb (group_of at) g (ap group_of e ∙ of)) in
          cc
  same_step (Wait q n) (Some y) is one c d same = absurd (plain group_of g (Wait q n) y is)
  same_step (Wait q n) None is one c d same = same
  same_step (Signal q n) (Some y) is one c d same = absurd (plain group_of g (Signal q n) y is)
  same_step (Signal q n) None is one c d same = same

  after_cons : (o : Option Item) (rest : List Item) (d : Contents) → after_all kinds (cons_option o rest) d ≡ after_all kinds rest (after_all kinds (cons_option o []) d)
  after_cons None rest d = refl
  after_cons (Some y) rest d = refl

  same_all : (log : List Item) → HasGroups group_of log → (c d : Contents) → SameIn group_of g c d → SameIn group_of g (after_all kinds log c) (after_all kinds (group_list group_of g log) d)
  same_all [] groups c d same = same
  same_all (x ∷ log) groups c d same =
      subst (SameIn group_of g (after_all kinds log (apply kinds x c))) (sym (after_cons (in_group group_of g x) (group_list group_of g log) d))
      (same_all log (λ k q n at. groups (suc k) q n at) (apply kinds x c) (after_all kinds (cons_option (in_group group_of g x) []) d)
      (same_step x (in_group group_of g x) refl (λ q n e. groups 0 q n (ap Some e)) c d same))

-- an object has what its group's list makes of it
pub eval_of_group : (kinds : ℕ → Kind) (group_of : ℕ → ℕ) (log : List Item) (id : ℕ) → HasGroups group_of log → eval kinds log id ≡ eval kinds (group_list group_of (group_of id) log) id
eval_of_group kinds group_of log id groups = same_all kinds group_of (group_of id) log groups nothing nothing (λ id of. refl) id refl

-- items that don't touch an object at the end of a log
pub after_all_untouched : (kinds : ℕ → Kind) (more : List Item) (id : ℕ) → ((k : ℕ) (x : Item) → slice_get more k ≡ Some x → touches_id x id ≡ false) → (c : Contents) → after_all kinds more c id ≡ c id
after_all_untouched kinds [] id none c = refl
after_all_untouched kinds (x ∷ more) id none c = after_all_untouched kinds more id (λ k y at. none (suc k) y at) (apply kinds x c) ∙ after_untouched kinds x id (none 0 x refl) c

pub eval_untouched : (kinds : ℕ → Kind) (log more : List Item) (id : ℕ) → ((k : ℕ) (x : Item) → slice_get more k ≡ Some x → touches_id x id ≡ false) → eval kinds (log ++ more) id ≡ eval kinds log id
eval_untouched kinds log more id none = ap (λ c. c id) (after_all-append kinds log more nothing) ∙ after_all_untouched kinds more id none (eval kinds log)
