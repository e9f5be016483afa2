-- The pending nodes of all contexts as one list: those of one context change places with the others'.
use Rattle.std.proofs.Common.{◌≡◌, ◌≢◌, ℕ, ◌+◌, ◌*◌, ◌<◌, ◌≤◌, zero, suc, List, [], ◌∷◌, ◌++◌, false, refl, sym, ◌∙◌, ap, subst, arith, inl, inr}
use Rattle.std.specs.Prelude.{All}
use Rattle.std.specs.List.{flat_map, range_with_len, AllByRecursion}
use Rattle.std.proofs.lemmas.Bool.{cases_eq}
use Rattle.std.proofs.lemmas.List.{append-nil, append_assoc, map-append}
use Rattle.std.proofs.lemmas.List.Elements.{recursion_from_All}
use Rattle.std.proofs.lemmas.List.Concat.{flat_map-append}
use Rattle.vk_types.specs.declared.ops.Node.{Node}
use Rattle.vk_model.specs.Log.{Item, Command, IsSound, NoneEmpty, NoConflict, commands, conflict}
use Rattle.back_core.specs.Link.{put}
use Rattle.back_core.specs.Needs.{IsOfGroup}
use Rattle.front_model.specs.Face.{indexes_of}
use Rattle.front_model.specs.Stands.{AreRecordable}
use Rattle.front_model.proofs.Base.{put-same, put-other}
use Rattle.front_model.proofs.Sounds.{recordable_left, recordable_right, recordable-append}

-- Lists that hold everywhere

pub each-append : {X : Type 0} (P : X → Type 0) (xs ys : List X) → AllByRecursion P xs → AllByRecursion P ys → AllByRecursion P (xs ++ ys)
each-append P [] ys a b = b
each-append P (x ∷ xs) ys a b = (a.0, each-append P xs ys a.1 b)

-- Lists that do not conflict

pub none_left : (ys : List Node) → NoConflict [] ys
none_left ys = tt

pub none_right : (xs : List Node) → NoConflict xs []
none_right [] = tt
none_right (x ∷ xs) = (tt, none_right xs)

pub apart_left : (xs ys zs : List Node) → NoConflict xs zs → NoConflict ys zs → NoConflict (xs ++ ys) zs
apart_left xs ys zs a b = each-append (λ x. AllByRecursion (λ z. conflict x z ≡ false) zs) xs ys a b

pub apart_right : (xs ys zs : List Node) → NoConflict xs ys → NoConflict xs zs → NoConflict xs (ys ++ zs)
apart_right [] ys zs a b = tt
apart_right (x ∷ xs) ys zs a b = (each-append (λ y. conflict x y ≡ false) ys zs a.0 b.0, apart_right xs ys zs a.1 b.1)

-- that a conflict goes both ways
abbrev pub Mutual : Type 0
Mutual = (a b : Node) → conflict a b ≡ conflict b a

apart_cons : Mutual → (x : Node) (xs ys : List Node) → AllByRecursion (λ y. conflict x y ≡ false) ys → NoConflict ys xs → NoConflict ys (x ∷ xs)
apart_cons turn x xs [] a b = tt
apart_cons turn x xs (y ∷ ys) a b = ((turn y x ∙ a.0, b.0), apart_cons turn x xs ys a.1 b.1)

pub apart_turned : Mutual → (xs ys : List Node) → NoConflict xs ys → NoConflict ys xs
apart_turned turn [] ys a = none_right ys
apart_turned turn (x ∷ xs) ys a = apart_cons turn x xs ys a.0 (apart_turned turn xs ys a.1)

-- Indexes before and after one

pub record Split (xs : List ℕ) (index : ℕ) : Type 0 where
  pub front : List ℕ
  pub back : List ℕ
  pub is : xs ≡ front ++ index ∷ back
  pub others_front : AllByRecursion (λ i. i ≢ index) front
  pub others_back : AllByRecursion (λ i. i ≢ index) back

range_above : (a n index : ℕ) → index < a → AllByRecursion (λ i. i ≢ index) (range_with_len a n)
range_above a zero index lt = tt
range_above a (suc n) index lt = ((λ e. absurd (omega arith)), range_above (a + 1) n index (omega arith))

split_range : (a n index : ℕ) → a ≤ index → index < a + n → Split (range_with_len a n) index
split_range a zero index low high = absurd (omega arith)
split_range a (suc n) index low high = elim (cases_eq a index) [
  | inl same ↦ record {
    front = [];
    back = range_with_len (a + 1) n;
    is = ap (λ i. i ∷ range_with_len (a + 1) n) same;
    others_front = tt;
    others_back = range_above (a + 1) n index (omega arith);
  }
  | inr other ↦
      let rest = split_range (a + 1) n index (omega (arith, other)) (omega arith) in
      record {
        front = a ∷ rest.front;
        back = rest.back;
        is = ap (λ l. a ∷ l) rest.is;
        others_front = (other, rest.others_front);
        others_back = rest.others_back;
      }
]

pub split : (group index : ℕ) → IsOfGroup group index → Split (indexes_of group) index
split group index own = split_range (8 * group) 8 index own.0 own.1

-- what holds of each other context's nodes, and is kept by joining, holds of all of them joined
pub gathered : (P : List Node → Type 0) (pending : ℕ → List Node) (index : ℕ) → P [] → ((xs ys : List Node) → P xs → P ys → P (xs ++ ys)) → ((i : ℕ) → i ≢ index → P (pending i))
    → (xs : List ℕ) → AllByRecursion (λ i. i ≢ index) xs → P (flat_map pending xs)
gathered P pending index none join each [] others = none
gathered P pending index none join each (i ∷ xs) others = join (pending i) (flat_map pending xs) (each i others.0) (gathered P pending index none join each xs others.1)

same_others : (pending : ℕ → List Node) (index : ℕ) (nodes : List Node) (xs : List ℕ) → AllByRecursion (λ i. i ≢ index) xs → flat_map (put pending index nodes) xs ≡ flat_map pending xs
same_others pending index nodes [] others = refl
same_others pending index nodes (i ∷ xs) others =
    ap (λ l. l ++ flat_map (put pending index nodes) xs) (put-other pending index nodes i others.0) ∙ ap (λ l. pending i ++ l) (same_others pending index nodes xs others.1)

module _ (pending : ℕ → List Node) (xs : List ℕ) (index : ℕ) (at : Split xs index) where
  -- the pending nodes of the contexts before it, and of those after it
  pub before : List Node
  before = flat_map pending at.front

  pub behind : List Node
  behind = flat_map pending at.back

  pub order_now : flat_map pending xs ≡ before ++ (pending index ++ behind)
  unfolding before behind
  order_now = ap (flat_map pending) at.is ∙ flat_map-append pending at.front (index ∷ at.back)

  pub order_with : (nodes : List Node) → flat_map (put pending index nodes) xs ≡ before ++ (nodes ++ behind)
  unfolding before behind
  order_with nodes =
      ap (flat_map (put pending index nodes)) at.is ∙ flat_map-append (put pending index nodes) at.front (index ∷ at.back)
      ∙ ap (λ l. l ++ (put pending index nodes index ++ flat_map (put pending index nodes) at.back)) (same_others pending index nodes at.front at.others_front)
      ∙ ap (λ l. before ++ (l ++ flat_map (put pending index nodes) at.back)) (put-same pending index nodes)
      ∙ ap (λ l. before ++ (nodes ++ l)) (same_others pending index nodes at.back at.others_back)

  pub before_all : (P : List Node → Type 0) → P [] → ((ys zs : List Node) → P ys → P zs → P (ys ++ zs)) → ((i : ℕ) → i ≢ index → P (pending i)) → P before
  unfolding before
  before_all P none join each = gathered P pending index none join each at.front at.others_front

  pub behind_all : (P : List Node → Type 0) → P [] → ((ys zs : List Node) → P ys → P zs → P (ys ++ zs)) → ((i : ℕ) → i ≢ index → P (pending i)) → P behind
  unfolding behind
  behind_all P none join each = gathered P pending index none join each at.back at.others_back

-- Lists of nodes that change places

-- the law on lists without a conflict
abbrev pub ChangePlaces : Type 0
ChangePlaces = (q : ℕ) (front back : List Item) (xs ys : List Node) → AllByRecursion NoneEmpty xs → AllByRecursion NoneEmpty ys → NoConflict xs ys →
    IsSound (front ++ (commands q xs ++ (commands q ys ++ back))) → IsSound (front ++ (commands q ys ++ (commands q xs ++ back)))

-- the commands of nodes in three parts, behind a log
three_parts : (log : List Item) (xs ys zs : List Node) → log ++ commands 0 (xs ++ (ys ++ zs)) ≡ log ++ (commands 0 xs ++ (commands 0 ys ++ commands 0 zs))
three_parts log xs ys zs = ap (λ l. log ++ l) (map-append (Command 0) xs (ys ++ zs) ∙ ap (λ l. commands 0 xs ++ l) (map-append (Command 0) ys zs))

-- the middle part comes to the front
to_front : ChangePlaces → (log : List Item) (xs ys zs : List Node) → AllByRecursion NoneEmpty xs → AllByRecursion NoneEmpty ys → NoConflict xs ys
    → IsSound (log ++ commands 0 (xs ++ (ys ++ zs))) → IsSound ((log ++ commands 0 ys) ++ commands 0 (xs ++ zs))
to_front change log xs ys zs some_x some_y apart sound =
    subst IsSound (sym (append_assoc log (commands 0 ys) (commands 0 (xs ++ zs)) ∙ ap (λ l. log ++ (commands 0 ys ++ l)) (map-append (Command 0) xs zs)))
    (change 0 log (commands 0 zs) xs ys some_x some_y apart (subst IsSound (three_parts log xs ys zs) sound))

-- what is added at the end comes before the last part
from_end : ChangePlaces → (log : List Item) (xs zs nodes : List Node) → AllByRecursion NoneEmpty zs → AllByRecursion NoneEmpty nodes → NoConflict zs nodes
    → IsSound ((log ++ commands 0 (xs ++ zs)) ++ commands 0 nodes) → IsSound (log ++ commands 0 (xs ++ (nodes ++ zs)))
from_end change log xs zs nodes some_z some_n apart sound =
    subst IsSound (append_assoc log (commands 0 xs) (commands 0 nodes ++ (commands 0 zs ++ []))
    ∙ ap (λ l. log ++ (commands 0 xs ++ (commands 0 nodes ++ l))) (append-nil (commands 0 zs)) ∙ sym (three_parts log xs nodes zs))
    (change 0 (log ++ commands 0 xs) [] zs nodes some_z some_n apart (subst IsSound start sound))
  where
    start : (log ++ commands 0 (xs ++ zs)) ++ commands 0 nodes ≡ (log ++ commands 0 xs) ++ (commands 0 zs ++ (commands 0 nodes ++ []))
    start = ap (λ l. (log ++ l) ++ commands 0 nodes) (map-append (Command 0) xs zs)
        ∙ ap (λ l. l ++ commands 0 nodes) (sym (append_assoc log (commands 0 xs) (commands 0 zs)))
        ∙ append_assoc (log ++ commands 0 xs) (commands 0 zs) (commands 0 nodes)
        ∙ ap (λ l. (log ++ commands 0 xs) ++ (commands 0 zs ++ l)) (sym (append-nil (commands 0 nodes)))

abbrev pub AreApart : (ℕ → List Node) → Type 0
AreApart pending = (i j : ℕ) → i ≢ j → NoConflict (pending i) (pending j)

abbrev pub HaveNoneEmpty : (ℕ → List Node) → Type 0
HaveNoneEmpty pending = (i : ℕ) → All NoneEmpty (pending i)

module _ (pending : ℕ → List Node) (xs : List ℕ) (index : ℕ) (at : Split xs index) (log : List Item) where
  -- the nodes of one context become a batch
  pub sound_flushed : ChangePlaces → AreApart pending → HaveNoneEmpty pending → IsSound (log ++ commands 0 (flat_map pending xs)) → IsSound ((log ++ commands 0 (pending index)) ++ commands 0 (flat_map (put pending index []) xs))
  sound_flushed change apart some sound =
      subst (λ l. IsSound ((log ++ commands 0 (pending index)) ++ commands 0 l)) (sym (order_with pending xs index at []))
      (to_front change log (before pending xs index at) (pending index) (behind pending xs index at)
      (before_all pending xs index at (AllByRecursion NoneEmpty) tt (each-append NoneEmpty) (λ i ne. recursion_from_All NoneEmpty (pending i) (some i)))
      (recursion_from_All NoneEmpty (pending index) (some index))
      (before_all pending xs index at (λ l. NoConflict l (pending index)) tt (λ ys zs. apart_left ys zs (pending index)) (λ i ne. apart i index ne))
      (subst (λ l. IsSound (log ++ commands 0 l)) (order_now pending xs index at) sound))

  -- what is pending in one context may be recorded where all may
  pub recordable_pending : AreRecordable (log ++ commands 0 (flat_map pending xs)) → AreRecordable (commands 0 (pending index))
  recordable_pending all =
      let a : List Node = before pending xs index at in
      let b : List Node = behind pending xs index at in
      let now : AreRecordable (log ++ (commands 0 a ++ (commands 0 (pending index) ++ commands 0 b)))
      = subst AreRecordable (ap (λ l. log ++ commands 0 l) (order_now pending xs index at) ∙ three_parts log a (pending index) b) all in
      recordable_left (commands 0 (pending index)) (commands 0 b)
      (recordable_right (commands 0 a) (commands 0 (pending index) ++ commands 0 b) (recordable_right log (commands 0 a ++ (commands 0 (pending index) ++ commands 0 b)) now))

  pub recordable_flushed : AreRecordable (log ++ commands 0 (flat_map pending xs)) → AreRecordable ((log ++ commands 0 (pending index)) ++ commands 0 (flat_map (put pending index []) xs))
  recordable_flushed all =
      let a : List Node = before pending xs index at in
      let b : List Node = behind pending xs index at in
      let now : AreRecordable (log ++ (commands 0 a ++ (commands 0 (pending index) ++ commands 0 b)))
      = subst AreRecordable (ap (λ l. log ++ commands 0 l) (order_now pending xs index at) ∙ three_parts log a (pending index) b) all in
      let first = recordable_left log (commands 0 a ++ (commands 0 (pending index) ++ commands 0 b)) now in
      let rest = recordable_right log (commands 0 a ++ (commands 0 (pending index) ++ commands 0 b)) now in
      let front = recordable_left (commands 0 a) (commands 0 (pending index) ++ commands 0 b) rest in
      let back = recordable_right (commands 0 a) (commands 0 (pending index) ++ commands 0 b) rest in
      subst (λ l. AreRecordable ((log ++ commands 0 (pending index)) ++ l)) (sym (ap (commands 0) (order_with pending xs index at []) ∙ map-append (Command 0) a b))
      (recordable-append (log ++ commands 0 (pending index)) (commands 0 a ++ commands 0 b)
      (recordable-append log (commands 0 (pending index)) first (recordable_left (commands 0 (pending index)) (commands 0 b) back))
      (recordable-append (commands 0 a) (commands 0 b) front (recordable_right (commands 0 (pending index)) (commands 0 b) back)))

  -- nodes are recorded in one context
  pub sound_recorded : ChangePlaces → Mutual → HaveNoneEmpty pending → (nodes : List Node) → All NoneEmpty nodes → ((i : ℕ) → i ≢ index → NoConflict nodes (pending i))
      → IsSound ((log ++ commands 0 (flat_map pending xs)) ++ commands 0 nodes) → IsSound (log ++ commands 0 (flat_map (put pending index (pending index ++ nodes)) xs))
  sound_recorded change turn some nodes some_nodes apart sound =
      let a : List Node = before pending xs index at in
      let b : List Node = behind pending xs index at in
      subst (λ l. IsSound (log ++ commands 0 l)) (append_assoc a (pending index) (nodes ++ b) ∙ ap (λ l. a ++ l) (sym (append_assoc (pending index) nodes b)) ∙ sym (order_with pending xs index at (pending index ++ nodes)))
      (from_end change log (a ++ pending index) b nodes
      (behind_all pending xs index at (AllByRecursion NoneEmpty) tt (each-append NoneEmpty) (λ i ne. recursion_from_All NoneEmpty (pending i) (some i)))
      (recursion_from_All NoneEmpty nodes some_nodes)
      (behind_all pending xs index at (λ l. NoConflict l nodes) tt (λ ys zs. apart_left ys zs nodes) (λ i ne. apart_turned turn nodes (pending i) (apart i ne)))
      (subst (λ l. IsSound ((log ++ commands 0 l) ++ commands 0 nodes)) (order_now pending xs index at ∙ sym (append_assoc a (pending index) b)) sound))

  pub recordable_recorded : (nodes : List Node) → AreRecordable (commands 0 nodes) → AreRecordable (log ++ commands 0 (flat_map pending xs)) → AreRecordable (log ++ commands 0 (flat_map (put pending index (pending index ++ nodes)) xs))
  recordable_recorded nodes own all =
      let a : List Node = before pending xs index at in
      let b : List Node = behind pending xs index at in
      let now : AreRecordable (log ++ (commands 0 a ++ (commands 0 (pending index) ++ commands 0 b)))
      = subst AreRecordable (ap (λ l. log ++ commands 0 l) (order_now pending xs index at) ∙ three_parts log a (pending index) b) all in
      let first = recordable_left log (commands 0 a ++ (commands 0 (pending index) ++ commands 0 b)) now in
      let rest = recordable_right log (commands 0 a ++ (commands 0 (pending index) ++ commands 0 b)) now in
      let front = recordable_left (commands 0 a) (commands 0 (pending index) ++ commands 0 b) rest in
      let back = recordable_right (commands 0 a) (commands 0 (pending index) ++ commands 0 b) rest in
      let is : log ++ (commands 0 a ++ ((commands 0 (pending index) ++ commands 0 nodes) ++ commands 0 b)) ≡ log ++ commands 0 (flat_map (put pending index (pending index ++ nodes)) xs)
      = ap (λ l. log ++ (commands 0 a ++ (l ++ commands 0 b))) (sym (map-append (Command 0) (pending index) nodes)) ∙ sym (three_parts log a (pending index ++ nodes) b) ∙ ap (λ l. log ++ commands 0 l) (sym (order_with pending xs index at (pending index ++ nodes))) in
      subst AreRecordable is
      (recordable-append log (commands 0 a ++ ((commands 0 (pending index) ++ commands 0 nodes) ++ commands 0 b)) first
      (recordable-append (commands 0 a) ((commands 0 (pending index) ++ commands 0 nodes) ++ commands 0 b) front
      (recordable-append (commands 0 (pending index) ++ commands 0 nodes) (commands 0 b)
      (recordable-append (commands 0 (pending index)) (commands 0 nodes) (recordable_left (commands 0 (pending index)) (commands 0 b) back) own)
      (recordable_right (commands 0 (pending index)) (commands 0 b) back))))
