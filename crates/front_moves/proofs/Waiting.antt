-- What waiting learns, and how far waiting for the batches that use a buffer has come.
use Rattle.std.proofs.Common.{◌≡◌, ℕ, ◌+◌, ◌*◌, ◌<◌, ◌≤◌, refl, sym, ap, subst, ◌∙◌, arith, inl, inr}
use Rattle.std.specs.Prelude.{◌⊎◌, Option, Some, None, IfSome, IfNone}
use Rattle.std.proofs.lemmas.Bool.{cases_eq, cases_lt, cond-false}
use Rattle.back_core.specs.Own.{last_use}
use Rattle.back_core.specs.Link.{Link, Asked, put}
use Rattle.back_core.specs.Needs.{IsOfGroup, HasBatch}
use Rattle.back_core.specs.Answers.{NowRises, AskedRises, Learns, Loads, Completes}
use Rattle.front_model.specs.declared.object.Object.{Object}
use Rattle.front_model.specs.Face.{Stored, Face, nodes_touch}
use Rattle.front_model.specs.Stands.{Holds, no_hands}
use Rattle.front_model.proofs.Base.{put_at, put-other}
use Rattle.front_model.proofs.LinkSteps.{own_or_not}
use Rattle.front_moves.specs.Core.{IsUntouched, IsRetired}

-- What is learned

now_same : (o : Option (ℕ → ℕ)) → NowRises o o
now_same None = tt
now_same (Some f) = λ index. omega arith

asked_same : (o : Option Asked) → AskedRises o o
asked_same None = tt
asked_same (Some a) = omega arith

pub learns_nothing : (s : Link) → Learns s s
learns_nothing s = record { rest = refl; rises = λ index. omega arith; told = now_same s.now; loaded = asked_same s.asked }

now_then : (o p q : Option (ℕ → ℕ)) → NowRises o p → NowRises p q → NowRises o q
now_then None None None a b = tt
now_then None None (Some h) a b = absurd b
now_then None (Some g) q a b = absurd a
now_then (Some f) None q a b = absurd a
now_then (Some f) (Some g) None a b = absurd b
now_then (Some f) (Some g) (Some h) a b = λ index. let x : f index ≤ g index = a index in let y : g index ≤ h index = b index in omega arith

asked_then : (o p q : Option Asked) → AskedRises o p → AskedRises p q → AskedRises o q
asked_then None None None a b = tt
asked_then None None (Some h) a b = absurd b
asked_then None (Some g) q a b = absurd a
asked_then (Some f) None q a b = absurd a
asked_then (Some f) (Some g) None a b = absurd b
asked_then (Some f) (Some g) (Some h) a b = let x : f.loads ≤ g.loads = a in let y : g.loads ≤ h.loads = b in omega arith

pub learns_then : (s t u : Link) → Learns s t → Learns t u → Learns s u
learns_then s t u a b = record {
  rest = b.rest ∙ ap (λ (x : Link). record x { done = u.done; now = u.now; asked = u.asked }) a.rest;
  rises = λ index. let x : s.done index ≤ t.done index = a.rises index in let y : t.done index ≤ u.done index = b.rises index in omega arith;
  told = now_then s.now t.now u.now a.told b.told;
  loaded = asked_then s.asked t.asked u.asked a.loaded b.loaded;
}

-- What an index's completed number tells is learned

loads_rise : (o p : Option Asked) (index : ℕ) → Loads o p index → AskedRises o p
loads_rise None None index loads = tt
loads_rise None (Some b) index loads = absurd cc
loads_rise (Some a) None index loads = absurd loads
loads_rise (Some a) (Some b) index loads = let more : a.loads < b.loads = loads.0 in omega arith

put_rises : (f : ℕ → ℕ) (index number : ℕ) → f index ≤ number → (i : ℕ) → f i ≤ put f index number i
put_rises f index number low i = elim (cases_eq i index) [
  | inl same ↦
      let now : put f index number i ≡ number = put_at f index number i same in
      let was : f i ≡ f index = ap f same in
      omega arith
  | inr other ↦ let now : put f index number i ≡ f i = put-other f index number i other in omega arith
]

asked_one : (s : Link) (asked : Option Asked) (index number : ℕ) → s.done index ≤ number → AskedRises s.asked asked → Learns s (record s { done = put s.done index number; asked = asked })
asked_one s asked index number low loaded = record { rest = refl; rises = put_rises s.done index number low; told = now_same s.now; loaded = loaded }

pub completed_learns : (s t : Link) (index number : ℕ) → Completes s t index number → Learns s t
completed_learns s t index number is = subst (Learns s) (sym is.rest) (asked_one s t.asked index number is.rises (loads_rise s.asked t.asked index is.loaded))

-- How far waiting has come

-- each batch that uses the object is known to be retired, of the indexes of so many places
pub record WaitedTo (f : Face) (s t : Link) (object : Object) (place : ℕ) : Type 0 where
  pub learns : Learns s t
  pub covered : (i : ℕ) (x : Stored) → 8 * f.group ≤ i → i < 8 * f.group + place → f.objects object ≡ Some x → last_use s.mine i x.handle ≤ t.done i

pub waited_to_none : (f : Face) (s : Link) (object : Object) → WaitedTo f s s object 0
waited_to_none f s object = record { learns = learns_nothing s; covered = λ i x low high is. absurd (omega arith) }

-- what is used without being pending was handed over
pub used_is : (f : Face) (s : Link) (object : Object) (index number : ℕ) (x : Stored) → Holds f no_hands s → IsUntouched f object → f.objects object ≡ Some x →
    number ≡ x.slot.used index → last_use s.mine index x.handle ≡ number
used_is f s object index number x h apart is n =
    sym (n ∙ (h.objects object x is).slot.used index
    ∙ cond-false (nodes_touch (f.pending index) x.handle) (f.last index + 1) (last_use s.mine index x.handle) (apart index x is))

pub if_some_at : (P : Stored → Type 0) (o : Option Stored) (x : Stored) → IfSome o P → o ≡ Some x → P x
if_some_at P (Some y) x p e = subst P (let is : y ≡ x = cc in is) p
if_some_at P None x p e = absurd cc

-- the object of which a use is known
pub used_by : (o : Option Stored) (index number : ℕ) → IfSome o (λ x. number ≡ x.slot.used index) → IfNone o (number ≡ 0) → 0 < number →
    (x : Stored) × (o ≡ Some x) × (number ≡ x.slot.used index)
used_by (Some x) index number used none some = (x, refl, used)
used_by None index number used none some = absurd (let e : number ≡ 0 = none in omega arith)

-- one more index
pub waited_more : (f : Face) (s t u : Link) (object : Object) (place index number : ℕ) → Holds f no_hands s → IsUntouched f object → WaitedTo f s t object place → Learns t u →
    index ≡ 8 * f.group + place → IfSome (f.objects object) (λ x. number ≡ x.slot.used index) → number ≤ u.done index → WaitedTo f s u object (place + 1)
waited_more f s t u object place index number h apart waited more at used reached = record {
  learns = learns_then s t u waited.learns more;
  covered = λ i x low high is. go i x low high is (cases_lt i (8 * f.group + place));
}
  where
    go : (i : ℕ) (x : Stored) → 8 * f.group ≤ i → i < 8 * f.group + (place + 1) → f.objects object ≡ Some x → (i < 8 * f.group + place) ⊎ (8 * f.group + place ≤ i) →
        last_use s.mine i x.handle ≤ u.done i
    go i x low high is (inl below) =
        let before : last_use s.mine i x.handle ≤ t.done i = waited.covered i x low below is in
        let rises : t.done i ≤ u.done i = more.rises i in
        omega arith
    go i x low high is (inr past) =
        let here : index ≡ i = omega arith in
        let n : number ≡ x.slot.used index = if_some_at (λ y. number ≡ y.slot.used index) (f.objects object) x used is in
        let is_used : last_use s.mine index x.handle ≡ number = used_is f s object index number x h apart is n in
        subst (λ j. last_use s.mine j x.handle ≤ u.done j) here (omega arith)

-- all of them
pub waited_all : (f : Face) (s t : Link) (object : Object) → Holds f no_hands s → WaitedTo f s t object 8 → IsRetired f t object
waited_all f s t object h waited i x is = subst (λ m. last_use m i x.handle ≤ t.done i) (sym (ap (λ (l : Link). l.mine) waited.learns.rest)) (go (own_or_not f.group i))
  where
    go : IsOfGroup f.group i ⊎ (IsOfGroup f.group i → ⊥) → last_use s.mine i x.handle ≤ t.done i
    go (inl own) = waited.covered i x own.0 own.1 is
    go (inr far) = let none : last_use s.mine i x.handle ≡ 0 = h.foreign i x.handle far in omega arith

-- A batch

-- a number up to the last one of an index is that of a batch
pub batch_is : (f : Face) (s : Link) (index number : ℕ) → Holds f no_hands s → IsOfGroup f.group index → 1 ≤ number → number ≤ f.last index → HasBatch s index number
batch_is f s index number h own some low = (some, subst (λ n. number ≤ n) (h.last index own) low)
