-- What waits on an object is taken out, and what waits behind it moves down by one place.
use Rattle.std.specs.Prelude.{unwrap_or}
use Rattle.barriers.specs.Trackers.{new_tracker}
use Rattle.barriers.specs.Recording.{handle}
use Rattle.object_helper.specs.Objects.{is_image}
use Rattle.front_model.specs.Stands.{IsTrackedBy}
use Rattle.vk_types.specs.declared.handles.Kind.TheVariants as kinds
use Rattle.std.proofs.Common.{◌≡◌, ◌≢◌, ℕ, ◌-◌, ◌<◌, ◌≤◌, zero, suc, cond, List, [], ◌∷◌, refl, sym, ◌∙◌, ap, subst, arith, inl, inr}
use Rattle.std.specs.Prelude.{◌⊎◌, ◌&&◌, nat_lt, Some, None, slice_get}
use Rattle.std.proofs.lemmas.Bool.{cases_eq, cond-true, cond-false, and_left, and_right, and_from, lt-ltb, le-ltb}
use Rattle.std.proofs.lemmas.Option.{none-some, same_Some}
use Rattle.vk_types.specs.declared.handles.Kind.{Kind}
use Rattle.vk_types.specs.declared.ops.Node.{Node}
use Rattle.back_core.specs.Link.{Link, put}
use Rattle.front_model.specs.declared.object.Object.{Object}
use Rattle.front_model.specs.Face.{Waiting, Stored, Face, same_object}
use Rattle.front_model.specs.Stands.{Hands, Owner, Store, Staging, InHand, StagingStands, StoredStands, HasHandle, Holds}
use Rattle.front_model.specs.Steps.{fresh_slot, with_object, without_place, taken_from}
use Rattle.front_model.proofs.Base.{put-same, put-other, put_at, put-some, is_some_of, same_object-self, same_object-other}
use Rattle.front_model.proofs.Standing.{SameSlot, slot_kept, waiting_kept, hand_kept, staging_stands}
use Rattle.front_model.proofs.ObjectSteps.{IsOwnedBy, object_apart, exchanged, hands_got}

-- A list without one of its places

pub left_from : {X : Type 0} (place : ℕ) (xs : List X) (k : ℕ) (x : X) → slice_get (without_place place xs) k ≡ Some x → ((k < place) × (slice_get xs k ≡ Some x)) ⊎ ((place ≤ k) × (slice_get xs (suc k) ≡ Some x))
left_from place [] k x at = absurd (none-some x at)
left_from zero (y ∷ ys) k x at = inr (omega arith, at)
left_from (suc place) (y ∷ ys) zero x at = inl (omega arith, at)
left_from (suc place) (y ∷ ys) (suc k) x at = elim (left_from place ys k x at) [
  | inl e ↦ inl ((let lt : k < place = e.0 in omega arith), e.1)
  | inr e ↦ inr ((let le : place ≤ k = e.0 in omega arith), e.1)
]

pub left_at : {X : Type 0} (place : ℕ) (xs : List X) (k : ℕ) (x : X) → k ≢ place → slice_get xs k ≡ Some x → (j : ℕ) × (slice_get (without_place place xs) j ≡ Some x)
left_at place [] k x ne at = absurd (none-some x at)
left_at zero (y ∷ ys) zero x ne at = absurd (ne refl)
left_at zero (y ∷ ys) (suc k) x ne at = (k, at)
left_at (suc place) (y ∷ ys) zero x ne at = (zero, at)
left_at (suc place) (y ∷ ys) (suc k) x ne at = let rest = left_at place ys k x (λ e. ne (ap suc e)) at in (suc rest.0, rest.1)

-- Owners where what waited at a place was taken out

moved : Object → ℕ → Owner → Owner
moved o place (Store q) = Store q
moved o place (Staging q p) = cond (same_object q o && nat_lt place p) (Staging q (p - 1)) (Staging q p)
moved o place InHand = InHand

module _ (o : Object) (place : ℕ) where
  moved-hand : moved o place InHand ≡ InHand
  unfolding moved
  moved-hand = refl

  moved-store : (q : Object) → moved o place (Store q) ≡ Store q
  unfolding moved
  moved-store q = refl

  moved-other : (q : Object) (p : ℕ) → q ≢ o → moved o place (Staging q p) ≡ Staging q p
  unfolding moved
  moved-other q p ne = cond-false (same_object q o && nat_lt place p) (Staging q (p - 1)) (Staging q p) (and_left (same_object q o) (nat_lt place p) (same_object-other q o ne))

  moved-before : (p : ℕ) → p ≤ place → moved o place (Staging o p) ≡ Staging o p
  unfolding moved
  moved-before p le = cond-false (same_object o o && nat_lt place p) (Staging o (p - 1)) (Staging o p) (and_right (same_object o o) (nat_lt place p) (le-ltb place p le))

  moved-behind : (p : ℕ) → place ≤ p → moved o place (Staging o (suc p)) ≡ Staging o p
  unfolding moved
  moved-behind p le =
      let e : suc p - 1 ≡ p = omega arith in
      cond-true (same_object o o && nat_lt place (suc p)) (Staging o (suc p - 1)) (Staging o (suc p)) (and_from (same_object o o) (nat_lt place (suc p)) (same_object-self o) (lt-ltb place (suc p) (omega arith))) ∙ ap (Staging o) e

-- owners that moved, but maybe that of what was taken out
module _ (owner also : ℕ → Owner) (o : Object) (place : ℕ) (others : (j : ℕ) → owner j ≢ Staging o place → also j ≡ moved o place (owner j)) where
  owner_hand : (j : ℕ) → owner j ≡ InHand → also j ≡ InHand
  owner_hand j of = others j (λ k. let m : InHand ≡ Staging o place = sym of ∙ k in cc) ∙ ap (moved o place) of ∙ moved-hand o place

  owner_store : (q : Object) (j : ℕ) → owner j ≡ Store q → also j ≡ Store q
  owner_store q j of = others j (λ k. let m : Store q ≡ Staging o place = sym of ∙ k in cc) ∙ ap (moved o place) of ∙ moved-store o place q

  owner_other : (q : Object) (p j : ℕ) → q ≢ o → owner j ≡ Staging q p → also j ≡ Staging q p
  owner_other q p j ne of = others j (λ k. let m : Staging q p ≡ Staging o place = sym of ∙ k in ne (cc)) ∙ ap (moved o place) of ∙ moved-other o place q p ne

  owner_before : (j p : ℕ) → p < place → owner j ≡ Staging o p → also j ≡ Staging o p
  owner_before j p lt of =
      others j (λ k. let l : Staging o p ≡ Staging o place = sym of ∙ k in let m : p ≡ place = cc in absurd (omega arith)) ∙ ap (moved o place) of ∙ moved-before o place p (omega arith)

  owner_behind : (j p : ℕ) → place ≤ p → owner j ≡ Staging o (suc p) → also j ≡ Staging o p
  owner_behind j p le of =
      others j (λ k. let l : Staging o (suc p) ≡ Staging o place = sym of ∙ k in let m : suc p ≡ place = cc in absurd (omega arith)) ∙ ap (moved o place) of ∙ moved-behind o place p le

  -- other objects have their handles still
  owner_apart : (q : Object) (j : ℕ) → q ≢ o → IsOwnedBy owner q j → also j ≡ owner j
  owner_apart q j ne (inl of) = owner_store q j of ∙ sym of
  owner_apart q j ne (inr of) = owner_other q of.0 j ne of.1 ∙ sym of.1

  -- the object stands with what is left
  left_stored : (f : Face) (s : Link) (b : Stored) → StoredStands f s owner o b → StoredStands (with_object f o (Some (taken_from b place))) s also o (taken_from b place)
  left_stored f s b u =
      let g : Face = with_object f o (Some (taken_from b place)) in
      let same : (j : ℕ) → SameSlot f g s s j = object_apart f s o (Some (taken_from b place)) in
      record {
        slot = slot_kept f g s s b.handle b.slot (same b.handle) u.slot;
        owned = owner_store o b.handle u.owned;
        waiting = λ p x at. elim (left_from place b.waiting p x at) [
          | inl e ↦ waiting_kept f g s s owner also (λ i kind at. at) o b.handle p p x (λ i is. same i) (λ i is of. owner_before i p e.0 of) (u.waiting p x e.1)
          | inr e ↦ waiting_kept f g s s owner also (λ i kind at. at) o b.handle (suc p) p x (λ i is. same i) (λ i is of. owner_behind i p e.0 of) (u.waiting (suc p) x e.1)
        ];
      }

-- An update is taken out, and its staging buffer is in hand

pub taken_holds : (f : Face) (hands : Hands) (s : Link) (o : Object) (b : Stored) (place id : ℕ) (node : Node) (kind : Kind) → Holds f hands s → f.objects o ≡ Some b
    → slice_get b.waiting place ≡ Some (record { staging = Some id; node = node }) → s.kinds id ≡ Some kind
    → Holds (with_object f o (Some (taken_from b place))) (put hands id (Some (fresh_slot id kind))) s
taken_holds f hands s o b place id node kind h at waits is_kind =
    let w : Waiting = record { staging = Some id; node = node } in
    let c : Stored = taken_from b place in
    let g : Face = with_object f o (Some c) in
    let also : ℕ → Owner = put (λ j. moved o place (h.owner j)) id InHand in
    let u = h.objects o b at in
    let v : StagingStands f s h.owner o place id = staging_stands f s h.owner o b.handle place id w refl (u.waiting place w waits) in
    let others : (j : ℕ) → h.owner j ≢ Staging o place → also j ≡ moved o place (h.owner j)
    = λ j ne. put-other (λ i. moved o place (h.owner i)) id InHand j (λ e. ne (ap h.owner e ∙ v.owned)) in
    exchanged f hands (put hands id (Some (fresh_slot id kind))) s o (Some c) also
    (λ d is. subst (StoredStands g s also o) (same_Some c d is) (left_stored h.owner also o place others f s b u))
    (hands_got f g hands s h.owner also id (fresh_slot id kind) (object_apart f s o (Some c)) (λ j ne of. owner_hand h.owner also o place others j of)
    (record {
      stands = record { held = v.held; kind = is_kind; used = λ index. sym (v.unused index); tracked = subst (λ b. IsTrackedBy f s (new_tracker (handle id) b) id) (ap (λ k. is_image (unwrap_or k (kinds.Buffer 0))) is_kind) v.untracked };
      owned = put-same (λ i. moved o place (h.owner i)) id InHand;
    }) h.hands_stand)
    (λ j known. elim known [
      | inl hand ↦ inl (put-some hands id (fresh_slot id kind) j hand)
      | inr has ↦ let is : has.0 ≡ b = same_Some has.0 b (sym has.1 ∙ at) in elim (subst (λ d. HasHandle d j) is has.2) [
        | inl e ↦ inr (c, refl, inl e)
        | inr e ↦ elim (cases_eq e.0 place) [
          | inl here ↦
              let both : e.1 ≡ w = same_Some e.1 w (sym e.2 ∙ ap (slice_get b.waiting) here ∙ waits) in
              let id_is : j ≡ id = same_Some j id (sym e.3 ∙ ap (λ (x : Waiting). x.staging) both) in
              inl (is_some_of (put hands id (Some (fresh_slot id kind)) j) (fresh_slot id kind) (put_at hands id (Some (fresh_slot id kind)) j id_is))
          | inr there ↦ let now = left_at place b.waiting e.0 e.1 there e.2 in inr (c, refl, inr (now.0, e.1, now.1, e.3))
        ]
      ]
    ])
    h
    (owner_apart h.owner also o place others)

-- A clear is taken out, which has no staging buffer

pub taken_clear_holds : (f : Face) (hands : Hands) (s : Link) (o : Object) (b : Stored) (place : ℕ) (node : Node) → Holds f hands s → f.objects o ≡ Some b
    → slice_get b.waiting place ≡ Some (record { staging = None; node = node })
    → Holds (with_object f o (Some (taken_from b place))) hands s
taken_clear_holds f hands s o b place node h at waits =
    let w : Waiting = record { staging = None; node = node } in
    let c : Stored = taken_from b place in
    let g : Face = with_object f o (Some c) in
    let also : ℕ → Owner = λ j. moved o place (h.owner j) in
    let others : (j : ℕ) → h.owner j ≢ Staging o place → also j ≡ moved o place (h.owner j) = λ j ne. refl in
    exchanged f hands hands s o (Some c) also
    (λ d is. subst (StoredStands g s also o) (same_Some c d is) (left_stored h.owner also o place others f s b (h.objects o b at)))
    (λ j slot hand. let u = h.hands_stand j slot hand in
    hand_kept f g s s h.owner also (λ i kind at. at) j slot (object_apart f s o (Some c) j) (owner_hand h.owner also o place others j u.owned ∙ sym u.owned) u)
    (λ j known. elim known [
      | inl hand ↦ inl hand
      | inr has ↦ let is : has.0 ≡ b = same_Some has.0 b (sym has.1 ∙ at) in elim (subst (λ d. HasHandle d j) is has.2) [
        | inl e ↦ inr (c, refl, inl e)
        | inr e ↦ elim (cases_eq e.0 place) [
          | inl here ↦
              let both : e.1 ≡ w = same_Some e.1 w (sym e.2 ∙ ap (slice_get b.waiting) here ∙ waits) in
              absurd (none-some j (sym (ap (λ (x : Waiting). x.staging) both) ∙ e.3))
          | inr there ↦ let now = left_at place b.waiting e.0 e.1 there e.2 in inr (c, refl, inr (now.0, e.1, now.1, e.3))
        ]
      ]
    ])
    h
    (owner_apart h.owner also o place others)
