-- The steps on one object keep what holds: it begins and ends, and what waits on it is put and taken out.
use Rattle.std.specs.Prelude.{unwrap_or}
use Rattle.barriers.specs.Trackers.{new_tracker}
use Rattle.barriers.specs.Recording.{handle}
use Rattle.object_helper.specs.Objects.{is_image}
use Rattle.front_model.specs.Stands.{IsTrackedBy}
use Rattle.vk_types.specs.declared.handles.Kind.TheVariants as kinds
use Rattle.std.proofs.Common.{◌≡◌, ◌≢◌, ℕ, [], length, refl, sym, ◌∙◌, ap, subst, inl, inr}
use Rattle.std.specs.Prelude.{◌⊎◌, Option, Some, None, IsSome, slice_get}
use Rattle.std.proofs.lemmas.Bool.{cases_eq}
use Rattle.std.proofs.lemmas.Option.{none-some, same_Some}
use Rattle.vk_types.specs.declared.handles.Kind.{Kind}
use Rattle.vk_types.specs.declared.ops.Node.{Node}
use Rattle.vk_model.specs.Log.{NoneEmpty}
use Rattle.vk_model.specs.Fitting.{NodeFits}
use Rattle.back_core.specs.Link.{Link, put}
use Rattle.front_model.specs.declared.object.Object.{Object}
use Rattle.front_model.specs.Face.{Waiting, Slot, Stored, Face, IsUpdate}
use Rattle.front_model.specs.Stands.{Hands, Owner, Store, Staging, InHand, WaitingStands, StoredStands, HandStands, HasHandle, Holds}
use Rattle.front_model.specs.Steps.{fresh_slot, with_object, stored_as, with_waiting}
use Rattle.front_model.proofs.Base.{put-same, put-other, put_at, put_is, put-some, is_some_of, cases_object, put_object-same, put_object-other, put_object_is, push_is, push_at, push_keeps}
use Rattle.front_model.proofs.Standing.{SameSlot, slot_kept, waiting_kept, stored_kept, hand_kept, handle_owner, not_in_hand}

-- whose the handles of an object are
abbrev pub IsOwnedBy : (ℕ → Owner) → Object → ℕ → Type 0
IsOwnedBy owner o id = (owner id ≡ Store o) ⊎ ((place : ℕ) × (owner id ≡ Staging o place))

-- the handle is in hand, or the object has it
abbrev pub IsHere : Hands → Option Stored → ℕ → Type 0
IsHere hands v id = IsSome (hands id) ⊎ ((b : Stored) × (v ≡ Some b) × HasHandle b id)

-- nothing but an object is another one
pub object_apart : (f : Face) (s : Link) (o : Object) (c : Option Stored) (id : ℕ) → SameSlot f (with_object f o c) s s id
object_apart f s o c id = record { held = refl; kind = refl; uses = λ index. refl; tracks = λ x b k. k }

-- One object and the hands change, and the handles of the others do not.
pub exchanged : (f : Face) (hands after : Hands) (s : Link) (o : Object) (c : Option Stored) (also : ℕ → Owner)
    → ((b : Stored) → c ≡ Some b → StoredStands (with_object f o c) s also o b)
    → ((id : ℕ) (slot : Slot) → after id ≡ Some slot → HandStands (with_object f o c) s also id slot)
    → ((id : ℕ) → IsHere hands (f.objects o) id → IsHere after c id)
    → (h : Holds f hands s)
    → ((q : Object) (id : ℕ) → q ≢ o → IsOwnedBy h.owner q id → also id ≡ h.owner id)
    → Holds (with_object f o c) after s
exchanged f hands after s o c also stands hands_stand known h others =
    let g : Face = with_object f o c in
    record {
      sound = h.sound;
      recordable = h.recordable;
      fenced = h.fenced;
      apart = h.apart;
      fits = h.fits;
      fitted = h.fitted;
      none_empty = h.none_empty;
      few = h.few;
      of_group = h.of_group;
      owner = also;
      objects = λ q b at. elim (put_object_is f.objects o c q (Some b) at) [
        | inl here ↦ subst (λ p. StoredStands g s also p b) (sym here.0) (stands b here.1)
        | inr there ↦ let u = h.objects q b there.1 in
            stored_kept f g s s h.owner also (λ id kind at. at) q b (λ id has. object_apart f s o c id) (λ id has. others q id there.0 (handle_owner f s h.owner q b id u has)) u
      ];
      hands_stand = hands_stand;
      no_others = λ id held. elim (h.no_others id held) [
        | inl hand ↦ elim (known id (inl hand)) [ inl now ↦ inl now | inr has ↦ inr (o, has.0, put_object-same f.objects o c ∙ has.1, has.2) ]
        | inr has ↦ elim (cases_object has.0 o) [
          | inl here ↦ elim (known id (inr (has.1, ap f.objects (sym here) ∙ has.2, has.3))) [ inl now ↦ inl now | inr has ↦ inr (o, has.0, put_object-same f.objects o c ∙ has.1, has.2) ]
          | inr there ↦ inr (has.0, has.1, put_object-other f.objects o c has.0 there ∙ has.2, has.3)
        ]
      ];
      none_lost = h.none_lost;
      touched = h.touched;
      given = h.given;
      group = h.group;
      few_groups = h.few_groups;
      last = h.last;
      room = h.room;
      low = h.low;
      foreign = h.foreign;
    }

-- hands that lost one
pub hands_lost : (f g : Face) (hands : Hands) (s : Link) (owner also : ℕ → Owner) (id : ℕ)
    → ((j : ℕ) → SameSlot f g s s j) → ((j : ℕ) → j ≢ id → also j ≡ owner j) → ((j : ℕ) (slot : Slot) → hands j ≡ Some slot → HandStands f s owner j slot)
    → (j : ℕ) (slot : Slot) → put hands id None j ≡ Some slot → HandStands g s also j slot
hands_lost f g hands s owner also id same others stand j slot at = elim (put_is hands id None j (Some slot) at) [
  | inl e ↦ absurd (none-some slot e.1)
  | inr e ↦ hand_kept f g s s owner also (λ i kind at. at) j slot (same j) (others j e.0) (stand j slot e.1)
]

-- hands that got one more
pub hands_got : (f g : Face) (hands : Hands) (s : Link) (owner also : ℕ → Owner) (id : ℕ) (new : Slot)
    → ((j : ℕ) → SameSlot f g s s j) → ((j : ℕ) → j ≢ id → owner j ≡ InHand → also j ≡ InHand) → HandStands g s also id new → ((j : ℕ) (slot : Slot) → hands j ≡ Some slot → HandStands f s owner j slot)
    → (j : ℕ) (slot : Slot) → put hands id (Some new) j ≡ Some slot → HandStands g s also j slot
hands_got f g hands s owner also id new same others got stand j slot at = elim (put_is hands id (Some new) j (Some slot) at) [
  | inl e ↦ subst (λ i. HandStands g s also i slot) (sym e.0) (subst (HandStands g s also id) (same_Some new slot e.1) got)
  | inr e ↦ let u = stand j slot e.1 in hand_kept f g s s owner also (λ i kind at. at) j slot (same j) (others j e.0 u.owned ∙ sym u.owned) u
]

-- An object begins

pub begun_holds : (f : Face) (hands : Hands) (s : Link) (o : Object) (id : ℕ) (slot : Slot) → Holds f hands s → hands id ≡ Some slot → f.objects o ≡ None
    → Holds (with_object f o (Some (stored_as id slot))) (put hands id None) s
begun_holds f hands s o id slot h at none =
    let c : Stored = stored_as id slot in
    let g : Face = with_object f o (Some c) in
    let also : ℕ → Owner = put h.owner id (Store o) in
    let u = h.hands_stand id slot at in
    let same : (j : ℕ) → SameSlot f g s s j = object_apart f s o (Some c) in
    let own : StoredStands g s also o c = record {
      slot = slot_kept f g s s id slot (same id) u.stands;
      owned = put-same h.owner id (Store o);
      waiting = λ place w at. absurd (none-some w at);
    } in
    exchanged f hands (put hands id None) s o (Some c) also
    (λ b is. subst (StoredStands g s also o) (same_Some c b is) own)
    (hands_lost f g hands s h.owner also id same (λ j ne. put-other h.owner id (Store o) j ne) h.hands_stand)
    (λ j known. elim known [
      | inl hand ↦ elim (cases_eq j id) [
        | inl e ↦ inr (c, refl, inl (sym e))
        | inr ne ↦ inl (subst IsSome (sym (put-other hands id None j ne)) hand)
      ]
      | inr has ↦ absurd (none-some has.0 (sym none ∙ has.1))
    ])
    h
    (λ q j ne own. put-other h.owner id (Store o) j (λ e. let k : h.owner j ≡ InHand = ap h.owner e ∙ u.owned in elim own [ inl l ↦ cc | inr l ↦ let m : h.owner j ≡ Staging q l.0 = l.1 in cc ]))

-- An object ends

pub ended_holds : (f : Face) (hands : Hands) (s : Link) (o : Object) (b : Stored) → Holds f hands s → f.objects o ≡ Some b → b.waiting ≡ []
    → Holds (with_object f o None) (put hands b.handle (Some b.slot)) s
ended_holds f hands s o b h at clear =
    let g : Face = with_object f o None in
    let also : ℕ → Owner = put h.owner b.handle InHand in
    let u = h.objects o b at in
    let same : (j : ℕ) → SameSlot f g s s j = object_apart f s o None in
    exchanged f hands (put hands b.handle (Some b.slot)) s o None also
    (λ c is. absurd (none-some c is))
    (hands_got f g hands s h.owner also b.handle b.slot same (λ j ne own. put-other h.owner b.handle InHand j ne ∙ own)
    (record { stands = slot_kept f g s s b.handle b.slot (same b.handle) u.slot; owned = put-same h.owner b.handle InHand }) h.hands_stand)
    (λ j known. elim known [
      | inl hand ↦ inl (put-some hands b.handle b.slot j hand)
      | inr has ↦ let is : has.0 ≡ b = same_Some has.0 b (sym has.1 ∙ at) in elim (subst (λ d. HasHandle d j) is has.2) [
        | inl e ↦ inl (is_some_of (put hands b.handle (Some b.slot) j) b.slot (put_at hands b.handle (Some b.slot) j (sym e)))
        | inr e ↦ absurd (none-some e.1 (ap (λ l. slice_get l e.0) (sym clear) ∙ e.2))
      ]
    ])
    h
    (λ q j ne own. put-other h.owner b.handle InHand j (λ e. let k : h.owner j ≡ Store o = ap h.owner e ∙ u.owned in elim own [
      | inl l ↦ let m : Store q ≡ Store o = sym l ∙ k in ne (cc)
      | inr l ↦ let m : h.owner j ≡ Staging q l.0 = l.1 in cc
    ]))

-- An update waits

pub staged_holds : (f : Face) (hands : Hands) (s : Link) (o : Object) (b : Stored) (id : ℕ) (kind : Kind) (node : Node) → Holds f hands s → f.objects o ≡ Some b → hands id ≡ Some (fresh_slot id kind)
    → NodeFits s.kinds node → NoneEmpty node → IsUpdate (Some id) b.handle node.op
    → Holds (with_object f o (Some (with_waiting b (record { staging = Some id; node = node })))) (put hands id None) s
staged_holds f hands s o b id kind node h at hand fits some update =
    let w : Waiting = record { staging = Some id; node = node } in
    let c : Stored = with_waiting b w in
    let g : Face = with_object f o (Some c) in
    let place : ℕ = length b.waiting in
    let also : ℕ → Owner = put h.owner id (Staging o place) in
    let u = h.objects o b at in
    let v = h.hands_stand id (fresh_slot id kind) hand in
    let same : (j : ℕ) → SameSlot f g s s j = object_apart f s o (Some c) in
    let other : (j : ℕ) → h.owner j ≢ InHand → also j ≡ h.owner j = λ j ne. put-other h.owner id (Staging o place) j (λ e. ne (ap h.owner e ∙ v.owned)) in
    let last : WaitingStands g s also o b.handle place w = record {
      staging = record { held = v.stands.held; owned = put-same h.owner id (Staging o place); unused = λ index. sym (v.stands.used index); untracked = subst (λ b. IsTrackedBy f s (new_tracker (handle id) b) id) (sym (ap (λ k. is_image (unwrap_or k (kinds.Buffer 0))) v.stands.kind)) v.stands.tracked };
      fits = fits;
      none_empty = some;
      update = update;
    } in
    let own : StoredStands g s also o c = record {
      slot = slot_kept f g s s b.handle b.slot (same b.handle) u.slot;
      owned = other b.handle (not_in_hand f s h.owner o b b.handle u (inl refl)) ∙ u.owned;
      waiting = λ p x at. elim (push_is b.waiting w p x at) [
        | inl e ↦ subst (λ i. WaitingStands g s also o b.handle i x) (sym e.0) (subst (WaitingStands g s also o b.handle place) e.1 last)
        | inr e ↦ waiting_kept f g s s h.owner also (λ i kind at. at) o b.handle p p x (λ i is. same i)
            (λ i is of. other i (not_in_hand f s h.owner o b i u (inr (p, x, e, is))) ∙ of) (u.waiting p x e)
      ];
    } in
    exchanged f hands (put hands id None) s o (Some c) also
    (λ d is. subst (StoredStands g s also o) (same_Some c d is) own)
    (hands_lost f g hands s h.owner also id same (λ j ne. put-other h.owner id (Staging o place) j ne) h.hands_stand)
    (λ j known. elim known [
      | inl hand ↦ elim (cases_eq j id) [
        | inl e ↦ inr (c, refl, inr (place, w, push_at b.waiting w, ap Some (sym e)))
        | inr ne ↦ inl (subst IsSome (sym (put-other hands id None j ne)) hand)
      ]
      | inr has ↦ let is : has.0 ≡ b = same_Some has.0 b (sym has.1 ∙ at) in elim (subst (λ d. HasHandle d j) is has.2) [
        | inl e ↦ inr (c, refl, inl e)
        | inr e ↦ inr (c, refl, inr (e.0, e.1, push_keeps b.waiting w e.0 e.1 e.2, e.3))
      ]
    ])
    h
    (λ q j ne own. other j (λ k. elim own [ inl l ↦ cc | inr l ↦ let m : h.owner j ≡ Staging q l.0 = l.1 in cc ]))

-- A clear waits, which has no staging buffer

pub staged_clear_holds : (f : Face) (hands : Hands) (s : Link) (o : Object) (b : Stored) (node : Node) → Holds f hands s → f.objects o ≡ Some b
    → NodeFits s.kinds node → NoneEmpty node → IsUpdate None b.handle node.op
    → Holds (with_object f o (Some (with_waiting b (record { staging = None; node = node })))) hands s
staged_clear_holds f hands s o b node h at fits some update =
    let w : Waiting = record { staging = None; node = node } in
    let c : Stored = with_waiting b w in
    let g : Face = with_object f o (Some c) in
    let u = h.objects o b at in
    let same : (j : ℕ) → SameSlot f g s s j = object_apart f s o (Some c) in
    let last : (p : ℕ) → WaitingStands g s h.owner o b.handle p w = λ p. record { staging = tt; fits = fits; none_empty = some; update = update } in
    let own : StoredStands g s h.owner o c = record {
      slot = slot_kept f g s s b.handle b.slot (same b.handle) u.slot;
      owned = u.owned;
      waiting = λ p x at. elim (push_is b.waiting w p x at) [
        | inl e ↦ subst (WaitingStands g s h.owner o b.handle p) e.1 (last p)
        | inr e ↦ waiting_kept f g s s h.owner h.owner (λ i kind at. at) o b.handle p p x (λ i is. same i) (λ i is of. of) (u.waiting p x e)
      ];
    } in
    exchanged f hands hands s o (Some c) h.owner
    (λ d is. subst (StoredStands g s h.owner o) (same_Some c d is) own)
    (λ j slot hand. hand_kept f g s s h.owner h.owner (λ i kind at. at) j slot (same j) refl (h.hands_stand j slot hand))
    (λ j known. elim known [
      | inl hand ↦ inl hand
      | inr has ↦ let is : has.0 ≡ b = same_Some has.0 b (sym has.1 ∙ at) in elim (subst (λ d. HasHandle d j) is has.2) [
        | inl e ↦ inr (c, refl, inl e)
        | inr e ↦ inr (c, refl, inr (e.0, e.1, push_keeps b.waiting w e.0 e.1 e.2, e.3))
      ]
    ])
    h
    (λ q j ne own. refl)
