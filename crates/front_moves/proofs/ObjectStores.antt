-- The stores of objects in a front.
use Rattle.vk_types.specs.declared.accesses.Access.{Access}
use Rattle.vk_types.specs.declared.regions.Barrier.{Barrier}
use Rattle.std.proofs.Common.{Bool, true, cond}
use Rattle.front_moves.specs.Objects.{key_of, used, fenced_in, ChangesOne}
use Rattle.std.proofs.Common.{◌≡◌, ◌≢◌, ℕ, ◌+◌, ◌<◌, ◌≤◌, ◌==◌, false, [], refl, sym, ◌∙◌, ap, subst, arith, inl, inr}
use Rattle.std.specs.Prelude.{◌⊎◌, Option, Some, None, IfSome}
use Rattle.std.specs.Option.{option_map}
use Rattle.std.proofs.lemmas.Bool.{cases_eq, eq-eqb, ne_eqb}
use Rattle.std.proofs.lemmas.Option.{same_Some}
use Rattle.vk_types.specs.declared.batches.QueueSerial.{QueueSerial}
use Rattle.vk_types.specs.declared.handles.HandleId.{HandleId}
use Rattle.vk_types.specs.declared.handles.Kind.TheVariants as kind
use Rattle.vk_types.specs.Touches.{the_end}
use Rattle.vk_model.specs.Fitting.{HasRange}
use Rattle.tables.specs.Table.{Entries, entry}
use Rattle.object_helper.specs.Objects.{ObjectStore}
use Rattle.back_core.specs.Link.{Link}
use Rattle.front_model.specs.declared.object.Object.{Object}
use Rattle.front_model.specs.declared.object.Object.TheVariants.{Buffer}
use Rattle.front_model.specs.Face.{Stored, Outline, outline, nodes_touch}
use Rattle.front_model.specs.Stands.{Hands, Holds, StoredOwned, Owns}
use Rattle.front_moves.specs.Objects.{stored_of, objects_of}
use Rattle.front_moves.specs.Core.{CoreParts, face}
use Rattle.front_moves.specs.Recording.{HasBuffer}
use Rattle.front_moves.proofs.Keys.{object_at, key_at}
use Rattle.front_moves.proofs.Recordable.{IsFree}
use Rattle.front_moves.proofs.Sharing.{untouched}

-- the store of a buffer, which is this object of so many bytes
pub record IsStore (c : CoreParts) (b : ℕ) (id : HandleId) (len : ℕ) : Type 0 where
  pub store : ObjectStore
  pub is : entry (key_of (Buffer b)) c.stores ≡ Some store
  pub handle : store.handle.0 ≡ id.0
  pub is_buffer : store.kind ≡ kind.Buffer len

pub store_of : (reads : Bool) (c : CoreParts) (index b : ℕ) (id : HandleId) (len : ℕ) → HasBuffer reads c index b id len → IsStore c b id len
store_of reads c index b id len has = go (entry (key_of (Buffer b)) c.stores) refl has.store has.handle
  where
    go : (v : Option ObjectStore) → entry (key_of (Buffer b)) c.stores ≡ v → option_map outline (option_map stored_of v) ≡ Some (record { kind = kind.Buffer len; waiting = [] }) → IfSome (option_map stored_of v) (λ x. x.handle ≡ id.0) → IsStore c b id len
    go None is none handle = cc
    go (Some x) is same handle = record { store = x; is = is; handle = handle; is_buffer = ap (λ (o : Outline). o.kind) (same_Some _ _ same) }

-- it is an object of the front
pub store_at : (c : CoreParts) (b : ℕ) (x : ObjectStore) → entry (key_of (Buffer b)) c.stores ≡ Some x → (face c).objects (Buffer b) ≡ Some (stored_of x)
store_at c b x is = ap (option_map stored_of) is

-- the store under a key is that of an object
pub stored_at : (stores : Entries ObjectStore) (k : ℕ) (x : ObjectStore) → entry k stores ≡ Some x → objects_of stores (object_at k) ≡ Some (stored_of x)
stored_at stores k x is = ap (λ j. option_map stored_of (entry j stores)) (key_at k) ∙ ap (option_map stored_of) is

-- that no two objects have one handle
abbrev pub Distinct : CoreParts → Type 0
Distinct c = (o q : Object) (x y : Stored) → (face c).objects o ≡ Some x → (face c).objects q ≡ Some y → x.handle ≡ y.handle → o ≡ q

-- a store has the handle of a buffer's store where it is that buffer's
pub handle_is : (c : CoreParts) (k b : ℕ) (id : HandleId) (len : ℕ) (x : ObjectStore) → Distinct c → IsStore c b id len → entry k c.stores ≡ Some x → (id.0 == x.handle.0) ≡ (k == key_of (Buffer b))
handle_is c k b id len x distinct of is = go (cases_eq k (key_of (Buffer b)))
  where
    same : k ≡ key_of (Buffer b) → id.0 ≡ x.handle.0
    same e =
        let at : Some of.store ≡ Some x = sym of.is ∙ ap (λ j. entry j c.stores) (sym e) ∙ is in
        sym of.handle ∙ ap (λ (y : ObjectStore). y.handle.0) (same_Some _ _ at)

    back : id.0 ≡ x.handle.0 → k ≡ key_of (Buffer b)
    back e =
        sym (key_at k)
        ∙ ap key_of (distinct (object_at k) (Buffer b) (stored_of x) (stored_of of.store) (stored_at c.stores k x is) (store_at c b of.store of.is) (sym e ∙ sym of.handle))

    go : (k ≡ key_of (Buffer b)) ⊎ (k ≡ key_of (Buffer b) → ⊥) → (id.0 == x.handle.0) ≡ (k == key_of (Buffer b))
    go (inl e) = eq-eqb id.0 x.handle.0 (same e) ∙ sym (eq-eqb k (key_of (Buffer b)) e)
    go (inr ne) = ne_eqb id.0 x.handle.0 (λ e. ne (back e)) ∙ sym (ne_eqb k (key_of (Buffer b)) ne)

-- an object with the handle is the buffer
pub other_handle : (c : CoreParts) (q : ℕ) (id : HandleId) (len : ℕ) (o : Object) (x : Stored) → Distinct c → IsStore c q id len → (face c).objects o ≡ Some x → o ≢ Buffer q → (id.0 == x.handle) ≡ false
other_handle c q id len o x distinct of at other =
    ne_eqb id.0 x.handle (λ e. other (distinct o (Buffer q) x (stored_of of.store) at (store_at c q of.store of.is) (sym e ∙ sym of.handle)))

-- that no object has the handle
abbrev pub IsInNone : CoreParts → ℕ → Type 0
IsInNone c id = (o : Object) (x : Stored) → (face c).objects o ≡ Some x → x.handle ≢ id

pub hand_apart : (c : CoreParts) (id : HandleId) (o : Object) (x : Stored) → IsInNone c id.0 → (face c).objects o ≡ Some x → (id.0 == x.handle) ≡ false
hand_apart c id o x none at = ne_eqb id.0 x.handle (λ e. none o x at (sym e))

-- nodes may touch a range of it
pub buffer_free : (reads : Bool) (c : CoreParts) (hands : Hands) (s : Link) (index b : ℕ) (id : HandleId) (len at size : ℕ) → Holds (face c) hands s → HasBuffer reads c index b id len → IsStore c b id len → 0 < size → at + size ≤ len → IsFree (face c) hands s id at size
buffer_free reads c hands s index b id len at size h has of some inside =
    record {
      range = subst (λ k. HasRange k at size) (sym kind_is) (some, inside);
      end = let end : len ≤ the_end = has.end in omega (arith, inside, end);
      target = inr (Buffer b, stored_of of.store, store_at c b of.store of.is, of.handle);
    }
  where
    kind_is : s.kinds id.0 ≡ Some (kind.Buffer len)
    kind_is = ap s.kinds (sym of.handle) ∙ (h.objects (Buffer b) (stored_of of.store) (store_at c b of.store of.is)).slot.kind ∙ ap Some of.is_buffer

-- nothing that is pending in another context touches it, where nothing there conflicts with any use
pub buffer_parted : (c : CoreParts) (index b : ℕ) (id : HandleId) (len i : ℕ) → HasBuffer false c index b id len → IsStore c b id len → i ≢ index → nodes_touch ((face c).pending i) id.0 ≡ false
buffer_parted c index b id len i has of ne =
    subst (λ j. nodes_touch ((face c).pending i) j ≡ false) of.handle
    (untouched ((face c).pending i) (stored_of of.store) (has.parted i ne (stored_of of.store) (store_at c b of.store of.is)))

-- What a call that ended early leaves

-- the stores have the handles that they had
abbrev pub KeepsHandles : Entries ObjectStore → Entries ObjectStore → Type 0
KeepsHandles old new = (b : ℕ) → option_map (λ (x : ObjectStore). x.handle) (entry b new) ≡ option_map (λ (x : ObjectStore). x.handle) (entry b old)

pub same_handles : (p q : CoreParts) → p ≡ q → KeepsHandles q.stores p.stores
same_handles p q same b = ap (λ (c : CoreParts). option_map (λ (x : ObjectStore). x.handle) (entry b c.stores)) same

pub same_stores : (old new : Entries ObjectStore) → ((b : ℕ) → entry b new ≡ entry b old) → KeepsHandles old new
same_stores old new same b = ap (option_map (λ (x : ObjectStore). x.handle)) (same b)

pub kept_then : (one two three : Entries ObjectStore) → KeepsHandles one two → KeepsHandles two three → KeepsHandles one three
kept_then one two three first second b = second b ∙ first b

pub owns_kept : (old new : Entries ObjectStore) (s : Link) → KeepsHandles old new → Owns (objects_of old) s → Owns (objects_of new) s
owns_kept old new s keeps owns = record { owner = owns.owner; each = each; licensed = owns.licensed }
  where
    had : (b : ℕ) (x : ObjectStore) → (v w : Option ObjectStore) → entry b old ≡ w → v ≡ Some x → option_map (λ (x : ObjectStore). x.handle) v ≡ option_map (λ (x : ObjectStore). x.handle) w → (y : ObjectStore) × (entry b old ≡ Some y) × (y.handle ≡ x.handle)
    had b x None w is bad same = cc
    had b x (Some v) None is at same = cc
    had b x (Some v) (Some y) is at same = (y, is, sym (same_Some _ _ same) ∙ ap (λ (z : ObjectStore). z.handle) (same_Some _ _ at))

    kept : (o : Object) (v y : ObjectStore) → entry (key_of o) old ≡ Some y → y.handle ≡ v.handle → StoredOwned s owns.owner o (stored_of v)
    kept o v y is same =
        let was : StoredOwned s owns.owner o (stored_of y) = owns.each o (stored_of y) (ap (option_map stored_of) is) in
        record {
          held = ap (λ (i : HandleId). s.held i.0) (sym same) ∙ was.held;
          owned = ap (λ (i : HandleId). owns.owner i.0) (sym same) ∙ was.owned;
          waiting = λ place id w none. cc;
        }

    at_object : (o : Object) (v : Option ObjectStore) (x : Stored) → entry (key_of o) new ≡ v → option_map stored_of v ≡ Some x → StoredOwned s owns.owner o x
    at_object o None x is bad = cc
    at_object o (Some v) x is at =
        let from = had (key_of o) v (entry (key_of o) new) (entry (key_of o) old) refl is (keeps (key_of o)) in
        subst (StoredOwned s owns.owner o) (same_Some _ _ at) (kept o v from.0 from.1 from.2)

    each : (o : Object) (x : Stored) → objects_of new o ≡ Some x → StoredOwned s owns.owner o x
    each o x at = at_object o (entry (key_of o) new) x refl at

-- a store that took in a barrier, or an access, has its handle still
pub kept_changed : (b : ℕ) (barrier : Barrier) (serial : QueueSerial) (old new : Entries ObjectStore) → ChangesOne b (fenced_in serial barrier) old new → KeepsHandles old new
kept_changed b barrier serial old new is k = ap (option_map (λ (x : ObjectStore). x.handle)) (is k) ∙ go (k == b) (entry k old)
  where
    go : (t : Bool) (v : Option ObjectStore) → option_map (λ (x : ObjectStore). x.handle) (cond t (option_map (fenced_in serial barrier) v) v) ≡ option_map (λ (x : ObjectStore). x.handle) v
    go true None = refl
    go true (Some x) = refl
    go false v = refl

pub kept_used : (b : ℕ) (access : Access) (serial : QueueSerial) (old new : Entries ObjectStore) → ChangesOne b (used access serial) old new → KeepsHandles old new
kept_used b access serial old new is k = ap (option_map (λ (x : ObjectStore). x.handle)) (is k) ∙ go (k == b) (entry k old)
  where
    go : (t : Bool) (v : Option ObjectStore) → option_map (λ (x : ObjectStore). x.handle) (cond t (option_map (used access serial) v) v) ≡ option_map (λ (x : ObjectStore). x.handle) v
    go true None = refl
    go true (Some x) = refl
    go false v = refl
