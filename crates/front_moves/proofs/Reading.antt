-- What the host may do with a buffer that is quiet.
use Rattle.vk_types.specs.declared.ops.Node.{Node}
use Rattle.std.proofs.Common.{List}
use Rattle.front_model.specs.Face.{outline_at}
use Rattle.front_model.specs.Steps.{heard, heard_store, with_read, heard_hands}
use Rattle.std.proofs.lemmas.Bool.{cases_eq, cond-true, cond-false, eq-eqb, ne_eqb}
use Rattle.std.proofs.Common.{Bool, true, false, cond, refl, inl, inr}
use Rattle.front_moves.specs.Objects.{key_of, objects_of, ChangesOne}
use Rattle.std.specs.Prelude.{◌≢◌, ◌⊎◌, ◌==◌}
use mathlib.Core.Path.{fun_ext}
use Rattle.queue_serials.specs.Indexes.{IndexTable}
use Rattle.tables.specs.Table.{Entries}
use Rattle.object_helper.specs.Objects.{heard as noted_read}
use Rattle.front_model.specs.declared.object.Object.{Object}
use Rattle.front_model.specs.Face.{Stored, Face}
use Rattle.front_model.proofs.Base.{cases_object}
use Rattle.front_moves.proofs.Keys.{same_key}
use Rattle.front_moves.proofs.ObjectStores.{Distinct}
use Rattle.front_model.specs.Stands.{no_hands}
use Rattle.std.proofs.Common.{◌≡◌, ℕ, sym, ap, ◌∙◌}
use Rattle.std.specs.Prelude.{Option, Some, None, [], Result, Ok, Err, OnErr}
use Rattle.std.specs.Option.{option_map}
use Rattle.vk_types.specs.declared.handles.Kind.TheVariants as kind
use Rattle.tables.specs.Table.{entry}
use Rattle.object_helper.specs.Objects.{ObjectStore, buffer_size}
use Rattle.back_core.specs.Link.{Link}
use Rattle.front_model.specs.declared.object.Object.TheVariants.{Buffer}
use Rattle.front_model.specs.Face.{Outline, outline}
use Rattle.front_model.specs.Stands.{IsQuiet}
use Rattle.front_moves.specs.Objects.{stored_of}
use Rattle.front_moves.specs.Core.{CoreParts, face, HasBytes}

-- the store of a buffer that is quiet
pub quiet_store : (c : CoreParts) (s : Link) (b : ℕ) (x : ObjectStore) (quiet : IsQuiet (face c) s (Buffer b)) → entry (key_of (Buffer b)) c.stores ≡ Some x → stored_of x ≡ quiet.stored
quiet_store c s b x quiet is =
    let both : Some (stored_of x) ≡ Some quiet.stored = sym (ap (option_map stored_of) is) ∙ quiet.is in
    cc

-- the kind of the store of a buffer, and its size
pub store_kind : (c : CoreParts) (b len : ℕ) (x : ObjectStore) → entry (key_of (Buffer b)) c.stores ≡ Some x → HasBytes (face c) b len → x.kind ≡ kind.Buffer len
store_kind c b len x is has =
    let both : Some (outline (stored_of x)) ≡ Some (record { kind = kind.Buffer len; waiting = [] }) = sym (ap (λ o. option_map outline (option_map stored_of o)) is) ∙ has in
    let one : outline (stored_of x) ≡ record { kind = kind.Buffer len; waiting = [] } = cc in
    ap (λ (o : Outline). o.kind) one

pub store_size : (c : CoreParts) (b len : ℕ) (x : ObjectStore) → entry (key_of (Buffer b)) c.stores ≡ Some x → HasBytes (face c) b len → buffer_size x.kind ≡ len
store_size c b len x is has = ap buffer_size (store_kind c b len x is has)

-- Results

pub on_err : {A E P Q : Type 0} (r : Result A E) → (P → Q) → OnErr r P → OnErr r Q
on_err (Ok v) f p = tt
on_err (Err e) f p = f p

-- What a read by the host notes

module _ (c d : CoreParts) (object : Object) (x : ObjectStore) (distinct : Distinct c) (is : entry (key_of object) c.stores ≡ Some x) (rest : d ≡ record c { stores = d.stores }) (heard_by : ChangesOne (key_of object) noted_read c.stores d.stores) where
  -- the object
  here : (k : ℕ) → k ≡ key_of object → option_map stored_of (entry k d.stores) ≡ option_map (heard_store x.handle.0) (option_map stored_of (entry k c.stores))
  here k e =
      ap (option_map stored_of) (heard_by k ∙ cond-true (k == key_of object) (option_map noted_read (entry k c.stores)) (entry k c.stores) (eq-eqb k (key_of object) e))
      ∙ (ap (λ o. option_map stored_of (option_map noted_read o)) at
      ∙ (sym (ap Some (cond-true (x.handle.0 == x.handle.0) (record (stored_of x) { slot = heard (stored_of x).slot }) (stored_of x) (eq-eqb x.handle.0 x.handle.0 refl)))
      ∙ sym (ap (λ o. option_map (heard_store x.handle.0) (option_map stored_of o)) at)))
    where
      at : entry k c.stores ≡ Some x
      at = ap (λ j. entry j c.stores) e ∙ is

  -- another one
  there : (q : Object) → q ≢ object → (v : Option ObjectStore) → entry (key_of q) c.stores ≡ v → option_map stored_of v ≡ option_map (heard_store x.handle.0) (option_map stored_of v)
  there q ne None at = refl
  there q ne (Some y) at = ap Some (sym (cond-false (y.handle.0 == x.handle.0) (record (stored_of y) { slot = heard (stored_of y).slot }) (stored_of y)
      (ne_eqb y.handle.0 x.handle.0 (λ e. ne (distinct q object (stored_of y) (stored_of x) (ap (option_map stored_of) at) (ap (option_map stored_of) is) e)))))

  objects_heard : objects_of d.stores ≡ (λ o. option_map (heard_store x.handle.0) (objects_of c.stores o))
  objects_heard = fun_ext (λ q. go q (cases_object q object))
    where
      go : (q : Object) → (q ≡ object) ⊎ (q ≢ object) → objects_of d.stores q ≡ option_map (heard_store x.handle.0) (objects_of c.stores q)
      go q (inl e) = here (key_of q) (ap key_of e)
      go q (inr ne) =
          ap (option_map stored_of) (heard_by (key_of q) ∙ cond-false (key_of q == key_of object) (option_map noted_read (entry (key_of q) c.stores)) (entry (key_of q) c.stores) (ne_eqb (key_of q) (key_of object) (λ e. ne (same_key q object e))))
          ∙ there q ne (entry (key_of q) c.stores) refl

  pub face_heard : face d ≡ with_read (face c) x.handle.0
  face_heard = ap face rest ∙ ap (λ (os : Object → Option Stored). record (face c) { objects = os }) objects_heard

-- nothing in hand was read
pub no_heard : (id : ℕ) → heard_hands no_hands id ≡ no_hands
no_heard id = fun_ext (λ i. go (i == id))
  where
    go : (b : Bool) → cond b (option_map heard None) None ≡ None
    go true = refl
    go false = refl

pub outlines_heard : (f : Face) (id : ℕ) → outline_at (with_read f id) ≡ outline_at f
outlines_heard f id = fun_ext (λ o. go (f.objects o))
  where
    one : (b : Stored) (t : Bool) → outline (cond t (record b { slot = heard b.slot }) b) ≡ outline b
    one b true = refl
    one b false = refl

    go : (v : Option Stored) → option_map outline (option_map (heard_store id) v) ≡ option_map outline v
    go None = refl
    go (Some b) = ap Some (one b (b.handle == id))

-- only the stores have changed
pub changed_parts : (was : CoreParts) (indexes : IndexTable) (pending : List (List Node)) (old new : Entries ObjectStore) → ◌≡◌ {A = CoreParts} (record { indexes = indexes; pending = pending; stores = old }) was →
    ◌≡◌ {A = CoreParts} (record { indexes = indexes; pending = pending; stores = new }) (record was { stores = new })
changed_parts was indexes pending old new is = ap (λ (p : CoreParts). record p { stores = new }) is
