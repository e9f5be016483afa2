-- The stores of objects, put into them and taken out.
use mathlib.Core.Path.{fun_ext}
use Rattle.std.proofs.Common.{◌≡◌, ◌≢◌, ℕ, ◌<◌, ◌==◌, cond, Bool, true, false, [], ◌∷◌, length, refl, sym, ◌∙◌, ap, arith, inl, inr, rules}
use Rattle.std.specs.Prelude.{◌⊎◌, Option, Some, None, List, if◌then◌else◌}
use Rattle.std.specs.Option.{option_map}
use Rattle.std.proofs.lemmas.Bool.{cases_eq}
use Rattle.vk_types.specs.declared.handles.Kind.TheVariants as kind
use Rattle.vk_types.specs.declared.ops.Node.{Node}
use Rattle.queue_serials.specs.Indexes.{IndexTable}
use Rattle.tables.specs.Table.{Entries, entry}
use Rattle.object_helper.specs.Objects.{ObjectStore}
use Rattle.back_core.specs.Link.{Link, put}
use Rattle.front_model.specs.declared.object.Object.{Object}
use Rattle.front_model.specs.declared.object.Object.TheVariants.{Buffer}
use Rattle.front_model.specs.Face.{Slot, Stored, Face, Outline, put_object, outline, outline_at, view, recorded, same_object}
use Rattle.front_model.specs.Stands.{no_hands, Moved}
use Rattle.front_model.specs.Steps.{with_object}
use Rattle.front_model.proofs.Base.{put-other, put_at, cases_object, put_object-same, put_object-other}
use Rattle.front_moves.specs.Objects.{key_of, stored_of, objects_of}
use Rattle.front_moves.proofs.Keys.{key_test}
use Rattle.front_moves.specs.Core.{CoreParts, face, HasFresh, IsQuietBut, new_outline, outline_of_size, new_cells}

-- Hands

-- a hand that is given away is empty
pub put-none : (id : ℕ) (v : Option Slot) → put (put no_hands id v) id None ≡ no_hands
put-none id v = fun_ext (λ i. go i (cases_eq i id))
  where
    go : (i : ℕ) → (i ≡ id) ⊎ (i ≢ id) → put (put no_hands id v) id None i ≡ no_hands i
    go i (inl same) = put_at (put no_hands id v) id None i same
    go i (inr other) = put-other (put no_hands id v) id None i other ∙ put-other no_hands id v i other

-- Objects

-- the later of two values at one object counts
pub put_object-twice : {A : Type 0} (f : Object → A) (o : Object) (v w : A) → put_object (put_object f o v) o w ≡ put_object f o w
put_object-twice f o v w = fun_ext (λ q. go q (cases_object q o))
  where
    go : (q : Object) → (q ≡ o) ⊎ (q ≢ o) → put_object (put_object f o v) o w q ≡ put_object f o w q
    go q (inl same) = ap (put_object (put_object f o v) o w) same ∙ put_object-same (put_object f o v) o w ∙ sym (put_object-same f o w) ∙ sym (ap (put_object f o w) same)
    go q (inr other) = put_object-other (put_object f o v) o w q other ∙ put_object-other f o v q other ∙ sym (put_object-other f o w q other)

-- the value that an object has already
pub put_object-same_value : {A : Type 0} (f : Object → A) (o : Object) (v : A) → f o ≡ v → put_object f o v ≡ f
put_object-same_value f o v is = fun_ext (λ q. go q (cases_object q o))
  where
    go : (q : Object) → (q ≡ o) ⊎ (q ≢ o) → put_object f o v q ≡ f q
    go q (inl same) = ap (put_object f o v) same ∙ put_object-same f o v ∙ sym is ∙ sym (ap f same)
    go q (inr other) = put_object-other f o v q other

pub outline_with : (f : Face) (o : Object) (v : Option Stored) → outline_at (with_object f o v) ≡ put_object (outline_at f) o (option_map outline v)
outline_with f o v = fun_ext (λ q. go q (cases_object q o))
  where
    go : (q : Object) → (q ≡ o) ⊎ (q ≢ o) → option_map outline (put_object f.objects o v q) ≡ put_object (outline_at f) o (option_map outline v) q
    go q (inl same) = ap (λ x. option_map outline (put_object f.objects o v x)) same ∙ ap (option_map outline) (put_object-same f.objects o v) ∙ sym (put_object-same (outline_at f) o (option_map outline v)) ∙ sym (ap (put_object (outline_at f) o (option_map outline v)) same)
    go q (inr other) = ap (option_map outline) (put_object-other f.objects o v q other) ∙ sym (put_object-other (outline_at f) o (option_map outline v) q other)

-- no store, no outline
pub no_outline : (v : Option Stored) → option_map outline v ≡ None → v ≡ None
no_outline None e = refl
no_outline (Some b) e = let no_way : ⊥ = cc in absurd no_way

-- what is under one key has changed, so the objects have at its place
pub objects_put : (old new : Entries ObjectStore) (o : Object) (v : Option ObjectStore) → ((k : ℕ) → entry k new ≡ (if k == key_of o then v else entry k old)) → objects_of new ≡ put_object (objects_of old) o (option_map stored_of v)
unfolding put_object
objects_put old new o v each = fun_ext go
  where
    by_test : (k : ℕ) (t : Bool) → entry k new ≡ cond t v (entry k old) → option_map stored_of (entry k new) ≡ cond t (option_map stored_of v) (option_map stored_of (entry k old))
    by_test k true is = ap (option_map stored_of) is
    by_test k false is = ap (option_map stored_of) is

    go : (q : Object) → objects_of new q ≡ (if same_object q o then option_map stored_of v else objects_of old q)
    go q = by_test (key_of q) (same_object q o) (each (key_of q) ∙ ap (λ t. cond t v (entry (key_of q) old)) (key_test q o))

-- so has the front
pub face_put : (c d : CoreParts) (o : Object) (v : Option ObjectStore) → d ≡ record c { stores = d.stores } → ((k : ℕ) → entry k d.stores ≡ (if k == key_of o then v else entry k c.stores)) → face d ≡ with_object (face c) o (option_map stored_of v)
face_put c d o v is each = ap face is ∙ ap (λ (os : Object → Option Stored). record (face c) { objects = os }) (objects_put c.stores d.stores o v each)

-- the outline of a store of so many bytes
pub outline_some : (size : ℕ) → 0 < size → outline_of_size size ≡ Some (new_outline (kind.Buffer size))
outline_some size some = let e : (size == 0) ≡ false = grind (arith, rules) in ap (λ t. option_map new_outline (cond t None (Some (kind.Buffer size)))) e

-- the front of a core whose stores have changed
pub stores_changed : (was : CoreParts) (indexes : IndexTable) (pending : List (List Node)) (old new : Entries ObjectStore) (change : Entries ObjectStore → Entries ObjectStore)
    → ◌≡◌ {A = CoreParts} (record { indexes = indexes; pending = pending; stores = old }) was → new ≡ change old → ◌≡◌ {A = CoreParts} (record { indexes = indexes; pending = pending; stores = new }) (record was { stores = change was.stores })
stores_changed was indexes pending old new change is e =
    ap (λ (bs : Entries ObjectStore). record { indexes = indexes; pending = pending; stores = bs }) e ∙ ap (λ (p : CoreParts). record p { stores = change p.stores }) is

-- A store that was ended, made and begun

-- a buffer whose store was ended has none
pub ended_none : (f f1 : Face) (s s1 : Link) (b : ℕ) → Moved f1 s1 (put_object (view f s) (Buffer b) (new_cells None)) (put_object (outline_at f) (Buffer b) None) (IsQuietBut f s (Buffer b)) → f1.objects (Buffer b) ≡ None
ended_none f f1 s s1 b ended = no_outline (f1.objects (Buffer b)) (ap (λ (o : Object → Option Outline). o (Buffer b)) ended.outlines_are ∙ put_object-same (outline_at f) (Buffer b) None)

pub stored_anew : (f f1 f2 : Face) (s s1 s2 s3 : Link) (b id size : ℕ) (bytes : Option (List ℕ)) → 0 < size → Moved f1 s1 (put_object (view f s) (Buffer b) (new_cells None)) (put_object (outline_at f) (Buffer b) None) (IsQuietBut f s (Buffer b)) → HasFresh f1 s1 s2 id (kind.Buffer size) bytes
    → Moved f2 s3 (put_object (view f1 s2) (Buffer b) (recorded f1 s2 id)) (put_object (outline_at f1) (Buffer b) (Some (new_outline (kind.Buffer size)))) (IsQuietBut f1 s2 (Buffer b))
    → Moved f2 s3 (put_object (view f s) (Buffer b) (new_cells bytes)) (put_object (outline_at f) (Buffer b) (outline_of_size size)) (IsQuietBut f s (Buffer b))
stored_anew f f1 f2 s s1 s2 s3 b id size bytes some ended fresh begun = record {
  holds = begun.holds;
  view_is =
      begun.view_is
      ∙ ap (put_object (view f1 s2) (Buffer b)) fresh.has
      ∙ ap (λ (v : Object → ℕ → ℕ). put_object v (Buffer b) (new_cells bytes)) (fresh.view_is ∙ ended.view_is)
      ∙ put_object-twice (view f s) (Buffer b) (new_cells None) (new_cells bytes);
  outlines_are =
      begun.outlines_are
      ∙ ap (put_object (outline_at f1) (Buffer b)) (sym (outline_some size some))
      ∙ ap (λ (o : Object → Option Outline). put_object o (Buffer b) (outline_of_size size)) ended.outlines_are
      ∙ put_object-twice (outline_at f) (Buffer b) None (outline_of_size size);
  still = λ o quiet. begun.still o (fresh.still o (ended.still o quiet), quiet.1);
}

-- a store of no bytes is none
pub stored_nothing : (f f1 : Face) (s s1 : Link) (b : ℕ) (bytes : List ℕ) → true ≡ (length bytes == 0) → Moved f1 s1 (put_object (view f s) (Buffer b) (new_cells None)) (put_object (outline_at f) (Buffer b) None) (IsQuietBut f s (Buffer b))
    → Moved f1 s1 (put_object (view f s) (Buffer b) (new_cells (Some bytes))) (put_object (outline_at f) (Buffer b) (outline_of_size (length bytes))) (IsQuietBut f s (Buffer b))
stored_nothing f f1 s s1 b [] empty ended = ended
stored_nothing f f1 s s1 b (x ∷ bytes) empty ended = let no_way : ⊥ = grind (arith, rules) in absurd no_way
