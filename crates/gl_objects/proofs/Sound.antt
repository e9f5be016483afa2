-- A table stays sound as its names and objects change.
use Rattle.std.proofs.Common.{◌≡◌, ◌≢◌, ◌⊎◌, ℕ, ◌<◌, ◌==◌, Bool, true, false, cond, List, length, Option, Some, None, set, refl, sym, ap, ◌∙◌, inl, inr, arith}
use Rattle.std.specs.Option.{option_and_then}
use Rattle.std.proofs.lemmas.Bool.{cases_eq}
use Rattle.std.proofs.lemmas.Grind.{common_steps}
use Rattle.std.proofs.lemmas.List.{get_or-set_same, get_or-set_other, get_or_past}
use Rattle.tables.specs.Table.{Entries, entry}
use Rattle.gl_objects.specs.declared.ids.ObjectId.{ObjectId}
use Rattle.gl_objects.specs.declared.object.Object.{Object}
use Rattle.gl_objects.specs.Ids.{number_of, key_of}
use Rattle.gl_objects.specs.Objects.{object_at, is_unreferenced, existing, if_referenced, with_holds, named_object, Puts, IsSound}

pub Puts-set : (objects : List (Option Object)) (key : ℕ) (slot : Option Object) → key < length objects → Puts objects (set objects key slot) key slot
Puts-set objects key slot within = record {
  here = get_or-set_same objects key slot None within;
  others = λ other differs. get_or-set_other objects key other slot None differs;
}

pub within : (objects : List (Option Object)) (key : ℕ) (o : Object) → object_at objects key ≡ Some o → key < length objects
within objects key o present = grind (arith, get_or_past)

same_number : (x o : Object) (n : ℕ) (b : Bool) → (x.number == n) ≡ b → cond b (Some x) None ≡ Some o → (Some x ≡ Some o) × (o.number ≡ n)
same_number x o n true h e = let same : x ≡ o = cc in (e, ap (λ y. y.number) (sym same) ∙ grind (arith, common_steps))
same_number x o n false h e = absurd (cc)

slot_stands : (slot : Option Object) (o : Object) (n : ℕ) → option_and_then (λ x. cond (x.number == n) (Some x) None) slot ≡ Some o → (slot ≡ Some o) × (o.number ≡ n)
slot_stands None o n e = absurd (cc)
slot_stands (Some x) o n e = same_number x o n _ refl e

-- the object of an id stands in its place
pub existing_stands : (objects : List (Option Object)) (id : ObjectId) (o : Object) → existing objects id ≡ Some o → (object_at objects (key_of id) ≡ Some o) × (o.number ≡ number_of id)
existing_stands objects id o e = slot_stands (object_at objects (key_of id)) o (number_of id) e

-- the object that has the id's name and number is the one of the id
pub existing_named : (objects : List (Option Object)) (id : ObjectId) (name holds : ℕ) → object_at objects (key_of id) ≡ Some (named_object id name holds) → existing objects id ≡ Some (named_object id name holds)
existing_named objects id name holds stands = rw stands (grind (arith, common_steps))

-- what is kept is what was put back, and something refers to it
pub kept_is : (o x : Object) (b : Bool) → is_unreferenced o ≡ b → if_referenced o ≡ Some x → (o ≡ x) × (is_unreferenced x ≡ false)
kept_is o x true h e = absurd (cc)
kept_is o x false h e = let same : o ≡ x = cc in (same, rw (← same) h)

-- a slot after a change is the changed one, or is as it was
pub slot_cases : (old new : List (Option Object)) (key : ℕ) (slot : Option Object) → Puts old new key slot → (j : ℕ) (x : Object) → object_at new j ≡ Some x → ((j ≡ key) × (slot ≡ Some x)) ⊎ ((j ≢ key) × (object_at old j ≡ Some x))
slot_cases old new key slot puts j x found =
    elim (cases_eq j key) [
      | inl same ↦ inl (same, sym puts.here ∙ rw same at found)
      | inr differs ↦ inr (differs, sym (puts.others j differs) ∙ found)
    ]

-- an object before a change of its holds
record WasHeld (objects : List (Option Object)) (j : ℕ) (x : Object) : Type 0 where
  before : Object
  stood : object_at objects j ≡ Some before
  number : x.number ≡ before.number
  name : x.name ≡ before.name
  refers : is_unreferenced x ≡ false

module _ (names : Entries (Option ObjectId)) (made : ℕ) (old new : List (Option Object)) (key : ℕ) (o : Object) (n : ℕ)
    (sound : IsSound names made old) (stands : object_at old key ≡ Some o) (puts : Puts old new key (if_referenced (with_holds n o))) where
  was_held : (j : ℕ) (x : Object) → object_at new j ≡ Some x → WasHeld old j x
  was_held j x found =
      elim (slot_cases old new key _ puts j x found) [
        | inl here ↦
            let kept = kept_is (with_holds n o) x _ refl here.1 in
            record { before = o; stood = ap (object_at old) here.0 ∙ stands; number = sym (ap (λ y. y.number) kept.0); name = sym (ap (λ y. y.name) kept.0); refers = kept.1 }
        | inr there ↦ record { before = x; stood = there.1; number = refl; name = refl; refers = sound.referenced j x there.1 }
      ]

  named_still : (name : ℕ) (id : ObjectId) → entry name names ≡ Some (Some id) → (holds : ℕ) × (object_at new (key_of id) ≡ Some (named_object id name holds))
  named_still name id has =
      let was = sound.named name id has in
      elim (cases_eq (key_of id) key) [
        | inl same ↦
            let as_named : o ≡ named_object id name was.0 = cc (sym stands ∙ ap (object_at old) (sym same) ∙ was.1) in
            (n, ap (object_at new) same ∙ puts.here ∙ ap (λ y. if_referenced (with_holds n y)) as_named)
        | inr differs ↦ (was.0, puts.others (key_of id) differs ∙ was.1)
      ]

  pub IsSound-held : IsSound names made new
  IsSound-held = record {
    earlier = λ j x found. let was = was_held j x found in rw was.number (sound.earlier j was.before was.stood);
    apart = λ j k a b at_j at_k same.
        let was_a = was_held j a at_j in
        let was_b = was_held k b at_k in
        sound.apart j k was_a.before was_b.before was_a.stood was_b.stood (sym was_a.number ∙ same ∙ was_b.number);
    referenced = λ j x found. (was_held j x found).refers;
    named = named_still;
    listed = λ j x name found called. let was = was_held j x found in sound.listed j was.before name was.stood (sym was.name ∙ called);
  }

pub IsSound-changed_holds : (names : Entries (Option ObjectId)) (made : ℕ) (old new : List (Option Object)) (id : ObjectId) (o : Object) (n : ℕ) → IsSound names made old → existing old id ≡ Some o → new ≡ set old (key_of id) (if_referenced (with_holds n o)) → IsSound names made new
IsSound-changed_holds names made old new id o n sound e written =
    let stands = (existing_stands old id o e).0 in
    rw written (IsSound-held names made old _ (key_of id) o n sound stands (Puts-set old (key_of id) _ (within old (key_of id) o stands)))
