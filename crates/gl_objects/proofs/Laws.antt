-- What callers may know of a table that is sound.
use Rattle.std.proofs.Common.{◌≡◌, ℕ, List, Option, Some, None, sym, ap, ◌∙◌, refl}
use Rattle.std.specs.Option.{option_map, option_and_then}
use Rattle.tables.specs.Table.{Entries, entry}
use Rattle.gl_objects.specs.declared.ids.ObjectId.{ObjectId}
use Rattle.gl_objects.specs.declared.object.Object.{Object}
use Rattle.gl_objects.specs.Ids.{number_of, key_of}
use Rattle.gl_objects.specs.Objects.{numbered, object_at, named_object, IsSound, IsLawful}
use Rattle.gl_objects.proofs.NumberedNames.{object_of-numbered}

-- an id whose number is told
has_id : (f : ObjectId → ℕ) (o : Option (Option ObjectId)) (n : ℕ) → option_map f (option_and_then (λ x. x) o) ≡ Some n → (id : ObjectId) × (o ≡ Some (Some id)) × (f id ≡ n)
has_id f None n told = absurd (cc)
has_id f (Some None) n told = absurd (cc)
has_id f (Some (Some id)) n told = (id, refl, cc)

pub IsLawful-from_sound : (names : Entries (Option ObjectId)) (made : ℕ) (objects : List (Option Object)) → IsSound names made objects → IsLawful (record { names = record { objects = numbered names; made = made }; objects = objects })
IsLawful-from_sound names made objects sound = record {
  earlier = sound.earlier;
  apart = sound.apart;
  referenced = sound.referenced;
  named = λ name number has.
      let had = has_id number_of (entry name names) number (sym (object_of-numbered names made name) ∙ has) in
      let stands = sound.named name had.0 had.1 in
      (key_of had.0, stands.0, stands.1 ∙ ap (λ n. Some (record { number = n; name = Some name; holds = stands.0 })) had.2);
  listed = λ key o name stands called.
      let was = sound.listed key o name stands called in
      let named = sound.named name was.0 was.1 in
      let same : o ≡ named_object was.0 name named.0 = cc (stands, ap (object_at objects) was.2, named.1) in
      object_of-numbered names made name ∙ ap (λ x. option_map number_of (option_and_then (λ y. y) x)) was.1 ∙ ap (λ (x : Object). Some x.number) (sym same);
}
