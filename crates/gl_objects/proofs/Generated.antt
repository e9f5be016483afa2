-- Names that are generated, and forgotten.
use Rattle.std.proofs.Common.{◌≡◌, ℕ, ◌==◌, ◌||◌, suc, Bool, true, false, not, cond, is_some, Option, Some, None, List, [], ◌∷◌, length, take, refl, sym, ap, ◌∙◌, arith}
use Rattle.std.specs.List.{list_any, range_with_len}
use Rattle.std.specs.Option.{option_map}
use Rattle.std.proofs.lemmas.Bool.{false≢true}
use Rattle.std.proofs.lemmas.Grind.{common_steps}
use Rattle.tables.specs.Table.{Entries, entry, has, with_entry, each_value}
use Rattle.gl_model.specs.GroupEffect.{lowest_unused, with_generated}
use Rattle.gl_objects.specs.declared.ids.ObjectId.{ObjectId}
use Rattle.gl_objects.specs.declared.object.Object.{Object}
use Rattle.gl_objects.specs.Names.{AreUnused}
use Rattle.gl_objects.specs.Objects.{IsSound}
use Rattle.unused_names.proofs.LowestNames.{filter-same}
use Rattle.unused_names.proofs.Generated.{entry-with_generated}
use Rattle.gl_objects.proofs.NumberedNames.{entry-each_value, each_value-with_entry}

pub each_value-with_generated : {V W : Type 0} (f : V → W) (ns : List ℕ) (t : Entries (Option V)) → each_value (option_map f) (with_generated ns t) ≡ with_generated ns (each_value (option_map f) t)
each_value-with_generated f [] t = refl
each_value-with_generated f (n ∷ ns) t =
    each_value-with_entry (option_map f) n None (with_generated ns t) ∙ ap (with_entry n None) (each_value-with_generated f ns t)

length-each_value : {V W : Type 0} (f : V → W) (t : Entries V) → length (each_value f t) ≡ length t
length-each_value f [] = refl
length-each_value f (e ∷ t) = ap suc (length-each_value f t)

is_some-option_map : {V W : Type 0} (f : V → W) (o : Option V) → is_some (option_map f o) ≡ is_some o
is_some-option_map f None = refl
is_some-option_map f (Some v) = refl

has-each_value : {V W : Type 0} (f : V → W) (k : ℕ) (t : Entries V) → has k (each_value f t) ≡ has k t
has-each_value f k t = ap is_some (entry-each_value f k t) ∙ is_some-option_map f (entry k t)

pub lowest_unused-each_value : {V W : Type 0} (f : V → W) (n : ℕ) (t : Entries V) → lowest_unused (each_value f t) n ≡ lowest_unused t n
lowest_unused-each_value f n t =
    rw (length-each_value f t) (ap (take n) (filter-same _ _ (λ name. ap not (has-each_value f name t)) (range_with_len 1 _)))

apart_step : {V : Type 0} (t : Entries V) (q n : ℕ) (a b : Bool) → (q == n) ≡ a → has n t ≡ false → has q t ≡ true → b ≡ false → (a || b) ≡ false
apart_step t q n true b same unused had none =
    let one : q ≡ n = grind (arith, common_steps) in
    absurd (false≢true (sym unused ∙ ap (λ k. has k t) (sym one) ∙ had))
apart_step t q n false b same unused had none = none

list_any_unused : {V : Type 0} (ns : List ℕ) (t : Entries V) (q : ℕ) → AreUnused ns t → has q t ≡ true → list_any (λ n. q == n) ns ≡ false
list_any_unused [] t q unused had = refl
list_any_unused (n ∷ ns) t q unused had =
    apart_step t q n (q == n) _ refl unused.0 had (list_any_unused ns t q unused.2 had)

pub IsSound-generated : (names : Entries (Option ObjectId)) (made : ℕ) (objects : List (Option Object)) (ns : List ℕ) → AreUnused ns names → IsSound names made objects → IsSound (with_generated ns names) made objects
IsSound-generated names made objects ns unused sound = record {
  earlier = sound.earlier;
  apart = sound.apart;
  referenced = sound.referenced;
  named = λ name id has. sound.named name id (still name id (list_any (λ n. name == n) ns) (sym (entry-with_generated ns names name) ∙ has));
  listed = λ key o name found called.
      let was = sound.listed key o name found called in
      let away = list_any_unused ns names name unused (ap is_some was.1) in
      (was.0, entry-with_generated ns names name ∙ rw away was.1, was.2);
}
  where
    still : (name : ℕ) (id : ObjectId) (b : Bool) → cond b (Some None) (entry name names) ≡ Some (Some id) → entry name names ≡ Some (Some id)
    still name id true has = absurd (cc)
    still name id false has = has
