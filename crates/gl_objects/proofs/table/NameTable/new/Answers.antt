use Rattle.std.proofs.Common.{◌≡◌, ℕ, [], None, refl}
use Rattle.gl_objects.specs.Objects.{IsSound, object_at}
use Rattle.gl_objects.proofs.table.NameTable.new.Goals as goal

none_at : (key : ℕ) → object_at [] key ≡ None
none_at key = refl

empty_sound : IsSound [] 0 []
empty_sound = record {
  earlier = λ key o found. absurd (cc (found, none_at key));
  apart = λ j k a b found other same. absurd (cc (found, none_at j));
  referenced = λ key o found. absurd (cc (found, none_at key));
  named = λ name id has. absurd (cc);
  listed = λ key o name found called. absurd (cc (found, none_at key));
}

pub invariant_of-result : goal.invariant_of-result
invariant_of-result c = record { sound = rw (c.new.ensures, c.new-3.ensures.empty) empty_sound; fits = c.new-2.ensures _ }
