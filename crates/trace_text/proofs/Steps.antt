-- Steps of reading that may fail.
use Rattle.std.proofs.Common.{◌≡◌, Option, Some, None, Result, Ok, Err, refl, ap}
use Rattle.std.specs.Prelude.{option_and_then}
use Rattle.std.specs.Option.{option_map}
use Rattle.trace_words.specs.declared.fault.Fault.{Fault}
use Rattle.trace_words.specs.Faults.{◌>>=◌, or_fault}

pub or_fault_some : {A : Type 0} (f : Fault) (o : Option A) (x : A) → or_fault f o ≡ Ok x → o ≡ Some x
or_fault_some f (Some y) x e = let same : y ≡ x = cc in ap (λ v. Some v) same
or_fault_some f None x e = absurd cc

pub bind_ok : {A B : Type 0} (r : Result A Fault) (f : A → Result B Fault) (y : B) → (r >>= f) ≡ Ok y → (x : A) × (r ≡ Ok x) × (f x ≡ Ok y)
bind_ok (Ok x) f y e = (x, refl, e)
bind_ok (Err d) f y e = absurd cc

pub map_some : {A B : Type 0} (f : A → B) (o : Option A) (y : B) → option_map f o ≡ Some y → (x : A) × (o ≡ Some x) × (f x ≡ y)
map_some f None y e = absurd cc
map_some f (Some x) y e = (x, refl, cc)

pub then_some : {A B : Type 0} (f : A → Option B) (o : Option A) (y : B) → option_and_then f o ≡ Some y → (x : A) × (o ≡ Some x) × (f x ≡ Some y)
then_some f None y e = absurd cc
then_some f (Some x) y e = (x, refl, e)

abbrev pub kept : {A : Type 0} → A → Result A Fault
kept x = Ok x

pub ok_is : {A : Type 0} (x y : A) → kept x ≡ kept y → x ≡ y
ok_is x y e = cc

abbrev pub kept_some : {A : Type 0} → A → Option A
kept_some x = Some x

pub some_is : {A : Type 0} (x y : A) → kept_some x ≡ kept_some y → x ≡ y
some_is x y e = cc
