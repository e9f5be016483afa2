-- The bytes of the objects as contracts see them.
use mathlib.Core.Path.{fun_ext}
use Rattle.std.proofs.Common.{◌≡◌, ℕ, List, [], ◌∷◌, map, cond, Bool, true, false, refl, ◌∙◌, ap}
use Rattle.std.specs.Prelude.{Option, Some, None, unwrap_or}
use Rattle.std.specs.Map.{lookup}
use Rattle.std.specs.BTreeMap.{is_at}
use Rattle.std.specs.Ordering.{nat_cmp}
use Rattle.vk_objects.specs.declared.objects.Object.{Object}
use Rattle.vk_objects.specs.declared.objects.Objects.{Objects}
use Rattle.vk_objects.specs.Objects.{bytes_in, bytes_of}
use Rattle.vk_machine.specs.Machine.{stored_in, bytes_at}

abbrev pair : ℕ × Object → ℕ × List ℕ
pair e = (e.0, e.1.bytes)

mapped : (test : ℕ → Bool) (entries : List (ℕ × Object)) → lookup test (map pair entries) ≡ Rattle.std.specs.Prelude.option_map (λ (x : Object). x.bytes) (lookup test entries)
mapped test [] = refl
mapped test (e ∷ entries) = ap (λ o. cond (test e.0) (Some e.1.bytes) o) (mapped test entries) ∙ pick (test e.0) (lookup test entries)
  where
    pick : (b : Bool) (rest : Option Object) → cond b (Some e.1.bytes) (Rattle.std.specs.Prelude.option_map (λ (x : Object). x.bytes) rest) ≡ Rattle.std.specs.Prelude.option_map (λ (x : Object). x.bytes) (cond b (Some e.1) rest)
    pick true rest = refl
    pick false rest = refl

bytes_of_option : (o : Option Object) → unwrap_or (Rattle.std.specs.Prelude.option_map (λ (x : Object). x.bytes) o) [] ≡ bytes_in o
bytes_of_option None = refl
bytes_of_option (Some x) = refl

pub stored_bytes : (objects : Objects) (id : ℕ) → bytes_at (stored_in objects) id ≡ bytes_of objects id
stored_bytes objects id = ap (λ o. unwrap_or o []) (mapped (is_at (nat_cmp id)) objects.map.entries) ∙ bytes_of_option (lookup (is_at (nat_cmp id)) objects.map.entries)

pub all_stored_bytes : (objects : Objects) → bytes_at (stored_in objects) ≡ bytes_of objects
all_stored_bytes objects = fun_ext (stored_bytes objects)

pub bytes_found : (o : Option Object) (b : List ℕ) → Some b ≡ Rattle.std.specs.Prelude.option_map (λ (x : Object). x.bytes) o → b ≡ bytes_in o
bytes_found None b is = let no : ◌≡◌ {A = Option (List ℕ)} (Some b) None = is in absurd (cc)
bytes_found (Some x) b is = Rattle.std.proofs.lemmas.Option.same_Some b x.bytes is
