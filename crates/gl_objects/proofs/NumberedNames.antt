-- Names with their objects told by number, after a change of the names.
use Rattle.std.proofs.Common.{◌≡◌, ℕ, ◌+◌, ◌<◌, true, is_some, map, List, sym, Option, Some, None, [], ◌∷◌, refl, ap, ◌∙◌, arith}
use Rattle.std.specs.Option.{option_map, option_and_then}
use Rattle.std.specs.Ordering.{nat_cmp}
use Rattle.std.specs.BTreeMap.{is_at}
use Rattle.std.proofs.lemmas.Grind.{common_steps}
use Rattle.std.proofs.lemmas.Map.Made.{lookup-map_values}
use Rattle.tables.specs.Table.{Entries, entry, with_entry, without, each_value}
use Rattle.std.specs.List.{filter}
use Rattle.gl_model.specs.GroupEffect.{object_of, makes_object, after_bind}
use Rattle.gl_objects.specs.declared.ids.ObjectId.{ObjectId}
use Rattle.gl_objects.specs.Ids.{number_of}
use Rattle.gl_objects.specs.Objects.{numbered, object_names}

pub entry-each_value : {V W : Type 0} (f : V → W) (k : ℕ) (t : Entries V) → entry k (each_value f t) ≡ option_map f (entry k t)
entry-each_value f k t = lookup-map_values f (is_at (nat_cmp k)) t

pub each_value-with_entry : {V W : Type 0} (f : V → W) (k : ℕ) (v : V) (t : Entries V) → each_value f (with_entry k v t) ≡ with_entry k (f v) (each_value f t)
each_value-with_entry f k v [] = refl
each_value-with_entry f k v (e ∷ t) = grind (arith, common_steps, each_value-with_entry f k v t)

pub each_value-without : {V W : Type 0} (f : V → W) (k : ℕ) (t : Entries V) → each_value f (without k t) ≡ without k (each_value f t)
each_value-without f k [] = refl
each_value-without f k (e ∷ t) = grind (arith, common_steps, each_value-without f k t)

option_parts : (f : ObjectId → ℕ) (o : Option (Option ObjectId)) → option_and_then (λ x. x) (option_map (option_map f) o) ≡ option_map f (option_and_then (λ x. x) o)
option_parts f None = refl
option_parts f (Some x) = refl

pub object_of-numbered : (t : Entries (Option ObjectId)) (made name : ℕ) → object_of (record { objects = numbered t; made = made }) name ≡ option_map number_of (option_and_then (λ x. x) (entry name t))
object_of-numbered t made name =
    ap (option_and_then (λ x. x)) (entry-each_value (option_map number_of) name t) ∙ option_parts number_of (entry name t)

-- a name that has no object by number has none
no_number : (f : ObjectId → ℕ) (o : Option (Option ObjectId)) (id : ObjectId) → option_map f (option_and_then (λ x. x) o) ≡ None → o ≡ Some (Some id) → ⊥
no_number f (Some (Some x)) id none has = cc
no_number f None id none has = cc
no_number f (Some None) id none has = cc

pub no_object-numbered : (t : Entries (Option ObjectId)) (made name : ℕ) (id : ObjectId) → object_of (record { objects = numbered t; made = made }) name ≡ None → entry name t ≡ Some (Some id) → ⊥
no_object-numbered t made name id none has =
    no_number number_of (entry name t) id (sym (object_of-numbered t made name) ∙ none) has

pub after_bind-numbered : (t : Entries (Option ObjectId)) (made name : ℕ) (id : ObjectId) → 0 < name → object_of (record { objects = numbered t; made = made }) name ≡ None → number_of id ≡ made → after_bind (record { objects = numbered t; made = made }) name ≡ record { objects = numbered (with_entry name (Some id) t); made = made + 1 }
after_bind-numbered t made name id positive none number =
    let makes : makes_object (record { objects = numbered t; made = made }) name ≡ true = rw none (grind (arith, common_steps)) in
    rw (makes, each_value-with_entry (option_map number_of) name (Some id) t, number) refl

names_step : (k : ℕ) (o : Option ObjectId) (t : Entries (Option ObjectId)) (rest : List ℕ) → map (λ e. e.0) (filter (λ e. is_some e.1) (numbered t)) ≡ rest → map (λ e. e.0) (filter (λ e. is_some e.1) t) ≡ rest → map (λ e. e.0) (filter (λ e. is_some e.1) (numbered ((k, o) ∷ t))) ≡ map (λ e. e.0) (filter (λ e. is_some e.1) ((k, o) ∷ t))
names_step k None t rest a b = a ∙ sym b
names_step k (Some id) t rest a b = ap (λ xs. k ∷ xs) (a ∙ sym b)

pub object_names-numbered : (t : Entries (Option ObjectId)) (made : ℕ) → object_names (record { objects = numbered t; made = made }) ≡ map (λ e. e.0) (filter (λ e. is_some e.1) t)
object_names-numbered [] made = refl
object_names-numbered (e ∷ t) made = names_step e.0 e.1 t _ (object_names-numbered t made) refl
