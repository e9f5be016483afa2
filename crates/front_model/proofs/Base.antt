-- Small laws that the steps share: a value put at one place, objects, options, and nodes that touch.
use Rattle.std.proofs.Common.{◌≡◌, ◌≢◌, ℕ, zero, suc, Bool, true, false, List, [], ◌∷◌, ◌++◌, length, refl, sym, ◌∙◌, ap, subst, inl, inr}
use Rattle.std.specs.Prelude.{◌==◌, ◌||◌, ◌⊎◌, Option, Some, None, IsSome, is_some, slice_get}
use Rattle.std.specs.Option.{option_map}
use Rattle.std.proofs.lemmas.Bool.{cases_eq, cases_Bool, cond-true, cond-false, eq-eqb, ne_eqb, eqb-true, both_ways}
use Rattle.std.proofs.lemmas.List.Folds.{list_any-append}
use Rattle.vk_types.specs.declared.ops.Node.{Node}
use Rattle.vk_model.specs.Log.{touches_object}
use Rattle.back_core.specs.Link.{put}
use Rattle.front_model.specs.declared.object.Object.{Object}
use Rattle.front_model.specs.declared.object.Object.TheVariants.{Buffer, Texture, Renderbuffer}
use Rattle.front_model.specs.Face.{same_object, put_object, nodes_touch}

-- A value put at one place

pub put-same : {A : Type 0} → (f : ℕ → A) (k : ℕ) (v : A) → put f k v k ≡ v
unfolding put
put-same f k v = cond-true (k == k) v (f k) (eq-eqb k k refl)

pub put-other : {A : Type 0} → (f : ℕ → A) (k : ℕ) (v : A) (i : ℕ) → i ≢ k → put f k v i ≡ f i
unfolding put
put-other f k v i other = cond-false (i == k) v (f i) (ne_eqb i k other)

pub put_at : {A : Type 0} → (f : ℕ → A) (k : ℕ) (v : A) (i : ℕ) → i ≡ k → put f k v i ≡ v
put_at f k v i same = ap (put f k v) same ∙ put-same f k v

pub put_is : {A : Type 0} → (f : ℕ → A) (k : ℕ) (v : A) (i : ℕ) (x : A) → put f k v i ≡ x → ((i ≡ k) × (v ≡ x)) ⊎ ((i ≢ k) × (f i ≡ x))
put_is f k v i x at = elim (cases_eq i k) [
  | inl same ↦ inl (same, sym (put_at f k v i same) ∙ at)
  | inr other ↦ inr (other, sym (put-other f k v i other) ∙ at)
]

pub put-some : {A : Type 0} → (f : ℕ → Option A) (k : ℕ) (v : A) (i : ℕ) → IsSome (f i) → IsSome (put f k (Some v) i)
put-some f k v i some = elim (cases_eq i k) [
  | inl same ↦ subst IsSome (sym (put_at f k (Some v) i same)) refl
  | inr other ↦ subst IsSome (sym (put-other f k (Some v) i other)) some
]

pub put-true : (f : ℕ → Bool) (k i : ℕ) → f i ≡ true → put f k true i ≡ true
put-true f k i e = elim (cases_eq i k) [
  | inl same ↦ put_at f k true i same
  | inr other ↦ put-other f k true i other ∙ e
]

pub put_holds : {A : Type 0} → (P : A → Type 0) (f : ℕ → A) (k : ℕ) (v : A) (i : ℕ) → (i ≡ k → P v) → (i ≢ k → P (f i)) → P (put f k v i)
put_holds P f k v i here there = elim (cases_eq i k) [
  | inl same ↦ subst P (sym (put_at f k v i same)) (here same)
  | inr other ↦ subst P (sym (put-other f k v i other)) (there other)
]

-- Objects

pub same_object-true : (o q : Object) → same_object o q ≡ true → o ≡ q
same_object-true (Buffer a) (Buffer b) e = ap Buffer (eqb-true a b e)
same_object-true (Buffer a) (Texture b) e = cc
same_object-true (Buffer a) (Renderbuffer b) e = cc
same_object-true (Texture a) (Buffer b) e = cc
same_object-true (Texture a) (Texture b) e = ap Texture (eqb-true a b e)
same_object-true (Texture a) (Renderbuffer b) e = cc
same_object-true (Renderbuffer a) (Buffer b) e = cc
same_object-true (Renderbuffer a) (Texture b) e = cc
same_object-true (Renderbuffer a) (Renderbuffer b) e = ap Renderbuffer (eqb-true a b e)

pub same_object-self : (o : Object) → same_object o o ≡ true
same_object-self (Buffer a) = eq-eqb a a refl
same_object-self (Texture a) = eq-eqb a a refl
same_object-self (Renderbuffer a) = eq-eqb a a refl

pub same_object-other : (o q : Object) → o ≢ q → same_object o q ≡ false
same_object-other o q ne = elim (cases_Bool (same_object o q)) [ inl t ↦ absurd (ne (same_object-true o q t)) | inr f ↦ f ]

pub cases_object : (o q : Object) → (o ≡ q) ⊎ (o ≢ q)
cases_object o q = elim (cases_Bool (same_object o q)) [
  | inl t ↦ inl (same_object-true o q t)
  | inr f ↦ inr (λ e. both_ways (same_object o q) f (subst (λ x. same_object o x ≡ true) e (same_object-self o)))
]

pub put_object-same : {A : Type 0} → (f : Object → A) (o : Object) (v : A) → put_object f o v o ≡ v
unfolding put_object
put_object-same f o v = cond-true (same_object o o) v (f o) (same_object-self o)

pub put_object-other : {A : Type 0} → (f : Object → A) (o : Object) (v : A) (q : Object) → q ≢ o → put_object f o v q ≡ f q
unfolding put_object
put_object-other f o v q ne = cond-false (same_object q o) v (f q) (same_object-other q o ne)

pub put_object_is : {A : Type 0} → (f : Object → A) (o : Object) (v : A) (q : Object) (x : A) → put_object f o v q ≡ x → ((q ≡ o) × (v ≡ x)) ⊎ ((q ≢ o) × (f q ≡ x))
put_object_is f o v q x at = elim (cases_object q o) [
  | inl same ↦ inl (same, sym (ap (put_object f o v) same ∙ put_object-same f o v) ∙ at)
  | inr other ↦ inr (other, sym (put_object-other f o v q other) ∙ at)
]

-- Options

pub map_is : {A B : Type 0} (v : A → B) (o : Option A) (y : B) → option_map v o ≡ Some y → (x : A) × (o ≡ Some x) × (v x ≡ y)
map_is v None y at = cc
map_is v (Some x) y at = (x, refl, cc)

pub map_some : {A B : Type 0} (v : A → B) (o : Option A) → IsSome o → IsSome (option_map v o)
map_some v None some = cc
map_some v (Some x) some = refl

pub is_some_of : {A : Type 0} (o : Option A) (x : A) → o ≡ Some x → IsSome o
is_some_of o x e = ap is_some e

pub some_is : {A : Type 0} (o : Option A) → IsSome o → (x : A) × (o ≡ Some x)
some_is None some = let no : false ≡ true = some in cc
some_is (Some x) some = (x, refl)

-- Lists

-- what a list with one more at its end has
pub push_is : {X : Type 0} (xs : List X) (y : X) (j : ℕ) (z : X) → slice_get (xs ++ y ∷ []) j ≡ Some z → ((j ≡ length xs) × (y ≡ z)) ⊎ (slice_get xs j ≡ Some z)
push_is [] y zero z at = inl (refl, cc)
push_is [] y (suc j) z at = cc
push_is (x ∷ xs) y zero z at = inr at
push_is (x ∷ xs) y (suc j) z at = elim (push_is xs y j z at) [ inl e ↦ inl (ap suc e.0, e.1) | inr e ↦ inr e ]

pub push_at : {X : Type 0} (xs : List X) (y : X) → slice_get (xs ++ y ∷ []) (length xs) ≡ Some y
push_at [] y = refl
push_at (x ∷ xs) y = push_at xs y

pub push_keeps : {X : Type 0} (xs : List X) (y : X) (j : ℕ) (z : X) → slice_get xs j ≡ Some z → slice_get (xs ++ y ∷ []) j ≡ Some z
push_keeps [] y j z at = cc
push_keeps (x ∷ xs) y zero z at = at
push_keeps (x ∷ xs) y (suc j) z at = push_keeps xs y j z at

-- Nodes that touch

pub nodes_touch-append : (xs ys : List Node) (id : ℕ) → nodes_touch (xs ++ ys) id ≡ (nodes_touch xs id || nodes_touch ys id)
nodes_touch-append xs ys id = list_any-append (λ n. touches_object n id) xs ys
