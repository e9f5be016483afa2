-- The numbers under which the stores of objects are kept: each number is that of one object.
use Rattle.std.proofs.Common.{◌≡◌, ◌≢◌, ℕ, zero, suc, ◌+◌, ◌*◌, Bool, refl, sym, ◌∙◌, ap, arith, inl, inr}
use Rattle.std.specs.Prelude.{◌==◌, ◌⊎◌}
use Rattle.std.proofs.lemmas.Bool.{eq-eqb, ne_eqb}
use Rattle.front_model.specs.declared.object.Object.{Object}
use Rattle.front_model.specs.declared.object.Object.TheVariants.{Buffer, Texture, Renderbuffer}
use Rattle.front_model.specs.Face.{same_object}
use Rattle.front_model.proofs.Base.{cases_object, same_object-self, same_object-other}
use Rattle.front_moves.specs.Objects.{key_of}

-- the object of the same kind after this one
abbrev next : Object → Object
next (Buffer b) = Buffer (suc b)
next (Texture t) = Texture (suc t)
next (Renderbuffer r) = Renderbuffer (suc r)

-- the object of a key
abbrev pub object_at : ℕ → Object
object_at zero = Buffer 0
object_at (suc zero) = Texture 0
object_at (suc (suc zero)) = Renderbuffer 0
object_at (suc (suc (suc k))) = next (object_at k)

three_more : (n k : ℕ) → 3 * suc n + k ≡ suc (suc (suc (3 * n + k)))
three_more n k = omega arith

no_more : (n : ℕ) → n + 0 ≡ n
no_more n = omega arith

key_next : (o : Object) → key_of (next o) ≡ suc (suc (suc (key_of o)))
key_next (Buffer b) = sym (no_more (3 * suc b)) ∙ three_more b 0 ∙ ap (λ n. suc (suc (suc n))) (no_more (3 * b))
key_next (Texture t) = three_more t 1
key_next (Renderbuffer r) = three_more r 2

pub key_at : (k : ℕ) → key_of (object_at k) ≡ k
key_at zero = refl
key_at (suc zero) = refl
key_at (suc (suc zero)) = refl
key_at (suc (suc (suc k))) = key_next (object_at k) ∙ ap (λ n. suc (suc (suc n))) (key_at k)

pub at_key : (o : Object) → object_at (key_of o) ≡ o
at_key (Buffer zero) = refl
at_key (Buffer (suc b)) = ap object_at (key_next (Buffer b)) ∙ ap next (at_key (Buffer b))
at_key (Texture zero) = refl
at_key (Texture (suc t)) = ap object_at (key_next (Texture t)) ∙ ap next (at_key (Texture t))
at_key (Renderbuffer zero) = refl
at_key (Renderbuffer (suc r)) = ap object_at (key_next (Renderbuffer r)) ∙ ap next (at_key (Renderbuffer r))

pub same_key : (o q : Object) → key_of o ≡ key_of q → o ≡ q
same_key o q e = sym (at_key o) ∙ ap object_at e ∙ at_key q

pub key_test : (o q : Object) → (key_of o == key_of q) ≡ same_object o q
key_test o q = go (cases_object o q)
  where
    go : (o ≡ q) ⊎ (o ≢ q) → (key_of o == key_of q) ≡ same_object o q
    go (inl e) = eq-eqb (key_of o) (key_of q) (ap key_of e) ∙ sym (ap (same_object o) (sym e) ∙ same_object-self o)
    go (inr ne) = ne_eqb (key_of o) (key_of q) (λ e. ne (same_key o q e)) ∙ sym (same_object-other o q ne)
