-- Which keys of a table a change of it takes out, and which objects stop existing.
use Rattle.std.proofs.Common.{◌≡◌, ℕ, ◌==◌, ◌||◌, not, Bool, true, false, cond, Option, Some, None, [], ◌∷◌, refl, sym, ◌∙◌, ap, is_some}
use Rattle.std.specs.List.{list_any}
use Rattle.std.specs.Map.{keys_of}
use Rattle.tables.specs.Table.{Entries, entry, has, only}
use Rattle.gl_model.proofs.TableLaws.{entry-only, is_at-nat_cmp}
use Rattle.gl_state.specs.Ended.{gone}
use Rattle.std.specs.Prelude.{List, ◌++◌, map}
use Rattle.std.proofs.lemmas.List.Folds.{list_any-append}
use Rattle.gl_model.specs.declared.state.GroupState.{GroupState}
use Rattle.front_model.specs.declared.object.Object.{Object}
use Rattle.front_model.specs.declared.object.Object.TheVariants.{Buffer, Texture, Renderbuffer}
use Rattle.front_model.specs.Face.{same_object}
use Rattle.front_model.specs.Wanted.{exists}
use Rattle.front_moves.specs.Ending.{is_ended}
use Rattle.front_core.specs.Gone.{objects_gone}

-- a key is listed where the table has it
listed_first : {V : Type 0} (b : Bool) (v : V) (o : Option V) → (b || is_some o) ≡ is_some (cond b (Some v) o)
listed_first true v o = refl
listed_first false v o = refl

listed : {V : Type 0} (k : ℕ) (t : Entries V) → list_any (λ c. k == c) (keys_of t) ≡ has k t
listed k [] = refl
listed k (e ∷ t) =
    ap (λ b. (k == e.0) || b) (listed k t) ∙ listed_first (k == e.0) e.1 (entry k t)
    ∙ sym (ap (λ b. is_some (cond b (Some e.1) (entry k t))) (is_at-nat_cmp k e.0))

pub gone_is : {V : Type 0} (before after : Entries V) (k : ℕ) → list_any (λ c. k == c) (gone before after) ≡ cond (has k after) false (has k before)
gone_is before after k = listed k (only (λ b. not (has b after)) before) ∙ ap is_some (entry-only (λ b. not (has b after)) k before) ∙ by_after (has k after) (entry k before)
  where
    by_after : {V : Type 0} (t : Bool) (o : Option V) → is_some (cond (not t) o None) ≡ cond t false (is_some o)
    by_after true o = refl
    by_after false o = refl

-- Objects

or_nothing : (x : Bool) → (x || false) ≡ x
or_nothing true = refl
or_nothing false = refl

-- those of one kind among others
same_kind : (o : Object) (f : ℕ → Object) (n : ℕ) → ((k : ℕ) → same_object o (f k) ≡ (n == k)) → (xs : List ℕ) → is_ended (map f xs) o ≡ list_any (λ k. n == k) xs
same_kind o f n is [] = refl
same_kind o f n is (x ∷ xs) = ap (λ b. b || is_ended (map f xs) o) (is x) ∙ ap (λ b. (n == x) || b) (same_kind o f n is xs)

other_kind : (o : Object) (f : ℕ → Object) → ((k : ℕ) → same_object o (f k) ≡ false) → (xs : List ℕ) → is_ended (map f xs) o ≡ false
other_kind o f is [] = refl
other_kind o f is (x ∷ xs) = ap (λ b. b || is_ended (map f xs) o) (is x) ∙ other_kind o f is xs

in_three : (o : Object) (xs ys zs : List Object) (a b c : Bool) → is_ended xs o ≡ a → is_ended ys o ≡ b → is_ended zs o ≡ c → is_ended (xs ++ ys ++ zs) o ≡ ((a || b) || c)
in_three o xs ys zs a b c x y z =
    list_any-append (same_object o) (xs ++ ys) zs ∙ ap (λ t. t || is_ended zs o) (list_any-append (same_object o) xs ys)
    ∙ ap (λ t. (t || is_ended ys o) || is_ended zs o) x ∙ ap (λ t. (a || t) || is_ended zs o) y ∙ ap (λ t. (a || b) || t) z

-- those that existed and exist no longer
pub objects_gone_are : (before after : GroupState) (o : Object) → is_ended (objects_gone before after) o ≡ cond (exists after o) false (exists before o)
objects_gone_are before after o = go o
  where
    bs : List Object
    bs = map Buffer (gone before.buffers after.buffers)

    ts : List Object
    ts = map Texture (gone before.textures after.textures)

    rs : List Object
    rs = map Renderbuffer (gone before.renderbuffers after.renderbuffers)

    go : (o : Object) → is_ended (objects_gone before after) o ≡ cond (exists after o) false (exists before o)
    go (Buffer b) =
        in_three (Buffer b) bs ts rs (list_any (λ k. b == k) (gone before.buffers after.buffers)) false false
        (same_kind (Buffer b) (λ k. Buffer k) b (λ k. refl) (gone before.buffers after.buffers))
        (other_kind (Buffer b) (λ k. Texture k) (λ k. refl) (gone before.textures after.textures))
        (other_kind (Buffer b) (λ k. Renderbuffer k) (λ k. refl) (gone before.renderbuffers after.renderbuffers))
        ∙ or_nothing (list_any (λ k. b == k) (gone before.buffers after.buffers) || false) ∙ or_nothing (list_any (λ k. b == k) (gone before.buffers after.buffers))
        ∙ gone_is before.buffers after.buffers b
    go (Texture t) =
        in_three (Texture t) bs ts rs false (list_any (λ k. t == k) (gone before.textures after.textures)) false
        (other_kind (Texture t) (λ k. Buffer k) (λ k. refl) (gone before.buffers after.buffers))
        (same_kind (Texture t) (λ k. Texture k) t (λ k. refl) (gone before.textures after.textures))
        (other_kind (Texture t) (λ k. Renderbuffer k) (λ k. refl) (gone before.renderbuffers after.renderbuffers))
        ∙ or_nothing (list_any (λ k. t == k) (gone before.textures after.textures))
        ∙ gone_is before.textures after.textures t
    go (Renderbuffer r) =
        in_three (Renderbuffer r) bs ts rs false false (list_any (λ k. r == k) (gone before.renderbuffers after.renderbuffers))
        (other_kind (Renderbuffer r) (λ k. Buffer k) (λ k. refl) (gone before.buffers after.buffers))
        (other_kind (Renderbuffer r) (λ k. Texture k) (λ k. refl) (gone before.textures after.textures))
        (same_kind (Renderbuffer r) (λ k. Renderbuffer k) r (λ k. refl) (gone before.renderbuffers after.renderbuffers))
        ∙ gone_is before.renderbuffers after.renderbuffers r

pub are_gone : (before after : GroupState) (bs ts rs : List ℕ) → bs ≡ gone before.buffers after.buffers → ts ≡ gone before.textures after.textures → rs ≡ gone before.renderbuffers after.renderbuffers →
    map Buffer bs ++ map Texture ts ++ map Renderbuffer rs ≡ objects_gone before after
are_gone before after bs ts rs b t r = cc
