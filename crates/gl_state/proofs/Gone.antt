-- What is left where the objects to which nothing refers are taken out.
use Rattle.std.proofs.Common.{◌≡◌, ℕ, ◌<◌, ◌||◌, ◌&&◌, Bool, true, false, not, cond, List, [], ◌∷◌, is_some, None, sym, ap, ◌∙◌, refl, arith}
use Rattle.std.specs.Map.{keys_of}
use Rattle.tables.specs.Table.{Entries, entry, has, without, only}
use Rattle.gl_model.specs.declared.state.Names.{Names}
use Rattle.gl_model.specs.GroupEffect.{names_object}
use Rattle.gl_model.proofs.TableLaws.{entry-only}
use Rattle.gl_state.specs.Order.{AreAbove, IsRising, IsTied, key_set}
use Rattle.gl_state.specs.Ended.{gone, without_all}
use Rattle.gl_state.proofs.Tallies.{without_head, without_past}
use Rattle.gl_state.proofs.Tied.{IsTied-swept}
use Rattle.gl_state.proofs.Filtered.{only-same, only-each_value, only-only, IsRising-filter}

-- keys that are all above an entry
abbrev AllAbove : ℕ → List ℕ → Type 0
AllAbove j [] = Unit {0}
AllAbove j (k ∷ ks) = (j < k) × AllAbove j ks

without_all-past : {V : Type 0} (e : ℕ × V) (ks : List ℕ) (t : Entries V) → AllAbove e.0 ks → without_all ks (e ∷ t) ≡ e ∷ without_all ks t
without_all-past e [] t above = refl
without_all-past e (k ∷ ks) t above =
    rw (without_past k e t (λ same. absurd (omega (arith, above.0, same)))) (without_all-past e ks (without k t) above.1)

keys_above : {V : Type 0} (p : ℕ → Bool) (j : ℕ) (t : Entries V) → AreAbove j t → AllAbove j (keys_of (only p t))
keys_above p j [] above = tt
keys_above p j (e ∷ t) above = step (p e.0) (keys_above p j t above.1)
  where
    step : (b : Bool) → AllAbove j (keys_of (only p t)) → AllAbove j (keys_of (cond b (e ∷ only p t) (only p t)))
    step true rest = (above.0, rest)
    step false rest = rest

-- the keys that pass are taken out
pub without_all-only : {V : Type 0} (p : ℕ → Bool) (t : Entries V) → IsRising t → without_all (keys_of (only p t)) t ≡ only (λ k. not (p k)) t
without_all-only p [] rising = refl
without_all-only p (e ∷ t) rising = step (p e.0) (without_all-only p t rising.1)
  where
    step : (b : Bool) → without_all (keys_of (only p t)) t ≡ only (λ k. not (p k)) t → without_all (keys_of (cond b (e ∷ only p t) (only p t))) (e ∷ t) ≡ cond (not b) (e ∷ only (λ k. not (p k)) t) (only (λ k. not (p k)) t)
    step true rest = ap (without_all (keys_of (only p t))) (without_head e.0 e t refl) ∙ rest
    step false rest = without_all-past e (keys_of (only p t)) t (keys_above p e.0 t rising.0) ∙ ap (λ xs. e ∷ xs) rest

pub keys_of-key_set : {V : Type 0} (t : Entries V) → keys_of (key_set t) ≡ keys_of t
keys_of-key_set [] = refl
keys_of-key_set (e ∷ t) = ap (λ ks. e.0 ∷ ks) (keys_of-key_set t)

pub gone-only : {V : Type 0} (p : ℕ → Bool) (t : Entries V) → gone t (only p t) ≡ keys_of (only (λ k. not (p k)) t)
gone-only p t = ap keys_of (only-same _ _ t (λ k had. ap not (ap is_some (entry-only p k t) ∙ step k (p k) had)))
  where
    step : (k : ℕ) (b : Bool) → has k t ≡ true → is_some (cond b (entry k t) None) ≡ b
    step k true had = had
    step k false had = refl

not_not : (b : Bool) → not (not b) ≡ b
not_not true = refl
not_not false = refl

not_or : (a b : Bool) → (not a && not b) ≡ not (a || b)
not_or true b = refl
not_or false b = refl

module _ {V : Type 0} (names : Names) (objects : Entries V) (nameless : Entries (Unit {0})) (tied : IsTied names objects nameless) (bound : ℕ → Bool) where
  ended_keys : keys_of (only (λ b. not (bound b)) nameless) ≡ keys_of (only (λ b. not (names_object names b || bound b)) objects)
  ended_keys =
      ap (λ t. keys_of (only (λ b. not (bound b)) t)) tied.listed
      ∙ ap keys_of (only-each_value (λ b. not (bound b)) (λ _. tt {0}) (only (λ b. not (names_object names b)) objects))
      ∙ keys_of-key_set (only (λ b. not (bound b)) (only (λ b. not (names_object names b)) objects))
      ∙ ap keys_of (only-only (λ b. not (bound b)) (λ b. not (names_object names b)) objects
      ∙ only-same _ _ objects (λ k _. not_or (names_object names k) (bound k)))

  pub objects_left : without_all (keys_of (only (λ b. not (bound b)) nameless)) objects ≡ only (λ b. names_object names b || bound b) objects
  objects_left =
      ap (λ ks. without_all ks objects) ended_keys
      ∙ without_all-only (λ b. not (names_object names b || bound b)) objects tied.rising
      ∙ only-same _ _ objects (λ k _. not_not (names_object names k || bound k))

  nameless_rising : IsRising nameless
  nameless_rising = rw tied.listed (marked_rising (only (λ b. not (names_object names b)) objects) (IsRising-filter (λ e. not (names_object names e.0)) objects tied.rising))
    where
      above : {W : Type 0} (j : ℕ) (t : Entries W) → AreAbove j t → AreAbove j (key_set t)
      above j [] a = tt
      above j (e ∷ t) a = (a.0, above j t a.1)

      marked_rising : {W : Type 0} (t : Entries W) → IsRising t → IsRising (key_set t)
      marked_rising [] r = tt
      marked_rising (e ∷ t) r = (above e.0 t r.0, marked_rising t r.1)

  pub nameless_left : without_all (keys_of (only (λ b. not (bound b)) nameless)) nameless ≡ only bound nameless
  nameless_left = without_all-only (λ b. not (bound b)) nameless nameless_rising ∙ only-same _ _ nameless (λ k _. not_not (bound k))

  pub ended_are_gone : keys_of (only (λ b. not (bound b)) nameless) ≡ gone objects (only (λ b. names_object names b || bound b) objects)
  ended_are_gone = ended_keys ∙ sym (gone-only (λ b. names_object names b || bound b) objects)

-- one kind of object, after those that ended were taken out
module _ {V : Type 0} (names : Names) (objects : Entries V) (nameless : Entries (Unit {0})) (tied : IsTied names objects nameless) (bound : ℕ → Bool)
    (left : Entries V) (left_nameless : Entries (Unit {0})) (ended : List ℕ)
    (noted : ended ≡ keys_of (only (λ b. not (bound b)) nameless)) (took : left ≡ without_all ended objects) (took_nameless : left_nameless ≡ without_all ended nameless) where
  pub left_is : left ≡ only (λ b. names_object names b || bound b) objects
  left_is = took ∙ ap (λ ks. without_all ks objects) noted ∙ objects_left names objects nameless tied bound

  pub left_tied : IsTied names left left_nameless
  left_tied =
      let nameless_is : left_nameless ≡ only bound nameless = took_nameless ∙ ap (λ ks. without_all ks nameless) noted ∙ nameless_left names objects nameless tied bound in
      rw (left_is, nameless_is) (IsTied-swept names objects nameless tied bound)

  pub left_gone : ended ≡ gone objects left
  left_gone = noted ∙ ended_are_gone names objects nameless tied bound ∙ ap (gone objects) (sym left_is)
