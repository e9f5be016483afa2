-- Facts on lists of uses.
use Rattle.std.proofs.Common.{◌≡◌, ◌≢◌, ℕ, zero, suc, ◌+◌, ◌<◌, ◌≤◌, ◌==◌, eqb, max, cond, Bool, true, false, List, [], ◌∷◌, ◌++◌, length, get_or, set, refl, sym, ap, subst, ◌∙◌, arith}
use Rattle.std.specs.List.{position_or_len}
use Rattle.std.proofs.lemmas.Bool.Decides.{nat_tests}
use Rattle.vk_types.specs.declared.batches.QueueSerial.{QueueSerial}
use Rattle.resource_use.specs.Uses.{number_of, noted, merged, IsAbsent, AreDistinct}

-- where a use has the serial's index, the first such use is raised
pub noted-first : (uses : List QueueSerial) (s : QueueSerial) (i : ℕ) (d : QueueSerial) → i < length uses
    → ((get_or uses i d).index == s.index) ≡ true → ((k : ℕ) → k < i → ((get_or uses k d).index == s.index) ≡ false)
    → noted uses s ≡ set uses i (record { index = (get_or uses i d).index; number = max (get_or uses i d).number s.number })
noted-first [] s i d h e b = absurd (omega (arith, h))
noted-first (u ∷ us) s zero d h e b = rw e refl
noted-first (u ∷ us) s (suc i) d h e b =
    rw (b 0 (omega arith)) (ap (λ l. u ∷ l) (noted-first us s i d (omega arith) e (λ k lt. b (suc k) (omega arith))))

-- where no use has the serial's index, the serial stands at the end
pub noted-absent : (uses : List QueueSerial) (s : QueueSerial) (d : QueueSerial)
    → ((k : ℕ) → k < length uses → ((get_or uses k d).index == s.index) ≡ false)
    → noted uses s ≡ uses ++ s ∷ []
noted-absent [] s d b = refl
noted-absent (u ∷ us) s d b =
    rw (b 0 (omega arith)) (ap (λ l. u ∷ l) (noted-absent us s d (λ k lt. b (suc k) (omega arith))))

-- the first use of an index has the index's number
pub number-first : (uses : List QueueSerial) (x i : ℕ) (d : QueueSerial) → i < length uses
    → ((get_or uses i d).index == x) ≡ true → ((k : ℕ) → k < i → ((get_or uses k d).index == x) ≡ false)
    → number_of uses x ≡ (get_or uses i d).number
number-first [] x i d h e b = absurd (omega (arith, h))
number-first (u ∷ us) x zero d h e b = rw e refl
number-first (u ∷ us) x (suc i) d h e b =
    rw (b 0 (omega arith)) (number-first us x i d (omega arith) e (λ k lt. b (suc k) (omega arith)))

pub number-none : (uses : List QueueSerial) (x : ℕ) (d : QueueSerial)
    → ((k : ℕ) → k < length uses → ((get_or uses k d).index == x) ≡ false) → number_of uses x ≡ 0
number-none [] x d b = refl
number-none (u ∷ us) x d b = rw (b 0 (omega arith)) (number-none us x d (λ k lt. b (suc k) (omega arith)))

first-number : (b : Bool) (n : ℕ) → cond b n 0 ≡ cond b (max 0 n) 0
first-number true n = omega arith
first-number false n = refl

raised-number : (a x i un sn r : ℕ) → (a == x) ≡ true
    → cond (a == i) (max un sn) r ≡ cond (x == i) (max (cond (a == i) un r) sn) (cond (a == i) un r)
raised-number a x i un sn r h = grind (arith, nat_tests)

other-number : (a x i un sn r r' : ℕ) → (a == x) ≡ false → r' ≡ cond (x == i) (max r sn) r
    → cond (a == i) un r' ≡ cond (x == i) (max (cond (a == i) un r) sn) (cond (a == i) un r)
other-number a x i un sn r r' h e = grind (arith, nat_tests)

number_of-noted-step : (u : QueueSerial) (us : List QueueSerial) (s : QueueSerial) (i : ℕ) (b : Bool) → (u.index == s.index) ≡ b
    → number_of (noted us s) i ≡ cond (s.index == i) (max (number_of us i) s.number) (number_of us i)
    → number_of (noted (u ∷ us) s) i ≡ cond (s.index == i) (max (number_of (u ∷ us) i) s.number) (number_of (u ∷ us) i)
number_of-noted-step u us s i true h ih = rw h (raised-number u.index s.index i u.number s.number (number_of us i) h)
number_of-noted-step u us s i false h ih = rw h (other-number u.index s.index i u.number s.number (number_of us i) _ h ih)

-- the number of the serial's index is the greater one, and each other number stays
pub number_of-noted : (uses : List QueueSerial) (s : QueueSerial) (i : ℕ)
    → number_of (noted uses s) i ≡ cond (s.index == i) (max (number_of uses i) s.number) (number_of uses i)
number_of-noted [] s i = first-number (s.index == i) s.number
number_of-noted (u ∷ us) s i = number_of-noted-step u us s i (u.index == s.index) refl (number_of-noted us s i)

absent-number : (a i n r : ℕ) → (a ≡ i → ⊥) → r ≡ 0 → cond (a == i) n r ≡ 0
absent-number a i n r h e = grind (arith, nat_tests)

pub number_of-absent : (uses : List QueueSerial) (i : ℕ) → IsAbsent uses i → number_of uses i ≡ 0
number_of-absent [] i a = refl
number_of-absent (u ∷ us) i a = absent-number u.index i u.number (number_of us i) a.0 (number_of-absent us i a.1)

absent-noted-step : (u : QueueSerial) (us : List QueueSerial) (s : QueueSerial) (i : ℕ) (b : Bool) → (u.index == s.index) ≡ b
    → IsAbsent (u ∷ us) i → IsAbsent (noted us s) i → IsAbsent (noted (u ∷ us) s) i
absent-noted-step u us s i true e a ih = rw e a
absent-noted-step u us s i false e a ih = rw e (a.0, ih)

pub absent-noted : (uses : List QueueSerial) (s : QueueSerial) (i : ℕ) → IsAbsent uses i → (s.index ≢ i) → IsAbsent (noted uses s) i
absent-noted [] s i a h = (h, tt)
absent-noted (u ∷ us) s i a h = absent-noted-step u us s i (u.index == s.index) refl a (absent-noted us s i a.1 h)

differs : (a x : ℕ) → (a == x) ≡ false → x ≡ a → ⊥
differs a x e h = grind (arith, nat_tests)

distinct-noted-step : (u : QueueSerial) (us : List QueueSerial) (s : QueueSerial) (b : Bool) → (u.index == s.index) ≡ b
    → AreDistinct (u ∷ us) → AreDistinct (noted us s) → AreDistinct (noted (u ∷ us) s)
distinct-noted-step u us s true e d ih = rw e d
distinct-noted-step u us s false e d ih = rw e (absent-noted us s u.index d.0 (differs u.index s.index e), ih)

-- the indexes stay distinct
pub distinct-noted : (uses : List QueueSerial) (s : QueueSerial) → AreDistinct uses → AreDistinct (noted uses s)
distinct-noted [] s d = (tt, tt)
distinct-noted (u ∷ us) s d = distinct-noted-step u us s (u.index == s.index) refl d (distinct-noted us s d.1)

-- a merge one use at a time
pub merged-push : (us vs : List QueueSerial) (v : QueueSerial) → merged us (vs ++ v ∷ []) ≡ noted (merged us vs) v
merged-push us [] v = refl
merged-push us (w ∷ vs) v = merged-push (noted us w) vs v

merged-number : (a i n u v w m r : ℕ) → (a ≡ i → v ≡ 0) → m ≡ cond (a == i) (max u n) u → r ≡ max m v
    → r ≡ max u (cond (a == i) n v)
merged-number a i n u v w m r z e f = grind (arith, nat_tests)

-- the numbers of a merge are the greater ones
pub number_of-merged : (us vs : List QueueSerial) (i : ℕ) → AreDistinct vs
    → number_of (merged us vs) i ≡ max (number_of us i) (number_of vs i)
number_of-merged us [] i d = omega arith
number_of-merged us (v ∷ vs) i d =
    merged-number v.index i v.number (number_of us i) (number_of vs i) 0 (number_of (noted us v) i) _
    (λ e. number_of-absent vs i (let P : ℕ → Type 0 = IsAbsent vs in subst P e d.0)) (number_of-noted us v i) (number_of-merged (noted us v) vs i d.1)
