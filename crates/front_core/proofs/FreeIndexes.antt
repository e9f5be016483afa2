-- Where each index of a group is that of a context, there are as many contexts.
use Rattle.std.proofs.Common.{arith, ◌≡◌, ◌≢◌, ℕ, ◌+◌, ◌*◌, ◌<◌, ◌≤◌, ◌==◌, ◌||◌, not, Bool, true, false, cond, Some, None, List, [], ◌∷◌, length, map, refl, sym, ◌∙◌, ap, subst, is_some, zero, suc}
use Rattle.std.specs.Prelude.{nat_le, unwrap_or}
use Rattle.std.specs.List.{filter, list_any, AllByRecursion}
use Rattle.std.specs.List.Sorted.{IsStrictlySortedBy}
use Rattle.std.specs.Map.{keys_of}
use Rattle.std.specs.Ordering.{nat_cmp}
use Rattle.std.specs.declared.cmp.Ordering.TheVariants.{Less}
use Rattle.std.proofs.lemmas.Bool.{false≢true, eqb-true, eq-eqb, le-leb}
use Rattle.std.proofs.lemmas.Grind.{common_steps}
use Rattle.gl_calls.specs.declared.call.Call.TheVariants as call
use Rattle.gl_calls.specs.declared.reply.Reply.{Reply}
use Rattle.tables.specs.Table.{Entries, entry, has, any_value, IsOrdered}
use Rattle.gl_model.specs.declared.state.Context.{Context}
use Rattle.gl_model.specs.declared.state.GroupState.{GroupState}
use Rattle.gl_model.specs.Refusal.{refusal}
use Rattle.gl_model.proofs.TableLaws.{is_at-nat_cmp}
use Rattle.back_core.specs.Needs.{IsOfGroup}
use Rattle.front_core.specs.Share.{HaveIndexes}

-- Distinct numbers of a list

others : ℕ → List ℕ → List ℕ
others v xs = filter (λ j. not (j == v)) xs

length-others-le : (v : ℕ) (xs : List ℕ) → length (others v xs) ≤ length xs
unfolding others
length-others-le v [] = omega arith
length-others-le v (x ∷ xs) = by_first (x == v) (length-others-le v xs)
  where
    by_first : (b : Bool) → length (others v xs) ≤ length xs → length (cond (not b) (x ∷ others v xs) (others v xs)) ≤ length (x ∷ xs)
    by_first true rest = omega arith
    by_first false rest = omega arith

fewer_others : (v : ℕ) (xs : List ℕ) → list_any (λ j. j == v) xs ≡ true → length (others v xs) < length xs
unfolding others
fewer_others v [] there = absurd (false≢true there)
fewer_others v (x ∷ xs) there = by_first (x == v) there (λ later. fewer_others v xs later)
  where
    by_first : (b : Bool) → (b || list_any (λ j. j == v) xs) ≡ true → (list_any (λ j. j == v) xs ≡ true → length (others v xs) < length xs) → length (cond (not b) (x ∷ others v xs) (others v xs)) < length (x ∷ xs)
    by_first true there rest = let fewer = length-others-le v xs in omega arith
    by_first false there rest = let fewer = rest there in omega arith

still_there : (v k : ℕ) (xs : List ℕ) → k ≢ v → list_any (λ j. j == k) xs ≡ true → list_any (λ j. j == k) (others v xs) ≡ true
unfolding others
still_there v k [] apart there = there
still_there v k (x ∷ xs) apart there = by_first (x == v) (x == k) refl refl there (λ later. still_there v k xs apart later)
  where
    later_true : (b : Bool) (o : Bool) → o ≡ true → (b || o) ≡ true
    later_true true o is = refl
    later_true false o is = is

    by_first : (b d : Bool) → (x == v) ≡ b → (x == k) ≡ d → (d || list_any (λ j. j == k) xs) ≡ true → (list_any (λ j. j == k) xs ≡ true → list_any (λ j. j == k) (others v xs) ≡ true) →
        list_any (λ j. j == k) (cond (not b) (x ∷ others v xs) (others v xs)) ≡ true
    by_first true true is_v is_k there rest = absurd (apart (sym (eqb-true x k is_k) ∙ eqb-true x v is_v))
    by_first true false is_v is_k there rest = rest there
    by_first false true is_v is_k there rest = ap (λ b. b || list_any (λ j. j == k) (others v xs)) is_k
    by_first false false is_v is_k there rest = later_true (x == k) (list_any (λ j. j == k) (others v xs)) (rest there)

-- a list in which each number of a range is has at least as many elements
as_many : (low n : ℕ) (xs : List ℕ) → ((k : ℕ) → low ≤ k → k < low + n → list_any (λ j. j == k) xs ≡ true) → n ≤ length xs
as_many low zero xs there = omega arith
as_many low (suc n) xs there =
    let fewer = fewer_others (low + n) xs (there (low + n) (omega arith) (omega arith)) in
    let rest = as_many low n (others (low + n) xs) (λ k above below. still_there (low + n) k xs (omega arith) (there k (omega arith) (omega arith))) in
    omega arith

-- Values of a table

-- each key is above a number
abbrev AreAbove : {V : Type 0} → ℕ → Entries V → Type 0
AreAbove k [] = Unit {0}
AreAbove k (e ∷ t) = (k < e.0) × AreAbove k t

abbrev IsRising : {V : Type 0} → Entries V → Type 0
IsRising [] = Unit {0}
IsRising (e ∷ t) = AreAbove e.0 t × IsRising t

below_key : (k q : ℕ) → nat_cmp k q ≡ Less → k < q
below_key k q less = grind (arith, common_steps)

AreAbove-ordered : {V : Type 0} (k : ℕ) (t : Entries V) → AllByRecursion (λ q. nat_cmp k q ≡ Less) (keys_of t) → AreAbove k t
AreAbove-ordered k [] all = tt
AreAbove-ordered k (e ∷ t) all = (below_key k e.0 all.0, AreAbove-ordered k t all.1)

IsRising-ordered : {V : Type 0} (t : Entries V) → IsOrdered t → IsRising t
unfolding IsStrictlySortedBy
IsRising-ordered [] ordered = tt
IsRising-ordered (e ∷ t) ordered = (AreAbove-ordered e.0 t ordered.0, IsRising-ordered t ordered.1)

above_all : {V : Type 0} (k n : ℕ) (v : V) (t : Entries V) → AreAbove k t → entry n t ≡ Some v → k < n
above_all k n v [] above at = let bad : ⊥ = cc in absurd bad
above_all {V} k n v (e ∷ t) above at = by_first (n == e.0) refl (sym (ap (λ b. cond b (Some e.1) (entry n t)) (is_at-nat_cmp n e.0)) ∙ at) (λ later. above_all k n v t above.1 later)
  where
    by_first : (b : Bool) → (n == e.0) ≡ b → cond (n == e.0) (Some e.1) (entry n t) ≡ Some v → (entry n t ≡ Some v → k < n) → k < n
    by_first true is at rest = let same = eqb-true n e.0 is in let first = above.0 in omega arith
    by_first false is at rest = rest (sym (ap (λ b. cond b (Some e.1) (entry n t)) is) ∙ at)

-- a value of a table stands under a key
key_of : (k : ℕ) (t : Entries ℕ) → IsRising t → any_value (λ j. j == k) t ≡ true → (n : ℕ) × (entry n t ≡ Some k)
key_of k [] rising there = absurd (false≢true there)
key_of k (e ∷ t) rising there = by_first (e.1 == k) refl there (λ more. key_of k t rising.1 more)
  where
    here : (n : ℕ) → entry n (e ∷ t) ≡ cond (n == e.0) (Some e.1) (entry n t)
    here n = ap (λ b. cond b (Some e.1) (entry n t)) (is_at-nat_cmp n e.0)

    later : (n : ℕ) → entry n t ≡ Some k → entry n (e ∷ t) ≡ Some k
    later n at =
        let above = above_all e.0 n k t rising.0 at in
        let off : (n == e.0) ≡ false = grind arith in
        here n ∙ ap (λ b. cond b (Some e.1) (entry n t)) off ∙ at

    by_first : (b : Bool) → (e.1 == k) ≡ b → (b || any_value (λ j. j == k) t) ≡ true → (any_value (λ j. j == k) t ≡ true → (n : ℕ) × (entry n t ≡ Some k)) → (n : ℕ) × (entry n (e ∷ t) ≡ Some k)
    by_first true is there rest = (e.0, here e.0 ∙ ap (λ b. cond b (Some e.1) (entry e.0 t)) (eq-eqb e.0 e.0 refl) ∙ ap Some (eqb-true e.1 k is))
    by_first false is there rest = let found = rest there in (found.0, later found.0 found.1)

-- the index of each context
indexes : Entries ℕ → Entries Context → List ℕ
indexes serials contexts = map (λ e. unwrap_or (entry e.0 serials) 0) contexts

among_indexes : (serials : Entries ℕ) (contexts : Entries Context) (n k : ℕ) → entry n serials ≡ Some k → has n contexts ≡ true → list_any (λ j. j == k) (indexes serials contexts) ≡ true
unfolding indexes
among_indexes serials [] n k at there = absurd (false≢true there)
among_indexes serials (e ∷ t) n k at there = by_first (n == e.0) refl (sym (ap (λ b. is_some (cond b (Some e.1) (entry n t))) (is_at-nat_cmp n e.0)) ∙ there) (λ more. among_indexes serials t n k at more)
  where
    later_true : (b : Bool) (o : Bool) → o ≡ true → (b || o) ≡ true
    later_true true o is = refl
    later_true false o is = is

    by_first : (b : Bool) → (n == e.0) ≡ b → is_some (cond (n == e.0) (Some e.1) (entry n t)) ≡ true → (has n t ≡ true → list_any (λ j. j == k) (indexes serials t) ≡ true) → ((unwrap_or (entry e.0 serials) 0 == k) || list_any (λ j. j == k) (indexes serials t)) ≡ true
    by_first true is there rest =
        let is_k : unwrap_or (entry e.0 serials) 0 ≡ k = ap (λ q. unwrap_or (entry q serials) 0) (sym (eqb-true n e.0 is)) ∙ ap (λ o. unwrap_or o 0) at in
        ap (λ b. b || list_any (λ j. j == k) (indexes serials t)) (eq-eqb (unwrap_or (entry e.0 serials) 0) k is_k)
    by_first false is there rest = later_true (unwrap_or (entry e.0 serials) 0 == k) (list_any (λ j. j == k) (indexes serials t))
        (rest (sym (ap (λ b. is_some (cond b (Some e.1) (entry n t))) is) ∙ there))

length-indexes : (serials : Entries ℕ) (contexts : Entries Context) → length (indexes serials contexts) ≡ length contexts
unfolding indexes
length-indexes serials [] = refl
length-indexes serials (e ∷ t) = ap suc (length-indexes serials t)

-- where each index of the group is taken there are eight contexts
pub all_taken : (contexts : Entries Context) (serials : Entries ℕ) (group : ℕ) → HaveIndexes contexts serials group → IsOrdered serials →
    ((k : ℕ) → IsOfGroup group k → any_value (λ j. j == k) serials ≡ true) → 8 ≤ length contexts
all_taken contexts serials group have ordered taken =
    subst (λ n. 8 ≤ n) (length-indexes serials contexts)
    (as_many (8 * group) 8 (indexes serials contexts) (λ k above below.
    let found = key_of k serials (IsRising-ordered serials ordered) (taken k (above, below)) in
    among_indexes serials contexts found.0 k found.1 (sym (have.each found.0) ∙ ap is_some found.1)))

-- a context is created where there are fewer
pub few_contexts : (group : GroupState) (thread number : ℕ) → refusal group thread (call.CreateContext number) ≡ None → 8 ≤ length group.contexts → ⊥
few_contexts group thread number accepted many = by_rows _ _ (has number group.contexts) (nat_le 8 (length group.contexts)) refl accepted
  where
    by_rows : (a b : Reply) (exists full : Bool) → nat_le 8 (length group.contexts) ≡ full → cond exists (Some a) (cond full (Some b) None) ≡ None → ⊥
    by_rows a b true full is none = let bad : ⊥ = cc in bad
    by_rows a b false true is none = let bad : ⊥ = cc in bad
    by_rows a b false false is none = absurd (false≢true (sym is ∙ le-leb 8 (length group.contexts) many))
