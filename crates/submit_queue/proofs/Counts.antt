-- Counting the items that have not run.
use Rattle.std.proofs.Common.{◌≡◌, ℕ, zero, suc, ◌+◌, ◌-◌, ◌<◌, ◌≤◌, Bool, true, false, cond, List, [], ◌∷◌, ◌++◌, length, map, set, get_or, refl, sym, ap, subst, inl, inr, arith}
use Rattle.std.specs.Prelude.{◌⊎◌, Some, slice_get}
use Rattle.std.proofs.lemmas.Bool.{cases_Bool, cases_eq, true_from_ne_false}
use Rattle.vk_types.specs.declared.batches.Batch.{Batch}
use Rattle.submit_queue.specs.declared.pending.Pending.{Pending}
use Rattle.submit_queue.specs.Histories.{item_count}
use Rattle.submit_queue.specs.Kept.{batch_of, not_run, LeftAre, lowered}
use Rattle.submit_queue.proofs.Lists.{same_Some, not_Some}

-- what an item adds to the count
abbrev counts : Bool → ℕ
counts ran = cond ran 0 1

-- none ran
pub not_run-none : (f : ℕ → Bool) (n : ℕ) → ((i : ℕ) → i < n → f i ≡ false) → not_run f n ≡ n
not_run-none f zero e = refl
not_run-none f (suc n) e =
    omega (arith, ap counts (e n (omega arith)), not_run-none f n (λ i lt. e i (omega (arith, lt))))

-- all ran
pub not_run-all : (f : ℕ → Bool) (n : ℕ) → ((i : ℕ) → i < n → f i ≡ true) → not_run f n ≡ 0
not_run-all f zero e = refl
not_run-all f (suc n) e =
    omega (arith, ap counts (e n (omega arith)), not_run-all f n (λ i lt. e i (omega (arith, lt))))

last_ran : (f : ℕ → Bool) (n : ℕ) → not_run f (suc n) ≡ 0 → f n ≡ true
last_ran f n e = true_from_ne_false (f n) (λ h. let g : counts (f n) ≡ 1 = ap counts h in omega (arith, g, e))

pub not_run-done : (f : ℕ → Bool) (n : ℕ) → not_run f n ≡ 0 → (i : ℕ) → i < n → f i ≡ true
not_run-done f zero e i lt = absurd (omega (arith, lt))
not_run-done f (suc n) e i lt = go (cases_eq i n) (not_run-done f n (omega (arith, e)) i)
  where
    go : (i ≡ n) ⊎ (i ≡ n → ⊥) → (i < n → f i ≡ true) → f i ≡ true
    go (inl same) before = subst (λ k. f k ≡ true) (sym same) (last_ran f n e)
    go (inr other) before = before (omega (arith, lt, other))

pub not_run-some : (f : ℕ → Bool) (n : ℕ) → 0 < not_run f n → (i : ℕ) × (i < n) × (f i ≡ false)
not_run-some f zero lt = absurd (omega (arith, lt))
not_run-some f (suc n) lt = go (cases_Bool (f n)) (not_run-some f n)
  where
    go : (f n ≡ true) ⊎ (f n ≡ false) → (0 < not_run f n → (i : ℕ) × (i < n) × (f i ≡ false)) → (i : ℕ) × (i < suc n) × (f i ≡ false)
    go (inl t) rest = let g : counts (f n) ≡ 0 = ap counts t in let r = rest (omega (arith, g, lt)) in (r.0, omega (arith, r.1), r.2)
    go (inr t) rest = (n, omega arith, t)

pub not_run-same : (f g : ℕ → Bool) (n : ℕ) → ((i : ℕ) → i < n → g i ≡ f i) → not_run g n ≡ not_run f n
not_run-same f g zero e = refl
not_run-same f g (suc n) e =
    omega (arith, ap counts (e n (omega arith)), not_run-same f g n (λ i lt. e i (omega (arith, lt))))

-- one item more ran
pub not_run-one : (f g : ℕ → Bool) (n i : ℕ) → i < n → f i ≡ false → g i ≡ true → ((j : ℕ) → (j ≡ i → ⊥) → g j ≡ f j) → not_run g n + 1 ≡ not_run f n
not_run-one f g zero i lt before now others = absurd (omega (arith, lt))
not_run-one f g (suc n) i lt before now others = go (cases_eq i n) (λ l. not_run-one f g n i l before now others)
  where
    go : (i ≡ n) ⊎ (i ≡ n → ⊥) → (i < n → not_run g n + 1 ≡ not_run f n) → not_run g (suc n) + 1 ≡ not_run f (suc n)
    go (inl same) less =
        let p : counts (f n) ≡ 1 = ap counts (subst (λ k. f k ≡ false) same before) in
        let q : counts (g n) ≡ 0 = ap counts (subst (λ k. g k ≡ true) same now) in
        omega (arith, p, q, not_run-same f g n (λ j l. others j (λ e. omega (arith, l, e, same))))
    go (inr other) less =
        let p : counts (g n) ≡ counts (f n) = ap counts (others n (λ e. other (sym e))) in
        omega (arith, p, less (omega (arith, lt, other)))

-- the counts of a list of batches, in another history
pub LeftAre-same : (f g : ℕ → ℕ → Bool) (n : ℕ) (ps : List Pending) → ((k i : ℕ) → n ≤ k → g k i ≡ f k i) → LeftAre f n ps → LeftAre g n ps
LeftAre-same f g n [] same are = tt
LeftAre-same f g n (p ∷ ps) same are = (
  rw (not_run-same (f n) (g n) (item_count p.batch) (λ i lt. same n i (omega arith))) are.0,
  LeftAre-same f g (suc n) ps (λ k i le. same k i (omega (arith, le))) are.1,
)

pub LeftAre-push : (f : ℕ → ℕ → Bool) (n : ℕ) (ps : List Pending) (p : Pending) (m : ℕ) → m ≡ n + length ps → p.left ≡ not_run (f m) (item_count p.batch) → LeftAre f n ps → LeftAre f n (ps ++ p ∷ [])
LeftAre-push f n [] p m e left are = let g : m ≡ n = omega (arith, e) in (subst (λ k. p.left ≡ not_run (f k) (item_count p.batch)) g left, tt)
LeftAre-push f n (q ∷ ps) p m e left are = (are.0, LeftAre-push f (suc n) ps p m (omega (arith, e)) left are.1)

-- the count of one of them
pub LeftAre-at : (f : ℕ → ℕ → Bool) (n : ℕ) (ps : List Pending) (j : ℕ) (p : Pending) (m : ℕ) → m ≡ n + j → slice_get ps j ≡ Some p → LeftAre f n ps → p.left ≡ not_run (f m) (item_count p.batch)
LeftAre-at f n [] j p m e at are = absurd (not_Some p at)
LeftAre-at f n (q ∷ ps) zero p m e at are =
    let g : n ≡ m = omega (arith, e) in
    subst (λ k. p.left ≡ not_run (f k) (item_count p.batch)) g (subst (λ (r : Pending). r.left ≡ not_run (f n) (item_count r.batch)) (same_Some q p at) are.0)
LeftAre-at f n (q ∷ ps) (suc j) p m e at are = LeftAre-at f (suc n) ps j p m (omega (arith, e)) at are.1

-- an item of one of them ran
pub LeftAre-run : (f g : ℕ → ℕ → Bool) (n : ℕ) (ps : List Pending) (j i m : ℕ) (b : Batch) → m ≡ n + j → slice_get (map batch_of ps) j ≡ Some b → i < item_count b → f m i ≡ false → g m i ≡ true → ((k l : ℕ) → (k ≡ m → ⊥) → g k l ≡ f k l) → ((l : ℕ) → (l ≡ i → ⊥) → g m l ≡ f m l) → LeftAre f n ps → LeftAre g n (lowered ps j)
LeftAre-run f g n [] j i m b e at lt before now others items are = tt
LeftAre-run f g n (p ∷ ps) zero i m b e at lt before now others items are =
    let here : m ≡ n = omega (arith, e) in
    let within : i < item_count p.batch = subst (λ (c : Batch). i < item_count c) (sym (same_Some p.batch b at)) lt in
    let less : not_run (g m) (item_count p.batch) + 1 ≡ not_run (f m) (item_count p.batch) = not_run-one (f m) (g m) (item_count p.batch) i within before now items in
    let left : p.left ≡ not_run (f m) (item_count p.batch) = subst (λ k. p.left ≡ not_run (f k) (item_count p.batch)) (sym here) are.0 in
    let new : p.left - 1 ≡ not_run (g m) (item_count p.batch) = omega (arith, less, left) in (
      subst (λ k. p.left - 1 ≡ not_run (g k) (item_count p.batch)) here new,
      LeftAre-same f g (suc n) ps (λ k l le. others k l (λ s. omega (arith, le, s, e))) are.1,
    )
LeftAre-run f g n (p ∷ ps) (suc j) i m b e at lt before now others items are = (
  rw (not_run-same (f n) (g n) (item_count p.batch) (λ l lt'. others n l (λ s. omega (arith, s, e)))) are.0,
  LeftAre-run f g (suc n) ps j i m b (omega (arith, e)) at lt before now others items are.1,
)

pub map-lowered : (ps : List Pending) (j : ℕ) → map batch_of (lowered ps j) ≡ map batch_of ps
map-lowered [] j = refl
map-lowered (p ∷ ps) zero = refl
map-lowered (p ∷ ps) (suc j) = ap (λ l. p.batch ∷ l) (map-lowered ps j)

pub length-lowered : (ps : List Pending) (j : ℕ) → length (lowered ps j) ≡ length ps
length-lowered [] j = refl
length-lowered (p ∷ ps) zero = refl
length-lowered (p ∷ ps) (suc j) = ap suc (length-lowered ps j)

-- a write of the place, where there is one
pub lowered-set : (ps : List Pending) (j : ℕ) (p : Pending) → p ≡ get_or ps j p → set ps j (record p { left = p.left - 1 }) ≡ lowered ps j
lowered-set [] j p e = refl
lowered-set (q ∷ ps) zero p e = ap (λ (r : Pending). record r { left = r.left - 1 } ∷ ps) e
lowered-set (q ∷ ps) (suc j) p e = ap (λ l. q ∷ l) (lowered-set ps j p e)

pub lowered-past : (ps : List Pending) (j : ℕ) → length ps ≤ j → lowered ps j ≡ ps
lowered-past [] j le = refl
lowered-past (q ∷ ps) zero le = absurd (omega (arith, le))
lowered-past (q ∷ ps) (suc j) le = ap (λ l. q ∷ l) (lowered-past ps j (omega (arith, le)))
