-- The work that is left falls.
use Rattle.std.proofs.Common.{◌≡◌, ℕ, zero, suc, ◌+◌, ◌-◌, ◌<◌, ◌≤◌, Bool, true, false, cond, List, [], ◌∷◌, ◌++◌, length, refl, sym, ap, ◌∙◌, subst, inl, inr, arith}
use Rattle.std.specs.Prelude.{◌⊎◌, ◌==◌, Some, slice_get}
use Rattle.std.proofs.lemmas.Bool.{cases_Bool, cases_eq, and_from, eq-eqb, or_left, or_right}
use Rattle.std.proofs.lemmas.Option.{same_Some, none-some}
use Rattle.vk_types.specs.declared.batches.Batch.{Batch}
use Rattle.submit_queue.specs.Histories as queue
use Rattle.back_core.specs.declared.back_event.BackEvent.{BackEvent}
use Rattle.back_core.specs.declared.back_event.BackEvent.TheVariants.{Created, Wrote, Enqueued, Submitted, Ran, Retired, Fetched, Gave, Abandoned, Cleaned, Closing, Stopped}
use Rattle.back_core.specs.History.{queue_history, queue_event}
use Rattle.back_core.specs.Run.{items_left, all_items_left, work_in, work_left, MayHappen, IsRun, IsProgress}
use Rattle.back_core.proofs.Sees.{queue_then}
use Rattle.back_core.proofs.Going.{accepted_next, retired_next, ran_next, batches_stay, ran_stays, goes, numbered, next_to_retire}
use Rattle.vk_types.specs.declared.batches.QueueSerial.{QueueSerial}

-- Items

module _ (f g : ℕ → Bool) (still : (i : ℕ) → f i ≡ true → g i ≡ true) where
  one_less : (i : ℕ) → ◌≤◌ (cond (g i) 0 1) (cond (f i) 0 1)
  one_less i = go (cases_Bool (f i)) (cases_Bool (g i))
    where
      go : (f i ≡ true) ⊎ (f i ≡ false) → (g i ≡ true) ⊎ (g i ≡ false) → ◌≤◌ (cond (g i) 0 1) (cond (f i) 0 1)
      go (inl t) d = omega (arith, cond-true' (g i) (still i t))
        where
          cond-true' : (b : Bool) → b ≡ true → ◌≡◌ {A = ℕ} (cond b 0 1) 0
          cond-true' b e = ap {B = ℕ} (λ c. cond c 0 1) e
      go (inr t) (inl u) = let e : ◌≡◌ {A = ℕ} (cond (g i) 0 1) 0 = ap {B = ℕ} (λ c. cond c 0 1) u in omega (arith, e)
      go (inr t) (inr u) =
          let e : ◌≡◌ {A = ℕ} (cond (g i) 0 1) 1 = ap {B = ℕ} (λ c. cond c 0 1) u in
          let d : ◌≡◌ {A = ℕ} (cond (f i) 0 1) 1 = ap {B = ℕ} (λ c. cond c 0 1) t in
          omega (arith, e, d)

  items_fall : (n : ℕ) → items_left g n ≤ items_left f n
  items_fall zero = omega arith
  items_fall (suc n) = omega (arith, one_less n, items_fall n)

  items_less : (n i : ℕ) → i < n → f i ≡ false → g i ≡ true → items_left g n < items_left f n
  items_less zero i lt before now = absurd (omega (arith, lt))
  items_less (suc n) i lt before now = go (cases_eq i n) (λ l. items_less n i l before now)
    where
      go : (i ≡ n) ⊎ (i ≡ n → ⊥) → (i < n → items_left g n < items_left f n) → items_left g (suc n) < items_left f (suc n)
      go (inl same) rest =
          let e : ◌≡◌ {A = ℕ} (cond (g n) 0 1) 0 = ap {B = ℕ} (λ c. cond c 0 1) (subst (λ k. g k ≡ true) same now) in
          let d : ◌≡◌ {A = ℕ} (cond (f n) 0 1) 1 = ap {B = ℕ} (λ c. cond c 0 1) (subst (λ k. f k ≡ false) same before) in
          omega (arith, e, d, items_fall n)
      go (inr other) rest = omega (arith, one_less n, rest (omega (arith, lt, other)))

module _ (f g : ℕ → ℕ → Bool) (still : (k i : ℕ) → f k i ≡ true → g k i ≡ true) where
  all_fall : (xs : List Batch) (place : ℕ) → all_items_left g place xs ≤ all_items_left f place xs
  all_fall [] place = omega arith
  all_fall (b ∷ xs) place = omega (arith, items_fall (f place) (g place) (still place) (queue.item_count b), all_fall xs (suc place))

  all_less : (xs : List Batch) (place k i m : ℕ) (b : Batch) → m ≡ place + k → slice_get xs k ≡ Some b → i < queue.item_count b → f m i ≡ false → g m i ≡ true → all_items_left g place xs < all_items_left f place xs
  all_less [] place k i m b at is lt before now = absurd (none-some b is)
  all_less (c ∷ xs) place zero i m b at is lt before now =
      let here : m ≡ place = omega (arith, at) in
      let inside : i < queue.item_count c = subst (λ (x : Batch). i < queue.item_count x) (sym (same_Some c b is)) lt in
      omega (arith, items_less (f place) (g place) (still place) (queue.item_count c) i inside (subst (λ l. f l i ≡ false) here before) (subst (λ l. g l i ≡ true) here now), all_fall xs (suc place))
  all_less (c ∷ xs) place (suc k) i m b at is lt before now =
      omega (arith, items_fall (f place) (g place) (still place) (queue.item_count c), all_less xs (suc place) k i m b (omega (arith, at)) is lt before now)

-- Events

abbrev work : List Batch → ℕ → ℕ → (ℕ → ℕ → Bool) → ℕ
work xs a r ran = (length xs - a) + (length xs - r) + all_items_left ran 0 xs

work_is : {xs ys : List Batch} {f g : ℕ → ℕ → Bool} (a r : ℕ) → xs ≡ ys → f ≡ g → work xs a r f ≡ work ys a r g
work_is {ys = ys} {f = f} a r same ran = ap (λ l. work l a r f) same ∙ ap (λ x. work ys a r x) ran

module _ (q : List queue.Event) where
  less_accepted : queue.accepted q < length (queue.batches q) → work_in (q ++ queue.Accepted ∷ []) < work_in q
  less_accepted lt =
      let same = work_is (queue.accepted (q ++ queue.Accepted ∷ [])) (queue.retired (q ++ queue.Accepted ∷ [])) (batches_stay q queue.Accepted refl) (ran_stays q queue.Accepted (λ k i. refl)) in
      let is : work_in (q ++ queue.Accepted ∷ []) ≡ work (queue.batches q) (queue.accepted (q ++ queue.Accepted ∷ [])) (queue.retired (q ++ queue.Accepted ∷ [])) (queue.has_run q) = same in
      omega (arith, is, accepted_next q queue.Accepted, retired_next q queue.Accepted, lt)

  less_retired : (serial : QueueSerial) → queue.retired q < length (queue.batches q) → work_in (q ++ queue.Retired serial ∷ []) < work_in q
  less_retired serial lt =
      let is : work_in (q ++ queue.Retired serial ∷ []) ≡ work (queue.batches q) (queue.accepted (q ++ queue.Retired serial ∷ [])) (queue.retired (q ++ queue.Retired serial ∷ [])) (queue.has_run q)
      = work_is (queue.accepted (q ++ queue.Retired serial ∷ [])) (queue.retired (q ++ queue.Retired serial ∷ [])) (batches_stay q (queue.Retired serial) refl) (ran_stays q (queue.Retired serial) (λ k i. refl)) in
      omega (arith, is, accepted_next q (queue.Retired serial), retired_next q (queue.Retired serial), lt)

  less_ran : (k i : ℕ) → queue.MayRun q k i → work_in (q ++ queue.Ran k i ∷ []) < work_in q
  less_ran k i may =
      let is : work_in (q ++ queue.Ran k i ∷ []) ≡ work (queue.batches q) (queue.accepted (q ++ queue.Ran k i ∷ [])) (queue.retired (q ++ queue.Ran k i ∷ [])) (queue.has_run (q ++ queue.Ran k i ∷ []))
      = work_is (queue.accepted (q ++ queue.Ran k i ∷ [])) (queue.retired (q ++ queue.Ran k i ∷ [])) (batches_stay q (queue.Ran k i) refl) refl in
      let less : all_items_left (queue.has_run (q ++ queue.Ran k i ∷ [])) 0 (queue.batches q) < all_items_left (queue.has_run q) 0 (queue.batches q)
      = all_less (queue.has_run q) (queue.has_run (q ++ queue.Ran k i ∷ [])) (λ l j was. ran_next q (queue.Ran k i) l j ∙ or_left (queue.has_run q l j) (queue.is_run l j (queue.Ran k i)) was)
      (queue.batches q) 0 k i k may.what (omega arith) may.at may.within may.not_before
      (ran_next q (queue.Ran k i) k i ∙ or_right (queue.has_run q k i) _ (and_from (k == k) (i == i) (eq-eqb k k refl) (eq-eqb i i refl))) in
      omega (arith, is, accepted_next q (queue.Ran k i), retired_next q (queue.Ran k i), less)

next_work : (h : List BackEvent) (e : BackEvent) (q : queue.Event) → queue_event e ≡ q ∷ [] → work_in (queue_history h ++ q ∷ []) < work_left h → work_left (h ++ e ∷ []) < work_left h
next_work h e q is less = subst (λ l. work_in l < work_left h) (sym (queue_then h e ∙ ap (λ l. queue_history h ++ l) is)) less

pub work_falls : (h : List BackEvent) (e : BackEvent) → IsRun h → MayHappen h e → IsProgress e → work_left (h ++ e ∷ []) < work_left h
work_falls h (Created group id kind) run may progress = absurd progress
work_falls h (Wrote group id at bytes) run may progress = absurd progress
work_falls h (Enqueued b) run may progress = absurd progress
work_falls h Submitted run may progress = next_work h Submitted queue.Accepted refl (less_accepted (queue_history h) may)
work_falls h (Ran batch node) run may progress = next_work h (Ran batch node) (queue.Ran batch node) refl (less_ran (queue_history h) batch node may)
work_falls h (Retired serial) run may progress =
    let here : may.place ≡ queue.retired (queue_history h) = next_to_retire (queue_history h) may.place (numbered h run) (goes h run) may.can in
    next_work h (Retired serial) (queue.Retired serial) refl (less_retired (queue_history h) serial (omega (arith, here, may.can.accepted_before, (goes h run).taken)))
work_falls h (Fetched group id at bytes) run may progress = absurd progress
work_falls h (Gave group id uses) run may progress = absurd progress
work_falls h (Abandoned group id) run may progress = absurd progress
work_falls h (Cleaned read destroyed) run may progress = absurd progress
work_falls h Closing run may progress = absurd progress
work_falls h (Stopped stop) run may progress = absurd progress
