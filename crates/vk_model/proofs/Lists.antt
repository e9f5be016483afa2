-- Contents as lists, and permitted orders by their fronts.
use Rattle.std.proofs.Common.{◌≡◌, ℕ, zero, suc, ◌+◌, ◌<◌, List, [], ◌∷◌, ◌++◌, length, map, refl, sym, ◌∙◌, ap, subst, add-zero, zero-add, arith}
use Rattle.std.specs.Prelude.{slice_index, ◌↔◌}
use Rattle.std.specs.List.{range_with_len}
use Rattle.cells.specs.Contents.{cells, Agrees, AgreesAt}
use Rattle.std.proofs.lemmas.List.{append_assoc, append-nil}
use Rattle.vk_model.specs.Log.{Item, IsReady, MayFollow, IsPermitted, IsOneQueue}
use Rattle.vk_model.specs.Queues.{IsHandedOver}
use Rattle.vk_model.proofs.Reaching.{Before, before}

agrees_from : (bytes : List ℕ) (f : ℕ → ℕ) (a : ℕ) → ((i : ℕ) → i < length bytes → AgreesAt (slice_index bytes i) (f (a + i))) → Agrees bytes (map f (range_with_len a (length bytes)))
agrees_from [] f a each = tt
agrees_from (x ∷ xs) f a each = (
  subst (λ k. AgreesAt x (f k)) (add-zero a) (each 0 (omega arith)),
  agrees_from xs f (a + 1) (λ i lt. let e : a + suc i ≡ a + 1 + i = omega arith in subst (λ k. AgreesAt (slice_index xs i) (f k)) e (each (suc i) (omega (arith, lt)))),
)

-- bytes that agree at each place agree with the content
pub agrees_with : (size : ℕ) (bytes : List ℕ) (f : ℕ → ℕ) → length bytes ≡ size → ((i : ℕ) → i < size → AgreesAt (slice_index bytes i) (f i)) → Agrees bytes (cells size f)
agrees_with size bytes f len each =
    subst (λ n. Agrees bytes (cells n f)) len (agrees_from bytes f 0 (λ i lt. subst (λ k. AgreesAt (slice_index bytes i) (f k)) (sym (zero-add i)) (each i (subst (λ n. i < n) len lt))))

agree_from : (bytes : List ℕ) (f : ℕ → ℕ) (a n : ℕ) → Agrees bytes (map f (range_with_len a n)) → (i : ℕ) → i < n → AgreesAt (slice_index bytes i) (f (a + i))
agree_from bytes f a zero agrees i lt = absurd (omega (arith, lt))
agree_from [] f a (suc n) agrees i lt = absurd agrees
agree_from (x ∷ xs) f a (suc n) agrees zero lt = subst (λ k. AgreesAt x (f k)) (sym (add-zero a)) agrees.0
agree_from (x ∷ xs) f a (suc n) agrees (suc i) lt =
    let e : a + 1 + i ≡ a + suc i = omega arith in
    subst (λ k. AgreesAt (slice_index xs i) (f k)) e (agree_from xs f (a + 1) n agrees.1 i (omega (arith, lt)))

-- and the other way round
pub agree_at : (size : ℕ) (bytes : List ℕ) (f : ℕ → ℕ) → Agrees bytes (cells size f) → (i : ℕ) → i < size → AgreesAt (slice_index bytes i) (f i)
agree_at size bytes f agrees i lt = subst (λ k. AgreesAt (slice_index bytes i) (f k)) (zero-add i) (agree_from bytes f 0 size agrees i lt)

ready_follow : (log : List Item) (done order : List ℕ) → ((front : List ℕ) (k : ℕ) (back : List ℕ) → order ≡ front ++ k ∷ back → IsReady log (done ++ front) k) → MayFollow log done order
ready_follow log done [] each = tt
ready_follow log done (k ∷ order) each = (
  subst (λ l. IsReady log l k) (append-nil done) (each [] k order refl),
  ready_follow log (done ++ k ∷ []) order (λ front i back e. subst (λ l. IsReady log l i) (sym (append_assoc done (k ∷ []) front)) (each (k ∷ front) i back (ap (λ l. k ∷ l) e))),
)

-- an order is permitted exactly where each item is ready after those before it
pub permitted_iff : (log : List Item) (order : List ℕ) → IsPermitted log order ↔ ((front : List ℕ) (k : ℕ) (back : List ℕ) → order ≡ front ++ k ∷ back → IsReady log front k)
permitted_iff log order = (
  (λ permitted front k back e. let b : Before log [] front k = before log [] front k back (subst (IsPermitted log) e permitted) in b.ready),
  (λ each. ready_follow log [] order each),
)

-- one queue has nothing to hand over
pub one_queue_handed_over : (log : List Item) → IsOneQueue log → IsHandedOver log
one_queue_handed_over log one j k p q id a b lt at_j at_k other ta tb = absurd (other (one j p a at_j ∙ sym (one k q b at_k)))
