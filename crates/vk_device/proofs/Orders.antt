-- The log and the executed order after one more entry.
use Rattle.std.proofs.Common.{◌≡◌, ◌≢◌, ℕ, zero, suc, ◌+◌, ◌<◌, ◌≤◌, ◌==◌, List, [], ◌∷◌, ◌++◌, fold, length, refl, sym, ◌∙◌, ap, subst, arith, inl, inr, append_assoc, length-append, eq-eqb}
use Rattle.std.specs.Prelude.{Option, Some, None, slice_get, Contains, IsSome, ◌⊎◌}
use Rattle.std.proofs.lemmas.List.{append-nil}
use Rattle.std.proofs.lemmas.List.Sums.{fold_push}
use Rattle.std.proofs.lemmas.Bool.{cases_eq, ne_eqb}
use Rattle.vk_types.specs.declared.handles.HandleId.{HandleId}
use Rattle.vk_types.specs.declared.handles.Kind.{Kind}
use Rattle.vk_types.specs.declared.ops.Node.{Node}
use Rattle.vk_model.specs.Log.{Item, Command, HostWrite}
use Rattle.vk_model.specs.Meaning.{IsSettled}
use Rattle.vk_model.proofs.Places.{contains_none, contains_head, contains_tail, contains_cons_cases}
use Rattle.vk_model.proofs.Device.{get_front, get_next}
use Rattle.vk_device.specs.declared.logged.Logged.{Logged}
use Rattle.vk_device.specs.declared.logged.Logged.TheVariants.{Created, Wrote, Submitted, Ran, Fetched, Destroyed}
use Rattle.vk_device.specs.Order.{entry_items, log_of, executes, order_from, order_of, kinds_after, kinds_of, AllRan, IsVisible, writes_into, IsHandedOver, HasNoBatch}

pub log_of-nil : log_of [] ≡ []
unfolding log_of
log_of-nil = refl

pub order_of-nil : order_of [] ≡ []
unfolding order_of
order_of-nil = refl

pub log_of-push : (journal : List Logged) (entry : Logged) → log_of (journal ++ entry ∷ []) ≡ log_of journal ++ entry_items entry
unfolding log_of
log_of-push journal entry = fold_push (λ log e. log ++ entry_items e) [] journal entry

pub kinds_of-push : (journal : List Logged) (entry : Logged) → kinds_of (journal ++ entry ∷ []) ≡ kinds_after (kinds_of journal) entry
unfolding kinds_of
kinds_of-push journal entry = fold_push kinds_after _ journal entry

order_from-push : (before journal : List Logged) (entry : Logged) → order_from before (journal ++ entry ∷ []) ≡ order_from before journal ++ executes (before ++ journal) entry
order_from-push before [] entry = append-nil (executes before entry) ∙ ap (λ b. executes b entry) (sym (append-nil before))
order_from-push before (e ∷ journal) entry =
    ap (λ o. executes before e ++ o) (order_from-push (before ++ e ∷ []) journal entry)
    ∙ ap (λ b. executes before e ++ (order_from (before ++ e ∷ []) journal ++ executes b entry)) (append_assoc before (e ∷ []) journal)
    ∙ sym (append_assoc (executes before e) (order_from (before ++ e ∷ []) journal) (executes (before ++ e ∷ journal) entry))

pub order_of-push : (journal : List Logged) (entry : Logged) → order_of (journal ++ entry ∷ []) ≡ order_of journal ++ executes journal entry
unfolding order_of
order_of-push journal entry = order_from-push [] journal entry

-- Lists of places

pub contains_front : (xs ys : List ℕ) (k : ℕ) → Contains xs k → Contains (xs ++ ys) k
contains_front [] ys k c = absurd (contains_none k c)
contains_front (x ∷ xs) ys k c = elim (contains_cons_cases x xs k c) [
  | inl same ↦ subst (Contains (x ∷ xs ++ ys)) same (contains_head x (xs ++ ys))
  | inr more ↦ contains_tail x (xs ++ ys) k (contains_front xs ys k more)
]

pub contains_last : (xs : List ℕ) (k : ℕ) → Contains (xs ++ k ∷ []) k
contains_last [] k = contains_head k []
contains_last (x ∷ xs) k = contains_tail x (xs ++ k ∷ []) k (contains_last xs k)

-- A journal without a batch

pub nothing_waits : HasNoBatch []
nothing_waits = record {
  ran = λ k lt. let none : length (log_of []) ≡ 0 = ap length log_of-nil in absurd (omega arith);
  none = λ k q n at. let nil : slice_get [] k ≡ Some (Command q n) = subst (λ (l : List Item). slice_get l k ≡ Some (Command q n)) log_of-nil at in let no : ◌≡◌ {A = Option Item} None (Some (Command q n)) = nil in absurd (cc);
}

-- an entry that neither adds to the log nor executes
pub quiet : (journal : List Logged) (entry : Logged) → entry_items entry ≡ [] → executes journal entry ≡ [] → (log_of (journal ++ entry ∷ []) ≡ log_of journal) × (order_of (journal ++ entry ∷ []) ≡ order_of journal)
quiet journal entry no_item no_place = (
  log_of-push journal entry ∙ ap (λ x. log_of journal ++ x) no_item ∙ append-nil (log_of journal),
  order_of-push journal entry ∙ ap (λ x. order_of journal ++ x) no_place ∙ append-nil (order_of journal),
)

pub no_batch_after_quiet : (journal : List Logged) (entry : Logged) → entry_items entry ≡ [] → executes journal entry ≡ [] → HasNoBatch journal → HasNoBatch (journal ++ entry ∷ [])
no_batch_after_quiet journal entry no_item no_place has =
    let same = quiet journal entry no_item no_place in record {
      ran = λ k lt. subst (λ o. Contains o k) (sym same.1) (has.ran k (subst (λ (l : List Item). k < length l) same.0 lt));
      none = λ k q n at. has.none k q n (subst (λ (l : List Item). slice_get l k ≡ Some (Command q n)) same.0 at);
    }

write_at_end : (log : List Item) (id at : ℕ) (bytes : List ℕ) (k q : ℕ) (n : Node) → slice_get (log ++ HostWrite id at bytes ∷ []) k ≡ Some (Command q n) → slice_get log k ≡ Some (Command q n)
write_at_end [] id at bytes zero q n is = let same : ◌≡◌ {A = Option Item} (Some (HostWrite id at bytes)) (Some (Command q n)) = is in absurd (cc)
write_at_end [] id at bytes (suc k) q n is = is
write_at_end (x ∷ log) id at bytes zero q n is = is
write_at_end (x ∷ log) id at bytes (suc k) q n is = write_at_end log id at bytes k q n is

pub no_batch_after_write : (journal : List Logged) (id : HandleId) (at : ℕ) (bytes : List ℕ) → HasNoBatch journal → HasNoBatch (journal ++ Wrote id at bytes ∷ [])
no_batch_after_write journal id at bytes has = record { ran = ran; none = none }
  where
    log_is : log_of (journal ++ Wrote id at bytes ∷ []) ≡ log_of journal ++ HostWrite id.0 at bytes ∷ []
    log_is = log_of-push journal (Wrote id at bytes)

    order_is : order_of (journal ++ Wrote id at bytes ∷ []) ≡ order_of journal ++ length (log_of journal) ∷ []
    order_is = order_of-push journal (Wrote id at bytes)

    ran_to : (k : ℕ) → k < length (log_of journal) + 1 → Contains (order_of journal ++ length (log_of journal) ∷ []) k
    ran_to k lt = elim (cases_eq k (length (log_of journal))) [
      | inl same ↦ subst (Contains (order_of journal ++ length (log_of journal) ∷ [])) (sym same) (contains_last (order_of journal) (length (log_of journal)))
      | inr other ↦ contains_front (order_of journal) (length (log_of journal) ∷ []) k (has.ran k (omega arith))
    ]

    ran : AllRan (journal ++ Wrote id at bytes ∷ [])
    ran k lt = subst (λ o. Contains o k) (sym order_is) (ran_to k (omega (arith, lt, ap length log_is, length-append (log_of journal) (HostWrite id.0 at bytes ∷ []))))

    none : (k q : ℕ) (n : Node) → slice_get (log_of (journal ++ Wrote id at bytes ∷ [])) k ≡ Some (Command q n) → ⊥
    none k q n is = has.none k q n (write_at_end (log_of journal) id.0 at bytes k q n (subst (λ (l : List Item). slice_get l k ≡ Some (Command q n)) log_is is))

within : {X : Type 0} (xs : List X) (k : ℕ) (x : X) → slice_get xs k ≡ Some x → k < length xs
within [] zero x is = absurd (cc)
within [] (suc k) x is = absurd (cc)
within (y ∷ xs) zero x is = omega arith
within (y ∷ xs) (suc k) x is = let lt : k < length xs = within xs k x is in omega arith

-- Where no batch was accepted each object is settled, and nothing is hidden from the host.
pub settled_without_batches : (journal : List Logged) (id : ℕ) → HasNoBatch journal → IsSettled (log_of journal) (order_of journal) id
settled_without_batches journal id has k x at touched = has.ran k (within (log_of journal) k x at)

pub visible_without_batches : (journal : List Logged) (id start end : ℕ) → HasNoBatch journal → IsVisible (log_of journal) id start end
visible_without_batches journal id start end has k q n at writes = absurd (has.none k q n at)
