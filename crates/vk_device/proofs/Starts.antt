-- Places of nodes in a log that grows.
use Rattle.std.proofs.Common.{◌≡◌, ℕ, zero, suc, ◌+◌, ◌<◌, List, [], ◌∷◌, ◌++◌, fold, length, refl, sym, ◌∙◌, ap, arith, append_assoc, length-append}
use Rattle.std.proofs.lemmas.List.{append-nil}
use Rattle.std.proofs.lemmas.List.Sums.{fold_push}
use Rattle.vk_types.specs.declared.batches.Batch.{Batch}
use Rattle.vk_device.specs.declared.logged.Logged.{Logged}
use Rattle.vk_device.specs.declared.logged.Logged.TheVariants.{Created, Wrote, Submitted, Ran, Fetched, Destroyed}
use Rattle.vk_device.specs.Journal.{accepts, accepted}
use Rattle.vk_device.specs.Order.{entry_items, log_of, batch_start}
use Rattle.vk_device.proofs.Orders.{log_of-nil}

-- Folds that append

fold_more : {X Y : Type 0} (f : X → List Y) (before : List Y) (xs : List X) → fold (λ ys x. ys ++ f x) before xs ≡ before ++ fold (λ ys x. ys ++ f x) [] xs
fold_more f before [] = sym (append-nil before)
fold_more f before (x ∷ xs) = fold_more f (before ++ f x) xs ∙ append_assoc before (f x) (fold (λ ys x. ys ++ f x) [] xs) ∙ ap (λ ys. before ++ ys) (sym (fold_more f (f x) xs))

pub accepted-cons : (entry : Logged) (journal : List Logged) → accepted (entry ∷ journal) ≡ accepts entry ++ accepted journal
unfolding accepted
accepted-cons entry journal = fold_more accepts (accepts entry) journal

pub log_of-cons : (entry : Logged) (journal : List Logged) → log_of (entry ∷ journal) ≡ entry_items entry ++ log_of journal
unfolding log_of
log_of-cons entry journal = fold_more entry_items (entry_items entry) journal

pub accepted-push : (journal : List Logged) (entry : Logged) → accepted (journal ++ entry ∷ []) ≡ accepted journal ++ accepts entry
unfolding accepted
accepted-push journal entry = fold_push (λ batches e. batches ++ accepts e) [] journal entry

pub accepted-nil : accepted [] ≡ []
unfolding accepted
accepted-nil = refl

-- the places of nodes that were accepted stay
pub start_stays : (journal more : List Logged) (batch : ℕ) → batch < length (accepted journal) → batch_start (journal ++ more) batch ≡ batch_start journal batch
start_stays [] more batch lt = absurd (omega (arith, lt, ap length accepted-nil))
start_stays (Created id kind ∷ journal) more batch lt = start_stays journal more batch (omega (arith, lt, ap length (accepted-cons (Created id kind) journal)))
start_stays (Wrote id at bytes ∷ journal) more batch lt = ap (λ n. 1 + n) (start_stays journal more batch (omega (arith, lt, ap length (accepted-cons (Wrote id at bytes) journal))))
start_stays (Submitted b ∷ journal) more zero lt = refl
start_stays (Submitted b ∷ journal) more (suc batch) lt = ap (λ n. length (entry_items (Submitted b)) + n) (start_stays journal more batch (omega (arith, lt, ap length (accepted-cons (Submitted b) journal))))
start_stays (Ran b n ∷ journal) more batch lt = start_stays journal more batch (omega (arith, lt, ap length (accepted-cons (Ran b n) journal)))
start_stays (Fetched id at bytes ∷ journal) more batch lt = start_stays journal more batch (omega (arith, lt, ap length (accepted-cons (Fetched id at bytes) journal)))
start_stays (Destroyed id ∷ journal) more batch lt = start_stays journal more batch (omega (arith, lt, ap length (accepted-cons (Destroyed id) journal)))

-- a batch that is accepted next begins behind the log, and behind its waits
pub start_next : (journal : List Logged) (b : Batch) → batch_start (journal ++ Submitted b ∷ []) (length (accepted journal)) ≡ length (log_of journal) + length b.waits
start_next [] b = ap (λ n. batch_start (Submitted b ∷ []) n) (ap length accepted-nil) ∙ behind
  where
    none : length (log_of []) ≡ 0
    none = ap length log_of-nil

    behind : length b.waits ≡ length (log_of []) + length b.waits
    behind = omega (arith, none)
start_next (Created id kind ∷ journal) b = ap (λ n. batch_start (journal ++ Submitted b ∷ []) (length n)) (accepted-cons (Created id kind) journal) ∙ start_next journal b ∙ ap (λ l. length l + length b.waits) (sym (log_of-cons (Created id kind) journal))
start_next (Wrote id at bytes ∷ journal) b =
    ap (λ n. 1 + batch_start (journal ++ Submitted b ∷ []) (length n)) (accepted-cons (Wrote id at bytes) journal)
    ∙ ap (λ n. 1 + n) (start_next journal b)
    ∙ shifted
  where
    one_more : length (log_of (Wrote id at bytes ∷ journal)) ≡ suc (length (log_of journal))
    one_more = ap length (log_of-cons (Wrote id at bytes) journal)

    shifted : 1 + (length (log_of journal) + length b.waits) ≡ length (log_of (Wrote id at bytes ∷ journal)) + length b.waits
    shifted = omega (arith, one_more)
start_next (Submitted c ∷ journal) b =
    ap (λ n. batch_start (Submitted c ∷ journal ++ Submitted b ∷ []) (length n)) (accepted-cons (Submitted c) journal)
    ∙ ap (λ n. length (entry_items (Submitted c)) + n) (start_next journal b)
    ∙ omega (arith, length-append (entry_items (Submitted c)) (log_of journal))
    ∙ ap (λ l. length l + length b.waits) (sym (log_of-cons (Submitted c) journal))
start_next (Ran c n ∷ journal) b = ap (λ n. batch_start (journal ++ Submitted b ∷ []) (length n)) (accepted-cons (Ran c n) journal) ∙ start_next journal b ∙ ap (λ l. length l + length b.waits) (sym (log_of-cons (Ran c n) journal))
start_next (Fetched id at bytes ∷ journal) b = ap (λ n. batch_start (journal ++ Submitted b ∷ []) (length n)) (accepted-cons (Fetched id at bytes) journal) ∙ start_next journal b ∙ ap (λ l. length l + length b.waits) (sym (log_of-cons (Fetched id at bytes) journal))
start_next (Destroyed id ∷ journal) b = ap (λ n. batch_start (journal ++ Submitted b ∷ []) (length n)) (accepted-cons (Destroyed id) journal) ∙ start_next journal b ∙ ap (λ l. length l + length b.waits) (sym (log_of-cons (Destroyed id) journal))
