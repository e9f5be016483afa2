-- The batches of a list with one item more, and the last uses and numbers that follow from them.
use Rattle.std.proofs.Common.{◌≡◌, ℕ, ◌==◌, false, cond, max, List, [], ◌∷◌, ◌++◌, refl, ap, ◌∙◌}
use Rattle.std.specs.Prelude.{◌&&◌, All}
use Rattle.std.specs.List.{fold}
use Rattle.std.proofs.lemmas.Bool.{cond-false, and_right}
use Rattle.std.proofs.lemmas.List.{append-nil}
use Rattle.std.proofs.lemmas.List.Concat.{flat_map-append}
use Rattle.std.proofs.lemmas.List.Sums.{fold-append}
use Rattle.std.proofs.lemmas.List.Elements.{All-head, All-tail}
use Rattle.vk_types.specs.declared.batches.Batch.{Batch}
use Rattle.submit_queue.specs.Histories.{last_number}
use Rattle.back_core.specs.Own.{Own, HostWrote, Enqueued, HostRead, log_by, log_of, batch_by, batches_of, batch_touches, own_touches, last_use}

pub log_then : (mine : List Own) (x : Own) → log_of (mine ++ x ∷ []) ≡ log_of mine ++ log_by x
log_then mine x = flat_map-append log_by mine (x ∷ []) ∙ ap (λ l. log_of mine ++ l) (append-nil (log_by x))

batches_then : (mine : List Own) (x : Own) → batches_of (mine ++ x ∷ []) ≡ batches_of mine ++ batch_by x
batches_then mine x = flat_map-append batch_by mine (x ∷ []) ∙ ap (λ l. batches_of mine ++ l) (append-nil (batch_by x))

-- the last use among some batches
abbrev use_in : List Batch → ℕ → ℕ → ℕ
use_in list index id = fold (λ n (batch : Batch). cond ((batch.index == index) && batch_touches batch id) (max n batch.number) n) 0 list

-- Writes and reads by the host are no batches

pub batches_stay : (mine : List Own) (x : Own) → batch_by x ≡ [] → batches_of (mine ++ x ∷ []) ≡ batches_of mine
batches_stay mine x none = batches_then mine x ∙ ap (λ l. batches_of mine ++ l) none ∙ append-nil (batches_of mine)

pub use_stays : (mine : List Own) (x : Own) → batch_by x ≡ [] → (index id : ℕ) → last_use (mine ++ x ∷ []) index id ≡ last_use mine index id
use_stays mine x none index id = ap (λ l. use_in l index id) (batches_stay mine x none)

pub number_stays : (mine : List Own) (x : Own) → batch_by x ≡ [] → (index : ℕ) → last_number (batches_of (mine ++ x ∷ [])) index ≡ last_number (batches_of mine) index
number_stays mine x none index = ap (λ l. last_number l index) (batches_stay mine x none)

-- One batch more

pub number_then : (mine : List Own) (b : Batch) (index : ℕ) → last_number (batches_of (mine ++ Enqueued b ∷ [])) index ≡ cond (b.index == index) b.number (last_number (batches_of mine) index)
number_then mine b index = ap (λ l. last_number l index) (batches_then mine (Enqueued b)) ∙ fold-append (λ n (c : Batch). cond (c.index == index) c.number n) 0 (batches_of mine) (b ∷ [])

pub use_then : (mine : List Own) (b : Batch) (index id : ℕ) → last_use (mine ++ Enqueued b ∷ []) index id ≡ cond ((b.index == index) && batch_touches b id) (max (last_use mine index id) b.number) (last_use mine index id)
use_then mine b index id = ap (λ l. use_in l index id) (batches_then mine (Enqueued b))
    ∙ fold-append (λ n (c : Batch). cond ((c.index == index) && batch_touches c id) (max n c.number) n) 0 (batches_of mine) (b ∷ [])

-- a batch that does not touch the object
pub use_apart : (mine : List Own) (b : Batch) (index id : ℕ) → batch_touches b id ≡ false → last_use (mine ++ Enqueued b ∷ []) index id ≡ last_use mine index id
use_apart mine b index id none = use_then mine b index id ∙ cond-false ((b.index == index) && batch_touches b id) _ _ (and_right (b.index == index) (batch_touches b id) none)

-- Objects that nothing touches

use_from : ℕ → List Own → ℕ → ℕ → ℕ
use_from n mine index id = fold (λ k (batch : Batch). cond ((batch.index == index) && batch_touches batch id) (max k batch.number) k) n (batches_of mine)

none_from : (n : ℕ) (mine : List Own) (index id : ℕ) → All (λ x. own_touches x id ≡ false) mine → use_from n mine index id ≡ n
unfolding use_from
none_from n [] index id none = refl
none_from n (HostWrote i at bytes ∷ mine) index id none = none_from n mine index id (All-tail (λ x. own_touches x id ≡ false) (HostWrote i at bytes) mine none)
none_from n (Enqueued b ∷ mine) index id none =
    let apart : batch_touches b id ≡ false = All-head (λ x. own_touches x id ≡ false) (Enqueued b) mine none in
    let first : cond ((b.index == index) && batch_touches b id) (max n b.number) n ≡ n = cond-false ((b.index == index) && batch_touches b id) (max n b.number) n (and_right (b.index == index) (batch_touches b id) apart) in
    ap (λ k. use_from k mine index id) first ∙ none_from n mine index id (All-tail (λ x. own_touches x id ≡ false) (Enqueued b) mine none)
none_from n (HostRead i at bytes ∷ mine) index id none = none_from n mine index id (All-tail (λ x. own_touches x id ≡ false) (HostRead i at bytes) mine none)

pub use_none : (mine : List Own) (index id : ℕ) → All (λ x. own_touches x id ≡ false) mine → last_use mine index id ≡ 0
unfolding use_from
use_none mine index id none = none_from 0 mine index id none
