-- Two stores that took in the accesses of a copy.
use Rattle.vk_types.specs.Accesses.{transfer_read, transfer_write}
use Rattle.std.proofs.lemmas.Bool.{cases_eq, cond-true, cond-false, eq-eqb, ne_eqb, or_left, or_right, or_from, both_ways}
use Rattle.object_helper.specs.Objects.{ObjectStore}
use Rattle.front_moves.specs.Objects.{used, ChangesOne}
use Rattle.front_moves.specs.Recording.{read_write, copy_access}
use Rattle.std.proofs.Common.{◌≡◌, ◌≢◌, ℕ, ◌==◌, true, false, refl, sym, ◌∙◌, ap, inl, inr}
use Rattle.std.specs.Prelude.{◌⊎◌, ◌||◌, if◌then◌else◌, Result, Ok, Err, OnErr}
use Rattle.std.specs.Option.{option_map}
use Rattle.vk_types.specs.declared.batches.QueueSerial.{QueueSerial}
use Rattle.tables.specs.Table.{Entries, entry}

pub used_both : (src dst : ℕ) (serial : QueueSerial) (old mid new : Entries ObjectStore) → (src == dst) ≡ false → ChangesOne src (used transfer_read serial) old mid → ChangesOne dst (used transfer_write serial) mid new →
    (k : ℕ) → entry k new ≡ (if (k == src) || (k == dst) then option_map (used (copy_access src dst k) serial) (entry k old) else entry k old)
used_both src dst serial old mid new differ first second k = go (cases_eq k src) (cases_eq k dst)
  where
    ne : src ≢ dst
    ne e = both_ways (src == dst) differ (eq-eqb src dst e)

    reads : k ≡ src → copy_access src dst k ≡ transfer_read
    reads e = cond-false (src == dst) read_write (if k == src then transfer_read else transfer_write) differ ∙ cond-true (k == src) transfer_read transfer_write (eq-eqb k src e)

    writes_it : k ≢ src → copy_access src dst k ≡ transfer_write
    writes_it other = cond-false (src == dst) read_write (if k == src then transfer_read else transfer_write) differ ∙ cond-false (k == src) transfer_read transfer_write (ne_eqb k src other)

    go : (k ≡ src) ⊎ (k ≢ src) → (k ≡ dst) ⊎ (k ≢ dst) → entry k new ≡ (if (k == src) || (k == dst) then option_map (used (copy_access src dst k) serial) (entry k old) else entry k old)
    go (inl e) other_k =
        second k
        ∙ cond-false (k == dst) (option_map (used transfer_write serial) (entry k mid)) (entry k mid) (ne_eqb k dst (λ f. ne (sym e ∙ f)))
        ∙ first k
        ∙ cond-true (k == src) (option_map (used transfer_read serial) (entry k old)) (entry k old) (eq-eqb k src e)
        ∙ ap (λ a. option_map (used a serial) (entry k old)) (sym (reads e))
        ∙ sym (cond-true ((k == src) || (k == dst)) (option_map (used (copy_access src dst k) serial) (entry k old)) (entry k old) (or_left (k == src) (k == dst) (eq-eqb k src e)))
    go (inr other) (inl e) =
        second k
        ∙ cond-true (k == dst) (option_map (used transfer_write serial) (entry k mid)) (entry k mid) (eq-eqb k dst e)
        ∙ ap (option_map (used transfer_write serial)) (first k ∙ cond-false (k == src) (option_map (used transfer_read serial) (entry k old)) (entry k old) (ne_eqb k src other))
        ∙ ap (λ a. option_map (used a serial) (entry k old)) (sym (writes_it other))
        ∙ sym (cond-true ((k == src) || (k == dst)) (option_map (used (copy_access src dst k) serial) (entry k old)) (entry k old) (or_right (k == src) (k == dst) (eq-eqb k dst e)))
    go (inr other) (inr apart) =
        second k
        ∙ cond-false (k == dst) (option_map (used transfer_write serial) (entry k mid)) (entry k mid) (ne_eqb k dst apart)
        ∙ first k
        ∙ cond-false (k == src) (option_map (used transfer_read serial) (entry k old)) (entry k old) (ne_eqb k src other)
        ∙ sym (cond-false ((k == src) || (k == dst)) (option_map (used (copy_access src dst k) serial) (entry k old)) (entry k old) (or_from (k == src) (k == dst) (ne_eqb k src other) (ne_eqb k dst apart)))

-- where a call ended early
pub if_err : {A E P : Type 0} (r : Result A E) → P → OnErr r P
if_err (Ok v) p = tt
if_err (Err e) p = p
