use Rattle.std.proofs.Common.{◌≡◌, ℕ, ◌+◌, ◌<◌, min, List, length, take, get_or, refl, sym, ap, ◌∙◌, arith}
use Rattle.std.proofs.lemmas.List.Sums.{sum-map, sum_by_more}
use Rattle.vk_device.specs.declared.logged.Logged.{Logged}
use Rattle.back_core.specs.Frame.{bytes_by, host_bytes}
use Rattle.run_summary.specs.Counting.{capped}
use Rattle.run_summary.proofs.counting.uploads.Goals as goal

host_bytes-more : (journal : List Logged) (i : ℕ) (d : Logged) → i < length journal → host_bytes (take (i + 1) journal) ≡ host_bytes (take i journal) + bytes_by (get_or journal i d)
unfolding host_bytes
host_bytes-more journal i d lt =
    sum-map bytes_by (take (i + 1) journal) ∙ sum_by_more bytes_by journal i d lt ∙ ap (λ (n : ℕ). n + bytes_by (get_or journal i d)) (sym (sum-map bytes_by (take i journal)))

capped_more : (before more all total new : ℕ) → before ≡ capped total → all ≡ total + more → new ≡ min (before + more) 18446744073709551615 → new ≡ capped all
capped_more before more all total new is sums e = omega arith

pub loop-entry-init : goal.loop-entry-init
unfolding host_bytes
loop-entry-init c = refl

pub loop-entry-preserved : goal.loop-entry-preserved
loop-entry-preserved c =
    let journal = c.args.journal.now in
    let i = c.loop-entry.entry-index in
    let item = c.entry-item.result in
    capped_more c.loop-entry.total (bytes_by (get_or journal i item)) (host_bytes (take (i + 1) journal)) (host_bytes (take i journal)) c.saturating_add-total.result c.loop-entry.invariant
    (host_bytes-more journal i item c.loop-entry-test.true)
    (c.saturating_add-total.ensures ∙ ap (λ (n : ℕ). min (c.loop-entry.total + n) 18446744073709551615) (c.bytes_in.ensures ∙ ap bytes_by c.entry-item.is))
