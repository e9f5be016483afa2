use Rattle.std.proofs.Common.{◌≡◌, List, map, refl, ap, ◌∙◌, Bor}
use Rattle.std.specs.List.{count_by}
use Rattle.vk_types.specs.declared.batches.Batch.{Batch}
use Rattle.vk_device.specs.Journal.{accepted}
use Rattle.run_summary.specs.Counting.{runs_a_node, runs_a_barrier}
use Rattle.run_summary.proofs.counting.counts_of.Goals as goal

pub returns : goal.returns
returns c =
    let journal = c.args.journal.now in
    let lent : map (λ b. b.now) c.deref.result.now ≡ accepted journal = ap (λ (bs : List (Bor Batch)). map (λ b. b.now) bs) c.deref.ensures.value ∙ c.in_ok-batches.ensures in
    let lent_again : map (λ b. b.now) c.deref-2.result.now ≡ accepted journal = ap (λ (bs : List (Bor Batch)). map (λ b. b.now) bs) c.deref-2.ensures.value ∙ c.in_ok-batches.ensures in
    let nodes = c.nodes.ensures ∙ ap (λ (bs : List Batch). count_by (runs_a_node bs) journal) lent in
    let barriers = c.barriers.ensures ∙ ap (λ (bs : List Batch). count_by (runs_a_barrier bs) journal) lent_again in
    rw (c.calls.ensures, c.errors.ensures, c.uploads.ensures, c.submits.ensures, nodes, barriers, c.creates.ensures, c.destroys.ensures) refl
