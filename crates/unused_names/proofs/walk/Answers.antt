use Rattle.std.proofs.Common.{◌≡◌, ℕ, ◌+◌, ◌-◌, ◌++◌, ◌≤◌, ◌<◌, not, [], ◌∷◌, ap, sym, ◌∙◌, arith, append_assoc}
use Rattle.std.specs.List.{filter, range_with_len}
use Rattle.tables.specs.Table.{has}
use Rattle.unused_names.proofs.LowestNames.{filter_range_more_from}
use Rattle.unused_names.proofs.walk.Goals as goal

pub loop-k-preserved : goal.loop-k-preserved
loop-k-preserved g c =
    let unused = λ (n : ℕ). not (has n c.args.used.now) in
    let from = c.args.from in
    let k = c.loop-k.k in
    let low : from - 1 ≤ k = omega arith in
    let start : 0 < from = c.requires in
    let length_is : k + 1 - (from - 1) ≡ k - (from - 1) + 1 = omega (arith, low) in
    let name_is : from + (k - (from - 1)) ≡ k + 1 = omega (arith, low, start) in
    c.in_ok-add_if_unused.ensures ∙ ap (λ xs. xs ++ filter unused ((k + 1) ∷ [])) c.loop-k.invariant
    ∙ append_assoc c.args.found.now.items (filter unused (range_with_len from (k - (from - 1)))) (filter unused ((k + 1) ∷ []))
    ∙ ap (λ xs. c.args.found.now.items ++ xs)
    (ap (λ n. filter unused (range_with_len from (k - (from - 1))) ++ filter unused (n ∷ [])) (sym name_is)
    ∙ sym (filter_range_more_from unused from (k - (from - 1))) ∙ ap (λ n. filter unused (range_with_len from n)) (sym length_is))
