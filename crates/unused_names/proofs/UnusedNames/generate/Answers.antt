use Rattle.std.proofs.Common.{◌≡◌, ℕ, ◌||◌, ◌==◌, ap, sym, ◌∙◌}
use Rattle.std.specs.List.{list_any}
use Rattle.tables.specs.Table.{has}
use Rattle.unused_names.proofs.Gaps.{Fits-same, has-generated}
use Rattle.unused_names.proofs.UnusedNames.generate.Goals as goal

pub settle-requires : goal.settle-requires
settle-requires g c =
    let before = c.args.used.now in
    Fits-same c.note_all.new.self (λ k. has k before || list_any (λ name. k == name) c.as_slice-2.result.now) (λ k. has k c.put_into_use.new.used)
    (λ k. ap (has k) c.in_ok-put_into_use.ensures.ok ∙ has-generated c.as_slice.result.now before k
    ∙ ap (λ xs. has k before || list_any (λ name. k == name) xs) (c.as_slice.ensures.value ∙ sym c.as_slice-2.ensures.value))
    (c.note_all.ensures (λ (k : ℕ). has k before) c.requires)
