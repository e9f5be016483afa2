use Rattle.std.proofs.Common.{ap, sym, ◌∙◌}
use Rattle.std.proofs.lemmas.List.{drop_more}
use Rattle.unused_names.specs.Names.{without_all}
use Rattle.unused_names.proofs.forget.Goals as goal

pub loop-name-preserved : goal.loop-name-preserved
loop-name-preserved g c =
    let first = drop_more c.args.found.now c.loop-name.name-index 0 c.loop-name-test.true in
    rw c.remove.ensures (ap (λ names. without_all names c.loop-name.used) (sym first) ∙ c.loop-name.invariant)
