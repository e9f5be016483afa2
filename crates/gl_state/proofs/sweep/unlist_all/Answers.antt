use Rattle.std.proofs.Common.{ap, sym, ◌∙◌}
use Rattle.std.proofs.lemmas.List.{drop_more}
use Rattle.gl_state.specs.Ended.{without_all}
use Rattle.gl_state.proofs.sweep.unlist_all.Goals as goal

pub loop-key-preserved : goal.loop-key-preserved
loop-key-preserved c =
    let first = drop_more c.args.keys.now c.loop-key.key-index 0 c.loop-key-test.true in
    rw c.remove.ensures (ap (λ keys. without_all keys c.loop-key.nameless) (sym first) ∙ c.loop-key.invariant)
