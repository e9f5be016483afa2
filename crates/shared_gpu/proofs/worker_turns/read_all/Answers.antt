use Rattle.std.proofs.Common.{arith, ap, ◌∙◌, length-set}
use Rattle.std.specs.Prelude.{ℕ, ◌+◌, ◌∷◌, ◌++◌, []}
use Rattle.shared_gpu.proofs.Working.{loads_grow, loaded_next}
use Rattle.shared_gpu.proofs.worker_turns.read_all.Goals as goal

pub loop-index-preserved : goal.loop-index-preserved
loop-index-preserved g c =
    let l = c.loop-index in
    let x = c.published in record {
      pass = loads_grow c.args.pass.now l.pass x.new.pass (l.pass.loads ++ (l.index + 1, x.result) ∷ []) l.invariant.pass x.ensures.pass;
      wide = omega (arith, length-set {A = ℕ}, l.invariant.wide);
      loaded = loaded_next l.read l.pass.loads x.new.pass.loads l.index x.result l.invariant.wide c.loop-index-test.true l.invariant.loaded x.ensures.greatest x.ensures.others;
    }
