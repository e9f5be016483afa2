use Rattle.std.proofs.Common.{◌≡◌, ◌<◌, nat_lt, true, arith}
use Rattle.std.proofs.lemmas.Grind.{common_steps}
use Rattle.unused_names.proofs.Gaps.{Fits-unused}
use Rattle.unused_names.proofs.UnusedNames.note_unused.Goals as goal

pub returns-in-Ok : goal.returns-in-Ok
returns-in-Ok c = λ used fits.
    let low : nat_lt 0 c.args.name ≡ true = grind (arith, common_steps) in
    let high : nat_lt c.args.name c.args.self.now.top ≡ true = grind (arith, common_steps) in
    rw c.in-Ok.ensures.ok (Fits-unused c.args.self.now c.args.name used low high fits)
