use Rattle.std.proofs.Common.{rules, ◌≡◌, ℕ, [], ◌∷◌, ◌++◌}
use Rattle.resource_use.proofs.Noting.{noted-first, noted-absent}
use Rattle.resource_use.proofs.uses.raise_first.Goals as goal

pub returns-in-Some-clause-raised : goal.returns-in-Some-clause-raised
returns-in-Some-clause-raised c =
    cc (
      noted-first c.args.uses.now c.args.serial.now c.in-Some.at c.index-uses-at.result c.in-Some.ensures.within
          (c.in-Some.ensures.found c.index-uses-at.result) (λ k lt. c.in-Some.ensures.first k c.index-uses-at.result lt),
      c.raise.ensures,
      c.index-uses-at.is,
    )

pub returns-in-None-clause-absent : goal.returns-in-None-clause-absent
returns-in-None-clause-absent c =
    noted-absent c.args.uses.now c.args.serial.now c.args.serial.now (λ k lt. c.in-None.ensures.none k c.args.serial.now lt)
