use Rattle.std.proofs.Common.{◌≡◌, ◌+◌, ◌*◌, ◌≤◌, sym, subst}
use Rattle.readback.specs.Plans.{part_row, plan_size}
use Rattle.readback.proofs.Placing.{part_fits}
use Rattle.readback.proofs.client_rows.part_at.Goals as goal

pub returns-clause-fits : goal.returns-clause-fits
returns-clause-fits c =
    let plan = c.args.plan.now in
    let is : c.from.result * c.from-2.result ≡ c.args.row * part_row c.args.plan.now = cc in
    subst (λ n. n + part_row plan ≤ plan_size plan) (sym is) (part_fits plan.texel plan.part.rect.w plan.part.rect.h c.args.row c.requires)
