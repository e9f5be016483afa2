use Rattle.std.proofs.Common.{◌≡◌, ◌+◌, ◌*◌, ◌≤◌, sym, subst}
use Rattle.readback.specs.Plans.{part_row, row_at}
use Rattle.readback.proofs.Placing.{row_fits}
use Rattle.readback.proofs.client_rows.row_at.Goals as goal

pub returns-clause-fits : goal.returns-clause-fits
returns-clause-fits c =
    let plan = c.args.plan.now in
    let is : ((c.from.result + c.from-2.result) * c.from-3.result + c.from-4.result) * c.from-5.result ≡ row_at c.args.plan.now c.args.row = cc in
    subst (λ n. n + part_row plan ≤ plan.width * plan.height * plan.texel) (sym is)
    (row_fits plan.width plan.height plan.texel plan.part.left plan.part.top plan.part.rect.w plan.part.rect.h c.args.row c.requires.columns c.requires.rows c.requires.row)
