use Rattle.std.proofs.Common.{◌≡◌, ◌+◌, sym, subst, arith}
use Rattle.readback.proofs.Placing.{HasRows, rows_none, rows_more, rows_all}
use Rattle.readback.proofs.client_rows.place.Goals as goal

pub loop-row-init : goal.loop-row-init
loop-row-init c = rows_none c.args.plan.now c.args.host.now c.requires.columns c.requires.rows c.requires.size c.in_ok-bytes.bytes c.in_ok-bytes.ensures.zeros

pub loop-row-preserved : goal.loop-row-preserved
loop-row-preserved c =
    subst (HasRows c.args.plan.now c.args.host.now (c.loop-row.row + 1)) (sym c.put_row.ensures)
    (rows_more c.args.plan.now c.args.host.now c.requires.columns c.requires.rows c.requires.size c.loop-row.row c.loop-row.bytes c.loop-row-test.true c.loop-row.invariant)

pub returns : goal.returns
returns c =
    let all : c.loop-row.row ≡ c.args.plan.now.part.rect.h = (let past = c.loop-row-test.false in let inside = c.loop-row.auto.row-end in omega (arith, past, inside)) in
    rows_all c.args.plan.now c.args.host.now c.requires.columns c.requires.rows c.requires.size c.loop-row.bytes
    (subst (λ n. HasRows c.args.plan.now c.args.host.now n c.loop-row.bytes) all c.loop-row.invariant)
