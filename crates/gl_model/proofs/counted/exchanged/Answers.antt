use Rattle.std.proofs.Common.{arith}
use Rattle.gl_model.proofs.CountedTables.{held-le, total-le, IsCounted-with_entry}
use Rattle.gl_model.proofs.counted.exchanged.Goals as goal

pub overflow_sub-result : goal.overflow_sub-result
overflow_sub-result g c = rw c.bytes_at.ensures (held-le g.V.HasBytes.bytes c.args.table.now c.args.sum c.requires c.args.key)

pub overflow_add-result : goal.overflow_add-result
overflow_add-result g c =
    omega (arith, total-le g.V.HasBytes.bytes c.args.table.now c.args.sum c.requires, c.bytes.ensures.bound)

pub returns : goal.returns
returns g c =
    let small = rw c.bytes.ensures.bytes at c.bytes.ensures.bound in
    rw (c.bytes_at.ensures, c.bytes.ensures.bytes)
    (IsCounted-with_entry g.V.HasBytes.bytes c.args.table.now c.args.sum c.requires c.args.key c.args.value.now c.ranges.key.fits small)
