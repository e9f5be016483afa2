use Rattle.std.proofs.Common.{◌*◌, true}
use Rattle.vk_objects.specs.Images.{kind_of_shape, rect_of}
use Rattle.vk_objects.specs.Rows.{row_byte}
use Rattle.vk_objects.proofs.OutRows.{no_out_rows, out_row_step}
use Rattle.vk_objects.proofs.out_rows.read_expanded.Goals as goal

pub loop-k-init : goal.loop-k-init
loop-k-init c = no_out_rows c.args.bytes.now c.args.at (c.args.area.width * 16) c.args.stride (row_byte (kind_of_shape c.args.shape) c.args.image.now (rect_of c.args.area) 16 true)

pub loop-k-preserved : goal.loop-k-preserved
loop-k-preserved c =
    out_row_step (row_byte (kind_of_shape c.args.shape) c.args.image.now (rect_of c.args.area) 16 true) (c.args.area.width * 16) c.args.stride c.args.bytes.now c.loop-k.bytes c.expand_row.new.bytes c.args.at c.loop-k.k c.loop-k.invariant c.expand_row.ensures
