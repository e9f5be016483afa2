use Rattle.vk_objects.proofs.Fits.{touched_sized}
use Rattle.node_tests.proofs.pair.after.Goals as goal

pub execute-requires-clause-sized : goal.execute-requires-clause-sized
execute-requires-clause-sized c = touched_sized c.fill-2.new.objects (record { op = c.args.op }) c.fill-2.ensures.sized
