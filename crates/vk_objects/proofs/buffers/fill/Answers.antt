use Rattle.std.proofs.Common.{arith}
use Rattle.vk_objects.proofs.BufferNodes.{fill_executes}
use Rattle.vk_objects.proofs.buffers.fill.Goals as goal

pub returns : goal.returns
returns c =
    let a = c.args in
    fill_executes a.objects.now a.dst a.dst_at a.size a.byte (omega (arith, c.put_filling.ensures.end)) c.requires.dst _ c.put_filling.ensures.sets
