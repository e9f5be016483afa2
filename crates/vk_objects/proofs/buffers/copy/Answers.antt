use Rattle.std.proofs.Common.{arith}
use Rattle.vk_objects.proofs.BufferNodes.{copy_executes}
use Rattle.vk_objects.proofs.buffers.copy.Goals as goal

pub returns : goal.returns
returns c =
    let a = c.args in
    copy_executes a.objects.now a.src a.src_at a.dst a.dst_at a.size (omega (arith, c.put_copy.ensures.end)) (let small = c.byte_count-count.ensures.small in omega (arith, small, c.requires.src)) c.requires.src c.requires.dst _ c.put_copy.ensures.sets
