use Rattle.std.proofs.Common.{rules}
use Rattle.front_moves.specs.Core.{face}
use Rattle.front_core.proofs.AnsweredCalls.{along_call}
use Rattle.back_core.proofs.Frames.{no_batch}
use Rattle.front_core.proofs.AtTheBack.{may_hand, along_back}
use Rattle.front_core.proofs.share.Share.buffer_call.Goals as goal

pub returns-in-BufferData-clause-done : goal.returns-in-BufferData-clause-done
returns-in-BufferData-clause-done g c =
    along_call (face c.args.self.now.core) (face c.buffer_data.new.self.core) (g.L.BackLink.state c.args.link.now) (g.L.BackLink.state c.buffer_data.new.link)
    c.args.self.now.state c.buffer_data.new.self.state c.args.thread c.args.call.now _ c.buffer_data.result c.buffer_data.ensures.done (search rules)

pub returns-in-BufferSubData-clause-done : goal.returns-in-BufferSubData-clause-done
returns-in-BufferSubData-clause-done g c =
    along_call (face c.args.self.now.core) (face c.buffer_sub_data.new.self.core) (g.L.BackLink.state c.args.link.now) (g.L.BackLink.state c.buffer_sub_data.new.link)
    c.args.self.now.state c.buffer_sub_data.new.self.state c.args.thread c.args.call.now _ c.buffer_sub_data.result c.buffer_sub_data.ensures.done (search rules)

pub returns-in-CopyBufferSubData-clause-done : goal.returns-in-CopyBufferSubData-clause-done
returns-in-CopyBufferSubData-clause-done g c =
    along_call (face c.args.self.now.core) (face c.copy_buffer_sub_data.new.self.core) (g.L.BackLink.state c.args.link.now) (g.L.BackLink.state c.copy_buffer_sub_data.new.link)
    c.args.self.now.state c.copy_buffer_sub_data.new.self.state c.args.thread c.args.call.now _ c.copy_buffer_sub_data.result c.copy_buffer_sub_data.ensures.done (search rules)

pub returns-in-MapBufferRange-clause-done : goal.returns-in-MapBufferRange-clause-done
returns-in-MapBufferRange-clause-done g c =
    along_call (face c.args.self.now.core) (face c.map_buffer_range.new.self.core) (g.L.BackLink.state c.args.link.now) (g.L.BackLink.state c.map_buffer_range.new.link)
    c.args.self.now.state c.map_buffer_range.new.self.state c.args.thread c.args.call.now _ c.map_buffer_range.result c.map_buffer_range.ensures.done (search rules)

pub returns-in-MapRead-clause-done : goal.returns-in-MapRead-clause-done
returns-in-MapRead-clause-done g c =
    along_call (face c.args.self.now.core) (face c.map_read.new.self.core) (g.L.BackLink.state c.args.link.now) (g.L.BackLink.state c.map_read.new.link)
    c.args.self.now.state c.map_read.new.self.state c.args.thread c.args.call.now _ c.map_read.result c.map_read.ensures.done (search rules)

pub returns-in-MapWrite-clause-done : goal.returns-in-MapWrite-clause-done
returns-in-MapWrite-clause-done g c =
    along_call (face c.args.self.now.core) (face c.map_write.new.self.core) (g.L.BackLink.state c.args.link.now) (g.L.BackLink.state c.map_write.new.link)
    c.args.self.now.state c.map_write.new.self.state c.args.thread c.args.call.now _ c.map_write.result c.map_write.ensures.done (search rules)

pub returns-in-BufferData-clause-at_back : goal.returns-in-BufferData-clause-at_back
returns-in-BufferData-clause-at_back g c =
    along_back (face c.args.self.now.core) (face c.buffer_data.new.self.core) (g.L.BackLink.state c.args.link.now) (g.L.BackLink.state c.buffer_data.new.link)
    c.args.self.now.state c.buffer_data.new.self.state c.args.self.now.serials c.args.thread c.args.call.now _ c.buffer_data.result c.buffer_data.ensures.done (search rules)
    (may_hand _ (no_batch _) c.buffer_data.ensures.at_back)

pub returns-in-BufferSubData-clause-at_back : goal.returns-in-BufferSubData-clause-at_back
returns-in-BufferSubData-clause-at_back g c =
    along_back (face c.args.self.now.core) (face c.buffer_sub_data.new.self.core) (g.L.BackLink.state c.args.link.now) (g.L.BackLink.state c.buffer_sub_data.new.link)
    c.args.self.now.state c.buffer_sub_data.new.self.state c.args.self.now.serials c.args.thread c.args.call.now _ c.buffer_sub_data.result c.buffer_sub_data.ensures.done (search rules)
    c.buffer_sub_data.ensures.at_back

pub returns-in-CopyBufferSubData-clause-at_back : goal.returns-in-CopyBufferSubData-clause-at_back
returns-in-CopyBufferSubData-clause-at_back g c =
    along_back (face c.args.self.now.core) (face c.copy_buffer_sub_data.new.self.core) (g.L.BackLink.state c.args.link.now) (g.L.BackLink.state c.copy_buffer_sub_data.new.link)
    c.args.self.now.state c.copy_buffer_sub_data.new.self.state c.args.self.now.serials c.args.thread c.args.call.now _ c.copy_buffer_sub_data.result c.copy_buffer_sub_data.ensures.done (search rules)
    c.copy_buffer_sub_data.ensures.at_back

pub returns-in-MapBufferRange-clause-at_back : goal.returns-in-MapBufferRange-clause-at_back
returns-in-MapBufferRange-clause-at_back g c =
    along_back (face c.args.self.now.core) (face c.map_buffer_range.new.self.core) (g.L.BackLink.state c.args.link.now) (g.L.BackLink.state c.map_buffer_range.new.link)
    c.args.self.now.state c.map_buffer_range.new.self.state c.args.self.now.serials c.args.thread c.args.call.now _ c.map_buffer_range.result c.map_buffer_range.ensures.done (search rules)
    c.map_buffer_range.ensures.at_back

pub returns-in-MapRead-clause-at_back : goal.returns-in-MapRead-clause-at_back
returns-in-MapRead-clause-at_back g c =
    along_back (face c.args.self.now.core) (face c.map_read.new.self.core) (g.L.BackLink.state c.args.link.now) (g.L.BackLink.state c.map_read.new.link)
    c.args.self.now.state c.map_read.new.self.state c.args.self.now.serials c.args.thread c.args.call.now _ c.map_read.result c.map_read.ensures.done (search rules)
    (may_hand _ (no_batch _) c.map_read.ensures.at_back)

pub returns-in-MapWrite-clause-at_back : goal.returns-in-MapWrite-clause-at_back
returns-in-MapWrite-clause-at_back g c =
    along_back (face c.args.self.now.core) (face c.map_write.new.self.core) (g.L.BackLink.state c.args.link.now) (g.L.BackLink.state c.map_write.new.link)
    c.args.self.now.state c.map_write.new.self.state c.args.self.now.serials c.args.thread c.args.call.now _ c.map_write.result c.map_write.ensures.done (search rules)
    (may_hand _ (no_batch _) c.map_write.ensures.at_back)
