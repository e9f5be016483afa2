use Rattle.std.proofs.Common.{◌∙◌}
use Rattle.world_core.proofs.Starts.{filled, none_done_is}
use Rattle.world_core.proofs.opening.no_lines.Goals as goal

pub returns : goal.returns
returns c =
    filled c.resize.new.self.items c.new-done.result.items _ _ 0 c.in_ok-resize.ensures.items c.new-done.ensures.items
    c.new-done.ensures.len ∙ none_done_is c.args.threads.now
