use Rattle.std.proofs.Common.{sym, ap, ◌∙◌}
use Rattle.queue_serials.specs.Indexes.{last_of}
use Rattle.front_moves.specs.Core.{CoreParts}
use Rattle.front_moves.proofs.Faces.{last_own}
use Rattle.front_moves.proofs.group_core.Core.last.Goals as goal

pub returns : goal.returns
returns c =
    let k : CoreParts = c.args.self.now in
    c.last.ensures ∙ ap (λ (x : CoreParts). last_of x.indexes c.args.index) c.self.view_is ∙ sym (last_own k.indexes c.args.index c.requires)
