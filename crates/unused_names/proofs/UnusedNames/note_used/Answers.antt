use Rattle.unused_names.proofs.Gaps.{Fits-used}
use Rattle.unused_names.proofs.UnusedNames.note_used.Goals as goal

pub returns : goal.returns
returns c = λ used fits. rw c.remove.ensures (Fits-used c.args.self.now c.args.name used c.iter.ensures.ordered fits)
