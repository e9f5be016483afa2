use Rattle.unused_names.proofs.Gaps.{Fits-anew}
use Rattle.unused_names.proofs.UnusedNames.new.Goals as goal

pub returns : goal.returns
returns c = λ used. rw c.new.ensures (Fits-anew used)
