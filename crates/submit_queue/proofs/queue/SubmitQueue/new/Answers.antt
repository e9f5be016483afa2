use Rattle.submit_queue.proofs.Steps.{new_kept}
use Rattle.submit_queue.proofs.queue.SubmitQueue.new.Goals as goal

pub returns : goal.returns
returns c = rw c.new.ensures.items new_kept
