use Rattle.submit_queue.proofs.Steps.{accepted_kept}
use Rattle.submit_queue.proofs.queue.SubmitQueue.accept.Goals as goal

pub returns-then-self-len : goal.returns-then-self-len
returns-then-self-len c h kept may = accepted_kept h _ _ _ _ kept may
