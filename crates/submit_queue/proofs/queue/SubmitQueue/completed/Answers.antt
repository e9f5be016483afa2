use Rattle.submit_queue.proofs.Steps.{completed_is, completed_number}
use Rattle.submit_queue.proofs.queue.SubmitQueue.completed.Goals as goal

pub returns-clause-greatest : goal.returns-clause-greatest
returns-clause-greatest c h kept = rw (c.from.ensures, c.get.ensures.value) (completed_is h _ _ _ _ kept c.args.index (rw (← c.get.ensures.value) c.get.ensures.bound))

pub returns-clause-value : goal.returns-clause-value
returns-clause-value c h kept = rw (c.from.ensures, c.get.ensures.value) (completed_number h _ _ _ _ kept c.args.index (rw (← c.get.ensures.value) c.get.ensures.bound))
