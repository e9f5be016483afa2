use Rattle.submit_queue.proofs.Steps.{pushed_kept}
use Rattle.submit_queue.proofs.queue.SubmitQueue.push.Goals as goal

pub returns-in-Ok-clause-ok : goal.returns-in-Ok-clause-ok
returns-in-Ok-clause-ok c h kept may =
    rw c.in-Ok.ensures.items (pushed_kept h _ _ _ _ kept c.args.batch may c.fresh.result c.fresh.ensures.batch c.fresh.ensures.left)
