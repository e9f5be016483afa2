use Rattle.submit_queue.proofs.Steps.{ran_kept}
use Rattle.submit_queue.proofs.queue.SubmitQueue.ran.Goals as goal

pub returns : goal.returns
returns c h kept may =
    rw (c.run_one.ensures, c.saturating_sub-place.ensures) (ran_kept h _ _ _ _ kept c.args.batch c.args.node c.ranges.batch.fits may)
