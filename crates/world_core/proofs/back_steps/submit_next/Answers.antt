use Rattle.world_core.proofs.BackSteps.{submitted, leaves_batches, leaves_stop, well_batches}
use Rattle.world_core.proofs.back_steps.submit_next.Goals as goal

pub returns-in_err-submit_one-clause-leaves : goal.returns-in_err-submit_one-clause-leaves
returns-in_err-submit_one-clause-leaves g c =
    leaves_stop (record {
      own = c.groups_are_apart.ensures.own;
      completed_rises = c.groups_are_apart.ensures.completed;
      wrote =
          c.groups_are_apart.ensures.wrote;
    })
    c.args.back.now.history c.submit_one.new.self.history _ c.in_err-submit_one.ensures.err

pub returns-in-Done-clause-leaves : goal.returns-in-Done-clause-leaves
returns-in-Done-clause-leaves g c =
    leaves_batches (record {
      own = c.groups_are_apart.ensures.own;
      completed_rises = c.groups_are_apart.ensures.completed;
      wrote =
          c.groups_are_apart.ensures.wrote;
    })
    c.args.back.now.history c.submit_one.new.self.history
    (submitted c.args.back.now.history c.submit_one.new.self.history _ c.in_ok-submit_one.ensures.ok)

pub returns-in-Nothing-clause-leaves : goal.returns-in-Nothing-clause-leaves
returns-in-Nothing-clause-leaves g c =
    leaves_batches (record {
      own = c.groups_are_apart.ensures.own;
      completed_rises = c.groups_are_apart.ensures.completed;
      wrote =
          c.groups_are_apart.ensures.wrote;
    })
    c.args.back.now.history c.submit_one.new.self.history
    (submitted c.args.back.now.history c.submit_one.new.self.history _ c.in_ok-submit_one.ensures.ok)

pub returns-in-Done-clause-well : goal.returns-in-Done-clause-well
returns-in-Done-clause-well g c =
    well_batches (record {
      going = c.backs_keep_going.ensures.batches;
      whole = c.cleanups_stay_whole.ensures.batches;
      write =
          c.backs_keep_going.ensures.batches_write;
    })
    c.args.back.now.history c.submit_one.new.self.history
    (submitted c.args.back.now.history c.submit_one.new.self.history _ c.in_ok-submit_one.ensures.ok)

pub returns-in-Nothing-clause-well : goal.returns-in-Nothing-clause-well
returns-in-Nothing-clause-well g c =
    well_batches (record {
      going = c.backs_keep_going.ensures.batches;
      whole = c.cleanups_stay_whole.ensures.batches;
      write =
          c.backs_keep_going.ensures.batches_write;
    })
    c.args.back.now.history c.submit_one.new.self.history
    (submitted c.args.back.now.history c.submit_one.new.self.history _ c.in_ok-submit_one.ensures.ok)
