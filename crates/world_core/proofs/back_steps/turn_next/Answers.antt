use Rattle.std.proofs.lemmas.Result.{err_from_is_err_and}
use Rattle.world_core.proofs.BackSteps.{is_lost, has_turned, leaves_batches, leaves_stop, well_batches}
use Rattle.world_core.proofs.back_steps.turn_next.Goals as goal

pub returns-in_err-turn-clause-leaves : goal.returns-in_err-turn-clause-leaves
returns-in_err-turn-clause-leaves g c =
    leaves_stop (record {
      own = c.groups_are_apart.ensures.own;
      completed_rises = c.groups_are_apart.ensures.completed;
      wrote =
          c.groups_are_apart.ensures.wrote;
    })
    c.args.back.now.history c.turn.new.self.history _ c.in_err-turn.ensures.err

pub returns-in_err-turn-clause-lost : goal.returns-in_err-turn-clause-lost
returns-in_err-turn-clause-lost g c =
    let p = err_from_is_err_and c.from_residual.result c.from_residual.ensures.1 in
    rw (p.1, p.2) (is_lost c.turn.result c.in_err-turn.field-0.0 c.in_err-turn.was c.turn.ensures.no_memory)

pub returns-in-Ran-clause-leaves : goal.returns-in-Ran-clause-leaves
returns-in-Ran-clause-leaves g c =
    leaves_batches (record {
      own = c.groups_are_apart.ensures.own;
      completed_rises = c.groups_are_apart.ensures.completed;
      wrote =
          c.groups_are_apart.ensures.wrote;
    })
    c.args.back.now.history c.turn.new.self.history (has_turned c.args.back.now.history c.turn.new.self.history _ c.in_ok-turn.ensures.ok)

pub returns-in-Idle-clause-leaves : goal.returns-in-Idle-clause-leaves
returns-in-Idle-clause-leaves g c =
    leaves_batches (record {
      own = c.groups_are_apart.ensures.own;
      completed_rises = c.groups_are_apart.ensures.completed;
      wrote =
          c.groups_are_apart.ensures.wrote;
    })
    c.args.back.now.history c.turn.new.self.history (has_turned c.args.back.now.history c.turn.new.self.history _ c.in_ok-turn.ensures.ok)

pub returns-in-Ran-clause-well : goal.returns-in-Ran-clause-well
returns-in-Ran-clause-well g c =
    well_batches (record {
      going = c.backs_keep_going.ensures.batches;
      whole = c.cleanups_stay_whole.ensures.batches;
      write =
          c.backs_keep_going.ensures.batches_write;
    })
    c.args.back.now.history c.turn.new.self.history (has_turned c.args.back.now.history c.turn.new.self.history _ c.in_ok-turn.ensures.ok)

pub returns-in-Idle-clause-well : goal.returns-in-Idle-clause-well
returns-in-Idle-clause-well g c =
    well_batches (record {
      going = c.backs_keep_going.ensures.batches;
      whole = c.cleanups_stay_whole.ensures.batches;
      write =
          c.backs_keep_going.ensures.batches_write;
    })
    c.args.back.now.history c.turn.new.self.history (has_turned c.args.back.now.history c.turn.new.self.history _ c.in_ok-turn.ensures.ok)
