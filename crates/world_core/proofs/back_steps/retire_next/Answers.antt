use Rattle.std.proofs.Common.{sym, subst, ap}
use Rattle.back_core.specs.declared.back_event.BackEvent.{BackEvent}
use Rattle.world_core.specs.Inside.{LeavesGroups}
use Rattle.world_core.proofs.BackSteps.{has_retired, leaves_batches, leaves_same, well_batches, well_same}
use Rattle.world_core.proofs.back_steps.retire_next.Goals as goal

pub returns-in-Some-clause-leaves : goal.returns-in-Some-clause-leaves
returns-in-Some-clause-leaves g c =
    leaves_batches (record {
      own = c.groups_are_apart.ensures.own;
      completed_rises = c.groups_are_apart.ensures.completed;
      wrote =
          c.groups_are_apart.ensures.wrote;
    })
    c.args.back.now.history c.retire.new.self.history
    (has_retired c.args.back.now.history c.retire.new.self.history _ c.in-Some.ensures.some)

pub returns-in-Some-clause-well : goal.returns-in-Some-clause-well
returns-in-Some-clause-well g c =
    well_batches (record {
      going = c.backs_keep_going.ensures.batches;
      whole = c.cleanups_stay_whole.ensures.batches;
      write =
          c.backs_keep_going.ensures.batches_write;
    })
    c.args.back.now.history c.retire.new.self.history
    (has_retired c.args.back.now.history c.retire.new.self.history _ c.in-Some.ensures.some)

pub returns-in-Some-clause-done : goal.returns-in-Some-clause-done
returns-in-Some-clause-done g c = (_, c.in-Some.ensures.some)

pub returns-in-None-clause-done : goal.returns-in-None-clause-done
returns-in-None-clause-done g c = (c.in-None.ensures.unchanged, c.in-None.ensures.none)

pub returns-in-None-clause-leaves : goal.returns-in-None-clause-leaves
returns-in-None-clause-leaves g c =
    subst (LeavesGroups c.args.back.now.history) (sym (ap (λ b. b.history) c.in-None.ensures.unchanged))
    (leaves_same c.args.back.now.history)

pub returns-in-None-clause-well : goal.returns-in-None-clause-well
returns-in-None-clause-well g c = well_same c.args.back.now.history c.retire.new.self.history
    (ap (λ b. b.history) c.in-None.ensures.unchanged)
