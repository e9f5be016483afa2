use Rattle.std.proofs.lemmas.Result.{err_from_is_err_and}
use Rattle.world_core.proofs.BackSteps.{is_lost, leaves_cleaned, leaves_cut, well_cleaned}
use Rattle.world_core.proofs.back_steps.clean_next.Goals as goal

pub returns-in_err-cleanup-clause-leaves : goal.returns-in_err-cleanup-clause-leaves
returns-in_err-cleanup-clause-leaves g c =
    leaves_cut (record {
      own = c.groups_are_apart.ensures.own;
      completed_rises = c.groups_are_apart.ensures.completed;
      wrote =
          c.groups_are_apart.ensures.wrote;
    })
    (record { others = c.groups_are_apart.ensures.others; rises = c.groups_are_apart.ensures.rises })
    c.args.back.now.history c.cleanup.new.self.history c.args.read.now _ _ c.in_err-cleanup.ensures.err.history

pub returns-in_err-cleanup-clause-lost : goal.returns-in_err-cleanup-clause-lost
returns-in_err-cleanup-clause-lost g c =
    let p = err_from_is_err_and c.from_residual.result c.from_residual.ensures.1 in
    rw (p.1, p.2) (is_lost c.cleanup.result c.in_err-cleanup.field-0.0 c.in_err-cleanup.was c.cleanup.ensures.no_memory)

pub returns-clause-ok : goal.returns-clause-ok
returns-clause-ok g c = (_, c.in_ok-cleanup.ensures.ok)

pub returns-clause-leaves : goal.returns-clause-leaves
returns-clause-leaves g c =
    leaves_cleaned (record { others = c.groups_are_apart.ensures.others; rises = c.groups_are_apart.ensures.rises })
    c.args.back.now.history c.cleanup.new.self.history c.args.read.now _ c.in_ok-cleanup.ensures.ok.history

pub returns-clause-well : goal.returns-clause-well
returns-clause-well g c =
    well_cleaned c.backs_keep_going.ensures.cleaned c.backs_keep_going.ensures.cleanups_write
    c.args.back.now.history c.cleanup.new.self.history c.args.read.now _ c.in_ok-cleanup.ensures.ok.history c.in_ok-cleanup.ensures.whole
