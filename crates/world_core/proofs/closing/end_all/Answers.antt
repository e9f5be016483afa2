use Rattle.std.proofs.Common.{Some, sym, ap, subst, ◌∙◌, List}
use Rattle.back_core.specs.declared.back_event.BackEvent.{BackEvent}
use Rattle.back_core.specs.Frame.{IsGoing, host_bytes}
use Rattle.back_core.specs.Run.{journal_of}
use Rattle.world_core.proofs.BackSteps.{leaves_batches, leaves_halted, leaves_cleaned, leaves_cut, leaves_then}
use Rattle.world_core.proofs.Fronts.{fronts_left}
use Rattle.world_core.proofs.ClosingAll.{all_given}
use Rattle.world_core.proofs.closing.end_all.Goals as goal

pub returns-in_err-settle_all-clause-fronts : goal.returns-in_err-settle_all-clause-fronts
returns-in_err-settle_all-clause-fronts g c = λ threads are.
    fronts_left threads c.close_fronts.new.link.back.history c.settle_all.new.self.history c.close_fronts.new.fronts.items
    (leaves_halted (record {
      own = c.groups_are_apart.ensures.own;
      completed_rises = c.groups_are_apart.ensures.completed;
      wrote =
          c.groups_are_apart.ensures.wrote;
    }) c.close_fronts.new.link.back.history c.settle_all.new.self.history _
    c.in_err-settle_all.ensures.err) (c.in_ok-close_fronts.ensures.fronts threads are)

pub returns-in_err-clean_all-clause-fronts : goal.returns-in_err-clean_all-clause-fronts
returns-in_err-clean_all-clause-fronts g c = λ threads are.
    let cut = c.in_err-clean_all.ensures.err in
    fronts_left threads c.settle_all.new.self.history c.clean_all.new.self.history c.close_fronts.new.fronts.items
    (leaves_cut (record {
      own = c.groups_are_apart.ensures.own;
      completed_rises = c.groups_are_apart.ensures.completed;
      wrote =
          c.groups_are_apart.ensures.wrote;
    })
    (record { others = c.groups_are_apart.ensures.others; rises = c.groups_are_apart.ensures.rises }) c.settle_all.new.self.history
    c.clean_all.new.self.history cut.read _ _ cut.cleans.history)
    (fronts_left threads c.close_fronts.new.link.back.history c.settle_all.new.self.history c.close_fronts.new.fronts.items
    (leaves_batches (record {
      own = c.groups_are_apart.ensures.own;
      completed_rises = c.groups_are_apart.ensures.completed;
      wrote =
          c.groups_are_apart.ensures.wrote;
    }) c.close_fronts.new.link.back.history c.settle_all.new.self.history
    c.in_ok-settle_all.ensures.ok) (c.in_ok-close_fronts.ensures.fronts threads are))

pub returns-clause-fronts : goal.returns-clause-fronts
returns-clause-fronts g c = λ threads are.
    let cleans = c.in_ok-clean_all.ensures.ok in
    fronts_left threads c.settle_all.new.self.history c.clean_all.new.self.history c.close_fronts.new.fronts.items
    (leaves_cleaned (record { others = c.groups_are_apart.ensures.others; rises = c.groups_are_apart.ensures.rises })
    c.settle_all.new.self.history c.clean_all.new.self.history cleans.read _ cleans.cleans.history)
    (fronts_left threads c.close_fronts.new.link.back.history c.settle_all.new.self.history c.close_fronts.new.fronts.items
    (leaves_batches (record {
      own = c.groups_are_apart.ensures.own;
      completed_rises = c.groups_are_apart.ensures.completed;
      wrote =
          c.groups_are_apart.ensures.wrote;
    }) c.close_fronts.new.link.back.history c.settle_all.new.self.history
    c.in_ok-settle_all.ensures.ok) (c.in_ok-close_fronts.ensures.fronts threads are))

pub returns-clause-ends : goal.returns-clause-ends
returns-clause-ends g c = record {
  closed = c.close_fronts.new.link.back.history;
  fronts = c.in_ok-close_fronts.ensures.in_order;
  settled = c.settle_all.new.self;
  gone_on = c.in_ok-settle_all.ensures.ok;
  idle = c.in_ok-settle_all.ensures.idle;
  count = c.in_ok-clean_all.field-0;
  cleans = c.in_ok-clean_all.ensures.ok;
}

pub returns-clause-destroyed : goal.returns-clause-destroyed
returns-clause-destroyed g c =
    let closed = c.in_ok-close_fronts.ensures.closed in
    let gone = c.in_ok-settle_all.ensures.ok in
    c.in_ok-clean_all.ensures.clean
    (c.cleanups_stay_whole.ensures.batches c.close_fronts.new.link.back.history c.settle_all.new.self.history gone closed.whole)
    (all_given c.close_fronts.new.link.back.history c.settle_all.new.self.history
    (leaves_batches (record {
      own = c.groups_are_apart.ensures.own;
      completed_rises = c.groups_are_apart.ensures.completed;
      wrote =
          c.groups_are_apart.ensures.wrote;
    }) c.close_fronts.new.link.back.history c.settle_all.new.self.history gone)
    c.in_ok-settle_all.ensures.idle closed)

pub returns-clause-going : goal.returns-clause-going
returns-clause-going g c =
    let closed = c.in_ok-close_fronts.ensures.closed in
    let cleans = c.in_ok-clean_all.ensures.ok in
    subst (λ (h : List BackEvent). IsGoing (Some h)) (sym cleans.cleans.history)
    (c.backs_keep_going.ensures.cleaned c.settle_all.new.self.history cleans.read _
    (c.backs_keep_going.ensures.batches c.close_fronts.new.link.back.history c.settle_all.new.self.history
    c.in_ok-settle_all.ensures.ok closed.going))

pub returns-clause-written : goal.returns-clause-written
returns-clause-written g c =
    let cleans = c.in_ok-clean_all.ensures.ok in
    ap (λ (h : List BackEvent). host_bytes (journal_of h)) cleans.cleans.history
    ∙ c.backs_keep_going.ensures.cleanups_write c.settle_all.new.self.history cleans.read _
    ∙ c.backs_keep_going.ensures.batches_write c.close_fronts.new.link.back.history c.settle_all.new.self.history
    c.in_ok-settle_all.ensures.ok ∙ c.in_ok-close_fronts.ensures.written
