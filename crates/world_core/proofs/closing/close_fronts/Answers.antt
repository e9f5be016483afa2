use Rattle.std.proofs.Common.{arith}
use Rattle.world_core.proofs.ClosingAll.{closing_begins, closing_more, closing_ends, all_closed, broken_are, broken_stays}
use Rattle.world_core.proofs.closing.close_fronts.Goals as goal

pub loop-group-init : goal.loop-group-init
loop-group-init g c = record {
  closing = closing_begins c.args.fronts.now.items c.args.link.now.back.history c.requires.eight c.requires.goes;
  later = omega arith;
}

pub close_one-requires-clause-low : goal.close_one-requires-clause-low
close_one-requires-clause-low g c = let eight = c.loop-group.invariant.closing.eight in omega (arith, eight, c.loop-group-test.true)

pub close_one-requires-clause-stands : goal.close_one-requires-clause-stands
close_one-requires-clause-stands g c = λ front at. c.loop-group.invariant.closing.stand c.loop-group.group front at (omega arith)

pub loop-group-preserved : goal.loop-group-preserved
loop-group-preserved g c = record {
  closing = closing_more (record {
    apart = record {
      own = c.groups_are_apart.ensures.own;
      completed_rises = c.groups_are_apart.ensures.completed;
      wrote =
          c.groups_are_apart.ensures.wrote;
    };
    stays = c.fronts_go_on_standing.ensures;
    whole = c.cleanups_stay_whole.ensures.calls;
    group = c.what_a_group_sees.ensures.group;
  }) c.args.fronts.now.items c.loop-group.fronts.items c.close_one.new.fronts.items c.args.link.now.back.history
      c.loop-group.link.back.history
      c.close_one.new.link.back.history c.loop-group.group c.loop-group.invariant.closing
      (omega (arith, c.loop-group-test.true)) c.in_ok-close_one.ensures.ok;
  later = let before = c.loop-group.invariant.later in let now = c.close_one.ensures.cause.later in omega (arith, before, now);
}

pub returns-in_err-close_one-clause-fronts : goal.returns-in_err-close_one-clause-fronts
returns-in_err-close_one-clause-fronts g c = λ threads are.
    broken_are (record {
      apart = record {
        own = c.groups_are_apart.ensures.own;
        completed_rises = c.groups_are_apart.ensures.completed;
        wrote =
            c.groups_are_apart.ensures.wrote;
      };
      stays = c.fronts_go_on_standing.ensures;
      whole = c.cleanups_stay_whole.ensures.calls;
      group = c.what_a_group_sees.ensures.group;
    }) c.args.fronts.now.items c.loop-group.fronts.items c.close_one.new.fronts.items c.args.link.now.back.history
    c.loop-group.link.back.history
    c.close_one.new.link.back.history c.loop-group.group c.loop-group.invariant.closing threads c.in_err-close_one.ensures.err are

pub returns-in_err-close_one-clause-histories : goal.returns-in_err-close_one-clause-histories
returns-in_err-close_one-clause-histories g c =
    broken_stays (record {
      apart = record {
        own = c.groups_are_apart.ensures.own;
        completed_rises = c.groups_are_apart.ensures.completed;
        wrote =
            c.groups_are_apart.ensures.wrote;
      };
      stays = c.fronts_go_on_standing.ensures;
      whole = c.cleanups_stay_whole.ensures.calls;
      group = c.what_a_group_sees.ensures.group;
    }) c.args.fronts.now.items c.loop-group.fronts.items c.close_one.new.fronts.items c.args.link.now.back.history
    c.loop-group.link.back.history
    c.close_one.new.link.back.history c.loop-group.group c.loop-group.invariant.closing c.in_err-close_one.ensures.err

pub returns-clause-closed : goal.returns-clause-closed
returns-clause-closed g c =
    closing_ends c.args.fronts.now.items c.loop-group.fronts.items c.args.link.now.back.history c.loop-group.link.back.history
    c.loop-group.group (omega (arith, c.loop-group-test.false))
    c.loop-group.invariant.closing

pub returns-clause-in_order : goal.returns-clause-in_order
returns-clause-in_order g c =
    all_closed c.args.fronts.now.items c.loop-group.fronts.items c.args.link.now.back.history c.loop-group.link.back.history
    c.loop-group.group (omega (arith, c.loop-group-test.false, c.loop-group.auto.group-end)) c.loop-group.invariant.closing

pub returns-clause-fronts : goal.returns-clause-fronts
returns-clause-fronts g c = c.loop-group.invariant.closing.are

pub returns-clause-histories : goal.returns-clause-histories
returns-clause-histories g c = c.loop-group.invariant.closing.histories

pub returns-clause-written : goal.returns-clause-written
returns-clause-written g c = c.loop-group.invariant.closing.written
