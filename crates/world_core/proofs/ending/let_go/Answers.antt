use Rattle.world_core.proofs.LettingGo.{let_go_group, let_go_lets}
use Rattle.world_core.proofs.Fronts.{learned_beside}
use Rattle.world_core.proofs.ending.let_go.Goals as goal

pub returns-clause-lets : goal.returns-clause-lets
returns-clause-lets g c =
    let_go_lets c.what_a_group_sees.ensures.group c.groups_are_apart.ensures.wrote c.groups_are_apart.ensures.objects
    c.args.link.now.back.history c.abandon-entries.new.link.back.history
    c.args.group c.abandon-entries.new.link.group _ c.is_in_order.ensures.run c.abandon-entries.ensures.rest
    c.abandon-entries.ensures.at_back

pub returns-clause-others : goal.returns-clause-others
returns-clause-others g c = λ other ne.
    learned_beside (record {
      own = c.groups_are_apart.ensures.own;
      completed_rises = c.groups_are_apart.ensures.completed;
      wrote =
          c.groups_are_apart.ensures.wrote;
    }) c.args.link.now.back.history c.abandon-entries.new.link.back.history c.args.group other
    (let_go_group c.what_a_group_sees.ensures.group c.args.link.now.back.history c.abandon-entries.new.link.back.history c.args.group
    c.abandon-entries.new.link.group c.abandon-entries.ensures.at_back) ne
