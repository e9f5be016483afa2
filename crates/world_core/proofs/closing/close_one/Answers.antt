use Rattle.world_core.proofs.Lists.{read_at}
use Rattle.world_core.proofs.Calls.{close_ok, stop_err}
use Rattle.world_core.proofs.closing.close_one.Goals as goal

pub close-requires : goal.close-requires
close-requires g c =
    let front = c.index_mut-front.result.now in
    record {
      stands = c.requires.stands front
          (read_at c.args.fronts.now.items c.from.result c.args.group front c.from.ensures c.requires.low c.index_mut-front.ensures.value);
    }

pub returns-clause-ok : goal.returns-clause-ok
returns-clause-ok g c =
    let front = c.index_mut-front.result.now in
    close_ok c.what_a_group_sees.ensures.group c.args.fronts.now.items c.from.result c.args.group c.close.new.link.group front
    c.close.new.self
    c.args.link.now.back.history c.close.new.link.back.history
    (read_at c.args.fronts.now.items c.from.result c.args.group front c.from.ensures c.requires.low c.index_mut-front.ensures.value)
    c.from.ensures
    c.close.result c.close.ensures.ok c.close.ensures.at_back

pub returns-clause-err : goal.returns-clause-err
returns-clause-err g c =
    let front = c.index_mut-front.result.now in
    stop_err c.what_a_group_sees.ensures.group c.args.fronts.now.items c.from.result c.args.group c.close.new.link.group front
    c.close.new.self
    c.args.link.now.back.history c.close.new.link.back.history
    (read_at c.args.fronts.now.items c.from.result c.args.group front c.from.ensures c.requires.low c.index_mut-front.ensures.value)
    c.from.ensures
    c.close.result c.close.ensures.err c.close.ensures.at_back
