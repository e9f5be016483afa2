use Rattle.world_core.proofs.Lists.{read_at}
use Rattle.world_core.proofs.Calls.{ask_ok, stop_err}
use Rattle.world_core.proofs.calling.ask.Goals as goal

pub call-requires-clause-stands : goal.call-requires-clause-stands
call-requires-clause-stands g c =
    let front = c.index_mut-front.result.now in
    (c.requires.may front
    (read_at c.args.fronts.now.items c.from.result c.args.group front c.from.ensures c.requires.low
    c.index_mut-front.ensures.value)).stands

pub call-requires-clause-declared : goal.call-requires-clause-declared
call-requires-clause-declared g c =
    let front = c.index_mut-front.result.now in
    (c.requires.may front
    (read_at c.args.fronts.now.items c.from.result c.args.group front c.from.ensures c.requires.low
    c.index_mut-front.ensures.value)).declared

pub returns-clause-ok : goal.returns-clause-ok
returns-clause-ok g c =
    let front = c.index_mut-front.result.now in
    ask_ok c.what_a_group_sees.ensures.group c.args.fronts.now.items c.from.result c.args.group c.call.new.link.group front
    c.call.new.self
    c.args.link.now.back.history c.call.new.link.back.history
    (read_at c.args.fronts.now.items c.from.result c.args.group front c.from.ensures c.requires.low c.index_mut-front.ensures.value)
    c.from.ensures
    c.args.thread c.args.line.now c.call.result c.call.ensures.ok c.call.ensures.origin c.call.ensures.polls c.call.ensures.flushes
    c.call.ensures.at_back

pub returns-clause-err : goal.returns-clause-err
returns-clause-err g c =
    let front = c.index_mut-front.result.now in
    stop_err c.what_a_group_sees.ensures.group c.args.fronts.now.items c.from.result c.args.group c.call.new.link.group front
    c.call.new.self
    c.args.link.now.back.history c.call.new.link.back.history
    (read_at c.args.fronts.now.items c.from.result c.args.group front c.from.ensures c.requires.low c.index_mut-front.ensures.value)
    c.from.ensures
    c.call.result c.call.ensures.err c.call.ensures.at_back
