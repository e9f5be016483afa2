use Rattle.std.proofs.Common.{◌%◌, ◌-◌, ◌+◌, ◌*◌, ◌/◌, ◌^◌, arith}
use Rattle.std.proofs.lemmas.Result.{err_from_is_err_and}
use Rattle.schedule.specs.Moves.{back_move, back_moves, back_moves_from}
use Rattle.schedule.proofs.Ways.{way_steps, way_stops, at_back_more}
use Rattle.schedule.proofs.Rounds.{next_back_move}
use Rattle.schedule.proofs.playing.make_back_moves.Goals as goal

pub returns-in_err-make_back_move-clause-cut_off :
    goal.returns-in_err-make_back_move-clause-cut_off
returns-in_err-make_back_move-clause-cut_off g c =
    let word = c.args.word in
    let k = c.loop-k.k in
    let way = rw (next_back_move word k (word % 4) c.loop-k-test.true) at c.loop-k.invariant.way in
    let p = err_from_is_err_and c.from_residual.result c.from_residual.ensures.1 in
    rw (p.1, p.2)
    (way_stops g.D.Device.journal c.args.world.now c.loop-k.world c.make_back_move.new.world (back_moves word)
    (back_move ((word / 2 ^ (8 + 2 * k)) % 4)) (back_moves_from word (k + 1) (word % 4 - (k + 1))) c.in_err-make_back_move.field-0.0 way
    c.in_err-make_back_move.ensures.stopped c.in_err-make_back_move.ensures.halted)

pub loop-k-preserved : goal.loop-k-preserved
loop-k-preserved g c =
    let word = c.args.word in
    let k = c.loop-k.k in
    let way = rw (next_back_move word k (word % 4) c.loop-k-test.true) at c.loop-k.invariant.way in
    let done = c.in_ok-make_back_move.ensures in
    record {
      way = way_steps g.D.Device.journal c.args.world.now c.loop-k.world c.make_back_move.new.world (back_moves word)
          (back_move ((word / 2 ^ (8 + 2 * k)) % 4)) (back_moves_from word (k + 1) (word % 4 - (k + 1))) way done.made;
      at_back = at_back_more c.args.world.now c.loop-k.world c.make_back_move.new.world c.loop-k.invariant.at_back done.at_back;
      later = omega (arith, c.loop-k.invariant.later, done.cause.later);
    }
