use Rattle.std.proofs.Common.{ℕ, ◌<◌, ◌≤◌, List, ◌∷◌, length, refl, sym, ◌∙◌, subst, arith}
use Rattle.std.proofs.lemmas.Result.{err_from_is_err_and}
use Rattle.trace_text.specs.Reading.{Plan}
use Rattle.play_model.specs.Plays.{HasEnded}
use Rattle.world_core.specs.World.{play_of}
use Rattle.schedule.specs.Moves.{Calls, schedule, ready_threads, back_moves}
use Rattle.schedule.proofs.Lines.{lines_left, ready_left, none_left, all_ended}
use Rattle.schedule.proofs.Ways.{IsOnWay, way_starts, way_is_cut, way_stops, way_ends}
use Rattle.schedule.proofs.Rounds.{schedule_is, no_round, has_called, fewer_left, named, others, before_round, before_call, after_call}
use Rattle.schedule.proofs.playing.play.Goals as goal

pub loop-ready-init : goal.loop-ready-init
loop-ready-init g c =
    let w = c.args.world.now in
    let words = c.seed_from_u64-words in
    let moves = schedule w.threads c.args.seed in
    let all = schedule_is w.threads w.done words.result c.args.seed c.requires.fresh words.ensures in
    record {
      way = subst (IsOnWay g.D.Device.journal w w moves) (sym all) (way_starts g.D.Device.journal w moves);
      threads = refl;
      running = c.requires.running;
      ready_is = c.ready_count-ready.ensures.count;
      few = c.ready_count-ready.ensures.few;
      later = omega arith;
    }

pub returns-in_err-make_back_moves-clause-cut_off : goal.returns-in_err-make_back_moves-clause-cut_off
returns-in_err-make_back_moves-clause-cut_off g c =
    let journal = g.D.Device.journal in
    let w = c.args.world.now in
    let now = c.loop-ready.world in
    let i = c.loop-ready.invariant in
    let moves = schedule w.threads c.args.seed in
    let state = c.loop-ready.words in
    let drawn = c.next_word-word in
    let word = drawn.result in
    let left = ready_left now.threads now.done 0 now.threads now.done (omega (arith, i.ready_is, c.loop-ready-test.true)) in
    let thread = named journal w now moves state drawn.new.self word i.way drawn.ensures left in
    let p = err_from_is_err_and c.from_residual.result c.from_residual.ensures.1 in
    rw (p.1, p.2)
    (way_is_cut journal w now c.make_back_moves.new.world moves (back_moves word)
    (Calls thread ∷ others journal w now moves state drawn.new.self word i.way drawn.ensures left thread)
    c.in_err-make_back_moves.field-0.0
    (before_round journal w now moves state drawn.new.self word i.way drawn.ensures left)
    c.in_err-make_back_moves.ensures.cut_off)

pub returns-in_err-step-clause-cut_off : goal.returns-in_err-step-clause-cut_off
returns-in_err-step-clause-cut_off g c =
    let journal = g.D.Device.journal in
    let w = c.args.world.now in
    let now = c.loop-ready.world in
    let back = c.make_back_moves.new.world in
    let i = c.loop-ready.invariant in
    let moves = schedule w.threads c.args.seed in
    let state = c.loop-ready.words in
    let drawn = c.next_word-word in
    let word = drawn.result in
    let left = ready_left now.threads now.done 0 now.threads now.done (omega (arith, i.ready_is, c.loop-ready-test.true)) in
    let made = c.in_ok-make_back_moves.ensures in
    let thread = c.ready_thread-thread.result in
    let p = err_from_is_err_and c.from_residual-in_err-step.result c.from_residual-in_err-step.ensures.1 in
    rw (p.1, p.2)
    (way_stops journal w back c.step.new.self moves (Calls thread)
    (others journal w now moves state drawn.new.self word i.way drawn.ensures left thread)
    c.in_err-step.field-0.0
    (before_call journal w now moves state drawn.new.self word i.way drawn.ensures left
    back made.made made.at_back thread c.from.result (c.from.ensures ∙ i.ready_is) c.ready_thread-thread.ensures.named)
    c.in_err-step.ensures.halt c.in_err-step.ensures.err)

pub loop-ready-smaller : goal.loop-ready-smaller
loop-ready-smaller g c =
    let now = c.loop-ready.world in
    let back = c.make_back_moves.new.world in
    let new = c.step.new.self in
    let thread = c.ready_thread-thread in
    let called = has_called g.D.Device.journal back new thread.result thread.ensures.may c.in_ok-step.field-0 c.in_ok-step.ensures.ok in
    let fewer = fewer_left back new thread.result called now c.in_ok-make_back_moves.ensures.at_back in
    omega (arith, fewer)

pub loop-ready-preserved : goal.loop-ready-preserved
loop-ready-preserved g c =
    let journal = g.D.Device.journal in
    let w = c.args.world.now in
    let now = c.loop-ready.world in
    let back = c.make_back_moves.new.world in
    let new = c.step.new.self in
    let i = c.loop-ready.invariant in
    let moves = schedule w.threads c.args.seed in
    let state = c.loop-ready.words in
    let drawn = c.next_word-word in
    let word = drawn.result in
    let left = ready_left now.threads now.done 0 now.threads now.done (omega (arith, i.ready_is, c.loop-ready-test.true)) in
    let made = c.in_ok-make_back_moves.ensures in
    let thread = c.ready_thread-thread in
    let called = has_called journal back new thread.result thread.ensures.may c.in_ok-step.field-0 c.in_ok-step.ensures.ok in
    let again = c.ready_count-ready-in-loop-ready.ensures in
    record {
      way = after_call journal w now moves state drawn.new.self word i.way drawn.ensures left
          back made.made made.at_back thread.result c.from.result (c.from.ensures ∙ i.ready_is) thread.ensures.named new called;
      threads = called.threads ∙ made.at_back.threads ∙ i.threads;
      running = called.running;
      ready_is = again.count;
      few = again.few;
      later = omega (arith, i.later, made.cause.later, c.in_ok-step.ensures.cause.later);
    }

pub returns-clause-made : goal.returns-clause-made
returns-clause-made g c =
    let journal = g.D.Device.journal in
    let w = c.args.world.now in
    let now = c.loop-ready.world in
    let i = c.loop-ready.invariant in
    let moves = schedule w.threads c.args.seed in
    let law = c.is_lawful.ensures in
    let some = c.some_thread_is_ready.ensures.some now.threads (play_of now) law.served.trace law.played in
    let none_ready : length (ready_threads now.threads now.done) ≤ 0 = omega (arith, i.ready_is, c.loop-ready-test.false) in
    let none = none_left now.threads (play_of now) law.played law.served.trace some none_ready in
    let rest = no_round now.threads (lines_left now.threads now.done) now.done c.loop-ready.words none in
    way_ends journal w now moves (subst (IsOnWay journal w now moves) rest i.way)

pub returns-clause-all : goal.returns-clause-all
returns-clause-all g c =
    let now = c.loop-ready.world in
    let i = c.loop-ready.invariant in
    let law = c.is_lawful.ensures in
    let some = c.some_thread_is_ready.ensures.some now.threads (play_of now) law.served.trace law.played in
    let none_ready : length (ready_threads now.threads now.done) ≤ 0 = omega (arith, i.ready_is, c.loop-ready-test.false) in
    let none = none_left now.threads (play_of now) law.played law.served.trace some none_ready in
    let ended = all_ended now.threads (play_of now) law.played law.served.trace none in
    subst (λ (threads : List Plan). (thread : ℕ) → thread < length threads → HasEnded threads now.done thread) i.threads ended
