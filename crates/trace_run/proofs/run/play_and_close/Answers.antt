use Rattle.std.proofs.Common.{ap}
use Rattle.std.proofs.lemmas.Result.{on_ok_weaker, on_err_weaker}
use Rattle.play_model.specs.Plays.{Play}
use Rattle.trace_run.proofs.Leading.{on_err, was_led, was_led_whole, was_led_on}
use Rattle.trace_run.proofs.run.play_and_close.Goals as goal

pub play-requires-clause-fresh : goal.play-requires-clause-fresh
play-requires-clause-fresh g c = ap (λ (p : Play). p.done) c.requires.fresh

pub returns-in_err-play-clause-part : goal.returns-in_err-play-clause-part
returns-in_err-play-clause-part g c =
    on_err c.from_residual.result
    (was_led_on _ g.D.Device.journal c.calls_are_made.ensures.threads c.calls_are_made.ensures.calls
    c.args.world.now c.args.seed c.requires.fresh c.play.new.world _ c.in_err-play.ensures.cut_off)

pub returns-clause-whole : goal.returns-clause-whole
returns-clause-whole g c =
    on_ok_weaker c.close.result
    (λ closed. was_led _ g.D.Device.journal c.calls_are_made.ensures.threads c.calls_are_made.ensures.calls c.args.world.now c.args.seed
    c.requires.fresh c.play.new.world c.close.new.self c.in_ok-play.ensures.made c.in_ok-play.ensures.all closed)
    c.close.ensures.ok

pub returns-clause-part : goal.returns-clause-part
returns-clause-part g c =
    on_err_weaker c.close.result
    (λ halted. was_led_whole _ g.D.Device.journal c.calls_are_made.ensures.threads c.calls_are_made.ensures.calls c.args.world.now c.args.seed
    c.requires.fresh c.play.new.world c.close.new.self c.in_ok-play.ensures.made halted)
    c.close.ensures.err
