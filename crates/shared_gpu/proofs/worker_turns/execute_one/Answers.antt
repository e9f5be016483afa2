use Rattle.std.proofs.Common.{◌≡◌, ap}
use Rattle.back_core.specs.History.{completed}
use Rattle.back_core.specs.Steps.{Turns}
use Rattle.back_core.specs.Back.{stopped_by}
use Rattle.turnstile.specs.Views.{PassModel}
use Rattle.shared_gpu.specs.declared.noted.Noted.{Noted}
use Rattle.shared_gpu.specs.Views.{SharedModel}
use Rattle.shared_gpu.proofs.Words.{shown_at}
use Rattle.shared_gpu.proofs.Working.{seen_then, adds_turn, turn_ok, turn_err, stopped_then}
use Rattle.shared_gpu.proofs.worker_turns.execute_one.Goals as goal

pub put-requires-clause-adds : goal.put-requires-clause-adds
put-requires-clause-adds g c =
    let t = c.take-turn in
    let v = t.result.value in
    let x = c.turn-answer in
    adds_turn t.new.pass x.new.self.opened v.history x.new.self.history (seen_then c.args.pass.now t.new.pass v.opened x.new.self.opened v.history t.ensures.pass x.ensures.opened)
    (shown_at t.new.pass.words (completed v.history) t.ensures.shown) c.what_a_group_sees.ensures.others x.result x.ensures.ok x.ensures.err

pub returns-clause-ok : goal.returns-clause-ok
returns-clause-ok g c =
    let t = c.take-turn in
    let x = c.turn-answer in
    turn_ok c.args.pass.now c.put.new.pass t.result.value x.new.self t.ensures.begins (ap (λ (p : PassModel Noted). p.seen) c.put.ensures.given.is) c.put.ensures.given.shown x.ensures.opened x.result
    (λ y (s t : SharedModel _). Turns s.history t.history y) x.ensures.ok

pub returns-clause-err : goal.returns-clause-err
returns-clause-err g c =
    let t = c.take-turn in
    let x = c.turn-answer in
    turn_err c.args.pass.now c.put.new.pass t.result.value x.new.self t.ensures.begins (ap (λ (p : PassModel Noted). p.seen) c.put.ensures.given.is) c.put.ensures.given.shown x.ensures.opened x.result
    (λ stop (s t : SharedModel _). t.history ≡ stopped_by s.history stop) x.ensures.err

pub returns-clause-stopped : goal.returns-clause-stopped
returns-clause-stopped g c =
    let x = c.turn-answer in
    stopped_then c.put.new.pass x.new.self.opened x.new.self.history x.result (ap (λ (p : PassModel Noted). p.seen) c.put.ensures.given.is) x.ensures.first
