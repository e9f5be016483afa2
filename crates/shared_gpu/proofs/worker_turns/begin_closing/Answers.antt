use Rattle.std.proofs.Common.{◌≡◌, ap}
use Rattle.back_core.specs.History.{completed}
use Rattle.back_core.specs.Back.{closed_by}
use Rattle.turnstile.specs.Views.{PassModel}
use Rattle.shared_gpu.specs.declared.noted.Noted.{Noted}
use Rattle.shared_gpu.specs.Views.{SharedModel}
use Rattle.shared_gpu.proofs.Words.{shown_at}
use Rattle.shared_gpu.proofs.Working.{seen_then, adds_closing, in_one_turn}
use Rattle.shared_gpu.proofs.worker_turns.begin_closing.Goals as goal

pub put-requires-clause-adds : goal.put-requires-clause-adds
put-requires-clause-adds g c =
    let t = c.take-turn in
    let v = t.result.value in
    let x = c.begin_closing in
    adds_closing t.new.pass x.new.self.opened v.history x.new.self.history (seen_then c.args.pass.now t.new.pass v.opened x.new.self.opened v.history t.ensures.pass x.ensures.rest.1)
    (shown_at t.new.pass.words (completed v.history) t.ensures.shown) c.what_a_group_sees.ensures.others x.ensures.history

pub returns-clause-turn : goal.returns-clause-turn
returns-clause-turn g c =
    let t = c.take-turn in
    let x = c.begin_closing in
    in_one_turn c.args.pass.now c.put.new.pass t.result.value x.new.self t.ensures.begins (ap (λ (p : PassModel Noted). p.seen) c.put.ensures.given.is) c.put.ensures.given.shown x.ensures.rest.1
    (λ (s t : SharedModel _). t.history ≡ closed_by s.history) x.ensures.history
