use Rattle.std.proofs.Common.{◌≡◌, refl, sym, ap, ◌∙◌, subst}
use Rattle.back_core.specs.History.{completed}
use Rattle.back_core.specs.Back.{ending_of}
use Rattle.turnstile.specs.Views.{PassModel}
use Rattle.shared_gpu.specs.declared.noted.Noted.{Noted}
use Rattle.shared_gpu.specs.Notes.{events_of}
use Rattle.shared_gpu.specs.Views.{SharedModel}
use Rattle.shared_gpu.specs.Workers.{IsWhatIsLeft}
use Rattle.shared_gpu.proofs.Links.{events_noted, adds_nothing}
use Rattle.shared_gpu.proofs.Words.{shown_at}
use Rattle.shared_gpu.proofs.Working.{in_one_turn}
use Rattle.shared_gpu.proofs.worker_turns.look.Goals as goal

pub put-requires-clause-adds : goal.put-requires-clause-adds
put-requires-clause-adds g c =
    let t = c.take-turn in
    let v = t.result.value in
    adds_nothing t.new.pass v.opened v.history v.history (ap (λ (p : PassModel Noted). p.seen) t.ensures.pass) (shown_at t.new.pass.words (completed v.history) t.ensures.shown) refl

-- what the pass has seen now
events_are : (g : _) (c : goal.After-put g) → events_of c.put.new.pass.seen ≡ c.take-turn.result.value.history
events_are g c =
    let v = c.take-turn.result.value in
    ap (λ (p : PassModel Noted). events_of p.seen) c.put.ensures.given.is ∙ events_noted v.opened v.history

pub returns-clause-turn : goal.returns-clause-turn
returns-clause-turn g c =
    let t = c.take-turn in
    in_one_turn c.args.pass.now c.put.new.pass t.result.value t.result.value t.ensures.begins (ap (λ (p : PassModel Noted). p.seen) c.put.ensures.given.is) c.put.ensures.given.shown refl
    (λ (s t : SharedModel _). t ≡ s) refl

pub returns-clause-ending : goal.returns-clause-ending
returns-clause-ending g c = c.ending-ending.ensures ∙ ap ending_of (sym (events_are g c))

pub returns-clause-left : goal.returns-clause-left
returns-clause-left g c = subst (λ h. IsWhatIsLeft h c.left-left.result) (sym (events_are g c)) c.left-left.ensures
