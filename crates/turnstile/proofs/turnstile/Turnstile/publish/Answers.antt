use Rattle.std.proofs.Common.{◌≡◌, ◌≤◌, true, get_or, rules, ap, sym, ◌∙◌, subst, arith}
use Rattle.turnstile.specs.Views.{PassModel}
use Rattle.turnstile.proofs.Turning.{stores}
use Rattle.turnstile.proofs.turnstile.Turnstile.publish.Goals as goal

pub store-requires : goal.store-requires
store-requires g c =
    let on : c.pass.inside.seat.me.0.holds ≡ true = ap (λ (p : PassModel g.row.V-Entry.Denot). p.holds) c.pass.view_is ∙ c.requires.turn.2 in
    let rises = subst (λ (p : PassModel g.row.V-Entry.Denot). get_or p.words c.args.word 0 ≤ g.V.Chronicle.published c.args.turn.now.value c.args.word) (sym c.pass.view_is) c.requires.rises in
    let more : get_or c.pass.inside.seat.me.0.words c.args.word 0 ≤ c.published-number.result = omega (arith, rises, c.published-number.ensures) in
    (search rules, search rules, stores _ _ _ _ _ _ _ c.args.word _ c.pass.invariant.live on c.requires.word.1 more)
