use Rattle.std.proofs.Common.{rules, ap, ◌∙◌}
use Rattle.turnstile.specs.declared.rule.View.{View}
use Rattle.turnstile.specs.Histories.{greatest}
use Rattle.turnstile.specs.Views.{PassModel}
use Rattle.turnstile.proofs.Words.{greatest_last, greatest_else}
use Rattle.turnstile.proofs.Loading.{looks}
use Rattle.turnstile.proofs.turnstile.Turnstile.published.Goals as goal

pub load-requires : goal.load-requires
load-requires g c = (search rules, search rules, looks _ _ _ _ _ _ _ _ c.pass.invariant.live c.requires.word.1)

pub returns-clause-greatest : goal.returns-clause-greatest
returns-clause-greatest g c =
    let looked = c.load.ensures.2 in
    ap (λ (v : View g.row.V-Entry.Denot). greatest c.args.word v.loads) looked.0 ∙ greatest_last c.args.word c.load.result c.pass.inside.seat.me.0.loads looked.2

pub returns-clause-others : goal.returns-clause-others
returns-clause-others g c k apart =
    let looked = c.load.ensures.2 in
    ap (λ (v : View g.row.V-Entry.Denot). greatest k v.loads) looked.0
    ∙ (greatest_else k c.args.word c.load.result c.pass.inside.seat.me.0.loads apart ∙ ap (λ (p : PassModel g.row.V-Entry.Denot). greatest k p.loads) c.pass.view_is)
