use Rattle.std.proofs.Common.{rules, sym, ap, ◌∙◌, Some, subst}
use Rattle.std.specs.Prelude.{Contains}
use Rattle.turnstile.specs.Histories.{own}
use Rattle.turnstile.specs.Views.{PassModel}
use Rattle.turnstile.proofs.Lists.{carries, carried_value, contains_rest}
use Rattle.turnstile.proofs.turnstile.Turnstile.take.Goals as goal

pub exchange-requires : goal.exchange-requires
exchange-requires g c =
    let gained = c.gain.ensures.1 in
    (search rules, (Some gained.0, carries c.gain.new.seat.me.1 gained.0 gained.1))

pub returns-clause-joined : goal.returns-clause-joined
returns-clause-joined g c k d =
    let gained = c.gain.ensures.1 in
    let same = carried_value c.gain.new.seat.me.1 gained.0 c.unwrap-value.result c.exchange.result gained.1 c.exchange.ensures.2 c.unwrap-value.ensures in
    ap (λ (x : g.row.V.Denot). own g.V.Chronicle.names k (g.V.Chronicle.history x)) (sym same)
    ∙ (gained.2.same k (contains_rest _ k _ (subst (λ (p : PassModel g.row.V-Entry.Denot). Contains p.joined k) (sym c.pass.view_is) d)) ∙ ap (λ (p : PassModel g.row.V-Entry.Denot). own g.V.Chronicle.names k p.seen) c.pass.view_is)
