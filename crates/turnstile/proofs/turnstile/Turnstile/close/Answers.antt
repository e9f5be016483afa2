use Rattle.std.proofs.Common.{◌≡◌, ℕ, ◌<◌, rules, ap, sym, ◌∙◌, subst}
use Rattle.std.specs.Prelude.{Contains, IsSome}
use Rattle.turnstile.specs.Passes.{Closed, shown}
use Rattle.turnstile.specs.Views.{PassModel}
use Rattle.turnstile.proofs.Passing.{closes}
use Rattle.turnstile.proofs.turnstile.Turnstile.close.Goals as goal

pub unwrap-requires : goal.unwrap-requires
unwrap-requires g c =
    let is = c.pass.view_is in
    let sound = c.pass.invariant in
    let value = closes g.V.Chronicle.history g.V.Chronicle.published g.V.Chronicle.names _ _ _ _ c.take-slot.result c.close_with-closed.ensures.values.2 c.take-slot.ensures.value sound.live
    (ap (λ (p : PassModel g.row.V-Entry.Denot). p.holds) is ∙ c.requires.idle)
    (ap (λ (p : PassModel g.row.V-Entry.Denot). p.number) is ∙ c.requires.first)
    sound.aside
    (subst (λ (p : PassModel g.row.V-Entry.Denot). (k : ℕ) → 0 < k → k < p.made → Contains p.joined k) (sym is) c.requires.joined) in
    subst IsSome (sym value.1) (search rules)

pub returns : goal.returns
returns g c =
    let is = c.pass.view_is in
    let sound = c.pass.invariant in
    let value = closes g.V.Chronicle.history g.V.Chronicle.published g.V.Chronicle.names _ _ _ _ c.take-slot.result c.close_with-closed.ensures.values.2 c.take-slot.ensures.value sound.live
    (ap (λ (p : PassModel g.row.V-Entry.Denot). p.holds) is ∙ c.requires.idle)
    (ap (λ (p : PassModel g.row.V-Entry.Denot). p.number) is ∙ c.requires.first)
    sound.aside
    (subst (λ (p : PassModel g.row.V-Entry.Denot). (k : ℕ) → 0 < k → k < p.made → Contains p.joined k) (sym is) c.requires.joined) in
    let same : value.0 ≡ c.unwrap.result = cc (value.1, c.unwrap.ensures) in
    let all : Closed g.V.Chronicle.history g.V.Chronicle.published c.args.pass c.unwrap.result =
    subst (λ (p : PassModel g.row.V-Entry.Denot). Closed g.V.Chronicle.history g.V.Chronicle.published p c.unwrap.result) is
    (subst (Closed g.V.Chronicle.history g.V.Chronicle.published (shown c.pass.inside.seat)) same (value.2 c.pass.inside.seat.table_id)) in
    record { history = all.whole; known = all.known; loads = all.loads; counted = all.counted }
