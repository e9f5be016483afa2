use Rattle.std.proofs.Common.{rules, ap, ◌∙◌}
use Rattle.turnstile.proofs.Turning.{gains_as}
use Rattle.turnstile.proofs.turnstile.Turnstile.gain.Goals as goal

pub compare_exchange-requires : goal.compare_exchange-requires
compare_exchange-requires g c =
    let same = c.loop.invariant.1 in (
      search rules,
      search rules,
      gains_as _ _ _ _ _ c.loop.seat.me (ap (λ m. m.1) same ∙ c.requires.2) (ap (λ m. m.0.live) same ∙ c.requires.1),
    )
