use Rattle.std.proofs.Common.{rules, ap, ◌∙◌}
use Rattle.turnstile.specs.Views.{PassModel}
use Rattle.turnstile.proofs.Sharing.{splits}
use Rattle.turnstile.proofs.turnstile.Turnstile.split.Goals as goal

pub split_seat-requires : goal.split_seat-requires
split_seat-requires g c =
    let is = c.pass.view_is in (
      search rules,
      search rules,
      splits _ _ _ _ _ c.pass.invariant.live (ap (λ (p : PassModel g.row.V-Entry.Denot). p.holds) is ∙ c.requires.idle) (ap (λ (p : PassModel g.row.V-Entry.Denot). p.number) is ∙ c.requires.first),
    )
