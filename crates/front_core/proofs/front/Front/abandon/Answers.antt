use Rattle.std.proofs.Common.{sym, subst}
use Rattle.front_model.specs.Stands.{Owns}
use Rattle.front_moves.specs.Core.{face}
use Rattle.front_core.specs.Front.{FrontModel}
use Rattle.front_core.proofs.front.Front.abandon.Goals as goal

pub abandon-requires : goal.abandon-requires
abandon-requires g c = record { owns = subst (λ (f : FrontModel). Owns (face f.core).objects (g.L.BackLink.state c.args.link.now)) (sym c.self.view_is) c.requires.owns }
