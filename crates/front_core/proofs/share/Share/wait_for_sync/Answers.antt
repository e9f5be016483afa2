use Rattle.std.proofs.Common.{true, refl, arith}
use Rattle.std.specs.Prelude.{is_err}
use Rattle.std.proofs.lemmas.Bool.{false≢true}
use Rattle.back_core.proofs.Frames.{then_within, no_batch}
use Rattle.front_moves.specs.Core.{face}
use Rattle.front_core.specs.Economy.{IsForSync}
use Rattle.front_core.proofs.SyncMoves.{ok_map, stays_then}
use Rattle.front_core.proofs.share.Share.wait_for_sync.Goals as goal

pub returns-in-Ok-clause-stays : goal.returns-in-Ok-clause-stays
returns-in-Ok-clause-stays g c =
    ok_map c.wait_for.result (stays_then (face c.args.self.now.core) (face c.hand_over_for.new.self.core) (face c.hand_over_for.new.self.core) (g.L.BackLink.state c.args.link.now) (g.L.BackLink.state c.hand_over_for.new.link) (g.L.BackLink.state c.wait_for.new.link)
    c.in-Ok.ensures.stays) c.wait_for.ensures.moved

pub returns-in-Ok-clause-at_back : goal.returns-in-Ok-clause-at_back
returns-in-Ok-clause-at_back g c =
    then_within 0 true (is_err c.wait_for.result) (IsForSync c.args.serial) (omega arith) (λ on. refl) (λ on. refl) (λ on. absurd (false≢true on)) (λ on. on) (λ batch may. may) (no_batch (IsForSync c.args.serial))
    c.in-Ok.ensures.at_back c.wait_for.ensures.at_back
