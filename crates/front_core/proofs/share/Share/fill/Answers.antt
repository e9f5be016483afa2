use Rattle.front_model.specs.declared.object.Object.TheVariants.{Buffer}
use Rattle.front_moves.specs.Core.{face}
use Rattle.front_core.proofs.DataCalls.{on_ok}
use Rattle.std.proofs.Common.{false, [], ◌∷◌, length}
use Rattle.back_core.proofs.Frames.{no_batch}
use Rattle.front_moves.specs.Reasons.{IsParting}
use Rattle.front_core.proofs.AtTheBack.{nothing_done, may_hand}
use Rattle.front_core.proofs.share.Share.fill.Goals as goal

pub returns-then-bytes-size-clause-filled : goal.returns-then-bytes-size-clause-filled
returns-then-bytes-size-clause-filled g c =
    on_ok c.store.result
    (c.buffers_are_filled.ensures.store (face c.args.self.now.core) (face c.store.new.self) (g.L.BackLink.state c.args.link.now) (g.L.BackLink.state c.store.new.link) c.args.buffer c.args.size c.args.at c.args.bytes.now c.requires.store c.if-at-eq0.true c.if-bytes-size.true)
    c.store.ensures.moved

pub returns-else-at-eq0-clause-filled : goal.returns-else-at-eq0-clause-filled
returns-else-at-eq0-clause-filled g c =
    on_ok c.upload.result
    (c.buffers_are_filled.ensures.upload (face c.args.self.now.core) (face c.upload.new.self) (g.L.BackLink.state c.args.link.now) (g.L.BackLink.state c.upload.new.link) c.args.buffer c.args.size c.args.at c.args.bytes.now)
    c.upload.ensures.moved

pub returns-then-is_empty-clause-at_back : goal.returns-then-is_empty-clause-at_back
returns-then-is_empty-clause-at_back g c =
    nothing_done (g.L.BackLink.state c.args.link.now) (g.L.BackLink.told c.args.link.now) (length c.args.bytes.now) false false (IsParting (face c.args.self.now.core) c.args.index ((Buffer c.args.buffer, false) ∷ []))

pub returns-then-bytes-size-clause-at_back : goal.returns-then-bytes-size-clause-at_back
returns-then-bytes-size-clause-at_back g c =
    may_hand (IsParting (face c.args.self.now.core) c.args.index ((Buffer c.args.buffer, false) ∷ [])) (no_batch (IsParting (face c.args.self.now.core) c.args.index ((Buffer c.args.buffer, false) ∷ []))) c.store.ensures.at_back
