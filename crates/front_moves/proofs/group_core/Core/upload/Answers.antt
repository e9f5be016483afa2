use Rattle.std.proofs.Common.{length, [], ◌∷◌, arith, false}
use Rattle.std.proofs.lemmas.Result.{on_ok_weaker}
use Rattle.front_model.specs.declared.object.Object.TheVariants.{Buffer}
use Rattle.front_moves.specs.Core.{face}
use Rattle.front_moves.specs.Reasons.{IsParting}
use Rattle.front_moves.proofs.AtBack.{did_for, then_handless}
use Rattle.front_moves.proofs.MovesInTurn.{store_kept, upload_then}
use Rattle.front_moves.proofs.group_core.Core.upload.Goals as goal

pub record_upload-requires-clause-store : goal.record_upload-requires-clause-store
record_upload-requires-clause-store g c = (
  c.requires.store.0,
  store_kept (face c.args.self.now) (face c.prepare.new.self) (g.L.BackLink.state c.args.link.now) (g.L.BackLink.state c.prepare.new.link) c.args.buffer c.requires.store.0 c.in-Ok.ensures.moved c.requires.store.1,
  c.requires.store.2,
)

pub returns-in-Ok-staged-clause-moved : goal.returns-in-Ok-staged-clause-moved
returns-in-Ok-staged-clause-moved g c =
    on_ok_weaker c.record_upload.result
    (upload_then (face c.args.self.now) (face c.prepare.new.self) (face c.record_upload.new.self) (g.L.BackLink.state c.args.link.now) (g.L.BackLink.state c.prepare.new.link) (g.L.BackLink.state c.staged.new.link) (g.L.BackLink.state c.record_upload.new.link)
    c.args.buffer c.args.at c.in-Ok-staged.staging.handle.0 c.args.bytes.now c.in-Ok.ensures.moved c.in-Ok-staged.ensures.ok)
    c.record_upload.ensures.moved

pub returns-in-Ok-staged-clause-at_back : goal.returns-in-Ok-staged-clause-at_back
returns-in-Ok-staged-clause-at_back g c =
    then_handless (omega arith)
    (then_handless {due = length c.args.bytes.now} {MayHand = IsParting (face c.args.self.now) c.args.index ((Buffer c.args.buffer, false) ∷ [])} (omega arith) c.in-Ok.ensures.at_back c.in-Ok-staged.ensures.at_back)
    c.record_upload.ensures.at_back

pub returns-in-Err-staged-clause-at_back : goal.returns-in-Err-staged-clause-at_back
returns-in-Err-staged-clause-at_back g c = then_handless (omega arith) c.in-Ok.ensures.at_back c.in-Err-staged.ensures.at_back

pub returns-in-Err-clause-at_back : goal.returns-in-Err-clause-at_back
returns-in-Err-clause-at_back g c = did_for (omega arith) (λ batch may. may) c.in-Err.ensures.at_back
