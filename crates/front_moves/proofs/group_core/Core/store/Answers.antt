use Rattle.std.proofs.Common.{length, Some, arith, rules}
use Rattle.std.proofs.lemmas.Result.{on_ok_weaker}
use Rattle.front_moves.specs.Core.{face}
use Rattle.back_core.specs.Frame.{NoBatch}
use Rattle.front_moves.proofs.AtBack.{did_for, handless_then}
use Rattle.front_moves.proofs.StoreLaws.{ended_none, stored_anew, stored_nothing}
use Rattle.front_moves.proofs.group_core.Core.store.Goals as goal

pub returns-then-is_empty-clause-moved : goal.returns-then-is_empty-clause-moved
returns-then-is_empty-clause-moved g c =
    stored_nothing (face c.args.self.now) (face c.end.new.self) (g.L.BackLink.state c.args.link.now) (g.L.BackLink.state c.end.new.link) c.args.buffer c.args.bytes.now c.if-is_empty.ensures c.end.ensures.moved

pub begin-requires-clause-none : goal.begin-requires-clause-none
begin-requires-clause-none g c = ended_none (face c.args.self.now) (face c.end.new.self) (g.L.BackLink.state c.args.link.now) (g.L.BackLink.state c.end.new.link) c.args.buffer c.end.ensures.moved

pub returns-in-Ok-clause-moved : goal.returns-in-Ok-clause-moved
returns-in-Ok-clause-moved g c =
    on_ok_weaker c.begin.result
    (stored_anew (face c.args.self.now) (face c.end.new.self) (face c.begin.new.self) (g.L.BackLink.state c.args.link.now) (g.L.BackLink.state c.end.new.link) (g.L.BackLink.state c.filled.new.link) (g.L.BackLink.state c.begin.new.link)
    c.args.buffer c.in-Ok.fresh.0 (length c.args.bytes.now) (Some c.args.bytes.now) (search rules) c.end.ensures.moved c.in-Ok.ensures.ok)
    c.begin.ensures.moved

pub returns-then-is_empty-clause-at_back : goal.returns-then-is_empty-clause-at_back
returns-then-is_empty-clause-at_back g c = did_for (omega arith) (λ batch may. may) c.end.ensures.at_back

pub returns-in-Ok-clause-at_back : goal.returns-in-Ok-clause-at_back
returns-in-Ok-clause-at_back g c =
    handless_then (omega arith) (handless_then {due = length c.args.bytes.now} {MayHand = NoBatch} (omega arith) c.end.ensures.at_back c.in-Ok.ensures.at_back) c.begin.ensures.at_back

pub returns-in-Err-clause-at_back : goal.returns-in-Err-clause-at_back
returns-in-Err-clause-at_back g c = handless_then (omega arith) c.end.ensures.at_back c.in-Err.ensures.at_back
