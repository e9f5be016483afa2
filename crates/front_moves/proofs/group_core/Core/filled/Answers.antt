use Rattle.std.proofs.Common.{length, rules, arith}
use Rattle.vk_types.specs.declared.handles.Kind.TheVariants as kind
use Rattle.back_core.specs.Frame.{NoBatch}
use Rattle.front_moves.specs.Core.{face}
use Rattle.front_moves.proofs.AtBack.{did_for, handless_then, then_quietly}
use Rattle.front_moves.proofs.group_core.Core.filled.Goals as goal

pub write_host-requires : goal.write_host-requires
write_host-requires g c =
    rw c.id.ensures (c.filled_comes_to.ensures.may (face c.args.self.now) (g.L.BackLink.state c.args.link.now) (g.L.BackLink.state c.blank.new.link) c.in-Ok.handle.0 (length c.args.bytes.now) c.in-Ok.ensures.ok c.requires.some)

pub abandon-requires : goal.abandon-requires
abandon-requires g c =
    rw c.in-Err-write_host.ensures.err (c.filled_comes_to.ensures.held (face c.args.self.now) (g.L.BackLink.state c.blank.new.link) c.in-Ok.handle.0 (kind.Buffer (length c.args.bytes.now)) c.in-Ok.ensures.ok.holds)

pub returns-in-Ok-write_host-clause-ok : goal.returns-in-Ok-write_host-clause-ok
returns-in-Ok-write_host-clause-ok g c =
    rw (c.in-Ok-write_host.ensures.ok, c.id.ensures)
    (c.filled_comes_to.ensures.written (face c.args.self.now) (g.L.BackLink.state c.args.link.now) (g.L.BackLink.state c.blank.new.link) c.in-Ok.handle.0 c.args.bytes.now c.in-Ok.ensures.ok (search rules))

pub returns-in-Err-write_host-clause-err : goal.returns-in-Err-write_host-clause-err
returns-in-Err-write_host-clause-err g c =
    rw (c.abandon.ensures.state, c.in-Err-write_host.ensures.err) (c.filled_comes_to.ensures.let_go (face c.args.self.now) (g.L.BackLink.state c.blank.new.link) c.in-Ok.handle.0 (kind.Buffer (length c.args.bytes.now)) c.in-Ok.ensures.ok.holds)

pub returns-in-Ok-write_host-clause-at_back : goal.returns-in-Ok-write_host-clause-at_back
returns-in-Ok-write_host-clause-at_back g c = handless_then (omega arith) c.in-Ok.ensures.at_back c.in-Ok-write_host.ensures.at_back

pub returns-in-Err-write_host-clause-at_back : goal.returns-in-Err-write_host-clause-at_back
returns-in-Err-write_host-clause-at_back g c =
    then_quietly (omega arith) (λ batch may. may) (λ batch may. may)
    (handless_then {due = length c.args.bytes.now} {MayHand = NoBatch} (omega arith) c.in-Ok.ensures.at_back c.in-Err-write_host.ensures.at_back) c.abandon.ensures.at_back

pub returns-in-Err-clause-at_back : goal.returns-in-Err-clause-at_back
returns-in-Err-clause-at_back g c = did_for (omega arith) (λ batch may. may) c.in-Err.ensures.at_back
