use Rattle.std.proofs.Common.{◌==◌, false, sym, subst, arith}
use Rattle.std.specs.Prelude.{not}
use Rattle.std.proofs.lemmas.Result.{on_ok_weaker}
use Rattle.front_model.specs.declared.object.Object.TheVariants.{Buffer}
use Rattle.front_moves.specs.Core.{face, IsParted}
use Rattle.front_moves.proofs.AtBack.{did_for, might_stop, good_then}
use Rattle.front_moves.proofs.Handing.{first_parts, second_parts}
use Rattle.front_moves.proofs.MovesInTurn.{same_then, store_kept, copy_then}
use Rattle.front_moves.proofs.Preparing.{parted_more}
use Rattle.front_moves.proofs.group_core.Core.copy.Goals as goal

pub record_copy-requires-clause-source_parted : goal.record_copy-requires-clause-source_parted
record_copy-requires-clause-source_parted g c =
    subst (λ i. IsParted (not (c.args.src == c.args.dst)) (face c.prepare-in-Ok.new.self) i (Buffer c.args.src)) (sym c.next_serial-serial.ensures.index)
    (parted_more (not (c.args.src == c.args.dst)) (face c.prepare.new.self) (face c.prepare-in-Ok.new.self) c.args.index (Buffer c.args.src) c.in-Ok-prepare.ensures.flushed
    c.in-Ok.ensures.parted)

pub record_copy-requires-clause-parted : goal.record_copy-requires-clause-parted
record_copy-requires-clause-parted g c =
    subst (λ i. IsParted false (face c.prepare-in-Ok.new.self) i (Buffer c.args.dst)) (sym c.next_serial-serial.ensures.index) c.in-Ok-prepare.ensures.parted

pub record_copy-requires-clause-source : goal.record_copy-requires-clause-source
record_copy-requires-clause-source g c =
    let same = same_then (face c.args.self.now) (face c.prepare.new.self) (face c.prepare-in-Ok.new.self) (g.L.BackLink.state c.args.link.now) (g.L.BackLink.state c.prepare.new.link) (g.L.BackLink.state c.prepare-in-Ok.new.link) c.in-Ok.ensures.moved c.in-Ok-prepare.ensures.moved in (
      c.requires.source.0,
      store_kept (face c.args.self.now) (face c.prepare-in-Ok.new.self) (g.L.BackLink.state c.args.link.now) (g.L.BackLink.state c.prepare-in-Ok.new.link) c.args.src c.requires.source.0 same c.requires.source.1,
      c.requires.source.2,
    )

pub record_copy-requires-clause-target : goal.record_copy-requires-clause-target
record_copy-requires-clause-target g c =
    let same = same_then (face c.args.self.now) (face c.prepare.new.self) (face c.prepare-in-Ok.new.self) (g.L.BackLink.state c.args.link.now) (g.L.BackLink.state c.prepare.new.link) (g.L.BackLink.state c.prepare-in-Ok.new.link) c.in-Ok.ensures.moved c.in-Ok-prepare.ensures.moved in (
      c.requires.target.0,
      store_kept (face c.args.self.now) (face c.prepare-in-Ok.new.self) (g.L.BackLink.state c.args.link.now) (g.L.BackLink.state c.prepare-in-Ok.new.link) c.args.dst c.requires.target.0 same c.requires.target.1,
      c.requires.target.2,
    )

pub returns-in-Ok-prepare-clause-moved : goal.returns-in-Ok-prepare-clause-moved
returns-in-Ok-prepare-clause-moved g c =
    on_ok_weaker c.record_copy.result
    (copy_then (face c.args.self.now) (face c.prepare-in-Ok.new.self) (face c.record_copy.new.self) (g.L.BackLink.state c.args.link.now) (g.L.BackLink.state c.prepare-in-Ok.new.link) (g.L.BackLink.state c.prepare-in-Ok.new.link)
    c.args.src c.args.src_at c.args.dst c.args.dst_at c.args.size
    (same_then (face c.args.self.now) (face c.prepare.new.self) (face c.prepare-in-Ok.new.self) (g.L.BackLink.state c.args.link.now) (g.L.BackLink.state c.prepare.new.link) (g.L.BackLink.state c.prepare-in-Ok.new.link) c.in-Ok.ensures.moved c.in-Ok-prepare.ensures.moved))
    c.record_copy.ensures.moved

pub returns-in-Ok-prepare-clause-at_back : goal.returns-in-Ok-prepare-clause-at_back
returns-in-Ok-prepare-clause-at_back g c =
    might_stop (good_then (omega arith) (first_parts (face c.args.self.now) c.args.index (Buffer c.args.src, not (c.args.src == c.args.dst)) (Buffer c.args.dst, false))
    (second_parts (face c.args.self.now) (face c.prepare.new.self) c.args.index (Buffer c.args.src, not (c.args.src == c.args.dst)) (Buffer c.args.dst, false) c.in-Ok.ensures.flushed.objects) c.in-Ok.ensures.at_back c.in-Ok-prepare.ensures.at_back)

pub returns-in-Err-prepare-clause-at_back : goal.returns-in-Err-prepare-clause-at_back
returns-in-Err-prepare-clause-at_back g c =
    good_then (omega arith) (first_parts (face c.args.self.now) c.args.index (Buffer c.args.src, not (c.args.src == c.args.dst)) (Buffer c.args.dst, false))
    (second_parts (face c.args.self.now) (face c.prepare.new.self) c.args.index (Buffer c.args.src, not (c.args.src == c.args.dst)) (Buffer c.args.dst, false) c.in-Ok.ensures.flushed.objects) c.in-Ok.ensures.at_back c.in-Err-prepare.ensures.at_back

pub returns-in-Err-clause-at_back : goal.returns-in-Err-clause-at_back
returns-in-Err-clause-at_back g c = did_for (omega arith) (first_parts (face c.args.self.now) c.args.index (Buffer c.args.src, not (c.args.src == c.args.dst)) (Buffer c.args.dst, false)) c.in-Err.ensures.at_back
