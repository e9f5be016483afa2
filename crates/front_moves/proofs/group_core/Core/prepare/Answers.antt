use Rattle.std.proofs.Common.{◌≡◌, ℕ, ◌≤◌, length, [], ◌∷◌, sym, ap, subst, ◌∙◌, arith}
use Rattle.back_core.specs.Link.{Link}
use Rattle.back_core.specs.Needs.{IsOfGroup}
use Rattle.front_model.specs.Face.{Face, outline_at, view}
use Rattle.front_model.specs.Stands.{Moved, IsQuiet}
use Rattle.front_moves.specs.Core.{CoreParts, face, IsFlushed, HasFlushedSome}
use Rattle.front_moves.proofs.AtBack.{did_for, good_then}
use Rattle.front_moves.proofs.Handing.{is_full, parts_one, parts_full}
use Rattle.front_moves.proofs.Faces.{pending_at}
use Rattle.front_moves.proofs.Flushing.{IsAtPlace, same_place}
use Rattle.front_moves.proofs.Preparing.{on_ok, on_ok_both, some_flushed, flushed_more, parted_more, few_flushed}
use Rattle.front_moves.proofs.group_core.Core.prepare.Goals as goal

-- the flush after the others were parted
both : (f h : Face) (s t u : Link) (index : ℕ) (g : Face) → HasFlushedSome f g s t → Moved h u (view g t) (outline_at g) (IsQuiet g t) → IsFlushed g h index → HasFlushedSome f h s u
both f h s t u index g first moved one = flushed_more f g h s t u first (some_flushed g h t u index moved one)

pub returns-then-len-ge-MOST_PENDING-clause-moved : goal.returns-then-len-ge-MOST_PENDING-clause-moved
returns-then-len-ge-MOST_PENDING-clause-moved g c =
    on_ok_both c.flush.result (λ m one. (both (face c.args.self.now) (face c.flush.new.self) (g.L.BackLink.state c.args.link.now) (g.L.BackLink.state c.part_others.new.link)
    (g.L.BackLink.state c.flush.new.link) c.args.index (face c.part_others.new.self) c.in-Ok.ensures.some m one).moved) c.flush.ensures.moved c.flush.ensures.flushed

pub returns-then-len-ge-MOST_PENDING-clause-flushed : goal.returns-then-len-ge-MOST_PENDING-clause-flushed
returns-then-len-ge-MOST_PENDING-clause-flushed g c =
    on_ok_both c.flush.result (λ m one. (both (face c.args.self.now) (face c.flush.new.self) (g.L.BackLink.state c.args.link.now) (g.L.BackLink.state c.part_others.new.link)
    (g.L.BackLink.state c.flush.new.link) c.args.index (face c.part_others.new.self) c.in-Ok.ensures.some m one).flushed) c.flush.ensures.moved c.flush.ensures.flushed

pub returns-then-len-ge-MOST_PENDING-clause-parted : goal.returns-then-len-ge-MOST_PENDING-clause-parted
returns-then-len-ge-MOST_PENDING-clause-parted g c =
    on_ok_both c.flush.result (λ m one. parted_more c.args.reads (face c.part_others.new.self) (face c.flush.new.self) c.args.index c.args.object
    (some_flushed (face c.part_others.new.self) (face c.flush.new.self) (g.L.BackLink.state c.part_others.new.link) (g.L.BackLink.state c.flush.new.link) c.args.index m one).flushed
    c.in-Ok.ensures.parted) c.flush.ensures.moved c.flush.ensures.flushed

pub returns-then-len-ge-MOST_PENDING-clause-few : goal.returns-then-len-ge-MOST_PENDING-clause-few
returns-then-len-ge-MOST_PENDING-clause-few g c =
    on_ok c.flush.result (few_flushed (face c.part_others.new.self) (face c.flush.new.self) c.args.index) c.flush.ensures.flushed

pub returns-then-len-ge-MOST_PENDING-clause-at_back : goal.returns-then-len-ge-MOST_PENDING-clause-at_back
returns-then-len-ge-MOST_PENDING-clause-at_back g c =
    let f : Face = face c.args.self.now in
    let h : Face = face c.part_others.new.self in
    let k : CoreParts = record { indexes = c.self.inside.indexes; pending = c.self.inside.pending; stores = c.self.inside.objects } in
    let here : IsAtPlace k (g.L.BackLink.state c.part_others.new.link) c.args.index c.place.result =
    same_place k c.part_others.new.self (g.L.BackLink.state c.part_others.new.link) c.args.index c.place.result c.self.view_is c.in-Ok.ensures.some.moved.holds
    (subst (λ n. IsOfGroup n c.args.index) (sym c.in-Ok.ensures.group) c.requires.group) c.place.ensures.place in
    let is : length (h.pending c.args.index) ≡ c.len.result =
    ap (λ (x : CoreParts). length ((face x).pending c.args.index)) (sym c.self.view_is) ∙ ap length (pending_at k.indexes.group k.pending c.args.index c.place.result here.own here.at) ∙ sym c.len.ensures in
    let many : 1024 ≤ length (h.pending c.args.index) = omega arith in
    good_then (omega arith) (parts_one f c.args.index c.args.object c.args.reads) (λ batch flush. parts_full f c.args.index ((c.args.object, c.args.reads) ∷ []) batch (is_full h c.args.index many batch flush))
    c.in-Ok.ensures.at_back c.flush.ensures.at_back

pub returns-clause-at_back : goal.returns-clause-at_back
returns-clause-at_back g c = did_for (omega arith) (parts_one (face c.args.self.now) c.args.index c.args.object c.args.reads) c.in-Ok.ensures.at_back

pub returns-in-Err-clause-at_back : goal.returns-in-Err-clause-at_back
returns-in-Err-clause-at_back g c = did_for (omega arith) (parts_one (face c.args.self.now) c.args.index c.args.object c.args.reads) c.in-Err.ensures.at_back
