use Rattle.std.proofs.Common.{ap, sym, ◌≡◌, ◌+◌, subst, ◌∙◌, refl, [], arith}
use Rattle.std.specs.Prelude.{slice_set}
use Rattle.vk_types.specs.declared.batches.Batch.{Batch}
use Rattle.queue_serials.specs.Indexes.{last_of, with_last}
use Rattle.back_core.specs.Link.{Link, put}
use Rattle.front_model.specs.Face.{Face}
use Rattle.front_model.specs.Steps.{IsNextBatch}
use Rattle.front_moves.specs.Core.{CoreParts, face, HasFlushed}
use Rattle.front_moves.proofs.Faces.{face_flushed}
use Rattle.front_moves.proofs.Flushing.{IsAtPlace, same_place, next_batch}
use Rattle.front_moves.specs.Reasons.{IsFlushOf}
use Rattle.front_moves.proofs.AtBack.{did_for, might_stop}
use Rattle.front_moves.proofs.group_core.Core.hand_over.Goals as goal
use Rattle.front_moves.proofs.group_core.Core.hand_over.Goals.{in-Ok, in-Err}

pub enqueue-requires : goal.enqueue-requires
enqueue-requires g c =
    let k : CoreParts = record { indexes = c.self.inside.indexes; pending = c.self.inside.pending; stores = c.self.inside.objects } in
    let s : Link = g.L.BackLink.state c.args.link.now in
    let batch : Batch = record { index = c.args.index; number = c.next-number.result; queue = 0; waits = c.of.result; signals = c.of-2.result; nodes = c.of-3.result; reason = c.args.reason } in
    let here : IsAtPlace k s c.args.index c.place-place.result = same_place k c.args.self.now s c.args.index c.place-place.result c.self.view_is c.requires.holds c.requires.group c.place-place.ensures.place in
    let next_ : IsNextBatch (face k) c.args.index batch = next_batch k c.args.index c.place-place.result batch here.own here.at refl c.next-number.ensures.number (c.of-3.ensures ∙ c.take.ensures.taken)
    (record { queue = refl; waits = c.of.ensures ∙ c.new.ensures.items; signals = c.of-2.ensures ∙ c.new-2.ensures.items }) in
    c.flush_comes_to.ensures.may k s c.args.index batch here.holds here.own next_

pub returns : goal.returns
returns g c =
    let k : CoreParts = record { indexes = c.self.inside.indexes; pending = c.self.inside.pending; stores = c.self.inside.objects } in
    let d : CoreParts = record { indexes = c.next-number.new.self; pending = c.take.new.self; stores = c.self.inside.objects } in
    let s : Link = g.L.BackLink.state c.args.link.now in
    let t : Link = g.L.BackLink.state c.enqueue.new.self in
    let batch : Batch = record { index = c.args.index; number = c.next-number.result; queue = 0; waits = c.of.result; signals = c.of-2.result; nodes = c.of-3.result; reason = c.args.reason } in
    let here : IsAtPlace k s c.args.index c.place-place.result = same_place k c.args.self.now s c.args.index c.place-place.result c.self.view_is c.requires.holds c.requires.group c.place-place.ensures.place in
    let next_ : IsNextBatch (face k) c.args.index batch = next_batch k c.args.index c.place-place.result batch here.own here.at refl c.next-number.ensures.number (c.of-3.ensures ∙ c.take.ensures.taken)
    (record { queue = refl; waits = c.of.ensures ∙ c.new.ensures.items; signals = c.of-2.ensures ∙ c.new-2.ensures.items }) in
    let table : c.next-number.new.self ≡ with_last k.indexes c.args.index c.next-number.result = c.next-number.ensures.table in
    let left : c.take.new.self ≡ slice_set k.pending c.place-place.result [] = c.take.ensures.left in
    let core : d ≡ record k { indexes = with_last k.indexes c.args.index c.next-number.result; pending = slice_set k.pending c.place-place.result [] } = cc in
    let group : (face d).group ≡ (face c.args.self.now).group = ap (λ (x : CoreParts). x.indexes.group) core ∙ ap (λ (x : CoreParts). x.indexes.group) c.self.view_is in
    let flush_of : IsFlushOf (face c.args.self.now) c.args.index c.args.reason batch =
    record { of_index = refl; number = next_.next ∙ ap (λ (x : CoreParts). (face x).last c.args.index + 1) c.self.view_is; all = next_.all ∙ ap (λ (x : CoreParts). (face x).pending c.args.index) c.self.view_is; for_reason = refl } in
    let why : (b : Batch) → b ≡ batch → IsFlushOf (face c.args.self.now) c.args.index c.args.reason b = λ b is. subst (IsFlushOf (face c.args.self.now) c.args.index c.args.reason) (sym is) flush_of in
    let last : (face d).last ≡ put (face c.args.self.now).last c.args.index ((face c.args.self.now).last c.args.index + 1) =
    subst (λ (x : CoreParts). (face d).last ≡ put (face x).last c.args.index ((face x).last c.args.index + 1)) c.self.view_is
    (ap (λ (f : Face). f.last) (face_flushed k d c.args.index c.place-place.result batch.number here.own here.at next_.next (ap (λ t. last_of t c.args.index) (sym table) ∙ c.next-number.ensures.last) core)) in
    elim c.match-enqueue.branch [
      | in-Ok w ↦
          let h : HasFlushed (face c.args.self.now) (face d) s t c.args.index = subst (λ x. HasFlushed (face x) (face d) s t c.args.index) c.self.view_is
          (c.flush_comes_to.ensures.batch k d s t c.args.index c.place-place.result batch here.holds here.own here.at next_ w.in-Ok.ensures.room c.next-number.ensures.last core w.in-Ok.ensures.ok) in
          rw w.result-is (record { moved = h.moved; flushed = h.flushed; last = last; group = group; log = h.log; link = (batch, w.in-Ok.ensures.ok); err = tt; cause = record { later = c.enqueue.ensures.faults; lost = λ e. absurd cc }; at_back = did_for (omega arith) why c.enqueue.ensures.at_back })
      | in-Err w ↦ rw w.result-is (record {
        moved = tt;
        flushed = tt;
        last = tt;
        group = group;
        log = tt;
        link = tt;
        err = rw w.in-Err.ensures.err (c.flush_comes_to.ensures.owns k s here.holds);
        cause = record { later = c.enqueue.ensures.faults; lost = λ e. absurd cc };
        at_back = might_stop (did_for (omega arith) why c.enqueue.ensures.at_back);
      })
    ]
