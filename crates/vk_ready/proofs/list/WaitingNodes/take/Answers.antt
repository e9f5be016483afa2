use Rattle.std.proofs.Common.{◌≡◌, ℕ, ◌+◌, ◌<◌, length, get_or, set, min, false, sym, ◌∙◌, ap, subst, arith}
use Rattle.std.specs.Prelude.{Some, None, slice_get}
use Rattle.std.specs.List.{remove}
use Rattle.std.proofs.lemmas.List.{get_or_default}
use Rattle.std.proofs.lemmas.List.Edits.{length-remove}
use Rattle.std.proofs.lemmas.Option.{slice_get_within}
use Rattle.vk_ready.specs.declared.nodes.WaitingNode.{WaitingNode}
use Rattle.vk_ready.specs.Ready.{NodesAndRoom, edge, ready_place, ready_places}
use Rattle.vk_ready.specs.Slots.{in_slot, waiting_in, AreGone, IsWatched}
use Rattle.vk_ready.specs.Filing.{AreFiled}
use Rattle.vk_ready.proofs.Buckets.{filed_emptied}
use Rattle.vk_ready.proofs.Watching.{gone_on, emptied, watched_left}
use Rattle.vk_ready.proofs.Order.{ready_total, taken_at, IsTaken, at_rank, without, rank}
use Rattle.vk_ready.proofs.list.WaitingNodes.take.Goals as goal

pub withdraw-slot-requires : goal.withdraw-slot-requires
withdraw-slot-requires c =
    let w = c.self.inside in
    let count : length w.watch.ready.slots ≡ length (ready_places c.args.self.now.nodes) = ready_total w.slots.items w.watch.holders.items w.watch.ends.items w.watch.ready.slots c.self.invariant.0 ∙ ap (λ (v : NodesAndRoom). length (ready_places v.nodes)) c.self.view_is in
    subst (λ n. c.args.number < n) (sym count) c.requires

pub index_mut-requires : goal.index_mut-requires
index_mut-requires c =
    let w = c.self.inside in
    let count : length w.watch.ready.slots ≡ length (ready_places c.args.self.now.nodes) = ready_total w.slots.items w.watch.holders.items w.watch.ends.items w.watch.ready.slots c.self.invariant.0 ∙ ap (λ (v : NodesAndRoom). length (ready_places v.nodes)) c.self.view_is in
    let taken : IsTaken w.slots.items w.watch.holders.items w.watch.ends.items w.watch.ready.slots c.args.number c.withdraw-slot.result =
    taken_at w.slots.items w.watch.holders.items w.watch.ends.items w.watch.ready.slots c.self.invariant.0 c.args.number c.withdraw-slot.result (subst (λ n. c.args.number < n) (sym count) c.requires) c.withdraw-slot.ensures.slot in
    let inside = taken.inside in
    omega (arith, inside)

pub unreachable-requires : goal.unreachable-requires
unreachable-requires c =
    let w = c.self.inside in
    let count : length w.watch.ready.slots ≡ length (ready_places c.args.self.now.nodes) = ready_total w.slots.items w.watch.holders.items w.watch.ends.items w.watch.ready.slots c.self.invariant.0 ∙ ap (λ (v : NodesAndRoom). length (ready_places v.nodes)) c.self.view_is in
    let taken : IsTaken w.slots.items w.watch.holders.items w.watch.ends.items w.watch.ready.slots c.args.number c.withdraw-slot.result =
    taken_at w.slots.items w.watch.holders.items w.watch.ends.items w.watch.ready.slots c.self.invariant.0 c.args.number c.withdraw-slot.result (subst (λ n. c.args.number < n) (sym count) c.requires) c.withdraw-slot.ensures.slot in
    let read : c.index_mut.result.now ≡ in_slot w.slots.items c.withdraw-slot.result = c.index_mut.ensures.value ∙ get_or_default w.slots.items c.withdraw-slot.result c.index_mut.result.now None taken.inside in
    let none : None ≡ Some taken.offered.node = sym c.in-None.is ∙ c.replace.ensures.value ∙ read ∙ taken.offered.at in
    cc

pub index-requires : goal.index-requires
index-requires c =
    let w = c.self.inside in
    let count : length w.watch.ready.slots ≡ length (ready_places c.args.self.now.nodes) = ready_total w.slots.items w.watch.holders.items w.watch.ends.items w.watch.ready.slots c.self.invariant.0 ∙ ap (λ (v : NodesAndRoom). length (ready_places v.nodes)) c.self.view_is in
    let taken : IsTaken w.slots.items w.watch.holders.items w.watch.ends.items w.watch.ready.slots c.args.number c.withdraw-slot.result =
    taken_at w.slots.items w.watch.holders.items w.watch.ends.items w.watch.ready.slots c.self.invariant.0 c.args.number c.withdraw-slot.result (subst (λ n. c.args.number < n) (sym count) c.requires) c.withdraw-slot.ensures.slot in
    let inside = taken.inside in
    let size = c.self.invariant.0.ends_size in
    omega (arith, inside, size)

pub first_waiting-self-inside-requires-clause-gone : goal.first_waiting-self-inside-requires-clause-gone
first_waiting-self-inside-requires-clause-gone c =
    let w = c.self.inside in
    let after : set w.slots.items c.withdraw-slot.result c.replace.new.dest ≡ set w.slots.items c.withdraw-slot.result None = ap (set w.slots.items c.withdraw-slot.result) c.replace.ensures.after in
    subst (λ l. AreGone l w.first) (sym (c.as_slice.ensures.value ∙ after)) (gone_on w.slots.items c.withdraw-slot.result w.first c.self.invariant.1)

pub release-requires-clause-empty : goal.release-requires-clause-empty
release-requires-clause-empty c =
    let w = c.self.inside in
    let after : set w.slots.items c.withdraw-slot.result c.replace.new.dest ≡ set w.slots.items c.withdraw-slot.result None = ap (set w.slots.items c.withdraw-slot.result) c.replace.ensures.after in
    subst (λ l. in_slot l c.withdraw-slot.result ≡ None) (sym (c.as_slice-2.ensures.value ∙ after)) (emptied w.slots.items c.withdraw-slot.result)

pub release-requires-clause-filed : goal.release-requires-clause-filed
release-requires-clause-filed c =
    let w = c.self.inside in
    let after : set w.slots.items c.withdraw-slot.result c.replace.new.dest ≡ set w.slots.items c.withdraw-slot.result None = ap (set w.slots.items c.withdraw-slot.result) c.replace.ensures.after in
    subst (λ l. AreFiled l w.links.heads.items w.links.barriers.items w.links.filed.items) (sym (c.as_slice-2.ensures.value ∙ after)) (filed_emptied w.slots.items w.links.heads.items w.links.barriers.items w.links.filed.items c.withdraw-slot.result c.self.invariant.6)

pub release-requires-clause-gone : goal.release-requires-clause-gone
release-requires-clause-gone c =
    subst (λ l. AreGone l c.first_waiting-self-inside.result) (c.as_slice.ensures.value ∙ sym c.as_slice-2.ensures.value) c.first_waiting-self-inside.ensures.gone

pub release-requires-clause-few : goal.release-requires-clause-few
release-requires-clause-few c =
    let w = c.self.inside in
    let count : length w.watch.ready.slots ≡ length (ready_places c.args.self.now.nodes) = ready_total w.slots.items w.watch.holders.items w.watch.ends.items w.watch.ready.slots c.self.invariant.0 ∙ ap (λ (v : NodesAndRoom). length (ready_places v.nodes)) c.self.view_is in
    let taken : IsTaken w.slots.items w.watch.holders.items w.watch.ends.items w.watch.ready.slots c.args.number c.withdraw-slot.result =
    taken_at w.slots.items w.watch.holders.items w.watch.ends.items w.watch.ready.slots c.self.invariant.0 c.args.number c.withdraw-slot.result (subst (λ n. c.args.number < n) (sym count) c.requires) c.withdraw-slot.ensures.slot in
    let inside = taken.inside in
    let size = c.as_slice-2.ensures.len in
    omega (arith, inside, size)

pub release-requires-clause-kept : goal.release-requires-clause-kept
release-requires-clause-kept c =
    let w = c.self.inside in
    let count : length w.watch.ready.slots ≡ length (ready_places c.args.self.now.nodes) = ready_total w.slots.items w.watch.holders.items w.watch.ends.items w.watch.ready.slots c.self.invariant.0 ∙ ap (λ (v : NodesAndRoom). length (ready_places v.nodes)) c.self.view_is in
    let taken : IsTaken w.slots.items w.watch.holders.items w.watch.ends.items w.watch.ready.slots c.args.number c.withdraw-slot.result =
    taken_at w.slots.items w.watch.holders.items w.watch.ends.items w.watch.ready.slots c.self.invariant.0 c.args.number c.withdraw-slot.result (subst (λ n. c.args.number < n) (sym count) c.requires) c.withdraw-slot.ensures.slot in
    let after : set w.slots.items c.withdraw-slot.result c.replace.new.dest ≡ set w.slots.items c.withdraw-slot.result None = ap (set w.slots.items c.withdraw-slot.result) c.replace.ensures.after in
    let inside = taken.inside in
    let size = c.self.invariant.0.ends_size in
    let slot_inside : c.withdraw-slot.result < length w.watch.ends.items = omega (arith, inside, size) in
    let end_at : c.index.result.now ≡ get_or w.watch.ends.items c.withdraw-slot.result 0 = c.index.ensures ∙ get_or_default w.watch.ends.items c.withdraw-slot.result c.index.result.now 0 slot_inside in
    let all : c.len.result ≡ length w.slots.items = omega arith in
    let end_is : c.min-end.result ≡ min (get_or w.watch.ends.items c.withdraw-slot.result 0) (length w.slots.items) = c.min-end.ensures ∙ ap (λ n. min n c.len.result) end_at ∙ ap (min (get_or w.watch.ends.items c.withdraw-slot.result 0)) all in
    subst (λ l. IsWatched l w.watch.holders.items w.watch.ends.items c.withdraw-slot.new.self.slots c.withdraw-slot.result (c.withdraw-slot.result + 1) c.min-end.result) (sym (c.as_slice-2.ensures.value ∙ after))
    (watched_left w.slots.items w.watch.holders.items w.watch.ends.items w.watch.ready.slots c.self.invariant.0 c.withdraw-slot.result taken.has c.min-end.result end_is c.withdraw-slot.new.self.slots c.withdraw-slot.ensures.rises c.withdraw-slot.ensures.others)

pub invariant_of-self : goal.invariant_of-self
invariant_of-self c =
    let w = c.self.inside in
    let count : length w.watch.ready.slots ≡ length (ready_places c.args.self.now.nodes) = ready_total w.slots.items w.watch.holders.items w.watch.ends.items w.watch.ready.slots c.self.invariant.0 ∙ ap (λ (v : NodesAndRoom). length (ready_places v.nodes)) c.self.view_is in
    let taken : IsTaken w.slots.items w.watch.holders.items w.watch.ends.items w.watch.ready.slots c.args.number c.withdraw-slot.result =
    taken_at w.slots.items w.watch.holders.items w.watch.ends.items w.watch.ready.slots c.self.invariant.0 c.args.number c.withdraw-slot.result (subst (λ n. c.args.number < n) (sym count) c.requires) c.withdraw-slot.ensures.slot in
    let after : set w.slots.items c.withdraw-slot.result c.replace.new.dest ≡ set w.slots.items c.withdraw-slot.result None = ap (set w.slots.items c.withdraw-slot.result) c.replace.ensures.after in
    let n = c.release.new.watch in
    let least : rank w.slots.items c.withdraw-slot.result < length (waiting_in w.slots.items) = slice_get_within (waiting_in w.slots.items) (rank w.slots.items c.withdraw-slot.result) taken.offered.node (at_rank w.slots.items c.withdraw-slot.result taken.offered.node taken.offered.at) in
    let fewer : length (remove (waiting_in w.slots.items) (rank w.slots.items c.withdraw-slot.result)) + 1 ≡ length (waiting_in w.slots.items) = length-remove (waiting_in w.slots.items) (rank w.slots.items c.withdraw-slot.result) least in
    let left : waiting_in (set w.slots.items c.withdraw-slot.result c.replace.new.dest) ≡ remove (waiting_in w.slots.items) (rank w.slots.items c.withdraw-slot.result) = ap waiting_in after ∙ without w.slots.items c.withdraw-slot.result taken.offered.node taken.offered.at in
    let counted = c.self.invariant.2 in (
      subst (λ l. IsWatched l n.holders.items n.ends.items n.ready.slots 0 0 0) c.as_slice-2.ensures.value c.release.ensures.kept,
      subst (λ l. AreGone l c.first_waiting-self-inside.result) c.as_slice.ensures.value c.first_waiting-self-inside.ensures.gone,
      omega (arith, fewer, counted, ap length left),
      omega arith,
      omega arith,
      c.release.ensures.starts,
      subst (λ l. AreFiled l w.links.heads.items w.links.barriers.items w.links.filed.items) (sym after) (filed_emptied w.slots.items w.links.heads.items w.links.barriers.items w.links.filed.items c.withdraw-slot.result c.self.invariant.6),
      (let few = c.self.invariant.7 in omega (arith, few)),
    )

pub returns-clause-node : goal.returns-clause-node
returns-clause-node c =
    let w = c.self.inside in
    let count : length w.watch.ready.slots ≡ length (ready_places c.args.self.now.nodes) = ready_total w.slots.items w.watch.holders.items w.watch.ends.items w.watch.ready.slots c.self.invariant.0 ∙ ap (λ (v : NodesAndRoom). length (ready_places v.nodes)) c.self.view_is in
    let taken : IsTaken w.slots.items w.watch.holders.items w.watch.ends.items w.watch.ready.slots c.args.number c.withdraw-slot.result =
    taken_at w.slots.items w.watch.holders.items w.watch.ends.items w.watch.ready.slots c.self.invariant.0 c.args.number c.withdraw-slot.result (subst (λ n. c.args.number < n) (sym count) c.requires) c.withdraw-slot.ensures.slot in
    let read : c.index_mut.result.now ≡ in_slot w.slots.items c.withdraw-slot.result = c.index_mut.ensures.value ∙ get_or_default w.slots.items c.withdraw-slot.result c.index_mut.result.now None taken.inside in
    let both : Some c.in-Some.node ≡ Some taken.offered.node = sym c.in-Some.is ∙ c.replace.ensures.value ∙ read ∙ taken.offered.at in
    let node_is : taken.offered.node ≡ c.in-Some.node = cc in
    subst (λ (v : NodesAndRoom). slice_get v.nodes (ready_place v.nodes c.args.number) ≡ Some c.in-Some.node) c.self.view_is
    (ap (slice_get (waiting_in w.slots.items)) taken.place ∙ at_rank w.slots.items c.withdraw-slot.result taken.offered.node taken.offered.at ∙ ap Some node_is)

pub returns-clause-others : goal.returns-clause-others
returns-clause-others c =
    let w = c.self.inside in
    let count : length w.watch.ready.slots ≡ length (ready_places c.args.self.now.nodes) = ready_total w.slots.items w.watch.holders.items w.watch.ends.items w.watch.ready.slots c.self.invariant.0 ∙ ap (λ (v : NodesAndRoom). length (ready_places v.nodes)) c.self.view_is in
    let taken : IsTaken w.slots.items w.watch.holders.items w.watch.ends.items w.watch.ready.slots c.args.number c.withdraw-slot.result =
    taken_at w.slots.items w.watch.holders.items w.watch.ends.items w.watch.ready.slots c.self.invariant.0 c.args.number c.withdraw-slot.result (subst (λ n. c.args.number < n) (sym count) c.requires) c.withdraw-slot.ensures.slot in
    let after : set w.slots.items c.withdraw-slot.result c.replace.new.dest ≡ set w.slots.items c.withdraw-slot.result None = ap (set w.slots.items c.withdraw-slot.result) c.replace.ensures.after in
    subst (λ (v : NodesAndRoom). waiting_in (set w.slots.items c.withdraw-slot.result c.replace.new.dest) ≡ remove v.nodes (ready_place v.nodes c.args.number)) c.self.view_is
    (ap waiting_in after ∙ without w.slots.items c.withdraw-slot.result taken.offered.node taken.offered.at ∙ ap (remove (waiting_in w.slots.items)) (sym taken.place))

pub returns-clause-ready : goal.returns-clause-ready
returns-clause-ready c =
    let w = c.self.inside in
    let count : length w.watch.ready.slots ≡ length (ready_places c.args.self.now.nodes) = ready_total w.slots.items w.watch.holders.items w.watch.ends.items w.watch.ready.slots c.self.invariant.0 ∙ ap (λ (v : NodesAndRoom). length (ready_places v.nodes)) c.self.view_is in
    let taken : IsTaken w.slots.items w.watch.holders.items w.watch.ends.items w.watch.ready.slots c.args.number c.withdraw-slot.result =
    taken_at w.slots.items w.watch.holders.items w.watch.ends.items w.watch.ready.slots c.self.invariant.0 c.args.number c.withdraw-slot.result (subst (λ n. c.args.number < n) (sym count) c.requires) c.withdraw-slot.ensures.slot in
    let read : c.index_mut.result.now ≡ in_slot w.slots.items c.withdraw-slot.result = c.index_mut.ensures.value ∙ get_or_default w.slots.items c.withdraw-slot.result c.index_mut.result.now None taken.inside in
    let both : Some c.in-Some.node ≡ Some taken.offered.node = sym c.in-Some.is ∙ c.replace.ensures.value ∙ read ∙ taken.offered.at in
    let node_is : taken.offered.node ≡ c.in-Some.node = cc in
    subst (λ (v : NodesAndRoom). (j : ℕ) (x : WaitingNode) → j < ready_place v.nodes c.args.number → slice_get v.nodes j ≡ Some x → edge x c.in-Some.node ≡ false) c.self.view_is
    (λ j x lt at. subst (λ y. edge x y ≡ false) node_is (taken.free j x (subst (λ n. j < n) taken.place lt) at))
