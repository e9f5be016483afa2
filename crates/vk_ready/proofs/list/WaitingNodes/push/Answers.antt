use Rattle.std.proofs.Common.{◌≡◌, ◌++◌, [], ◌∷◌, length, sym, ◌∙◌, ap, subst, arith, length-append}
use Rattle.std.specs.Prelude.{Some, None}
use Rattle.std.proofs.lemmas.List.{get_or_append_left}
use Rattle.vk_ready.specs.Ready.{NodesAndRoom}
use Rattle.vk_ready.specs.Slots.{waiting_in, IsWatched}
use Rattle.vk_ready.specs.Filing.{AreLinked, IsFiled, AreAllFiled}
use Rattle.vk_ready.proofs.Watching.{gone_pushed, in_slot_within}
use Rattle.vk_ready.proofs.Buckets.{at_end, linked_before, both_linked}
use Rattle.vk_ready.proofs.Order.{pushed, few_waiting}
use Rattle.vk_ready.proofs.list.WaitingNodes.push.Goals as goal

pub overflow_add-self : goal.overflow_add-self
overflow_add-self c =
    let few = few_waiting c.self.inside.slots.items in
    let count = c.self.invariant.2 in
    omega (arith, few, count)

pub invariant_of-self : goal.invariant_of-self
invariant_of-self c =
    let w = c.self.inside in
    let n = c.watch_next.new.watch in
    let more = pushed w.slots.items c.args.node in
    let longer = length-append (waiting_in w.slots.items) (c.args.node ∷ []) in
    let count = c.self.invariant.2 in
    rw (c.push_reserved.ensures.items) (
      subst (λ l. IsWatched (l ++ Some c.args.node ∷ []) n.holders.items n.ends.items n.ready.slots 0 0 0) c.as_slice-slots.ensures.value c.watch_next.ensures.kept,
      gone_pushed w.slots.items (Some c.args.node) w.first c.self.invariant.1 (omega arith),
      omega (arith, count, longer, ap length more),
      (let room = ap (λ (v : NodesAndRoom). v.room) c.self.view_is in let kept = c.watch_next.ensures.ready in omega (arith, room, kept, c.requires)),
      omega arith,
      c.watch_next.ensures.starts,
      c.file.ensures.filed w.slots.items c.self.invariant.6,
      (let room = ap (λ (v : NodesAndRoom). v.room) c.self.view_is in let heads = c.file.ensures.heads in omega (arith, room, heads, c.requires)),
    )

pub returns-clause-nodes : goal.returns-clause-nodes
returns-clause-nodes c =
    ap waiting_in c.push_reserved.ensures.items ∙ pushed c.self.inside.slots.items c.args.node ∙ ap (λ (v : NodesAndRoom). v.nodes ++ c.args.node ∷ []) c.self.view_is

pub file-requires-clause-room : goal.file-requires-clause-room
file-requires-clause-room c = let room = ap (λ (v : NodesAndRoom). v.room) c.self.view_is in let size = c.self.invariant.6.size in omega (arith, room, size, c.requires)

pub file-requires-clause-some : goal.file-requires-clause-some
file-requires-clause-some c = let room = ap (λ (v : NodesAndRoom). v.room) c.self.view_is in omega (arith, room, c.requires)

pub last_holder-holder-requires-clause-fits : goal.last_holder-holder-requires-clause-fits
last_holder-holder-requires-clause-fits c =
    let size = c.self.invariant.6.size in let more = c.file.ensures.size in let same = ap length c.as_slice-slots.ensures.value in omega (arith, size, more, same)

pub last_holder-holder-requires-clause-slot_fits : goal.last_holder-holder-requires-clause-slot_fits
last_holder-holder-requires-clause-slot_fits c =
    let size = c.self.invariant.6.size in let more = c.file.ensures.size in omega (arith, size, more)

pub last_holder-holder-requires-clause-linked : goal.last_holder-holder-requires-clause-linked
last_holder-holder-requires-clause-linked c = λ b.
    let slots = c.self.inside.slots.items in let n = c.file.new.links in
    let filed = c.file.ensures.filed slots c.self.invariant.6 in
    subst (λ l. AreLinked b l n.filed.items) (sym c.as_slice-slots.ensures.value)
    (linked_before b slots (Some c.args.node) n.filed.items (both_linked (slots ++ Some c.args.node ∷ []) n.heads.items n.barriers.items n.filed.items filed b))

pub file-requires-clause-barriers : goal.file-requires-clause-barriers
file-requires-clause-barriers c = c.self.invariant.6.heads_size

pub last_holder-holder-requires-clause-all : goal.last_holder-holder-requires-clause-all
last_holder-holder-requires-clause-all c =
    let slots = c.self.inside.slots.items in let n = c.file.new.links in
    let filed = c.file.ensures.filed slots c.self.invariant.6 in
    subst (λ l. AreAllFiled l n.filed.items (length n.heads.items)) (sym c.as_slice-slots.ensures.value)
    (λ k x at. filed.all k x (get_or_append_left slots (Some c.args.node ∷ []) None k (in_slot_within slots k x at) ∙ at))

pub last_holder-holder-requires-clause-filed : goal.last_holder-holder-requires-clause-filed
last_holder-holder-requires-clause-filed c =
    let slots = c.self.inside.slots.items in let n = c.file.new.links in
    let filed = c.file.ensures.filed slots c.self.invariant.6 in
    let slot_is : length slots ≡ c.len-slot.result = omega arith in
    subst (λ k. IsFiled n.filed.items (length n.heads.items) k c.args.node) slot_is (filed.all (length slots) c.args.node (at_end slots (Some c.args.node) None))
