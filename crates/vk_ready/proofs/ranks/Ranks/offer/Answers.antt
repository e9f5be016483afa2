use Rattle.std.proofs.Common.{◌≡◌, ℕ, ◌+◌, length, get_or, insert, refl, sym, ◌∙◌, ap, subst, arith}
use Rattle.std.specs.Prelude.{◌⊎◌, ◌↔◌}
use Rattle.std.proofs.lemmas.List.{get_or_default}
use Rattle.vk_ready.specs.Slots.{Has}
use Rattle.vk_ready.specs.Halves.{SlotsAndRoom, count_below, middle, AreRanked}
use Rattle.vk_ready.proofs.Halves.{count_most, moved_in, one_more, middle_within, half_is, walk_begins, walk_first, walk_second, few_slots_yet, has_offered, ranked_offered, ranked_slots, ranked_again}
use Rattle.vk_ready.proofs.ranks.Ranks.offer.Goals as goal

pub loop-high-init : goal.loop-high-init
loop-high-init c =
    let slots = c.args.self.now.slots in let halves = c.self.inside.halves.items in
    let a = subst (λ (v : SlotsAndRoom). AreRanked halves c.self.inside.count v.slots) c.self.view_is c.self.invariant in
    let room = ap (λ (v : SlotsAndRoom). v.room) c.self.view_is in record {
      count = refl;
      walked = walk_begins slots (insert slots (count_below slots c.args.slot) c.args.slot) c.args.slot (length halves) halves c.len-high.result refl (omega arith) (omega (arith, room, c.requires.inside)) a.counted;
    }

pub overflow_add-index_mut : goal.overflow_add-index_mut
overflow_add-index_mut c =
    let slots = c.args.self.now.slots in let old = c.self.inside.halves.items in let halves = c.loop-high.self-inside.halves.items in
    let a = subst (λ (v : SlotsAndRoom). AreRanked old c.self.inside.count v.slots) c.self.view_is c.self.invariant in
    let room = ap (λ (v : SlotsAndRoom). v.room) c.self.view_is in
    let w = c.loop-high.invariant.walked in
    let low = c.loop-high.low in let high = c.loop-high.high in
    let at : ℕ = middle low high in
    let moved = moved_in slots (count_below slots c.args.slot) c.args.slot (count_most slots c.args.slot) in
    let within = middle_within low high c.loop-high-test.true in
    let size = w.size in let fits = w.fits in
    let read : c.index_mut.result.now ≡ get_or halves at 0 = c.index_mut.ensures.value ∙ get_or_default halves at c.index_mut.result.now 0 (omega (arith, within, size, fits)) in
    let half = half_is slots (insert slots (count_below slots c.args.slot) c.args.slot) c.args.slot (length old) moved halves low high w c.loop-high-test.true in
    let most = count_most slots at in
    let few = few_slots_yet old c.self.inside.count slots a c.args.slot (omega (arith, room, c.requires.inside)) c.requires.other in
    omega (arith, read, half, most, few)

pub loop-high-preserved-then-slot-middle : goal.loop-high-preserved-then-slot-middle
loop-high-preserved-then-slot-middle c =
    let slots = c.args.self.now.slots in let old = c.self.inside.halves.items in let halves = c.loop-high.self-inside.halves.items in
    let w = c.loop-high.invariant.walked in
    let low = c.loop-high.low in let high = c.loop-high.high in
    let at : ℕ = middle low high in
    let moved = moved_in slots (count_below slots c.args.slot) c.args.slot (count_most slots c.args.slot) in
    let within = middle_within low high c.loop-high-test.true in
    let size = w.size in let fits = w.fits in
    let read : c.index_mut.result.now ≡ get_or halves at 0 = c.index_mut.ensures.value ∙ get_or_default halves at c.index_mut.result.now 0 (omega (arith, within, size, fits)) in
    let half = half_is slots (insert slots (count_below slots c.args.slot) c.args.slot) c.args.slot (length old) moved halves low high w c.loop-high-test.true in
    let more = one_more slots (count_below slots c.args.slot) c.args.slot low at c.index_mut.result.now (count_most slots c.args.slot) w.from c.if-slot-middle.true (omega (arith, read, half)) in record {
      count = c.loop-high.invariant.count;
      walked = walk_first slots (insert slots (count_below slots c.args.slot) c.args.slot) c.args.slot (length old) moved halves low high w c.loop-high-test.true (c.index_mut.result.now + 1) c.if-slot-middle.true more;
    }

pub loop-high-preserved : goal.loop-high-preserved
loop-high-preserved c =
    let slots = c.args.self.now.slots in let old = c.self.inside.halves.items in let halves = c.loop-high.self-inside.halves.items in
    let moved = moved_in slots (count_below slots c.args.slot) c.args.slot (count_most slots c.args.slot) in record {
      count = c.loop-high.invariant.count;
      walked = walk_second slots (insert slots (count_below slots c.args.slot) c.args.slot) c.args.slot (length old) moved halves c.loop-high.low c.loop-high.high c.loop-high.invariant.walked c.loop-high-test.true c.if-slot-middle.false;
    }

pub overflow_add-self : goal.overflow_add-self
overflow_add-self c =
    let slots = c.args.self.now.slots in let old = c.self.inside.halves.items in
    let a = subst (λ (v : SlotsAndRoom). AreRanked old c.self.inside.count v.slots) c.self.view_is c.self.invariant in
    let room = ap (λ (v : SlotsAndRoom). v.room) c.self.view_is in
    let few = few_slots_yet old c.self.inside.count slots a c.args.slot (omega (arith, room, c.requires.inside)) c.requires.other in
    let was = a.size in
    omega (arith, few, was)

pub invariant_of-self : goal.invariant_of-self
invariant_of-self c =
    let slots = c.args.self.now.slots in let old = c.self.inside.halves.items in let n = c.loop-high.self-inside in
    let a = subst (λ (v : SlotsAndRoom). AreRanked old c.self.inside.count v.slots) c.self.view_is c.self.invariant in
    let room = ap (λ (v : SlotsAndRoom). v.room) c.self.view_is in
    ranked_again n.halves.items (n.count + 1) (insert slots (count_below slots c.args.slot) c.args.slot)
    (ranked_offered old c.self.inside.count slots a c.args.slot (omega (arith, room, c.requires.inside)) c.requires.other n.halves.items c.loop-high.low c.loop-high.high n.count c.loop-high.invariant.walked c.loop-high-test.false c.loop-high.invariant.count)

pub returns-clause-rises : goal.returns-clause-rises
returns-clause-rises c =
    let slots = c.args.self.now.slots in let old = c.self.inside.halves.items in let n = c.loop-high.self-inside in
    let a = subst (λ (v : SlotsAndRoom). AreRanked old c.self.inside.count v.slots) c.self.view_is c.self.invariant in
    let room = ap (λ (v : SlotsAndRoom). v.room) c.self.view_is in
    (ranked_again n.halves.items (n.count + 1) (insert slots (count_below slots c.args.slot) c.args.slot)
    (ranked_offered old c.self.inside.count slots a c.args.slot (omega (arith, room, c.requires.inside)) c.requires.other n.halves.items c.loop-high.low c.loop-high.high n.count c.loop-high.invariant.walked c.loop-high-test.false c.loop-high.invariant.count)).rises

pub returns-clause-holds : goal.returns-clause-holds
returns-clause-holds c =
    let slots = c.args.self.now.slots in let old = c.self.inside.halves.items in let n = c.loop-high.self-inside in
    let a = subst (λ (v : SlotsAndRoom). AreRanked old c.self.inside.count v.slots) c.self.view_is c.self.invariant in
    let room = ap (λ (v : SlotsAndRoom). v.room) c.self.view_is in
    subst (λ l. (k : ℕ) → Has l k ↔ ((k ≡ c.args.slot) ⊎ Has slots k)) (sym (ranked_slots n.halves.items (n.count + 1) (insert slots (count_below slots c.args.slot) c.args.slot)
    (ranked_offered old c.self.inside.count slots a c.args.slot (omega (arith, room, c.requires.inside)) c.requires.other n.halves.items c.loop-high.low c.loop-high.high n.count c.loop-high.invariant.walked c.loop-high-test.false c.loop-high.invariant.count)))
    (has_offered old c.self.inside.count slots a c.args.slot (omega (arith, room, c.requires.inside)) c.requires.other)
