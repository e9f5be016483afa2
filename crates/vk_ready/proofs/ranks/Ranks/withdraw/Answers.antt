use Rattle.std.proofs.Common.{◌≡◌, ℕ, ◌-◌, ◌<◌, ◌≤◌, length, get_or, remove, refl, sym, ◌∙◌, subst, arith}
use Rattle.std.specs.Prelude.{◌↔◌}
use Rattle.std.proofs.lemmas.List.{get_or_default}
use Rattle.vk_ready.specs.Slots.{Has}
use Rattle.vk_ready.specs.Halves.{SlotsAndRoom, middle, AreRanked}
use Rattle.vk_ready.proofs.Rising.{has_removed}
use Rattle.vk_ready.proofs.Halves.{count_none, at_low, at_high, moved_out, one_less, middle_within, half_is, walk_begins, walk_first, walk_second, slot_inside, ranked_withdrawn, ranked_slots, ranked_again}
use Rattle.vk_ready.proofs.ranks.Ranks.withdraw.Goals as goal

pub loop-high-init : goal.loop-high-init
loop-high-init c =
    let slots = c.args.self.now.slots in let halves = c.self.inside.halves.items in
    let a = subst (λ (v : SlotsAndRoom). AreRanked halves c.self.inside.count v.slots) c.self.view_is c.self.invariant in
    let none = count_none slots 0 (λ j h. omega arith) in record {
      count = refl;
      rest = omega (arith, none);
      walked = walk_begins slots (remove slots c.args.number) (get_or slots c.args.number 0) (length halves) halves c.len-high.result refl (omega arith) (slot_inside halves c.self.inside.count slots a c.args.number c.requires) a.counted;
    }

pub loop-high-preserved-then-rest-half : goal.loop-high-preserved-then-rest-half
loop-high-preserved-then-rest-half c =
    let slots = c.args.self.now.slots in let old = c.self.inside.halves.items in let halves = c.loop-high.self-inside.halves.items in
    let a = subst (λ (v : SlotsAndRoom). AreRanked old c.self.inside.count v.slots) c.self.view_is c.self.invariant in
    let i = c.loop-high.invariant in let w = i.walked in
    let low = c.loop-high.low in let high = c.loop-high.high in
    let at : ℕ = middle low high in
    let moved = moved_out slots c.args.number c.requires in
    let within = middle_within low high c.loop-high-test.true in
    let size = w.size in let fits = w.fits in let rest = i.rest in
    let read : c.index-half.result.now ≡ get_or halves at 0 = c.index-half.ensures ∙ get_or_default halves at c.index-half.result.now 0 (omega (arith, within, size, fits)) in
    let half = half_is slots (remove slots c.args.number) (get_or slots c.args.number 0) (length old) moved halves low high w c.loop-high-test.true in
    let below : get_or slots c.args.number 0 < at = at_low slots c.args.number at a.rises (omega (arith, read, half, rest, c.if-rest-half.true)) in
    let less = one_less slots c.args.number low at c.index-half.result.now c.requires w.from below (omega (arith, read, half)) in record {
      count = i.count;
      rest = rest;
      walked = walk_first slots (remove slots c.args.number) (get_or slots c.args.number 0) (length old) moved halves low high w c.loop-high-test.true (c.index-half.result.now - 1) below less;
    }

pub loop-high-preserved : goal.loop-high-preserved
loop-high-preserved c =
    let slots = c.args.self.now.slots in let old = c.self.inside.halves.items in let halves = c.loop-high.self-inside.halves.items in
    let a = subst (λ (v : SlotsAndRoom). AreRanked old c.self.inside.count v.slots) c.self.view_is c.self.invariant in
    let i = c.loop-high.invariant in let w = i.walked in
    let low = c.loop-high.low in let high = c.loop-high.high in
    let at : ℕ = middle low high in
    let moved = moved_out slots c.args.number c.requires in
    let within = middle_within low high c.loop-high-test.true in
    let size = w.size in let fits = w.fits in let rest = i.rest in
    let read : c.index-half.result.now ≡ get_or halves at 0 = c.index-half.ensures ∙ get_or_default halves at c.index-half.result.now 0 (omega (arith, within, size, fits)) in
    let half = half_is slots (remove slots c.args.number) (get_or slots c.args.number 0) (length old) moved halves low high w c.loop-high-test.true in
    let past : at ≤ get_or slots c.args.number 0 = at_high slots c.args.number at a.rises (omega (arith, read, half, rest, c.if-rest-half.false)) c.requires in record {
      count = i.count;
      rest = omega (arith, read, half, rest, c.if-rest-half.false);
      walked = walk_second slots (remove slots c.args.number) (get_or slots c.args.number 0) (length old) moved halves low high w c.loop-high-test.true past;
    }

pub invariant_of-self : goal.invariant_of-self
invariant_of-self c =
    let slots = c.args.self.now.slots in let old = c.self.inside.halves.items in let n = c.loop-high.self-inside in
    let a = subst (λ (v : SlotsAndRoom). AreRanked old c.self.inside.count v.slots) c.self.view_is c.self.invariant in
    ranked_again n.halves.items (n.count - 1) (remove slots c.args.number)
    (ranked_withdrawn old c.self.inside.count slots a c.args.number c.requires n.halves.items c.loop-high.low c.loop-high.high n.count c.loop-high.invariant.walked c.loop-high-test.false c.loop-high.invariant.count)

pub returns-clause-rises : goal.returns-clause-rises
returns-clause-rises c =
    let slots = c.args.self.now.slots in let old = c.self.inside.halves.items in let n = c.loop-high.self-inside in
    let a = subst (λ (v : SlotsAndRoom). AreRanked old c.self.inside.count v.slots) c.self.view_is c.self.invariant in
    (ranked_again n.halves.items (n.count - 1) (remove slots c.args.number)
    (ranked_withdrawn old c.self.inside.count slots a c.args.number c.requires n.halves.items c.loop-high.low c.loop-high.high n.count c.loop-high.invariant.walked c.loop-high-test.false c.loop-high.invariant.count)).rises

pub returns-clause-others : goal.returns-clause-others
returns-clause-others c = λ k.
    let slots = c.args.self.now.slots in let old = c.self.inside.halves.items in let n = c.loop-high.self-inside in
    let a = subst (λ (v : SlotsAndRoom). AreRanked old c.self.inside.count v.slots) c.self.view_is c.self.invariant in
    let w = c.loop-high.invariant.walked in
    let from = w.from in let to = w.to in
    let here : get_or slots c.args.number 0 ≡ c.loop-high.low = omega (arith, from, to, c.loop-high-test.false) in
    subst (λ l. Has l k ↔ ((k ≡ c.loop-high.low → ⊥) × Has slots k)) (sym (ranked_slots n.halves.items (n.count - 1) (remove slots c.args.number)
    (ranked_withdrawn old c.self.inside.count slots a c.args.number c.requires n.halves.items c.loop-high.low c.loop-high.high n.count c.loop-high.invariant.walked c.loop-high-test.false c.loop-high.invariant.count)))
    (subst (λ s. Has (remove slots c.args.number) k ↔ ((k ≡ s → ⊥) × Has slots k)) here (has_removed slots c.args.number k a.rises c.requires))
