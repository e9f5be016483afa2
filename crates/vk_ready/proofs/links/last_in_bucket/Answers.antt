use Rattle.std.proofs.Common.{◌≡◌, ℕ, suc, ◌-◌, ◌<◌, length, sym, ◌∙◌, ap, subst, arith, inl, inr}
use Rattle.std.specs.Prelude.{None}
use Rattle.std.proofs.lemmas.Bool.{cases_eq, cases_lt}
use Rattle.std.proofs.lemmas.List.{get_or_default}
use Rattle.vk_ready.specs.Slots.{in_slot, edge_from}
use Rattle.vk_ready.specs.Filing.{filed_at, IsLast, link_in}
use Rattle.vk_ready.proofs.Buckets.{passed_free}
use Rattle.vk_ready.proofs.links.last_in_bucket.Goals as goal
use Rattle.vk_ready.proofs.links.last_in_bucket.Goals.{else-slot-end-via-then-slot-end+else-slot_has_edge, else-slot-end-via-else-slot-end}

pub returns-then-slot_has_edge-clause-waits : goal.returns-then-slot_has_edge-clause-waits
returns-then-slot_has_edge-clause-waits c = λ p e.
    let inside : c.loop-at.at - 1 < length c.args.slots.now = omega arith in
    let read : c.index-slots-slot.result ≡ in_slot c.args.slots.now (c.loop-at.at - 1) = c.index-slots-slot.is ∙ get_or_default c.args.slots.now (c.loop-at.at - 1) c.index-slots-slot.result None inside in
    let here : c.loop-at.at - 1 ≡ p = omega (arith, e) in
    ap (λ k. edge_from (in_slot c.args.slots.now k) c.args.later.now) (sym here)
    ∙ ap (λ s. edge_from s c.args.later.now) (sym read)
    ∙ sym c.slot_has_edge.ensures
    ∙ c.if-slot_has_edge.true

pub loop-at-preserved : goal.loop-at-preserved
loop-at-preserved c =
    let filed = c.args.filed.now in let bucket = c.args.bucket in
    let i = c.loop-at.invariant in
    let more = c.loop-at-test.true in
    let slot : ℕ = c.loop-at.at - 1 in
    let next : c.loop-at.at ≡ suc slot = omega (arith, more) in
    let fits = i.fits in
    let within : slot < length filed = omega (arith, next, fits) in
    let link_is : c.link_of-at.result ≡ link_in c.args.only_barriers (filed_at filed slot) bucket = c.link_of-at.ensures in
    let last : IsLast c.args.only_barriers c.args.slots.now filed bucket slot c.link_of-at.result = subst (IsLast c.args.only_barriers c.args.slots.now filed bucket slot) (sym link_is) (c.requires.linked slot bucket within (i.has slot next)) in record {
      fits = let below = last.inside in omega (arith, below, within);
      has = last.has;
      free = λ k le lt h. elim (cases_lt k slot) [
        | inl below ↦ passed_free c.args.only_barriers (in_slot c.args.slots.now k) c.args.later.now c.requires.plain (last.none k le below h)
        | inr past ↦ elim (cases_eq k slot) [
          | inl same ↦ elim c.else-slot-end.branch [
            | else-slot-end-via-then-slot-end+else-slot_has_edge w ↦
                let inside : slot < length c.args.slots.now = omega (arith, same, lt, c.requires.inside) in
                let read : w.index-slots-slot.result ≡ in_slot c.args.slots.now slot = w.index-slots-slot.is ∙ get_or_default c.args.slots.now slot w.index-slots-slot.result None inside in
                ap (λ j. edge_from (in_slot c.args.slots.now j) c.args.later.now) same ∙ ap (λ s. edge_from s c.args.later.now) (sym read) ∙ sym w.slot_has_edge.ensures ∙ w.if-slot_has_edge.false
            | else-slot-end-via-else-slot-end w ↦ let over = w.if-slot-end.false in absurd (omega (arith, over, same, lt))
          ]
          | inr ne ↦ i.free k (omega (arith, next, past, ne)) lt h
        ]
      ];
    }

pub returns-clause-free : goal.returns-clause-free
returns-clause-free c = λ k le lt h. elim (cases_lt k c.args.first) [
  | inl below ↦ ap (λ s. edge_from s c.args.later.now) (c.requires.gone k below)
  | inr above ↦ let done = c.loop-at-test.false in c.loop-at.invariant.free k (omega (arith, done, above)) lt h
]

pub loop-at-init : goal.loop-at-init
loop-at-init c = record {
  fits = c.requires.link_fits;
  has = c.requires.has;
  free = λ k from to h. passed_free c.args.only_barriers (in_slot c.args.slots.now k) c.args.later.now c.requires.plain (c.requires.none k from to h);
}
