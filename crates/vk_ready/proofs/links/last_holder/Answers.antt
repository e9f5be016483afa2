use Rattle.std.proofs.Common.{◌≡◌, length, not, sym, ◌∙◌, ap, subst, arith, inl, inr}
use Rattle.std.proofs.lemmas.Bool.{cases_lt}
use Rattle.std.proofs.lemmas.List.{get_or_default}
use Rattle.vk_ready.specs.declared.links.Filed.{Filed}
use Rattle.vk_ready.specs.Filing.{nowhere, filed_at, IsIn, IsLast, link_in, AreLinked}
use Rattle.vk_ready.proofs.Buckets.{first_link, second_link, free_of_both, no_barrier}
use Rattle.vk_ready.proofs.links.last_holder.Goals as goal

pub last_in_bucket-one-requires-clause-linked : goal.last_in_bucket-one-requires-clause-linked
last_in_bucket-one-requires-clause-linked c =
    subst (AreLinked c.is_none-only_barriers.result c.args.slots.now) (sym c.deref.ensures.value) (c.requires.linked c.is_none-only_barriers.result)

pub last_in_bucket-one-requires-clause-plain : goal.last_in_bucket-one-requires-clause-plain
last_in_bucket-one-requires-clause-plain c = λ only.
    sym c.barrier.ensures ∙ no_barrier c.barrier.result (c.is_none-only_barriers.ensures ∙ ap not only)

pub last_in_bucket-one-requires-clause-link_fits : goal.last_in_bucket-one-requires-clause-link_fits
last_in_bucket-one-requires-clause-link_fits c =
    let filed = c.args.links.now.filed.items in let g = c.index-filed.result.now in let b = c.is_none-only_barriers.result in let slots = c.args.slots.now in
    let g_is : g ≡ filed_at filed c.args.slot = c.index-filed.ensures ∙ get_or_default filed c.args.slot g nowhere c.requires.slot_fits in
    let link : IsLast b slots filed g.first c.args.slot (link_in b g g.first) = subst (λ (h : Filed). IsLast b slots filed h.first c.args.slot (link_in b h h.first)) (sym g_is) (first_link b slots filed c.args.slot (c.requires.linked b) c.requires.slot_fits) in
    let below = link.inside in
    let is = c.link_of.ensures in
    let size = ap length c.deref.ensures.value in
    omega (arith, below, is, size, c.requires.slot_fits)

pub last_in_bucket-one-requires-clause-has : goal.last_in_bucket-one-requires-clause-has
last_in_bucket-one-requires-clause-has c = λ k e.
    let filed = c.args.links.now.filed.items in let g = c.index-filed.result.now in let b = c.is_none-only_barriers.result in let slots = c.args.slots.now in
    let g_is : g ≡ filed_at filed c.args.slot = c.index-filed.ensures ∙ get_or_default filed c.args.slot g nowhere c.requires.slot_fits in
    let link : IsLast b slots filed g.first c.args.slot (link_in b g g.first) = subst (λ (h : Filed). IsLast b slots filed h.first c.args.slot (link_in b h h.first)) (sym g_is) (first_link b slots filed c.args.slot (c.requires.linked b) c.requires.slot_fits) in
    subst (λ l. IsIn l k g.first) (sym c.deref.ensures.value) (link.has k (sym c.link_of.ensures ∙ e))

pub last_in_bucket-one-requires-clause-none : goal.last_in_bucket-one-requires-clause-none
last_in_bucket-one-requires-clause-none c = λ k le lt h.
    let filed = c.args.links.now.filed.items in let g = c.index-filed.result.now in let b = c.is_none-only_barriers.result in let slots = c.args.slots.now in
    let g_is : g ≡ filed_at filed c.args.slot = c.index-filed.ensures ∙ get_or_default filed c.args.slot g nowhere c.requires.slot_fits in
    let link : IsLast b slots filed g.first c.args.slot (link_in b g g.first) = subst (λ (h : Filed). IsLast b slots filed h.first c.args.slot (link_in b h h.first)) (sym g_is) (first_link b slots filed c.args.slot (c.requires.linked b) c.requires.slot_fits) in
    let is = c.link_of.ensures in
    link.none k (omega (arith, is, le)) (omega (arith, lt, c.requires.before)) (subst (λ l. IsIn l k g.first) c.deref.ensures.value h)

pub last_in_bucket-two-requires-clause-linked : goal.last_in_bucket-two-requires-clause-linked
last_in_bucket-two-requires-clause-linked c =
    subst (AreLinked c.is_none-only_barriers.result c.args.slots.now) (sym c.deref-2.ensures.value) (c.requires.linked c.is_none-only_barriers.result)

pub last_in_bucket-two-requires-clause-plain : goal.last_in_bucket-two-requires-clause-plain
last_in_bucket-two-requires-clause-plain c = λ only.
    sym c.barrier.ensures ∙ no_barrier c.barrier.result (c.is_none-only_barriers.ensures ∙ ap not only)

pub last_in_bucket-two-requires-clause-link_fits : goal.last_in_bucket-two-requires-clause-link_fits
last_in_bucket-two-requires-clause-link_fits c =
    let filed = c.args.links.now.filed.items in let g = c.index-filed.result.now in let b = c.is_none-only_barriers.result in let slots = c.args.slots.now in
    let g_is : g ≡ filed_at filed c.args.slot = c.index-filed.ensures ∙ get_or_default filed c.args.slot g nowhere c.requires.slot_fits in
    let link : IsLast b slots filed g.second c.args.slot (link_in b g g.second) = subst (λ (h : Filed). IsLast b slots filed h.second c.args.slot (link_in b h h.second)) (sym g_is) (second_link b slots filed c.args.slot (c.requires.linked b) c.requires.slot_fits) in
    let below = link.inside in
    let is = c.link_of-2.ensures in
    let size = ap length c.deref-2.ensures.value in
    omega (arith, below, is, size, c.requires.slot_fits)

pub last_in_bucket-two-requires-clause-has : goal.last_in_bucket-two-requires-clause-has
last_in_bucket-two-requires-clause-has c = λ k e.
    let filed = c.args.links.now.filed.items in let g = c.index-filed.result.now in let b = c.is_none-only_barriers.result in let slots = c.args.slots.now in
    let g_is : g ≡ filed_at filed c.args.slot = c.index-filed.ensures ∙ get_or_default filed c.args.slot g nowhere c.requires.slot_fits in
    let link : IsLast b slots filed g.second c.args.slot (link_in b g g.second) = subst (λ (h : Filed). IsLast b slots filed h.second c.args.slot (link_in b h h.second)) (sym g_is) (second_link b slots filed c.args.slot (c.requires.linked b) c.requires.slot_fits) in
    subst (λ l. IsIn l k g.second) (sym c.deref-2.ensures.value) (link.has k (sym c.link_of-2.ensures ∙ e))

pub last_in_bucket-two-requires-clause-none : goal.last_in_bucket-two-requires-clause-none
last_in_bucket-two-requires-clause-none c = λ k le lt h.
    let filed = c.args.links.now.filed.items in let g = c.index-filed.result.now in let b = c.is_none-only_barriers.result in let slots = c.args.slots.now in
    let g_is : g ≡ filed_at filed c.args.slot = c.index-filed.ensures ∙ get_or_default filed c.args.slot g nowhere c.requires.slot_fits in
    let link : IsLast b slots filed g.second c.args.slot (link_in b g g.second) = subst (λ (h : Filed). IsLast b slots filed h.second c.args.slot (link_in b h h.second)) (sym g_is) (second_link b slots filed c.args.slot (c.requires.linked b) c.requires.slot_fits) in
    let is = c.link_of-2.ensures in
    link.none k (omega (arith, is, le)) (omega (arith, lt, c.requires.before)) (subst (λ l. IsIn l k g.second) c.deref-2.ensures.value h)

pub returns-clause-free : goal.returns-clause-free
returns-clause-free c = λ k le lt.
    let filed = c.args.links.now.filed.items in let g = c.index-filed.result.now in
    let g_is : g ≡ filed_at filed c.args.slot = c.index-filed.ensures ∙ get_or_default filed c.args.slot g nowhere c.requires.slot_fits in
    free_of_both c.args.slots.now filed (length c.args.links.now.heads.items) c.args.slot c.args.later.now c.requires.all c.requires.filed k
    (λ h. c.last_in_bucket-one.ensures.free k (omega (arith, le)) lt (subst (λ l. IsIn l k g.first) (sym c.deref.ensures.value) (subst (λ (x : Filed). IsIn filed k x.first) (sym g_is) h)))
    (λ h. c.last_in_bucket-two.ensures.free k (omega (arith, le)) lt (subst (λ l. IsIn l k g.second) (sym c.deref-2.ensures.value) (subst (λ (x : Filed). IsIn filed k x.second) (sym g_is) h)))

pub returns-clause-waits : goal.returns-clause-waits
returns-clause-waits c = λ p e. elim (cases_lt c.last_in_bucket-one.result c.last_in_bucket-two.result) [
  | inl less ↦ c.last_in_bucket-two.ensures.waits p (omega (arith, e, less))
  | inr more ↦ c.last_in_bucket-one.ensures.waits p (omega (arith, e, more))
]
