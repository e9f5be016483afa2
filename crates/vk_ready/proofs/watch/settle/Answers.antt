use Rattle.std.proofs.Common.{◌≡◌, suc, ◌-◌, ◌<◌, ◌≤◌, length, get_or, sym, refl, ◌∙◌, subst, arith}
use Rattle.std.specs.Prelude.{Some, None}
use Rattle.std.proofs.lemmas.List.{get_or_default}
use Rattle.vk_ready.specs.Slots.{in_slot}
use Rattle.vk_ready.proofs.Watching.{watched_other, watched_ready, watched_behind, starts_moved}
use Rattle.vk_ready.proofs.Buckets.{both_linked}
use Rattle.vk_ready.proofs.watch.settle.Goals as goal

pub returns-then-index-gone-clause-kept : goal.returns-then-index-gone-clause-kept
returns-then-index-gone-clause-kept c =
    let holders = c.args.watch.now.holders.items in
    let size : length holders ≡ length c.args.slots.now = c.requires.kept.holders_size in
    let inside : c.args.slot < length holders = omega arith in
    let read : c.index.result.now ≡ get_or holders c.args.slot 0 = c.index.ensures ∙ get_or_default holders c.args.slot c.index.result.now 0 inside in
    watched_other c.args.slots.now holders c.args.watch.now.ends.items c.args.watch.now.ready.slots c.args.gone c.args.slot c.args.end c.requires.kept (λ e. c.if-index-gone.true (omega (arith, e, read)))

pub returns-then-holder-eq0-clause-kept : goal.returns-then-holder-eq0-clause-kept
returns-then-holder-eq0-clause-kept c =
    let holders = c.args.watch.now.holders.items in
    let size : length holders ≡ length c.args.slots.now = c.requires.kept.holders_size in
    let inside : c.args.slot < length holders = omega arith in
    let read : c.index.result.now ≡ get_or holders c.args.slot 0 = c.index.ensures ∙ get_or_default holders c.args.slot c.index.result.now 0 inside in
    let named : get_or holders c.args.slot 0 ≡ suc c.args.gone = omega (arith, c.if-index-gone.false, read) in
    let at : in_slot c.args.slots.now c.args.slot ≡ Some c.in-Some.later = sym (c.index-slots-slot.is ∙ get_or_default c.args.slots.now c.args.slot c.index-slots-slot.result None c.requires.inside) ∙ c.in-Some.is in
    watched_ready c.args.slots.now holders c.args.watch.now.ends.items c.args.watch.now.ready.slots c.args.gone c.args.slot c.args.end c.requires.kept named c.requires.after c.requires.inside c.requires.empty c.in-Some.later at c.last_holder-holder.result c.last_holder-holder.ensures.inside c.last_holder-holder.ensures.free
    c.offer.new.self.slots c.if-holder-eq0.true c.offer.ensures.rises c.offer.ensures.holds

pub returns-else-holder-eq0-clause-kept : goal.returns-else-holder-eq0-clause-kept
returns-else-holder-eq0-clause-kept c =
    let holders = c.args.watch.now.holders.items in
    let size : length holders ≡ length c.args.slots.now = c.requires.kept.holders_size in
    let inside : c.args.slot < length holders = omega arith in
    let read : c.index.result.now ≡ get_or holders c.args.slot 0 = c.index.ensures ∙ get_or_default holders c.args.slot c.index.result.now 0 inside in
    let named : get_or holders c.args.slot 0 ≡ suc c.args.gone = omega (arith, c.if-index-gone.false, read) in
    let at : in_slot c.args.slots.now c.args.slot ≡ Some c.in-Some.later = sym (c.index-slots-slot.is ∙ get_or_default c.args.slots.now c.args.slot c.index-slots-slot.result None c.requires.inside) ∙ c.in-Some.is in
    let is : c.last_holder-holder.result ≡ suc (c.last_holder-holder.result - 1) = let ne = c.if-holder-eq0.false in omega (arith, ne) in
    watched_behind c.args.slots.now holders c.args.watch.now.ends.items c.args.watch.now.ready.slots c.args.gone c.args.slot c.args.end c.requires.kept named c.requires.after c.requires.inside c.requires.empty c.in-Some.later at c.last_holder-holder.result c.last_holder-holder.ensures.inside c.last_holder-holder.ensures.free
    c.raise.new.ends.items (c.last_holder-holder.result - 1) is (c.last_holder-holder.ensures.waits (c.last_holder-holder.result - 1) is) c.raise.ensures.size c.raise.ensures.risen c.raise.ensures.seen

pub returns-then-holder-eq0-clause-starts : goal.returns-then-holder-eq0-clause-starts
returns-then-holder-eq0-clause-starts c =
    let w = c.args.watch.now in
    let size = c.requires.kept.holders_size in
    let none = c.if-holder-eq0.true in
    starts_moved w.holders.items w.starts.items w.starts.items c.args.slot c.last_holder-holder.result c.requires.starts (omega (arith, size)) refl (λ p. omega arith) (λ p e. absurd (omega (arith, none, e)))

pub returns-else-holder-eq0-clause-starts : goal.returns-else-holder-eq0-clause-starts
returns-else-holder-eq0-clause-starts c =
    let w = c.args.watch.now in let holder = c.last_holder-holder.result in
    let size = c.requires.kept.holders_size in
    let starts_size = c.requires.starts.size in
    let within = c.last_holder-holder.ensures.inside in
    let seen = c.lower.ensures.seen in
    starts_moved w.holders.items w.starts.items c.lower.new.starts.items c.args.slot holder c.requires.starts (omega (arith, size)) c.lower.ensures.size c.lower.ensures.lowered
    (λ p e.
    let here : holder - 1 ≡ p = omega (arith, e) in
    let low : get_or c.lower.new.starts.items p 0 ≤ c.args.slot = subst (λ j. get_or c.lower.new.starts.items j 0 ≤ c.args.slot) here seen in
    (omega (arith, e, within, size, starts_size), low))

pub last_holder-holder-requires-clause-filed : goal.last_holder-holder-requires-clause-filed
last_holder-holder-requires-clause-filed c =
    let at : in_slot c.args.slots.now c.args.slot ≡ Some c.in-Some.later = sym (c.index-slots-slot.is ∙ get_or_default c.args.slots.now c.args.slot c.index-slots-slot.result None c.requires.inside) ∙ c.in-Some.is in
    c.requires.filed.all c.args.slot c.in-Some.later at

pub last_holder-holder-requires-clause-linked : goal.last_holder-holder-requires-clause-linked
last_holder-holder-requires-clause-linked c =
    let links = c.args.links.now in
    both_linked c.args.slots.now links.heads.items links.barriers.items links.filed.items c.requires.filed
