use Rattle.std.proofs.Common.{◌≡◌, suc, ◌+◌, ◌-◌, ◌≤◌, ◌++◌, [], ◌∷◌, length, get_or, sym, ◌∙◌, ap, subst, arith, length-append}
use Rattle.vk_ready.specs.Slots.{AreStarts}
use Rattle.vk_ready.proofs.Watching.{next_is_new, pushed_ready, pushed_behind, no_less, starts_pushed}
use Rattle.vk_ready.proofs.watch.watch_next.Goals as goal

pub offer-requires-clause-other : goal.offer-requires-clause-other
offer-requires-clause-other c =
    let w = c.args.watch.now in
    next_is_new c.args.slots.now w.holders.items w.ends.items w.ready.slots c.requires.kept c.args.node.now c.args.holder c.requires.inside c.requires.free

pub returns-then-holder-eq0-clause-kept : goal.returns-then-holder-eq0-clause-kept
returns-then-holder-eq0-clause-kept c =
    let w = c.args.watch.now in
    let size = c.requires.kept.ends_size in
    let longer = length-append w.ends.items (0 ∷ []) in
    rw (c.push_reserved.ensures.items, c.push_reserved-3.ensures.items)
    (pushed_ready c.args.slots.now w.holders.items w.ends.items w.ready.slots c.requires.kept c.args.node.now c.args.holder c.requires.inside c.requires.free
    (w.ends.items ++ 0 ∷ []) (no_less w.ends.items) (omega (arith, size, longer)) c.if-holder-eq0.true
    c.offer.new.self.slots c.offer.ensures.rises c.offer.ensures.holds)

pub returns-else-holder-eq0-clause-kept : goal.returns-else-holder-eq0-clause-kept
returns-else-holder-eq0-clause-kept c =
    let w = c.args.watch.now in
    let size = c.requires.kept.ends_size in
    let longer = length-append w.ends.items (0 ∷ []) in
    let ends_is : c.push_reserved-3.new.self.items ≡ w.ends.items ++ 0 ∷ [] = c.push_reserved-3.ensures.items in
    let raised : length c.raise.new.ends.items ≡ length c.push_reserved-3.new.self.items = c.raise.ensures.size in
    let all : length c.raise.new.ends.items ≡ length c.args.slots.now + 1 = raised ∙ ap length ends_is ∙ longer ∙ ap (λ n. n + 1) size in
    let is : c.args.holder ≡ suc (c.args.holder - 1) = let ne = c.if-holder-eq0.false in omega (arith, ne) in
    rw (c.push_reserved.ensures.items)
    (pushed_behind c.args.slots.now w.holders.items w.ends.items w.ready.slots c.requires.kept c.args.node.now c.args.holder c.requires.inside c.requires.free
    c.raise.new.ends.items (λ p. let less = no_less w.ends.items p in let risen = c.raise.ensures.risen p in let at : get_or c.push_reserved-3.new.self.items p 0 ≡ get_or (w.ends.items ++ 0 ∷ []) p 0 = ap (λ l. get_or l p 0) ends_is in omega (arith, less, risen, at))
    all (c.args.holder - 1) is (c.requires.waits (c.args.holder - 1) is) c.raise.ensures.seen)

pub returns-then-holder-eq0-clause-starts : goal.returns-then-holder-eq0-clause-starts
returns-then-holder-eq0-clause-starts c =
    let w = c.args.watch.now in let holder = c.args.holder in
    let longer = length-append w.starts.items (18446744073709551615 ∷ []) in
    let none = c.if-holder-eq0.true in
    subst (λ l. AreStarts l c.push_reserved-2.new.self.items) (sym c.push_reserved.ensures.items)
    (subst (AreStarts (w.holders.items ++ holder ∷ [])) (sym c.push_reserved-2.ensures.items)
    (starts_pushed w.holders.items w.starts.items (w.starts.items ++ 18446744073709551615 ∷ []) holder 18446744073709551615 c.requires.starts longer (λ p. omega arith) (λ p e. absurd (omega (arith, none, e)))))

pub returns-else-holder-eq0-clause-starts : goal.returns-else-holder-eq0-clause-starts
returns-else-holder-eq0-clause-starts c =
    let w = c.args.watch.now in let holder = c.args.holder in
    let longer = length-append w.starts.items (18446744073709551615 ∷ []) in
    let starts_is : c.push_reserved-2.new.self.items ≡ w.starts.items ++ 18446744073709551615 ∷ [] = c.push_reserved-2.ensures.items in
    let size : length c.lower.new.starts.items ≡ length w.starts.items + 1 = c.lower.ensures.size ∙ ap length starts_is ∙ longer in
    let slots_size = c.requires.kept.holders_size in
    let starts_size = c.requires.starts.size in
    let within = c.requires.inside in
    subst (λ l. AreStarts l c.lower.new.starts.items) (sym c.push_reserved.ensures.items)
    (starts_pushed w.holders.items w.starts.items c.lower.new.starts.items holder 18446744073709551615 c.requires.starts size
    (λ p. let less = c.lower.ensures.lowered p in let same : get_or c.push_reserved-2.new.self.items p 0 ≡ get_or (w.starts.items ++ 18446744073709551615 ∷ []) p 0 = ap (λ l. get_or l p 0) starts_is in omega (arith, less, same))
    (λ p e.
    let here : holder - 1 ≡ p = omega (arith, e) in
    let seen = c.lower.ensures.seen in
    let low : get_or c.lower.new.starts.items p 0 ≤ length c.args.slots.now = subst (λ j. get_or c.lower.new.starts.items j 0 ≤ length c.args.slots.now) here (omega (arith, seen)) in
    (omega (arith, e, within, slots_size, starts_size), omega (arith, low, slots_size))))
