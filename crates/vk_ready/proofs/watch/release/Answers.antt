use Rattle.std.proofs.Common.{◌≡◌, get_or, refl, ◌∙◌, arith}
use Rattle.std.proofs.lemmas.List.{get_or_default}
use Rattle.vk_ready.proofs.Watching.{watched_all, watched_later}
use Rattle.vk_ready.proofs.watch.release.Goals as goal

pub returns-clause-kept : goal.returns-clause-kept
returns-clause-kept c =
    watched_all c.args.slots.now c.loop-slot.watch.holders.items c.loop-slot.watch.ends.items c.loop-slot.watch.ready.slots c.args.gone c.loop-slot.slot c.args.end c.loop-slot.invariant.kept (omega arith)

pub loop-slot-init : goal.loop-slot-init
loop-slot-init c =
    let w = c.args.watch.now in
    let size = c.requires.kept.holders_size in
    let starts_size = c.requires.starts.size in
    let read : c.index.result.now ≡ get_or w.starts.items c.args.gone 0 = c.index.ensures ∙ get_or_default w.starts.items c.args.gone c.index.result.now 0 (omega (arith, size, starts_size)) in record {
      kept = watched_later c.args.slots.now w.holders.items w.starts.items w.ends.items w.ready.slots c.args.gone c.args.end c.max-start.result c.requires.kept c.requires.starts (λ k first after. omega (arith, read, first, after));
      starts = c.requires.starts;
      starts_capacity = refl;
      holders = refl;
      ends = refl;
      ready = refl;
    }
