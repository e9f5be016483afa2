use Rattle.std.proofs.Common.{◌≡◌}
use Rattle.std.specs.Vec.{vec_capacity}
use Rattle.vk_ready.specs.Slots.{AreStarts, IsWatched}
use Rattle.vk_ready.proofs.watch.release.Given as goal

-- the slots so far do not name the one that ran
abbrev pub invariant-loop-slot : goal.invariant-loop-slot
invariant-loop-slot l = record {
  kept : IsWatched l.slots l.watch.holders.items l.watch.ends.items l.watch.ready.slots l.gone l.slot l.end;
  starts : AreStarts l.watch.holders.items l.watch.starts.items;
  starts_capacity : vec_capacity l.watch.starts ≡ vec_capacity l.initial.watch.starts;
  holders : vec_capacity l.watch.holders ≡ vec_capacity l.initial.watch.holders;
  ends : vec_capacity l.watch.ends ≡ vec_capacity l.initial.watch.ends;
  ready : l.watch.ready.room ≡ l.initial.watch.ready.room;
}
