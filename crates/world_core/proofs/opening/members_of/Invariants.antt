use Rattle.std.proofs.Common.{◌≡◌, ◌++◌, map, drop}
use Rattle.trace_text.specs.Reading.{plan}
use Rattle.play_model.specs.Plays.{members, members_from}
use Rattle.world_core.proofs.opening.members_of.Given as goal

abbrev pub invariant-loop-thread : goal.invariant-loop-thread
invariant-loop-thread l = record {
  number : l.number ≡ l.thread-index;
  members : l.list.items ++ members_from l.thread-index (map plan (drop l.thread-index l.threads)) l.group ≡ members
      (map plan l.threads) l.group;
}
