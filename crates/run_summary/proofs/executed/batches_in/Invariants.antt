use Rattle.std.proofs.Common.{◌≡◌, map, take}
use Rattle.vk_device.specs.Journal.{accepted}
use Rattle.run_summary.proofs.executed.batches_in.Given as goal

abbrev pub invariant-loop-entry : goal.invariant-loop-entry
invariant-loop-entry l = map (λ b. b.now) l.batches.items ≡ accepted (take l.entry-index l.journal)
