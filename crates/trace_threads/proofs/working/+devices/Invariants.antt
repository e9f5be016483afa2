use Prim.Native.Nat.{◌+◌, ◌*◌, ◌-◌}
use Rattle.trace_threads.proofs.working.+devices.Given as goal

abbrev pub decreases-run_devices : goal.decreases-run_devices
decreases-run_devices g l = 2 * l.count

abbrev pub decreases-others : goal.decreases-others
decreases-others g l = 2 * l.count - 1
