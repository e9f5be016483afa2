-- The numbers with which the program ends.
use Rattle.std.specs.Prelude.{ℕ}
use Rattle.trace_io.specs.declared.status.Status.{Status}
use Rattle.trace_io.specs.declared.status.Status.TheVariants.{Ok, Usage, Trace, ReadFault, WriteFault, DeviceLost, Memory}

abbrev pub status_number : Status → ℕ
status_number Ok = 0
status_number Usage = 2
status_number (Trace line kind) = 3
status_number ReadFault = 4
status_number WriteFault = 5
status_number DeviceLost = 6
status_number Memory = 7
