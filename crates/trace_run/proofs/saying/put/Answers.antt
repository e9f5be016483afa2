use Rattle.std.proofs.Common.{refl}
use Rattle.trace_run.specs.Once.{Puts}
use Rattle.trace_run.proofs.saying.put.Goals as goal

pub returns-in-Err : goal.returns-in-Err
returns-in-Err g c = let f = c.write_all.ensures.front in Puts.some refl c.in-Err.ensures.cause.failed f.0 f.1
