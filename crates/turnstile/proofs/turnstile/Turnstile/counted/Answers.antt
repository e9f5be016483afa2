use Rattle.std.proofs.Common.{rules}
use Rattle.turnstile.proofs.Loading.{counts}
use Rattle.turnstile.proofs.turnstile.Turnstile.counted.Goals as goal

pub load-requires : goal.load-requires
load-requires g c = (search rules, search rules, counts _ _ _ _ _ _ _ c.pass.invariant.live)
