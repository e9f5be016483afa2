use Rattle.std.proofs.Common.{sym, ap, subst}
use mathlib.Core.List.{IsPrefix}
use Rattle.turnstile.specs.Views.{PassModel}
use Rattle.turnstile.proofs.Beginnings.{prefix_trans}
use Rattle.shared_gpu.specs.declared.noted.Noted.{Noted}
use Rattle.shared_gpu.proofs.workers.submission_round.Goals as goal

pub returns-in-None-clause-begins : goal.returns-in-None-clause-begins
returns-in-None-clause-begins g c =
    let a = c.counted-count.new.pass.seen in
    let b = c.submit_one.new.pass.seen in
    let d = c.retire_one.new.pass.seen in
    let e = c.look-ending.new.pass.seen in
    subst (λ l. IsPrefix c.args.pass.now.seen l) (sym (ap (λ (p : PassModel Noted). p.seen) c.wait_past.ensures))
    (subst (λ l. IsPrefix l e) (ap (λ (p : PassModel Noted). p.seen) c.counted-count.ensures.pass) (prefix_trans a b e c.submit_one.ensures.begins (prefix_trans b d e c.retire_one.ensures.begins c.look-ending.ensures.begins)))
