use Rattle.std.proofs.Common.{◌≡◌, refl, sym, ap, ◌∙◌, subst}
use mathlib.Core.List.{IsPrefix}
use Rattle.turnstile.specs.Views.{PassModel}
use Rattle.turnstile.proofs.Beginnings.{prefix_self}
use Rattle.group_gpu.specs.declared.noted_call.NotedCall.{NotedCall}
use Rattle.group_gpu.specs.Groups.{is_answered, calls_of}
use Rattle.group_gpu.proofs.Grouping.{calls_noted}
use Rattle.group_gpu.proofs.call_turn.look_for_line.Goals as goal

pub returns-then-is_stopped-clause-stopped : goal.returns-then-is_stopped-clause-stopped
returns-then-is_stopped-clause-stopped g c =
    let t = c.take-turn in
    record {
      old = t.result.value;
      new = t.result.value;
      begins = t.ensures.begins;
      seen = ap (λ (p : PassModel NotedCall). p.seen) c.put.ensures.pass;
      did = (sym c.is_stopped.ensures ∙ c.if-is_stopped.true, refl);
    }

pub put-requires-2-clause-begins : goal.put-requires-2-clause-begins
put-requires-2-clause-begins g c =
    let t = c.take-turn in
    subst (λ l. IsPrefix t.new.pass.seen l) (ap (λ (p : PassModel NotedCall). p.seen) t.ensures.pass) (prefix_self t.new.pass.seen)

pub returns-clause-answered : goal.returns-clause-answered
returns-clause-answered g c =
    let v = c.take-turn.result.value in
    let seen = ap (λ (p : PassModel NotedCall). calls_of p.seen) c.put-2.ensures.pass ∙ calls_noted v.seat.group v.front.threads v.front.history in
    c.has_answered-answered.ensures ∙ (ap (λ h. is_answered h c.args.line) c.history-2.ensures.history ∙ ap (λ h. is_answered h c.args.line) (sym seen))
