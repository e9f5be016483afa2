use Rattle.std.proofs.Common.{◌≡◌, ◌+◌, ◌-◌, ◌≤◌, sym, ap, ◌∙◌, subst, arith}
use denote.Exit.{no}
use denote.Param.Send.{IsSend, param_send, arg_send, shr_send}
use Rattle.trace_threads.specs.Joins.{HasJoined}
use Rattle.trace_threads.proofs.Crossing.{two_send, three_send, answer_send, back_pass_send, back_sync}
use Rattle.trace_threads.proofs.Joining.{joined_one}
use Rattle.trace_threads.proofs.working.+devices.Goals as goal

pub join-pass-requires-send-F : goal.join-pass-requires-send-F
join-pass-requires-send-F g t c κs within =
    let device = c.requires.bounds.1 in
    param_send 1 _ (arg_send _ no _ (three_send _ _ _ _ (shr_send _ _ _ c.requires.bounds.0) (shr_send _ _ _ (back_sync _ g.D.Device device)) (back_pass_send _ g.D.Device device)))

pub join-pass-requires-send-A : goal.join-pass-requires-send-A
join-pass-requires-send-A g t c κs within = param_send 3 _ (arg_send _ no _ (two_send _ _ _ (back_pass_send _ g.D.Device c.requires.bounds.1) answer_send))

pub returns-in-Ok-clause-joined : goal.returns-in-Ok-clause-joined
returns-in-Ok-clause-joined g t c =
    let pass = c.join-pass.ensures.first.0 in
    let others = c.join-pass.ensures.second.0 in
    let some : (c.args.count - 1) + 1 ≡ c.args.count = omega arith in
    subst (λ n. HasJoined c.args.zero c.join.new.pass n) some
    (joined_one c.args.zero c.split-pass.new.pass _ c.join.new.pass _ (c.args.count - 1) _ _ c.split-pass.ensures.pass others (pass.number ∙ ap (λ p. p.number) c.split-pass.ensures.made) c.join.ensures.pass c.join.ensures.begins.0)

pub returns-in-Err-clause-joined : goal.returns-in-Err-clause-joined
returns-in-Err-clause-joined g t c =
    let pass = c.join-pass.ensures.first.0 in
    let others = c.join-pass.ensures.second.0 in
    let some : (c.args.count - 1) + 1 ≡ c.args.count = omega arith in
    subst (λ n. HasJoined c.args.zero c.join.new.pass n) some
    (joined_one c.args.zero c.split-pass.new.pass _ c.join.new.pass _ (c.args.count - 1) _ _ c.split-pass.ensures.pass others (pass.number ∙ ap (λ p. p.number) c.split-pass.ensures.made) c.join.ensures.pass c.join.ensures.begins.0)
