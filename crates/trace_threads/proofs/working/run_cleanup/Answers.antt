use denote.Exit.{no}
use denote.Param.Send.{IsSend, param_send, arg_send, shr_send}
use Rattle.trace_threads.proofs.Crossing.{two_send, three_send, answer_send, back_pass_send, back_sync}
use Rattle.trace_threads.proofs.working.run_cleanup.Goals as goal

pub join-requires-send-F : goal.join-requires-send-F
join-requires-send-F g c κs within =
    let device = c.requires.bounds.1 in
    param_send 1 _ (arg_send _ no _ (three_send _ _ _ _ (shr_send _ _ _ c.requires.bounds.0) (shr_send _ _ _ (back_sync _ g.D.Device device)) (back_pass_send _ g.D.Device device)))

pub join-requires-send-A : goal.join-requires-send-A
join-requires-send-A g c κs within = param_send 3 _ (arg_send _ no _ (two_send _ _ _ (back_pass_send _ g.D.Device c.requires.bounds.1) answer_send))
