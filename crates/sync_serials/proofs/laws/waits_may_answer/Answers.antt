use Rattle.sync_serials.proofs.Waits.{found_sync, found_by_wait, gl_answers, egl_answers}
use Rattle.sync_serials.proofs.laws.waits_may_answer.Goals as goal

pub returns : goal.returns
returns c = record { found = found_sync; found_by_wait = found_by_wait; answers = gl_answers; egl_answers = egl_answers }
