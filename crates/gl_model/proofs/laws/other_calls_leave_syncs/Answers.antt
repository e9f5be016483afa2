use Rattle.gl_model.proofs.SyncLaws.{quiet_fences, quiet_egl_fences, quiet_births}
use Rattle.gl_model.proofs.laws.other_calls_leave_syncs.Goals as goal

pub returns : goal.returns
returns c = record { fences = quiet_fences; egl_fences = quiet_egl_fences; births = quiet_births }
