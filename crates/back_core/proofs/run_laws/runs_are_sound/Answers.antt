use Rattle.back_core.proofs.Agreeing.{agreeing}
use Rattle.back_core.proofs.Layouts.{log_sound, finds_layouts}
use Rattle.back_core.proofs.Visible.{visible}
use Rattle.back_core.proofs.run_laws.runs_are_sound.Goals as goal

pub returns : goal.returns
returns c = record {
  sound = log_sound c.runs_meet_the_device.ensures.settled;
  layouts = finds_layouts c.runs_meet_the_device.ensures.settled;
  visible = visible c.runs_meet_the_device.ensures.settled;
  agrees = agreeing c.runs_meet_the_device.ensures.settled c.runs_meet_the_device.ensures.inside;
}
