use Rattle.play_model.proofs.Traces.{members_are}
use Rattle.play_model.proofs.Starting.{start_played}
use Rattle.play_model.proofs.GoingOn.{goes_on}
use Rattle.play_model.proofs.laws.plays_go_on.Goals as goal

pub returns : goal.returns
returns c = record {
  starts = start_played;
  goes_on = λ threads p q thread trace has plays. goes_on threads p q thread has plays trace;
  members = members_are;
}
