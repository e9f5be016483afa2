use Rattle.front_model.proofs.QuietViews.{view_quiet}
use Rattle.front_model.proofs.quiet_laws.quiet_objects_show.Goals as goal

pub returns : goal.returns
returns c = view_quiet
