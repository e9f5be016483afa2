use Rattle.front_model.proofs.Shown.{view_with}
use Rattle.std.proofs.Common.{None}
use Rattle.front_model.proofs.FrontViews.{recorded_nodes, view_apart, view_barriers, view_copied, view_uploaded, view_drained, view_begun, view_staged, view_superseded}
use Rattle.front_model.proofs.view_laws.front_steps_show.Goals as goal

pub returns : goal.returns
returns c = record {
  records = recorded_nodes;
  apart = view_apart;
  copies = view_copied;
  uploads = view_uploaded;
  drains = view_drained;
  barriers = view_barriers;
  begins = view_begun;
  ends = λ f s o. view_with f s o None;
  stages = view_staged;
  supersedes = view_superseded;
}
