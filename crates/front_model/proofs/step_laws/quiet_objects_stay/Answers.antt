use Rattle.front_model.proofs.Quiet.{created_quiet, wrote_quiet, fetched_quiet, learned_quiet, enqueued_quiet, gave_quiet, recorded_quiet, other_quiet, known_readable}
use Rattle.front_model.proofs.step_laws.quiet_objects_stay.Goals as goal

pub returns : goal.returns
returns c = record {
  creates = created_quiet;
  writes = wrote_quiet;
  fetches = λ f s o id at bytes untouched quiet. fetched_quiet c.host_reads_are_uses.ensures.again f s o id at bytes untouched quiet;
  learns = learned_quiet;
  enqueues = enqueued_quiet;
  gives = gave_quiet;
  records = recorded_quiet;
  others = other_quiet;
  known = known_readable c.writes_are_made_known.ensures;
}
