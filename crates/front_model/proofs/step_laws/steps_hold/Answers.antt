use Rattle.front_model.proofs.LinkSteps.{new_holds, created_holds, wrote_holds, fetched_holds, learned_holds, gave_holds}
use Rattle.front_model.proofs.ObjectSteps.{begun_holds, ended_holds, staged_holds, staged_clear_holds}
use Rattle.front_model.proofs.Taking.{taken_holds, taken_clear_holds}
use Rattle.front_model.proofs.Recording.{enqueued_holds, recorded_holds}
use Rattle.front_model.proofs.step_laws.steps_hold.Goals as goal

pub returns : goal.returns
returns c = record {
  starts = new_holds;
  creates = created_holds;
  writes = λ f hands s id at bytes h none len made. wrote_holds f hands s id at bytes h len made;
  fetches = λ f hands s id at bytes h target untouched known. fetched_holds f hands s id at bytes h target untouched known c.host_reads_are_uses.ensures.fenced c.trackers_take_uses.ensures.access;
  learns = learned_holds;
  enqueues = λ f hands s index batch h own next room. enqueued_holds f hands s index batch h own next c.lists_change_places.ensures.sound c.uses_are_low.ensures.batch c.uses_change_places.ensures.nodes c.uses_change_places.ensures.tracks c.uses_change_places.ensures.fenced room;
  gives = gave_holds;
  records = λ f hands s index nodes h may. recorded_holds f hands s index nodes h may c.conflict_is_mutual.ensures c.uses_change_places.ensures.nodes c.uses_change_places.ensures.tracks c.trackers_take_uses.ensures.nodes c.lists_change_places.ensures.sound c.uses_change_places.ensures.fenced;
  begins = begun_holds;
  ends = ended_holds;
  stages = staged_holds;
  takes = taken_holds;
  stages_clear = staged_clear_holds;
  takes_clear = taken_clear_holds;
}
