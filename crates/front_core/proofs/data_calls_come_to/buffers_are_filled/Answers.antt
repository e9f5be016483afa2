use Rattle.front_model.specs.Stands.{no_hands}
use Rattle.front_core.proofs.BufferCalls.{has_store}
use Rattle.front_core.proofs.DataCalls.{filled_nothing, filled_by_store, filled_by_upload}
use Rattle.front_core.proofs.data_calls_come_to.buffers_are_filled.Goals as goal

pub returns : goal.returns
returns r = record {
  owns = λ f s h. r.steps_may.ensures.owns f no_hands s h;
  nothing = filled_nothing;
  store = filled_by_store;
  upload = filled_by_upload;
  has_store = has_store;
}
