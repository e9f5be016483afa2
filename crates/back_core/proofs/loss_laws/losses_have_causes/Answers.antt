use Rattle.back_core.proofs.Losses.{loss_opening, loss_starts, loss_later, loss_then, loss_batches, loss_cleans, loss_closes, loss_stops, loss_waits}
use Rattle.back_core.proofs.loss_laws.losses_have_causes.Goals as goal

pub returns : goal.returns
returns c = record {
  opening = loss_opening;
  starts = loss_starts;
  later = loss_later;
  goes_on = loss_then;
  batches = loss_batches;
  cleans = loss_cleans;
  closes = loss_closes;
  stops = loss_stops;
  waits = loss_waits;
}
