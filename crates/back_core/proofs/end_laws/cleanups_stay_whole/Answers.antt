use Rattle.back_core.proofs.Whole.{whole_nil, whole_then, whole_cleaned, whole_calls, whole_on, whole_closed, whole_stopped}
use Rattle.back_core.proofs.end_laws.cleanups_stay_whole.Goals as goal

pub returns : goal.returns
returns c = record {
  starts = whole_nil;
  goes_on = whole_then;
  cleaned = whole_cleaned;
  calls = whole_calls;
  batches = whole_on;
  closes = whole_closed;
  stops = whole_stopped;
}
