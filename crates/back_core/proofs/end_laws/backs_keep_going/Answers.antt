use Rattle.back_core.proofs.Calling.{start_going, gone_going, cleaned_going}
use Rattle.back_core.proofs.HostBytes.{gone_wrote, cleaned_wrote}
use Rattle.back_core.proofs.end_laws.backs_keep_going.Goals as goal

pub returns : goal.returns
returns c = record {
  starts = start_going;
  batches = gone_going;
  cleaned = cleaned_going;
  batches_write = gone_wrote;
  cleanups_write = cleaned_wrote;
}
