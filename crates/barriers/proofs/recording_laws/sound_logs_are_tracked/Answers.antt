use Rattle.barriers.proofs.Tracked.{tracked}
use Rattle.barriers.proofs.recording_laws.sound_logs_are_tracked.Goals as goal

pub returns : goal.returns
returns c = tracked
