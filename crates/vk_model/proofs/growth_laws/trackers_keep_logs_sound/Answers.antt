use Rattle.vk_model.proofs.Trackers.{tracked_nothing, barrier_next, node_next, tracked_next}
use Rattle.vk_model.proofs.growth_laws.trackers_keep_logs_sound.Goals as goal

pub returns : goal.returns
returns c = record { starts = tracked_nothing; barrier = barrier_next; node = node_next; kept = tracked_next }
