use Rattle.barriers.proofs.Places.{nodes_may, tracks_placed, fenced_placed}
use Rattle.barriers.proofs.recording_laws.uses_change_places.Goals as goal

pub returns : goal.returns
returns c = record { nodes = nodes_may; tracks = tracks_placed; fenced = fenced_placed }
