use Rattle.barriers.proofs.Licences.{tracks_access, tracks_barrier, tracks_new, tracks_nodes, due_by_is}
use Rattle.barriers.proofs.recording_laws.trackers_take_uses.Goals as goal

pub returns : goal.returns
returns c = record {
  starts = tracks_new;
  nodes = λ t id is_image uses nodes k. tracks_nodes id is_image nodes t uses k;
  access = λ t id is_image uses access k some. tracks_access t id is_image uses k access some;
  barrier = λ t id is_image uses barrier k. tracks_barrier t id is_image uses k barrier;
  due = λ t id is_image uses touch k. due_by_is t id is_image uses k touch;
}
