use Rattle.std.specs.Prelude.{Some}
use Rattle.front_model.specs.Stands.{no_hands}
use Rattle.front_model.specs.Steps.{fresh_slot}
use Rattle.front_model.proofs.Base.{put-same}
use Rattle.front_moves.specs.Core.{face, in_hand}
use Rattle.front_moves.proofs.ObjectStores.{owns_kept}
use Rattle.front_moves.proofs.recording_comes_to.stopped_recording_comes_to.Goals as goal

pub returns : goal.returns
returns c = record {
  owns = λ a d s h keeps. owns_kept a.stores d.stores s keeps (c.steps_may.ensures.owns (face a) no_hands s h);
  lets_go = λ a d s id k h keeps. owns_kept a.stores d.stores _ keeps
      (c.steps_may.ensures.lets_go (face a) (in_hand id k) s id (fresh_slot id k) h (put-same no_hands id (Some (fresh_slot id k))));
}
