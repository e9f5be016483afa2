use Rattle.front_model.proofs.LinkViews.{view_created, view_wrote_hand, view_wrote, view_fetched, view_learns, view_enqueued}
use Rattle.std.proofs.Common.{refl}
use Rattle.front_model.proofs.view_laws.link_steps_show.Goals as goal

pub returns : goal.returns
returns c = record {
  starts = λ s group. refl;
  creates = view_created;
  writes_hand = view_wrote_hand;
  writes = view_wrote;
  fetches = view_fetched;
  learns = view_learns;
  enqueues = view_enqueued;
  gives = λ f s id uses. refl;
}
