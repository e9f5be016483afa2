use Rattle.vk_types.specs.declared.handles.Kind.TheVariants as kind
use Rattle.front_model.specs.Stands.{no_hands}
use Rattle.front_moves.proofs.stores_come_to.blank_comes_to.Goals as goal

pub returns : goal.returns
returns c = record {
  made = λ f s id size h fresh. record {
    holds = c.steps_hold.ensures.creates f no_hands s id (kind.Buffer size) h fresh;
    view_is = c.link_steps_show.ensures.creates f no_hands s id (kind.Buffer size) h fresh;
    still = λ o quiet. c.quiet_objects_stay.ensures.creates f no_hands s o id (kind.Buffer size) h fresh quiet;
    has = c.fresh_handles_show.ensures.blank f no_hands s id (kind.Buffer size) h fresh;
  };
  owns = λ f s. c.steps_may.ensures.owns f no_hands s;
}
