use Rattle.std.proofs.Common.{sym, subst, refl, arith, length}
use Rattle.gl_model.specs.Reached.{reached}
use Rattle.front_model.specs.declared.object.Object.TheVariants.{Buffer}
use Rattle.front_model.specs.Stands.{no_hands}
use Rattle.front_model.specs.Wanted.{wanted, AgreeWith}
use Rattle.front_moves.specs.Core.{face}
use Rattle.front_core.proofs.laws.fronts_go_on_standing.Goals as goal

pub returns : goal.returns
returns c f s t stands learns = record {
  running = stands.running;
  open_still = stands.open_still;
  legal = stands.legal;
  its_data = stands.its_data;
  group_is = stands.group_is;
  stands = record {
    holds = c.steps_hold.ensures.learns (face f.core) no_hands s t stands.stands.holds learns;
    kinds = stands.stands.kinds;
    agreement = subst (λ v. AgreeWith v (wanted (reached f.threads f.history))) (sym (c.link_steps_show.ensures.learns (face f.core) s t learns)) stands.stands.agreement;
    maps = λ b mapped. c.quiet_objects_stay.ensures.learns (face f.core) s t (Buffer b) learns (stands.stands.maps b mapped);
  };
  indexes = stands.indexes;
  serials_stand = c.syncs_stand_on.ensures.goes_on (face f.core) (face f.core) s t f.serials f.syncs (reached f.threads f.history) (length f.history) stands.serials_stand
      (record { group = refl; last = λ i. omega arith; done = learns.rises });
  declared = stands.declared;
}
