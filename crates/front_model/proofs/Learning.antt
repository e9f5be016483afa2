-- What was known of a front holds still where its link only learned how far the back is.
use Rattle.std.proofs.Common.{ℕ, sym, subst}
use Rattle.std.specs.Prelude.{Option}
use Rattle.back_core.specs.Link.{Link, Asked}
use Rattle.back_core.specs.Answers.{Learns}
use Rattle.gl_model.specs.GroupModel.{GroupModel}
use Rattle.front_model.specs.declared.object.Object.{Object}
use Rattle.front_model.specs.declared.object.Object.TheVariants.{Buffer}
use Rattle.front_model.specs.Face.{Stored, Face}
use Rattle.front_model.specs.Stands.{no_hands, StoredOwned, Owns}
use Rattle.front_model.specs.Wanted.{wanted, AgreeWith, Stands}
use Rattle.front_model.proofs.LinkSteps.{learned_holds}
use Rattle.front_model.proofs.LinkViews.{view_learns}
use Rattle.front_model.proofs.Quiet.{learned_quiet}

-- whose a handle is rests on what is held alone
knowing_owns : (objects : Object → Option Stored) (s : Link) (d : ℕ → ℕ) (n : Option (ℕ → ℕ)) (a : Option Asked) → Owns objects s → Owns objects (record s { done = d; now = n; asked = a })
knowing_owns objects s d n a owns = record {
  owner = owns.owner;
  each = λ o b at. let u : StoredOwned s owns.owner o b = owns.each o b at in record { held = u.held; owned = u.owned; waiting = u.waiting };
  licensed = owns.licensed;
}

pub learned_owns : (objects : Object → Option Stored) (s t : Link) → Owns objects s → Learns s t → Owns objects t
learned_owns objects s t owns learns = subst (Owns objects) (sym learns.rest) (knowing_owns objects s t.done t.now t.asked owns)

pub learned_stands : (f : Face) (s t : Link) (state : GroupModel) → Stands f s state → Learns s t → Stands f t state
learned_stands f s t state stands learns = record {
  holds = learned_holds f no_hands s t stands.holds learns;
  kinds = stands.kinds;
  agreement = subst (λ seen. AgreeWith seen (wanted state)) (sym (view_learns f s t learns)) stands.agreement;
  maps = λ b mapped. learned_quiet f s t (Buffer b) learns (stands.maps b mapped);
}
