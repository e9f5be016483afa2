use Rattle.std.proofs.Common.{ℕ, List, [], refl, arith}
use Rattle.gl_model.specs.GroupState.{no_names, opening_group}
use Rattle.gl_state.specs.Order.{IsTied, IsWhole}
use Rattle.gl_state.proofs.state.SharedState.new.Goals as goal

none_tied : {V : Type 0} → IsTied {V = V} no_names [] []
none_tied = record { ordered = tt; rising = tt; listed = refl; once = λ b. omega arith; later = λ b above. refl; fresh = λ b above. refl }

opening : (threads : List ℕ) → IsWhole (opening_group threads) (record { buffers = []; textures = []; renderbuffers = [] })
opening threads = record {
  kept = record { contexts = tt; buffers = tt; referred = refl };
  tied = record { buffers = none_tied; textures = none_tied; renderbuffers = none_tied };
}

pub invariant_of-result : goal.invariant_of-result
invariant_of-result c = record { whole = rw (c.in_ok-group.ensures, c.new-2.ensures) (opening c.args.threads.now); fits = c.new-3.ensures _ _ _ }
