-- A play before its first line.
use Rattle.std.proofs.Common.{◌≡◌, ℕ, zero, suc, List, [], ◌∷◌, refl, subst, arith}
use Rattle.std.specs.Prelude.{Some, Contains, slice_get}
use Rattle.std.proofs.lemmas.List.{length-map}
use Rattle.std.proofs.lemmas.List.Elements.{All-nil}
use Rattle.std.proofs.lemmas.Option.{same_Some, none-some}
use Rattle.gl_calls.specs.declared.reply.Entry.{Entry}
use Rattle.trace_text.specs.Reading.{Plan}
use Rattle.play_model.specs.Plays.{HasPlayed, AreAnswered, none_done, opening_play, members}
use Rattle.play_model.proofs.Lists.{not_nil}

none_yet : (threads : List Plan) (thread count : ℕ) → slice_get (none_done threads) thread ≡ Some count → 0 ≡ count
none_yet [] thread count at = absurd (none-some count at)
none_yet (p ∷ threads) zero count at = same_Some 0 count at
none_yet (p ∷ threads) (suc thread) count at = none_yet threads thread count at

pub start_played : (threads : List Plan) → HasPlayed threads (opening_play threads)
start_played threads = record {
  legal = λ group. tt;
  own = λ group. All-nil (λ (e : Entry). Contains (members threads group) e.thread);
  behind = λ group before rest e same. absurd (not_nil before rest e same);
  each = length-map threads (λ plan. 0);
  answered = λ thread count plan is at. subst (AreAnswered threads (opening_play threads) thread plan) (none_yet threads thread count at)
      (record { few = omega arith; in_order = refl });
}
