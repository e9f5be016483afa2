use Rattle.std.proofs.Common.{ℕ, ◌≡◌, ◌∙◌, length, Some, arith}
use Rattle.vk_types.specs.declared.handles.Kind.{Kind}
use Rattle.vk_types.specs.declared.handles.Kind.TheVariants as kind
use Rattle.front_model.specs.Stands.{no_hands}
use Rattle.front_model.specs.Steps.{fresh_slot}
use Rattle.front_model.proofs.Base.{put-same}
use Rattle.front_moves.specs.Core.{in_hand}
use Rattle.front_moves.proofs.stores_come_to.filled_comes_to.Goals as goal

-- what is in hand
is_in_hand : (id : ℕ) (k : Kind) → in_hand id k id ≡ Some (fresh_slot id k)
is_in_hand id k = put-same no_hands id (Some (fresh_slot id k))

pub returns : goal.returns
returns c = record {
  may = λ f s t id size fresh some. c.steps_may.ensures.write_fresh f (in_hand id (kind.Buffer size)) t id size 0 size fresh.holds (is_in_hand id (kind.Buffer size)) (omega (arith, some)) (omega arith);
  written = λ f s t id bytes fresh few.
      let apart = λ (index : ℕ). c.steps_may.ensures.untouched f (in_hand id (kind.Buffer (length bytes))) t id index (kind.Buffer (length bytes)) fresh.holds (is_in_hand id (kind.Buffer (length bytes))) in
      record {
        holds = c.steps_hold.ensures.writes f (in_hand id (kind.Buffer (length bytes))) t id 0 bytes fresh.holds apart (length bytes)
            (c.steps_may.ensures.hands f (in_hand id (kind.Buffer (length bytes))) t id (fresh_slot id (kind.Buffer (length bytes))) fresh.holds (is_in_hand id (kind.Buffer (length bytes))));
        view_is = c.link_steps_show.ensures.writes_hand f (in_hand id (kind.Buffer (length bytes))) t id 0 bytes (fresh_slot id (kind.Buffer (length bytes))) fresh.holds (is_in_hand id (kind.Buffer (length bytes))) apart ∙ fresh.view_is;
        still = λ o quiet. c.quiet_objects_stay.ensures.writes f t o id 0 bytes (fresh.still o quiet);
        has = c.fresh_handles_show.ensures.filled f (in_hand id (kind.Buffer (length bytes))) t id bytes fresh.holds apart few fresh.has;
      };
  held = λ f s id k h. (h.hands_stand id (fresh_slot id k) (is_in_hand id k)).stands.held;
  let_go = λ f s id k h. c.steps_may.ensures.lets_go f (in_hand id k) s id (fresh_slot id k) h (is_in_hand id k);
  owns = λ f s. c.steps_may.ensures.owns f no_hands s;
}
