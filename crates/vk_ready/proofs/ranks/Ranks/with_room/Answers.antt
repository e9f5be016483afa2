use Rattle.vk_ready.proofs.Halves.{ranked_nothing, ranked_slots, ranked_again}
use Rattle.vk_ready.proofs.ranks.Ranks.with_room.Goals as goal

pub invariant_of-result : goal.invariant_of-result
invariant_of-result c =
    ranked_again c.in_ok-vec.field-0.items 0 _ (ranked_nothing c.in_ok-vec.field-0.items c.args.room (c.in_ok-vec.ensures.items_if_clones_equal (λ y e. e)))

pub returns : goal.returns
returns c = (
  ranked_slots c.in_ok-vec.field-0.items 0 _ (ranked_nothing c.in_ok-vec.field-0.items c.args.room (c.in_ok-vec.ensures.items_if_clones_equal (λ y e. e))),
  c.in_ok-vec.ensures.len,
)
