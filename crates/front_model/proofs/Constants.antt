-- What a front that holds has recorded writes no constants.
use Rattle.std.proofs.Common.{◌≡◌, ℕ, sym, ◌∙◌, ap, inl, inr}
use Rattle.std.specs.Prelude.{◌⊎◌, Some, slice_get}
use Rattle.std.specs.Option.{option_map}
use Rattle.std.proofs.lemmas.Option.{none-some, slice_get-map}
use Rattle.vk_types.specs.declared.ops.Node.{Node}
use Rattle.vk_model.specs.Log.{Command, commands}
use Rattle.back_core.specs.Own.{log_of}
use Rattle.back_core.specs.Link.{Link}
use Rattle.back_core.specs.Needs.{IsOfGroup}
use Rattle.front_model.specs.Face.{Face, in_order, indexes_of}
use Rattle.front_model.specs.Stands.{Hands, WritesNoConstants, Holds}
use Rattle.front_model.proofs.Sounds.{recordable_left}
use Rattle.front_model.proofs.Orders.{split, recordable_pending}
use Rattle.front_model.proofs.LinkSteps.{own_or_not}

pub listed_plain : (f : Face) (hands : Hands) (s : Link) (k queue : ℕ) (n : Node) → Holds f hands s → slice_get (log_of s.mine) k ≡ Some (Command queue n) → WritesNoConstants n.op
listed_plain f hands s k queue n h at = (recordable_left (log_of s.mine) (commands 0 (in_order f)) h.recordable k queue n at).plain

pub pending_plain : (f : Face) (hands : Hands) (s : Link) (index k : ℕ) (n : Node) → Holds f hands s → slice_get (f.pending index) k ≡ Some n → WritesNoConstants n.op
pending_plain f hands s index k n h at = go (own_or_not f.group index)
  where
    go : IsOfGroup f.group index ⊎ (IsOfGroup f.group index → ⊥) → WritesNoConstants n.op
    go (inl own) =
        (recordable_pending f.pending (indexes_of f.group) index (split f.group index own) (log_of s.mine) h.recordable k 0 n
        (slice_get-map (Command 0) (f.pending index) k ∙ ap (option_map (Command 0)) at)).plain
    go (inr other) = absurd (none-some n (ap (λ l. slice_get l k) (sym (h.of_group index other)) ∙ at))
