use Rattle.vk_effects.proofs.Discarding.{barrier_of_no_layout, barrier_from_another, barrier_from_undefined}
use Rattle.vk_effects.proofs.barrier_laws.barrier_changes_no_bytes.Goals as goal

pub returns : goal.returns
returns c = record {
  no_layouts = barrier_of_no_layout;
  from_another = λ kinds q b c id i old new. barrier_from_another kinds q b c id i old new;
  from_undefined = λ kinds q b c i new. barrier_from_undefined kinds q b c i new;
}
