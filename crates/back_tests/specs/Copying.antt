-- Two buffers, and a copy from one to the other.
use Rattle.std.specs.Prelude.{◌≡◌, ◌≢◌, ℕ, true, List, [], ◌∷◌, Some, None}
use Rattle.vk_types.specs.Accesses.{transfer_write, host_read}
use Rattle.vk_types.specs.declared.handles.HandleId.{HandleId}
use Rattle.vk_types.specs.declared.handles.Kind.TheVariants.{Buffer}
use Rattle.vk_types.specs.declared.ops.Node.{Node}
use Rattle.vk_types.specs.declared.ops.Op.TheVariants.{CopyBuffer}
use Rattle.vk_types.specs.declared.ops.Op.TheVariants as op
use Rattle.back_core.specs.Link.{Link}

-- two buffers of four bytes, which the first group holds and has not used
pub record HasTwo (s : Link) (src dst : ℕ) : Type 0 where
  pub of_group : s.group ≡ 0
  pub unused : s.mine ≡ []
  pub differ : src ≢ dst
  pub src_held : s.held src ≡ true
  pub dst_held : s.held dst ≡ true
  pub src_kind : s.kinds src ≡ Some (Buffer 4)
  pub dst_kind : s.kinds dst ≡ Some (Buffer 4)

-- the copy of four bytes
abbrev pub copy : HandleId → HandleId → Node
copy src dst = record { op = CopyBuffer src 0 dst 0 4 }

-- what makes the copied bytes known to the host
abbrev pub hand_over : HandleId → Node
hand_over dst = record { op = op.Barrier (record { id = dst; first = transfer_write; second = host_read; layouts = None }) }

abbrev pub copy_nodes : HandleId → HandleId → List Node
copy_nodes src dst = copy src dst ∷ hand_over dst ∷ []

-- three objects, which the first group holds and has not used
pub record HasThree (s : Link) (first second third : ℕ) : Type 0 where
  pub of_group : s.group ≡ 0
  pub unused : s.mine ≡ []
  pub apart : (first ≢ second) × (first ≢ third) × (second ≢ third)
  pub first_held : s.held first ≡ true
  pub second_held : s.held second ≡ true
  pub third_held : s.held third ≡ true
