-- A batch of a test.
use Rattle.std.specs.Prelude.{◌≡◌, List, [], ◌∷◌, None}
use Rattle.vk_types.specs.Accesses.{transfer_write}
use Rattle.vk_types.specs.declared.handles.HandleId.{HandleId}
use Rattle.vk_types.specs.declared.ops.Node.{Node}
use Rattle.vk_types.specs.declared.ops.Op.{Op}
use Rattle.vk_types.specs.declared.ops.Op.TheVariants.{FillBuffer}

-- two fills of a buffer, a barrier for both, and a fill behind it
abbrev pub AreFourNodes : HandleId → List Node → Type 0
AreFourNodes id nodes = nodes ≡
    (record { op = FillBuffer id 0 4 1 }) ∷ (record { op = FillBuffer id 8 4 2 })
    ∷ (record { op = Op.Barrier (record { id = id; first = transfer_write; second = transfer_write; layouts = None }) })
    ∷ (record { op = FillBuffer id 0 4 3 }) ∷ []
