-- The uses of an object in a log.
use Rattle.std.specs.Prelude.{◌≡◌, ◌≢◌, ℕ, ◌==◌, Bool, true, false, List, [], ◌∷◌, map, IfSome, All, if◌then◌else◌, not}
use Rattle.std.specs.List.{filter, flat_map}
use Rattle.std.specs.Option.{option_map_or}
use Rattle.vk_types.specs.Accesses.{no_access, in_common, host_read}
use Rattle.vk_types.specs.declared.accesses.Access.{Access}
use Rattle.vk_types.specs.declared.regions.Touch.{Touch}
use Rattle.vk_types.specs.declared.ops.Node.{Node}
use Rattle.vk_types.specs.Touches.{touches, barrier_of}
use Rattle.vk_model.specs.Log.{Item, Command, HostWrite, Wait, Signal, touches_object}
use Rattle.barriers.specs.Licence.{Use, Accessed, Fenced, last_barrier, since, union}

-- the joint access of a node on an object: the kinds of all its touches of it
abbrev pub joint_access : Node → ℕ → Access
joint_access n id = union (map (λ t. t.access) (filter (λ t. t.id.0 == id) (touches n)))

-- a touch with the node's joint access of its object
abbrev pub jointly : Node → Touch → Touch
jointly n t = record { id = t.id; start = t.start; «end» = t.end; access = joint_access n t.id.0; layout = t.layout }

-- what a node is to an object that it touches
abbrev pub use_by : Node → ℕ → Use
use_by n id = option_map_or (λ barrier. Fenced barrier) (barrier_of n) (Accessed (joint_access n id))

abbrev pub uses_by : ℕ → Item → List Use
uses_by id (Command queue n) = if touches_object n id then use_by n id ∷ [] else []
uses_by id (HostWrite i at bytes) = []
uses_by id (Wait queue signal) = []
uses_by id (Signal queue signal) = []

-- the uses of an object by the nodes of a log
abbrev pub uses_in : List Item → ℕ → List Use
uses_in log id = flat_map (uses_by id) log

-- a read by the host, which no node is
abbrev pub is_host_read : Use → Bool
is_host_read (Accessed access) = access.0 == host_read.0
is_host_read (Fenced barrier) = false

-- These are the uses of an object by the nodes of a log, and between them reads by the host. The last barrier lets some kind of each access
-- after it through.
pub record AreUsesIn (log : List Item) (id : ℕ) (uses : List Use) : Type 0 where
  pub without_reads : filter (λ u. not (is_host_read u)) uses ≡ uses_in log id
  pub some : IfSome (last_barrier uses) (λ barrier. barrier.second ≢ no_access)
  pub let_through : IfSome (last_barrier uses) (λ barrier. All (λ access. in_common access barrier.second ≡ true) (since uses))
