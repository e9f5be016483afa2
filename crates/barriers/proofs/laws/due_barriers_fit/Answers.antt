use Rattle.barriers.proofs.WithDue.{joint_touch}
use Rattle.barriers.proofs.Due.{named_object, named_layouts, named_new}
use Rattle.barriers.proofs.laws.due_barriers_fit.Goals as goal

pub returns : goal.returns
returns c = record { touch = joint_touch; of = named_object; layouts = λ id is_image uses touch barrier of due. named_layouts id is_image uses touch barrier due of; new = named_new }
