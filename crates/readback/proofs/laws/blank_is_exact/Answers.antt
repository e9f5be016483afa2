use Rattle.readback.proofs.Showing.{of_no_plan, blank_agrees}
use Rattle.readback.proofs.laws.blank_is_exact.Goals as goal

pub returns : goal.returns
returns c = λ read pixels kind rect bytes none long. blank_agrees read pixels kind rect bytes (of_no_plan read.info pixels kind rect none) long
