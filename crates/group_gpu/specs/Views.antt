-- A share group behind its turnstile, as contracts see it.
use Rattle.front_core.specs.Front.{FrontModel}
use Rattle.shared_gpu.specs.Views.{SeatModel}

-- the front, and the group's seat at the back
pub record GroupedModel : Type 0 where
  pub front : FrontModel
  pub seat : SeatModel
