use Rattle.cells.specs.Contents.{cells, Agrees}
use Rattle.gl_model.specs.ImageEffect.{read_cells}
use Rattle.transfer.specs.Shown.{Shows}
use Rattle.readback.specs.Plans.{plan_size, placed}
use Rattle.readback.proofs.Showing.{of_plan, placed_agrees}
use Rattle.readback.proofs.laws.place_is_exact.Goals as goal

pub returns : goal.returns
returns c = λ read pixels kind rect plan seen host is shows agrees.
    of_plan read.info pixels kind rect
    (λ plan. Shows seen (read_cells read pixels kind plan.part.rect.x plan.part.rect.y plan.part.rect.w plan.part.rect.h) → Agrees host (cells (plan_size plan) seen) → Agrees (placed plan host) (read_cells read pixels kind rect.x rect.y rect.w rect.h))
    plan (λ some shows agrees. placed_agrees read pixels kind rect seen host shows agrees) is shows agrees
