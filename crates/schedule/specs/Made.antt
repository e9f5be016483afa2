-- What the moves of a schedule make of a world.
use Rattle.std.specs.Prelude.{◌≡◌, ℕ, List, [], ◌∷◌, ◌++◌}
use Rattle.vk_types.specs.declared.stops.Stop.{Stop}
use Rattle.vk_device.specs.declared.logged.Logged.{Logged}
use Rattle.back_core.specs.Steps.{AreCompleted}
use Rattle.world_core.specs.declared.event.Event.TheVariants.{Call, Submit, Turn, Retire, Cleanup}
use Rattle.world_core.specs.declared.event.Stepped.{Stepped}
use Rattle.world_core.specs.declared.event.Stepped.TheVariants.{Done}
use Rattle.world_core.specs.World.{WorldModel}
use Rattle.world_core.specs.Steps.{IsStep, IsHalt, HasHalted}
use Rattle.schedule.specs.Moves.{Move, Calls, Submits, Turns, Retires, Cleans}

-- A move was made. One of the back that finds nothing to do is made too; a cleanup is told the completed numbers of its moment.
abbrev pub IsMade : {D : Type 0} → (D → List Logged) → WorldModel D → WorldModel D → Move → Type 0
IsMade journal old new (Calls thread) = IsStep journal old new (Call thread) Done
IsMade journal old new Submits = (stepped : Stepped) × IsStep journal old new Submit stepped
IsMade journal old new Turns = (stepped : Stepped) × IsStep journal old new Turn stepped
IsMade journal old new Retires = (stepped : Stepped) × IsStep journal old new Retire stepped
IsMade journal old new Cleans = (read : List ℕ) × AreCompleted old.back.history read × IsStep journal old new (Cleanup read) Done

-- these moves were made, one after the other, and nothing else
abbrev pub AreMade : {D : Type 0} → (D → List Logged) → WorldModel D → WorldModel D → List Move → Type 0
AreMade journal old new [] = old ≡ new
AreMade {D} journal old new (move ∷ moves) = (middle : WorldModel D) × IsMade journal old middle move × AreMade journal middle new moves

-- a move ended by a stop
abbrev pub IsStopped : {D : Type 0} → (D → List Logged) → WorldModel D → WorldModel D → Move → Stop → Type 0
IsStopped journal old new (Calls thread) stop = IsHalt journal old new (Call thread) stop
IsStopped journal old new Submits stop = IsHalt journal old new Submit stop
IsStopped journal old new Turns stop = IsHalt journal old new Turn stop
IsStopped journal old new Retires stop = IsHalt journal old new Retire stop
IsStopped journal old new Cleans stop = (read : List ℕ) × AreCompleted old.back.history read × IsHalt journal old new (Cleanup read) stop

-- the first ones of these moves were made, and the next one ended by a stop
pub record AreCutOff {D : Type 0} (journal : D → List Logged) (old new : WorldModel D) (moves : List Move) (stop : Stop) : Type 0 where
  pub made : List Move
  pub next : Move
  pub rest : List Move
  pub moves_are : moves ≡ made ++ next ∷ rest
  pub middle : WorldModel D
  pub are_made : AreMade journal old middle made
  pub is_stopped : IsStopped journal middle new next stop
  pub halted : HasHalted middle new
