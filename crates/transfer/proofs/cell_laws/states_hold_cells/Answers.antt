use Rattle.transfer.proofs.Bytes.{of_literal, of_ramp}
use Rattle.transfer.proofs.Holding.{reached_held, entry_held, effect_held}
use Rattle.transfer.proofs.cell_laws.states_hold_cells.Goals as goal

pub returns : goal.returns
returns c = record { reached = reached_held; entry = entry_held; effect = effect_held; literal = of_literal; ramp = of_ramp }
