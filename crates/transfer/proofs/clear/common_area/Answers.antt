use Rattle.std.proofs.Common.{sym, subst}
use Rattle.transfer.specs.Clears.{stored, IsCommonArea}
use Rattle.transfer.proofs.Clearing.{least_is_common}
use Rattle.transfer.proofs.clear.common_area.Goals as goal

pub returns-clause-common : goal.returns-clause-common
returns-clause-common c =
    subst (IsCommonArea c.args.info.now (stored c.args.attached.now)) (sym c.least_area.ensures) (least_is_common c.args.info.now c.args.attached.now)
