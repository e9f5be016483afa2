use Rattle.back_core.proofs.Whole.{given_of_one, whole_of_one, given_stays}
use Rattle.back_core.proofs.HostBytes.{one_group_wrote}
use Rattle.back_core.proofs.end_laws.runs_of_one_group.Goals as goal

pub returns : goal.returns
returns c = record { given = given_of_one; whole = whole_of_one; wrote = one_group_wrote; stays = given_stays }
