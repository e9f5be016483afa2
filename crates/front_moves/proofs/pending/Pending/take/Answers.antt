use Rattle.std.proofs.Common.{rules}
use Rattle.std.proofs.lemmas.List.{map-set, get_or-map}
use Rattle.front_moves.proofs.pending.Pending.take.Goals as goal

pub returns-clause-left : goal.returns-clause-left
returns-clause-left c = search (rules, map-set, get_or-map)
