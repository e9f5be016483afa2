use Rattle.std.proofs.Common.{nat_le, slice_index}
use Rattle.std.proofs.lemmas.List.Sums.{list_all-from_AllPass}
use Rattle.resource_use.proofs.uses.first_beyond.Goals as goal

pub returns-in-None-clause-none : goal.returns-in-None-clause-none
returns-in-None-clause-none c =
    list_all-from_AllPass (λ one. nat_le one.number (slice_index c.args.read.now one.index)) c.args.uses.now c.in-None.ensures.none
