use Rattle.shared_gpu.specs.Seats.{seat_link}
use Rattle.group_gpu.proofs.Grouping.{stands_newly}
use Rattle.group_gpu.proofs.grouped.Grouped.new.Goals as goal

pub invariant_of-result : goal.invariant_of-result
invariant_of-result g c =
    stands_newly c.args.front (seat_link c.args.seat) c.requires.stands c.requires.empty (c.fronts_license_barriers.ensures c.args.front (seat_link c.args.seat) c.requires.stands)
