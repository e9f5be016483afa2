use Rattle.std.proofs.Common.{◌≡◌, sym, subst, replicate, []}
use Rattle.queue_serials.specs.Indexes.{unused}
use Rattle.front_model.specs.Stands.{Holds, no_hands}
use Rattle.front_moves.specs.Core.{CoreParts, face}
use Rattle.front_moves.proofs.group_core.Core.new.Goals as goal

pub returns : goal.returns
returns c = λ s new_.
    let d : CoreParts = record { indexes = c.new.result; pending = c.new-2.result; stores = c.new-3.result } in
    let e : d ≡ record { indexes = unused c.args.group; pending = replicate 8 []; stores = [] } = cc in
    subst (λ x. Holds (face x) no_hands s) (sym e) (c.new_comes_to.ensures s c.args.group c.requires new_)
