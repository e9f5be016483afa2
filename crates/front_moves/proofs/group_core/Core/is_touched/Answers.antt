use Rattle.std.proofs.Common.{◌≡◌, Some, sym, ap, ◌∙◌}
use Rattle.queue_serials.specs.Indexes.{last_of}
use Rattle.tables.specs.Table.{entry}
use Rattle.front_moves.specs.Objects.{key_of}
use Rattle.front_moves.specs.Core.{CoreParts}
use Rattle.front_moves.proofs.Preparing.{test_is}
use Rattle.front_moves.proofs.group_core.Core.is_touched.Goals as goal

pub returns-in-Some-clause-some : goal.returns-in-Some-clause-some
returns-in-Some-clause-some c = λ s h.
    let k : CoreParts = c.args.self.now in
    let is : entry (key_of c.args.object) k.stores ≡ Some c.in-Some.store.now = ap (λ (x : CoreParts). entry (key_of c.args.object) x.stores) (sym c.self.view_is) ∙ sym c.in-Some.ensures in
    let last : c.last.result ≡ last_of k.indexes c.args.index = c.last.ensures ∙ ap (λ (x : CoreParts). last_of x.indexes c.args.index) c.self.view_is in
    test_is k s c.args.index c.args.object c.last.result c.last_use.result c.in-Some.store.now h c.requires.group is last c.last_use.ensures
