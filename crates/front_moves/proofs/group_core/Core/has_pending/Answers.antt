use Rattle.std.proofs.Common.{◌≡◌, ◌<◌, length, subst, arith}
use Rattle.std.proofs.lemmas.Bool.Decides.{nat_tests}
use Rattle.front_moves.specs.Core.{CoreParts, face}
use Rattle.front_moves.proofs.Flushing.{empty_of, pending_length}
use Rattle.front_moves.proofs.group_core.Core.has_pending.Goals as goal

pub returns : goal.returns
returns c =
    let k : CoreParts = record { indexes = c.self.inside.indexes; pending = c.self.inside.pending; stores = c.self.inside.objects } in
    let n : c.len.result ≡ length ((face c.args.self.now).pending c.args.index) =
    pending_length k c.args.self.now c.args.index c.place.result c.len.result c.self.view_is c.requires.group c.place.ensures.place c.len.ensures in
    record {
      some = λ yes. let more : 0 < c.len.result = grind (arith, nat_tests) in subst (λ l. 0 < l) n more;
      none = λ no. empty_of ((face c.args.self.now).pending c.args.index) (let none : c.len.result ≡ 0 = grind (arith, nat_tests) in omega arith);
    }
