use Rattle.std.proofs.Common.{sym, subst}
use Rattle.back_core.specs.Needs.{MayEnqueue, IsOfGroup}
use Rattle.back_core.specs.History.{link_of}
use Rattle.back_core.proofs.Sees.{group_of}
use Rattle.back_core.proofs.Waiting.{group_is}
use Rattle.back_core.proofs.Calling.{enqueue_acts}
use Rattle.back_core.proofs.direct.DirectBackLink.enqueue.Goals as goal

pub enqueue-requires : goal.enqueue-requires
enqueue-requires g c =
    let h = c.args.self.now.back.history in
    let group : IsOfGroup c.args.self.now.group c.args.batch.index = subst (λ k. IsOfGroup k c.args.batch.index) (group_of h c.args.self.now.group) c.requires.of_group in
    subst (λ g. MayEnqueue (link_of h g) c.args.batch) (sym (group_is c.args.batch.index c.args.self.now.group group)) c.requires

pub returns-clause-at_back : goal.returns-clause-at_back
returns-clause-at_back g c =
    let h = c.args.self.now.back.history in
    let group : IsOfGroup c.args.self.now.group c.args.batch.index = subst (λ k. IsOfGroup k c.args.batch.index) (group_of h c.args.self.now.group) c.requires.of_group in
    let own = group_is c.args.batch.index c.args.self.now.group group in
    enqueue_acts c.enqueue.result h c.enqueue.new.self.history c.args.self.now.group c.args.batch own c.requires.next (c.what_a_group_sees.ensures.enqueue h c.args.self.now.group c.args.batch own) c.enqueue.ensures.ok c.enqueue.ensures.err
