use Rattle.std.proofs.Common.{◌≡◌, rules, refl, sym, subst, Some, None, false}
use Rattle.gl_model.specs.declared.state.GroupState.{GroupState}
use Rattle.gl_model.specs.Legal.{refused_group}
use Rattle.gl_model.specs.Refusal.{refusal}
use Rattle.front_moves.specs.Core.{face}
use Rattle.front_core.specs.Share.{HaveIndexes}
use Rattle.front_core.specs.Front.{IsAnswered}
use Rattle.front_core.proofs.ContextsStay.{refused_stays, indexes_stay}
use Rattle.front_core.specs.Economy.{due_of, waits_of, MayHandOver}
use Rattle.front_core.proofs.AtTheBack.{nothing_done, when_accepted, though_stopped}
use Rattle.front_core.proofs.Serving.{may_serve}
use Rattle.front_core.proofs.share.Share.answer.Goals as goal

pub returns-in-Refused-clause-done : goal.returns-in-Refused-clause-done
returns-in-Refused-clause-done g c =
    let before : GroupState = c.args.self.now.state in
    let why : refusal before c.args.thread c.args.call.now ≡ Some c.in-Refused.reply = search rules in
    subst (λ (x : GroupState). IsAnswered (face c.args.self.now.core) (face c.args.self.now.core) (g.L.BackLink.state c.args.link.now) (g.L.BackLink.state c.args.link.now) before x c.args.self.now.serials c.args.self.now.serials c.args.syncs.now c.args.syncs.now c.args.thread c.args.call.now c.in-Refused.reply)
    (sym c.refuse.ensures)
    (c.answers_come_to.ensures.refused (face c.args.self.now.core) (g.L.BackLink.state c.args.link.now) before c.args.self.now.serials c.args.syncs.now c.args.thread c.args.call.now c.in-Refused.reply c.requires.may why)

pub returns-in-Refused-clause-indexes : goal.returns-in-Refused-clause-indexes
returns-in-Refused-clause-indexes g c =
    let before : GroupState = c.args.self.now.state in
    subst (λ (x : GroupState). HaveIndexes x.contexts c.args.self.now.serials c.args.self.now.core.indexes.group) (sym c.refuse.ensures)
    (indexes_stay before.contexts (refused_group before c.args.thread c.in-Refused.reply).contexts c.args.self.now.serials c.args.self.now.serials c.args.self.now.core.indexes.group c.args.self.now.core.indexes.group
    c.requires.indexes (λ n. refused_stays before c.args.thread n c.in-Refused.reply) refl refl)

pub returns-in-Ok-clause-done : goal.returns-in-Ok-clause-done
returns-in-Ok-clause-done g c =
    let accepted : refusal c.args.self.now.state c.args.thread c.args.call.now ≡ None = search rules in
    c.answers_come_to.ensures.accepted (face c.args.self.now.core) (face c.carry_out.new.self.core) (g.L.BackLink.state c.args.link.now) (g.L.BackLink.state c.carry_out.new.link)
    c.args.self.now.state c.carry_out.new.self.state c.args.self.now.serials c.carry_out.new.self.serials c.args.syncs.now c.carry_out.new.syncs c.args.thread c.args.call.now c.in-Ok.reply accepted c.in-Ok.ensures.done

pub returns-in-Refused-clause-at_back : goal.returns-in-Refused-clause-at_back
returns-in-Refused-clause-at_back g c =
    nothing_done (g.L.BackLink.state c.args.link.now) (g.L.BackLink.told c.args.link.now) (due_of c.args.self.now.state c.args.thread c.args.call.now) (waits_of c.args.self.now.state c.args.thread c.args.call.now) false (MayHandOver (face c.args.self.now.core) c.args.self.now.state c.args.self.now.serials c.args.syncs.now c.args.thread c.args.call.now)

pub returns-in-Ok-clause-at_back : goal.returns-in-Ok-clause-at_back
returns-in-Ok-clause-at_back g c =
    let accepted : refusal c.args.self.now.state c.args.thread c.args.call.now ≡ None = search rules in
    when_accepted (face c.args.self.now.core) c.args.self.now.state c.args.self.now.serials c.args.syncs.now c.args.thread c.args.call.now accepted c.in-Ok.ensures.at_back

pub returns-in-Err-clause-at_back : goal.returns-in-Err-clause-at_back
returns-in-Err-clause-at_back g c =
    let accepted : refusal c.args.self.now.state c.args.thread c.args.call.now ≡ None = search rules in
    when_accepted (face c.args.self.now.core) c.args.self.now.state c.args.self.now.serials c.args.syncs.now c.args.thread c.args.call.now accepted (though_stopped c.carry_out.ensures.at_back)

pub carry_out-requires-clause-may : goal.carry_out-requires-clause-may
carry_out-requires-clause-may g c =
    let accepted : refusal c.args.self.now.state c.args.thread c.args.call.now ≡ None = search rules in
    may_serve (face c.args.self.now.core) (g.L.BackLink.state c.args.link.now) c.args.self.now.state c.args.self.now.serials c.args.syncs.now c.args.thread c.args.call.now c.requires.may accepted
