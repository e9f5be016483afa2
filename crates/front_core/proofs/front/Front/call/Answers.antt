use Rattle.std.proofs.Common.{◌≡◌, ◌∷◌, ◌++◌, [], List, refl, sym, ◌∙◌, ap, subst, false, true}
use Rattle.gl_calls.specs.declared.call.Call.{Call}
use Rattle.gl_calls.specs.declared.reply.Entry.{Entry}
use Rattle.gl_calls.specs.declared.reply.Reply.{Reply}
use Rattle.gl_model.specs.GroupEffect.{swept}
use Rattle.front_model.specs.Stands.{Owns}
use Rattle.front_moves.specs.Core.{face}
use Rattle.front_core.specs.Front.{FrontModel, FrontStands, MayAnswer, IsAnswered, entry_of}
use Rattle.front_core.specs.contracts.front.Front.{the_view}
use Rattle.back_core.specs.Frame.{AtBack}
use Rattle.front_core.specs.Economy.{due_of, waits_of, MayHandOver}
use Rattle.front_core.proofs.AtTheBack.{nothing_done, though_stopped}
use Rattle.front_core.proofs.front.Front.call.Goals as goal

pub returns-in_default-clause-err : goal.returns-in_default-clause-err
returns-in_default-clause-err g c = record {
  stopped = refl;
  history = c.prepared.ensures.items ∙ ap (λ (f : FrontModel). f.history) c.self.view_is;
  threads = ap (λ (f : FrontModel). f.threads) c.self.view_is;
  group = ap (λ (f : FrontModel). (face f.core).group) c.self.view_is;
  owns = subst (λ (f : FrontModel). Owns (face f.core).objects (g.L.BackLink.state c.args.link.now)) (sym c.self.view_is)
      (c.histories_come_to.ensures.owns (face c.args.self.now.core) (g.L.BackLink.state c.args.link.now) c.requires.stands.stands.holds);
}

pub answer-requires-clause-may : goal.answer-requires-clause-may
answer-requires-clause-may g c =
    let f : FrontModel = c.args.self.now in
    let referred : swept f.state ≡ f.state = subst (λ (x : FrontModel). swept x.state ≡ x.state) c.self.view_is c.objects_are_referred_to.ensures in
    subst (λ (x : FrontModel). MayAnswer (face x.core) (g.L.BackLink.state c.args.link.now) x.state x.serials x.syncs c.args.thread c.args.call.now) (sym c.self.view_is)
    (c.histories_come_to.ensures.may f (g.L.BackLink.state c.args.link.now) c.args.thread c.args.call.now c.requires.stands c.requires.declared c.requires.its_data referred)

pub returns-in-Ok-note-clause-ok : goal.returns-in-Ok-note-clause-ok
returns-in-Ok-note-clause-ok g c =
    let f : FrontModel = the_view c.self.inside in
    let s = g.L.BackLink.state c.args.link.now in
    let t = g.L.BackLink.state c.answer.new.link in
    let e : Entry = entry_of c.args.thread c.args.line c.args.call.now c.in-Ok-note.reply in
    let stands : FrontStands f s = subst (λ (x : FrontModel). FrontStands x s) (sym c.self.view_is) c.requires.stands in
    let answered : IsAnswered (face f.core) (face c.answer.new.self.core) s t f.state c.answer.new.self.state f.serials c.answer.new.self.serials f.syncs c.answer.new.syncs c.args.thread c.args.call.now c.in-Ok-note.reply
    = subst (λ (r : Reply). IsAnswered (face f.core) (face c.answer.new.self.core) s t f.state c.answer.new.self.state f.serials c.answer.new.self.serials f.syncs c.answer.new.syncs c.args.thread c.args.call.now r) (sym c.in-Ok-note.ensures.reply) c.in-Ok-answer.ensures.done in
    let history : c.note.new.history.items ≡ f.history ++ e ∷ []
    = c.in-Ok-note.ensures.ok
    ∙ ap (λ (h : List Entry). h ++ entry_of c.args.thread c.args.line c.in-Ok.asked c.in-Ok-answer.reply ∷ []) c.prepared.ensures.items
    ∙ ap (λ (a : Call). f.history ++ entry_of c.args.thread c.args.line a c.in-Ok-answer.reply ∷ []) c.in-Ok.ensures.copy
    ∙ ap (λ (r : Reply). f.history ++ entry_of c.args.thread c.args.line c.args.call.now r ∷ []) (sym c.in-Ok-note.ensures.reply) in
    record {
      stands = subst (λ (h : List Entry). FrontStands (record f { core = c.answer.new.self.core; state = c.answer.new.self.state; serials = c.answer.new.self.serials; syncs = c.answer.new.syncs; history = h }) t) (sym history)
          (c.histories_come_to.ensures.answered f s t c.answer.new.self.core c.answer.new.self.state c.answer.new.self.serials c.answer.new.syncs c.args.thread c.args.line c.args.call.now c.in-Ok-note.reply
          stands c.requires.its_data c.objects_are_referred_to.ensures answered c.in-Ok-answer.ensures.indexes);
      history = history ∙ ap (λ (x : FrontModel). x.history ++ e ∷ []) c.self.view_is;
      threads = ap (λ (x : FrontModel). x.threads) c.self.view_is;
      group = c.in-Ok-answer.ensures.group ∙ ap (λ (x : FrontModel). (face x.core).group) c.self.view_is;
    }

pub returns-in-Err-clause-err : goal.returns-in-Err-clause-err
returns-in-Err-clause-err g c = record {
  stopped = refl;
  history = c.prepared.ensures.items ∙ ap (λ (f : FrontModel). f.history) c.self.view_is;
  threads = ap (λ (f : FrontModel). f.threads) c.self.view_is;
  group = c.answer.ensures.group ∙ ap (λ (f : FrontModel). (face f.core).group) c.self.view_is;
  owns = c.in-Err.ensures.err;
}

pub returns-in-Err-note-clause-err : goal.returns-in-Err-note-clause-err
returns-in-Err-note-clause-err g c = record {
  stopped = refl;
  history = c.in-Err-note.ensures.err ∙ c.prepared.ensures.items ∙ ap (λ (f : FrontModel). f.history) c.self.view_is;
  threads = ap (λ (f : FrontModel). f.threads) c.self.view_is;
  group = c.in-Ok-answer.ensures.group ∙ ap (λ (f : FrontModel). (face f.core).group) c.self.view_is;
  owns = c.histories_come_to.ensures.owns (face c.answer.new.self.core) (g.L.BackLink.state c.answer.new.link) c.in-Ok-answer.ensures.done.backs.holds;
}

pub returns-in_default-clause-at_back : goal.returns-in_default-clause-at_back
returns-in_default-clause-at_back g c =
    nothing_done (g.L.BackLink.state c.args.link.now) (g.L.BackLink.told c.args.link.now) (due_of c.args.self.now.state c.args.thread c.args.call.now) (waits_of c.args.self.now.state c.args.thread c.args.call.now) true (MayHandOver (face c.args.self.now.core) c.args.self.now.state c.args.self.now.serials c.args.self.now.syncs c.args.thread c.args.call.now)

pub returns-in-Err-clause-at_back : goal.returns-in-Err-clause-at_back
returns-in-Err-clause-at_back g c =
    subst (λ (x : FrontModel). AtBack (g.L.BackLink.state c.args.link.now) (g.L.BackLink.state c.answer.new.link) (g.L.BackLink.told c.args.link.now) (g.L.BackLink.told c.answer.new.link) (due_of x.state c.args.thread c.args.call.now) (waits_of x.state c.args.thread c.args.call.now) true (MayHandOver (face x.core) x.state x.serials x.syncs c.args.thread c.args.call.now)) c.self.view_is
    (though_stopped c.answer.ensures.at_back)

pub returns-in-Ok-note-clause-at_back : goal.returns-in-Ok-note-clause-at_back
returns-in-Ok-note-clause-at_back g c =
    subst (λ (x : FrontModel). AtBack (g.L.BackLink.state c.args.link.now) (g.L.BackLink.state c.answer.new.link) (g.L.BackLink.told c.args.link.now) (g.L.BackLink.told c.answer.new.link) (due_of x.state c.args.thread c.args.call.now) (waits_of x.state c.args.thread c.args.call.now) false (MayHandOver (face x.core) x.state x.serials x.syncs c.args.thread c.args.call.now)) c.self.view_is
    c.in-Ok-answer.ensures.at_back

pub returns-in-Err-note-clause-at_back : goal.returns-in-Err-note-clause-at_back
returns-in-Err-note-clause-at_back g c =
    subst (λ (x : FrontModel). AtBack (g.L.BackLink.state c.args.link.now) (g.L.BackLink.state c.answer.new.link) (g.L.BackLink.told c.args.link.now) (g.L.BackLink.told c.answer.new.link) (due_of x.state c.args.thread c.args.call.now) (waits_of x.state c.args.thread c.args.call.now) true (MayHandOver (face x.core) x.state x.serials x.syncs c.args.thread c.args.call.now)) c.self.view_is
    (though_stopped c.in-Ok-answer.ensures.at_back)

pub returns-in_default-clause-licensed : goal.returns-in_default-clause-licensed
returns-in_default-clause-licensed g c = (c.histories_come_to.ensures.owns (face c.args.self.now.core) (g.L.BackLink.state c.args.link.now) c.requires.stands.stands.holds).licensed

pub returns-in-Err-clause-licensed : goal.returns-in-Err-clause-licensed
returns-in-Err-clause-licensed g c = c.in-Err.ensures.err.licensed

pub returns-in-Ok-note-clause-licensed : goal.returns-in-Ok-note-clause-licensed
returns-in-Ok-note-clause-licensed g c =
    (c.histories_come_to.ensures.owns (face c.answer.new.self.core) (g.L.BackLink.state c.answer.new.link) c.in-Ok-answer.ensures.done.backs.holds).licensed

pub returns-in-Err-note-clause-licensed : goal.returns-in-Err-note-clause-licensed
returns-in-Err-note-clause-licensed g c =
    (c.histories_come_to.ensures.owns (face c.answer.new.self.core) (g.L.BackLink.state c.answer.new.link) c.in-Ok-answer.ensures.done.backs.holds).licensed
