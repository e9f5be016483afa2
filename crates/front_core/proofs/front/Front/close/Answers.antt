use Rattle.std.proofs.Common.{◌≤◌, false, true, refl, sym, subst, ◌∙◌, ap, arith}
use Rattle.submit_queue.specs.Histories.{last_number}
use Rattle.back_core.specs.Own.{batches_of}
use Rattle.back_core.specs.Needs.{IsOfGroup}
use Rattle.back_core.proofs.Frames.{then_within}
use Rattle.front_model.specs.Stands.{Holds, no_hands}
use Rattle.front_moves.specs.Core.{face}
use Rattle.back_core.specs.Frame.{AtBack}
use Rattle.sync_serials.specs.Serials.{newest_of}
use Rattle.front_core.specs.Economy.{IsEndingBatch}
use Rattle.front_core.specs.Front.{FrontModel}
use Rattle.front_core.proofs.AtTheBack.{though_stopped, rest_ends}
use Rattle.front_core.proofs.front.Front.close.Goals as goal

pub flush_all-requires-clause-holds : goal.flush_all-requires-clause-holds
flush_all-requires-clause-holds g c = subst (λ (f : FrontModel). Holds (face f.core) no_hands (g.L.BackLink.state c.args.link.now)) (sym c.self.view_is) c.requires.stands.stands.holds

pub close-requires : goal.close-requires
close-requires g c = record { holds = c.in-Ok.ensures.stays.holds }

pub returns-in-Ok-close-clause-ok : goal.returns-in-Ok-close-clause-ok
returns-in-Ok-close-clause-ok g c = record {
  closed = refl;
  history = ap (λ (f : FrontModel). f.history) c.self.view_is;
  threads = ap (λ (f : FrontModel). f.threads) c.self.view_is;
  group = c.close.ensures.group ∙ c.flush_all.ensures.group ∙ ap (λ (f : FrontModel). (face f.core).group) c.self.view_is;
  has_closed = c.in-Ok-close.ensures.closed;
  batched = subst (λ (f : FrontModel). (i : _) → IsOfGroup (face f.core).group i → newest_of f.syncs i ≤ last_number (batches_of (g.L.BackLink.state c.close.new.link).mine) i) c.self.view_is
      (λ i own.
      let flushed = c.in-Ok.ensures.flushed i own in
      let last = c.in-Ok.ensures.stays.holds.last i (subst (λ n. IsOfGroup n i) (sym c.flush_all.ensures.group) own) in
      let risen = c.in-Ok-close.ensures.at_back.numbers i in
      omega (arith, flushed.batched, last, risen));
  owns = c.histories_come_to.ensures.closed (face c.close.new.self) (g.L.BackLink.state c.close.new.link) c.in-Ok-close.ensures.closed;
}

pub returns-in-Ok-close-clause-at_back : goal.returns-in-Ok-close-clause-at_back
returns-in-Ok-close-clause-at_back g c =
    subst (λ (f : FrontModel). AtBack (g.L.BackLink.state c.args.link.now) (g.L.BackLink.state c.close.new.link) (g.L.BackLink.told c.args.link.now) (g.L.BackLink.told c.close.new.link) 0 false false (IsEndingBatch f.syncs)) c.self.view_is
    (then_within 0 false false (IsEndingBatch c.self.inside.syncs) (omega arith) (λ on. on) (λ on. on) (λ on. on) (λ on. on) (λ batch may. may) (rest_ends c.self.inside.syncs) c.in-Ok.ensures.at_back c.in-Ok-close.ensures.at_back)

pub returns-in-Err-close-clause-at_back : goal.returns-in-Err-close-clause-at_back
returns-in-Err-close-clause-at_back g c =
    subst (λ (f : FrontModel). AtBack (g.L.BackLink.state c.args.link.now) (g.L.BackLink.state c.close.new.link) (g.L.BackLink.told c.args.link.now) (g.L.BackLink.told c.close.new.link) 0 false true (IsEndingBatch f.syncs)) c.self.view_is
    (then_within 0 false true (IsEndingBatch c.self.inside.syncs) (omega arith) (λ on. on) (λ on. on) (λ on. refl) (λ on. refl) (λ batch may. may) (rest_ends c.self.inside.syncs) c.in-Ok.ensures.at_back c.close.ensures.at_back)

pub returns-in-Err-clause-at_back : goal.returns-in-Err-clause-at_back
returns-in-Err-clause-at_back g c =
    subst (λ (f : FrontModel). AtBack (g.L.BackLink.state c.args.link.now) (g.L.BackLink.state c.flush_all.new.link) (g.L.BackLink.told c.args.link.now) (g.L.BackLink.told c.flush_all.new.link) 0 false true (IsEndingBatch f.syncs)) c.self.view_is
    (though_stopped c.flush_all.ensures.at_back)

pub returns-in-Err-clause-err : goal.returns-in-Err-clause-err
returns-in-Err-clause-err g c = record {
  stopped = refl;
  history = ap (λ (f : FrontModel). f.history) c.self.view_is;
  threads = ap (λ (f : FrontModel). f.threads) c.self.view_is;
  group = c.flush_all.ensures.group ∙ ap (λ (f : FrontModel). (face f.core).group) c.self.view_is;
  owns = c.in-Err.ensures.err;
}

pub returns-in-Err-close-clause-err : goal.returns-in-Err-close-clause-err
returns-in-Err-close-clause-err g c = record {
  stopped = refl;
  history = ap (λ (f : FrontModel). f.history) c.self.view_is;
  threads = ap (λ (f : FrontModel). f.threads) c.self.view_is;
  group = c.close.ensures.group ∙ c.flush_all.ensures.group ∙ ap (λ (f : FrontModel). (face f.core).group) c.self.view_is;
  owns = c.in-Err-close.ensures.err;
}

pub returns-in-Ok-close-clause-licensed : goal.returns-in-Ok-close-clause-licensed
returns-in-Ok-close-clause-licensed g c = c.in-Ok-close.ensures.closed.licensed

pub returns-in-Err-close-clause-licensed : goal.returns-in-Err-close-clause-licensed
returns-in-Err-close-clause-licensed g c = c.in-Err-close.ensures.err.licensed

pub returns-in-Err-clause-licensed : goal.returns-in-Err-clause-licensed
returns-in-Err-clause-licensed g c = c.in-Err.ensures.err.licensed
