use Rattle.std.proofs.Common.{◌≡◌, ℕ, ◌<◌, List, Some, sym, subst}
use Rattle.back_core.specs.declared.back_event.BackEvent.{BackEvent}
use Rattle.back_core.specs.Frame.{IsGoing}
use Rattle.shared_gpu.proofs.Closed.{all_given}
use Rattle.shared_gpu.proofs.shared_end.settle.Goals as goal

pub returns-clause-destroyed : goal.returns-clause-destroyed
returns-clause-destroyed g c = λ all.
    let h = c.args.back.now.history in
    let k = c.settle_all.new.self.history in
    let gone = c.in_ok-settle_all.ensures.ok in
    let orderly = c.requires.orderly in
    c.in_ok-clean_all.ensures.clean (c.cleanups_stay_whole.ensures.batches h k gone (orderly.whole c.requires.going)) (all_given h k orderly gone c.in_ok-settle_all.ensures.idle all)

pub returns-clause-going : goal.returns-clause-going
returns-clause-going g c =
    let cleans = c.in_ok-clean_all.ensures.ok in
    subst (λ (h : List BackEvent). IsGoing (Some h)) (sym cleans.cleans.history)
    (c.backs_keep_going.ensures.cleaned c.settle_all.new.self.history cleans.read _ (c.backs_keep_going.ensures.batches c.args.back.now.history c.settle_all.new.self.history c.in_ok-settle_all.ensures.ok c.requires.going))
