use Rattle.std.proofs.Common.{ℕ, ◌+◌, Some, true, false, sym, subst, ◌∙◌, ap}
use Rattle.tables.specs.Table.{Entries}
use Rattle.back_core.specs.Needs.{IsOfGroup}
use Rattle.back_core.specs.Frame.{NoBatch}
use Rattle.front_moves.specs.Core.{face}
use Rattle.sync_serials.specs.Serials.{SyncTables, HasGoneOn}
use Rattle.front_core.specs.Share.{current_index}
use Rattle.front_core.specs.Front.{IsServed}
use Rattle.front_core.proofs.AtTheBack.{nothing_done}
use Rattle.front_core.proofs.GoingOn.{gone_on}
use Rattle.front_core.proofs.Serving.{made_on, same_index}
use Rattle.front_core.proofs.share.Share.make_sync.Goals as goal

pub unreachable-requires : goal.unreachable-requires
unreachable-requires g c =
    let on = made_on c.args.self.now.state c.args.self.now.serials (face c.args.self.now.core).group c.args.thread c.args.call.now c.args.name c.requires.indexes c.requires.which c.requires.may.may.accepted in
    let bad : ⊥ = cc (c.in_default.ensures, on.1) in bad

pub next_serial-serial-requires-clause-group : goal.next_serial-serial-requires-clause-group
next_serial-serial-requires-clause-group g c =
    let on = made_on c.args.self.now.state c.args.self.now.serials (face c.args.self.now.core).group c.args.thread c.args.call.now c.args.name c.requires.indexes c.requires.which c.requires.may.may.accepted in
    subst (IsOfGroup (face c.args.self.now.core).group) (same_index (current_index c.args.self.now.state c.args.self.now.serials c.args.thread) on.0 c.in-Some.index on.1 (sym c.in-Some.ensures)) on.2

pub insert-requires-clause-new : goal.insert-requires-clause-new
insert-requires-clause-new g c =
    c.syncs_are_there.ensures.new (face c.args.self.now.core) (g.L.BackLink.state c.args.link.now) c.args.self.now.state c.args.self.now.serials c.args.syncs.now c.args.thread c.args.call.now c.args.name c.requires.may c.requires.which

pub insert-requires-clause-group : goal.insert-requires-clause-group
insert-requires-clause-group g c =
    let on = made_on c.args.self.now.state c.args.self.now.serials (face c.args.self.now.core).group c.args.thread c.args.call.now c.args.name c.requires.indexes c.requires.which c.requires.may.may.accepted in
    let own : IsOfGroup (face c.args.self.now.core).group c.in-Some.index
    = subst (IsOfGroup (face c.args.self.now.core).group) (same_index (current_index c.args.self.now.state c.args.self.now.serials c.args.thread) on.0 c.in-Some.index on.1 (sym c.in-Some.ensures)) on.2 in
    subst (λ n. IsOfGroup n c.next_serial-serial.result.index) (sym c.requires.may.syncs.group) (subst (IsOfGroup (face c.args.self.now.core).group) (sym c.next_serial-serial.ensures.index) own)

pub returns-in-Ok-state_call-clause-done : goal.returns-in-Ok-state_call-clause-done
returns-in-Ok-state_call-clause-done g c =
    let f = face c.args.self.now.core in
    let h = face c.state_call.new.self.core in
    let s = g.L.BackLink.state c.args.link.now in
    let t = g.L.BackLink.state c.state_call.new.link in
    let on = made_on c.args.self.now.state c.args.self.now.serials f.group c.args.thread c.args.call.now c.args.name c.requires.indexes c.requires.which c.requires.may.may.accepted in
    let own : IsOfGroup f.group c.in-Some.index = subst (IsOfGroup f.group) (same_index (current_index c.args.self.now.state c.args.self.now.serials c.args.thread) on.0 c.in-Some.index on.1 (sym c.in-Some.ensures)) on.2 in
    let gone : HasGoneOn f h s t = gone_on c.args.self.now.core c.state_call.new.self.core c.requires.may.may.backs.holds c.in-Ok-state_call.ensures.done.backs.holds c.state_call.ensures.group c.in-Ok-state_call.ensures.at_back in
    subst (λ (x : Entries ℕ). IsServed f h s t c.args.self.now.state c.state_call.new.self.state c.args.self.now.serials x c.args.syncs.now c.insert.new.self c.args.thread c.args.call.now c.in-Ok-state_call.reply) (sym c.state_call.ensures.serials)
    (subst (λ (x : SyncTables). IsServed f h s t c.args.self.now.state c.state_call.new.self.state c.args.self.now.serials c.args.self.now.serials c.args.syncs.now x c.args.thread c.args.call.now c.in-Ok-state_call.reply) (sym c.in-Ok.ensures.ok)
    (c.syncs_come_to.ensures.made f h s t c.args.self.now.state c.state_call.new.self.state c.args.self.now.serials c.args.syncs.now c.args.thread c.args.call.now c.in-Ok-state_call.reply c.args.name c.next_serial-serial.result
    c.requires.may.may.accepted c.requires.which (sym c.in-Some.ensures ∙ ap Some (sym c.next_serial-serial.ensures.index)) (subst (IsOfGroup f.group) (sym c.next_serial-serial.ensures.index) own)
    (c.next_serial-serial.ensures.number ∙ ap (λ i. f.last i + 1) (sym c.next_serial-serial.ensures.index)) gone c.in-Ok-state_call.ensures.done))

pub returns-in-Err-clause-err : goal.returns-in-Err-clause-err
returns-in-Err-clause-err g c = c.syncs_are_there.ensures.owns (face c.args.self.now.core) (g.L.BackLink.state c.args.link.now) c.requires.may.may.backs.holds

pub returns-in-Err-clause-at_back : goal.returns-in-Err-clause-at_back
returns-in-Err-clause-at_back g c = nothing_done (g.L.BackLink.state c.args.link.now) (g.L.BackLink.told c.args.link.now) 0 false true NoBatch
