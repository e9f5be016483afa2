use Rattle.std.proofs.Common.{ℕ, sym, subst}
use Rattle.tables.specs.Table.{Entries}
use Rattle.front_moves.specs.Core.{face}
use Rattle.sync_serials.specs.Serials.{SyncTables, HasGoneOn}
use Rattle.front_core.specs.Front.{IsServed}
use Rattle.front_core.proofs.GoingOn.{gone_on}
use Rattle.front_core.proofs.share.Share.end_sync.Goals as goal

pub returns-in-Ok-clause-done : goal.returns-in-Ok-clause-done
returns-in-Ok-clause-done g c =
    let f = face c.args.self.now.core in
    let h = face c.state_call.new.self.core in
    let s = g.L.BackLink.state c.args.link.now in
    let t = g.L.BackLink.state c.state_call.new.link in
    let on : HasGoneOn f h s t = gone_on c.args.self.now.core c.state_call.new.self.core c.requires.may.may.backs.holds c.in-Ok.ensures.done.backs.holds c.state_call.ensures.group c.in-Ok.ensures.at_back in
    subst (λ (x : Entries ℕ). IsServed f h s t c.args.self.now.state c.state_call.new.self.state c.args.self.now.serials x c.args.syncs.now c.remove.new.self c.args.thread c.args.call.now c.in-Ok.reply) (sym c.state_call.ensures.serials)
    (subst (λ (x : SyncTables). IsServed f h s t c.args.self.now.state c.state_call.new.self.state c.args.self.now.serials c.args.self.now.serials c.args.syncs.now x c.args.thread c.args.call.now c.in-Ok.reply) (sym c.remove.ensures)
    (c.syncs_come_to.ensures.ended f h s t c.args.self.now.state c.state_call.new.self.state c.args.self.now.serials c.args.syncs.now c.args.thread c.args.call.now c.in-Ok.reply c.args.name
    c.requires.may.may.accepted c.requires.which on c.in-Ok.ensures.done))
