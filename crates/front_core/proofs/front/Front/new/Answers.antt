use Rattle.std.proofs.Common.{◌≡◌, ℕ, false, List, [], sym, subst}
use Rattle.gl_calls.specs.declared.reply.Entry.{Entry}
use Rattle.tables.specs.Table.{Entries}
use Rattle.gl_model.specs.declared.state.GroupState.{GroupState}
use Rattle.gl_model.specs.GroupState.{opening_group}
use Rattle.front_moves.specs.Core.{CoreParts}
use Rattle.sync_serials.specs.Serials.{SyncTables, no_syncs}
use Rattle.front_core.specs.Front.{IsNewFront}
use Rattle.front_core.proofs.front.Front.new.Goals as goal

pub returns : goal.returns
returns c =
    let core : CoreParts = c.new-2.result in
    let threads : List ℕ = c.args.threads.now in
    let state_is : c.in_ok-state.state ≡ opening_group threads = c.in_ok-state.ensures in
    let serials_are : c.new-3.result ≡ [] = c.new-3.ensures in
    let threads_are : c.in_ok-threads.threads.items ≡ threads = c.in_ok-threads.ensures.items in
    let history_is : c.new-5.result.items ≡ [] = c.new-5.ensures.items in
    subst (λ (y : SyncTables). IsNewFront (record { core = core; state = c.in_ok-state.state; serials = c.new-3.result; syncs = y; threads = c.in_ok-threads.threads.items; history = c.new-5.result.items; stopped = false; closed = false }) c.args.group threads) (sym c.new-4.ensures)
    (subst (λ (x : GroupState). IsNewFront (record { core = core; state = x; serials = c.new-3.result; syncs = no_syncs c.args.group; threads = c.in_ok-threads.threads.items; history = c.new-5.result.items; stopped = false; closed = false }) c.args.group threads) (sym state_is)
    (subst (λ (x : Entries ℕ). IsNewFront (record { core = core; state = opening_group threads; serials = x; syncs = no_syncs c.args.group; threads = c.in_ok-threads.threads.items; history = c.new-5.result.items; stopped = false; closed = false }) c.args.group threads) (sym serials_are)
    (subst (λ (x : List ℕ). IsNewFront (record { core = core; state = opening_group threads; serials = []; syncs = no_syncs c.args.group; threads = x; history = c.new-5.result.items; stopped = false; closed = false }) c.args.group threads) (sym threads_are)
    (subst (λ (x : List Entry). IsNewFront (record { core = core; state = opening_group threads; serials = []; syncs = no_syncs c.args.group; threads = threads; history = x; stopped = false; closed = false }) c.args.group threads) (sym history_is)
    (c.histories_come_to.ensures.begins core c.args.group threads c.new-2.ensures)))))
