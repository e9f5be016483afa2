use Rattle.std.proofs.Common.{◌≡◌, ℕ, None, subst, arith}
use Rattle.std.specs.Prelude.{IsSome}
use Rattle.gl_calls.specs.declared.call.Call.{Call}
use Rattle.gl_calls.specs.declared.call.Call.TheVariants as call
use Rattle.gl_calls.specs.declared.reply.Reply.TheVariants as reply
use Rattle.tables.specs.Table.{Entries}
use Rattle.gl_model.specs.declared.state.GroupState.{GroupState}
use Rattle.gl_model.specs.Refusal.{refusal}
use Rattle.back_core.specs.Link.{Link}
use Rattle.front_model.specs.Face.{Face}
use Rattle.front_model.specs.Stands.{no_hands}
use Rattle.sync_serials.specs.declared.serials.SyncName.TheVariants.{Gl}
use Rattle.sync_serials.specs.Serials.{SyncTables, SyncStands, serial_at}
use Rattle.sync_serials.proofs.Standing.{fence_there}
use Rattle.front_core.specs.Answering.{IsWaitSync}
use Rattle.front_core.specs.Front.{MayServe, entry_of}
use Rattle.front_core.proofs.AnsweredCalls.{refusal_of}
use Rattle.front_core.proofs.syncs_come_to.syncs_are_there.Goals as goal

-- the call is accepted in the state that is known
accepted_in : (f : Face) (s : Link) (group : GroupState) (serials : Entries ℕ) (tables : SyncTables) (thread : ℕ) (asked : Call) (may : MayServe f s group serials tables thread asked) →
    refusal may.may.model.group thread asked ≡ None
accepted_in f s group serials tables thread asked may = refusal_of may.may.model group thread asked None may.may.is may.may.accepted

pub returns-clause-new : goal.returns-clause-new
returns-clause-new c f s group serials tables thread asked x may which =
    c.syncs_are_made_and_ended.ensures.new f s serials tables may.may.model may.place (entry_of thread 0 asked reply.Done) x may.syncs (accepted_in f s group serials tables thread asked may) which

pub returns-clause-found : goal.returns-clause-found
returns-clause-found c f s group serials tables thread asked x may which =
    c.waits_may_answer.ensures.found f s serials tables may.may.model may.place thread asked x may.syncs (accepted_in f s group serials tables thread asked may) which

pub returns-clause-found_by_wait : goal.returns-clause-found_by_wait
returns-clause-found_by_wait c f s group serials tables thread number asked may which = by_call asked may which
  where
    by_call : (asked : Call) → MayServe f s group serials tables thread asked → IsWaitSync asked number → IsSome (serial_at tables (Gl number))
    by_call (call.WaitSync name flags end) may which =
        subst (λ n. IsSome (serial_at tables (Gl n))) which
        (c.waits_may_answer.ensures.found_by_wait f s serials tables may.may.model may.place thread name flags end may.syncs (accepted_in f s group serials tables thread (call.WaitSync name flags end) may))
    by_call other may which = absurd which

pub returns-clause-made : goal.returns-clause-made
returns-clause-made c f s group serials tables thread asked x serial may at =
    let fence = fence_there f s serials tables may.may.model may.place x serial may.syncs at in
    let stands : SyncStands f s serials tables may.may.model may.place serial fence.0 = may.syncs.stands x serial fence.0 at fence.1 in
    record { of_group = stands.of_group; some = stands.some; number = omega (arith, stands.low, may.syncs.newest serial.index stands.of_group); low = stands.low }

pub returns-clause-owns : goal.returns-clause-owns
returns-clause-owns c f s holds = c.steps_may.ensures.owns f no_hands s holds
