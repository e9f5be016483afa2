use Rattle.std.proofs.Common.{◌≡◌, ◌∙◌, sym, ap, subst, refl, Some, None, ◌+◌}
use Rattle.tables.specs.Table.{has, only}
use Rattle.gl_calls.specs.declared.call.Call.TheVariants as call
use Rattle.gl_model.specs.declared.state.GroupState.{GroupState}
use Rattle.gl_model.specs.GroupEffect.{group_effect}
use Rattle.gl_model.specs.Legal.{after_entry}
use Rattle.gl_model.specs.Syncs.{changes_syncs}
use Rattle.sync_serials.specs.Serials.{SyncsStand, is_wait, leaves_contexts, makes, ends, index_on}
use Rattle.front_core.specs.Front.{entry_of}
use Rattle.front_core.proofs.AnsweredCalls.{refusal_of}
use Rattle.front_core.proofs.Serving.{stand_on, served, index_in}
use Rattle.front_core.proofs.syncs_come_to.syncs_come_to.Goals as goal

pub returns-clause-others : goal.returns-clause-others
returns-clause-others c f g s t group after serials tables thread asked answer why stay no_wait on carried =
    served f g s t group after serials serials tables tables thread asked answer carried
    (stand_on c.syncs_stand_on.ensures.goes_on f g s t group serials serials tables tables thread asked answer why on
    (λ state place e is of_thread of_call stand accepted.
    c.syncs_stand_on.ensures.others f s serials tables state place e stand accepted (ap changes_syncs of_call ∙ stay) (ap is_wait of_call ∙ no_wait)))

pub returns-clause-created : goal.returns-clause-created
returns-clause-created c f g s t group after serials tables thread number index answer why on carried =
    served f g s t group after serials _ tables tables thread (call.CreateContext number) answer carried
    (stand_on c.syncs_stand_on.ensures.goes_on f g s t group serials _ tables tables thread (call.CreateContext number) answer why on
    (λ state place e is of_thread of_call stand accepted. c.syncs_of_contexts_stand.ensures.created f s serials tables state place number index e stand accepted of_call))

pub returns-clause-left : goal.returns-clause-left
returns-clause-left c f g s t group after serials tables thread asked answer why which on carried =
    served f g s t group after serials _ tables tables thread asked answer carried
    (stand_on c.syncs_stand_on.ensures.goes_on f g s t group serials _ tables tables thread asked answer why on
    (λ state place e is of_thread of_call stand accepted.
    let same : group_effect state.group e.thread e.call ≡ after
    = ap (λ (x : GroupState). group_effect x e.thread e.call) is.group_is ∙ ap (λ n. group_effect group n e.call) of_thread ∙ ap (group_effect group thread) of_call ∙ sym carried.state in
    subst (λ (x : GroupState). SyncsStand f s (only (λ n. has n x.contexts) serials) tables (after_entry state e place) (place + 1)) same
    (c.syncs_of_contexts_stand.ensures.left f s serials tables state place e stand accepted (ap leaves_contexts of_call ∙ which))))

pub returns-clause-made : goal.returns-clause-made
returns-clause-made c f g s t group after serials tables thread asked answer x serial why which current own number on carried =
    served f g s t group after serials serials tables _ thread asked answer carried
    (stand_on c.syncs_stand_on.ensures.goes_on f g s t group serials serials tables _ thread asked answer why on
    (λ state place e is of_thread of_call stand accepted.
    c.syncs_are_made_and_ended.ensures.made f s serials tables state place e x serial stand accepted (subst (λ a. makes a x) (sym of_call) which)
    (ap (index_on state.group serials) of_thread ∙ index_in state group serials thread (Some serial.index) is current) own number))

pub returns-clause-ended : goal.returns-clause-ended
returns-clause-ended c f g s t group after serials tables thread asked answer x why which on carried =
    served f g s t group after serials serials tables _ thread asked answer carried
    (stand_on c.syncs_stand_on.ensures.goes_on f g s t group serials serials tables _ thread asked answer why on
    (λ state place e is of_thread of_call stand accepted.
    c.syncs_are_made_and_ended.ensures.ended f s serials tables state place e x stand accepted (subst (λ a. ends a x) (sym of_call) which)))

pub returns-clause-finished : goal.returns-clause-finished
returns-clause-finished c f g s t group after serials tables thread index answer why current low on carried =
    served f g s t group after serials serials tables tables thread call.Finish answer carried
    (λ state line place is stand.
    c.syncs_are_signalled.ensures.finished g t serials tables state place index (entry_of thread line call.Finish answer)
    (c.syncs_stand_on.ensures.goes_on f g s t serials tables state place stand on)
    (refusal_of state group thread call.Finish None is why) refl (index_in state group serials thread (Some index) is current) low)
