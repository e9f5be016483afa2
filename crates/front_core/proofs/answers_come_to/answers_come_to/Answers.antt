use Rattle.front_core.proofs.AnsweredCalls.{Keeping, refused_is, accepted_is}
use Rattle.front_core.proofs.answers_come_to.answers_come_to.Goals as goal

pub returns : goal.returns
returns r =
    let keeping : Keeping = record { refused = r.calls_keep_agreement.ensures.refused; told = r.calls_keep_agreement.ensures.told; kinds = r.calls_keep_stores.ensures.refused; maps = r.calls_keep_stores.ensures.maps_stay; syncs = r.syncs_stand_on.ensures.refused } in
    record { refused = refused_is keeping; accepted = accepted_is keeping }
