use Rattle.std.proofs.Common.{◌≡◌, ◌+◌, true, [], ◌∷◌, ◌++◌, length, refl, sym, ◌∙◌, ap, subst}
use Rattle.std.proofs.lemmas.List.{length-append}
use Rattle.gl_calls.specs.declared.reply.Entry.{Entry}
use Rattle.tables.specs.Table.{has}
use Rattle.gl_model.specs.declared.state.GroupState.{GroupState}
use Rattle.gl_model.specs.GroupModel.{GroupModel, opening}
use Rattle.gl_model.specs.Legal.{after_entry}
use Rattle.gl_model.specs.Reached.{reached, group_after}
use Rattle.front_model.specs.Stands.{no_hands}
use Rattle.front_model.specs.Wanted.{kind_wanted, IsMapped, HasFreeNumbers, Stands}
use Rattle.front_moves.specs.Core.{face}
use Rattle.sync_serials.specs.Serials.{SyncsStand, no_syncs}
use Rattle.front_core.specs.Share.{IsStateOf}
use Rattle.front_core.specs.Front.{entry_of}
use Rattle.front_core.proofs.Histories.{data_of_each}
use Rattle.front_core.proofs.NewFronts.{nothing_stored, of_this_group, opening_stands, no_indexes, none_owned}
use Rattle.front_core.proofs.ThreadsStay.{threads_begin, threads_stay}
use Rattle.front_core.proofs.histories_come_to.histories_come_to.Goals as goal

pub returns-clause-begins : goal.returns-clause-begins
returns-clause-begins c core group threads holds = record {
  stands = λ s is_new. record {
    running = refl;
    open_still = refl;
    legal = c.legal_histories_go_on.ensures.begins threads;
    its_data = tt;
    group_is = refl;
    stands = opening_stands (face core) s threads (holds s is_new) (nothing_stored (face core) group holds);
    indexes = no_indexes (face core).group;
    serials_stand = subst (λ g. SyncsStand (face core) s [] (no_syncs g) (opening threads) 0) (of_this_group (face core) group holds) (c.syncs_stand_on.ensures.begins (face core) s threads);
    declared = threads_begin threads;
  };
  of_group = of_this_group (face core) group holds;
  threads_are = refl;
  empty = refl;
}

pub returns-clause-answered : goal.returns-clause-answered
returns-clause-answered c f s t core after serials syncs thread line asked answer stands its_data referred is indexes =
    let e : Entry = entry_of thread line asked answer in
    let state : GroupModel = reached f.threads f.history in
    let is_state : IsStateOf state f.state = record {
      group_is = stands.group_is;
      sizes = c.buffers_have_their_sizes.ensures.reached f.threads f.history stands.its_data;
      images = c.images_have_their_sizes.ensures.reached f.threads f.history;
      free = subst HasFreeNumbers stands.group_is (c.numbers_not_given_are_free.ensures.reached f.threads f.history);
      referred = referred;
    } in
    let next : GroupModel = after_entry state e (length f.history) in
    let group_is : next.group ≡ after
    = c.group_is_a_projection.ensures.entry state e (length f.history) ∙ ap (λ (g : GroupState). group_after g e) stands.group_is ∙ sym (is.state line) in
    let state_is : reached f.threads (f.history ++ e ∷ []) ≡ next = c.legal_histories_go_on.ensures.state f.threads f.history e in
    let now_stands : Stands (face core) t next = record {
      holds = is.backs.holds;
      kinds = λ o. is.backs.kinds o ∙ ap (λ (g : GroupState). kind_wanted g o) (sym group_is);
      agreement = is.agrees state line (length f.history) is_state stands.stands.agreement;
      maps = λ b is_mapped. is.backs.maps b (subst (λ (g : GroupState). IsMapped g b) group_is is_mapped);
    } in
    record {
      running = stands.running;
      open_still = stands.open_still;
      legal = c.legal_histories_go_on.ensures.goes_on f.threads f.history e stands.legal (is.step state line (length f.history) is_state stands.serials_stand stands.stands.agreement);
      its_data = data_of_each f.history e stands.its_data its_data;
      group_is = ap (λ (m : GroupModel). m.group) state_is ∙ group_is;
      stands = subst (Stands (face core) t) (sym state_is) now_stands;
      indexes = indexes;
      serials_stand = subst (λ n. SyncsStand (face core) t serials syncs (reached f.threads (f.history ++ e ∷ [])) n) (sym (length-append f.history (e ∷ [])))
          (subst (λ (m : GroupModel). SyncsStand (face core) t serials syncs m (length f.history + 1)) (sym state_is) (is.syncs state line (length f.history) is_state stands.serials_stand));
      declared = λ one there. subst (λ (g : GroupState). has one g.threads ≡ true) (sym (is.state line)) (threads_stay f.state e one (stands.declared one there));
    }

pub returns-clause-owns : goal.returns-clause-owns
returns-clause-owns c f s holds = c.steps_may.ensures.owns f no_hands s holds

pub returns-clause-closed : goal.returns-clause-closed
returns-clause-closed c f s has_closed = none_owned f s has_closed.none_stored has_closed.licensed

pub returns-clause-may : goal.returns-clause-may
returns-clause-may c f s thread asked stands declared its_data referred = record {
  backs = record {
    holds = stands.stands.holds;
    kinds = λ o. stands.stands.kinds o ∙ ap (λ (g : GroupState). kind_wanted g o) stands.group_is;
    maps = λ b mapped. stands.stands.maps b (subst (λ (g : GroupState). IsMapped g b) (sym stands.group_is) mapped);
  };
  declared = stands.declared thread declared;
  model = reached f.threads f.history;
  is = record {
    group_is = stands.group_is;
    sizes = c.buffers_have_their_sizes.ensures.reached f.threads f.history stands.its_data;
    images = c.images_have_their_sizes.ensures.reached f.threads f.history;
    free = subst HasFreeNumbers stands.group_is (c.numbers_not_given_are_free.ensures.reached f.threads f.history);
    referred = referred;
  };
  its_data = its_data;
  place = length f.history;
  syncs = stands.serials_stand;
}
