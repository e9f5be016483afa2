-- A call that is refused or was carried out was answered.
use Rattle.std.proofs.Common.{◌≡◌, ℕ, ◌+◌, Option, Some, None, refl, sym, ◌∙◌, ap, subst}
use Rattle.std.specs.Prelude.{IfOk, Result}
use Rattle.std.specs.Option.{option_map_or}
use Rattle.vk_types.specs.declared.stops.Stop.{Stop}
use Rattle.gl_calls.specs.declared.call.Call.{Call}
use Rattle.gl_calls.specs.declared.reply.Entry.{Entry}
use Rattle.gl_calls.specs.declared.reply.Reply.{Reply}
use Rattle.tables.specs.Table.{Entries}
use Rattle.gl_model.specs.declared.state.GroupState.{GroupState}
use Rattle.gl_model.specs.GroupEffect.{group_effect}
use Rattle.gl_model.specs.GroupModel.{GroupModel}
use Rattle.gl_model.specs.Effect.{effect}
use Rattle.gl_model.specs.Legal.{refused_group, refused, told, after_entry, RepliesBy}
use Rattle.gl_model.specs.Refusal.{refusal}
use Rattle.back_core.specs.Link.{Link}
use Rattle.front_model.specs.declared.object.Object.{Object}
use Rattle.front_model.specs.Face.{Face, view}
use Rattle.front_model.specs.Wanted.{kind_wanted, wanted, AgreeWith, IsMapped}
use Rattle.front_core.specs.Share.{IsStateOf, IsCarriedOut}
use Rattle.sync_serials.specs.Serials.{SyncTables, SyncsStand}
use Rattle.front_core.specs.Front.{MayAnswer, IsServed, IsAnswered, entry_of}

-- what the laws say of refusals and of what a reply tells
pub record Keeping : Type 0 where
  pub refused : (state : GroupModel) (thread : ℕ) (answer : Reply) (seen : Object → ℕ → ℕ) → AgreeWith seen (wanted state) → AgreeWith seen (wanted (refused state thread answer))
  pub told : (state : GroupModel) (asked : Call) (answer : Reply) (seen : Object → ℕ → ℕ) → AgreeWith seen (wanted state) → AgreeWith seen (wanted (told state asked answer))
  pub kinds : (state : GroupModel) (thread : ℕ) (answer : Reply) (o : Object) → kind_wanted (refused_group state.group thread answer) o ≡ kind_wanted state.group o
  pub maps : (state : GroupModel) (thread c : ℕ) (answer : Reply) → IsMapped (refused_group state.group thread answer) c → IsMapped state.group c
  pub syncs : (f : Face) (s : Link) (serials : Entries ℕ) (tables : SyncTables) (state : GroupModel) (place : ℕ) (e : Entry) (answer : Reply) →
      SyncsStand f s serials tables state place → refusal state.group e.thread e.call ≡ Some answer → SyncsStand f s serials tables (after_entry state e place) (place + 1)

pub refusal_of : (state : GroupModel) (group : GroupState) (thread : ℕ) (asked : Call) (r : Option Reply) → IsStateOf state group → refusal group thread asked ≡ r → refusal state.group thread asked ≡ r
refusal_of state group thread asked r is why = ap (λ (x : GroupState). refusal x thread asked) is.group_is ∙ why

pub refused_is : Keeping → (f : Face) (s : Link) (group : GroupState) (serials : Entries ℕ) (tables : SyncTables) (thread : ℕ) (asked : Call) (answer : Reply) →
    MayAnswer f s group serials tables thread asked → refusal group thread asked ≡ Some answer → IsAnswered f f s s group (refused_group group thread answer) serials serials tables tables thread asked answer
refused_is keeping f s group serials tables thread asked answer may why = record {
  backs = record {
    holds = may.backs.holds;
    kinds = λ o. may.backs.kinds o ∙ sym (subst (λ (x : GroupState). kind_wanted (refused_group x thread answer) o ≡ kind_wanted x o) may.is.group_is (keeping.kinds may.model thread answer o));
    maps = λ b mapped. may.backs.maps b (subst (λ (x : GroupState). IsMapped (refused_group x thread answer) b → IsMapped x b) may.is.group_is (keeping.maps may.model thread b answer) mapped);
  };
  state = λ line. sym (ap (λ (r : Option Reply). option_map_or (λ a. refused_group group thread a) r (group_effect group thread asked)) why);
  agrees = λ state line place is agree.
      subst (λ (r : Option Reply). AgreeWith (view f s) (wanted (option_map_or (λ a. refused state thread a) r (told (effect state thread asked place) asked answer))))
      (sym (refusal_of state group thread asked (Some answer) is why)) (keeping.refused state thread answer (view f s) agree);
  step = λ state line place is stand agree.
      subst (λ (r : Option Reply). RepliesBy r state (entry_of thread line asked answer)) (sym (refusal_of state group thread asked (Some answer) is why)) refl;
  syncs = λ state line place is stand. keeping.syncs f s serials tables state place (entry_of thread line asked answer) answer stand (refusal_of state group thread asked (Some answer) is why);
}

pub accepted_is : Keeping → (f g : Face) (s t : Link) (group after : GroupState) (serials later : Entries ℕ) (tables now : SyncTables) (thread : ℕ) (asked : Call) (answer : Reply) →
    refusal group thread asked ≡ None → IsServed f g s t group after serials later tables now thread asked answer → IsAnswered f g s t group after serials later tables now thread asked answer
accepted_is keeping f g s t group after serials later tables now thread asked answer why x = record {
  backs = x.backs;
  state = λ line. x.state ∙ sym (ap (λ (r : Option Reply). option_map_or (λ a. refused_group group thread a) r (group_effect group thread asked)) why);
  agrees = λ state line place is agree.
      subst (λ (r : Option Reply). AgreeWith (view g t) (wanted (option_map_or (λ a. refused state thread a) r (told (effect state thread asked place) asked answer))))
      (sym (refusal_of state group thread asked None is why)) (keeping.told (effect state thread asked place) asked answer (view g t) (x.agrees state place is agree));
  step = λ state line place is stand agree.
      subst (λ (r : Option Reply). RepliesBy r state (entry_of thread line asked answer)) (sym (refusal_of state group thread asked None is why)) (x.answers state place is stand agree);
  syncs = x.syncs;
}

-- what was carried out is what was asked
pub along_call : (f g : Face) (s t : Link) (group after : GroupState) (thread : ℕ) (asked done : Call) (result : Result Reply Stop) → IfOk result (λ reply. IsCarriedOut f g s t group after thread done reply) → asked ≡ done → IfOk result (λ reply. IsCarriedOut f g s t group after thread asked reply)
along_call f g s t group after thread asked done result h same = subst (λ (x : Call). IfOk result (λ reply. IsCarriedOut f g s t group after thread x reply)) (sym same) h
