-- Serials stand beside a state still, where each sync and each context was there before.
use Rattle.std.proofs.Common.{◌≡◌, ℕ, ◌+◌, ◌<◌, ◌≤◌, ◌⊎◌, true, Some, List, [], length, replicate, inl, ⊎_elim, refl, ap, sym, ◌∙◌, subst, arith, is_some}
use Rattle.std.specs.Map.{keys_of}
use Rattle.std.proofs.lemmas.List.{length-replicate}
use Rattle.tables.specs.Table.{Entries, IsOrdered, entry}
use Rattle.vk_types.specs.declared.batches.QueueSerial.{QueueSerial}
use Rattle.gl_model.specs.GroupModel.{GroupModel, Fence, opening}
use Rattle.gl_model.specs.Syncs.{HasSyncs}
use Rattle.gl_model.proofs.KeyLaws.{has-same_keys}
use Rattle.gl_model.proofs.SyncLaws.{reached-syncs}
use Rattle.back_core.specs.Link.{Link}
use Rattle.back_core.specs.Needs.{IsOfGroup}
use Rattle.front_model.specs.Face.{Face}
use Rattle.sync_serials.specs.declared.serials.SyncName.{SyncName}
use Rattle.sync_serials.specs.declared.serials.SyncName.TheVariants.{Gl, Egl}
use Rattle.sync_serials.specs.Serials.{SyncTables, SyncStands, SyncsStand, HasGoneOn, no_syncs, serial_at, fence_at, newest_of}
use Rattle.sync_serials.proofs.Newest.{newest_in, newest_of_none}
use Rattle.sync_serials.proofs.Orders.{ordered-empty, found}

-- The beginning

pub begins : (f : Face) (s : Link) (threads : List ℕ) → SyncsStand f s [] (no_syncs f.group) (opening threads) 0
begins f s threads = record {
  known = reached-syncs threads [];
  group = refl;
  eight = length-replicate {A = ℕ} 8 0;
  fences = refl;
  egl_fences = refl;
  ordered = ordered-empty QueueSerial;
  egl_ordered = ordered-empty QueueSerial;
  stands = λ x serial fence at there. absurd (nothing_there x serial at);
  order = λ x y serial later fence other at at_y there there_y same. absurd (nothing_there x serial at);
  newest = λ i own. let zero : newest_in f.group (replicate 8 0) i ≡ 0 = newest_of_none f.group i own in omega (arith, zero);
  births = λ n m birth at_n at_m. let no : ⊥ = cc in absurd no;
}
  where
    nothing_there : (x : SyncName) (serial : QueueSerial) → serial_at (no_syncs f.group) x ≡ Some serial → ⊥
    nothing_there (Gl n) serial at = cc
    nothing_there (Egl n) serial at = cc

-- A front goes on

pub gone_on : (f g : Face) (s t : Link) (ids : Entries ℕ) (tables : SyncTables) (state : GroupModel) (place : ℕ) → SyncsStand f s ids tables state place → HasGoneOn f g s t → SyncsStand g t ids tables state place
gone_on f g s t ids tables state place stand on = record {
  known = stand.known;
  group = stand.group ∙ sym on.group;
  eight = stand.eight;
  fences = stand.fences;
  egl_fences = stand.egl_fences;
  ordered = stand.ordered;
  egl_ordered = stand.egl_ordered;
  stands = λ x serial fence at there.
      let st : SyncStands f s ids tables state place serial fence = stand.stands x serial fence at there in
      record {
        of_group = subst (λ n. IsOfGroup n serial.index) (sym on.group) st.of_group;
        some = st.some;
        low = st.low;
        signalled = λ yes. omega (arith, st.signalled yes, on.done serial.index);
        context = st.context;
        earlier = st.earlier;
      };
  order = stand.order;
  newest = λ i own. omega (arith, stand.newest i (subst (λ n. IsOfGroup n i) on.group own), on.last i);
  births = stand.births;
}

-- A state after another one

-- a sync was there before, with its context and place; where it is newly known to be signalled, its number is completed
pub record WasThere (s : Link) (state : GroupModel) (x : SyncName) (serial : QueueSerial) (fence : Fence) : Type 0 where
  pub old : Fence
  pub there : fence_at state x ≡ Some old
  pub context : fence.context ≡ old.context
  pub at : fence.place ≡ old.place
  pub signalled : fence.signalled ≡ true → (old.signalled ≡ true) ⊎ (serial.number ≤ s.done serial.index)

-- Each sync of a state after another one was there before, with its serial. So was each context, but for those created at the
-- place or later, and it has the index that it had.
pub record GoesOn (s : Link) (ids later : Entries ℕ) (tables fewer : SyncTables) (state after : GroupModel) (place : ℕ) : Type 0 where
  pub known : HasSyncs after (place + 1)
  pub group : fewer.group ≡ tables.group
  pub newest : fewer.newest ≡ tables.newest
  pub fences : keys_of fewer.fences ≡ keys_of after.fences
  pub egl_fences : keys_of fewer.egl_fences ≡ keys_of after.egl_fences
  pub ordered : IsOrdered fewer.fences
  pub egl_ordered : IsOrdered fewer.egl_fences
  pub serials : (x : SyncName) (serial : QueueSerial) → serial_at fewer x ≡ Some serial → serial_at tables x ≡ Some serial
  pub was : (x : SyncName) (serial : QueueSerial) (fence : Fence) → serial_at fewer x ≡ Some serial → fence_at after x ≡ Some fence →
      WasThere s state x serial fence
  pub born : (n birth : ℕ) → entry n after.births ≡ Some birth → birth < place → entry n state.births ≡ Some birth
  pub kept : (n birth index : ℕ) → entry n after.births ≡ Some birth → birth < place → entry n ids ≡ Some index → entry n later ≡ Some index
  pub births : (n m birth : ℕ) → entry n after.births ≡ Some birth → entry m after.births ≡ Some birth → n ≡ m

pub stand_after : (f : Face) (s : Link) (ids later : Entries ℕ) (tables fewer : SyncTables) (state after : GroupModel) (place : ℕ) → SyncsStand f s ids tables state place → GoesOn s ids later tables fewer state after place → SyncsStand f s later fewer after (place + 1)
stand_after f s ids later tables fewer state after place stand on = record {
  known = on.known;
  group = on.group ∙ stand.group;
  eight = ap length on.newest ∙ stand.eight;
  fences = on.fences;
  egl_fences = on.egl_fences;
  ordered = on.ordered;
  egl_ordered = on.egl_ordered;
  stands = one;
  order = λ x y serial next fence other at at_y there there_y same.
      let w : WasThere s state x serial fence = on.was x serial fence at there in
      let v : WasThere s state y next other = on.was y next other at_y there_y in
      let o = stand.order x y serial next w.old v.old (on.serials x serial at) (on.serials y next at_y) w.there v.there (sym w.context ∙ same ∙ v.context) in
      (o.0, λ le. o.1 (omega (arith, le, w.at, v.at)));
  newest = λ i own. subst (λ n. n ≤ f.last i + 1) (sym (same_newest i)) (stand.newest i own);
  births = on.births;
}
  where
    same_newest : (i : ℕ) → newest_of fewer i ≡ newest_of tables i
    same_newest i = ap (λ g. newest_in g fewer.newest i) on.group ∙ ap (λ l. newest_in tables.group l i) on.newest

    one : (x : SyncName) (serial : QueueSerial) (fence : Fence) → serial_at fewer x ≡ Some serial → fence_at after x ≡ Some fence → SyncStands f s later fewer after (place + 1) serial fence
    one x serial fence at there =
        let w : WasThere s state x serial fence = on.was x serial fence at there in
        let st : SyncStands f s ids tables state place serial w.old = stand.stands x serial w.old (on.serials x serial at) w.there in
        let before : fence.context < place = subst (λ c. c < place) (sym w.context) st.earlier in
        record {
          of_group = st.of_group;
          some = st.some;
          low = subst (λ n. serial.number ≤ n) (sym (same_newest serial.index)) st.low;
          signalled = λ yes. ⊎_elim st.signalled (λ done. done) (w.signalled yes);
          context = λ n born. on.kept n fence.context serial.index born before (st.context n (on.born n fence.context born before ∙ ap Some w.context));
          earlier = omega (arith, before);
        }

-- The syncs are as they were

pub same_fences : (state after : GroupModel) → after.fences ≡ state.fences → after.egl_fences ≡ state.egl_fences → (x : SyncName) → fence_at after x ≡ fence_at state x
same_fences state after fences egl_fences (Gl n) = ap (entry n) fences
same_fences state after fences egl_fences (Egl n) = ap (entry n) egl_fences

-- a state with the same syncs, whose contexts were there before but for those created at the place or later
pub record HasSameSyncs (ids later : Entries ℕ) (state after : GroupModel) (place : ℕ) : Type 0 where
  pub known : HasSyncs after (place + 1)
  pub fences : after.fences ≡ state.fences
  pub egl_fences : after.egl_fences ≡ state.egl_fences
  pub born : (n birth : ℕ) → entry n after.births ≡ Some birth → birth < place → entry n state.births ≡ Some birth
  pub kept : (n birth index : ℕ) → entry n after.births ≡ Some birth → birth < place → entry n ids ≡ Some index → entry n later ≡ Some index
  pub births : (n m birth : ℕ) → entry n after.births ≡ Some birth → entry m after.births ≡ Some birth → n ≡ m

pub same_syncs : (f : Face) (s : Link) (ids later : Entries ℕ) (tables : SyncTables) (state after : GroupModel) (place : ℕ) → SyncsStand f s ids tables state place → HasSameSyncs ids later state after place → SyncsStand f s later tables after (place + 1)
same_syncs f s ids later tables state after place stand h =
    stand_after f s ids later tables tables state after place stand
    (record {
      known = h.known;
      group = refl;
      newest = refl;
      fences = stand.fences ∙ sym (ap keys_of h.fences);
      egl_fences = stand.egl_fences ∙ sym (ap keys_of h.egl_fences);
      ordered = stand.ordered;
      egl_ordered = stand.egl_ordered;
      serials = λ x serial at. at;
      was = λ x serial fence at there. record {
        old = fence;
        there = sym (same_fences state after h.fences h.egl_fences x) ∙ there;
        context = refl;
        at = refl;
        signalled = λ yes. inl yes;
      };
      born = h.born;
      kept = h.kept;
      births = h.births;
    })

-- the same contexts too
pub same_contexts : (f : Face) (s : Link) (ids : Entries ℕ) (tables : SyncTables) (state after : GroupModel) (place : ℕ) → SyncsStand f s ids tables state place → HasSyncs after (place + 1) → after.fences ≡ state.fences → after.egl_fences ≡ state.egl_fences → after.births ≡ state.births → SyncsStand f s ids tables after (place + 1)
same_contexts f s ids tables state after place stand known fences egl_fences births =
    same_syncs f s ids ids tables state after place stand
    (record {
      known = known;
      fences = fences;
      egl_fences = egl_fences;
      born = λ n birth at below. was n birth at;
      kept = λ n birth index at below there. there;
      births = λ n m birth at_n at_m. stand.births n m birth (was n birth at_n) (was m birth at_m);
    })
  where
    was : (n birth : ℕ) → entry n after.births ≡ Some birth → entry n state.births ≡ Some birth
    was n birth at = sym (ap (entry n) births) ∙ at

-- The tables have the syncs of the state

pub same_names : (f : Face) (s : Link) (ids : Entries ℕ) (tables : SyncTables) (state : GroupModel) (place : ℕ) → SyncsStand f s ids tables state place → (x : SyncName) → is_some (serial_at tables x) ≡ is_some (fence_at state x)
same_names f s ids tables state place stand (Gl n) = has-same_keys n tables.fences state.fences stand.fences
same_names f s ids tables state place stand (Egl n) = has-same_keys n tables.egl_fences state.egl_fences stand.egl_fences

pub fence_there : (f : Face) (s : Link) (ids : Entries ℕ) (tables : SyncTables) (state : GroupModel) (place : ℕ) (x : SyncName) (serial : QueueSerial) → SyncsStand f s ids tables state place → serial_at tables x ≡ Some serial → (fence : Fence) × (fence_at state x ≡ Some fence)
fence_there f s ids tables state place x serial stand at =
    found (fence_at state x) (sym (same_names f s ids tables state place stand x) ∙ ap is_some at)
