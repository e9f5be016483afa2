-- Serials go on standing as syncs are made and ended.
use Rattle.std.proofs.Common.{◌≡◌, ℕ, ◌+◌, ◌-◌, ◌*◌, ◌≤◌, ◌==◌, Bool, true, false, cond, Some, None, length, set, inl, refl, ap, sym, ◌∙◌, subst, arith}
use Rattle.std.specs.Map.{keys_of}
use Rattle.std.specs.Ordering.{nat_cmp}
use Rattle.std.specs.BTreeMap.{is_at}
use Rattle.std.specs.BTreeSet.{insert_key}
use Rattle.std.specs.Set.{remove_key}
use Rattle.std.proofs.lemmas.Bool.{eqb-true, eq-eqb}
use Rattle.std.proofs.lemmas.List.{length-set}
use Rattle.gl_calls.specs.declared.call.Call.{Call}
use Rattle.gl_calls.specs.declared.call.Call.TheVariants as call
use Rattle.gl_calls.specs.declared.reply.Entry.{Entry}
use Rattle.tables.specs.Table.{Entries, IsOrdered, entry, with_entry, without}
use Rattle.vk_types.specs.declared.batches.QueueSerial.{QueueSerial}
use Rattle.gl_model.specs.GroupEffect.{group_effect}
use Rattle.gl_model.specs.GroupModel.{GroupModel, Fence}
use Rattle.gl_model.specs.Effect.{fence_effect, birth_of, new_fence}
use Rattle.gl_model.specs.Legal.{after_entry}
use Rattle.gl_model.specs.Refusal.{refusal}
use Rattle.gl_model.proofs.KeyLaws.{keys-with_entry, keys-without}
use Rattle.gl_model.proofs.SyncLaws.{after_entry-syncs}
use Rattle.gl_model.proofs.TableLaws.{entry-with_entry}
use Rattle.back_core.specs.Link.{Link}
use Rattle.back_core.specs.Needs.{IsOfGroup}
use Rattle.front_model.specs.Face.{Face}
use Rattle.sync_serials.specs.declared.serials.SyncName.{SyncName}
use Rattle.sync_serials.specs.declared.serials.SyncName.TheVariants.{Gl, Egl}
use Rattle.sync_serials.specs.Serials.{SyncTables, SyncStands, SyncsStand, serial_at, fence_at, newest_of, with_sync, without_sync, index_on, makes, ends, is_wait}
use Rattle.sync_serials.proofs.Orders.{ordered-with_entry, ordered-without, ordered-same_keys, was-without}
use Rattle.sync_serials.proofs.Newest.{newest_in, newest_after}
use Rattle.sync_serials.proofs.Facts.{WritesNothing, HasFacts, entry_facts, fence_below, birth_below, fence_writes_nothing, delete_writes_nothing, create_writes_nothing, destroy_writes_nothing}
use Rattle.sync_serials.proofs.Signalled.{IsCurrent, current, own_index}
use Rattle.sync_serials.proofs.Standing.{stand_after}

-- Syncs by their names

abbrev same_name : SyncName → SyncName → Bool
same_name (Gl a) (Gl b) = a == b
same_name (Gl a) (Egl b) = false
same_name (Egl a) (Gl b) = false
same_name (Egl a) (Egl b) = a == b

-- the facts of syncs once one of a name was made, or ended
abbrev with_fence : GroupModel → SyncName → Fence → GroupModel
with_fence state (Gl n) fence = record state { fences = with_entry n fence state.fences }
with_fence state (Egl n) fence = record state { egl_fences = with_entry n fence state.egl_fences }

abbrev without_fence : GroupModel → SyncName → GroupModel
without_fence state (Gl n) = record state { fences = without n state.fences }
without_fence state (Egl n) = record state { egl_fences = without n state.egl_fences }

-- An ended sync

-- a call that ends a sync
record IsEnd (asked : Call) (x : SyncName) : Type 0 where
  no_wait : is_wait asked ≡ false
  nothing : WritesNothing asked
  ends_it : (state : GroupModel) (thread place : ℕ) → fence_effect state thread asked place ≡ without_fence state x

ending : (asked : Call) (x : SyncName) → ends asked x → IsEnd asked x
ending (call.DeleteSync number) x is = record {
  no_wait = refl;
  nothing = delete_writes_nothing number;
  ends_it = λ state thread place. ap (without_fence state) (sym is);
}
ending (call.DestroySync number) x is = record {
  no_wait = refl;
  nothing = destroy_writes_nothing number;
  ends_it = λ state thread place. ap (without_fence state) (sym is);
}
ending _ x is = absurd is

-- the tables and the facts without a sync
record AreWithout (tables fewer : SyncTables) (state after : GroupModel) : Type 0 where
  group : fewer.group ≡ tables.group
  newest : fewer.newest ≡ tables.newest
  fences : keys_of fewer.fences ≡ keys_of after.fences
  egl_fences : keys_of fewer.egl_fences ≡ keys_of after.egl_fences
  ordered : IsOrdered fewer.fences
  egl_ordered : IsOrdered fewer.egl_fences
  serials : (y : SyncName) (serial : QueueSerial) → serial_at fewer y ≡ Some serial → serial_at tables y ≡ Some serial
  facts : (y : SyncName) (fence : Fence) → fence_at after y ≡ Some fence → fence_at state y ≡ Some fence

same_rest : {V W : Type 0} (n : ℕ) (t : Entries V) (u : Entries W) → keys_of t ≡ keys_of u → keys_of (without n t) ≡ keys_of (without n u)
same_rest n t u same = keys-without n t ∙ ap (remove_key (is_at (nat_cmp n))) same ∙ sym (keys-without n u)

are_without : (f : Face) (s : Link) (ids : Entries ℕ) (tables : SyncTables) (state : GroupModel) (place : ℕ) (x : SyncName) → SyncsStand f s ids tables state place → AreWithout tables (without_sync tables x) state (without_fence state x)
are_without f s ids tables state place (Gl n) stand = record {
  group = refl;
  newest = refl;
  fences = same_rest n tables.fences state.fences stand.fences;
  egl_fences = stand.egl_fences;
  ordered = ordered-without n tables.fences stand.ordered;
  egl_ordered = stand.egl_ordered;
  serials = serials;
  facts = facts;
}
  where
    serials : (y : SyncName) (serial : QueueSerial) → serial_at (without_sync tables (Gl n)) y ≡ Some serial → serial_at tables y ≡ Some serial
    serials (Gl m) serial at = was-without n m tables.fences serial stand.ordered at
    serials (Egl m) serial at = at

    facts : (y : SyncName) (fence : Fence) → fence_at (without_fence state (Gl n)) y ≡ Some fence → fence_at state y ≡ Some fence
    facts (Gl m) fence at = was-without n m state.fences fence (ordered-same_keys tables.fences state.fences stand.fences stand.ordered) at
    facts (Egl m) fence at = at
are_without f s ids tables state place (Egl n) stand = record {
  group = refl;
  newest = refl;
  fences = stand.fences;
  egl_fences = same_rest n tables.egl_fences state.egl_fences stand.egl_fences;
  ordered = stand.ordered;
  egl_ordered = ordered-without n tables.egl_fences stand.egl_ordered;
  serials = serials;
  facts = facts;
}
  where
    serials : (y : SyncName) (serial : QueueSerial) → serial_at (without_sync tables (Egl n)) y ≡ Some serial → serial_at tables y ≡ Some serial
    serials (Gl m) serial at = at
    serials (Egl m) serial at = was-without n m tables.egl_fences serial stand.egl_ordered at

    facts : (y : SyncName) (fence : Fence) → fence_at (without_fence state (Egl n)) y ≡ Some fence → fence_at state y ≡ Some fence
    facts (Gl m) fence at = at
    facts (Egl m) fence at = was-without n m state.egl_fences fence (ordered-same_keys tables.egl_fences state.egl_fences stand.egl_fences stand.egl_ordered) at

-- what the state after an entry has of syncs and births is what another state has
record HasThem (after next : GroupModel) : Type 0 where
  fences : after.fences ≡ next.fences
  egl_fences : after.egl_fences ≡ next.egl_fences
  births : (n birth : ℕ) → entry n after.births ≡ Some birth → entry n next.births ≡ Some birth

moved : (state next : GroupModel) (e : Entry) (place : ℕ) → refusal state.group e.thread e.call ≡ None → is_wait e.call ≡ false → WritesNothing e.call → fence_effect state e.thread e.call place ≡ next → HasThem (after_entry state e place) next
moved state next e place accepted no_wait nothing is = record {
  fences = facts.fences ∙ ap (λ m. m.fences) is;
  egl_fences = facts.egl_fences ∙ ap (λ m. m.egl_fences) is;
  births = λ n birth at. sym (ap (λ m. entry n m.births) is) ∙ (facts.births n birth at).0;
}
  where
    facts : HasFacts (after_entry state e place) (fence_effect state e.thread e.call place) (group_effect state.group e.thread e.call).contexts
    facts = entry_facts state e place accepted no_wait nothing

at_next : (after next : GroupModel) → HasThem after next → (y : SyncName) → fence_at after y ≡ fence_at next y
at_next after next h (Gl n) = ap (entry n) h.fences
at_next after next h (Egl n) = ap (entry n) h.egl_fences

same_births : (state : GroupModel) (x : SyncName) → (without_fence state x).births ≡ state.births
same_births state (Gl n) = refl
same_births state (Egl n) = refl

pub ended : (f : Face) (s : Link) (ids : Entries ℕ) (tables : SyncTables) (state : GroupModel) (place : ℕ) (e : Entry) (x : SyncName) → SyncsStand f s ids tables state place → refusal state.group e.thread e.call ≡ None → ends e.call x → SyncsStand f s ids (without_sync tables x) (after_entry state e place) (place + 1)
ended f s ids tables state place e x stand accepted is =
    stand_after f s ids ids tables (without_sync tables x) state (after_entry state e place) place stand
    (record {
      known = after_entry-syncs state e place stand.known;
      group = out.group;
      newest = out.newest;
      fences = out.fences ∙ sym (ap keys_of them.fences);
      egl_fences = out.egl_fences ∙ sym (ap keys_of them.egl_fences);
      ordered = out.ordered;
      egl_ordered = out.egl_ordered;
      serials = out.serials;
      was = λ y serial fence at there. record {
        old = fence;
        there = out.facts y fence (sym (at_next (after_entry state e place) (without_fence state x) them y) ∙ there);
        context = refl;
        at = refl;
        signalled = λ known. inl known;
      };
      born = λ n birth at below. born n birth at;
      kept = λ n birth index at below there. there;
      births = λ n m birth at_n at_m. stand.births n m birth (born n birth at_n) (born m birth at_m);
    })
  where
    end : IsEnd e.call x
    end = ending e.call x is

    out : AreWithout tables (without_sync tables x) state (without_fence state x)
    out = are_without f s ids tables state place x stand

    them : HasThem (after_entry state e place) (without_fence state x)
    them = moved state (without_fence state x) e place accepted end.no_wait end.nothing (end.ends_it state e.thread place)

    born : (n birth : ℕ) → entry n (after_entry state e place).births ≡ Some birth → entry n state.births ≡ Some birth
    born n birth at = sym (ap (entry n) (same_births state x)) ∙ them.births n birth at

-- A new sync

-- a call that makes a sync
record IsMaking (asked : Call) (x : SyncName) : Type 0 where
  no_wait : is_wait asked ≡ false
  nothing : WritesNothing asked
  makes_it : (state : GroupModel) (thread place : ℕ) → fence_effect state thread asked place ≡ with_fence state x (new_fence state thread place)

making : (asked : Call) (x : SyncName) → makes asked x → IsMaking asked x
making (call.FenceSync number condition flags) x is = record {
  no_wait = refl;
  nothing = fence_writes_nothing number condition flags;
  makes_it = λ state thread place. ap (λ y. with_fence state y (new_fence state thread place)) (sym is);
}
making (call.CreateSync number) x is = record {
  no_wait = refl;
  nothing = create_writes_nothing number;
  makes_it = λ state thread place. ap (λ y. with_fence state y (new_fence state thread place)) (sym is);
}
making _ x is = absurd is

-- the tables and the facts with one more sync
record AreWith (tables more : SyncTables) (serial : QueueSerial) (state after : GroupModel) (new : Fence) (x : SyncName) : Type 0 where
  group : more.group ≡ tables.group
  newest : more.newest ≡ set tables.newest (serial.index - 8 * tables.group) serial.number
  fences : keys_of more.fences ≡ keys_of after.fences
  egl_fences : keys_of more.egl_fences ≡ keys_of after.egl_fences
  ordered : IsOrdered more.fences
  egl_ordered : IsOrdered more.egl_fences
  serials : (y : SyncName) → serial_at more y ≡ cond (same_name y x) (Some serial) (serial_at tables y)
  facts : (y : SyncName) → fence_at after y ≡ cond (same_name y x) (Some new) (fence_at state y)

same_more : {V W : Type 0} (n : ℕ) (v : V) (w : W) (t : Entries V) (u : Entries W) → keys_of t ≡ keys_of u → keys_of (with_entry n v t) ≡ keys_of (with_entry n w u)
same_more n v w t u same = keys-with_entry n v t ∙ ap (λ ks. insert_key nat_cmp ks n) same ∙ sym (keys-with_entry n w u)

are_with : (f : Face) (s : Link) (ids : Entries ℕ) (tables : SyncTables) (state : GroupModel) (place : ℕ) (x : SyncName) (serial : QueueSerial) (new : Fence) → SyncsStand f s ids tables state place → AreWith tables (with_sync tables x serial) serial state (with_fence state x new) new x
are_with f s ids tables state place (Gl n) serial new stand = record {
  group = refl;
  newest = refl;
  fences = same_more n serial new tables.fences state.fences stand.fences;
  egl_fences = stand.egl_fences;
  ordered = ordered-with_entry n serial tables.fences stand.ordered;
  egl_ordered = stand.egl_ordered;
  serials = serials;
  facts = facts;
}
  where
    serials : (y : SyncName) → serial_at (with_sync tables (Gl n) serial) y ≡ cond (same_name y (Gl n)) (Some serial) (serial_at tables y)
    serials (Gl m) = entry-with_entry n m serial tables.fences
    serials (Egl m) = refl

    facts : (y : SyncName) → fence_at (with_fence state (Gl n) new) y ≡ cond (same_name y (Gl n)) (Some new) (fence_at state y)
    facts (Gl m) = entry-with_entry n m new state.fences
    facts (Egl m) = refl
are_with f s ids tables state place (Egl n) serial new stand = record {
  group = refl;
  newest = refl;
  fences = stand.fences;
  egl_fences = same_more n serial new tables.egl_fences state.egl_fences stand.egl_fences;
  ordered = stand.ordered;
  egl_ordered = ordered-with_entry n serial tables.egl_fences stand.egl_ordered;
  serials = serials;
  facts = facts;
}
  where
    serials : (y : SyncName) → serial_at (with_sync tables (Egl n) serial) y ≡ cond (same_name y (Egl n)) (Some serial) (serial_at tables y)
    serials (Gl m) = refl
    serials (Egl m) = entry-with_entry n m serial tables.egl_fences

    facts : (y : SyncName) → fence_at (with_fence state (Egl n) new) y ≡ cond (same_name y (Egl n)) (Some new) (fence_at state y)
    facts (Gl m) = refl
    facts (Egl m) = entry-with_entry n m new state.egl_fences

born_before : (state : GroupModel) (x : SyncName) (new : Fence) → (with_fence state x new).births ≡ state.births
born_before state (Gl n) new = refl
born_before state (Egl n) new = refl

same_value : {V : Type 0} (v w : V) → Some v ≡ Some w → v ≡ w
same_value v w is = cc

pub made : (f : Face) (s : Link) (ids : Entries ℕ) (tables : SyncTables) (state : GroupModel) (place : ℕ) (e : Entry) (x : SyncName) (serial : QueueSerial) → SyncsStand f s ids tables state place → refusal state.group e.thread e.call ≡ None → makes e.call x → index_on state.group ids e.thread ≡ Some serial.index → IsOfGroup f.group serial.index → serial.number ≡ f.last serial.index + 1 → SyncsStand f s ids (with_sync tables x serial) (after_entry state e place) (place + 1)
made f s ids tables state place e x serial stand accepted is on own next = record {
  known = after_entry-syncs state e place stand.known;
  group = more.group ∙ stand.group;
  eight = ap length more.newest ∙ length-set tables.newest (serial.index - 8 * tables.group) serial.number ∙ stand.eight;
  fences = more.fences ∙ sym (ap keys_of them.fences);
  egl_fences = more.egl_fences ∙ sym (ap keys_of them.egl_fences);
  ordered = more.ordered;
  egl_ordered = more.egl_ordered;
  stands = λ y z g at there. one (same_name y x) y z g (sym (more.serials y) ∙ at) (sym (fact y) ∙ there);
  order = λ y other z later g h at at_other there there_other same.
      both (same_name y x) (same_name other x) y other z later g h (sym (more.serials y) ∙ at) (sym (more.serials other) ∙ at_other) (sym (fact y) ∙ there) (sym (fact other) ∙ there_other) same;
  newest = λ i of_group. newest (i == serial.index) i refl of_group;
  births = λ n m birth at_n at_m. stand.births n m birth (born n birth at_n) (born m birth at_m);
}
  where
    make : IsMaking e.call x
    make = making e.call x is

    more : AreWith tables (with_sync tables x serial) serial state (with_fence state x (new_fence state e.thread place)) (new_fence state e.thread place) x
    more = are_with f s ids tables state place x serial (new_fence state e.thread place) stand

    them : HasThem (after_entry state e place) (with_fence state x (new_fence state e.thread place))
    them = moved state (with_fence state x (new_fence state e.thread place)) e place accepted make.no_wait make.nothing (make.makes_it state e.thread place)

    fact : (y : SyncName) → fence_at (after_entry state e place) y ≡ cond (same_name y x) (Some (new_fence state e.thread place)) (fence_at state y)
    fact y = at_next (after_entry state e place) (with_fence state x (new_fence state e.thread place)) them y ∙ more.facts y

    born : (n birth : ℕ) → entry n (after_entry state e place).births ≡ Some birth → entry n state.births ≡ Some birth
    born n birth at = sym (ap (entry n) (born_before state x (new_fence state e.thread place))) ∙ them.births n birth at

    now : IsCurrent state ids e.thread serial.index
    now = current state ids e.thread serial.index place stand.known on

    -- the newest numbers
    in_tables : (i : ℕ) → IsOfGroup f.group i → IsOfGroup tables.group i
    in_tables i of_group = subst (λ g. IsOfGroup g i) (sym stand.group) of_group

    newest_is : (i : ℕ) → IsOfGroup f.group i → newest_of (with_sync tables x serial) i ≡ cond (i == serial.index) serial.number (newest_of tables i)
    newest_is i of_group =
        ap (λ g. newest_in g (with_sync tables x serial).newest i) more.group
        ∙ ap (λ l. newest_in tables.group l i) more.newest
        ∙ newest_after tables.group serial.index i serial.number tables.newest stand.eight (in_tables serial.index own) (in_tables i of_group)

    newest : (b : Bool) (i : ℕ) → (i == serial.index) ≡ b → IsOfGroup f.group i → newest_of (with_sync tables x serial) i ≤ f.last i + 1
    newest true i same of_group =
        let at : newest_of (with_sync tables x serial) i ≡ serial.number = newest_is i of_group ∙ ap (λ b. cond b serial.number (newest_of tables i)) same in
        subst (λ k. newest_of (with_sync tables x serial) i ≤ f.last k + 1) (sym (eqb-true i serial.index same)) (omega (arith, at, next))
    newest false i other of_group =
        let at : newest_of (with_sync tables x serial) i ≡ newest_of tables i = newest_is i of_group ∙ ap (λ b. cond b serial.number (newest_of tables i)) other in
        omega (arith, at, stand.newest i of_group)

    -- a number that was made before on this index is at most the new one
    at_most : (z : QueueSerial) → z.number ≤ newest_of tables z.index → z.index ≡ serial.index → z.number ≤ serial.number
    at_most z low same = omega (arith, subst (λ i. z.number ≤ newest_of tables i) same low, stand.newest serial.index own, next)

    -- each sync
    fresh : SyncStands f s ids (with_sync tables x serial) (after_entry state e place) (place + 1) serial (new_fence state e.thread place)
    fresh = record {
      of_group = own;
      some = omega (arith, next);
      low =
          let at : newest_of (with_sync tables x serial) serial.index ≡ serial.number =
          newest_is serial.index own ∙ ap (λ b. cond b serial.number (newest_of tables serial.index)) (eq-eqb serial.index serial.index refl) in
          omega (arith, at);
      signalled = λ never. let none : ⊥ = cc in absurd none;
      context = λ n at.
          let same : n ≡ now.number = stand.births n now.number (birth_of state e.thread) (born n (birth_of state e.thread) at) now.birth in
          ap (λ k. entry k ids) same ∙ now.at;
      earlier = omega (arith, birth_below state place now.number (birth_of state e.thread) stand.known now.birth);
    }

    before : (y : SyncName) (z : QueueSerial) (g : Fence) → serial_at tables y ≡ Some z → fence_at state y ≡ Some g → SyncStands f s ids (with_sync tables x serial) (after_entry state e place) (place + 1) z g
    before y z g at there =
        let st : SyncStands f s ids tables state place z g = stand.stands y z g at there in
        record {
          of_group = st.of_group;
          some = st.some;
          low = low (z.index == serial.index) z refl st.of_group st.low;
          signalled = st.signalled;
          context = λ n at. st.context n (born n g.context at);
          earlier = omega (arith, st.earlier);
        }
      where
        low : (b : Bool) (z : QueueSerial) → (z.index == serial.index) ≡ b → IsOfGroup f.group z.index → z.number ≤ newest_of tables z.index → z.number ≤ newest_of (with_sync tables x serial) z.index
        low true z same of_group h =
            let at : newest_of (with_sync tables x serial) z.index ≡ serial.number = newest_is z.index of_group ∙ ap (λ b. cond b serial.number (newest_of tables z.index)) same in
            omega (arith, at, at_most z h (eqb-true z.index serial.index same))
        low false z other of_group h =
            let at : newest_of (with_sync tables x serial) z.index ≡ newest_of tables z.index = newest_is z.index of_group ∙ ap (λ b. cond b serial.number (newest_of tables z.index)) other in
            omega (arith, at, h)

    one : (b : Bool) (y : SyncName) (z : QueueSerial) (g : Fence) → cond b (Some serial) (serial_at tables y) ≡ Some z → cond b (Some (new_fence state e.thread place)) (fence_at state y) ≡ Some g → SyncStands f s ids (with_sync tables x serial) (after_entry state e place) (place + 1) z g
    one true y z g at there =
        subst (λ q. SyncStands f s ids (with_sync tables x serial) (after_entry state e place) (place + 1) q g) (same_value serial z at)
        (subst (λ h. SyncStands f s ids (with_sync tables x serial) (after_entry state e place) (place + 1) serial h) (same_value (new_fence state e.thread place) g there) fresh)
    one false y z g at there = before y z g at there

    -- two syncs of one context
    both : (b d : Bool) (y other : SyncName) (z later : QueueSerial) (g h : Fence) → cond b (Some serial) (serial_at tables y) ≡ Some z → cond d (Some serial) (serial_at tables other) ≡ Some later → cond b (Some (new_fence state e.thread place)) (fence_at state y) ≡ Some g → cond d (Some (new_fence state e.thread place)) (fence_at state other) ≡ Some h → g.context ≡ h.context → (z.index ≡ later.index) × (g.place ≤ h.place → z.number ≤ later.number)
    both true true y other z later g h at at_other there there_other same =
        let equal : z ≡ later = sym (same_value serial z at) ∙ same_value serial later at_other in
        (ap (λ q. q.index) equal, λ le. omega (arith, ap (λ (q : QueueSerial). q.number) equal))
    both true false y other z later g h at at_other there there_other same =
        let now_is : new_fence state e.thread place ≡ g = same_value (new_fence state e.thread place) g there in
        let st : SyncStands f s ids tables state place later h = stand.stands other later h at_other there_other in (
          sym (ap (λ q. q.index) (same_value serial z at))
              ∙ sym (own_index f s ids tables state place e.thread serial.index later h now st (sym same ∙ sym (ap (λ q. q.context) now_is))),
          λ le. absurd (omega (arith, le, ap (λ (q : Fence). q.place) now_is, fence_below state place other h stand.known there_other)),
        )
    both false true y other z later g h at at_other there there_other same =
        let now_is : new_fence state e.thread place ≡ h = same_value (new_fence state e.thread place) h there_other in
        let st : SyncStands f s ids tables state place z g = stand.stands y z g at there in
        let index : z.index ≡ serial.index = own_index f s ids tables state place e.thread serial.index z g now st (same ∙ sym (ap (λ q. q.context) now_is)) in (
          index ∙ ap (λ q. q.index) (same_value serial later at_other),
          λ le. omega (arith, at_most z st.low index, ap (λ (q : QueueSerial). q.number) (same_value serial later at_other)),
        )
    both false false y other z later g h at at_other there there_other same = stand.order y other z later g h at at_other there there_other same
