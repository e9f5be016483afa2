-- An accepted call of OpenGL ES keeps the sizes of buffers.
use Rattle.std.proofs.Common.{◌≡◌, ℕ, ◌≤◌, ◌==◌, Bool, true, false, cond, Option, Some, None, List, ◌∷◌, nat_lt, refl, ap, sym, ◌∙◌, subst, arith}
use Rattle.std.specs.Option.{option_map_or}
use Rattle.std.proofs.lemmas.Grind.{common_steps}
use Rattle.gl_calls.specs.declared.call.Call.{Call}
use Rattle.gl_calls.specs.declared.reply.Reply.{Reply}
use Rattle.tables.specs.Table.{entry, with_entry}
use Rattle.gl_model.specs.declared.objects.BufferFacts.{BufferFacts}
use Rattle.gl_model.specs.GroupState.{Context, GroupState}
use Rattle.gl_model.specs.Bindings.{buffer_of, same_option}
use Rattle.gl_model.specs.RefusalRows.{Row, ◌⇒◌, first_row}
use Rattle.gl_model.specs.GroupEffect.{change_buffer}
use Rattle.gl_model.specs.GroupModel.{GroupModel, Store}
use Rattle.gl_model.specs.Effect.{change_store, store_of, gl_contents}
use Rattle.gl_model.specs.Reached.{changed_buffer_in}
use Rattle.gl_model.specs.Sizes.{HoldsBuffer, HasSizes}
use Rattle.gl_model.proofs.TableLaws.{entry-with_entry}
use Rattle.gl_model.proofs.StoreLaws.{change_store-store, gl_contents-other}

-- Rows that do not hold

pub row_fails : (c : Bool) (r : Reply) (rows : List Row) → first_row ((c ⇒ r) ∷ rows) ≡ None → (c ≡ false) × (first_row rows ≡ None)
row_fails true r rows h = let no : ⊥ = cc in absurd no
row_fails false r rows h = (refl, h)

pub at_most : (a b : ℕ) → nat_lt a b ≡ false → b ≤ a
at_most a b h = grind (arith, common_steps)

-- One buffer changed

same_key : (m n : ℕ) → (m == n) ≡ true → m ≡ n
same_key m n h = grind (arith, common_steps)

-- the buffers where those at one key are others
pub both_changed : (state : GroupModel) (c : ℕ) (g : BufferFacts) (change : Store → Store) → HasSizes state → HoldsBuffer (change (store_of state c)) g → (b : ℕ) (f : BufferFacts) → entry b (with_entry c g state.group.buffers) ≡ Some f → HoldsBuffer (store_of (change_store state (Some c) change) b) f
both_changed state c g change sizes holds b f h =
    let h' : cond (b == c) (Some g) (entry b state.group.buffers) ≡ Some f = sym (entry-with_entry c b g state.group.buffers) ∙ h in
    let P : Store → Type 0 = λ s. HoldsBuffer s f in
    subst P (sym (change_store-store state c change b)) (by_key (b == c) refl h')
  where
    by_key : (t : Bool) → (b == c) ≡ t → cond t (Some g) (entry b state.group.buffers) ≡ Some f → HoldsBuffer (cond t (change (store_of state c)) (store_of state b)) f
    by_key true is k = let same : g ≡ f = cc in let Q : BufferFacts → Type 0 = λ f. HoldsBuffer (change (store_of state c)) f in subst Q same holds
    by_key false is k = sizes.stores b f k

-- a change of the store alone
pub store_changed : (state : GroupModel) (bound : Option ℕ) (change : Store → Store) → HasSizes state → ((c : ℕ) (g : BufferFacts) → bound ≡ Some c → entry c state.group.buffers ≡ Some g → HoldsBuffer (store_of state c) g → HoldsBuffer (change (store_of state c)) g) → (b : ℕ) (f : BufferFacts) → entry b state.group.buffers ≡ Some f → HoldsBuffer (store_of (change_store state bound change) b) f
store_changed state None change sizes step b f h = sizes.stores b f h
store_changed state (Some c) change sizes step b f h =
    let P : Store → Type 0 = λ s. HoldsBuffer s f in
    subst P (sym (change_store-store state c change b)) (by_key (b == c) refl)
  where
    by_key : (t : Bool) → (b == c) ≡ t → HoldsBuffer (cond t (change (store_of state c)) (store_of state b)) f
    by_key true is =
        let same : b ≡ c = same_key b c is in
        let h' : entry c state.group.buffers ≡ Some f = ap (λ k. entry k state.group.buffers) (sym same) ∙ h in
        step c f refl h' (sizes.stores c f h')
    by_key false is = sizes.stores b f h

-- a change of a buffer and of its store
pub buffer_changed : (state : GroupModel) (bound : Option ℕ) (facts : BufferFacts → BufferFacts) (change : Store → Store) → HasSizes state → ((c : ℕ) (g : BufferFacts) → bound ≡ Some c → entry c state.group.buffers ≡ Some g → HoldsBuffer (store_of state c) g → HoldsBuffer (change (store_of state c)) (facts g)) → (b : ℕ) (f : BufferFacts) → entry b (change_buffer state.group bound facts).buffers ≡ Some f → HoldsBuffer (store_of (change_store state bound change) b) f
buffer_changed state None facts change sizes step b f h = sizes.stores b f h
buffer_changed state (Some c) facts change sizes step b f h = by_entry (entry c state.group.buffers) refl h
  where
    by_entry : (o : Option BufferFacts) → entry c state.group.buffers ≡ o → entry b (option_map_or (λ g. with_entry c (facts g) state.group.buffers) o state.group.buffers) ≡ Some f → HoldsBuffer (store_of (change_store state (Some c) change) b) f
    by_entry None is h = store_changed state (Some c) change sizes (λ d g same there holds. let no : ⊥ = none_there d g same there is in absurd no) b f h
      where
        none_there : (d : ℕ) (g : BufferFacts) → Some c ≡ Some d → entry d state.group.buffers ≡ Some g → entry c state.group.buffers ≡ None → ⊥
        none_there d g same there is = cc
    by_entry (Some g) is h = both_changed state c (facts g) change sizes (step c g refl is (sizes.stores c g is)) b f h

-- a call that changes no buffer
pub untouched : (state : GroupModel) (context : Context) (asked : Call) (b : ℕ) (f : BufferFacts) → same_option (changed_buffer_in state.group context asked) (Some b) ≡ false → HoldsBuffer (store_of state b) f → HoldsBuffer (store_of (gl_contents state context asked) b) f
untouched state context asked b f apart holds =
    let P : Store → Type 0 = λ s. HoldsBuffer s f in subst P (sym (gl_contents-other state context asked b apart)) holds

-- the buffer that is bound
pub buffer_found : (group : GroupState) (bound : Option ℕ) (c : ℕ) (g : BufferFacts) → bound ≡ Some c → entry c group.buffers ≡ Some g → buffer_of group bound ≡ Some g
buffer_found group bound c g is there = rw is there
