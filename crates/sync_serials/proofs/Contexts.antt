-- Serials go on standing as contexts are created and leave.
use Rattle.std.proofs.Common.{◌≡◌, ℕ, ◌+◌, ◌<◌, ◌==◌, Bool, true, false, cond, Some, None, refl, ap, sym, ◌∙◌, subst, arith}
use Rattle.std.proofs.lemmas.Bool.{eqb-true}
use Rattle.gl_calls.specs.declared.call.Call.TheVariants as call
use Rattle.gl_calls.specs.declared.reply.Entry.{Entry}
use Rattle.tables.specs.Table.{Entries, entry, has, only, with_entry}
use Rattle.gl_model.specs.GroupEffect.{group_effect}
use Rattle.gl_model.specs.GroupModel.{GroupModel}
use Rattle.gl_model.specs.Effect.{fence_effect}
use Rattle.gl_model.specs.Legal.{after_entry}
use Rattle.gl_model.specs.Refusal.{refusal}
use Rattle.gl_model.proofs.SyncLaws.{after_entry-syncs}
use Rattle.gl_model.proofs.TableLaws.{entry-only, entry-with_entry}
use Rattle.back_core.specs.Link.{Link}
use Rattle.front_model.specs.Face.{Face}
use Rattle.sync_serials.specs.Serials.{SyncTables, SyncsStand, is_wait, leaves_contexts}
use Rattle.sync_serials.proofs.Facts.{WritesNothing, HasFacts, LeavesContexts, entry_facts, creates_nothing, leaves, birth_below}
use Rattle.sync_serials.proofs.Standing.{same_syncs}

pub created : (f : Face) (s : Link) (ids : Entries ℕ) (tables : SyncTables) (state : GroupModel) (place number index : ℕ) (e : Entry) → SyncsStand f s ids tables state place → refusal state.group e.thread e.call ≡ None → e.call ≡ call.CreateContext number → SyncsStand f s (with_entry number index ids) tables (after_entry state e place) (place + 1)
created f s ids tables state place number index e stand accepted is =
    same_syncs f s ids (with_entry number index ids) tables state (after_entry state e place) place stand
    (record {
      known = after_entry-syncs state e place stand.known;
      fences = facts.fences ∙ ap (λ c. (fence_effect state e.thread c place).fences) is;
      egl_fences = facts.egl_fences ∙ ap (λ c. (fence_effect state e.thread c place).egl_fences) is;
      born = λ n birth at below. born (n == number) n birth (was n birth at) below;
      kept = λ n birth i at below there. entry-with_entry number n index ids ∙ kept (n == number) n birth i (was n birth at) below there;
      births = λ n m birth at_n at_m. distinct (n == number) (m == number) n m birth refl refl (was n birth at_n) (was m birth at_m);
    })
  where
    facts : HasFacts (after_entry state e place) (fence_effect state e.thread e.call place) (group_effect state.group e.thread e.call).contexts
    facts = entry_facts state e place accepted (ap is_wait is) (subst WritesNothing (sym is) (creates_nothing number))

    was : (n birth : ℕ) → entry n (after_entry state e place).births ≡ Some birth → cond (n == number) (Some place) (entry n state.births) ≡ Some birth
    was n birth at = sym (ap (λ c. entry n (fence_effect state e.thread c place).births) is ∙ entry-with_entry number n place state.births) ∙ (facts.births n birth at).0

    new_is : (birth : ℕ) → Some place ≡ Some birth → place ≡ birth
    new_is birth at = cc

    born : (b : Bool) (n birth : ℕ) → cond b (Some place) (entry n state.births) ≡ Some birth → birth < place → entry n state.births ≡ Some birth
    born true n birth at below = absurd (omega (arith, new_is birth at, below))
    born false n birth at below = at

    kept : (b : Bool) (n birth i : ℕ) → cond b (Some place) (entry n state.births) ≡ Some birth → birth < place → entry n ids ≡ Some i → cond b (Some index) (entry n ids) ≡ Some i
    kept true n birth i at below there = absurd (omega (arith, new_is birth at, below))
    kept false n birth i at below there = there

    distinct : (b d : Bool) (n m birth : ℕ) → (n == number) ≡ b → (m == number) ≡ d → cond b (Some place) (entry n state.births) ≡ Some birth → cond d (Some place) (entry m state.births) ≡ Some birth → n ≡ m
    distinct true true n m birth is_n is_m at_n at_m = eqb-true n number is_n ∙ sym (eqb-true m number is_m)
    distinct true false n m birth is_n is_m at_n at_m = absurd (omega (arith, new_is birth at_n, birth_below state place m birth stand.known at_m))
    distinct false true n m birth is_n is_m at_n at_m = absurd (omega (arith, new_is birth at_m, birth_below state place n birth stand.known at_n))
    distinct false false n m birth is_n is_m at_n at_m = stand.births n m birth at_n at_m

pub left : (f : Face) (s : Link) (ids : Entries ℕ) (tables : SyncTables) (state : GroupModel) (place : ℕ) (e : Entry) → SyncsStand f s ids tables state place → refusal state.group e.thread e.call ≡ None → leaves_contexts e.call ≡ true → SyncsStand f s (only (λ n. has n (group_effect state.group e.thread e.call).contexts) ids) tables (after_entry state e place) (place + 1)
left f s ids tables state place e stand accepted is =
    same_syncs f s ids (only (λ n. has n (group_effect state.group e.thread e.call).contexts) ids) tables state (after_entry state e place) place stand
    (record {
      known = after_entry-syncs state e place stand.known;
      fences = facts.fences ∙ ap (λ m. m.fences) (l.same state e.thread place);
      egl_fences = facts.egl_fences ∙ ap (λ m. m.egl_fences) (l.same state e.thread place);
      born = λ n birth at below. was n birth at;
      kept = λ n birth index at below there.
          entry-only (λ k. has k (group_effect state.group e.thread e.call).contexts) n ids
          ∙ ap (λ b. cond b (entry n ids) None) (facts.births n birth at).1 ∙ there;
      births = λ n m birth at_n at_m. stand.births n m birth (was n birth at_n) (was m birth at_m);
    })
  where
    l : LeavesContexts e.call
    l = leaves e.call is

    facts : HasFacts (after_entry state e place) (fence_effect state e.thread e.call place) (group_effect state.group e.thread e.call).contexts
    facts = entry_facts state e place accepted l.no_wait l.nothing

    was : (n birth : ℕ) → entry n (after_entry state e place).births ≡ Some birth → entry n state.births ≡ Some birth
    was n birth at = sym (ap (λ m. entry n m.births) (l.same state e.thread place)) ∙ (facts.births n birth at).0
