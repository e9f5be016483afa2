-- What a cleanup leaves of a back.
use Rattle.std.proofs.Common.{◌≡◌, ℕ, ◌+◌, ◌<◌, ◌≤◌, ◌==◌, Bool, true, false, cond, List, [], ◌∷◌, ◌++◌, length, take, refl, sym, ap, ◌∙◌, subst, add-one, zero, suc, arith}
use Rattle.std.specs.Prelude.{Option, Some, None, is_none, ◌&&◌}
use Rattle.std.proofs.lemmas.Bool.{eqb-true}
use Rattle.std.proofs.lemmas.List.{append-nil}
use Rattle.vk_types.specs.declared.stops.Stop.{Stop}
use Rattle.vk_device.specs.declared.logged.Logged.{Logged}
use Rattle.garbage.specs.declared.entry.Garbage.{Garbage}
use Rattle.back_core.specs.declared.back_event.BackEvent.TheVariants as event
use Rattle.back_core.specs.Run.{without_covered, destroys, garbage_of}
use Rattle.back_core.specs.Back.{BackModel}
use Rattle.back_core.specs.Steps.{CleansBy}
use Rattle.back_core.specs.Cleaning.{covered_of, Destroys}
use Rattle.back_core.proofs.TakenOut.{without_same, without_shorter, empty}

none_is : (stop : Option Stop) → is_none stop ≡ true → stop ≡ None
none_is None e = refl
none_is (Some s) e = absurd (cc e)

both-left : (a b : Bool) → (a && b) ≡ true → a ≡ true
both-left true b e = refl
both-left false b e = e

both-right : (a b : Bool) → (a && b) ≡ true → b ≡ true
both-right true b e = e
both-right false b e = absurd (cc e)

module _ (before now : List Logged) (old cur : List Garbage) (read : List ℕ) (count : ℕ) where
  pub count_few : (stop : Option Stop) → Destroys before now old cur read count stop → count ≤ length (covered_of read old)
  count_few None done = let e = done.all refl in omega arith
  count_few (Some stop) done = let l = done.some stop refl in omega arith

  -- a cleanup that did nothing
  pub nothing_done : (stop : Option Stop) → Destroys before now old cur read count stop → ((count == 0) && is_none stop) ≡ true → (now ≡ before) × (without_covered read (count + 1) old ≡ old)
  nothing_done stop done nothing =
      let zero_ : count ≡ 0 = eqb-true count 0 (both-left _ _ nothing) in
      let none : covered_of read old ≡ [] = empty (covered_of read old) (sym zero_ ∙ done.all (none_is stop (both-right (count == 0) _ nothing))) in (
        done.destroyed ∙ (ap (λ n. before ++ destroys (take n (covered_of read old))) zero_ ∙ append-nil before),
        ap (λ n. without_covered read (n + 1) old) zero_ ∙ without_same read old none,
      )

  -- one that did something took out an entry at least
  some_done : (stop : Option Stop) → Destroys before now old cur read count stop → ((count == 0) && is_none stop) ≡ false → 0 < length (covered_of read old)
  some_done (Some stop) done e = let l = done.some stop refl in omega arith
  some_done None done e = some_at count (done.all refl) e
    where
      some_at : (n : ℕ) → n ≡ length (covered_of read old) → ((n == 0) && true) ≡ false → 0 < length (covered_of read old)
      some_at zero is e = absurd (cc e)
      some_at (suc n) is e = omega arith

  pub fewer_left : (stop : Option Stop) → Destroys before now old cur read count stop → ((count == 0) && is_none stop) ≡ false → length cur < length old
  fewer_left stop done e = rw (done.left, add-one count) (without_shorter read count old (some_done stop done e))

pub cleans_by : {D : Type 0} (journal : D → List Logged) (old new : BackModel D) (items items' : List Garbage) (read : List ℕ) (count : ℕ) (stop : Option Stop)
    → Destroys (journal old.device) (journal new.device) items items' read count stop → items ≡ garbage_of old.history → items' ≡ garbage_of new.history
    → new.history ≡ cond ((count == 0) && is_none stop) old.history (old.history ++ event.Cleaned read count ∷ []) → CleansBy journal old new read count stop
cleans_by journal old new items items' read count stop done is is' history =
    let d = subst (λ l. Destroys (journal old.device) (journal new.device) l items' read count stop) is done in
    record { destroyed = d.destroyed; left = sym is' ∙ d.left; all = d.all; some = d.some; history = history }
