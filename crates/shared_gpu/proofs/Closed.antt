-- A back that has nothing left to do, whose groups gave all that they made.
use Rattle.std.proofs.Common.{◌≡◌, ◌≢◌, ℕ, ◌+◌, ◌≤◌, ◌<◌, List, Some, refl, sym, ◌∙◌, subst, arith, inl, inr}
use Rattle.std.specs.Prelude.{◌⊎◌, IsSome}
use Rattle.std.proofs.lemmas.Bool.{false≢true, cases_lt}
use Rattle.vk_types.specs.declared.batches.QueueSerial.{QueueSerial}
use Rattle.resource_use.specs.Uses.{number_of}
use Rattle.submit_queue.specs.Histories.{last_number}
use Rattle.back_core.specs.declared.back_event.BackEvent.{BackEvent}
use Rattle.back_core.specs.Own.{batches_of}
use Rattle.back_core.specs.History.{completed, link_of, own_part, opening}
use Rattle.back_core.specs.Steps.{HasGoneOn, IsIdle, IsAllGiven}
use Rattle.back_core.proofs.Outside.{part_on}
use Rattle.back_core.proofs.Apart.{own_apart}
use Rattle.shared_gpu.specs.Orderly.{IsOrderly}
use Rattle.shared_gpu.specs.Ends.{HasGivenAll}

-- steps of batches leave each group its own part
part_still : (h k : List BackEvent) → HasGoneOn h k → (g : ℕ) → own_part k g ≡ own_part h g
part_still h k gone g = own_apart h k (g + 1) g (part_on h k (g + 1) gone) (λ e. absurd (omega (arith, e)))

given_still : (h k : List BackEvent) (g : ℕ) → own_part k g ≡ own_part h g → HasGivenAll (link_of h g) → HasGivenAll (link_of k g)
given_still h k g same all =
    let own : HasGivenAll (own_part h g) = record { none_lost = all.none_lost; given = all.given } in
    let new : HasGivenAll (own_part k g) = subst HasGivenAll (sym same) own in
    record { none_lost = new.none_lost; given = new.given }

-- a group that made nothing
given_unused : (h : List BackEvent) (g : ℕ) → own_part h g ≡ opening g → HasGivenAll (link_of h g)
given_unused h g same =
    let none : HasGivenAll (opening g) = record { none_lost = λ id some. absurd (false≢true some); given = λ id index uses is. absurd (cc) } in
    let own : HasGivenAll (own_part h g) = subst HasGivenAll (sym same) none in
    record { none_lost = own.none_lost; given = own.given }

reached_all : (h : List BackEvent) (g : ℕ) → HasGivenAll (link_of h g) → IsIdle h → (id : ℕ) (uses : List QueueSerial) → (link_of h g).given id ≡ Some uses → (index : ℕ) → number_of uses index ≤ completed h index
reached_all h g all idle id uses is index = by_case (cases_lt (number_of uses index) 1)
  where
    last : number_of uses index ≤ last_number (batches_of (link_of h g).mine) index
    last = all.given id index uses is

    by_case : (number_of uses index < 1) ⊎ (1 ≤ number_of uses index) → number_of uses index ≤ completed h index
    by_case (inl none) = omega (arith, none)
    by_case (inr some) = idle.all_retired g index (number_of uses index) (some, last)

pub all_given : (h k : List BackEvent) → IsOrderly h → HasGoneOn h k → IsIdle k → ((group : ℕ) → group < 8 → HasGivenAll (link_of h group)) → (g : ℕ) → IsAllGiven k g
all_given h k orderly gone idle all g =
    let still : HasGivenAll (link_of k g) = given_still h k g (part_still h k gone g) (by_group (cases_lt g 8)) in
    record { given = still.none_lost; reached = reached_all k g still idle }
  where
    by_group : (g < 8) ⊎ (8 ≤ g) → HasGivenAll (link_of h g)
    by_group (inl low) = all g low
    by_group (inr high) = given_unused h g (orderly.no_others g high)
