-- How all fronts are closed, one after the other, and what that leaves.
use Rattle.std.proofs.Common.{◌≡◌, ◌≢◌, ℕ, suc, zero, ◌+◌, ◌≤◌, ◌<◌, Bool, true, false, List, [], ◌∷◌, ◌++◌, length, Some, refl, sym, ap}
use Rattle.std.proofs.Common.{◌∙◌, subst, arith, eq-eqb, inl, inr, add-one}
use Rattle.std.specs.Prelude.{◌⊎◌, IsSome, Option, slice_get}
use Rattle.std.proofs.Math.Dec.{eqb}
use Rattle.std.proofs.lemmas.Bool.{eqb-true, false≢true, cases_lt}
use Rattle.std.proofs.lemmas.List.{length-set}
use Rattle.vk_types.specs.declared.batches.QueueSerial.{QueueSerial}
use Rattle.vk_types.specs.declared.stops.Stop.{Stop}
use Rattle.resource_use.specs.Uses.{number_of}
use Rattle.submit_queue.specs.Histories.{last_number}
use Rattle.trace_text.specs.Reading.{Plan}
use Rattle.back_core.specs.declared.back_event.BackEvent.{BackEvent}
use Rattle.back_core.specs.Own.{batches_of}
use Rattle.back_core.specs.Link.{Link, Asked}
use Rattle.back_core.specs.Answers.{Learns}
use Rattle.back_core.specs.History.{completed, link_of, own_part, opening}
use Rattle.back_core.specs.Frame.{GoesOn, IsGoing, host_bytes}
use Rattle.back_core.specs.Run.{journal_of}
use Rattle.back_core.specs.Steps.{CleansWhole, IsIdle, IsAllGiven}
use Rattle.front_core.specs.Front.{FrontModel, FrontStands}
use Rattle.world_core.specs.World.{histories_of}
use Rattle.world_core.specs.Steps.{HasBroken}
use Rattle.world_core.specs.Ends.{CloseFirst, HasClosedOne}
use Rattle.world_core.specs.Inside.{AreFronts, Goes, AreClosed, LeavesNothing, LeavesGroups}
use Rattle.world_core.proofs.Laws.{Apart, GoOnStanding}
use Rattle.world_core.proofs.Lists.{same_histories}
use Rattle.world_core.proofs.Fronts.{each_front, fronts_replaced, learned_beside}

-- the fronts of the first groups, so many, were closed
pub record Closing (before fronts : List FrontModel) (h k : List BackEvent) (count : ℕ) : Type 0 where
  pub eight : length fronts ≡ 8
  pub stand : (group : ℕ) (front : FrontModel) → slice_get fronts group ≡ Some front → count ≤ group → FrontStands front (link_of k group)
  pub going : IsGoing (Some k)
  pub whole : CleansWhole k
  pub nothing : (group : ℕ) → group < count → LeavesNothing (link_of k group)
  pub no_others : (group : ℕ) → 8 ≤ group → own_part k group ≡ opening group
  pub written : host_bytes (journal_of k) ≡ host_bytes (journal_of h)
  pub are : (threads : List Plan) → AreFronts threads h before → AreFronts threads k fronts
  pub histories : histories_of fronts ≡ histories_of before
  pub closes : CloseFirst count before h fronts k

none_closed : (fronts : List FrontModel) (h : List BackEvent) → CloseFirst 0 fronts h fronts h
unfolding CloseFirst
none_closed fronts h = (refl, refl)

one_more_closed : (count : ℕ) (before fronts new : List FrontModel) (h i k : List BackEvent) → CloseFirst count before h fronts i →
    HasClosedOne fronts new i k count → CloseFirst (suc count) before h new k
unfolding CloseFirst
one_more_closed count before fronts new h i k closes did = (fronts, i, closes, did)

pub closing_begins : (fronts : List FrontModel) (h : List BackEvent) → length fronts ≡ 8 → Goes fronts h → Closing fronts fronts h h 0
closing_begins fronts h eight goes = record {
  eight = eight;
  stand = λ group front at low. goes.stand group front at;
  going = goes.going;
  whole = goes.whole;
  nothing = λ group low. absurd (omega (arith, low));
  no_others = goes.no_others;
  written = refl;
  are = λ threads are. are;
  histories = refl;
  closes = none_closed fronts h;
}

-- what was left stays so where the group only learns
nothing_with : (s : Link) (d : ℕ → ℕ) (n : Option (ℕ → ℕ)) (a : Option Asked) → LeavesNothing s →
    LeavesNothing (record s { done = d; now = n; asked = a })
nothing_with s d n a left = record { none_lost = left.none_lost; given = left.given }

nothing_learned : (s t : Link) → LeavesNothing s → Learns s t → LeavesNothing t
nothing_learned s t left learns = subst LeavesNothing (sym learns.rest) (nothing_with s t.done t.now t.asked left)

nothing_of : (h k : List BackEvent) (g : ℕ) → own_part k g ≡ own_part h g → LeavesNothing (link_of h g) → LeavesNothing (link_of k g)
nothing_of h k g same left =
    let own : LeavesNothing (own_part h g) = record { none_lost = left.none_lost; given = left.given } in
    let new : LeavesNothing (own_part k g) = subst LeavesNothing (sym same) own in
    record { none_lost = new.none_lost; given = new.given }

-- a group that made nothing left nothing
nothing_opening : (g : ℕ) → LeavesNothing (opening g)
nothing_opening g = record { none_lost = λ id some. absurd (false≢true some); given = λ id index uses is. absurd (cc) }

nothing_unused : (k : List BackEvent) (g : ℕ) → own_part k g ≡ opening g → LeavesNothing (link_of k g)
nothing_unused k g same =
    let new : LeavesNothing (own_part k g) = subst LeavesNothing (sym same) (nothing_opening g) in
    record { none_lost = new.none_lost; given = new.given }

-- the laws that closing needs
pub record ClosingLaws : Type 0 where
  pub apart : Apart
  pub stays : GoOnStanding
  pub whole : (h k : List BackEvent) (g : ℕ) → GoesOn g (Some h) (Some k) → CleansWhole h → CleansWhole k
  pub group : (h : List BackEvent) (g : ℕ) → (link_of h g).group ≡ g

module _ (laws : ClosingLaws) (before fronts new : List FrontModel) (h i k : List BackEvent) (count : ℕ)
    (was : Closing before fronts h i count) where
  pub closing_more : count < 8 → HasClosedOne fronts new i k count → Closing before new h k (count + 1)
  closing_more low did = record {
    eight = ap length did.fronts.has ∙ length-set fronts count did.fronts.after ∙ was.eight;
    stand = each_front fronts new i k count did.fronts (λ group f. count + 1 ≤ group → FrontStands f (link_of k group))
        (λ high. absurd (omega (arith, high)))
        (λ other f ne at high. laws.stays f (link_of i other) (link_of k other) (was.stand other f at (omega (arith, high)))
        (learned_beside laws.apart i k count other goes ne));
    going = did.at_back.going refl was.going;
    whole = laws.whole i k count goes was.whole;
    nothing = left;
    no_others = λ group high. laws.apart.own i k count group goes (λ same. absurd (omega (arith, same, low, high)))
        ∙ was.no_others group high;
    written = written;
    are = λ threads are. fronts_replaced fronts new i k count did.fronts laws.apart threads goes did.closed.threads did.closed.owns
        (was.are threads are);
    histories = ap histories_of did.fronts.has
        ∙ same_histories fronts count did.fronts.before did.fronts.after did.fronts.had did.closed.history ∙ was.histories;
    closes = subst (λ (n : ℕ). CloseFirst n before h new k) (sym (add-one count))
        (one_more_closed count before fronts new h i k was.closes did);
  }
    where
      goes : GoesOn count (Some i) (Some k)
      goes = subst (λ (n : ℕ). GoesOn n (Some i) (Some k)) (laws.group i count) did.at_back.goes_on

      written : host_bytes (journal_of k) ≡ host_bytes (journal_of h)
      written =
          let wrote = laws.apart.wrote i k count did.at_back.gained goes did.at_back.grows in
          let few = did.at_back.uploads in
          let so_far = was.written in
          omega (arith, wrote, few, so_far)

      left : (group : ℕ) → group < count + 1 → LeavesNothing (link_of k group)
      left group in_range = by (eqb group count) refl
        where
          by : (b : Bool) → eqb group count ≡ b → LeavesNothing (link_of k group)
          by true same =
              subst (λ (n : ℕ). LeavesNothing (link_of k n)) (sym (eqb-true group count same))
              (record { none_lost = did.closed.has_closed.none_lost; given = did.closed.has_closed.given })
          by false same =
              let ne : group ≢ count = λ is_same. false≢true (sym same ∙ eq-eqb group count is_same) in
              nothing_learned (link_of i group) (link_of k group) (was.nothing group (omega (arith, in_range, ne)))
              (learned_beside laws.apart i k count group goes ne)

  pub broken_are : (threads : List Plan) → HasBroken fronts new i k count → AreFronts threads h before → AreFronts threads k new
  broken_are threads broken are =
      fronts_replaced fronts new i k count broken.fronts laws.apart threads broken.at_back broken.stopped.threads broken.stopped.owns
      (was.are threads are)

  pub broken_stays : HasBroken fronts new i k count → histories_of new ≡ histories_of before
  broken_stays broken =
      ap histories_of broken.fronts.has
      ∙ same_histories fronts count broken.fronts.before broken.fronts.after broken.fronts.had broken.stopped.history ∙ was.histories

pub closing_ends : (before fronts : List FrontModel) (h k : List BackEvent) (count : ℕ) → 8 ≤ count → Closing before fronts h k count →
    AreClosed k
closing_ends before fronts h k count all closing =
    record { going = closing.going; whole = closing.whole; nothing = λ group. by group (cases_lt group 8) }
  where
    by : (group : ℕ) → (group < 8) ⊎ (8 ≤ group) → LeavesNothing (link_of k group)
    by group (inl low) = closing.nothing group (omega (arith, low, all))
    by group (inr high) = nothing_unused k group (closing.no_others group high)

pub all_closed : (before fronts : List FrontModel) (h k : List BackEvent) (count : ℕ) → count ≡ 8 → Closing before fronts h k count →
    CloseFirst 8 before h fronts k
all_closed before fronts h k count all closing = subst (λ (n : ℕ). CloseFirst n before h fronts k) all closing.closes

-- In an idle back the uses of what was given are completed

reached_all : (h : List BackEvent) (g : ℕ) → LeavesNothing (link_of h g) → IsIdle h → (id : ℕ) (uses : List QueueSerial) →
    (link_of h g).given id ≡ Some uses → (index : ℕ) → number_of uses index ≤ completed h index
reached_all h g nothing idle id uses is index = by_case (cases_lt (number_of uses index) 1)
  where
    last : number_of uses index ≤ last_number (batches_of (link_of h g).mine) index
    last = nothing.given id index uses is

    by_case : (number_of uses index < 1) ⊎ (1 ≤ number_of uses index) → number_of uses index ≤ completed h index
    by_case (inl none) = omega (arith, none)
    by_case (inr some) = idle.all_retired g index (number_of uses index) (some, last)

-- each group left nothing, and its batches were retired: it gave all that it made, with uses that are completed
pub all_given : (h s : List BackEvent) → LeavesGroups h s → IsIdle s → AreClosed h → (g : ℕ) → IsAllGiven s g
all_given h s leaves idle closed g =
    let still : LeavesNothing (link_of s g) = nothing_of h s g (leaves.own g) (closed.nothing g) in
    record { given = still.none_lost; reached = reached_all s g still idle }
