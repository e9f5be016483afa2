-- The fronts where the back went on, and where one front changed.
use Rattle.std.proofs.Common.{◌≡◌, ◌≢◌, ℕ, ◌+◌, ◌≤◌, ◌<◌, Bool, true, false, List, [], ◌∷◌, ◌++◌, length, Some, None, refl, sym, ap, ◌∙◌}
use Rattle.std.proofs.Common.{get_or, subst, arith, eq-eqb, inl, inr}
use Rattle.std.specs.Prelude.{◌⊎◌, Result, Ok, Err, OnOk, is_ok, slice_get}
use Rattle.std.proofs.lemmas.Option.{slice_get_cases}
use Rattle.std.proofs.lemmas.Bool.{eqb-true, false≢true}
use Rattle.std.proofs.lemmas.List.{length-set}
use Rattle.std.proofs.Math.Dec.{eqb}
use Rattle.trace_text.specs.Reading.{Plan}
use Rattle.back_core.specs.declared.back_event.BackEvent.{BackEvent}
use Rattle.back_core.specs.Link.{Link}
use Rattle.back_core.specs.Answers.{Learns}
use Rattle.back_core.specs.History.{completed, link_of, own_part, opening}
use Rattle.back_core.specs.Frame.{GoesOn, IsGoing, host_bytes}
use Rattle.back_core.specs.Run.{journal_of}
use Rattle.back_core.specs.Steps.{CleansWhole}
use Rattle.front_model.specs.Stands.{no_hands, Owns, BarriersAreLicensed}
use Rattle.front_model.proofs.Learning.{learned_owns}
use Rattle.front_model.proofs.Needs.{holds_owns}
use Rattle.front_moves.specs.Core.{face}
use Rattle.front_core.specs.Front.{FrontModel, FrontStands}
use Rattle.play_model.specs.Plays.{Play, members}
use Rattle.world_core.specs.World.{due_in}
use Rattle.world_core.specs.Steps.{Replaces}
use Rattle.world_core.specs.Inside.{IsFrontOf, AreFronts, Goes, Runs, Keeps, LeavesGroups, StaysWell, played_of}
use Rattle.world_core.proofs.Laws.{Apart, GoOnStanding}
use Rattle.world_core.proofs.Lists.{get_set, get_set_other, same_at}

-- What a group learns

-- a group whose own part stayed has at most learned
pub learned : (h k : List BackEvent) (g : ℕ) → own_part k g ≡ own_part h g → ((index : ℕ) → completed h index ≤ completed k index) →
    Learns (link_of h g) (link_of k g)
learned h k g same rises = record {
  rest = ap (λ (l : Link). record l { done = completed k; now = Some (completed k); asked = None }) same;
  rises = rises;
  told = rises;
  loaded = tt;
}

pub learned_of : (h k : List BackEvent) (g : ℕ) → LeavesGroups h k → Learns (link_of h g) (link_of k g)
learned_of h k g leaves = learned h k g (leaves.own g) leaves.rises

-- a front that stands holds what it has
pub stands_own : (f : FrontModel) (s : Link) → FrontStands f s → Owns (face f.core).objects s
stands_own f s stands = holds_owns (face f.core) no_hands s stands.stands.holds

-- each of the eight groups has a front, and so its barriers were licensed
pub fronts_license : (threads : List Plan) (h : List BackEvent) (fronts : List FrontModel) → AreFronts threads h fronts →
    (group : ℕ) → group < 8 → BarriersAreLicensed (link_of h group)
fronts_license threads h fronts are group low = by (slice_get_cases fronts group).1
  where
    by : ((front : FrontModel) × (group < length fronts) × (slice_get fronts group ≡ Some front) × (get_or fronts group front ≡ front))
        ⊎ ((length fronts ≤ group) × (slice_get fronts group ≡ None)) → BarriersAreLicensed (link_of h group)
    by (inl found) = (are.each group found.0 found.2).owns.licensed
    by (inr past) = let eight = are.eight in let high = past.0 in absurd (omega (arith, eight, high, low))

-- The back went on

pub fronts_left : (threads : List Plan) (h k : List BackEvent) (fronts : List FrontModel) → LeavesGroups h k →
    AreFronts threads h fronts → AreFronts threads k fronts
fronts_left threads h k fronts leaves are = record {
  eight = are.eight;
  each = λ g f at. let u : IsFrontOf threads h g f = are.each g f at in record {
    threads_are = u.threads_are;
    owns = learned_owns (face f.core).objects (link_of h g) (link_of k g) u.owns (learned_of h k g leaves);
  };
}

pub goes_left : GoOnStanding → (h k : List BackEvent) (fronts : List FrontModel) → LeavesGroups h k → StaysWell h k → Goes fronts h →
    Goes fronts k
goes_left law h k fronts leaves well goes = record {
  stand = λ g f at. law f (link_of h g) (link_of k g) (goes.stand g f at) (learned_of h k g leaves);
  going = well.going goes.going;
  whole = well.whole goes.whole;
  no_others = λ g high. leaves.own g ∙ goes.no_others g high;
}

module _ (threads : List Plan) (done : List ℕ) (answered : List Bool) (fronts : List FrontModel) (h k : List BackEvent) where
  keeps_stopped : LeavesGroups h k → Keeps threads done answered fronts h true → Keeps threads done answered fronts k false
  keeps_stopped leaves keeps = record {
    served = keeps.served;
    played = keeps.played;
    noted = keeps.noted;
    fronts_are = fronts_left threads h k fronts leaves keeps.fronts_are;
    runs = λ on. absurd (false≢true on);
  }

  pub keeps_well : GoOnStanding → LeavesGroups h k → StaysWell h k → Keeps threads done answered fronts h true →
      Keeps threads done answered fronts k true
  keeps_well law leaves well keeps =
      let runs : Runs threads (played_of done fronts) fronts h = keeps.runs refl in
      record {
        served = keeps.served;
        played = keeps.played;
        noted = keeps.noted;
        fronts_are = fronts_left threads h k fronts leaves keeps.fronts_are;
        runs = λ on. record {
          goes = goes_left law h k fronts leaves well runs.goes;
          uploads = subst (λ (n : ℕ). n ≤ due_in threads (played_of done fronts)) (sym well.written) runs.uploads;
        };
      }

  -- a step of the back that was answered so
  pub keeps_step : {A E : Type 0} (r : Result A E) → GoOnStanding → LeavesGroups h k → OnOk r (StaysWell h k) →
      Keeps threads done answered fronts h true →
      Keeps threads done answered fronts k (is_ok r)
  keeps_step (Ok a) law leaves well keeps = keeps_well law leaves well keeps
  keeps_step (Err e) law leaves well keeps = keeps_stopped leaves keeps

-- One front changed

-- what the group of another front learned from the calls of one group
pub learned_beside : Apart → (h k : List BackEvent) (g other : ℕ) → GoesOn g (Some h) (Some k) → other ≢ g →
    Learns (link_of h other) (link_of k other)
learned_beside laws h k g other goes ne = learned h k other (laws.own h k g other goes (λ e. ne (sym e))) (laws.completed_rises h k g goes)

module _ (fronts new : List FrontModel) (h k : List BackEvent) (g : ℕ) (is : Replaces fronts new g) where
  at_group : slice_get new g ≡ Some is.after
  at_group = ap (λ (l : List FrontModel). slice_get l g) is.has ∙ get_set fronts g is.before is.after is.had

  at_other : (other : ℕ) (f : FrontModel) → other ≢ g → slice_get new other ≡ Some f → slice_get fronts other ≡ Some f
  at_other other f ne at = sym (ap (λ (l : List FrontModel). slice_get l other) is.has ∙ get_set_other fronts g other is.after ne) ∙ at

  -- what holds of the new front and of each other one holds of all
  pub each_front : (P : ℕ → FrontModel → Type 0) → P g is.after →
      ((other : ℕ) (f : FrontModel) → other ≢ g → slice_get fronts other ≡ Some f → P other f) →
      (group : ℕ) (f : FrontModel) → slice_get new group ≡ Some f → P group f
  each_front P here others group f at = by (eqb group g) refl
    where
      by : (b : Bool) → eqb group g ≡ b → P group f
      by true e =
          let same : group ≡ g = eqb-true group g e in
          let front : is.after ≡ f = same_at new g is.after f at_group (subst (λ (n : ℕ). slice_get new n ≡ Some f) same at) in
          subst (λ (n : ℕ). P n f) (sym same) (subst (P g) front here)
      by false e = others group f (λ same. absurd (false≢true (sym e ∙ ap (λ (n : ℕ). eqb n g) same ∙ T-eqb)))
          (at_other group f (λ same. absurd (false≢true (sym e ∙ ap (λ (n : ℕ). eqb n g) same ∙ T-eqb))) at)
        where
          T-eqb : eqb g g ≡ true
          T-eqb = eq-eqb g g refl

  pub fronts_replaced : Apart → (threads : List Plan) → GoesOn g (Some h) (Some k) → is.after.threads ≡ is.before.threads →
      Owns (face is.after.core).objects (link_of k g) →
      AreFronts threads h fronts → AreFronts threads k new
  fronts_replaced laws threads goes same owns are = record {
    eight = ap length is.has ∙ length-set fronts g is.after ∙ are.eight;
    each = each_front (IsFrontOf threads k)
        (record { threads_are = same ∙ (are.each g is.before is.had).threads_are; owns = owns })
        (λ other f ne at. let u : IsFrontOf threads h other f = are.each other f at in record {
          threads_are = u.threads_are;
          owns = learned_owns (face f.core).objects (link_of h other) (link_of k other) u.owns (learned_beside laws h k g other goes ne);
        });
  }

  pub goes_replaced : Apart → GoOnStanding → GoesOn g (Some h) (Some k) → g < 8 → FrontStands is.after (link_of k g) → IsGoing (Some k) →
      CleansWhole k → Goes fronts h → Goes new k
  goes_replaced laws law goes low stands going whole was = record {
    stand = each_front (λ group f. FrontStands f (link_of k group)) stands
        (λ other f ne at. law f (link_of h other) (link_of k other) (was.stand other f at) (learned_beside laws h k g other goes ne));
    going = going;
    whole = whole;
    no_others = λ group high. laws.own h k g group goes (λ same. absurd (omega (arith, same, low, high))) ∙ was.no_others group high;
  }
