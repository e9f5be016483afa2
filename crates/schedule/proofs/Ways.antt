-- How far the moves of a schedule were made.
use Rattle.std.proofs.Common.{◌≡◌, List, [], ◌∷◌, ◌++◌, refl, sym, ap, ◌∙◌, subst, append_assoc}
use Rattle.std.proofs.lemmas.List.{append-nil}
use Rattle.vk_types.specs.declared.stops.Stop.{Stop}
use Rattle.vk_device.specs.declared.logged.Logged.{Logged}
use Rattle.world_core.specs.World.{WorldModel}
use Rattle.world_core.specs.Steps.{IsAtBack, HasHalted}
use Rattle.schedule.specs.Moves.{Move}
use Rattle.schedule.specs.Made.{IsMade, AreMade, IsStopped, AreCutOff}

-- moves after moves
made_append : {D : Type 0} (journal : D → List Logged) (old middle new : WorldModel D) (first then : List Move) →
    AreMade journal old middle first → AreMade journal middle new then → AreMade journal old new (first ++ then)
made_append journal old middle new [] then one two = subst (λ w. AreMade journal w new then) (sym one) two
made_append journal old middle new (move ∷ first) then one two =
    (one.0, one.1, made_append journal one.0 middle new first then one.2 two)

-- A world on its way through moves: the first ones were made, and these are left.
pub record IsOnWay {D : Type 0} (journal : D → List Logged) (old now : WorldModel D) (moves left : List Move) : Type 0 where
  pub made : List Move
  pub are_made : AreMade journal old now made
  pub moves_are : made ++ left ≡ moves

pub way_starts : {D : Type 0} (journal : D → List Logged) (old : WorldModel D) (moves : List Move) →
    IsOnWay journal old old moves moves
way_starts journal old moves = record { made = []; are_made = refl; moves_are = refl }

module _ {D : Type 0} (journal : D → List Logged) (old now next : WorldModel D) (moves : List Move) where
  -- these moves more
  pub way_goes_on : (more left : List Move) → IsOnWay journal old now moves (more ++ left) → AreMade journal now next more →
      IsOnWay journal old next moves left
  way_goes_on more left way made = record {
    made = way.made ++ more;
    are_made = made_append journal old now next way.made more way.are_made made;
    moves_are = append_assoc way.made more left ∙ way.moves_are;
  }

  -- one move more
  pub way_steps : (move : Move) (left : List Move) → IsOnWay journal old now moves (move ∷ left) → IsMade journal now next move →
      IsOnWay journal old next moves left
  way_steps move left way made = way_goes_on (move ∷ []) left way (next, made, refl)

  -- the next move ended by a stop
  pub way_stops : (move : Move) (left : List Move) (stop : Stop) → IsOnWay journal old now moves (move ∷ left) →
      IsStopped journal now next move stop → HasHalted now next → AreCutOff journal old next moves stop
  way_stops move left stop way stopped halted = record {
    made = way.made;
    next = move;
    rest = left;
    moves_are = sym way.moves_are;
    middle = now;
    are_made = way.are_made;
    is_stopped = stopped;
    halted = halted;
  }

  -- one of the next moves ended by a stop
  pub way_is_cut : (more left : List Move) (stop : Stop) → IsOnWay journal old now moves (more ++ left) →
      AreCutOff journal now next more stop → AreCutOff journal old next moves stop
  way_is_cut more left stop way cut = record {
    made = way.made ++ cut.made;
    next = cut.next;
    rest = cut.rest ++ left;
    moves_are =
        sym way.moves_are ∙ ap (λ (l : List Move). way.made ++ (l ++ left)) cut.moves_are
        ∙ ap (λ (l : List Move). way.made ++ l) (append_assoc cut.made (cut.next ∷ cut.rest) left)
        ∙ sym (append_assoc way.made cut.made (cut.next ∷ cut.rest ++ left));
    middle = cut.middle;
    are_made = made_append journal old now cut.middle way.made cut.made way.are_made cut.are_made;
    is_stopped = cut.is_stopped;
    halted = cut.halted;
  }

-- all moves were made
pub way_ends : {D : Type 0} (journal : D → List Logged) (old now : WorldModel D) (moves : List Move) → IsOnWay journal old now moves [] →
    AreMade journal old now moves
way_ends journal old now moves way = subst (AreMade journal old now) (sym (append-nil way.made) ∙ way.moves_are) way.are_made

-- Steps of the back

-- no thread went on in two steps
pub at_back_more : {D : Type 0} (old now new : WorldModel D) → IsAtBack old now → IsAtBack now new → IsAtBack old new
at_back_more old now new one two = record {
  threads = two.threads ∙ one.threads;
  done = two.done ∙ one.done;
  fronts = two.fronts ∙ one.fronts;
  running = two.running;
}
