-- A round of a schedule.
use Rattle.std.proofs.Common.{◌≡◌, ℕ, suc, ◌+◌, ◌-◌, ◌*◌, ◌/◌, ◌%◌, ◌^◌, ◌<◌, sym, ap, ◌∙◌, subst, arith}
use Rattle.std.specs.Prelude.{List, [], ◌∷◌, ◌++◌, length, slice_get, slice_index, slice_set}
use Rattle.std.proofs.lemmas.Option.{same_Some, slice_get_within, get_or_from_slice_get}
use Rattle.rand_xoshiro.specs.Xoshiro256.{plus_plus}
use Rattle.vk_device.specs.declared.logged.Logged.{Logged}
use Rattle.trace_text.specs.declared.trace.Line.{Line}
use Rattle.trace_text.specs.Reading.{Plan}
use Rattle.play_model.specs.Plays.{MayPlay, IsReady, none_done}
use Rattle.world_core.specs.declared.event.Stepped.{Stepped}
use Rattle.world_core.specs.declared.event.Stepped.TheVariants.{Done, Nothing, NotReady, Ended}
use Rattle.world_core.specs.declared.event.Event.TheVariants.{Call}
use Rattle.world_core.specs.World.{WorldModel, play_of}
use Rattle.world_core.specs.Steps.{IsStep, IsAtBack, HasCalled}
use Rattle.schedule.specs.Moves.{Move, Calls, back_move, back_moves_from, back_moves, named_thread, ready_threads}
use Rattle.schedule.specs.Moves.{raised, rounds, line_count, schedule, words_of}
use Rattle.schedule.specs.Made.{AreMade}
use Rattle.schedule.proofs.Lines.{lines_left, all_left, one_less}
use Rattle.schedule.proofs.Ways.{IsOnWay, way_goes_on, way_steps}

-- the moves of the back from the k-th on
pub next_back_move : (word k count : ℕ) → k < count →
    back_moves_from word k (count - k) ≡ back_move ((word / 2 ^ (8 + 2 * k)) % 4) ∷ back_moves_from word (k + 1) (count - (k + 1))
next_back_move word k count lt =
    let left : count - k ≡ suc (count - (k + 1)) = omega arith in
    let next : suc k ≡ k + 1 = omega arith in
    ap (back_moves_from word k) left
    ∙ ap (λ (n : ℕ). back_move ((word / 2 ^ (8 + 2 * k)) % 4) ∷ back_moves_from word n (count - (k + 1))) next

-- a round by what is drawn, a word and the state after it, and the rounds that follow
abbrev pub round_by : List Plan → ℕ → List ℕ → ℕ × List ℕ → List Move
round_by threads left done drawn =
    let thread = named_thread (ready_threads threads done) drawn.0 in
    back_moves drawn.0 ++ Calls thread ∷ rounds threads left (raised done thread) drawn.1

-- the rounds that are left, by the next one
pub next_round : (threads : List Plan) (left : ℕ) (done state : List ℕ) → 0 < left →
    rounds threads left done state ≡ round_by threads (left - 1) done (plus_plus state)
next_round threads left done state lt =
    let more : left ≡ suc (left - 1) = omega arith in ap (λ (n : ℕ). rounds threads n done state) more

pub no_round : (threads : List Plan) (left : ℕ) (done state : List ℕ) → left ≡ 0 → rounds threads left done state ≡ []
no_round threads left done state none = ap (λ (n : ℕ). rounds threads n done state) none

-- the first round begins with the first word of the seed
pub schedule_is : (threads : List Plan) (done state : List ℕ) (seed : ℕ) → done ≡ none_done threads → state ≡ words_of seed →
    rounds threads (lines_left threads done) done state ≡ schedule threads seed
unfolding schedule
schedule_is threads done state seed none words =
    ap (λ (d : List ℕ). rounds threads (lines_left threads d) d state) none
    ∙ ap (λ (n : ℕ). rounds threads n (none_done threads) state) (all_left threads)
    ∙ ap (rounds threads (line_count threads) (none_done threads)) words

-- A call of a thread that is ready

module _ {D : Type 0} (journal : D → List Logged) (old new : WorldModel D) (thread : ℕ)
    (may : MayPlay old.threads (play_of old) thread) where
  pub has_called : (s : Stepped) → IsStep journal old new (Call thread) s → HasCalled old new thread
  has_called Done step = step
  has_called Nothing step = absurd step
  has_called NotReady step =
      let w = step.1 in
      let one = may.next in
      let two = w.next in
      let places : one.place ≡ two.place = same_Some one.place two.place (sym one.at ∙ two.at) in
      let plans : one.is.plan ≡ two.is.plan = same_Some one.is.plan two.is.plan (sym one.is.is_thread ∙ two.is.is_thread) in
      let lines : may.line ≡ w.line =
      same_Some may.line w.line
      (sym one.is.is_line ∙ ap (λ (p : Plan). slice_get p.lines one.place) plans ∙ ap (slice_get two.is.plan.lines) places
      ∙ two.is.is_line) in
      absurd (w.waits
      (subst (λ (l : Line). IsReady ((play_of old).histories two.is.plan.group) l) lines
      (subst (λ (p : Plan). IsReady ((play_of old).histories p.group) may.line) plans may.ready)))
  has_called Ended step =
      let e = step.1 in
      let one = may.next in
      let places : one.place ≡ length e.plan.lines = same_Some one.place (length e.plan.lines) (sym one.at ∙ e.all) in
      let plans : one.is.plan ≡ e.plan = same_Some one.is.plan e.plan (sym one.is.is_thread ∙ e.is_thread) in
      let long : length one.is.plan.lines ≡ length e.plan.lines = ap (λ (p : Plan). length p.lines) plans in
      absurd (omega (arith, slice_get_within one.is.plan.lines one.place may.line one.is.is_line, places, long))

module _ {D : Type 0} (old new : WorldModel D) (thread : ℕ) (called : HasCalled old new thread) where
  place_is : slice_index old.done thread ≡ called.plays.may.next.place
  place_is = get_or_from_slice_get old.done thread called.plays.may.next.place 0 called.plays.may.next.at

  raised_by : new.done ≡ raised old.done thread
  raised_by = called.plays.done ∙ ap (λ (n : ℕ). slice_set old.done thread (n + 1)) (sym place_is)

  one_line_less : lines_left old.threads new.done + 1 ≡ lines_left old.threads old.done
  one_line_less =
      let next = called.plays.may.next in
      ap (λ (d : List ℕ). lines_left old.threads d + 1) called.plays.done
      ∙ one_less old.threads old.done thread next.is.plan next.place next.is.is_thread next.at
      (slice_get_within next.is.plan.lines next.place called.plays.may.line next.is.is_line)

  -- and before steps of the back there was one more
  pub fewer_left : (from : WorldModel D) → IsAtBack from old →
      lines_left new.threads new.done + 1 ≡ lines_left from.threads from.done
  fewer_left from at_back =
      ap (λ (l : List Plan). lines_left l new.done + 1) called.threads ∙ one_line_less
      ∙ ap (λ (l : List Plan). lines_left l old.done) at_back.threads
      ∙ ap (lines_left from.threads) at_back.done

-- A round on a world's way

module _ {D : Type 0} (journal : D → List Logged) (old now : WorldModel D) (moves : List Move) (state next : List ℕ) (word : ℕ)
    (way : IsOnWay journal old now moves (rounds now.threads (lines_left now.threads now.done) now.done state))
    (drawn : (word, next) ≡ plus_plus state) (left : 0 < lines_left now.threads now.done) where
  -- the thread that the word names
  abbrev pub named : ℕ
  named = named_thread (ready_threads now.threads now.done) word

  -- the rounds after this one
  abbrev pub others : ℕ → List Move
  others thread = rounds now.threads (lines_left now.threads now.done - 1) (raised now.done thread) next

  pub before_round : IsOnWay journal old now moves (back_moves word ++ Calls named ∷ others named)
  before_round =
      subst (IsOnWay journal old now moves)
      (next_round now.threads (lines_left now.threads now.done) now.done state left
      ∙ ap (round_by now.threads (lines_left now.threads now.done - 1) now.done) (sym drawn))
      way

  module _ (back : WorldModel D) (made : AreMade journal now back (back_moves word)) (at_back : IsAtBack now back) (thread count : ℕ)
      (count_is : count ≡ length (ready_threads now.threads now.done))
      (picked : thread ≡ slice_index (ready_threads back.threads back.done) (word / 65536 % count)) where
    is_named : thread ≡ named
    is_named =
        picked
        ∙ ap (λ (l : List Plan). slice_index (ready_threads l back.done) (word / 65536 % count)) at_back.threads
        ∙ ap (λ (d : List ℕ). slice_index (ready_threads now.threads d) (word / 65536 % count)) at_back.done
        ∙ ap (λ (n : ℕ). slice_index (ready_threads now.threads now.done) (word / 65536 % n)) count_is

    pub before_call : IsOnWay journal old back moves (Calls thread ∷ others thread)
    before_call =
        subst (λ (t : ℕ). IsOnWay journal old back moves (Calls t ∷ others t)) (sym is_named)
        (way_goes_on journal old now back moves (back_moves word) (Calls named ∷ others named) before_round made)

    pub after_call : (new : WorldModel D) → HasCalled back new thread →
        IsOnWay journal old new moves (rounds new.threads (lines_left new.threads new.done) new.done next)
    after_call new called =
        subst (IsOnWay journal old new moves) rest_is
        (way_steps journal old back new moves (Calls thread) (others thread) before_call called)
      where
        threads : new.threads ≡ now.threads
        threads = called.threads ∙ at_back.threads

        done : raised now.done thread ≡ new.done
        done = ap (λ (d : List ℕ). raised d thread) (sym at_back.done) ∙ sym (raised_by back new thread called)

        lines_are : lines_left now.threads now.done - 1 ≡ lines_left new.threads new.done
        lines_are =
            let fewer = fewer_left back new thread called now at_back in
            omega (arith, fewer)

        rest_is : others thread ≡ rounds new.threads (lines_left new.threads new.done) new.done next
        rest_is =
            ap (λ (l : List Plan). rounds l (lines_left now.threads now.done - 1) (raised now.done thread) next) (sym threads)
            ∙ ap (λ (n : ℕ). rounds new.threads n (raised now.done thread) next) lines_are
            ∙ ap (λ (d : List ℕ). rounds new.threads (lines_left new.threads new.done) d next) done
