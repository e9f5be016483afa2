-- A world that is led through a schedule and closed, and what is left of it.
use Rattle.std.proofs.Common.{◌≡◌, ℕ, ◌<◌, ◌≤◌, List, [], ◌∷◌, ◌++◌, length, map, refl, sym, ap, ◌∙◌, subst}
use Rattle.std.specs.Prelude.{Result, Ok, Err, OnErr}
use Rattle.std.proofs.lemmas.List.{append-nil}
use Rattle.gl_calls.specs.declared.reply.Entry.{Entry}
use Rattle.vk_types.specs.declared.stops.Stop.{Stop}
use Rattle.vk_device.specs.declared.logged.Logged.{Logged}
use Rattle.back_core.specs.Frame.{host_bytes}
use Rattle.back_core.specs.Run.{journal_of}
use Rattle.trace_text.specs.Reading.{Plan}
use Rattle.reply_text.specs.declared.history.GroupHistory.{GroupHistory}
use Rattle.reply_text.specs.declared.history.Tail.{Tail}
use Rattle.play_model.specs.Plays.{Play, HasPlayed, HasEnded, opening_play}
use Rattle.world_core.specs.World.{WorldModel, AreHistories, IsNewWorld, play_of, due_in}
use Rattle.world_core.specs.Steps.{HasHalted}
use Rattle.world_core.specs.Ends.{HasClosed, HasFinished}
use Rattle.schedule.specs.Moves.{Move, schedule, callers_of_group}
use Rattle.schedule.specs.Made.{AreMade, AreCutOff}
use Rattle.trace_run.specs.declared.saying.Output.{Output}
use Rattle.trace_run.specs.Runs.{AreCalls, AreReplies, AnswersFirst, RanAll}
use Rattle.trace_run.specs.Led.{WasLed, WasLedOn}
use Rattle.trace_run.specs.Once.{tail_of}

-- what holds, holds where a result is `Err`
pub on_err : {T E P : Type 0} (r : Result T E) → P → OnErr r P
on_err (Ok v) p = tt
on_err (Err e) p = p

pub of_err : {T E P : Type 0} (r : Result T E) (e : E) → r ≡ Err e → OnErr r P → P
of_err {P = P} r e is p = subst (λ (x : Result _ _). OnErr x P) is p

-- no group of a new world answered
pub opened : (D : Type 0) (w : WorldModel D) (threads : List Plan) (device : D) → IsNewWorld threads device w →
    play_of w ≡ opening_play w.threads
opened D w threads device is = is.play ∙ ap opening_play (sym is.threads_are)

-- what the moves of a schedule leave of a play, by the laws of those
module _ (D : Type 0) (journal : D → List Logged) where
  module _ (keep : (j : D → List Logged) (old new : WorldModel D) (moves : List Move) → AreMade j old new moves → new.threads ≡ old.threads)
      (add : (j : D → List Logged) (old new : WorldModel D) (moves : List Move) → AreMade j old new moves → (group : ℕ) →
      map (λ (e : Entry). e.thread) ((play_of new).histories group)
      ≡ map (λ (e : Entry). e.thread) ((play_of old).histories group) ++ callers_of_group old.threads group moves)
      (old : WorldModel D) (seed : ℕ) (fresh : play_of old ≡ opening_play old.threads) where
    -- moves were made in a world in which no line was answered, and then its play stayed
    calls_after : (middle new : WorldModel D) (moves : List Move) → AreMade journal old middle moves → play_of new ≡ play_of middle →
        AreCalls old.threads moves (play_of new)
    calls_after middle new moves made same group =
        ap (λ (p : Play). map (λ (e : Entry). e.thread) (p.histories group)) same
        ∙ add journal old middle moves made group
        ∙ ap (λ (p : Play). map (λ (e : Entry). e.thread) (p.histories group) ++ callers_of_group old.threads group moves) fresh

    pub was_led : (middle new : WorldModel D) → AreMade journal old middle (schedule old.threads seed) →
        ((thread : ℕ) → thread < length old.threads → HasEnded old.threads middle.done thread) → HasClosed journal middle new →
        WasLed old.threads seed new
    was_led middle new made all closed =
        let threads : new.threads ≡ old.threads = closed.threads ∙ keep journal old middle (schedule old.threads seed) made in
        record {
          threads_are = threads;
          calls = calls_after middle new (schedule old.threads seed) made closed.play;
          all = λ thread low. subst (λ (p : Play). HasEnded old.threads p.done thread) (sym closed.play) (all thread low);
          destroyed = closed.destroyed;
          going = closed.going;
          uploads = subst (λ (t : List Plan). host_bytes (journal_of new.back.history) ≤ due_in t (play_of new)) threads closed.uploads;
        }

    -- the whole schedule was made, and then a stop ended the world
    pub was_led_whole : (middle new : WorldModel D) → AreMade journal old middle (schedule old.threads seed) → HasHalted middle new →
        WasLedOn old.threads seed new
    was_led_whole middle new made halted = record {
      threads_are = halted.threads ∙ keep journal old middle (schedule old.threads seed) made;
      made = schedule old.threads seed;
      rest = [];
      schedule_is = sym (append-nil (schedule old.threads seed));
      calls = calls_after middle new (schedule old.threads seed) made halted.play;
    }

    -- a stop ended a move of the schedule
    pub was_led_on : (new : WorldModel D) (stop : Stop) → AreCutOff journal old new (schedule old.threads seed) stop →
        WasLedOn old.threads seed new
    was_led_on new stop cut = record {
      threads_are = cut.halted.threads ∙ keep journal old cut.middle cut.made cut.are_made;
      made = cut.made;
      rest = cut.next ∷ cut.rest;
      schedule_is = cut.moves_are;
      calls = calls_after cut.middle new cut.made cut.are_made cut.halted.play;
    }

module _ (D : Type 0) (threads first : List Plan) (seed : ℕ) (w : WorldModel D) (groups : List GroupHistory) (same : first ≡ threads)
    (played : HasPlayed w.threads (play_of w)) (histories : AreHistories w.threads (play_of w) groups) where
  replies : (moves : List Move) → w.threads ≡ threads → AreCalls threads moves (play_of w) → AreReplies threads moves groups
  replies moves is calls = record {
    play = play_of w;
    played = subst (λ (t : List Plan). HasPlayed t (play_of w)) is played;
    histories = subst (λ (t : List Plan). AreHistories t (play_of w) groups) is histories;
    calls = calls;
  }

  pub ran_all : (left : List Logged) → WasLed first seed w → HasFinished w left → RanAll threads seed groups left
  unfolding replies
  ran_all left was finished =
      let led : WasLed threads seed w = subst (λ (t : List Plan). WasLed t seed w) same was in
      record {
        answers = record { replies = replies (schedule threads seed) led.threads_are led.calls; all = led.all };
        destroyed = λ id. finished.objects id ∙ led.destroyed id;
        went_well = record {
          history = finished.history;
          run = finished.run;
          journal_is = finished.journal_is;
          going = finished.going led.going;
        };
        uploads = subst (λ (n : ℕ). n ≤ due_in threads (play_of w)) (sym finished.written) led.uploads;
      }

  pub answers_first : WasLedOn first seed w → AnswersFirst threads seed groups
  answers_first was =
      let led : WasLedOn threads seed w = subst (λ (t : List Plan). WasLedOn t seed w) same was in
      record { made = led.made; rest = led.rest; schedule_is = led.schedule_is; replies = replies led.made led.threads_are led.calls }

-- the tail of the replies, by what was read
pub tail_same : (output : Output) (groups seen : List GroupHistory) (journal read : List Logged) (tail : Tail) →
    tail ≡ tail_of output seen read → seen ≡ groups → read ≡ journal → tail ≡ tail_of output groups journal
tail_same output groups seen journal read tail is same_groups same_journal =
    is ∙ ap (λ (l : List GroupHistory). tail_of output l read) same_groups
    ∙ ap (λ (l : List Logged). tail_of output groups l) same_journal
