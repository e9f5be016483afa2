-- The calls of moves.
use Rattle.std.proofs.Common.{◌≡◌, ℕ, List, [], ◌∷◌, ◌++◌, map, refl, sym, ap, ◌∙◌, inl, inr, append_assoc}
use Rattle.std.specs.Prelude.{◌⊎◌, ◌==◌}
use Rattle.std.specs.List.{filter}
use Rattle.std.proofs.lemmas.Bool.{cases_eq, cond-true, cond-false, eq-eqb, ne_eqb}
use Rattle.std.proofs.lemmas.List.{append-nil, map_push}
use Rattle.std.proofs.lemmas.List.Elements.{filter-append}
use Rattle.vk_device.specs.declared.logged.Logged.{Logged}
use Rattle.gl_calls.specs.declared.reply.Entry.{Entry}
use Rattle.trace_text.specs.Reading.{Plan}
use Rattle.play_model.specs.Plays.{Play, members, entry_on}
use Rattle.world_core.specs.World.{WorldModel, histories_of, play_at, play_of}
use Rattle.world_core.specs.Steps.{IsAtBack, HasCalled}
use Rattle.schedule.specs.Moves.{Move, Calls, Submits, Turns, Retires, Cleans, caller_of, callers, callers_of_group}
use Rattle.schedule.specs.Made.{IsMade, AreMade}
use Rattle.schedule.proofs.Members.{is_one_of, member_test}

-- the threads of these entries
abbrev pub threads_in : List Entry → List ℕ
threads_in history = map (λ e. e.thread) history

-- the threads that made the calls of a group
abbrev pub callers_in : {D : Type 0} → WorldModel D → ℕ → List ℕ
callers_in w group = threads_in ((play_of w).histories group)

-- those of the group that make a move's call
abbrev own_caller : List Plan → ℕ → Move → List ℕ
own_caller threads group move = filter (λ thread. is_one_of thread (members threads group)) (caller_of move)

-- the threads stay, and each history has the callers more
record Adds {D : Type 0} (old new : WorldModel D) (move : Move) : Type 0 where
  threads : new.threads ≡ old.threads
  calls : (group : ℕ) → callers_in new group ≡ callers_in old group ++ own_caller old.threads group move

-- no history changes
still : {D : Type 0} (old new : WorldModel D) (move : Move) → caller_of move ≡ [] → new.threads ≡ old.threads →
    play_of new ≡ play_of old → Adds old new move
still old new move none threads play = record {
  threads = threads;
  calls = λ group.
      ap (λ (p : Play). threads_in (p.histories group)) play ∙ sym (append-nil (callers_in old group))
      ∙ ap (λ (l : List ℕ). callers_in old group ++ filter (λ thread. is_one_of thread (members old.threads group)) l) (sym none);
}

-- what was played follows from the counts and the fronts
same_play : {D : Type 0} (old new : WorldModel D) → IsAtBack old new → play_of new ≡ play_of old
same_play old new at_back =
    ap (λ (done : List ℕ). play_at done (histories_of new.fronts)) at_back.done
    ∙ ap (λ fronts. play_at old.done (histories_of fronts)) at_back.fronts

called : {D : Type 0} (old new : WorldModel D) (thread : ℕ) → HasCalled old new thread → Adds old new (Calls thread)
called old new thread c = record { threads = c.threads; calls = λ group. go group (cases_eq group own) }
  where
    own : ℕ
    own = c.plays.may.next.is.plan.group

    test : (group : ℕ) → is_one_of thread (members old.threads group) ≡ (own == group)
    test group = member_test old.threads group thread c.plays.may.next.is.plan c.plays.may.next.is.is_thread

    go : (group : ℕ) → (group ≡ own) ⊎ (group ≡ own → ⊥) →
        callers_in new group ≡ callers_in old group ++ own_caller old.threads group (Calls thread)
    go group (inl same) =
        ap (callers_in new) same
        ∙ ap threads_in c.plays.history
        ∙ map_push (λ e. e.thread) ((play_of old).histories own) (entry_on thread c.plays.may.line c.plays.reply)
        ∙ ap (λ (g : ℕ). callers_in old g ++ thread ∷ []) (sym same)
        ∙ ap (λ (l : List ℕ). callers_in old group ++ l)
        (sym (cond-true (is_one_of thread (members old.threads group)) (thread ∷ []) [] (test group ∙ eq-eqb own group (sym same))))
    go group (inr other) =
        ap threads_in (c.plays.others group other)
        ∙ sym (append-nil (callers_in old group))
        ∙ ap (λ (l : List ℕ). callers_in old group ++ l)
        (sym (cond-false (is_one_of thread (members old.threads group)) (thread ∷ []) []
        (test group ∙ ne_eqb own group (λ e. other (sym e)))))

adds : {D : Type 0} (journal : D → List Logged) (old new : WorldModel D) (move : Move) → IsMade journal old new move → Adds old new move
adds journal old new (Calls thread) made = called old new thread made
adds journal old new Submits made = still old new Submits refl made.1.0.threads (same_play old new made.1.0)
adds journal old new Turns made = still old new Turns refl made.1.0.threads (same_play old new made.1.0)
adds journal old new Retires made = still old new Retires refl made.1.0.threads (same_play old new made.1.0)
adds journal old new Cleans made = still old new Cleans refl made.2.0.threads (same_play old new made.2.0)

-- the threads stay
pub threads_stay : {D : Type 0} (journal : D → List Logged) (old new : WorldModel D) (moves : List Move) →
    AreMade journal old new moves → new.threads ≡ old.threads
threads_stay {D} journal old new [] made = ap (λ (w : WorldModel D). w.threads) (sym made)
threads_stay {D} journal old new (move ∷ moves) made =
    threads_stay journal made.0 new moves made.2 ∙ (adds journal old made.0 move made.1).threads

-- each history has the callers of its group more
pub calls_made : {D : Type 0} (journal : D → List Logged) (old new : WorldModel D) (moves : List Move) →
    AreMade journal old new moves → (group : ℕ) → callers_in new group ≡ callers_in old group ++ callers_of_group old.threads group moves
calls_made {D} journal old new [] made group =
    ap (λ (w : WorldModel D). callers_in w group) (sym made) ∙ sym (append-nil (callers_in old group))
calls_made {D} journal old new (move ∷ moves) made group =
    let first = adds journal old made.0 move made.1 in
    calls_made journal made.0 new moves made.2 group
    ∙ ap (λ (l : List Plan). callers_in made.0 group ++ callers_of_group l group moves) first.threads
    ∙ ap (λ (l : List ℕ). l ++ callers_of_group old.threads group moves) (first.calls group)
    ∙ append_assoc (callers_in old group) (own_caller old.threads group move) (callers_of_group old.threads group moves)
    ∙ ap (λ (l : List ℕ). callers_in old group ++ l)
    (sym (filter-append (λ thread. is_one_of thread (members old.threads group)) (caller_of move) (callers moves)))
