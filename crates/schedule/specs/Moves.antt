-- The schedule of a trace and a seed: which events follow one another.
use Rattle.std.specs.Prelude.{ℕ, zero, suc, ◌+◌, ◌*◌, ◌/◌, ◌%◌, ◌^◌, ◌==◌, ◌||◌, Bool, true, false, if◌then◌else◌}
use Rattle.std.specs.Prelude.{List, [], ◌∷◌, ◌++◌, length, map, take, slice_get, slice_set, slice_index}
use Rattle.std.specs.List.{filter, list_any, flat_map, sum}
use Rattle.std.specs.Option.{option_map_or}
use Rattle.rand_xoshiro.specs.SplitMix64.{splitmix_seed}
use Rattle.rand_xoshiro.specs.Xoshiro256.{of_seed, plus_plus}
use Rattle.trace_text.specs.declared.trace.Line.{Line}
use Rattle.trace_text.specs.Reading.{Plan}
use Rattle.play_model.specs.Plays.{none_done, members}

-- an event, without the numbers that a cleanup is told: those that are completed at its moment
pub data Move : Type 0 where
  Calls : ℕ → Move
  Submits : Move
  Turns : Move
  Retires : Move
  Cleans : Move

-- What is ready

-- the line of this number is among those that were answered, so many of each thread
abbrev pub was_answered : List Plan → List ℕ → ℕ → Bool
was_answered [] done number = false
was_answered (plan ∷ plans) [] number = false
was_answered (plan ∷ plans) (count ∷ counts) number =
    list_any (λ line. line.number == number) (take count plan.lines) || was_answered plans counts number

-- the line waits for none, or for one that was answered
abbrev pub may_follow : List Plan → List ℕ → Line → Bool
may_follow threads done line = option_map_or (was_answered threads done) line.after true

-- the threads of these plans, numbered from `first` on, whose next line may follow
abbrev pub ready_from : List Plan → List ℕ → ℕ → List Plan → List ℕ → List ℕ
ready_from threads done first [] counts = []
ready_from threads done first (plan ∷ plans) [] = []
ready_from threads done first (plan ∷ plans) (count ∷ counts) =
    if option_map_or (may_follow threads done) (slice_get plan.lines count) false
    then first ∷ ready_from threads done (suc first) plans counts
    else ready_from threads done (suc first) plans counts

-- the threads whose next line is ready, in rising order
abbrev pub ready_threads : List Plan → List ℕ → List ℕ
ready_threads threads done = ready_from threads done 0 threads done

-- A round

-- the event of the back of this number, 0 to 3
abbrev pub back_move : ℕ → Move
back_move kind = if kind == 0 then Submits else if kind == 1 then Turns else if kind == 2 then Retires else Cleans

-- the events of the back that a word names, so many, from the k-th on
abbrev pub back_moves_from : ℕ → ℕ → ℕ → List Move
back_moves_from word k zero = []
back_moves_from word k (suc count) = back_move ((word / 2 ^ (8 + 2 * k)) % 4) ∷ back_moves_from word (suc k) count

-- the events of the back in a round: three at most
abbrev pub back_moves : ℕ → List Move
back_moves word = back_moves_from word 0 (word % 4)

-- the thread that a word names among those that are ready
abbrev pub named_thread : List ℕ → ℕ → ℕ
named_thread ready word = slice_index ready ((word / 2 ^ 16) % length ready)

-- the counts after one more line of a thread
abbrev pub raised : List ℕ → ℕ → List ℕ
raised done thread = slice_set done thread (slice_index done thread + 1)

-- so many rounds, each by the next word: some events of the back, and then a call
abbrev pub rounds : List Plan → ℕ → List ℕ → List ℕ → List Move
rounds threads zero done state = []
rounds threads (suc left) done state =
    let word = (plus_plus state).0 in
    let thread = named_thread (ready_threads threads done) word in
    back_moves word ++ Calls thread ∷ rounds threads left (raised done thread) (plus_plus state).1

-- how many lines the threads have
abbrev pub line_count : List Plan → ℕ
line_count threads = sum (map (λ plan. length plan.lines) threads)

-- the words of a seed
abbrev pub words_of : ℕ → List ℕ
words_of seed = of_seed (splitmix_seed 32 seed)

-- the schedule: rounds until each line was answered
unfoldable pub schedule : List Plan → ℕ → List Move
schedule threads seed = rounds threads (line_count threads) (none_done threads) (words_of seed)

-- The calls of a schedule

abbrev pub caller_of : Move → List ℕ
caller_of (Calls thread) = thread ∷ []
caller_of Submits = []
caller_of Turns = []
caller_of Retires = []
caller_of Cleans = []

-- the threads that make the calls, in order
abbrev pub callers : List Move → List ℕ
callers moves = flat_map caller_of moves

-- those of a group's calls
abbrev pub callers_of_group : List Plan → ℕ → List Move → List ℕ
callers_of_group threads group moves = filter (λ thread. list_any (λ member. member == thread) (members threads group)) (callers moves)
