-- What was answered, by the histories and by the counts.
use Rattle.std.proofs.Common.{◌≡◌, ℕ, zero, suc, ◌<◌, Bool, true, false, cond, refl, sym, ap, ◌∙◌, subst, inl, inr, arith}
use Rattle.std.specs.Prelude.{◌⊎◌, ◌==◌, ◌||◌, List, [], ◌∷◌, length, take, get_or, map, slice_get, Contains, Option, Some, None}
use Rattle.std.specs.List.{list_any}
use Rattle.std.specs.Option.{option_map_or}
use Rattle.std.proofs.lemmas.Bool.{eq-eqb, eqb-true, or_cases, or_left, or_right}
use Rattle.std.proofs.lemmas.Option.{same_Some, none-some, slice_get_within, slice_get-get_or, get_or_from_slice_get}
use Rattle.gl_calls.specs.declared.reply.Entry.{Entry}
use Rattle.trace_text.specs.declared.trace.Line.{Line}
use Rattle.trace_text.specs.Reading.{Plan}
use Rattle.trace_text.specs.Orders.{IsTrace, IsLineOf, HasLine}
use Rattle.play_model.specs.Plays.{Play, HasPlayed, IsReady, Asked, asked_by, asked_on, entries_of, is_answered, members}
use Rattle.schedule.specs.Moves.{was_answered, may_follow}
use Rattle.schedule.proofs.Members.{plan_of_member}

-- The first lines of a thread

-- the line of this number is among these
abbrev pub has_number : ℕ → List Line → Bool
has_number number lines = list_any (λ line. line.number == number) lines

-- a line before a place
pub record IsEarly (lines : List Line) (count number : ℕ) : Type 0 where
  pub place : ℕ
  pub line : Line
  pub early : place < count
  pub at : slice_get lines place ≡ Some line
  pub numbered : line.number ≡ number

pub early_line : (lines : List Line) (count number : ℕ) → has_number number (take count lines) ≡ true → IsEarly lines count number
early_line [] zero number h = cc
early_line [] (suc count) number h = cc
early_line (l ∷ lines) zero number h = cc
early_line (l ∷ lines) (suc count) number h =
    go (or_cases (l.number == number) (has_number number (take count lines)) h) (λ later. early_line lines count number later)
  where
    go : ((l.number == number) ≡ true) ⊎ (has_number number (take count lines) ≡ true) →
        (has_number number (take count lines) ≡ true → IsEarly lines count number) → IsEarly (l ∷ lines) (suc count) number
    go (inl here) more = record { place = 0; line = l; early = omega arith; at = refl; numbered = eqb-true l.number number here }
    go (inr later) more =
        let e = more later in
        record { place = suc e.place; line = e.line; early = omega (arith, e.early); at = e.at; numbered = e.numbered }

-- The lines of all threads

-- a line that was answered, by the counts
pub record WasAt (threads : List Plan) (done : List ℕ) (number : ℕ) : Type 0 where
  pub thread : ℕ
  pub plan : Plan
  pub count : ℕ
  pub is_thread : slice_get threads thread ≡ Some plan
  pub at : slice_get done thread ≡ Some count
  pub among : has_number number (take count plan.lines) ≡ true

was_at : (threads : List Plan) (done : List ℕ) (number : ℕ) → was_answered threads done number ≡ true → WasAt threads done number
was_at [] done number h = cc
was_at (p ∷ plans) [] number h = cc
was_at (p ∷ plans) (c ∷ counts) number h =
    go (or_cases (has_number number (take c p.lines)) (was_answered plans counts number) h) (λ later. was_at plans counts number later)
  where
    go : (has_number number (take c p.lines) ≡ true) ⊎ (was_answered plans counts number ≡ true) →
        (was_answered plans counts number ≡ true → WasAt plans counts number) → WasAt (p ∷ plans) (c ∷ counts) number
    go (inl here) more = record { thread = 0; plan = p; count = c; is_thread = refl; at = refl; among = here }
    go (inr later) more =
        let w = more later in
        record { thread = suc w.thread; plan = w.plan; count = w.count; is_thread = w.is_thread; at = w.at; among = w.among }

was_from : (threads : List Plan) (done : List ℕ) (number thread : ℕ) (plan : Plan) (count : ℕ) → slice_get threads thread ≡ Some plan →
    slice_get done thread ≡ Some count → has_number number (take count plan.lines) ≡ true → was_answered threads done number ≡ true
was_from [] done number thread plan count is at among = absurd (none-some plan is)
was_from (p ∷ plans) [] number thread plan count is at among = absurd (none-some count at)
was_from (p ∷ plans) (c ∷ counts) number zero plan count is at among =
    let plans_are : p ≡ plan = same_Some p plan is in
    let counts_are : c ≡ count = same_Some c count at in
    let here : has_number number (take c p.lines) ≡ true =
    ap (λ (q : Plan). has_number number (take c q.lines)) plans_are
    ∙ ap (λ (n : ℕ). has_number number (take n plan.lines)) counts_are ∙ among in
    or_left (has_number number (take c p.lines)) (was_answered plans counts number) here
was_from (p ∷ plans) (c ∷ counts) number (suc thread) plan count is at among =
    or_right (has_number number (take c p.lines)) (was_answered plans counts number)
    (was_from plans counts number thread plan count is at among)

-- The entries of a history

asked_lines : (thread number : ℕ) (lines : List Line) →
    list_any (λ (a : Asked). a.line == number) (map (asked_on thread) lines) ≡ has_number number lines
asked_lines thread number [] = refl
asked_lines thread number (l ∷ lines) = ap (λ (b : Bool). (l.number == number) || b) (asked_lines thread number lines)

asked_entries : (number : ℕ) (history : List Entry) →
    list_any (λ (a : Asked). a.line == number) (map asked_by history) ≡ is_answered history number
asked_entries number [] = refl
asked_entries number (e ∷ history) = ap (λ (b : Bool). (e.line == number) || b) (asked_entries number history)

-- A history with an entry more, if a test says so

abbrev keep_if : Bool → Entry → List Entry → List Entry
keep_if test e history = cond test (e ∷ history) history

module _ (e : Entry) (history : List Entry) (number : ℕ) where
  kept_cases : (test : Bool) → is_answered (keep_if test e history) number ≡ true →
      ((e.line == number) ≡ true) ⊎ (is_answered history number ≡ true)
  kept_cases true h = or_cases (e.line == number) (is_answered history number) h
  kept_cases false h = inr h

  kept_first : (test : Bool) → test ≡ true → (e.line == number) ≡ true → is_answered (keep_if test e history) number ≡ true
  kept_first true held here = or_left (e.line == number) (is_answered history number) here
  kept_first false held here = cc

  kept_later : (test : Bool) → is_answered history number ≡ true → is_answered (keep_if test e history) number ≡ true
  kept_later true later = or_right (e.line == number) (is_answered history number) later
  kept_later false later = later

-- what is among a thread's entries is in the history
in_history : (thread number : ℕ) (history : List Entry) → is_answered (entries_of thread history) number ≡ true →
    is_answered history number ≡ true
in_history thread number [] h = h
in_history thread number (e ∷ history) h =
    go (kept_cases e (entries_of thread history) number (e.thread == thread) h) (λ later. in_history thread number history later)
  where
    go : ((e.line == number) ≡ true) ⊎ (is_answered (entries_of thread history) number ≡ true) →
        (is_answered (entries_of thread history) number ≡ true → is_answered history number ≡ true) →
        is_answered (e ∷ history) number ≡ true
    go (inl here) more = or_left (e.line == number) (is_answered history number) here
    go (inr later) more = or_right (e.line == number) (is_answered history number) (more later)

-- an entry is among those of its thread
of_thread : (history : List Entry) (number place : ℕ) (e : Entry) → slice_get history place ≡ Some e → e.line ≡ number →
    is_answered (entries_of e.thread history) number ≡ true
of_thread [] number place e at numbered = absurd (none-some e at)
of_thread (x ∷ history) number zero e at numbered =
    let same : x ≡ e = same_Some x e at in
    let thread : (x.thread == e.thread) ≡ true = eq-eqb x.thread e.thread (ap (λ (y : Entry). y.thread) same) in
    let line : (x.line == number) ≡ true = eq-eqb x.line number (ap (λ (y : Entry). y.line) same ∙ numbered) in
    kept_first x (entries_of e.thread history) number (x.thread == e.thread) thread line
of_thread (x ∷ history) number (suc place) e at numbered =
    kept_later x (entries_of e.thread history) number (x.thread == e.thread) (of_thread history number place e at numbered)

-- an entry with this line
pub record IsIn (history : List Entry) (number : ℕ) : Type 0 where
  pub place : ℕ
  pub entry : Entry
  pub at : slice_get history place ≡ Some entry
  pub numbered : entry.line ≡ number

is_in : (history : List Entry) (number : ℕ) → is_answered history number ≡ true → IsIn history number
is_in [] number h = cc
is_in (e ∷ history) number h = go (or_cases (e.line == number) (is_answered history number) h) (λ later. is_in history number later)
  where
    go : ((e.line == number) ≡ true) ⊎ (is_answered history number ≡ true) → (is_answered history number ≡ true → IsIn history number) →
        IsIn (e ∷ history) number
    go (inl here) more = record { place = 0; entry = e; at = refl; numbered = eqb-true e.line number here }
    go (inr later) more =
        let i = more later in
        record { place = suc i.place; entry = i.entry; at = i.at; numbered = i.numbered }

-- Both ways

module _ (threads : List Plan) (p : Play) (has : HasPlayed threads p) where
  -- the first lines of a thread are its entries
  pub lines_are : (thread count : ℕ) (plan : Plan) → slice_get threads thread ≡ Some plan → slice_get p.done thread ≡ Some count →
      (number : ℕ) → is_answered (entries_of thread (p.histories plan.group)) number ≡ has_number number (take count plan.lines)
  lines_are thread count plan is at number =
      sym (asked_entries number (entries_of thread (p.histories plan.group)))
      ∙ ap (list_any (λ (a : Asked). a.line == number)) (has.answered thread count plan is at).in_order
      ∙ asked_lines thread number (take count plan.lines)

  pub counted : (thread : ℕ) (plan : Plan) → slice_get threads thread ≡ Some plan →
      slice_get p.done thread ≡ Some (get_or p.done thread 0)
  counted thread plan is =
      let within : thread < length threads = slice_get_within threads thread plan is in
      slice_get-get_or p.done thread 0 (omega (arith, has.each, within))

  -- what a group answered was answered by the counts
  pub answered_was : (group number : ℕ) → is_answered (p.histories group) number ≡ true → was_answered threads p.done number ≡ true
  answered_was group number h =
      let i = is_in (p.histories group) number h in
      let within : i.place < length (p.histories group) = slice_get_within (p.histories group) i.place i.entry i.at in
      let own : Contains (members threads group) (get_or (p.histories group) i.place i.entry).thread =
      has.own group i.place i.entry within in
      let own_thread : Contains (members threads group) i.entry.thread =
      subst (λ (e : Entry). Contains (members threads group) e.thread)
      (get_or_from_slice_get (p.histories group) i.place i.entry i.entry i.at) own in
      let m = plan_of_member threads group i.entry.thread own_thread in
      let place_is : m.place ≡ i.entry.thread = omega (arith, m.numbered) in
      let is : slice_get threads i.entry.thread ≡ Some m.plan = subst (λ (t : ℕ). slice_get threads t ≡ Some m.plan) place_is m.at in
      let entries : is_answered (entries_of i.entry.thread (p.histories m.plan.group)) number ≡ true =
      ap (λ (g : ℕ). is_answered (entries_of i.entry.thread (p.histories g)) number) m.of_group
      ∙ of_thread (p.histories group) number i.place i.entry i.at i.numbered in
      let count : ℕ = get_or p.done i.entry.thread 0 in
      was_from threads p.done number i.entry.thread m.plan count is (counted i.entry.thread m.plan is)
      (sym (lines_are i.entry.thread count m.plan is (counted i.entry.thread m.plan is) number) ∙ entries)

  -- what was answered by the counts was answered by the group that has the line
  pub was_is_answered : IsTrace threads → (group number : ℕ) → HasLine threads group number → was_answered threads p.done number ≡ true →
      is_answered (p.histories group) number ≡ true
  was_is_answered trace group number line h =
      let w = was_at threads p.done number h in
      let e = early_line w.plan.lines w.count number w.among in
      let its : IsLineOf threads w.thread e.place e.line = record { plan = w.plan; is_thread = w.is_thread; is_line = e.at } in
      let same : w.thread ≡ line.thread =
      trace.apart w.thread line.thread e.place line.place e.line line.line its line.is (e.numbered ∙ sym line.numbered) in
      let plans : w.plan ≡ line.is.plan =
      same_Some w.plan line.is.plan (sym w.is_thread ∙ ap (slice_get threads) same ∙ line.is.is_thread) in
      let of_group : w.plan.group ≡ group = ap (λ (q : Plan). q.group) plans ∙ line.of_group in
      ap (λ (g : ℕ). is_answered (p.histories g) number) (sym of_group)
      ∙ in_history w.thread number (p.histories w.plan.group) (lines_are w.thread w.count w.plan w.is_thread w.at number ∙ w.among)

  -- A line may follow by the counts where it is ready.
  pub follows_ready : IsTrace threads → (thread place : ℕ) (line : Line) (is : IsLineOf threads thread place line) →
      may_follow threads p.done line ≡ true → IsReady (p.histories is.plan.group) line
  follows_ready trace thread place line is h number after =
      was_is_answered trace is.plan.group number (trace.waits thread place number line is after).1
      (sym (ap (λ (o : Option ℕ). option_map_or (was_answered threads p.done) o true) after) ∙ h)

  pub ready_follows : (group : ℕ) (line : Line) → IsReady (p.histories group) line → may_follow threads p.done line ≡ true
  ready_follows group line ready = go line.after (λ number after. ready number after)
    where
      go : (o : Option ℕ) → ((number : ℕ) → o ≡ Some number → is_answered (p.histories group) number ≡ true) →
          option_map_or (was_answered threads p.done) o true ≡ true
      go None all = refl
      go (Some number) all = answered_was group number (all number refl)
