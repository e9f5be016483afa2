-- A thread's next line was answered, or its front was stopped.
use Rattle.std.proofs.Common.{◌≡◌, ◌≢◌, ℕ, ◌+◌, ◌≤◌, ◌<◌, Bool, true, false, List, [], ◌∷◌, ◌++◌, length, get_or, map, Some, refl, sym}
use Rattle.std.proofs.Common.{ap, ◌∙◌, subst, arith, eq-eqb}
use Rattle.std.specs.Prelude.{Option, None, Result, Ok, Err, IfOk, OnOk, OnErr, is_ok, is_err, Contains, IsTrue, ◌↔◌, slice_get, slice_set}
use Rattle.std.specs.Option.{option_map}
use Rattle.std.proofs.Math.Dec.{eqb}
use Rattle.std.proofs.lemmas.Option.{slice_get-map, slice_get_within}
use Rattle.std.proofs.lemmas.List.{length-map}
use Rattle.std.proofs.lemmas.Bool.{eqb-true, false≢true}
use Rattle.gl_calls.specs.declared.reply.Entry.{Entry}
use Rattle.gl_calls.specs.declared.reply.Reply.{Reply}
use Rattle.vk_types.specs.declared.batches.Batch.{Batch}
use Rattle.vk_types.specs.declared.stops.Stop.{Stop}
use Rattle.trace_text.specs.declared.trace.ThreadPlan.{ThreadPlan}
use Rattle.gl_model.specs.Legal.{IsLegal}
use Rattle.gl_model.specs.Refusal.{refusal}
use Rattle.trace_text.specs.declared.trace.Line.{Line}
use Rattle.trace_text.specs.Reading.{Plan, plan}
use Rattle.trace_text.specs.Orders.{IsLineOf, IsTrace}
use Rattle.back_core.specs.declared.back_event.BackEvent.{BackEvent}
use Rattle.back_core.specs.History.{link_of}
use Rattle.back_core.specs.Frame.{AtBack, GoesOn, host_bytes}
use Rattle.back_core.specs.Run.{journal_of}
use Rattle.back_core.specs.Back.{BackModel}
use Rattle.back_core.specs.Steps.{CleansWhole}
use Rattle.front_moves.specs.Core.{face}
use Rattle.front_core.specs.Economy.{MayHandOver, IsEndingBatch, due_of, due_over, waits_of}
use Rattle.front_core.specs.Share.{HasOrigin, is_map_read}
use Rattle.front_core.specs.Polls.{Polls, Flushes}
use Rattle.front_core.specs.Front.{FrontModel, HasAnswered, HasStopped, IsClosed}
use Rattle.play_model.specs.Plays.{Play, Plays, HasPlayed, HasEnded, MayPlay, IsReady, members, entry_on}
use Rattle.world_core.specs.World.{history_at, histories_of, play_at, group_numbers, due_in}
use Rattle.world_core.specs.Steps.{Replaces, HasAsked, HasCalled, HasBroken}
use Rattle.world_core.specs.Ends.{HasClosedOne}
use Rattle.world_core.specs.Inside.{AreNoted, AreFronts, Keeps, MayAsk, Runs, world_of, played_of, follows}
use Rattle.world_core.proofs.Laws.{Apart, GoOnStanding}
use Rattle.world_core.proofs.Lists.{read_at, same_at, get_set, history_is, history_other, same_histories, number_at}
use Rattle.world_core.proofs.Dues.{DuesGrow, due_grown, front_due}
use Rattle.world_core.proofs.Noted.{noted_more, ready_from, not_ready_from}
use Rattle.world_core.proofs.Fronts.{fronts_replaced, goes_replaced, stands_own}

-- the laws that a call needs
pub record CallLaws : Type 0 where
  pub apart : Apart
  pub stays : GoOnStanding
  pub dues : DuesGrow
  pub whole : (h k : List BackEvent) (g : ℕ) → GoesOn g (Some h) (Some k) → CleansWhole h → CleansWhole k
  pub group : (h : List BackEvent) (g : ℕ) → (link_of h g).group ≡ g
  pub plays : (threads : List Plan) (p q : Play) (thread : ℕ) → IsTrace threads → HasPlayed threads p → Plays threads p q thread →
      HasPlayed threads q

module _ (laws : CallLaws) (threads : List Plan) (done : List ℕ) (answered : List Bool) (fronts new : List FrontModel)
    (h k : List BackEvent) (thread place : ℕ) (line : Line)
    (keeps : Keeps threads done answered fronts h true) (at : slice_get done thread ≡ Some place) (is : IsLineOf threads thread place line)
    (ready : IsReady (history_at (histories_of fronts) is.plan.group) line)
    (reply : Reply) (asked : HasAsked fronts new h k is.plan.group thread line reply) where
  g : ℕ
  g = is.plan.group

  p : Play
  p = played_of done fronts

  q : Play
  q = played_of (slice_set done thread (place + 1)) new

  e : Entry
  e = entry_on thread line reply

  is_before : history_at (histories_of fronts) is.plan.group ≡ asked.fronts.before.history
  is_before = history_is fronts is.plan.group asked.fronts.before asked.fronts.had

  is_after : history_at (histories_of new) is.plan.group ≡ asked.fronts.after.history
  is_after =
      ap (λ (l : List FrontModel). history_at (histories_of l) is.plan.group) asked.fronts.has
      ∙ history_is (slice_set fronts is.plan.group asked.fronts.after) is.plan.group asked.fronts.after
      (get_set fronts is.plan.group asked.fronts.before asked.fronts.after asked.fronts.had)

  grown : history_at (histories_of new) is.plan.group ≡ history_at
      (histories_of fronts) is.plan.group ++ entry_on thread line reply ∷ []
  grown = is_after ∙ asked.answered.history ∙ ap (λ (l : List Entry). l ++ entry_on thread line reply ∷ []) (sym is_before)

  others : (group : ℕ) → group ≢ is.plan.group → history_at (histories_of new) group ≡ history_at (histories_of fronts) group
  others group ne = ap (λ (l : List FrontModel). history_at (histories_of l) group) asked.fronts.has
      ∙ history_other fronts is.plan.group group asked.fronts.after ne

  threads_were : asked.fronts.before.threads ≡ members threads is.plan.group
  threads_were = (keeps.fronts_are.each is.plan.group asked.fronts.before asked.fronts.had).threads_are

  pub plays : Plays threads (played_of done fronts) (played_of (slice_set done thread (place + 1)) new) thread
  plays = record {
    may = record { line = line; next = record { place = place; at = at; is = is }; ready = ready };
    reply = reply;
    history = grown;
    others = others;
    legal = subst (λ (l : List ℕ). IsLegal l (history_at (histories_of new) is.plan.group)) (asked.answered.threads ∙ threads_were)
        (subst (IsLegal asked.fronts.after.threads) (sym is_after) asked.answered.stands.legal);
    done = refl;
  }

  goes : GoesOn is.plan.group (Some h) (Some k)
  goes = subst (λ (n : ℕ). GoesOn n (Some h) (Some k)) (laws.group h is.plan.group) asked.at_back.goes_on

  low : is.plan.group < 8
  low = keeps.served.trace.low thread is.plan is.is_thread

  runs : Runs threads (played_of done fronts) fronts h
  runs = keeps.runs refl

  more : due_over (members threads is.plan.group)
      (history_at (histories_of fronts) is.plan.group) + due_of asked.fronts.before.state thread line.call
      ≤ due_over (members threads is.plan.group) (history_at (histories_of new) is.plan.group)
  more =
      let same : due_over (members threads is.plan.group) (history_at (histories_of new) is.plan.group)
      ≡ due_over (members threads is.plan.group)
      (history_at (histories_of fronts) is.plan.group) + due_of asked.fronts.before.state thread line.call
      = ap (due_over (members threads is.plan.group)) grown
      ∙ front_due laws.dues asked.fronts.before (link_of h is.plan.group) (members threads is.plan.group)
      (history_at (histories_of fronts) is.plan.group) (entry_on thread line reply)
      (runs.goes.stand is.plan.group asked.fronts.before asked.fronts.had) threads_were is_before in
      omega (arith, same)

  least : (b : ℕ) → due_over (members threads b) (history_at (histories_of fronts) b) ≤ due_over (members threads b)
      (history_at (histories_of new) b)
  least b = by (eqb b is.plan.group) refl
    where
      by : (c : Bool) → eqb b is.plan.group ≡ c →
          due_over (members threads b) (history_at (histories_of fronts) b) ≤ due_over (members threads b) (history_at (histories_of new) b)
      by true same =
          subst (λ (x : ℕ). due_over (members threads x) (history_at (histories_of fronts) x) ≤ due_over (members threads x)
          (history_at (histories_of new) x))
          (sym (eqb-true b is.plan.group same)) (omega (arith, more))
      by false same =
          let still : due_over (members threads b) (history_at (histories_of new) b) ≡ due_over (members threads b)
          (history_at (histories_of fronts) b)
          = ap (due_over (members threads b)) (others b (λ is_same. false≢true (sym same ∙ eq-eqb b is.plan.group is_same))) in
          omega (arith, still)

  uploads : host_bytes (journal_of k) ≤ due_in threads (played_of (slice_set done thread (place + 1)) new)
  uploads =
      let wrote = laws.apart.wrote h k is.plan.group asked.at_back.gained goes asked.at_back.grows in
      let few = asked.at_back.uploads in
      let was : host_bytes (journal_of h) ≤ due_in threads (played_of done fronts) = runs.uploads in
      let now : due_in threads (played_of done fronts) + due_of asked.fronts.before.state thread line.call ≤ due_in threads
      (played_of (slice_set done thread (place + 1)) new)
      = due_grown threads (played_of done fronts)
      (played_of (slice_set done thread (place + 1)) new) least group_numbers is.plan.group is.plan.group
      (due_of asked.fronts.before.state thread line.call) (number_at is.plan.group low) more in
      omega (arith, wrote, few, was, now)

  pub keeps_called : Keeps threads (slice_set done thread (place + 1)) (slice_set answered line.number true) new k true
  keeps_called = record {
    served = keeps.served;
    played = laws.plays threads (played_of done fronts)
        (played_of (slice_set done thread (place + 1)) new) thread keeps.served.trace keeps.played plays;
    noted = noted_more threads keeps.served.trace (played_of done fronts)
        (played_of (slice_set done thread (place + 1)) new) answered keeps.noted thread place line is
        (entry_on thread line reply) refl grown others;
    fronts_are = fronts_replaced fronts new h k is.plan.group asked.fronts laws.apart threads goes asked.answered.threads
        (stands_own asked.fronts.after (link_of k is.plan.group) asked.answered.stands) keeps.fronts_are;
    runs = λ on. record {
      goes = goes_replaced fronts new h k is.plan.group asked.fronts laws.apart laws.stays goes low asked.answered.stands
          (asked.at_back.going refl runs.goes.going)
          (laws.whole h k is.plan.group goes runs.goes.whole) runs.goes;
      uploads = uploads;
    };
  }

  pub has_called : {D : Type 0} (back now : BackModel D) → back.history ≡ h → now.history ≡ k →
      HasCalled (world_of threads done fronts back true) (world_of threads (slice_set done thread (place + 1)) new now true) thread
  unfolding plays
  has_called back now was is_now = record {
    threads = refl;
    running = refl;
    plays = plays;
    asked = subst (λ (i : List BackEvent). HasAsked fronts new i now.history is.plan.group thread line reply) (sym was)
        (subst (λ (i : List BackEvent). HasAsked fronts new h i is.plan.group thread line reply) (sym is_now) asked);
  }

-- The front was stopped

module _ (laws : CallLaws) (threads : List Plan) (done : List ℕ) (answered : List Bool) (fronts new : List FrontModel)
    (h k : List BackEvent) (g : ℕ)
    (broken : HasBroken fronts new h k g) where
  pub broken_histories : histories_of new ≡ histories_of fronts
  broken_histories = ap histories_of broken.fronts.has
      ∙ same_histories fronts g broken.fronts.before broken.fronts.after broken.fronts.had broken.stopped.history

  pub keeps_broken : Keeps threads done answered fronts h true → Keeps threads done answered new k false
  keeps_broken keeps =
      let same : played_of done new ≡ played_of done fronts = ap (play_at done) broken_histories in
      record {
        served = keeps.served;
        played = subst (HasPlayed threads) (sym same) keeps.played;
        noted = subst (λ (p : Play). AreNoted threads p answered) (sym same) keeps.noted;
        fronts_are = fronts_replaced fronts new h k g broken.fronts laws.apart threads broken.at_back broken.stopped.threads
            broken.stopped.owns keeps.fronts_are;
        runs = λ on. absurd (false≢true on);
      }

-- What a front did through the link of its group

module _ (law : (h : List BackEvent) (g : ℕ) → (link_of h g).group ≡ g) (fronts : List FrontModel) (i g n : ℕ)
    (before after : FrontModel) (h k : List BackEvent)
    (had : slice_get fronts g ≡ Some before) (same : i ≡ g) where
  abbrev replaces : Replaces fronts (slice_set fronts i after) g
  replaces = record { before = before; after = after; had = had; has = ap (λ (j : ℕ). slice_set fronts j after) same }

  group_is : {due : ℕ} {waits stops : Bool} {MayHand : Batch → Type 0} →
      AtBack (link_of h g) (link_of k n) (Some h) (Some k) due waits stops MayHand → n ≡ g
  group_is at_back = sym (law k n) ∙ at_back.group ∙ law h g

  asked_from : (thread : ℕ) (line : Line) (reply : Reply) → HasAnswered before after (link_of k n) thread line.number line.call reply →
      (is_map_read line.call ≡ true → refusal before.state thread line.call ≡ None → HasOrigin (link_of h g) (link_of k n) reply) →
      (refusal before.state thread line.call ≡ None → Polls before.syncs (link_of h g) (link_of k n) line.call reply) →
      (refusal before.state thread line.call ≡ None →
      Flushes before.state before.serials before.syncs thread line.call (face after.core) (link_of k n) reply) →
      AtBack (link_of h g) (link_of k n) (Some h) (Some k) (due_of before.state thread line.call)
      (waits_of before.state thread line.call) false
      (MayHandOver (face before.core) before.state before.serials before.syncs thread line.call) →
      HasAsked fronts (slice_set fronts i after) h k g thread line reply
  asked_from thread line reply answered origin polls flushes at_back =
      let to_group : n ≡ g = group_is at_back in
      record {
        fronts = replaces;
        answered = subst (λ (m : ℕ). HasAnswered before after (link_of k m) thread line.number line.call reply) to_group answered;
        at_back = subst (λ (m : ℕ). AtBack (link_of h g) (link_of k m) (Some h) (Some k) (due_of before.state thread line.call)
            (waits_of before.state thread line.call) false
            (MayHandOver (face before.core) before.state before.serials before.syncs thread line.call)) to_group at_back;
        origin = λ reads accepted. subst (λ (m : ℕ). HasOrigin (link_of h g) (link_of k m) reply) to_group (origin reads accepted);
        polls = λ accepted. subst (λ (m : ℕ). Polls before.syncs (link_of h g) (link_of k m) line.call reply) to_group (polls accepted);
        flushes = λ accepted.
            subst (λ (m : ℕ). Flushes before.state before.serials before.syncs thread line.call (face after.core) (link_of k m) reply)
            to_group (flushes accepted);
      }

  pub ask_ok : (thread : ℕ) (line : Line) (r : Result Reply Stop) →
      IfOk r (λ reply. HasAnswered before after (link_of k n) thread line.number line.call reply) →
      IfOk r (λ reply. is_map_read line.call ≡ true → refusal before.state thread line.call ≡ None →
      HasOrigin (link_of h g) (link_of k n) reply) →
      IfOk r (λ reply. refusal before.state thread line.call ≡ None → Polls before.syncs (link_of h g) (link_of k n) line.call reply) →
      IfOk r (λ reply. refusal before.state thread line.call ≡ None →
      Flushes before.state before.serials before.syncs thread line.call (face after.core) (link_of k n) reply) →
      AtBack (link_of h g) (link_of k n) (Some h) (Some k) (due_of before.state thread line.call)
      (waits_of before.state thread line.call) (is_err r)
      (MayHandOver (face before.core) before.state before.serials before.syncs thread line.call) →
      IfOk r (λ reply. HasAsked fronts (slice_set fronts i after) h k g thread line reply)
  ask_ok thread line (Ok reply) answered origin polls flushes at_back = asked_from thread line reply answered origin polls flushes at_back
  ask_ok thread line (Err stop) answered origin polls flushes at_back = tt

  broken_from : {due : ℕ} {waits stops : Bool} {MayHand : Batch → Type 0} → HasStopped before after (link_of k n) →
      AtBack (link_of h g) (link_of k n) (Some h) (Some k) due waits stops MayHand → HasBroken fronts (slice_set fronts i after) h k g
  broken_from stopped at_back = record {
    fronts = replaces;
    stopped = subst (λ (m : ℕ). HasStopped before after (link_of k m)) (group_is at_back) stopped;
    at_back = subst (λ (m : ℕ). GoesOn m (Some h) (Some k)) (law h g) at_back.goes_on;
  }

  closed_from : IsClosed before after (link_of k n) →
      AtBack (link_of h g) (link_of k n) (Some h) (Some k) 0 false false (IsEndingBatch before.syncs) →
      HasClosedOne fronts (slice_set fronts i after) h k g
  closed_from closed at_back = record {
    fronts = replaces;
    closed = subst (λ (m : ℕ). IsClosed before after (link_of k m)) (group_is at_back) closed;
    at_back = subst (λ (m : ℕ). AtBack (link_of h g) (link_of k m) (Some h) (Some k) 0 false false (IsEndingBatch before.syncs))
        (group_is at_back) at_back;
  }

  pub close_ok : {A : Type 0} (r : Result A Stop) → OnOk r (IsClosed before after (link_of k n)) →
      AtBack (link_of h g) (link_of k n) (Some h) (Some k) 0 false (is_err r) (IsEndingBatch before.syncs) →
      OnOk r (HasClosedOne fronts (slice_set fronts i after) h k g)
  close_ok (Ok a) closed at_back = closed_from closed at_back
  close_ok (Err stop) closed at_back = tt

  pub stop_err : {A : Type 0} {due : ℕ} {waits : Bool} {MayHand : Batch → Type 0} (r : Result A Stop) →
      OnErr r (HasStopped before after (link_of k n)) →
      AtBack (link_of h g) (link_of k n) (Some h) (Some k) due waits (is_err r) MayHand →
      OnErr r (HasBroken fronts (slice_set fronts i after) h k g)
  stop_err (Ok a) stopped at_back = tt
  stop_err (Err stop) stopped at_back = broken_from stopped at_back

pub on_err : {A E : Type 0} {P : Type 0} (r : Result A E) → P → OnErr r P
on_err (Ok a) p = tt
on_err (Err e) p = p

-- The next line of a thread

pub plan_at : (threads : List ThreadPlan) (thread : ℕ) (of : ThreadPlan) → thread < length threads → of ≡ get_or threads thread of →
    slice_get (map plan threads) thread ≡ Some (plan of)
plan_at threads thread of low is = slice_get-map plan threads thread ∙ ap (option_map plan) (read_at threads thread thread of refl low is)

pub line_at : (of : ThreadPlan) (lines : List Line) (place : ℕ) (line : Line) → lines ≡ of.lines.items → place < length lines →
    line ≡ get_or lines place line → slice_get of.lines.items place ≡ Some line
line_at of lines place line same low is = subst (λ (l : List Line). slice_get l place ≡ Some line) same
    (read_at lines place place line refl low is)

-- the line at a place of a thread that was read
abbrev pub line_got : (threads : List ThreadPlan) (thread place : ℕ) (of : ThreadPlan) (lines : List Line) (line : Line) →
    thread < length threads → of ≡ get_or threads thread of →
    lines ≡ of.lines.items → place < length lines → line ≡ get_or lines place line → IsLineOf (map plan threads) thread place line
line_got threads thread place of lines line low of_is lines_are few is =
    record { plan = plan of; is_thread = plan_at threads thread of low of_is; is_line = line_at of lines place line lines_are few is }

-- as many threads as numbers of lines
pub done_low : (threads : List ThreadPlan) (done : List ℕ) (fronts : List FrontModel) (thread : ℕ) →
    HasPlayed (map plan threads) (played_of done fronts) → thread < length threads → thread < length done
done_low threads done fronts thread played low = let each = played.each in let mapped = length-map threads plan in omega
    (arith, each, mapped, low)

-- the threads of a front are those of its group
pub front_declares : (threads : List Plan) (done : List ℕ) (answered : List Bool) (fronts : List FrontModel) (h : List BackEvent)
    (thread : ℕ) (of : Plan) (front : FrontModel) →
    Keeps threads done answered fronts h true → Contains (members threads of.group) thread → slice_get fronts of.group ≡ Some front →
    MayAsk front h of.group thread
front_declares threads done answered fronts h thread of front keeps member at = record {
  stands = (keeps.runs refl).goes.stand of.group front at;
  declared = subst (λ (l : List ℕ). Contains l thread) (sym (keeps.fronts_are.each of.group front at).threads_are) member;
}

pub not_ok : {A E : Type 0} (r : Result A E) → is_err r ≡ true → is_ok r ≡ false
not_ok (Ok a) err = absurd (false≢true err)
not_ok (Err e) err = refl

-- a thread that has no next line has ended
pub has_ended : (threads : List Plan) (done : List ℕ) (fronts : List FrontModel) (thread place : ℕ) (of : Plan) →
    HasPlayed threads (played_of done fronts) →
    slice_get threads thread ≡ Some of → slice_get done thread ≡ Some place → length of.lines ≤ place → HasEnded threads done thread
has_ended threads done fronts thread place of played at here past =
    let few = (played.answered thread place of at here).few in
    let same : place ≡ length of.lines = omega (arith, few, past) in
    record { plan = of; is_thread = at; all = here ∙ ap Some same }

-- The fronts ended with the histories that they had

pub keeps_ended : (threads : List Plan) (done : List ℕ) (answered : List Bool) (fronts new : List FrontModel) (h k : List BackEvent)
    (running : Bool) → histories_of new ≡ histories_of fronts →
    AreFronts threads k new → Keeps threads done answered fronts h running → Keeps threads done answered new k false
keeps_ended threads done answered fronts new h k running same are keeps =
    let same_play : played_of done new ≡ played_of done fronts = ap (play_at done) same in
    record {
      served = keeps.served;
      played = subst (HasPlayed threads) (sym same_play) keeps.played;
      noted = subst (λ (p : Play). AreNoted threads p answered) (sym same_play) keeps.noted;
      fronts_are = are;
      runs = λ on. absurd (false≢true on);
    }

-- Whether a thread may go on

module _ (threads : List Plan) (done : List ℕ) (answered : List Bool) (fronts : List FrontModel) (h : List BackEvent) (running : Bool)
    (thread place : ℕ)
    (keeps : Keeps threads done answered fronts h running) (at : slice_get done thread ≡ Some place) where
  one_line : (line : Line) (is : IsLineOf threads thread place line) (may : MayPlay threads (played_of done fronts) thread) →
      IsReady (history_at (histories_of fronts) is.plan.group) line
  one_line line is may =
      let places : may.next.place ≡ place = same_at done thread may.next.place place may.next.at at in
      let plans : may.next.is.plan ≡ is.plan = same_at threads thread may.next.is.plan is.plan may.next.is.is_thread is.is_thread in
      let lines : may.line ≡ line
      = same_at is.plan.lines place may.line line
      (subst (λ (n : ℕ). slice_get is.plan.lines n ≡ Some may.line) places
      (subst (λ (p : Plan). slice_get p.lines may.next.place ≡ Some may.line) plans may.next.is.is_line)) is.is_line in
      subst (λ (p : Plan). IsReady (history_at (histories_of fronts) p.group) line) plans
      (subst (IsReady (history_at (histories_of fronts) may.next.is.plan.group)) lines may.ready)

  pub may_play : (line : Line) (is : IsLineOf threads thread place line) (b : Bool) → b ≡ follows answered line.after →
      IsTrue b ↔ MayPlay threads (played_of done fronts) thread
  may_play line is true e = (
    λ on. record {
      line = line;
      next = record { place = place; at = at; is = is };
      ready = ready_from threads keeps.served.trace (played_of done fronts) answered keeps.noted thread place line is (sym e);
    },
    λ may. refl,
  )
  may_play line is false e = (
    λ on. absurd (false≢true on),
    λ may. absurd (not_ready_from threads keeps.served.trace (played_of done fronts) answered keeps.noted thread place line is (sym e)
        (one_line line is may)),
  )

  pub may_not_play : (of : Plan) → slice_get threads thread ≡ Some of → length of.lines ≤ place →
      IsTrue false ↔ MayPlay threads (played_of done fronts) thread
  may_not_play of is past = (
    λ on. absurd (false≢true on),
    λ may.
        let places : may.next.place ≡ place = same_at done thread may.next.place place may.next.at at in
        let plans : may.next.is.plan ≡ of = same_at threads thread may.next.is.plan of may.next.is.is_thread is in
        let low = slice_get_within of.lines may.next.place may.line
        (subst (λ (p : Plan). slice_get p.lines may.next.place ≡ Some may.line) plans may.next.is.is_line) in
        absurd (omega (arith, places, low, past)),
  )
