-- What is learned while a batch is waited for.
use Rattle.std.proofs.Common.{◌≡◌, ℕ, ◌<◌, ◌≤◌, Bool, true, false, cond, List, [], ◌∷◌, ◌++◌, refl, sym, ap, ◌∙◌, subst, arith}
use Rattle.std.specs.Prelude.{Option, Some, None, ◌/◌}
use Rattle.std.proofs.lemmas.List.{append-nil, append_assoc}
use Rattle.std.proofs.lemmas.List.Elements.{All-push}
use Rattle.vk_types.specs.declared.stops.Stop.{Stop}
use Rattle.vk_types.specs.declared.batches.QueueSerial.{QueueSerial}
use Rattle.vk_device.specs.declared.logged.Turned.TheVariants as turned
use Rattle.vk_device.specs.Order.{AllRan}
use Rattle.submit_queue.specs.Histories as queue
use Rattle.back_core.specs.declared.back_event.BackEvent.{BackEvent}
use Rattle.back_core.specs.declared.back_event.BackEvent.TheVariants.{Created, Wrote, Enqueued, Submitted, Ran, Retired, Fetched, Gave, Abandoned, Cleaned, Closing, Stopped}
use Rattle.back_core.specs.declared.ending.Step.{Step}
use Rattle.back_core.specs.declared.ending.Step.TheVariants.{Done, Nothing}
use Rattle.back_core.specs.Own.{batches_of}
use Rattle.back_core.specs.Link.{Link, Asked}
use Rattle.back_core.specs.Needs.{HasBatch, IsOfGroup}
use Rattle.back_core.specs.Answers.{NowRises, AskedRises, Learns}
use Rattle.back_core.specs.History.{queue_history, completed, link_of, IsOfOthers}
use Rattle.back_core.specs.Run.{journal_of, IsRun, IsProgress, MayHappen, work_left}
use Rattle.back_core.specs.Back.{ending_of, is_stopped, stopped_by}
use Rattle.back_core.specs.Steps.{Submits, Turns, RetiresOne, MakesOne, Proceeds, HasGoneOn}
use Rattle.back_core.proofs.Calls.{MakesLess}

-- Learning

now_same : (now : Option (ℕ → ℕ)) → NowRises now now
now_same None = tt
now_same (Some f) = λ i. omega arith

asked_same : (asked : Option Asked) → AskedRises asked asked
asked_same None = tt
asked_same (Some a) = omega arith

now_more : (a b c : Option (ℕ → ℕ)) → NowRises a b → NowRises b c → NowRises a c
now_more None None None p q = tt
now_more None None (Some f) p q = absurd q
now_more None (Some f) c p q = absurd p
now_more (Some f) None c p q = absurd p
now_more (Some f) (Some k) None p q = absurd q
now_more (Some f) (Some k) (Some m) p q = λ i. omega (arith, p i, q i)

asked_more : (a b c : Option Asked) → AskedRises a b → AskedRises b c → AskedRises a c
asked_more None None None p q = tt
asked_more None None (Some f) p q = absurd q
asked_more None (Some f) c p q = absurd p
asked_more (Some f) None c p q = absurd p
asked_more (Some f) (Some k) None p q = absurd q
asked_more (Some f) (Some k) (Some m) p q = omega (arith, p, q)

pub learns_nothing : (s : Link) → Learns s s
learns_nothing s = record { rest = refl; rises = λ i. omega arith; told = now_same s.now; loaded = asked_same s.asked }

pub learns_more : (a b c : Link) → Learns a b → Learns b c → Learns a c
learns_more a b c p q = record {
  rest = q.rest ∙ ap (λ (s : Link). record s { done = c.done; now = c.now; asked = c.asked }) p.rest;
  rises = λ i. omega (arith, p.rises i, q.rises i);
  told = now_more a.now b.now c.now p.told q.told;
  loaded = asked_more a.asked b.asked c.asked p.loaded q.loaded;
}

-- the batches of the group stay
pub has_still : (a b : Link) (index number : ℕ) → Learns a b → HasBatch a index number → HasBatch b index number
has_still a b index number p has = subst (λ m. (1 ≤ number) × (number ≤ queue.last_number (batches_of m) index)) (sym (ap (λ (s : Link). s.mine) p.rest)) has

-- what a group learns from a retirement, and from no other's event, as a law tells it
pub record Sees : Type 0 where
  pub retire : (h : List BackEvent) (g : ℕ) (serial : QueueSerial) → Learns (link_of h g) (link_of (h ++ Retired serial ∷ []) g)
  pub others : (h : List BackEvent) (g : ℕ) (e : BackEvent) → IsOfOthers e g → link_of (h ++ e ∷ []) g ≡ link_of h g

unchanged : Sees → (h : List BackEvent) (g : ℕ) (e : BackEvent) → IsOfOthers e g → Learns (link_of h g) (link_of (h ++ e ∷ []) g)
unchanged sees h g e others = subst (λ s. Learns (link_of h g) s) (sym (sees.others h g e others)) (learns_nothing (link_of h g))

learns_by : Sees → (h : List BackEvent) (g : ℕ) (e : BackEvent) → IsProgress e → Learns (link_of h g) (link_of (h ++ e ∷ []) g)
learns_by sees h g (Created group id kind) p = absurd p
learns_by sees h g (Wrote group id at bytes) p = absurd p
learns_by sees h g (Enqueued batch) p = absurd p
learns_by sees h g Submitted p = unchanged sees h g Submitted tt
learns_by sees h g (Ran batch node) p = unchanged sees h g (Ran batch node) tt
learns_by sees h g (Retired serial) p = sees.retire h g serial
learns_by sees h g (Fetched group id at bytes) p = absurd p
learns_by sees h g (Gave group id uses) p = absurd p
learns_by sees h g (Abandoned group id) p = absurd p
learns_by sees h g (Cleaned read destroyed) p = absurd p
learns_by sees h g Closing p = absurd p
learns_by sees h g (Stopped stop) p = absurd p

pub learns_one : Sees → (old new : List BackEvent) (g : ℕ) → MakesOne old new → Learns (link_of old g) (link_of new g)
learns_one sees old new g one = subst (λ h. Learns (link_of old g) (link_of h g)) (sym one.is) (learns_by sees old g one.event one.progress)

stop_at : Sees → (b : Bool) (h : List BackEvent) (g : ℕ) (stop : Stop) → link_of (cond b h (h ++ Stopped stop ∷ [])) g ≡ link_of h g
stop_at sees true h g stop = refl
stop_at sees false h g stop = sees.others h g (Stopped stop) tt

-- a stop tells a group nothing
pub stop_same : Sees → (h : List BackEvent) (g : ℕ) (stop : Stop) → link_of (stopped_by h stop) g ≡ link_of h g
stop_same sees h g stop = stop_at sees (is_stopped (ending_of h)) h g stop

-- Going on

pub gone_none : (h : List BackEvent) → HasGoneOn h h
gone_none h = record { more = []; is = sym (append-nil h); progress = λ k d lt. absurd (omega (arith, lt)) }

pub gone_more : (old mid new : List BackEvent) → HasGoneOn old mid → MakesOne mid new → HasGoneOn old new
gone_more old mid new gone one = record {
  more = gone.more ++ one.event ∷ [];
  is = one.is ∙ (ap (λ h. h ++ one.event ∷ []) gone.is ∙ append_assoc old gone.more (one.event ∷ []));
  progress = All-push IsProgress gone.more one.event gone.progress one.progress;
}

-- One step

pub makes_one : MakesLess → (old new : List BackEvent) (e : BackEvent) → IsRun old → new ≡ old ++ e ∷ [] → MayHappen old e → IsProgress e → MakesOne old new
makes_one less old new e run is may progress = record { event = e; is = is; may = may; progress = progress; less = subst (λ h. work_left h < work_left old) (sym is) (less old e run may progress) }

pub by_retire : MakesLess → (old new : List BackEvent) (serial : QueueSerial) → IsRun old → RetiresOne old new serial → MakesOne old new
by_retire less old new serial run (is, may) = makes_one less old new (Retired serial) run is may tt

pub by_turn : MakesLess → (old mid new : List BackEvent) (batch node : ℕ) → IsRun old → mid ≡ old → Turns mid new (turned.Ran batch node) → MakesOne old new
by_turn less old mid new batch node run same (is, may) = makes_one less old new (Ran batch node) run (is ∙ ap (λ h. h ++ Ran batch node ∷ []) same) (subst (λ h. queue.MayRun (queue_history h) batch node) same may) tt

-- nothing was to retire and nothing to run, and then a batch was submitted, or none stood
pub by_submit : MakesLess → ((h : List BackEvent) (g index number : ℕ) → IsRun h → queue.first_flushed (queue_history h) ≡ None → AllRan (journal_of h) → ((place : ℕ) → queue.CanRetire (queue_history h) place → ⊥) → HasBatch (link_of h g) index number → number ≤ completed h index)
    → (old mid new : List BackEvent) (step : Step) → IsRun old → mid ≡ old → AllRan (journal_of old) → ((place : ℕ) → queue.CanRetire (queue_history old) place → ⊥) → Submits mid new step → Proceeds old new step
by_submit less done old mid new Done run same ran none (is, may) = makes_one less old new Submitted run (is ∙ ap (λ l. l ++ Submitted ∷ []) same) (subst (λ l. queue.MayAccept (queue_history l)) same may) tt
by_submit less done old mid new Nothing run same ran none (is, flushed) =
    let flushed' : queue.first_flushed (queue_history old) ≡ None = subst (λ l. queue.first_flushed (queue_history l) ≡ None) same flushed in
    (is ∙ same, record { all_retired = λ g index number has. done old g index number run flushed' ran none has; none_flushed = flushed'; all_ran = ran; none_to_retire = none })

-- the group of an index
pub group_is : (index group : ℕ) → IsOfGroup group index → index / 8 ≡ group
group_is index group (low, high) = omega arith

pub done_one : (old new : List BackEvent) (step : Step) → (step ≡ Nothing → ⊥) → Proceeds old new step → MakesOne old new
done_one old new Done not p = p
done_one old new Nothing not p = absurd (not refl)
