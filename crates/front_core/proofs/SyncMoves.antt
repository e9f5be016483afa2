-- What moves for syncs come to in turn.
use Rattle.std.proofs.Common.{◌≡◌, ◌≢◌, ℕ, ◌+◌, ◌≤◌, ◌<◌, ◌==◌, Bool, true, false, Option, Some, None, List, [], refl, sym, ◌∙◌, ap, subst, arith, inl, inr, nat_le}
use Rattle.std.specs.Prelude.{IfSome, Result, Ok, Err, OnOk}
use Rattle.std.proofs.lemmas.Bool.{false≢true, eqb-true, eq-eqb}
use Rattle.vk_types.specs.declared.ops.Node.{Node}
use Rattle.vk_types.specs.declared.batches.Batch.{Batch}
use Rattle.vk_types.specs.declared.batches.QueueSerial.{QueueSerial}
use Rattle.vk_types.specs.declared.batches.Reason.{Reason}
use Rattle.tables.specs.Table.{Entries}
use Rattle.gl_model.specs.declared.state.GroupState.{GroupState}
use Rattle.back_core.specs.Answers.{AskedRises, Loads, Completes}
use Rattle.back_core.specs.Link.{Asked, Link, put}
use Rattle.front_model.specs.Face.{Face}
use Rattle.front_model.proofs.Base.{put-same, put-other}
use Rattle.front_moves.specs.Core.{IsFlushed}
use Rattle.front_moves.specs.Reasons.{IsFlushOf}
use Rattle.sync_serials.specs.declared.serials.SyncName.{SyncName}
use Rattle.sync_serials.specs.Serials.{SyncTables, serial_at, newest_of}
use Rattle.front_core.specs.Share.{Stays, current_index}
use Rattle.front_core.specs.Economy.{IsOfCurrent, IsForWait, IsForPoll}
use Rattle.front_core.specs.Polls.{HasFlushedAll, FlushedStay, IsPoll, AskedAnew, IsLastLoad}

-- what follows of a call that ended well
pub ok_map : {A E : Type 0} {P Q : Type 0} (r : Result A E) → (P → Q) → OnOk r P → OnOk r Q
ok_map (Ok a) on has = on has
ok_map (Err e) on has = tt

pub ok_map2 : {A E : Type 0} {P R Q : Type 0} (r : Result A E) → (P → R → Q) → OnOk r P → OnOk r R → OnOk r Q
ok_map2 (Ok a) on first second = on first second
ok_map2 (Err e) on first second = tt

pub some_map : (o : Option ℕ) {P Q : ℕ → Type 0} → ((i : ℕ) → P i → Q i) → IfSome o P → IfSome o Q
some_map None on has = tt
some_map (Some i) on has = on i has

-- what stays in one move and the next stays
pub stays_then : (f h g : Face) (s u t : Link) → Stays f h s u → Stays h g u t → Stays f g s t
stays_then f h g s u t first second = record {
  holds = second.holds;
  view_is = second.view_is ∙ first.view_is;
  outlines_are = second.outlines_are ∙ first.outlines_are;
  still = λ o quiet. second.still o (first.still o quiet);
}

-- an index that was handed over is flushed, and others stay so
pub still_after : (f g : Face) (index : ℕ) → IsFlushed f g index → g.last ≡ put f.last index (f.last index + 1) → FlushedStay f g
still_after f g index flushed last tables i was = by_index (i == index) refl
  where
    by_index : (b : Bool) → (i == index) ≡ b → HasFlushedAll g tables i
    by_index true is =
        let same : i ≡ index = eqb-true i index is in
        record {
          pending = ap (λ (p : ℕ → List Node). p i) flushed.pending ∙ ap (put f.pending index []) same ∙ put-same f.pending index [];
          batched =
              let now : g.last i ≡ f.last i + 1 = ap (λ (p : ℕ → ℕ). p i) last ∙ ap (put f.last index (f.last index + 1)) same ∙ put-same f.last index (f.last index + 1) ∙ ap (λ n. f.last n + 1) (sym same) in
              omega (arith, now, was.batched);
        }
    by_index false is =
        let other : i ≢ index = λ same. false≢true (sym is ∙ eq-eqb i index same) in
        record {
          pending = ap (λ (p : ℕ → List Node). p i) flushed.pending ∙ put-other f.pending index [] i other ∙ was.pending;
          batched =
              let now : g.last i ≡ f.last i = ap (λ (p : ℕ → ℕ). p i) last ∙ put-other f.last index (f.last index + 1) i other in
              omega (arith, now, was.batched);
        }

pub flushed_after : (f g : Face) (tables : SyncTables) (index : ℕ) → newest_of tables index ≤ f.last index + 1 → IsFlushed f g index → g.last ≡ put f.last index (f.last index + 1) → HasFlushedAll g tables index
flushed_after f g tables index low flushed last = record {
  pending = ap (λ (p : ℕ → List Node). p index) flushed.pending ∙ put-same f.pending index [];
  batched = let now : g.last index ≡ f.last index + 1 = ap (λ (p : ℕ → ℕ). p index) last ∙ put-same f.last index (f.last index + 1) in omega (arith, now, low);
}

pub handed_after : (f g : Face) (index number : ℕ) → number ≤ f.last index + 1 → g.last ≡ put f.last index (f.last index + 1) → number ≤ g.last index
handed_after f g index number low last =
    let now : g.last index ≡ f.last index + 1 = ap (λ (p : ℕ → ℕ). p index) last ∙ put-same f.last index (f.last index + 1) in omega (arith, now, low)

-- what is pending in the current context is handed over for the reason that is given
pub own_flush : (f : Face) (group : GroupState) (serials : Entries ℕ) (thread index : ℕ) (why : Reason) → current_index group serials thread ≡ Some index → (batch : Batch) → IsFlushOf f index why batch →
    IsOfCurrent group serials thread why batch
own_flush f group serials thread index why current batch is = record { current = current ∙ ap Some (sym is.of_index); for_reason = is.for_reason }

-- Loads

pub anew_then : (a b c : Option Asked) (index : ℕ) → Loads a b index → AskedRises b c → AskedAnew a c
anew_then None b None index loads rises = refl
anew_then None b (Some c) index loads rises = by_none b loads rises
  where
    by_none : (b : Option Asked) → b ≡ None → AskedRises b (Some c) → Some c ≡ None
    by_none None is rises = absurd rises
    by_none (Some b) is rises = let bad : ⊥ = cc in absurd bad
anew_then (Some a) None c index loads rises = absurd loads
anew_then (Some a) (Some b) None index loads rises = absurd rises
anew_then (Some a) (Some b) (Some c) index loads rises = omega (arith, loads.0, rises)

pub last_load : (a b : Option Asked) (index : ℕ) → Loads a b index → IsLastLoad b index
last_load None None index loads = tt
last_load None (Some b) index loads = let bad : ⊥ = cc in absurd bad
last_load (Some a) None index loads = absurd loads
last_load (Some a) (Some b) index loads = loads.1

asked_same : (a : Option Asked) → AskedRises a a
asked_same None = tt
asked_same (Some a) = omega arith

-- the number is known from then on
pub known_from : (s u : Link) (index number : ℕ) → Completes s u index number → u.done index ≡ number
known_from s u index number asks = ap (λ (l : Link). l.done index) asks.rest ∙ put-same s.done index number

-- a poll that found its sync signalled
pub found_signalled : (tables : SyncTables) (s u : Link) (x : SyncName) (timeout : ℕ) (serial : QueueSerial) (number : ℕ) → serial_at tables x ≡ Some serial → Completes s u serial.index number →
    serial.number ≤ number → nat_le serial.number number ≡ true → IsPoll tables s u x timeout true
found_signalled tables s u x timeout serial number at asks low is = record {
  polled = record {
    serial = serial;
    is = at;
    completed = number;
    told = asks.told;
    rises = asks.rises;
    loaded = anew_then s.asked u.asked u.asked serial.index asks.loaded (asked_same u.asked);
    at_once = λ none. (known_from s u serial.index number asks, last_load s.asked u.asked serial.index asks.loaded);
  };
  is_signalled = sym is;
  retired = λ waits. let known : u.done serial.index ≡ number = known_from s u serial.index number asks in omega (arith, known, low);
}

-- a poll that found its sync not signalled, and waited for it where the timeout is positive
pub found_unsignalled : (tables : SyncTables) (s u t : Link) (x : SyncName) (timeout : ℕ) (serial : QueueSerial) (number : ℕ) → serial_at tables x ≡ Some serial → Completes s u serial.index number →
    nat_le serial.number number ≡ false → number < serial.number → AskedRises u.asked t.asked → ((timeout ≡ 0 → ⊥) → serial.number ≤ t.done serial.index) → (timeout ≡ 0 → t.done ≡ u.done) → (timeout ≡ 0 → t.asked ≡ u.asked) →
    IsPoll tables s t x timeout false
found_unsignalled tables s u t x timeout serial number at asks is above rises retired known asked = record {
  polled = record {
    serial = serial;
    is = at;
    completed = number;
    told = asks.told;
    rises = asks.rises;
    loaded = anew_then s.asked u.asked t.asked serial.index asks.loaded rises;
    at_once = λ none. (ap (λ (d : ℕ → ℕ). d serial.index) (known (none above)) ∙ known_from s u serial.index number asks, subst (λ a. IsLastLoad a serial.index) (sym (asked (none above))) (last_load s.asked u.asked serial.index asks.loaded));
  };
  is_signalled = sym is;
  retired = λ waits. retired (waits refl);
}

-- a wait for a sync of this name
pub for_poll : (group : GroupState) (serials : Entries ℕ) (tables : SyncTables) (thread : ℕ) (x : SyncName) (serial : QueueSerial) (flush : Bool) (timeout : ℕ) → serial_at tables x ≡ Some serial →
    (batch : Batch) → IsForWait group serials thread serial flush timeout batch → IsForPoll group serials tables thread x flush timeout batch
for_poll group serials tables thread x serial flush timeout at batch (inl own) = inl own
for_poll group serials tables thread x serial flush timeout at batch (inr waited) = inr (serial, at, waited)
