-- What a worker's turn adds to the entries, and what its loads give.
use Rattle.std.proofs.Common.{◌≡◌, ◌≢◌, ℕ, ◌+◌, ◌-◌, ◌<◌, ◌≤◌, ◌==◌, Bool, true, false, cond, List, [], ◌∷◌, ◌++◌, map, length, refl, sym, ap, ◌∙◌, subst, arith, get_or, set, get_or-set_same, get_or-set_other}
use Rattle.std.specs.Prelude.{Option, Some, None, Result, Ok, Err, IfOk, IfErr, IfSome, IfNone, slice_index, slice_set}
use Rattle.std.proofs.lemmas.List.{append_assoc}
use mathlib.Core.List.{IsPrefix}
use mathlib.Core.Logic.{dite}
use native.Mathlib.Decide.{ℕ_discrete}
use Rattle.vk_types.specs.declared.stops.Stop.{Stop}
use Rattle.vk_types.specs.declared.batches.QueueSerial.{QueueSerial}
use Rattle.vk_device.specs.declared.logged.Logged.{Logged}
use Rattle.vk_device.specs.declared.logged.Turned.{Turned}
use Rattle.vk_device.specs.declared.logged.Turned.TheVariants as turned
use Rattle.back_core.specs.declared.back_event.BackEvent.{BackEvent}
use Rattle.back_core.specs.declared.back_event.BackEvent.TheVariants as event
use Rattle.back_core.specs.declared.ending.Ending.TheVariants.{Stopped}
use Rattle.back_core.specs.declared.ending.Step.{Step}
use Rattle.back_core.specs.declared.ending.Step.TheVariants as step
use Rattle.back_core.specs.Link.{Link}
use Rattle.back_core.specs.History.{completed, IsOfOthers}
use Rattle.back_core.specs.Back.{BackModel, ending_of, is_running, is_stopped, closed_by, stopped_by}
use Rattle.back_core.specs.Steps.{Submits, Turns, RetiresOne, CleansUp, CleansSome}
use Rattle.back_core.proofs.Apart.{completed_later}
use Rattle.turnstile.specs.Histories.{greatest, added, NamesOnly}
use Rattle.turnstile.specs.Views.{PassModel}
use Rattle.turnstile.proofs.Laws.{begins_before, names_only_none, names_only_append, names_only_added}
use Rattle.shared_gpu.specs.declared.noted.Noted.{Noted}
use Rattle.shared_gpu.specs.declared.noted.Noted.TheVariants.{Happened}
use Rattle.shared_gpu.specs.Notes.{owner, names_of, notes_of, events_of, Adds}
use Rattle.shared_gpu.specs.Views.{SharedModel, back_of}
use Rattle.shared_gpu.specs.Turns.{InOneTurn, WereLoaded, StopsCleaning}
use Rattle.shared_gpu.proofs.Words.{shown_at, shown_counted}
use Rattle.shared_gpu.proofs.Links.{Others, events_noted, notes_more, adds_nothing, adds_stop}

-- Where a turn began

pub seen_then : (p t : PassModel Noted) (o o' : ℕ) (h : List BackEvent) → t ≡ record p { seen = notes_of o h; holds = true; words = t.words } → o' ≡ o → t.seen ≡ notes_of o' h
seen_then p t o o' h is kept = ap (λ (x : PassModel Noted). x.seen) is ∙ ap (λ k. notes_of k h) (sym kept)

-- What a turn has added

module _ (pass : PassModel Noted) (o : ℕ) (h new : List BackEvent) (seen : pass.seen ≡ notes_of o h) (shown : (index : ℕ) → index < 64 → slice_index pass.words (index + 1) ≡ completed h index) (others : Others) where
  pub adds_other : (e : BackEvent) → owner e ≡ None → IsOfOthers e 0 → new ≡ h ++ e ∷ [] → Adds pass o new
  adds_other e none other is = record {
    before = h;
    more = e ∷ [];
    seen_is = seen;
    is = is;
    names = names_only_none names_of pass.number (Happened e) none;
    numbers = ap completed is ∙ ap (λ (l : Link). l.done) (others h 0 e other);
    shown = shown;
  }

  pub adds_submit : (r : Result Step Stop) → IfOk r (λ x. Submits h new x) → IfErr r (λ s. new ≡ stopped_by h s) → Adds pass o new
  adds_submit (Ok step.Done) ok err = adds_other event.Submitted refl tt ok.0
  adds_submit (Ok step.Nothing) ok err = adds_nothing pass o h new seen shown ok.0
  adds_submit (Err s) ok err = adds_stop pass o h new seen shown others s err

  pub adds_turn : (r : Result Turned Stop) → IfOk r (λ x. Turns h new x) → IfErr r (λ s. new ≡ stopped_by h s) → Adds pass o new
  adds_turn (Ok (turned.Ran batch node)) ok err = adds_other (event.Ran batch node) refl tt ok.0
  adds_turn (Ok turned.Idle) ok err = adds_nothing pass o h new seen shown ok.0
  adds_turn (Err s) ok err = adds_stop pass o h new seen shown others s err

  pub adds_closing : new ≡ closed_by h → Adds pass o new
  adds_closing is = by_ending (is_running (ending_of h)) is
    where
      by_ending : (b : Bool) → new ≡ cond b (h ++ event.Closing ∷ []) h → Adds pass o new
      by_ending true more = adds_other event.Closing refl tt more
      by_ending false same = adds_nothing pass o h new seen shown same

  pub adds_cleaned : (read : List ℕ) (count : ℕ) → (b : Bool) → new ≡ cond b h (h ++ event.Cleaned read count ∷ []) → Adds pass o new
  adds_cleaned read count true same = adds_nothing pass o h new seen shown same
  adds_cleaned read count false more = adds_other (event.Cleaned read count) refl tt more

  pub adds_cleaned_stop : (read : List ℕ) (count : ℕ) (s : Stop) → new ≡ stopped_by (h ++ event.Cleaned read count ∷ []) s → Adds pass o new
  adds_cleaned_stop read count s is = by_ending (is_stopped (ending_of (h ++ e ∷ []))) is
    where
      e : BackEvent
      e = event.Cleaned read count

      by_ending : (b : Bool) → new ≡ cond b (h ++ e ∷ []) ((h ++ e ∷ []) ++ event.Stopped s ∷ []) → Adds pass o new
      by_ending true more = adds_other e refl tt more
      by_ending false more = record {
        before = h;
        more = e ∷ event.Stopped s ∷ [];
        seen_is = seen;
        is = more ∙ append_assoc h (e ∷ []) (event.Stopped s ∷ []);
        names = names_only_append names_of pass.number (Happened e ∷ []) (Happened (event.Stopped s) ∷ []) (names_only_none names_of pass.number (Happened e) refl) (names_only_none names_of pass.number (Happened (event.Stopped s)) refl);
        numbers = ap completed more ∙ (ap (λ (l : Link). l.done) (others (h ++ e ∷ []) 0 (event.Stopped s) tt) ∙ ap (λ (l : Link). l.done) (others h 0 e tt));
        shown = shown;
      }

pub adds_cleanup : {D : Type 0} (journal : D → List Logged) (pass : PassModel Noted) (old new : SharedModel D) (seen : pass.seen ≡ notes_of new.opened old.history) (shown : (index : ℕ) → index < 64 → slice_index pass.words (index + 1) ≡ completed old.history index) (others : Others)
    → (read : List ℕ) (r : Result ℕ Stop) → IfOk r (λ count. CleansUp journal (back_of old) (back_of new) read count) → IfErr r (λ s. StopsCleaning journal old new read s) → Adds pass new.opened new.history
adds_cleanup journal pass old new seen shown others read (Ok count) ok err = adds_cleaned pass new.opened old.history new.history seen shown others read count (count == 0) ok.history
adds_cleanup journal pass old new seen shown others read (Err s) ok err = by_ending (is_stopped (ending_of old.history)) refl
  where
    by_ending : (b : Bool) → is_stopped (ending_of old.history) ≡ b → Adds pass new.opened new.history
    by_ending true was = adds_nothing pass new.opened old.history new.history seen shown (ap (λ (m : SharedModel _). m.history) (err.unchanged was))
    by_ending false runs =
        let some = err.cleans runs in
        adds_cleaned_stop pass new.opened old.history new.history seen shown others read some.count s some.history

-- A retirement

pub retired_notes : (n o o' : ℕ) (h new : List BackEvent) (seen : List Noted) (serial : QueueSerial) → seen ≡ notes_of o' h → RetiresOne h new serial → IsPrefix seen (notes_of o' new) × NamesOnly names_of n (added seen (notes_of o' new))
retired_notes n o o' h new seen serial is some =
    let more : notes_of o' new ≡ notes_of o' h ++ Happened (event.Retired serial) ∷ [] = notes_more o' new h (event.Retired serial ∷ []) some.0 in (
      begins_before seen (notes_of o' h) (notes_of o' new) (Happened (event.Retired serial) ∷ []) is more,
      names_only_added names_of n seen (notes_of o' h) (notes_of o' new) (Happened (event.Retired serial) ∷ []) is more (names_only_none names_of n (Happened (event.Retired serial)) refl),
    )

pub retired_rises : (h new : List BackEvent) (serial : QueueSerial) → RetiresOne h new serial → (index : ℕ) → completed h index ≤ completed new index
retired_rises h new serial some index = subst (λ l. completed h index ≤ completed l index) (sym some.0) (completed_later h (event.Retired serial ∷ []) index)

-- the words tell the numbers, where one of them was published that differs
pub shown_one : (words : List ℕ) (at n : ℕ) (f k : ℕ → ℕ) → length words ≡ 66 → at < 64 → ((word : ℕ) → 0 < word → word < 65 → slice_index words word ≡ f (word - 1)) → k at ≡ n → ((index : ℕ) → index < 64 → index ≢ at → k index ≡ f index)
    → (word : ℕ) → 0 < word → word < 65 → slice_index (slice_set words (at + 1) n) word ≡ k (word - 1)
shown_one words at n f k wide inside shown here others word some low = dite (ℕ_discrete word (at + 1))
    (λ e. let back : word - 1 ≡ at = omega (arith, e) in ap (λ i. get_or (set words (at + 1) n) i 0) e ∙ (get_or-set_same words (at + 1) n 0 (omega arith) ∙ (sym here ∙ ap k (sym back))))
    (λ apart. get_or-set_other words (at + 1) word n 0 apart ∙ (shown word some low ∙ sym (others (word - 1) (omega arith) (λ e. apart (omega (arith, e))))))

-- the same after the turn was given back, with the number of entries in word 0
pub shown_retired : (words mid now : List ℕ) (at word m n : ℕ) (f k : ℕ → ℕ) → ((index : ℕ) → index < 64 → index ≢ at → k index ≡ f index) → length words ≡ 66 → ((word : ℕ) → 0 < word → word < 65 → slice_index words word ≡ f (word - 1))
    → mid ≡ slice_set words word m → now ≡ slice_set mid 0 n → at < 64 → word ≡ at + 1 → m ≡ k at → (index : ℕ) → index < 64 → slice_index now (index + 1) ≡ k index
shown_retired words mid now at word m n f k others wide shown published given low place number =
    let here : mid ≡ slice_set words (at + 1) (k at) = published ∙ (λ i. slice_set words (place i) (number i)) in
    shown_counted mid now n k given (shown_at mid k (λ w some high. ap (λ l. slice_index l w) here ∙ shown_one words at (k at) f k wide low shown refl others w some high))

pub retired_begins : (o o' : ℕ) (h new : List BackEvent) (serial : QueueSerial) → o' ≡ o → RetiresOne h new serial → IsPrefix (notes_of o h) (notes_of o' new)
retired_begins o o' h new serial kept some =
    begins_before (notes_of o h) (notes_of o' h) (notes_of o' new) (Happened (event.Retired serial) ∷ []) (ap (λ k. notes_of k h) (sym kept)) (notes_more o' new h (event.Retired serial ∷ []) some.0)

-- Loads

pub loaded_next : (read : List ℕ) (loads more : List (ℕ × ℕ)) (index n : ℕ) → length read ≡ 64 → index < 64 → ((k : ℕ) → k < index → slice_index read k ≡ greatest (k + 1) loads) → greatest (index + 1) more ≡ n
    → ((k : ℕ) → k ≢ index + 1 → greatest k more ≡ greatest k loads) → (k : ℕ) → k < index + 1 → slice_index (slice_set read index n) k ≡ greatest (k + 1) more
loaded_next read loads more index n wide low before here others k less = dite (ℕ_discrete k index)
    (λ e. ap (λ j. get_or (set read index n) j 0) e ∙ (get_or-set_same read index n 0 (omega arith) ∙ (sym here ∙ ap (λ j. greatest (j + 1) more) (sym e))))
    (λ apart. get_or-set_other read index k n 0 apart ∙ (before k (omega (arith, less, apart)) ∙ sym (others (k + 1) (λ s. apart (omega (arith, s))))))

pub were_read : (loads : List (ℕ × ℕ)) (f : ℕ → ℕ) (read : List ℕ) → WereLoaded loads read → ((word : ℕ) → 0 < word → word < 65 → greatest word loads ≤ f (word - 1)) → (index : ℕ) → index < 64 → slice_index read index ≤ f index
were_read loads f read were below index low =
    let back : (index + 1) - 1 ≡ index = omega arith in
    subst (λ n. n ≤ f index) (sym (were index low)) (subst (λ i. greatest (index + 1) loads ≤ f i) back (below (index + 1) (omega arith) (omega arith)))

-- What a turn did, by its answer

module _ {D : Type 0} (before now : PassModel Noted) (s t : SharedModel D) (begins : IsPrefix before.seen (notes_of s.opened s.history)) (seen : now.seen ≡ notes_of t.opened t.history)
    (shown : (index : ℕ) → index < 64 → slice_index now.words (index + 1) ≡ completed t.history index) (opened : t.opened ≡ s.opened) where
  pub in_one_turn : (Did : SharedModel D → SharedModel D → Type 0) → Did s t → InOneTurn D before now Did
  in_one_turn Did did = record { old = s; new = t; begins = begins; seen = seen; opened = opened; shown = shown; did = did }

  pub turn_ok : {T E : Type 0} (r : Result T E) (Did : T → SharedModel D → SharedModel D → Type 0) → IfOk r (λ x. Did x s t) → IfOk r (λ x. InOneTurn D before now (Did x))
  turn_ok (Ok x) Did did = in_one_turn (Did x) did
  turn_ok (Err e) Did did = did

  pub turn_err : {T E : Type 0} (r : Result T E) (Did : E → SharedModel D → SharedModel D → Type 0) → IfErr r (λ x. Did x s t) → IfErr r (λ x. InOneTurn D before now (Did x))
  turn_err (Ok x) Did did = did
  turn_err (Err e) Did did = in_one_turn (Did e) did

pub stopped_then : {T : Type 0} (q : PassModel Noted) (o : ℕ) (new : List BackEvent) (r : Result T Stop) → q.seen ≡ notes_of o new → IfErr r (λ s. ending_of new ≡ Stopped s) → IfErr r (λ s. ending_of (events_of q.seen) ≡ Stopped s)
stopped_then q o new (Ok x) seen first = first
stopped_then q o new (Err s) seen first = ap ending_of (ap events_of seen ∙ events_noted o new) ∙ first

-- loads after loads
pub loads_grow : (i p q : PassModel Noted) (more : List (ℕ × ℕ)) → p ≡ record i { loads = p.loads } → q ≡ record p { loads = more } → q ≡ record i { loads = q.loads }
loads_grow i p q more before is =
    subst (λ l. q ≡ record p { loads = l }) (sym (ap (λ (x : PassModel Noted). x.loads) is)) is
    ∙ ap (λ (x : PassModel Noted). record x { loads = q.loads }) before
