-- What moves did at the back, one after another.
use Rattle.std.proofs.Common.{◌≡◌, ℕ, ◌+◌, ◌≤◌, Bool, true, false, List, arith}
use Rattle.std.specs.Prelude.{Option}
use Rattle.std.proofs.lemmas.Bool.{false≢true}
use Rattle.vk_types.specs.declared.batches.Batch.{Batch}
use Rattle.back_core.specs.declared.back_event.BackEvent.{BackEvent}
use Rattle.back_core.specs.Link.{Link}
use Rattle.back_core.specs.Frame.{NoBatch, AtBack}
use Rattle.back_core.proofs.Frames.{none_done, within, then_within, no_batch}

never : (flag : Bool) → false ≡ true → flag ≡ true
never flag on = absurd (false≢true on)

-- nothing was done
pub did_nothing : (s : Link) (h : Option (List BackEvent)) {due : ℕ} {waits stops : Bool} {MayHand : Batch → Type 0} → AtBack s s h h due waits stops MayHand
did_nothing s h {due} {waits} {stops} {MayHand} = within due waits stops MayHand (omega arith) (never waits) (never stops) (no_batch MayHand) (none_done s h)

-- what was done for a reason was done for another, and so were more bytes due
pub did_for : {s t : Link} {h k : Option (List BackEvent)} {a due : ℕ} {w x : Bool} {First MayHand : Batch → Type 0} →
    a ≤ due → ((batch : Batch) → First batch → MayHand batch) → AtBack s t h k a w x First → AtBack s t h k due w x MayHand
did_for {s} {t} {h} {k} {a} {due} {w} {x} {First} {MayHand} low hand did = within due w x MayHand low (λ on. on) (λ on. on) hand did

-- what did not wait might have
pub might_wait : {s t : Link} {h k : Option (List BackEvent)} {due : ℕ} {waits x : Bool} {MayHand : Batch → Type 0} →
    AtBack s t h k due false x MayHand → AtBack s t h k due waits x MayHand
might_wait {s} {t} {h} {k} {due} {waits} {x} {MayHand} did = within due waits x MayHand (omega arith) (never waits) (λ on. on) (λ batch may. may) did

-- what was not stopped might have been
pub might_stop : {s t : Link} {h k : Option (List BackEvent)} {due : ℕ} {w stops : Bool} {MayHand : Batch → Type 0} →
    AtBack s t h k due w false MayHand → AtBack s t h k due w stops MayHand
might_stop {s} {t} {h} {k} {due} {w} {stops} {MayHand} did = within due w stops MayHand (omega arith) (λ on. on) (never stops) (λ batch may. may) did

-- a call that ended well, and then a call that ended as the whole did
pub good_then : {s t u : Link} {h k l : Option (List BackEvent)} {a b due : ℕ} {w y : Bool} {First Second MayHand : Batch → Type 0} →
    a + b ≤ due → ((batch : Batch) → First batch → MayHand batch) → ((batch : Batch) → Second batch → MayHand batch) →
    AtBack s t h k a w false First → AtBack t u k l b w y Second → AtBack s u h l due w y MayHand
good_then {s} {t} {u} {h} {k} {l} {a} {b} {due} {w} {y} {First} {Second} {MayHand} low hand hand_too first second =
    then_within due w y MayHand low (λ on. on) (λ on. on) (never y) (λ on. on) hand hand_too first second

-- a call that ended as the whole did, and then one that has no answer
pub then_quietly : {s t u : Link} {h k l : Option (List BackEvent)} {a b due : ℕ} {w x : Bool} {First Second MayHand : Batch → Type 0} →
    a + b ≤ due → ((batch : Batch) → First batch → MayHand batch) → ((batch : Batch) → Second batch → MayHand batch) →
    AtBack s t h k a w x First → AtBack t u k l b w false Second → AtBack s u h l due w x MayHand
then_quietly {s} {t} {u} {h} {k} {l} {a} {b} {due} {w} {x} {First} {Second} {MayHand} low hand hand_too first second =
    then_within due w x MayHand low (λ on. on) (λ on. on) (λ on. on) (never x) hand hand_too first second

-- a call that ended well and handed nothing over, and then a call that ended as the whole did
pub handless_then : {s t u : Link} {h k l : Option (List BackEvent)} {a b due : ℕ} {w y : Bool} {MayHand : Batch → Type 0} →
    a + b ≤ due → AtBack s t h k a w false NoBatch → AtBack t u k l b w y MayHand → AtBack s u h l due w y MayHand
handless_then {s} {t} {u} {h} {k} {l} {a} {b} {due} {w} {y} {MayHand} low first second = good_then low (no_batch MayHand) (λ batch may. may) first second

-- a call that ended well, and then a call that handed nothing over and ended as the whole did
pub then_handless : {s t u : Link} {h k l : Option (List BackEvent)} {a b due : ℕ} {w y : Bool} {MayHand : Batch → Type 0} →
    a + b ≤ due → AtBack s t h k a w false MayHand → AtBack t u k l b w y NoBatch → AtBack s u h l due w y MayHand
then_handless {s} {t} {u} {h} {k} {l} {a} {b} {due} {w} {y} {MayHand} low first second = good_then low (λ batch may. may) (no_batch MayHand) first second
