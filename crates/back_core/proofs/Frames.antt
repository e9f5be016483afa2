-- What calls in turn did at the back is one thing that was done there.
use Rattle.std.proofs.Common.{◌≡◌, ℕ, ◌+◌, ◌≤◌, ◌==◌, Bool, true, false, cond, List, [], ◌∷◌, ◌++◌, length, refl, sym, ap, ◌∙◌, subst, inl, inr, zero-add, arith}
use Rattle.std.specs.Prelude.{◌⊎◌, All, Option, Some, None}
use Rattle.std.proofs.lemmas.Bool.{cases_eq, cond-true, cond-false, eq-eqb, eqb-true, ne_eqb, false≢true}
use Rattle.std.proofs.lemmas.List.{append-nil, append_assoc}
use Rattle.std.proofs.lemmas.List.Elements.{All-nil, All-cons, All-append, All-weaker, All-same}
use Rattle.std.proofs.lemmas.List.Sums.{fold-append, sum-map, sum_by-append}
use Rattle.std.proofs.lemmas.List.Concat.{flat_map-append}
use Rattle.vk_types.specs.declared.handles.Kind.{Kind}
use Rattle.vk_types.specs.declared.batches.Batch.{Batch}
use Rattle.vk_types.specs.declared.batches.QueueSerial.{QueueSerial}
use Rattle.back_core.specs.declared.back_event.BackEvent.{BackEvent}
use Rattle.submit_queue.specs.Histories.{last_number}
use Rattle.back_core.specs.Own.{Own, HostWrote, Enqueued, HostRead, batch_by, batches_of, next_number}
use Rattle.back_core.specs.Link.{Asked, Link, put, created, wrote, enqueued, fetched, gave, abandoned}
use Rattle.back_core.specs.Answers.{Learns, Completes, AskedRises, Loads}
use Rattle.back_core.specs.Frame.{written_by, uploaded, IsPartOf, GoesOn, IsGoing, NoBatch, AtBack}

-- What happened goes on

pub goes_on_then : (g : ℕ) (h k l : Option (List BackEvent)) → GoesOn g h k → GoesOn g k l → GoesOn g h l
goes_on_then g None None l first second = second
goes_on_then g None (Some k) l first second = absurd (cc first)
goes_on_then g (Some h) None l first second = absurd first
goes_on_then g (Some h) (Some k) None first second = absurd second
goes_on_then g (Some h) (Some k) (Some l) first second =
    (first.0 ++ second.0, second.1 ∙ ap (λ x. x ++ second.0) first.1 ∙ append_assoc h first.0 second.0, All-append (IsPartOf g) first.0 second.0 first.2 second.2)

-- The bytes of host writes

pub uploaded_none : uploaded [] ≡ 0
unfolding uploaded
uploaded_none = refl

pub uploaded_one : (x : Own) → uploaded (x ∷ []) ≡ written_by x
unfolding uploaded
uploaded_one x = zero-add (written_by x)

pub uploaded_append : (a b : List Own) → uploaded (a ++ b) ≡ uploaded a + uploaded b
unfolding uploaded
uploaded_append a b = omega (arith, sum-map written_by (a ++ b), sum_by-append written_by a b, sum-map written_by a, sum-map written_by b)

-- The numbers of batches, and loads

number_then : (xs : List Batch) (b : Batch) (i : ℕ) → last_number (xs ++ b ∷ []) i ≡ cond (b.index == i) b.number (last_number xs i)
number_then xs b i = fold-append (λ n (a : Batch). cond (a.index == i) a.number n) 0 xs (b ∷ [])

numbers_then : (mine : List Own) (b : Batch) → last_number (batches_of mine) b.index ≤ b.number → (i : ℕ) →
    last_number (batches_of mine) i ≤ last_number (batches_of (mine ++ Enqueued b ∷ [])) i
numbers_then mine b low i = rw (flat_map-append batch_by mine (Enqueued b ∷ [])) (rw (number_then (batches_of mine) b i) (by_index (b.index == i) refl))
  where
    by_index : (c : Bool) → (b.index == i) ≡ c → last_number (batches_of mine) i ≤ cond c b.number (last_number (batches_of mine) i)
    by_index true is = subst (λ n. last_number (batches_of mine) n ≤ b.number) (eqb-true b.index i is) low
    by_index false is = omega arith

-- an item without batches leaves the numbers
numbers_with : (mine : List Own) (x : Own) → batch_by x ≡ [] → (i : ℕ) → last_number (batches_of mine) i ≤ last_number (batches_of (mine ++ x ∷ [])) i
numbers_with mine x none i =
    rw (flat_map-append batch_by mine (x ∷ [])) (rw none (rw (append-nil (batches_of mine)) (omega arith)))

asked_same : (a : Option Asked) → AskedRises a a
asked_same None = tt
asked_same (Some a) = omega arith

loads_rise : (a b : Option Asked) (index : ℕ) → Loads a b index → AskedRises a b
loads_rise None None index loads = tt
loads_rise None (Some b) index loads = absurd (cc loads)
loads_rise (Some a) None index loads = loads
loads_rise (Some a) (Some b) index loads = omega (arith, loads.0)

asked_then : (a b c : Option Asked) → AskedRises a b → AskedRises b c → AskedRises a c
asked_then None None c first second = second
asked_then None (Some b) c first second = absurd first
asked_then (Some a) None c first second = absurd first
asked_then (Some a) (Some b) None first second = absurd second
asked_then (Some a) (Some b) (Some c) first second = omega (arith, first, second)

-- What a call did

pub no_batch : (MayHand : Batch → Type 0) (batch : Batch) → NoBatch batch → MayHand batch
no_batch MayHand batch none = absurd none

-- a call that adds nothing to the group's list
quiet : (s t : Link) (h k : Option (List BackEvent)) → t.group ≡ s.group → t.mine ≡ s.mine → ((index : ℕ) → s.done index ≤ t.done index) → t.now ≡ s.now → AskedRises s.asked t.asked → GoesOn s.group h k → (IsGoing h → IsGoing k) → AtBack s t h k 0 false false NoBatch
quiet s t h k group mine known now asked on going = record {
  group = group;
  gained = [];
  grows = mine ∙ sym (append-nil s.mine);
  known = known;
  numbers = λ index. rw mine (omega arith);
  loaded = asked;
  still = λ no. now;
  uploads = omega (arith, uploaded_none);
  batches = All-nil NoBatch;
  goes_on = on;
  going = λ no. going;
}

pub nothing_done : (s t : Link) (h k : Option (List BackEvent)) → t ≡ s → GoesOn s.group h k → (IsGoing h → IsGoing k) → AtBack s t h k 0 false false NoBatch
nothing_done s t h k e on going =
    quiet s t h k (ap (λ (l : Link). l.group) e) (ap (λ (l : Link). l.mine) e) (λ index. subst (λ (l : Link). s.done index ≤ l.done index) (sym e) (omega arith)) (ap (λ (l : Link). l.now) e) (subst (λ (l : Link). AskedRises s.asked l.asked) (sym e) (asked_same s.asked)) on going

pub create_done : (s t : Link) (h k : Option (List BackEvent)) (id : ℕ) (kind : Kind) → t ≡ created s id kind → GoesOn s.group h k → (IsGoing h → IsGoing k) → AtBack s t h k 0 false false NoBatch
create_done s t h k id kind e on going =
    subst (λ (l : Link). AtBack s l h k 0 false false NoBatch) (sym e) (quiet s (created s id kind) h k refl refl (λ index. omega arith) refl (asked_same s.asked) on going)

pub give_done : (s t : Link) (h k : Option (List BackEvent)) (id : ℕ) (uses : List QueueSerial) → t ≡ gave s id uses → GoesOn s.group h k → (IsGoing h → IsGoing k) → AtBack s t h k 0 false false NoBatch
give_done s t h k id uses e on going =
    subst (λ (l : Link). AtBack s l h k 0 false false NoBatch) (sym e) (quiet s (gave s id uses) h k refl refl (λ index. omega arith) refl (asked_same s.asked) on going)

pub abandon_done : (s t : Link) (h k : Option (List BackEvent)) (id : ℕ) → t ≡ abandoned s id → GoesOn s.group h k → (IsGoing h → IsGoing k) → AtBack s t h k 0 false false NoBatch
abandon_done s t h k id e on going =
    subst (λ (l : Link). AtBack s l h k 0 false false NoBatch) (sym e) (quiet s (abandoned s id) h k refl refl (λ index. omega arith) refl (asked_same s.asked) on going)

-- a call that adds one item
one_more : (s : Link) (h k : Option (List BackEvent)) (x : Own) (due : ℕ) (MayHand : Batch → Type 0) → written_by x ≤ due → All MayHand (batches_of (x ∷ [])) →
    ((i : ℕ) → last_number (batches_of s.mine) i ≤ last_number (batches_of (s.mine ++ x ∷ [])) i) → GoesOn s.group h k → (IsGoing h → IsGoing k)
    → AtBack s (record s { mine = s.mine ++ x ∷ [] }) h k due false false MayHand
one_more s h k x due MayHand low may numbers on going = record {
  group = refl;
  gained = x ∷ [];
  grows = refl;
  known = λ index. omega arith;
  numbers = numbers;
  loaded = asked_same s.asked;
  still = λ no. refl;
  uploads = omega (arith, uploaded_one x, low);
  batches = may;
  goes_on = on;
  going = λ no. going;
}

pub write_done : (s t : Link) (h k : Option (List BackEvent)) (id at : ℕ) (bytes : List ℕ) → t ≡ wrote s id at bytes → GoesOn s.group h k → (IsGoing h → IsGoing k) → AtBack s t h k (length bytes) false false NoBatch
write_done s t h k id at bytes e on going =
    subst (λ (l : Link). AtBack s l h k (length bytes) false false NoBatch) (sym e) (one_more s h k (HostWrote id at bytes) (length bytes) NoBatch (omega arith) (All-nil NoBatch) (numbers_with s.mine (HostWrote id at bytes) refl) on going)

pub fetch_done : (s t : Link) (h k : Option (List BackEvent)) (id at : ℕ) (bytes : List ℕ) → t ≡ fetched s id at bytes → GoesOn s.group h k → (IsGoing h → IsGoing k) → AtBack s t h k 0 false false NoBatch
fetch_done s t h k id at bytes e on going =
    subst (λ (l : Link). AtBack s l h k 0 false false NoBatch) (sym e) (one_more s h k (HostRead id at bytes) 0 NoBatch (omega arith) (All-nil NoBatch) (numbers_with s.mine (HostRead id at bytes) refl) on going)

pub enqueue_done : (MayHand : Batch → Type 0) (s t : Link) (h k : Option (List BackEvent)) (batch : Batch) → MayHand batch → batch.number ≡ next_number s.mine batch.index → t ≡ enqueued s batch → GoesOn s.group h k → (IsGoing h → IsGoing k) → AtBack s t h k 0 false false MayHand
enqueue_done MayHand s t h k batch may next e on going =
    subst (λ (l : Link). AtBack s l h k 0 false false MayHand) (sym e) (one_more s h k (Enqueued batch) 0 MayHand (omega arith) (All-cons MayHand batch [] may (All-nil MayHand))
    (numbers_then s.mine batch (omega (arith, next))) on going)

risen : (s : Link) (index number : ℕ) → s.done index ≤ number → (i : ℕ) → (i ≡ index) ⊎ (i ≡ index → ⊥) → s.done i ≤ put s.done index number i
unfolding put
risen s index number low i (inl e) = rw (cond-true (i == index) number (s.done i) (eq-eqb i index e)) (subst (λ n. s.done n ≤ number) (sym e) low)
risen s index number low i (inr e) = rw (cond-false (i == index) number (s.done i) (ne_eqb i index e)) (omega arith)

pub ask_done : (s t : Link) (h k : Option (List BackEvent)) (index number : ℕ) → Completes s t index number → GoesOn s.group h k → (IsGoing h → IsGoing k) → AtBack s t h k 0 false false NoBatch
ask_done s t h k index number asks on going =
    quiet s t h k (ap (λ (l : Link). l.group) asks.rest) (ap (λ (l : Link). l.mine) asks.rest)
    (λ i. subst (λ (l : Link). s.done i ≤ l.done i) (sym asks.rest) (risen s index number asks.rises i (cases_eq i index))) (ap (λ (l : Link). l.now) asks.rest) (loads_rise s.asked t.asked index asks.loaded) on going

pub learn_done : (s t : Link) (h k : Option (List BackEvent)) → Learns s t → GoesOn s.group h k → (IsGoing h → IsGoing k) → AtBack s t h k 0 true false NoBatch
learn_done s t h k learns on going = record {
  group = ap (λ (l : Link). l.group) learns.rest;
  gained = [];
  grows = ap (λ (l : Link). l.mine) learns.rest ∙ sym (append-nil s.mine);
  known = learns.rises;
  numbers = λ index. rw (ap (λ (l : Link). l.mine) learns.rest) (omega arith);
  loaded = learns.loaded;
  still = λ no. absurd (false≢true (sym no));
  uploads = omega (arith, uploaded_none);
  batches = All-nil NoBatch;
  goes_on = on;
  going = λ no. going;
}

-- a call that ended by a stop, after which the group knows more or nothing more
pub stop_done : (s t : Link) (h k : Option (List BackEvent)) (w : Bool) → Learns s t → (w ≡ false → t.now ≡ s.now) → GoesOn s.group h k → AtBack s t h k 0 w true NoBatch
stop_done s t h k w learns same on = record {
  group = ap (λ (l : Link). l.group) learns.rest;
  gained = [];
  grows = ap (λ (l : Link). l.mine) learns.rest ∙ sym (append-nil s.mine);
  known = learns.rises;
  numbers = λ index. rw (ap (λ (l : Link). l.mine) learns.rest) (omega arith);
  loaded = learns.loaded;
  still = same;
  uploads = omega (arith, uploaded_none);
  batches = All-nil NoBatch;
  goes_on = on;
  going = λ no. absurd (false≢true (sym no));
}

-- nothing was done
pub goes_nowhere : (g : ℕ) (h : Option (List BackEvent)) → GoesOn g h h
goes_nowhere g None = refl
goes_nowhere g (Some h) = ([], sym (append-nil h), All-nil (IsPartOf g))

pub none_done : (s : Link) (h : Option (List BackEvent)) → AtBack s s h h 0 false false NoBatch
none_done s h = nothing_done s s h h refl (goes_nowhere s.group h) (λ was. was)

-- What was done in turn

still_then : (w v : Bool) (s t : Link) → (w ≡ true → v ≡ true) → (w ≡ false → t.now ≡ s.now) → v ≡ false → t.now ≡ s.now
still_then true v s t on same none = absurd (false≢true (sym none ∙ on refl))
still_then false v s t on same none = same refl

going_then : (w v : Bool) (h k : Option (List BackEvent)) → (w ≡ true → v ≡ true) → (w ≡ false → IsGoing h → IsGoing k) → v ≡ false → IsGoing h → IsGoing k
going_then true v h k on same none = absurd (false≢true (sym none ∙ on refl))
going_then false v h k on same none = same refl

-- what was due for less is due for more
pub within : {s t : Link} {h k : Option (List BackEvent)} {a : ℕ} {w x : Bool} {MayHand : Batch → Type 0} (due : ℕ) (waits stops : Bool) (MayHandToo : Batch → Type 0) →
    a ≤ due → (w ≡ true → waits ≡ true) → (x ≡ true → stops ≡ true) → ((batch : Batch) → MayHand batch → MayHandToo batch) →
    AtBack s t h k a w x MayHand → AtBack s t h k due waits stops MayHandToo
within {s} {t} {h} {k} {a} {w} {x} {MayHand} due waits stops MayHandToo low wait stop hand did = record {
  group = did.group;
  gained = did.gained;
  grows = did.grows;
  known = did.known;
  numbers = did.numbers;
  loaded = did.loaded;
  still = λ none. still_then w waits s t wait did.still none;
  uploads = omega (arith, did.uploads, low);
  batches = All-weaker MayHand MayHandToo hand (batches_of did.gained) did.batches;
  goes_on = did.goes_on;
  going = λ none. going_then x stops h k stop did.going none;
}

-- one thing after another
pub then_at_the_back : {s t u : Link} {h k l : Option (List BackEvent)} {a b : ℕ} {w x : Bool} {MayHand : Batch → Type 0} →
    AtBack s t h k a w x MayHand → AtBack t u k l b w x MayHand → AtBack s u h l (a + b) w x MayHand
then_at_the_back {s} {t} {u} {h} {k} {l} {a} {b} {w} {x} {MayHand} first second = record {
  group = second.group ∙ first.group;
  gained = first.gained ++ second.gained;
  grows = second.grows ∙ ap (λ m. m ++ second.gained) first.grows ∙ append_assoc s.mine first.gained second.gained;
  known = λ index. omega (arith, first.known index, second.known index);
  numbers = λ index. omega (arith, first.numbers index, second.numbers index);
  loaded = asked_then s.asked t.asked u.asked first.loaded second.loaded;
  still = λ no. second.still no ∙ first.still no;
  uploads = omega (arith, uploaded_append first.gained second.gained, first.uploads, second.uploads);
  batches = All-same MayHand (batches_of (first.gained ++ second.gained)) (batches_of first.gained ++ batches_of second.gained) (flat_map-append batch_by first.gained second.gained)
      (All-append MayHand (batches_of first.gained) (batches_of second.gained) first.batches second.batches);
  goes_on = goes_on_then s.group h k l first.goes_on (subst (λ g. GoesOn g k l) first.group second.goes_on);
  going = λ no was. second.going no (first.going no was);
}

-- one thing after another, where each may be due for less than both
pub then_within : {s t u : Link} {h k l : Option (List BackEvent)} {a b : ℕ} {w v x y : Bool} {First Second : Batch → Type 0} (due : ℕ) (waits stops : Bool) (MayHand : Batch → Type 0) →
    a + b ≤ due → (w ≡ true → waits ≡ true) → (v ≡ true → waits ≡ true) → (x ≡ true → stops ≡ true) → (y ≡ true → stops ≡ true) →
    ((batch : Batch) → First batch → MayHand batch) → ((batch : Batch) → Second batch → MayHand batch) →
    AtBack s t h k a w x First → AtBack t u k l b v y Second → AtBack s u h l due waits stops MayHand
then_within {s} {t} {u} {h} {k} {l} {a} {b} {w} {v} {x} {y} {First} {Second} due waits stops MayHand low one other stop stop_too hand hand_too first second =
    within due waits stops MayHand low (λ on. on) (λ on. on) (λ batch may. may)
    (then_at_the_back (within a waits stops MayHand (omega arith) one stop hand first) (within b waits stops MayHand (omega arith) other stop_too hand_too second))
