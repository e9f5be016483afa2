-- Reading keeps a trace in order, line by line.
use Rattle.std.proofs.Common.{◌≡◌, ℕ, zero, suc, ◌<◌, ◌≤◌, ◌⊎◌, inl, inr, List, [], ◌∷◌, ◌++◌, length, Option, Some, None, refl, sym, ap, subst, ◌∙◌, arith, length-append, length-set}
use Rattle.std.specs.Prelude.{slice_get, slice_set}
use Rattle.std.proofs.lemmas.Option.{slice_get_within}
use Rattle.trace_text.specs.declared.trace.Line.{Line}
use Rattle.trace_text.specs.declared.phase.Phase.{Phase}
use Rattle.trace_text.specs.declared.phase.Phase.TheVariants as phase
use Rattle.trace_text.specs.Reading.{Plan, State, at_start}
use Rattle.trace_text.specs.Traces.{IsAfter, IsCallLine, IsThreadLine, IsBodyLine, IsPhaseLine, IsLine, AreLines, Spells}
use Rattle.trace_text.specs.Orders.{IsLineOf, HasLine, IsTrace}
use Rattle.trace_text.proofs.Steps.{some_is}

-- ---- places of lists

get_front : {X : Type 0} (xs ys : List X) (k : ℕ) (y : X) → slice_get xs k ≡ Some y → slice_get (xs ++ ys) k ≡ Some y
get_front [] ys k y e = absurd cc
get_front (x ∷ xs) ys zero y e = e
get_front (x ∷ xs) ys (suc k) y e = get_front xs ys k y e

get_last : {X : Type 0} (xs : List X) (x : X) → slice_get (xs ++ x ∷ []) (length xs) ≡ Some x
get_last [] x = refl
get_last (y ∷ ys) x = get_last ys x

abbrev IsPushed : {X : Type 0} → List X → X → ℕ → X → Type 0
IsPushed xs x k y = ((k < length xs) × (slice_get xs k ≡ Some y)) ⊎ ((k ≡ length xs) × (x ≡ y))

get_push : {X : Type 0} (xs : List X) (x : X) (k : ℕ) (y : X) → slice_get (xs ++ x ∷ []) k ≡ Some y → IsPushed xs x k y
get_push [] x zero y e = inr (refl, some_is x y e)
get_push [] x (suc k) y e = absurd cc
get_push (z ∷ zs) x zero y e = inl (omega arith, e)
get_push (z ∷ zs) x (suc k) y e = go (get_push zs x k y e)
  where
    go : IsPushed zs x k y → IsPushed (z ∷ zs) x (suc k) y
    go (inl h) = inl (omega (arith, h.0), h.1)
    go (inr h) = inr (ap suc h.0, h.1)

abbrev IsReplaced : {X : Type 0} → List X → ℕ → X → ℕ → X → Type 0
IsReplaced xs i x k y = ((k ≡ i) × (x ≡ y)) ⊎ (slice_get xs k ≡ Some y)

get_set : {X : Type 0} (xs : List X) (i : ℕ) (x : X) (k : ℕ) (y : X) → slice_get (slice_set xs i x) k ≡ Some y → IsReplaced xs i x k y
get_set [] i x k y e = absurd cc
get_set (z ∷ zs) zero x zero y e = inl (refl, some_is x y e)
get_set (z ∷ zs) zero x (suc k) y e = inr e
get_set (z ∷ zs) (suc i) x zero y e = inr e
get_set (z ∷ zs) (suc i) x (suc k) y e = go (get_set zs i x k y e)
  where
    go : IsReplaced zs i x k y → IsReplaced (z ∷ zs) (suc i) x (suc k) y
    go (inl h) = inl (ap suc h.0, h.1)
    go (inr h) = inr h

get_set_same : {X : Type 0} (xs : List X) (i : ℕ) (x y : X) → slice_get xs i ≡ Some y → slice_get (slice_set xs i x) i ≡ Some x
get_set_same [] i x y e = absurd cc
get_set_same (z ∷ zs) zero x y e = refl
get_set_same (z ∷ zs) (suc i) x y e = get_set_same zs i x y e

-- ---- what holds while a text is read

-- The trace so far is in order, and for each line number the group of its call is known.
pub record AreInOrder (threads : List Plan) (owners : List (Option ℕ)) : Type 0 where
  pub trace : IsTrace threads
  pub owned : (thread place : ℕ) (line : Line) (is : IsLineOf threads thread place line) → slice_get owners line.number ≡ Some (Some is.plan.group)
  pub owners_are : (number group : ℕ) → slice_get owners number ≡ Some (Some group) → HasLine threads group number

no_plan : (thread : ℕ) (plan : Plan) → slice_get {X = Plan} [] thread ≡ Some plan → ⊥
no_plan thread plan e = absurd cc

no_line : (thread place : ℕ) (line : Line) → IsLineOf [] thread place line → ⊥
no_line thread place line h = no_plan thread h.plan h.is_thread

abbrev unowned : Option ℕ
unowned = None

no_owner : (number group : ℕ) → slice_get (unowned ∷ []) number ≡ Some (Some group) → HasLine [] group number
no_owner zero group e = absurd cc
no_owner (suc number) group e = absurd cc

start_in_order : AreInOrder [] (unowned ∷ [])
start_in_order = record {
  trace = record {
    few = omega arith;
    low = λ thread plan e. absurd (no_plan thread plan e);
    rises = λ thread i j a b ha hb lt. absurd (no_line thread i a ha);
    apart = λ t u i j a b ha hb e. absurd (no_line t i a ha);
    waits = λ thread place number line h e. absurd (no_line thread place line h);
  };
  owned = λ thread place line h. absurd (no_line thread place line h);
  owners_are = no_owner;
}

-- ---- a line without a call

not_owned : (owners : List (Option ℕ)) (number group : ℕ) → slice_get (owners ++ unowned ∷ []) number ≡ Some (Some group) → slice_get owners number ≡ Some (Some group)
not_owned owners number group e = go (get_push owners unowned number (Some group) e)
  where
    go : IsPushed owners unowned number (Some group) → slice_get owners number ≡ Some (Some group)
    go (inl h) = h.1
    go (inr h) = let never : unowned ≡ Some group = h.1 in absurd cc

passed_in_order : (threads : List Plan) (owners : List (Option ℕ)) → AreInOrder threads owners → AreInOrder threads (owners ++ unowned ∷ [])
passed_in_order threads owners h = record {
  trace = h.trace;
  owned = λ thread place line is. get_front owners (unowned ∷ []) line.number (Some is.plan.group) (h.owned thread place line is);
  owners_are = λ number group e. h.owners_are number group (not_owned owners number group e);
}

-- a line of a thread, with the thread's group
pub record IsInGroup (threads : List Plan) (thread place : ℕ) (line : Line) (group : ℕ) : Type 0 where
  pub is_line : IsLineOf threads thread place line
  pub in_group : is_line.plan.group ≡ group

-- ---- the line of a thread

abbrev new_plan : ℕ → Plan
new_plan group = record { group = group; lines = [] }

-- the threads with one more, which has no lines so far
abbrev with_thread : List Plan → ℕ → List Plan
with_thread threads group = threads ++ new_plan group ∷ []

no_place : (lines : List Line) (place : ℕ) (line : Line) → lines ≡ [] → slice_get lines place ≡ Some line → ⊥
no_place [] place line none e = absurd cc
no_place (x ∷ xs) place line none e = absurd cc

shorter : (threads : List Plan) (group thread place : ℕ) (line : Line) (h : IsLineOf (with_thread threads group) thread place line) → IsInGroup threads thread place line h.plan.group
shorter threads group thread place line h = go (get_push threads (new_plan group) thread h.plan h.is_thread)
  where
    go : IsPushed threads (new_plan group) thread h.plan → IsInGroup threads thread place line h.plan.group
    go (inl e) = record { is_line = record { plan = h.plan; is_thread = e.1; is_line = h.is_line }; in_group = refl }
    go (inr e) = absurd (no_place h.plan.lines place line (ap (λ (p : Plan). p.lines) (sym e.1)) h.is_line)

longer : (threads : List Plan) (group g number : ℕ) → HasLine threads g number → HasLine (with_thread threads group) g number
longer threads group g number h = record {
  thread = h.thread;
  place = h.place;
  line = h.line;
  is = record { plan = h.is.plan; is_thread = get_front threads (new_plan group ∷ []) h.thread h.is.plan h.is.is_thread; is_line = h.is.is_line };
  of_group = h.of_group;
  numbered = h.numbered;
}

few_more : (threads : List Plan) (group : ℕ) → length threads < 16 → length (with_thread threads group) ≤ 16
few_more threads group few = rw length-append (omega arith)

thread_in_order : (threads : List Plan) (owners : List (Option ℕ)) (group : ℕ) → AreInOrder threads owners → length threads < 16 → group ≤ 7 → AreInOrder (with_thread threads group) (owners ++ unowned ∷ [])
thread_in_order threads owners group h few small = record {
  trace = record {
    few = few_more threads group few;
    low = λ thread plan e. low thread plan (get_push threads (new_plan group) thread plan e);
    rises = λ thread i j a b ha hb lt. h.trace.rises thread i j a b (shorter threads group thread i a ha).is_line (shorter threads group thread j b hb).is_line lt;
    apart = λ t u i j a b ha hb e. h.trace.apart t u i j a b (shorter threads group t i a ha).is_line (shorter threads group u j b hb).is_line e;
    waits = λ thread place number line is e.
        let old = shorter threads group thread place line is in
        let found = h.trace.waits thread place number line old.is_line e in
        (found.0, longer threads group is.plan.group number (subst (λ (g : ℕ). HasLine threads g number) old.in_group found.1));
  };
  owned = λ thread place line is.
      let old = shorter threads group thread place line is in
      get_front owners (unowned ∷ []) line.number (Some is.plan.group) (subst (λ (g : ℕ). slice_get owners line.number ≡ Some (Some g)) old.in_group (h.owned thread place line old.is_line));
  owners_are = λ number g e. longer threads group g number (h.owners_are number g (not_owned owners number g e));
}
  where
    low : (thread : ℕ) (plan : Plan) → IsPushed threads (new_plan group) thread plan → plan.group < 8
    low thread plan (inl e) = h.trace.low thread plan e.1
    low thread plan (inr e) = let same : group ≡ plan.group = ap (λ (p : Plan). p.group) e.1 in omega (arith, same, small)

-- ---- the line of a call

abbrev longer_plan : Plan → Line → Plan
longer_plan plan line = record { group = plan.group; lines = plan.lines ++ line ∷ [] }

abbrev with_call : List Plan → ℕ → Plan → Line → List Plan
with_call threads thread plan line = slice_set threads thread (longer_plan plan line)

-- a thread has the lines that it had, and is of the same group
pub record HasGrown (threads : List Plan) (u : ℕ) (old : Plan) : Type 0 where
  pub plan : Plan
  pub is_thread : slice_get threads u ≡ Some plan
  pub group : plan.group ≡ old.group
  pub lines : (k : ℕ) (a : Line) → slice_get old.lines k ≡ Some a → slice_get plan.lines k ≡ Some a

grown : (threads : List Plan) (thread : ℕ) (plan : Plan) (line : Line) (u : ℕ) (old : Plan) → slice_get threads thread ≡ Some plan → slice_get threads u ≡ Some old → HasGrown (with_call threads thread plan line) u old
grown [] thread plan line u old is e = absurd cc
grown (t ∷ ts) zero plan line zero old is e =
    let same : plan ≡ old = sym (some_is t plan is) ∙ some_is t old e in
    record {
      plan = longer_plan plan line;
      is_thread = refl;
      group = ap (λ (p : Plan). p.group) same;
      lines = λ k a at. get_front plan.lines (line ∷ []) k a (subst (λ (p : Plan). slice_get p.lines k ≡ Some a) (sym same) at);
    }
grown (t ∷ ts) zero plan line (suc u) old is e = record { plan = old; is_thread = e; group = refl; lines = λ k a at. at }
grown (t ∷ ts) (suc thread) plan line zero old is e = record { plan = old; is_thread = e; group = refl; lines = λ k a at. at }
grown (t ∷ ts) (suc thread) plan line (suc u) old is e =
    let later = grown ts thread plan line u old is e in
    record { plan = later.plan; is_thread = later.is_thread; group = later.group; lines = later.lines }

still_has : (threads : List Plan) (thread : ℕ) (plan : Plan) (line : Line) (g number : ℕ) → slice_get threads thread ≡ Some plan → HasLine threads g number → HasLine (with_call threads thread plan line) g number
still_has threads thread plan line g number is h =
    let now = grown threads thread plan line h.thread h.is.plan is h.is.is_thread in
    record {
      thread = h.thread;
      place = h.place;
      line = h.line;
      is = record { plan = now.plan; is_thread = now.is_thread; is_line = now.lines h.place h.line h.is.is_line };
      of_group = now.group ∙ h.of_group;
      numbered = h.numbered;
    }

-- the new line itself
pub record IsNewLine (thread : ℕ) (plan : Plan) (line : Line) (u place : ℕ) (a : Line) (group : ℕ) : Type 0 where
  pub thread_is : u ≡ thread
  pub place_is : place ≡ length plan.lines
  pub line_is : line ≡ a
  pub in_group : plan.group ≡ group

abbrev IsOldOrNew : List Plan → ℕ → Plan → Line → ℕ → ℕ → Line → ℕ → Type 0
IsOldOrNew threads thread plan line u place a group = IsInGroup threads u place a group ⊎ IsNewLine thread plan line u place a group

line_cases : (threads : List Plan) (thread : ℕ) (plan : Plan) (line : Line) (u place : ℕ) (a : Line) → slice_get threads thread ≡ Some plan → (h : IsLineOf (with_call threads thread plan line) u place a)
    → IsOldOrNew threads thread plan line u place a h.plan.group
line_cases threads thread plan line u place a is h = go (get_set threads thread (longer_plan plan line) u h.plan h.is_thread)
  where
    here : u ≡ thread → longer_plan plan line ≡ h.plan → IsPushed plan.lines line place a → IsOldOrNew threads thread plan line u place a h.plan.group
    here at same (inl e) = inl (record {
      is_line = record { plan = plan; is_thread = ap (slice_get threads) at ∙ is; is_line = e.1 };
      in_group = ap (λ (p : Plan). p.group) same;
    })
    here at same (inr e) = inr (record { thread_is = at; place_is = e.0; line_is = e.1; in_group = ap (λ (p : Plan). p.group) same })

    go : IsReplaced threads thread (longer_plan plan line) u h.plan → IsOldOrNew threads thread plan line u place a h.plan.group
    go (inl e) = here e.0 e.1 (get_push plan.lines line place a (subst (λ (p : Plan). slice_get p.lines place ≡ Some a) (sym e.1) h.is_line))
    go (inr e) = inl (record { is_line = record { plan = h.plan; is_thread = e; is_line = h.is_line }; in_group = refl })

-- a line that a call may come after
abbrev MayComeAfter : List (Option ℕ) → ℕ → Option ℕ → Type 0
MayComeAfter owners group after = (n : ℕ) → after ≡ Some n → slice_get owners n ≡ Some (Some group)

call_in_order : (threads : List Plan) (owners : List (Option ℕ)) (thread : ℕ) (plan : Plan) (line : Line) → AreInOrder threads owners → slice_get threads thread ≡ Some plan
    → line.number ≡ length owners → MayComeAfter owners plan.group line.after → AreInOrder (with_call threads thread plan line) (owners ++ Some plan.group ∷ [])
call_in_order threads owners thread plan line h is number after = record {
  trace = record {
    few = rw length-set h.trace.few;
    low = λ u new e. low u new (get_set threads thread (longer_plan plan line) u new e);
    rises = λ u i j a b ha hb lt. rises u i j a b ha.plan.group hb.plan.group lt (line_cases threads thread plan line u i a is ha) (line_cases threads thread plan line u j b is hb);
    apart = λ t u i j a b ha hb e. apart t u i j a b ha.plan.group hb.plan.group e (line_cases threads thread plan line t i a is ha) (line_cases threads thread plan line u j b is hb);
    waits = λ u i n a ha e. waits u i n a ha.plan.group e (line_cases threads thread plan line u i a is ha);
  };
  owned = λ u i a ha. owned u i a ha.plan.group (line_cases threads thread plan line u i a is ha);
  owners_are = λ n g e. owners_are n g (get_push owners (Some plan.group) n (Some g) e);
}
  where
    -- the lines so far have lesser numbers
    less : (u i : ℕ) (a : Line) → IsLineOf threads u i a → a.number < line.number
    less u i a ha = let within : a.number < length owners = slice_get_within owners a.number (Some ha.plan.group) (h.owned u i a ha) in omega (arith, within, number)

    number_is : (a : Line) → line ≡ a → line.number ≡ a.number
    number_is a same = ap (λ (x : Line). x.number) same

    low : (u : ℕ) (new : Plan) → IsReplaced threads thread (longer_plan plan line) u new → new.group < 8
    low u new (inl e) = subst (λ (p : Plan). p.group < 8) e.1 (h.trace.low thread plan is)
    low u new (inr e) = h.trace.low u new e

    -- of the thread's own lines, those so far stand before the new one
    before : (u i : ℕ) (a : Line) → u ≡ thread → IsLineOf threads u i a → i < length plan.lines
    before u i a at ha =
        let same : ha.plan ≡ plan = some_is ha.plan plan (sym ha.is_thread ∙ ap (slice_get threads) at ∙ is) in
        slice_get_within plan.lines i a (subst (λ (p : Plan). slice_get p.lines i ≡ Some a) same ha.is_line)

    rises : (u i j : ℕ) (a b : Line) (g k : ℕ) → i < j → IsOldOrNew threads thread plan line u i a g → IsOldOrNew threads thread plan line u j b k → a.number < b.number
    rises u i j a b g k lt (inl x) (inl y) = h.trace.rises u i j a b x.is_line y.is_line lt
    rises u i j a b g k lt (inl x) (inr y) = subst (λ (z : Line). a.number < z.number) y.line_is (less u i a x.is_line)
    rises u i j a b g k lt (inr x) (inl y) =
        let short : j < length plan.lines = before u j b x.thread_is y.is_line in
        let at : i ≡ length plan.lines = x.place_is in absurd (omega (arith, lt, short, at))
    rises u i j a b g k lt (inr x) (inr y) =
        let at : i ≡ length plan.lines = x.place_is in
        let also : j ≡ length plan.lines = y.place_is in absurd (omega (arith, lt, at, also))

    not_new : (u i : ℕ) (a b : Line) → IsLineOf threads u i a → line ≡ b → a.number ≡ b.number → ⊥
    not_new u i a b ha same e =
        let lt : a.number < line.number = less u i a ha in
        let at : line.number ≡ b.number = number_is b same in omega (arith, lt, at, e)

    apart : (t u i j : ℕ) (a b : Line) (g k : ℕ) → a.number ≡ b.number → IsOldOrNew threads thread plan line t i a g → IsOldOrNew threads thread plan line u j b k → t ≡ u
    apart t u i j a b g k e (inl x) (inl y) = h.trace.apart t u i j a b x.is_line y.is_line e
    apart t u i j a b g k e (inl x) (inr y) = absurd (not_new t i a b x.is_line y.line_is e)
    apart t u i j a b g k e (inr x) (inl y) = absurd (not_new u j b a y.is_line x.line_is (sym e))
    apart t u i j a b g k e (inr x) (inr y) = x.thread_is ∙ sym y.thread_is

    waits : (u i n : ℕ) (a : Line) (g : ℕ) → a.after ≡ Some n → IsOldOrNew threads thread plan line u i a g → (n < a.number) × HasLine (with_call threads thread plan line) g n
    waits u i n a g e (inl x) =
        let found = h.trace.waits u i n a x.is_line e in
        (found.0, still_has threads thread plan line g n is (subst (λ (m : ℕ). HasLine threads m n) x.in_group found.1))
    waits u i n a g e (inr x) =
        let at : slice_get owners n ≡ Some (Some plan.group) = after n (ap (λ (y : Line). y.after) x.line_is ∙ e) in
        let within : n < length owners = slice_get_within owners n (Some plan.group) at in
        let same : line.number ≡ a.number = number_is a x.line_is in
        (omega (arith, within, number, same), still_has threads thread plan line g n is (subst (λ (m : ℕ). HasLine threads m n) x.in_group (h.owners_are n plan.group at)))

    owned : (u i : ℕ) (a : Line) (g : ℕ) → IsOldOrNew threads thread plan line u i a g → slice_get (owners ++ Some plan.group ∷ []) a.number ≡ Some (Some g)
    owned u i a g (inl x) =
        get_front owners (Some plan.group ∷ []) a.number (Some g) (subst (λ (m : ℕ). slice_get owners a.number ≡ Some (Some m)) x.in_group (h.owned u i a x.is_line))
    owned u i a g (inr x) =
        let place : a.number ≡ length owners = sym (number_is a x.line_is) ∙ number in
        ap (slice_get (owners ++ Some plan.group ∷ [])) place ∙ get_last owners (Some plan.group) ∙ ap (λ (m : ℕ). Some (Some m)) x.in_group

    owners_are : (n g : ℕ) → IsPushed owners (Some plan.group) n (Some g) → HasLine (with_call threads thread plan line) g n
    owners_are n g (inl e) = still_has threads thread plan line g n is (h.owners_are n g e.1)
    owners_are n g (inr e) = record {
      thread = thread;
      place = length plan.lines;
      line = line;
      is = record { plan = longer_plan plan line; is_thread = get_set_same threads thread (longer_plan plan line) plan is; is_line = get_last plan.lines line };
      of_group = some_is plan.group g e.1;
      numbered = number ∙ sym e.0;
    }

-- ---- any line

abbrev IsKept : State → Type 0
IsKept s = AreInOrder s.threads s.owners

may_come_after : (s : State) (group : ℕ) (after : Option ℕ) → IsAfter s group after → MayComeAfter s.owners group after
may_come_after s group None h n e = absurd cc
may_come_after s group (Some m) h n e = ap (slice_get s.owners) (sym (some_is m n e)) ∙ h.1

call_keeps : (s t : State) (words : List (List ℕ)) → IsKept s → IsCallLine s words t → IsKept t
call_keeps s t words kept h = subst IsKept (sym h.new)
    (call_in_order s.threads s.owners h.thread h.plan (record { number = length s.owners; after = h.after; call = h.call }) kept h.is_thread refl (may_come_after s h.plan.group h.after h.is_after))

thread_keeps : (s t : State) (line : List ℕ) → IsKept s → IsThreadLine s line t → IsKept t
thread_keeps s t line kept h = subst IsKept (sym h.new) (thread_in_order s.threads s.owners h.group kept h.threads_fit h.group_fits)

phase_keeps : (p : Phase) (s t : State) (line : List ℕ) → IsKept s → IsPhaseLine p s line t → IsKept t
phase_keeps phase.Start s t line kept h = subst IsKept (sym h.1) (passed_in_order s.threads s.owners kept)
phase_keeps phase.Header s t line kept (inl h) = subst IsKept (sym h.1) (passed_in_order s.threads s.owners kept)
phase_keeps phase.Header s t line kept (inr h) = thread_keeps s t line kept h
phase_keeps phase.Body s t line kept h = body h.0 h.2
  where
    body : (words : List (List ℕ)) → IsBodyLine s words t → IsKept t
    body words (inl e) = subst IsKept (sym e.1) (passed_in_order s.threads s.owners kept)
    body words (inr e) = call_keeps s t words kept e
phase_keeps phase.Ended s t line kept h = absurd h

line_keeps : (s t : State) (line : List ℕ) → IsKept s → IsLine s line t → IsKept t
line_keeps s t line kept (inl h) = subst IsKept (sym h.1) (passed_in_order s.threads s.owners kept)
line_keeps s t line kept (inr h) = phase_keeps s.phase s t line kept h.2

lines_keep : (s t : State) (lines : List (List ℕ)) → IsKept s → AreLines s lines t → IsKept t
lines_keep s t [] kept h = subst IsKept h kept
lines_keep s t (line ∷ lines) kept h = lines_keep h.0 t lines (line_keeps s h.0 line kept h.1) h.2

pub Spells-order : (text : List ℕ) (threads : List Plan) → Spells text threads → IsTrace threads
Spells-order text threads h = subst IsTrace h.threads_are (lines_keep at_start h.last h.lines start_in_order h.are_lines).trace
