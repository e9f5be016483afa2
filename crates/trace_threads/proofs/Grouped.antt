-- From what the passes of a group have made to what its threads have played.
use Rattle.std.proofs.Common.{◌≡◌, ◌≢◌, ℕ, zero, suc, ◌+◌, ◌<◌, ◌≤◌, Bool, true, false, cond, List, [], ◌∷◌, ◌++◌, length, map, refl, sym, ap, ◌∙◌, subst, inl, inr, arith, eq-eqb}
use Rattle.std.specs.Prelude.{◌⊎◌, ◌==◌, slice_get, Some, Contains}
use Rattle.std.specs.List.{All, filter}
use Rattle.std.proofs.lemmas.Bool.{cases_Bool, cases_eq, ne_eqb, eqb-true, cond-true, cond-false, false≢true}
use Rattle.std.proofs.lemmas.List.{map-append}
use Rattle.std.proofs.lemmas.List.Elements.{All-head, All-tail}
use Rattle.std.proofs.lemmas.Option.{same_Some, none-some}
use Rattle.turnstile.proofs.Lists.{contains_none, contains_cases}
use Rattle.gl_calls.specs.declared.reply.Entry.{Entry}
use Rattle.gl_model.specs.Legal.{IsLegal}
use Rattle.trace_text.specs.declared.trace.Line.{Line}
use Rattle.trace_text.specs.Reading.{Plan}
use Rattle.play_model.specs.Plays.{StandBehind, IsBehind, asked_by, asked_on, entries_of, is_answered, members, members_from}
use Rattle.turnstile.specs.Histories.{own}
use Rattle.group_gpu.specs.declared.noted_call.NotedCall.{NotedCall}
use Rattle.group_gpu.specs.declared.noted_call.NotedCall.TheVariants.{Founded, Answered}
use Rattle.group_gpu.specs.Groups.{pass_of, names_of, note_of, notes_of, calls_of}
use Rattle.trace_threads.specs.Lines.{HasMadeSome}
use Rattle.trace_threads.specs.Groups.{AreFirst, GroupHasPlayed, HaveMade}

-- The pass of a thread

pass_next : (ts : List ℕ) (t thread : ℕ) → t ≢ thread → pass_of (t ∷ ts) thread ≡ pass_of ts thread + 1
pass_next ts t thread ne = cond-false (t == thread) 1 (pass_of ts thread + 1) (ne_eqb t thread ne)

pass_here : (ts : List ℕ) (t : ℕ) → pass_of (t ∷ ts) t ≡ 1
pass_here ts t = cond-true (t == t) 1 (pass_of ts t + 1) (eq-eqb t t refl)

pass_some : (ts : List ℕ) (thread : ℕ) → Contains ts thread → 1 ≤ pass_of ts thread
pass_some [] thread has = absurd (contains_none thread has)
pass_some (t ∷ ts) thread has = go (cases_eq t thread)
  where
    go : (t ≡ thread) ⊎ (t ≡ thread → ⊥) → 1 ≤ pass_of (t ∷ ts) thread
    go (inl is) = let one = ap (pass_of (t ∷ ts)) (sym is) ∙ pass_here ts t in omega (arith, one)
    go (inr ne) = let next = pass_next ts t thread ne in omega (arith, next)

in_rest : (t thread : ℕ) (ts : List ℕ) → t ≢ thread → Contains (t ∷ ts) thread → Contains ts thread
in_rest t thread ts ne has = go (contains_cases t thread ts has)
  where
    go : (t ≡ thread) ⊎ Contains ts thread → Contains ts thread
    go (inl is) = absurd (ne is)
    go (inr rest) = rest

-- two threads of a group have different passes
pub one_pass : (ts : List ℕ) (a b : ℕ) → Contains ts a → Contains ts b → pass_of ts a ≡ pass_of ts b → a ≡ b
one_pass [] a b has there same = absurd (contains_none a has)
one_pass (t ∷ ts) a b has there same = go (cases_eq t a) (cases_eq t b) (one_pass ts a b)
  where
    go : (t ≡ a) ⊎ (t ≡ a → ⊥) → (t ≡ b) ⊎ (t ≡ b → ⊥) → (Contains ts a → Contains ts b → pass_of ts a ≡ pass_of ts b → a ≡ b) → a ≡ b
    go (inl is) (inl that) rest = sym is ∙ that
    go (inl is) (inr other) rest =
        let one = ap (pass_of (t ∷ ts)) (sym is) ∙ pass_here ts t in
        let next = pass_next ts t b other in
        let some = pass_some ts b (in_rest t b ts other there) in
        absurd (omega (arith, one, next, some, same))
    go (inr ne) (inl that) rest =
        let one = ap (pass_of (t ∷ ts)) (sym that) ∙ pass_here ts t in
        let next = pass_next ts t a ne in
        let some = pass_some ts a (in_rest t a ts ne has) in
        absurd (omega (arith, one, next, some, same))
    go (inr ne) (inr other) rest =
        let next = pass_next ts t a ne in
        let then = pass_next ts t b other in
        rest (in_rest t a ts ne has) (in_rest t b ts other there) (omega (arith, next, then, same))

-- The entries of a thread are those that name its pass

module _ (ts : List ℕ) (thread : ℕ) (in_group : Contains ts thread) where
  same_test : (e : Entry) → Contains ts e.thread → (pass_of ts e.thread == pass_of ts thread) ≡ (e.thread == thread)
  same_test e has = go (cases_eq e.thread thread)
    where
      go : (e.thread ≡ thread) ⊎ (e.thread ≡ thread → ⊥) → (pass_of ts e.thread == pass_of ts thread) ≡ (e.thread == thread)
      go (inl is) = eq-eqb (pass_of ts e.thread) (pass_of ts thread) (ap (pass_of ts) is) ∙ sym (eq-eqb e.thread thread is)
      go (inr ne) = ne_eqb (pass_of ts e.thread) (pass_of ts thread) (λ same. ne (one_pass ts e.thread thread has in_group same)) ∙ sym (ne_eqb e.thread thread ne)

  own_all : (h : List Entry) → All (λ e. Contains ts e.thread) h → calls_of (own names_of (pass_of ts thread) (map (note_of ts) h)) ≡ entries_of thread h
  own_all [] all = refl
  own_all (e ∷ h) all = by_test (e.thread == thread) (same_test e (All-head (λ (x : Entry). Contains ts x.thread) e h all)) (own_all h (All-tail (λ (x : Entry). Contains ts x.thread) e h all))
    where
      rest : List NotedCall
      rest = own names_of (pass_of ts thread) (map (note_of ts) h)

      by_test : (b : Bool) → (pass_of ts e.thread == pass_of ts thread) ≡ b → calls_of rest ≡ entries_of thread h → calls_of (cond (pass_of ts e.thread == pass_of ts thread) (note_of ts e ∷ rest) rest) ≡ cond b (e ∷ entries_of thread h) (entries_of thread h)
      by_test true is same = ap calls_of (cond-true (pass_of ts e.thread == pass_of ts thread) (note_of ts e ∷ rest) rest is) ∙ ap (λ l. e ∷ l) same
      by_test false is same = ap calls_of (cond-false (pass_of ts e.thread == pass_of ts thread) (note_of ts e ∷ rest) rest is) ∙ same

  pub own_entries : (g : ℕ) (h : List Entry) → All (λ e. Contains ts e.thread) h → calls_of (own names_of (pass_of ts thread) (notes_of g ts h)) ≡ entries_of thread h
  own_entries g h all = own_all h all

calls_all : (ts : List ℕ) (h : List Entry) → calls_of (map (note_of ts) h) ≡ h
calls_all ts [] = refl
calls_all ts (e ∷ h) = ap (λ l. e ∷ l) (calls_all ts h)

-- The threads of a group

later_than : (plans : List Plan) (first group x : ℕ) → Contains (members_from first plans group) x → first ≤ x
later_than [] first group x has = absurd (contains_none x has)
later_than (p ∷ plans) first group x has = by_test (p.group == group) has (later_than plans (suc first) group x)
  where
    later : List ℕ
    later = members_from (suc first) plans group

    by_test : (b : Bool) → Contains (cond b (first ∷ later) later) x → (Contains later x → suc first ≤ x) → first ≤ x
    by_test true there more = go (contains_cases first x later there)
      where
        go : (first ≡ x) ⊎ Contains later x → first ≤ x
        go (inl is) = omega (arith, is)
        go (inr rest) = let low = more rest in omega (arith, low)
    by_test false there more = let low = more there in omega (arith, low)

member_of : (plans : List Plan) (first group k : ℕ) (plan : Plan) → slice_get plans k ≡ Some plan → Contains (members_from first plans group) (first + k) → plan.group ≡ group
member_of [] first group k plan at has = absurd (none-some plan at)
member_of (p ∷ plans) first group zero plan at has = by_test (p.group == group) refl has
  where
    later : List ℕ
    later = members_from (suc first) plans group

    by_test : (b : Bool) → (p.group == group) ≡ b → Contains (cond b (first ∷ later) later) (first + 0) → plan.group ≡ group
    by_test true is there = ap (λ (x : Plan). x.group) (sym (same_Some p plan at)) ∙ eqb-true p.group group is
    by_test false is there = let low = later_than plans (suc first) group (first + 0) there in absurd (omega (arith, low))
member_of (p ∷ plans) first group (suc k) plan at has = by_test (p.group == group) has (member_of plans (suc first) group k plan at)
  where
    later : List ℕ
    later = members_from (suc first) plans group

    same : first + suc k ≡ suc first + k
    same = omega arith

    by_test : (b : Bool) → Contains (cond b (first ∷ later) later) (first + suc k) → (Contains later (suc first + k) → plan.group ≡ group) → plan.group ≡ group
    by_test true there more = go (contains_cases first (first + suc k) later there)
      where
        go : (first ≡ first + suc k) ⊎ Contains later (first + suc k) → plan.group ≡ group
        go (inl is) = absurd (omega (arith, is))
        go (inr rest) = more (subst (Contains later) same rest)
    by_test false there more = more (subst (Contains later) same there)

all_at : {X : Type 0} (P : X → Type 0) (before rest : List X) (x : X) → All P (before ++ x ∷ rest) → P x
all_at P [] rest x all = All-head P x rest all
all_at P (b ∷ before) rest x all = all_at P before rest x (All-tail P b (before ++ x ∷ rest) all)

-- What its threads have played

pub group_played : (threads : List Plan) (group g : ℕ) (history : List Entry) (seen : List NotedCall) (all : Bool)
    → ((thread : ℕ) (plan : Plan) → slice_get threads thread ≡ Some plan → Contains (members threads plan.group) thread)
    → seen ≡ notes_of g (members threads group) history → IsLegal (members threads group) history → All (λ e. Contains (members threads group) e.thread) history
    → HaveMade threads group 0 seen all → GroupHasPlayed threads group history all
group_played threads group g history seen all are_members seen_is legal declared made = record {
  legal = legal;
  own = declared;
  behind = λ before rest e is. stands_behind before rest e is;
  answered = λ thread plan is of.
      let has : Contains ts thread = subst (λ k. Contains (members threads k) thread) of (are_members thread plan is) in
      let its = made thread plan is of (omega arith) in
      record {
        count = its.count;
        few = its.made.few;
        in_order = ap (map asked_by) (sym (own_entries ts thread has g history declared) ∙ ap (λ l. calls_of (own names_of (pass_of ts thread) l)) (sym seen_is)) ∙ its.made.in_order;
        all_answered = its.all_made;
      };
}
  where
    ts : List ℕ
    ts = members threads group

    stands_behind : (before rest : List Entry) (e : Entry) → history ≡ before ++ e ∷ rest → IsBehind threads before e
    stands_behind before rest e is place number line there numbered after =
        let has : Contains ts e.thread = all_at (λ (x : Entry). Contains ts x.thread) before rest e (subst (All (λ (x : Entry). Contains ts x.thread)) is declared) in
        let numbered_from : e.thread ≡ 0 + e.thread = omega arith in
        let of : there.plan.group ≡ group = member_of threads 0 group e.thread there.plan there.is_thread (subst (Contains ts) numbered_from has) in
        let its = made e.thread there.plan there.is_thread of (omega arith) in
        let stands : seen ≡ (Founded g ts ∷ map (note_of ts) before) ++ Answered (pass_of ts e.thread) e ∷ map (note_of ts) rest =
        seen_is ∙ (ap (notes_of g ts) is ∙ ap (λ l. Founded g ts ∷ l) (map-append (note_of ts) before (e ∷ rest))) in
        subst (λ h. is_answered h number ≡ true) (calls_all ts before)
        (its.made.behind (Founded g ts ∷ map (note_of ts) before) (map (note_of ts) rest) e stands place line there.is_line numbered number after)
