-- What a world begins with.
use Rattle.std.proofs.Common.{◌≡◌, ◌≢◌, ℕ, suc, zero, ◌+◌, ◌-◌, ◌≤◌, ◌<◌, Bool, true, false, List, [], ◌∷◌, ◌++◌, length, get_or, map}
use Rattle.std.proofs.Common.{take, replicate, Some, None, refl, sym, ap, ◌∙◌, subst, arith, eq-eqb}
use Rattle.std.specs.Prelude.{slice_get, Option, unwrap_or, Result, Ok, Err, OnOk, is_err}
use Rattle.back_core.specs.Back.{BackModel}
use Rattle.std.specs.Option.{option_map}
use Rattle.std.proofs.Math.Dec.{eqb}
use Rattle.std.proofs.Math.Path.{fun_ext}
use Rattle.std.proofs.lemmas.Bool.{eqb-true, false≢true}
use Rattle.std.proofs.lemmas.List.{get_or-replicate, length-replicate}
use Rattle.std.proofs.lemmas.Option.{slice_get-map, slice_get-get_or, slice_get_within}
use Rattle.gl_calls.specs.declared.reply.Entry.{Entry}
use Rattle.vk_device.specs.declared.logged.Logged.{Logged}
use Rattle.trace_text.specs.declared.trace.Line.{Line}
use Rattle.trace_text.specs.declared.trace.ThreadPlan.{ThreadPlan}
use Rattle.trace_text.specs.Reading.{Plan, plan}
use Rattle.trace_text.specs.Orders.{HasLine, IsLineOf}
use Rattle.back_core.specs.declared.back_event.BackEvent.{BackEvent}
use Rattle.back_core.specs.Link.{IsNew}
use Rattle.back_core.specs.History.{link_of}
use Rattle.back_core.specs.Frame.{IsGoing, host_bytes}
use Rattle.back_core.specs.Run.{journal_of}
use Rattle.back_core.specs.Steps.{CleansWhole}
use Rattle.front_model.specs.Stands.{Owns}
use Rattle.front_moves.specs.Core.{face}
use Rattle.front_core.specs.Front.{FrontModel, FrontStands, IsNewFront}
use Rattle.play_model.specs.Plays.{Play, HasPlayed, none_done, members, opening_play, is_answered}
use Rattle.world_core.specs.World.{IsNewWorld, AreNew, IsServed, history_at, histories_of, play_at, due_in}
use Rattle.world_core.specs.Inside.{OwnTheirs, AreFronts, Goes, Keeps, played_of, world_of}
use Rattle.world_core.proofs.Lists.{read_at}
use Rattle.world_core.proofs.Fronts.{stands_own}

-- no line of any thread was answered
pub none_done_is : (threads : List ThreadPlan) → replicate (length threads) 0 ≡ none_done (map plan threads)
none_done_is [] = refl
none_done_is (thread ∷ threads) = ap (λ (l : List ℕ). 0 ∷ l) (none_done_is threads)

take_none : {X : Type 0} (n : ℕ) → ◌≡◌ {A = List X} (take n []) []
take_none zero = refl
take_none (suc n) = refl

-- an empty list that was filled up
pub filled : {X : Type 0} (items old : List X) (n m : ℕ) (x : X) → items ≡ take n old ++ replicate (n - m) x → old ≡ [] → m ≡ 0 →
    items ≡ replicate n x
filled {X} items old n m x is empty none =
    is ∙ ap (λ (l : List X). take n l ++ replicate (n - m) x) empty ∙ ap (λ (l : List X). l ++ replicate (n - m) x) (take_none n)
    ∙ ap (λ (k : ℕ). replicate k x) (omega (arith, none))

pub at_filled : (items : List Bool) (n i : ℕ) → items ≡ replicate n false → i < n → slice_get items i ≡ Some false
at_filled items n i is low =
    ap (λ (l : List Bool). slice_get l i) is
    ∙ slice_get-get_or (replicate n false) i false (let count = length-replicate n false in omega (arith, count, low))
    ∙ ap Some (get_or-replicate n i false false low)

-- the line of a thread's plan is one of its lines
pub line_in : (threads : List ThreadPlan) (thread place : ℕ) (line : Line) (of : ThreadPlan) → slice_get threads thread ≡ Some of →
    IsLineOf (map plan threads) thread place line →
    slice_get of.lines.items place ≡ Some line
line_in threads thread place line of at is =
    let here : Some (plan of) ≡ Some is.plan = sym (slice_get-map plan threads thread ∙ ap (option_map plan) at) ∙ is.is_thread in
    let same : plan of ≡ is.plan = cc in
    subst (λ (p : Plan). slice_get p.lines place ≡ Some line) (sym same) is.is_line

pub thread_within : (threads : List ThreadPlan) (thread place : ℕ) (line : Line) → IsLineOf (map plan threads) thread place line →
    thread < length threads
thread_within [] thread place line is = absurd (none thread is.is_thread)
  where
    none : (t : ℕ) → slice_get [] t ≡ Some is.plan → ⊥
    none t e = absurd (cc)
thread_within (of ∷ threads) zero place line is = omega arith
thread_within (of ∷ threads) (suc thread) place line is =
    let low : thread < length threads = thread_within threads thread place line
    (record { plan = is.plan; is_thread = is.is_thread; is_line = is.is_line }) in
    omega (arith, low)

-- the numbers of one more thread's lines are past
pub past_more : (threads : List ThreadPlan) (count past now : ℕ) (of : ThreadPlan) (lines : List Line) → count < length threads →
    of ≡ get_or threads count of → lines ≡ of.lines.items →
    ((thread place : ℕ) (line : Line) → thread < count → IsLineOf (map plan threads) thread place line → line.number < past) →
    ((place : ℕ) (line : Line) → slice_get lines place ≡ Some line → line.number < now) → past ≤ now →
    (thread place : ℕ) (line : Line) → thread < count + 1 → IsLineOf (map plan threads) thread place line → line.number < now
past_more threads count past now of lines low of_is lines_are before here later thread place line in_range is = by (eqb thread count) refl
  where
    by : (b : Bool) → eqb thread count ≡ b → line.number < now
    by true same =
        here place line (subst (λ (l : List Line). slice_get l place ≡ Some line) (sym lines_are)
        (line_in threads thread place line of
        (read_at threads count thread of (sym (eqb-true thread count same)) (omega (arith, low, eqb-true thread count same)) of_is) is))
    by false same =
        let ne : thread ≢ count = λ is_same. false≢true (sym same ∙ eq-eqb thread count is_same) in
        let was = before thread place line (omega (arith, in_range, ne)) is in
        omega (arith, was, later)

-- New fronts

pub new_none : (threads : List Plan) → AreNew threads []
new_none threads group front at = absurd (cc)

pub new_more : (threads : List Plan) (fronts : List FrontModel) (group : ℕ) (front : FrontModel) → length fronts ≡ group →
    AreNew threads fronts → IsNewFront front group (members threads group) →
    AreNew threads (fronts ++ front ∷ [])
new_more threads fronts group front count new is other f at = by (eqb other group) refl
  where
    past : (l : List FrontModel) (x : FrontModel) → slice_get (l ++ x ∷ []) (length l) ≡ Some x
    past [] x = refl
    past (y ∷ l) x = past l x

    before : (l : List FrontModel) (x : FrontModel) (i : ℕ) → i ≢ length l → slice_get (l ++ x ∷ []) i ≡ slice_get l i
    before [] x zero ne = absurd (ne refl)
    before [] x (suc i) ne = refl
    before (y ∷ l) x zero ne = refl
    before (y ∷ l) x (suc i) ne = before l x i (λ e. ne (ap suc e))

    by : (b : Bool) → eqb other group ≡ b → IsNewFront f other (members threads other)
    by true same =
        let here : other ≡ group = eqb-true other group same in
        let e : Some front ≡ Some f = sym (past fronts front) ∙ ap (slice_get (fronts ++ front ∷ [])) (count ∙ sym here) ∙ at in
        let front_is : front ≡ f = cc in
        subst (λ (n : ℕ). IsNewFront f n (members threads n)) (sym here)
        (subst (λ (x : FrontModel). IsNewFront x group (members threads group)) front_is is)
    by false same =
        let ne : other ≢ length fronts = λ e. false≢true (sym same ∙ eq-eqb other group (e ∙ count)) in
        new other f (sym (before fronts front other ne) ∙ at)

abbrev pub NewLinks : Type 0
NewLinks = (g : ℕ) → IsNew (link_of [] g) g

pub new_own : NewLinks → (threads : List Plan) (fronts : List FrontModel) (h : List BackEvent) → h ≡ [] → AreNew threads fronts →
    OwnTheirs fronts h
new_own law threads fronts h empty new group front at =
    subst (λ (i : List BackEvent). Owns (face front.core).objects (link_of i group)) (sym empty)
    (stands_own front (link_of [] group) ((new group front at).stands (link_of [] group) (law group)))

-- The histories of new fronts are empty

new_history : (threads : List Plan) (fronts : List FrontModel) → AreNew threads fronts → (group : ℕ) →
    history_at (histories_of fronts) group ≡ []
new_history threads fronts new group = ap (λ (o : Option (List Entry)). unwrap_or o [])
    (slice_get-map (λ (f : FrontModel). f.history) fronts group) ∙ by (slice_get fronts group) refl
  where
    by : (o : Option FrontModel) → slice_get fronts group ≡ o → unwrap_or (option_map (λ (f : FrontModel). f.history) o) [] ≡ []
    by None at = refl
    by (Some front) at = (new group front at).empty

-- The first moment

none_written : (n : ℕ) → host_bytes [] ≤ n
unfolding host_bytes
none_written n = omega arith

abbrev play_with : List ℕ → (ℕ → List Entry) → Play
play_with d hs = record { done = d; histories = hs }

-- nothing was played yet
opens : (threads : List Plan) (done : List ℕ) (fronts : List FrontModel) → done ≡ none_done threads → AreNew threads fronts →
    played_of done fronts ≡ opening_play threads
opens threads done fronts none new =
    let histories : (λ group. history_at (histories_of fronts) group) ≡ (λ group. []) = fun_ext (new_history threads fronts new) in
    ap (λ (d : List ℕ). play_at d (histories_of fronts)) none
    ∙ ap (λ (hs : ℕ → List Entry). play_with (none_done threads) hs) histories

module _ (links : NewLinks) (whole : CleansWhole []) (going : IsGoing (Some [])) (opening : journal_of [] ≡ [])
    (plays : (threads : List Plan) → HasPlayed threads (opening_play threads)) where
  begins_empty : (threads : List Plan) (done : List ℕ) (answered : List Bool) (fronts : List FrontModel) → IsServed threads →
      done ≡ none_done threads →
      ((thread place : ℕ) (line : Line) → IsLineOf threads thread place line → slice_get answered line.number ≡ Some false) →
      length fronts ≡ 8 → AreNew threads fronts → Keeps threads done answered fronts [] true
  begins_empty threads done answered fronts served none unanswered eight new =
      let same : opening_play threads ≡ played_of done fronts = sym (opens threads done fronts none new) in
      record {
        served = served;
        played = subst (HasPlayed threads) same (plays threads);
        noted = λ group number has. subst (λ (h : List Entry). slice_get answered number ≡ Some (is_answered h number))
            (sym (new_history threads fronts new group))
            (subst (λ (n : ℕ). slice_get answered n ≡ Some false) has.numbered (unanswered has.thread has.place has.line has.is));
        fronts_are = record {
          eight = eight;
          each = λ group front at. record {
            threads_are = (new group front at).threads_are;
            owns = new_own links threads fronts [] refl new group front at;
          };
        };
        runs = λ on. record {
          goes = record {
            stand = λ group front at. (new group front at).stands (link_of [] group) (links group);
            going = going;
            whole = whole;
            no_others = λ group high. refl;
          };
          uploads = few;
        };
      }
    where
      few : host_bytes (journal_of []) ≤ due_in threads (played_of done fronts)
      few = subst (λ (l : List Logged). host_bytes l ≤ due_in threads (played_of done fronts)) (sym opening)
          (none_written (due_in threads (played_of done fronts)))

  pub begins : (threads : List Plan) (done : List ℕ) (answered : List Bool) (fronts : List FrontModel) (h : List BackEvent) → h ≡ [] →
      IsServed threads → done ≡ none_done threads →
      ((thread place : ℕ) (line : Line) → IsLineOf threads thread place line → slice_get answered line.number ≡ Some false) →
      length fronts ≡ 8 → AreNew threads fronts → Keeps threads done answered fronts h true
  begins threads done answered fronts h empty served none unanswered eight new =
      subst (λ (i : List BackEvent). Keeps threads done answered fronts i true) (sym empty)
      (begins_empty threads done answered fronts served none unanswered eight new)

-- the world is one that a trace begins with
pub is_new_world : {D : Type 0} (threads : List Plan) (done : List ℕ) (fronts : List FrontModel) (back : BackModel D) (device : D) →
    done ≡ none_done threads → length fronts ≡ 8 → AreNew threads fronts → back ≡ record { device = device; history = [] } →
    IsNewWorld threads device (world_of threads done fronts back true)
is_new_world threads done fronts back device none eight new is = record {
  threads_are = refl;
  done = none;
  eight = eight;
  new = new;
  back = is;
  running = refl;
  play = opens threads done fronts none new;
}

pub ok_of : {A E : Type 0} {P : Type 0} (r : Result A E) → is_err r ≡ false → OnOk r P → P
ok_of (Ok a) well p = p
ok_of (Err e) well p = absurd (false≢true (sym well))
