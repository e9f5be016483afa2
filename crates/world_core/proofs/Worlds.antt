-- Steps of a world from those of its parts.
use Rattle.std.proofs.Common.{◌≡◌, ℕ, ◌≤◌, ◌<◌, Bool, true, false, List, length, map, Some, None, refl, sym, ap, ◌∙◌, subst}
use Rattle.std.specs.Prelude.{Result, Ok, Err, IfOk, IfErr, OnOk, OnErr, is_ok}
use Rattle.std.specs.List.{All}
use Rattle.vk_types.specs.declared.stops.Stop.{Stop}
use Rattle.vk_types.specs.declared.stops.Stop.TheVariants.{Lost}
use Rattle.reply_text.specs.declared.history.GroupHistory.{GroupHistory}
use Rattle.vk_device.specs.declared.logged.Logged.{Logged}
use Rattle.vk_device.specs.Faults.{HasCause}
use Rattle.vk_device.specs.Journal.{kind_of, IsClean}
use Rattle.gl_calls.specs.declared.reply.Entry.{Entry}
use Rattle.trace_text.specs.Reading.{Plan}
use Rattle.back_core.specs.Frame.{IsGoing, host_bytes}
use Rattle.back_core.specs.Run.{IsRun, WereRead, journal_of}
use Rattle.back_core.specs.Back.{BackModel, stopped_by}
use Rattle.back_core.specs.Steps.{CleansSome}
use Rattle.front_core.specs.Front.{FrontModel}
use Rattle.world_core.specs.declared.event.Event.{Event}
use Rattle.world_core.specs.declared.event.Event.TheVariants as event
use Rattle.world_core.specs.declared.event.Stepped.{Stepped}
use Rattle.world_core.specs.World.{WorldModel, IsLawful, AreHistories, declared, history_at, histories_of, play_at, play_of, due_in}
use Rattle.world_core.specs.Steps.{IsAtBack, IsStep, IsHalt, HasHalted, HasFailed, HasSubmitted, HasTurned, HasRetired, HasCleaned}
use Rattle.world_core.specs.Ends.{EndsAll, HasClosed, HasFinished}
use Rattle.world_core.specs.Inside.{Keeps, LetsGo, world_of}
use Rattle.world_core.proofs.Fronts.{fronts_license}

module _ {D : Type 0} (journal : D → List Logged) (threads : List Plan) (done : List ℕ) (fronts : List FrontModel)
    (back now : BackModel D) (running : Bool)
    (old : WorldModel D) (is : world_of threads done fronts back running ≡ old) where
  at_back : IsAtBack (world_of threads done fronts back running) (world_of threads done fronts now true)
  at_back = record { threads = refl; done = refl; fronts = refl; running = refl }

  pub submit_step : (r : Result Stepped Stop) → IfOk r (λ s. HasSubmitted back.history now.history s) →
      IfOk r (λ s. IsStep journal old (world_of threads done fronts now (is_ok r)) event.Submit s)
  submit_step (Ok s) did = subst (λ (w : WorldModel D). IsStep journal w (world_of threads done fronts now true) event.Submit s) is
      (at_back, did)
  submit_step (Err e) did = tt

  pub turn_step : (r : Result Stepped Stop) → IfOk r (λ s. HasTurned back.history now.history s) →
      IfOk r (λ s. IsStep journal old (world_of threads done fronts now (is_ok r)) event.Turn s)
  turn_step (Ok s) did = subst (λ (w : WorldModel D). IsStep journal w (world_of threads done fronts now true) event.Turn s) is
      (at_back, did)
  turn_step (Err e) did = tt

  pub retire_step : (s : Stepped) → running ≡ true → HasRetired back now s →
      IsStep journal old (world_of threads done fronts now running) event.Retire s
  retire_step s on did = subst (λ (w : WorldModel D). IsStep journal w (world_of threads done fronts now running) event.Retire s) is
      (record { threads = refl; done = refl; fronts = refl; running = on }, did)

  pub clean_step : (read : List ℕ) (r : Result Stepped Stop) → IfOk r (λ s. HasCleaned journal back now read s) →
      IfOk r (λ s. IsStep journal old (world_of threads done fronts now (is_ok r)) (event.Cleanup read) s)
  clean_step read (Ok s) did = subst
      (λ (w : WorldModel D). IsStep journal w (world_of threads done fronts now true) (event.Cleanup read) s) is (at_back, did)
  clean_step read (Err e) did = tt

  -- a stop

  pub submit_halt : (r : Result Stepped Stop) → IfErr r (λ stop. now.history ≡ stopped_by back.history stop) →
      IfErr r (λ stop. IsHalt journal old (world_of threads done fronts now (is_ok r)) event.Submit stop)
  submit_halt (Ok s) did = tt
  submit_halt (Err stop) did = subst
      (λ (w : WorldModel D). IsHalt journal w (world_of threads done fronts now false) event.Submit stop) is (refl, did)

  pub turn_halt : (r : Result Stepped Stop) → IfErr r (λ stop. stop ≡ Lost) → IfErr r (λ stop. now.history ≡ stopped_by back.history stop) →
      IfErr r (λ stop. IsHalt journal old (world_of threads done fronts now (is_ok r)) event.Turn stop)
  turn_halt (Ok s) lost did = tt
  turn_halt (Err stop) lost did = subst
      (λ (w : WorldModel D). IsHalt journal w (world_of threads done fronts now false) event.Turn stop) is (refl, lost, did)

  pub clean_halt : (read : List ℕ) (r : Result Stepped Stop) → IfErr r (λ stop. stop ≡ Lost) →
      IfErr r (λ stop. CleansSome journal back now read stop) →
      IfErr r (λ stop. IsHalt journal old (world_of threads done fronts now (is_ok r)) (event.Cleanup read) stop)
  clean_halt read (Ok s) lost did = tt
  clean_halt read (Err stop) lost did = subst
      (λ (w : WorldModel D). IsHalt journal w (world_of threads done fronts now false) (event.Cleanup read) stop) is (refl, lost, did)

  pub halted : {A : Type 0} (r : Result A Stop) (done_after : List ℕ) (fronts_after : List FrontModel) → OnErr r (done_after ≡ done) →
      OnErr r (histories_of fronts_after ≡ histories_of fronts) →
      OnErr r (HasHalted old (world_of threads done_after fronts_after now (is_ok r)))
  halted (Ok a) done_after fronts_after same_done same = tt
  halted (Err stop) done_after fronts_after same_done same = subst
      (λ (w : WorldModel D). HasHalted w (world_of threads done_after fronts_after now false)) is (record {
        threads = refl;
        play = ap (λ (l : List ℕ). play_at l (histories_of fronts_after)) same_done ∙ ap (play_at done) same;
        running = refl;
      })

  -- the same, of a step that leaves the threads and fronts
  pub halted_back : {A : Type 0} (r : Result A Stop) → OnErr r (HasHalted old (world_of threads done fronts now (is_ok r)))
  halted_back (Ok a) = tt
  halted_back (Err stop) = subst (λ (w : WorldModel D). HasHalted w (world_of threads done fronts now false)) is
      (record { threads = refl; play = refl; running = refl })

  -- a call

  pub call_step : (on : running ≡ true) (r : Result Stepped Stop) (thread : ℕ) (done_after : List ℕ) (fronts_after : List FrontModel) →
      IfOk r (λ s. IsStep journal (world_of threads done fronts back true) (world_of threads done_after fronts_after now true)
      (event.Call thread) s) →
      IfOk r (λ s. IsStep journal old (world_of threads done_after fronts_after now (is_ok r)) (event.Call thread) s)
  call_step on (Ok s) thread done_after fronts_after did =
      subst (λ (w : WorldModel D). IsStep journal w (world_of threads done_after fronts_after now true) (event.Call thread) s)
      (sym (ap (world_of threads done fronts back) on) ∙ is) did
  call_step on (Err e) thread done_after fronts_after did = tt

  pub call_halt : (r : Result Stepped Stop) (thread : ℕ) (done_after : List ℕ) (fronts_after : List FrontModel) →
      OnErr r (HasFailed threads fronts fronts_after back.history now.history thread) →
      IfErr r (λ stop. IsHalt journal old (world_of threads done_after fronts_after now (is_ok r)) (event.Call thread) stop)
  call_halt (Ok s) thread done_after fronts_after did = tt
  call_halt (Err stop) thread done_after fronts_after did =
      subst (λ (w : WorldModel D). IsHalt journal w (world_of threads done_after fronts_after now false) (event.Call thread) stop) is did

  -- what is known of the world before

  pub running_on : old.running ≡ true → running ≡ true
  running_on on = ap (λ (w : WorldModel D). w.running) is ∙ on

  pub cause_step : {T : Type 0} (faults : D → ℕ) (n : ℕ) (r : Result T Stop) → HasCause (faults back.device) n r →
      HasCause (faults old.back.device) n r
  cause_step faults n r cause = subst (λ (w : WorldModel D). HasCause (faults w.back.device) n r) is cause

  pub device_step : now.device ≡ back.device → now.device ≡ old.back.device
  device_step same = same ∙ ap (λ (w : WorldModel D). w.back.device) is

  pub threads_step : (thread : ℕ) → thread < length old.threads → thread < length threads
  threads_step thread low = subst (λ (w : WorldModel D). thread < length w.threads) (sym is) low

  pub read_step : (read : List ℕ) → WereRead old.back.history read → WereRead back.history read
  read_step read were = subst (λ (w : WorldModel D). WereRead w.back.history read) (sym is) were

  -- the end

  pub closed_step : {A : Type 0} (r : Result A Stop) (fronts_after : List FrontModel) → histories_of fronts_after ≡ histories_of fronts →
      OnOk r (EndsAll journal fronts fronts_after back now) →
      OnOk r ((id : ℕ) → kind_of (journal_of now.history) id ≡ None) →
      OnOk r (IsGoing (Some now.history)) → OnOk r (host_bytes (journal_of now.history) ≡ host_bytes (journal_of back.history)) →
      host_bytes (journal_of back.history) ≤ due_in threads (play_at done (histories_of fronts)) →
      OnOk r (HasClosed journal old (world_of threads done fronts_after now false))
  closed_step (Ok a) fronts_after same ends destroyed going written uploads = subst
      (λ (w : WorldModel D). HasClosed journal w (world_of threads done fronts_after now false)) is (record {
        threads = refl;
        play = ap (play_at done) same;
        running = refl;
        ends = ends;
        destroyed = destroyed;
        going = going;
        uploads = subst (λ (n : ℕ). n ≤ due_in threads (play_at done (histories_of fronts_after))) (sym written)
            (subst (λ (l : List (List Entry)). host_bytes (journal_of back.history) ≤ due_in threads (play_at done l)) (sym same) uploads);
      })
  closed_step (Err stop) fronts_after same ends destroyed going written uploads = tt

  pub halted_off : {A : Type 0} (r : Result A Stop) (fronts_after : List FrontModel) → histories_of fronts_after ≡ histories_of fronts →
      OnErr r (HasHalted old (world_of threads done fronts_after now false))
  halted_off (Ok a) fronts_after same = tt
  halted_off (Err stop) fronts_after same = subst (λ (w : WorldModel D). HasHalted w (world_of threads done fronts_after now false)) is
      (record {
        threads = refl;
        play = ap (play_at done) same;
        running = refl;
      })

  -- what holds of each world

  pub lawful : (answered : List Bool) → Keeps threads done answered fronts back.history running → IsRun back.history →
      journal back.device ≡ journal_of back.history → IsClean (journal back.device) → IsLawful journal old
  lawful answered keeps run logged clean = subst (IsLawful journal) is (record {
    served = keeps.served;
    eight = keeps.fronts_are.eight;
    played = keeps.played;
    run = run;
    journal_is = logged;
    clean = clean;
    licensed = fronts_license threads back.history fronts keeps.fronts_are;
    stands = λ on. (keeps.runs on).goes.stand;
    going = λ on. (keeps.runs on).goes.going;
    uploads = λ on. subst (λ (l : List Logged). host_bytes l ≤ due_in threads (play_at done (histories_of fronts))) (sym logged)
        (keeps.runs on).uploads;
  })

  -- what is left of a world

  pub finished_step : (last : BackModel D) (j : List Logged) → last ≡ now → IsRun last.history → j ≡ journal_of last.history →
      LetsGo back.history now.history → HasFinished old j
  finished_step last j same run logged lets = subst (λ (w : WorldModel D). HasFinished w j) is (record {
    history = last.history;
    run = run;
    journal_is = logged;
    objects = λ id. ap (λ (l : List Logged). kind_of l id) (logged ∙ ap (λ (b : BackModel D). journal_of b.history) same) ∙ lets.objects id;
    written = ap host_bytes (logged ∙ ap (λ (b : BackModel D). journal_of b.history) same) ∙ lets.written;
    going = λ on. subst (λ (b : BackModel D). IsGoing (Some b.history)) (sym same) (lets.going on);
  })

  pub histories_step : (groups : List GroupHistory) → map (λ history. history.group) groups ≡ declared threads →
      All (λ history. history.entries.items ≡ history_at (histories_of fronts) history.group) groups →
      AreHistories old.threads (play_of old) groups
  histories_step groups of_groups entries = subst (λ (w : WorldModel D). AreHistories w.threads (play_of w) groups) is
      (record { of_groups = of_groups; entries = entries })

  pub faults_step : (faults : D → ℕ) (n : ℕ) → faults back.device ≤ n → faults old.back.device ≤ n
  faults_step faults n risen = subst (λ (w : WorldModel D). faults w.back.device ≤ n) is risen
