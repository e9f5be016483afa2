-- How a run ends, by what it has to say and what the sink took of it.
use Rattle.std.proofs.Common.{◌≡◌, ◌≢◌, ◌⊎◌, ℕ, ◌<◌, ◌≤◌, true, false, List, ◌++◌, length, take, Result, Option, Some, None, refl, sym, ap, ◌∙◌, subst, arith, inl, inr, length-append}
use Rattle.std.proofs.lemmas.List.{append-nil}
use Rattle.std.specs.Io.KnownBytes.{Appends, Consumes}
use Rattle.trace_io.specs.declared.status.Status.{Status}
use Rattle.trace_io.specs.declared.status.Status.TheVariants.{Ok, Usage, Trace, ReadFault, WriteFault, DeviceLost, Memory}
use Rattle.faults.specs.Faults.{Rose}
use Rattle.vk_device.specs.declared.logged.Logged.{Logged}
use Rattle.std.specs.declared.result.Result.TheVariants as results
use Rattle.trace_text.specs.Reading.{Plan, Place, trace_of}
use Rattle.trace_text.specs.Traces.{Spells}
use Rattle.trace_text.proofs.TextLaws.{text_again}
use Rattle.trace_run.specs.declared.saying.Said.{Said}
use Rattle.trace_run.specs.declared.saying.Said.TheVariants as said
use Rattle.trace_run.specs.Runs.{first_unbuilt}
use Rattle.trace_run.specs.declared.saying.Output.{Output}
use Rattle.trace_run.proofs.Words.{Brings, brought_read, brought_made, made_is_short, long_text}
use Rattle.trace_run.specs.Once.{Names, SpellsOnce, SpellsGen, IsServed, IsRead, IsBrought, IsTooLong, text_of_number, Gives, Answered, WasLost, IsRefusedAt, WasRefused, Refused, IsWritten, WasCutOff, IsUnread, IsRunOf, IsSaid, Says, Puts, text_of, status_of, has_text, usage_line, MayAnswer, MayRefuse, MayRefuseLong, kind_of_long}

-- a text that was put is said
pub puts_said : {text : List ℕ} {good : Status} {taken taken_after : Option (List ℕ)} {faults faults_after : ℕ} {status : Status}
    (it : Said) → Puts text good taken taken_after faults faults_after status → text ≡ text_of it → good ≡ status_of it →
    has_text it ≡ true → Says it taken taken_after faults faults_after status
puts_said {taken = taken} {taken_after = taken_after} it (Puts.all s a) same good has =
    Says.whole (s ∙ good) has (subst (Appends taken taken_after) same a)
puts_said {taken = taken} {taken_after = taken_after} it (Puts.some s rose n a) same good has =
    Says.front s has rose n (subst (λ (l : List ℕ). Appends taken taken_after (take n l)) same a)

no_yes : false ≡ true → ⊥
no_yes e = cc

no_silence : (it : Said) → has_text it ≡ true → (status_of it ≡ ReadFault) ⊎ (status_of it ≡ Memory) → ⊥
no_silence said.Usage has (inl e) = cc
no_silence said.Usage has (inr e) = cc
no_silence (said.Refused line kind) has (inl e) = cc
no_silence (said.Refused line kind) has (inr e) = cc
no_silence (said.Replies groups tail) has (inl e) = cc
no_silence (said.Replies groups tail) has (inr e) = cc
no_silence (said.Lost groups) has (inl e) = cc
no_silence (said.Lost groups) has (inr e) = cc
no_silence said.ReadFault has e = no_yes has
no_silence said.Memory has e = no_yes has

either : {status : Status} (it : Said) → status ≡ status_of it → (status ≡ ReadFault) ⊎ (status ≡ Memory) →
    (status_of it ≡ ReadFault) ⊎ (status_of it ≡ Memory)
either it e (inl is) = inl (sym e ∙ is)
either it e (inr is) = inr (sym e ∙ is)

pub silent : {taken taken_after : Option (List ℕ)} {faults faults_after : ℕ} {status : Status} (it : Said) →
    Says it taken taken_after faults faults_after status → (status ≡ ReadFault) ⊎ (status ≡ Memory) → taken_after ≡ taken
silent it (Says.whole e h a) is = absurd (no_silence it h (either it e is))
silent it (Says.front e h rose n a) (inl is) = let wrong : WriteFault ≡ ReadFault = sym e ∙ is in absurd (cc)
silent it (Says.front e h rose n a) (inr is) = let wrong : WriteFault ≡ Memory = sym e ∙ is in absurd (cc)
silent it (Says.no_text e h same) is = same
silent it (Says.no_memory e not same) is = same

-- the usage line needs no memory
pub usage_alone : {taken taken_after : Option (List ℕ)} {faults faults_after : ℕ} {status : Status} (it : Said) → it ≡ said.Usage →
    Says it taken taken_after faults faults_after status → (status ≡ Usage) ⊎ (status ≡ WriteFault)
usage_alone it is (Says.whole e h a) = inl (e ∙ ap status_of is)
usage_alone it is (Says.front e h rose n a) = inr e
usage_alone it is (Says.no_text e h same) = inl (e ∙ ap status_of is)
usage_alone it is (Says.no_memory e not same) = absurd (not is)

-- what came is all that was there
whole_text : (text came : List ℕ) (left left_after : Option (List ℕ)) → left ≡ Some text → IsRead left left_after came → came ≡ text
whole_text text came left None is r = absurd (rw is at r.read)
whole_text text came left (Some rest) is r =
    let e : text ≡ came ++ rest = rw is at r.read in sym (e ∙ ap (λ (l : List ℕ). came ++ l) r.ended ∙ append-nil came)

-- what came is no longer than what was there
came_short : (text came : List ℕ) (left left_after : Option (List ℕ)) → left ≡ Some text → Consumes left left_after came →
    length came ≤ length text
came_short text came left None is consumes = absurd (rw is at consumes)
came_short text came left (Some rest) is consumes =
    let e : text ≡ came ++ rest = rw is at consumes in omega (arith, ap length e, length-append came rest)

-- a text spells one trace at most, and where it spells one it has no fault
one_trace : (text : List ℕ) (threads others : List Plan) → Spells text threads → Spells text others → threads ≡ others
one_trace text threads others a b =
    cc (sym (text_again text threads a) ∙ text_again text others b)

abbrev place : ℕ → ℕ → Place
place line kind = record { line = line; kind = kind }

same_place : (x y : Place) (r : Result (List Plan) Place) → r ≡ results.Err x → r ≡ results.Err y → x ≡ y
same_place x y r a b = cc

-- a text is refused at one line and for one kind of reason
refused_once : (text : List ℕ) (l k line kind : ℕ) → IsRefusedAt text l k → IsRefusedAt text line kind → (l ≡ line) × (k ≡ kind)
refused_once text l k line kind (IsRefusedAt.fault a) (IsRefusedAt.fault b) =
    let same : place l k ≡ place line kind = same_place (place l k) (place line kind) (trace_of text) a b in
    (ap (λ (p : Place). p.line) same, ap (λ (p : Place). p.kind) same)
refused_once text l k line kind (IsRefusedAt.fault a) (IsRefusedAt.unbuilt threads b u n) =
    let e = sym a ∙ text_again text threads b in absurd (cc)
refused_once text l k line kind (IsRefusedAt.unbuilt threads a t m) (IsRefusedAt.fault b) =
    let e = sym b ∙ text_again text threads a in absurd (cc)
refused_once text l k line kind (IsRefusedAt.unbuilt threads a t m) (IsRefusedAt.unbuilt others b u n) =
    let same : threads ≡ others = one_trace text threads others a b in
    let e : Some l ≡ Some line = sym t ∙ ap first_unbuilt same ∙ u in
    (cc, m ∙ sym n)

-- a text that is refused spells no trace that is served
exclusive : (text : List ℕ) (line kind : ℕ) (threads : List Plan) → IsRefusedAt text line kind → Spells text threads →
    first_unbuilt threads ≡ None → ⊥
exclusive text line kind threads (IsRefusedAt.fault a) spelled built =
    let e = sym a ∙ text_again text threads spelled in absurd (cc)
exclusive text line kind threads (IsRefusedAt.unbuilt others a u n) spelled built =
    let same : threads ≡ others = one_trace text threads others spelled a in
    let e : None ≡ Some line = sym built ∙ ap first_unbuilt same ∙ u in
    absurd (cc)

module _ (words : List (List ℕ)) (left left_after : Option (List ℕ)) (reads reads_after losses losses_after : ℕ) (journal : List Logged)
    (taken taken_after : Option (List ℕ)) (faults faults_after : ℕ) (status : Status) where
  abbrev So : Said → Type 0
  So it = IsSaid words left left_after reads reads_after losses losses_after journal it

  abbrev Spoken : Said → Type 0
  Spoken it = Says it taken taken_after faults faults_after status

  abbrev Taken : Said → Type 0
  Taken it = has_text it ≡ true → Appends taken taken_after (text_of it)

  -- a status that blames neither the sink nor the memory is that of what is said
  spoke : (s : Status) (it : Said) → status ≡ s → s ≢ WriteFault → s ≢ Memory → Spoken it → (status_of it ≡ s) × Taken it
  spoke s it is fault memory (Says.whole e h a) = (sym e ∙ is, λ yes. a)
  spoke s it is fault memory (Says.front e h rose n a) = absurd (fault (sym is ∙ e))
  spoke s it is fault memory (Says.no_text e h same) = (sym e ∙ is, λ yes. absurd (no_yes (sym h ∙ yes)))
  spoke s it is fault memory (Says.no_memory e not same) = absurd (memory (sym is ∙ e))

  ok_from : (it : Said) → status_of it ≡ Ok → So it → Taken it → Answered words left left_after taken taken_after journal
  ok_from (said.Replies groups tail) e so a = record { shown = groups.items; tail = tail; ran = so; written = a refl }
  ok_from (said.Lost groups) e so a = absurd (cc)
  ok_from said.Usage e so a = absurd (cc)
  ok_from (said.Refused line kind) e so a = absurd (cc)
  ok_from said.ReadFault e so a = absurd (cc)
  ok_from said.Memory e so a = absurd (cc)

  pub ok : (it : Said) → So it → Spoken it → status ≡ Ok → Answered words left left_after taken taken_after journal
  ok it so says is = let sp = spoke Ok it is (λ e. cc) (λ e. cc) says in ok_from it sp.0 so sp.1

  usage_from : (it : Said) → status_of it ≡ Usage → So it → Taken it → (¬ IsServed words) × Appends taken taken_after usage_line
  usage_from said.Usage e so a = (so, a refl)
  usage_from (said.Replies groups tail) e so a = absurd (cc)
  usage_from (said.Lost groups) e so a = absurd (cc)
  usage_from (said.Refused line kind) e so a = absurd (cc)
  usage_from said.ReadFault e so a = absurd (cc)
  usage_from said.Memory e so a = absurd (cc)

  pub usage : (it : Said) → So it → Spoken it → status ≡ Usage → (¬ IsServed words) × Appends taken taken_after usage_line
  usage it so says is = let sp = spoke Usage it is (λ e. cc) (λ e. cc) says in usage_from it sp.0 so sp.1

  trace_from : (l k : ℕ) (it : Said) → status_of it ≡ Trace l k → So it → Taken it → Refused words left left_after taken taken_after l k
  trace_from l k (said.Refused line kind) e so a =
      let same_line : line ≡ l = cc in
      let same_kind : kind ≡ k = cc in
      subst (λ (n : ℕ). Refused words left left_after taken taken_after n k) same_line
      (subst (λ (n : ℕ). Refused words left left_after taken taken_after line n) same_kind (record { was = so; written = a refl }))
  trace_from l k (said.Replies groups tail) e so a = absurd (cc)
  trace_from l k (said.Lost groups) e so a = absurd (cc)
  trace_from l k said.Usage e so a = absurd (cc)
  trace_from l k said.ReadFault e so a = absurd (cc)
  trace_from l k said.Memory e so a = absurd (cc)

  pub trace : (it : Said) → So it → Spoken it → (l k : ℕ) → status ≡ Trace l k → Refused words left left_after taken taken_after l k
  trace it so says l k is = let sp = spoke (Trace l k) it is (λ e. cc) (λ e. cc) says in trace_from l k it sp.0 so sp.1

  read_from : (it : Said) → status_of it ≡ ReadFault → So it → Rose reads reads_after
  read_from said.ReadFault e so = so
  read_from (said.Replies groups tail) e so = absurd (cc)
  read_from (said.Lost groups) e so = absurd (cc)
  read_from said.Usage e so = absurd (cc)
  read_from (said.Refused line kind) e so = absurd (cc)
  read_from said.Memory e so = absurd (cc)

  pub read_fault : (it : Said) → So it → Spoken it → status ≡ ReadFault → Rose reads reads_after
  read_fault it so says is = read_from it (spoke ReadFault it is (λ e. cc) (λ e. cc) says).0 so

  lost_from : (it : Said) → status_of it ≡ DeviceLost → So it → Taken it →
      WasLost words left left_after taken taken_after losses losses_after
  lost_from (said.Lost groups) e so a = record { shown = groups.items; ran = so; written = a refl }
  lost_from (said.Replies groups tail) e so a = absurd (cc)
  lost_from said.Usage e so a = absurd (cc)
  lost_from (said.Refused line kind) e so a = absurd (cc)
  lost_from said.ReadFault e so a = absurd (cc)
  lost_from said.Memory e so a = absurd (cc)

  pub lost : (it : Said) → So it → Spoken it → status ≡ DeviceLost → WasLost words left left_after taken taken_after losses losses_after
  lost it so says is = let sp = spoke DeviceLost it is (λ e. cc) (λ e. cc) says in lost_from it sp.0 so sp.1

  no_write_fault : (it : Said) → status_of it ≡ WriteFault → ⊥
  no_write_fault said.Usage e = cc
  no_write_fault (said.Refused line kind) e = cc
  no_write_fault (said.Replies groups tail) e = cc
  no_write_fault (said.Lost groups) e = cc
  no_write_fault said.ReadFault e = cc
  no_write_fault said.Memory e = cc

  written_of : (it : Said) → So it → has_text it ≡ true → IsWritten words left left_after losses losses_after journal (text_of it)
  written_of said.Usage so has = IsWritten.usage so refl
  written_of (said.Refused line kind) so has = IsWritten.refusal line kind so refl
  written_of (said.Replies groups tail) so has = IsWritten.replies groups.items tail so refl
  written_of (said.Lost groups) so has = IsWritten.lost groups.items so refl
  written_of said.ReadFault so has = absurd (no_yes has)
  written_of said.Memory so has = absurd (no_yes has)

  pub cut_off : (it : Said) → So it → Spoken it → status ≡ WriteFault →
      Rose faults faults_after × WasCutOff words left left_after taken taken_after losses losses_after journal
  cut_off it so (Says.whole e h a) is = absurd (no_write_fault it (sym e ∙ is))
  cut_off it so (Says.front e h rose n a) is = (rose, record { text = text_of it; is_written = written_of it so h; count = n; written = a })
  cut_off it so (Says.no_text e h same) is = absurd (no_write_fault it (sym e ∙ is))
  cut_off it so (Says.no_memory e not same) is = let wrong : Memory ≡ WriteFault = sym e ∙ is in absurd (cc)

  -- any status that what is said may have, and want of memory, and a fault of the sink
  any : (P : Status → Type 0) (it : Said) → P (status_of it) → P WriteFault → P Memory → Spoken it → P status
  any P it own fault memory (Says.whole e h a) = subst P (sym e) own
  any P it own fault memory (Says.front e h rose n a) = subst P (sym e) fault
  any P it own fault memory (Says.no_text e h same) = subst P (sym e) own
  any P it own fault memory (Says.no_memory e not same) = subst P (sym e) memory

  abbrev Runs : List ℕ → Type 0
  Runs text = Brings words left text

  brought : (text came : List ℕ) (seed : ℕ) (output : Output) → Runs text → Names words seed output →
      IsBrought seed output left left_after came → came ≡ text
  brought text came seed output (Brings.source once is short) named came_so =
      whole_text text came left left_after is (brought_read words seed output left left_after came once named came_so)
  brought text came seed output (Brings.made number gen is) named came_so =
      brought_made words number seed output left left_after came gen named came_so ∙ sym is

  served : (text : List ℕ) → Runs text → IsServed words
  served text (Brings.source once is short) = inl once
  served text (Brings.made number gen is) = inr (number, gen)

  -- no text that is run is too long
  not_long : (text : List ℕ) (seed : ℕ) (output : Output) → Runs text → Names words seed output → IsTooLong output left left_after → ⊥
  not_long text seed output (Brings.source once is short) named long =
      let came = long_text output left left_after long in
      omega (arith, short, came.2, came_short text came.0 left left_after is came.1)
  not_long text seed output (Brings.made number gen is) named long = made_is_short words number seed output left left_after gen named long

  refusal_of : (text : List ℕ) (line kind l k : ℕ) → Runs text → IsRefusedAt text line kind →
      WasRefused words left left_after l k → (l ≡ line) × (k ≡ kind)
  refusal_of text line kind l k is why was =
      elim (was.refusal) [
        | inl so ↦ refused_once text l k line kind
            (subst (λ (t : List ℕ). IsRefusedAt t l k) (brought text so.0 was.seed was.output is was.named so.1) so.2) why
        | inr so ↦ absurd (not_long text was.seed was.output is was.named so.2)
      ]

  no_run : (text : List ℕ) (line kind seed : ℕ) (output : Output) (threads : List Plan) → Runs text → IsRefusedAt text line kind →
      Names words seed output → Gives seed output left left_after threads → ⊥
  no_run text line kind seed output threads is why named gave =
      exclusive text line kind threads why
      (subst (λ (t : List ℕ). Spells t threads) (brought text gave.text seed output is named gave.brought) gave.spelled) gave.built

  may_refuse : (it : Said) → So it → (text : List ℕ) (line kind : ℕ) → Runs text → IsRefusedAt text line kind →
      MayRefuse line kind (status_of it)
  may_refuse said.Usage so text line kind is why = absurd (so (served text is))
  may_refuse (said.Refused l k) so text line kind is why = refusal_of text line kind l k is why so
  may_refuse (said.Replies groups tail) so text line kind is why =
      absurd (no_run text line kind so.seed so.output so.threads is why so.named so.gave)
  may_refuse (said.Lost groups) so text line kind is why =
      absurd (no_run text line kind so.seed so.output so.threads is why so.named so.gave)
  may_refuse said.ReadFault so text line kind is why = tt
  may_refuse said.Memory so text line kind is why = tt

  pub refused : (it : Said) → So it → Spoken it → (text : List ℕ) (line kind : ℕ) → left ≡ Some text → length text ≤ 67108864 →
      SpellsOnce words → IsRefusedAt text line kind → MayRefuse line kind status
  refused it so says text line kind is short spells why =
      any (MayRefuse line kind) it (may_refuse it so text line kind (Brings.source spells is short) why) tt tt says

  pub made_refused : (it : Said) → So it → Spoken it → (number line kind : ℕ) → SpellsGen words number →
      IsRefusedAt (text_of_number number) line kind → MayRefuse line kind status
  made_refused it so says number line kind gen why =
      any (MayRefuse line kind) it (may_refuse it so (text_of_number number) line kind (Brings.made number gen refl) why) tt tt says

  too_long_came : (text came : List ℕ) → left ≡ Some text → 67108864 < length text → IsRead left left_after came → ⊥
  too_long_came text came is long r = omega (arith, r.short, ap length (whole_text text came left left_after is r))

  no_long_run : (text : List ℕ) (seed : ℕ) (output : Output) (threads : List Plan) → left ≡ Some text → 67108864 < length text →
      SpellsOnce words → Names words seed output → Gives seed output left left_after threads → ⊥
  no_long_run text seed output threads is long spells named gave =
      too_long_came text gave.text is long (brought_read words seed output left left_after gave.text spells named gave.brought)

  long_refusal : (text : List ℕ) (l k : ℕ) → left ≡ Some text → 67108864 < length text → SpellsOnce words →
      WasRefused words left left_after l k → (l ≡ 0) × (k ≡ kind_of_long)
  long_refusal text l k is long spells was =
      elim (was.refusal) [
        | inl so ↦ absurd (too_long_came text so.0 is long (brought_read words was.seed was.output left left_after so.0 spells was.named so.1))
        | inr so ↦ (so.1, so.0)
      ]

  may_refuse_long : (it : Said) → So it → (text : List ℕ) → left ≡ Some text → 67108864 < length text → SpellsOnce words →
      MayRefuseLong (status_of it)
  may_refuse_long said.Usage so text is long spells = absurd (so (inl spells))
  may_refuse_long (said.Refused l k) so text is long spells = long_refusal text l k is long spells so
  may_refuse_long (said.Replies groups tail) so text is long spells =
      absurd (no_long_run text so.seed so.output so.threads is long spells so.named so.gave)
  may_refuse_long (said.Lost groups) so text is long spells =
      absurd (no_long_run text so.seed so.output so.threads is long spells so.named so.gave)
  may_refuse_long said.ReadFault so text is long spells = tt
  may_refuse_long said.Memory so text is long spells = tt

  pub too_long : (it : Said) → So it → Spoken it → (text : List ℕ) → left ≡ Some text → 67108864 < length text → SpellsOnce words →
      MayRefuseLong status
  too_long it so says text is long spells = any MayRefuseLong it (may_refuse_long it so text is long spells) tt tt says

  no_refusal : (text : List ℕ) (threads : List Plan) (l k : ℕ) → Runs text → Spells text threads → first_unbuilt threads ≡ None →
      WasRefused words left left_after l k → ⊥
  no_refusal text threads l k is spelled built was =
      elim (was.refusal) [
        | inl so ↦ exclusive text l k threads
            (subst (λ (t : List ℕ). IsRefusedAt t l k) (brought text so.0 was.seed was.output is was.named so.1) so.2) spelled built
        | inr so ↦ not_long text was.seed was.output is was.named so.2
      ]

  may_answer : (it : Said) → So it → (text : List ℕ) (threads : List Plan) → Runs text → Spells text threads →
      first_unbuilt threads ≡ None → MayAnswer (status_of it)
  may_answer said.Usage so text threads is spelled built = absurd (so (served text is))
  may_answer (said.Refused l k) so text threads is spelled built = absurd (no_refusal text threads l k is spelled built so)
  may_answer (said.Replies groups tail) so text threads is spelled built = tt
  may_answer (said.Lost groups) so text threads is spelled built = tt
  may_answer said.ReadFault so text threads is spelled built = tt
  may_answer said.Memory so text threads is spelled built = tt

  pub answered : (it : Said) → So it → Spoken it → (text : List ℕ) (threads : List Plan) → left ≡ Some text → SpellsOnce words →
      Spells text threads → first_unbuilt threads ≡ None → MayAnswer status
  answered it so says text threads is spells spelled built =
      any MayAnswer it (may_answer it so text threads (Brings.source spells is spelled.fits) spelled built) tt tt says

  pub made_answered : (it : Said) → So it → Spoken it → (number : ℕ) (threads : List Plan) → SpellsGen words number →
      Spells (text_of_number number) threads → first_unbuilt threads ≡ None → MayAnswer status
  made_answered it so says number threads gen spelled built =
      any MayAnswer it (may_answer it so (text_of_number number) threads (Brings.made number gen refl) spelled built) tt tt says

-- what was not run, and what a run has to say

pub said_unread : (words : List (List ℕ)) (left left_after : Option (List ℕ)) (reads reads_after losses losses_after : ℕ)
    (journal : List Logged) (seed : ℕ) (output : Output) (it : Said) → Names words seed output →
    IsUnread seed output left left_after reads reads_after it → IsSaid words left left_after reads reads_after losses losses_after journal it
said_unread words left left_after reads reads_after losses losses_after journal seed output said.Usage named so = absurd so
said_unread words left left_after reads reads_after losses losses_after journal seed output (said.Refused line kind) named so =
    record { seed = seed; output = output; named = named; refusal = so }
said_unread words left left_after reads reads_after losses losses_after journal seed output (said.Replies groups tail) named so = absurd so
said_unread words left left_after reads reads_after losses losses_after journal seed output (said.Lost groups) named so = absurd so
said_unread words left left_after reads reads_after losses losses_after journal seed output said.ReadFault named so = so
said_unread words left left_after reads reads_after losses losses_after journal seed output said.Memory named so = tt

pub said_run : (words : List (List ℕ)) (left left_after : Option (List ℕ)) (reads reads_after losses losses_after : ℕ)
    (journal : List Logged) (threads : List Plan) (seed : ℕ) (output : Output) (it : Said) →
    Names words seed output → Gives seed output left left_after threads → IsRunOf threads seed output losses losses_after journal it →
    IsSaid words left left_after reads reads_after losses losses_after journal it
said_run words left left_after reads reads_after losses losses_after journal threads seed output said.Usage named gave so = absurd so
said_run words left left_after reads reads_after losses losses_after journal threads seed output (said.Refused line kind) named gave so =
    absurd so
said_run words left left_after reads reads_after losses losses_after journal threads seed output (said.Replies groups tail) named gave so =
    record { seed = seed; output = output; named = named; threads = threads; gave = gave; shows = so }
said_run words left left_after reads reads_after losses losses_after journal threads seed output (said.Lost groups) named gave so =
    record { seed = seed; output = output; named = named; threads = threads; gave = gave; shows = so }
said_run words left left_after reads reads_after losses losses_after journal threads seed output said.ReadFault named gave so = absurd so
said_run words left left_after reads reads_after losses losses_after journal threads seed output said.Memory named gave so = tt
