-- What a run of the program does with its source, its sink and its device.
use Rattle.std.specs.Prelude.{◌≡◌, ◌≢◌, ◌⊎◌, ℕ, ◌<◌, ◌≤◌, List, [], ◌∷◌, ◌++◌, length, take, codes, Bool, true, false}
use Rattle.std.specs.Prelude.{Option, Some, None, Err}
use Rattle.std.specs.Fmt.{decimal}
use Rattle.std.specs.Io.KnownBytes.{Appends, Consumes, IsAtEnd}
use Rattle.trace_io.specs.declared.status.Status.{Status}
use Rattle.trace_io.specs.declared.status.Status.TheVariants.{Ok, Usage, Trace, ReadFault, WriteFault, DeviceLost, Memory}
use Rattle.vk_device.specs.declared.logged.Logged.{Logged}
use Rattle.faults.specs.Faults.{Rose}
use Rattle.command_line.specs.declared.command.Command.{Command}
use Rattle.command_line.specs.declared.command.Command.TheVariants.{Once, Gen}
use Rattle.command_line.specs.Commands as commands
use Rattle.trace_text.specs.declared.stop.ParseStop.{ParseStop}
use Rattle.trace_text.specs.declared.stop.ParseStop.TheVariants as stops
use Rattle.trace_text.specs.Reading.{Plan, trace_of}
use Rattle.trace_text.specs.Traces.{Spells}
use Rattle.reply_text.specs.declared.history.GroupHistory.{GroupHistory}
use Rattle.reply_text.specs.declared.history.Tail.{Tail}
use Rattle.reply_text.specs.declared.history.Tail.TheVariants.{End, Summary, Lost}
use Rattle.reply_text.specs.Replies.{replies_text}
use Rattle.trace_gen.specs.Generated.{generated_text, words_of_number}
use Rattle.trace_run.specs.declared.saying.Output.{Output}
use Rattle.trace_run.specs.declared.saying.Output.TheVariants as output
use Rattle.trace_run.specs.declared.saying.Said.{Said}
use Rattle.trace_run.specs.declared.saying.Said.TheVariants as said
use Rattle.run_summary.specs.Counting.{counts_of}
use Rattle.trace_run.specs.Runs.{first_unbuilt, AnswersFirst, RanAll}

-- the command that has this seed, or makes the trace of this number, and writes this of the run
abbrev pub command_for : ℕ → Output → Command
command_for seed output.Replies = Once seed false
command_for seed output.RepliesAndSummary = Once seed true
command_for number output.SummaryAlone = Gen number

-- the words of a command that is served, with its seed and with what is written of the run
abbrev pub Names : List (List ℕ) → ℕ → Output → Type 0
Names words seed output = commands.Spells words (command_for seed output)

-- the words of the command `once`, with a summary or without
abbrev pub SpellsOnce : List (List ℕ) → Type 0
SpellsOnce words = (seed : ℕ) × (summary : Bool) × commands.Spells words (Once seed summary)

-- the words of the command `gen` of this number
abbrev pub SpellsGen : List (List ℕ) → ℕ → Type 0
SpellsGen words number = commands.Spells words (Gen number)

-- the words of a command that is served
abbrev pub IsServed : List (List ℕ) → Type 0
IsServed words = SpellsOnce words ⊎ ((number : ℕ) × SpellsGen words number)

abbrev pub line_feed : List ℕ
line_feed = 10 ∷ []

abbrev pub usage_line : List ℕ
usage_line = codes "usage: angle_run once --seed N [--summary] | threads --workers N | gen N" ++ line_feed

unfoldable pub refused_text : ℕ → ℕ → List ℕ
refused_text line kind = codes "angle-reply 1" ++ line_feed ++ codes "refused " ++ decimal line ++ codes " " ++ decimal kind ++ line_feed

-- all that the source gave, which is not too long
pub record IsRead (left left_after : Option (List ℕ)) (text : List ℕ) : Type 0 where
  pub read : Consumes left left_after text
  pub ended : IsAtEnd left_after
  pub short : length text ≤ 67108864

-- the text of the trace of this number
abbrev pub text_of_number : ℕ → List ℕ
text_of_number number = generated_text (words_of_number number)

-- The text that is run: of `once` all that the source gave, and of `gen` that of the number's trace, for which nothing is read.
abbrev pub IsBrought : ℕ → Output → Option (List ℕ) → Option (List ℕ) → List ℕ → Type 0
IsBrought seed output.Replies left left_after text = IsRead left left_after text
IsBrought seed output.RepliesAndSummary left left_after text = IsRead left left_after text
IsBrought number output.SummaryAlone left left_after text = (left_after ≡ left) × (text ≡ text_of_number number)

-- The text that is run spells a trace each of whose calls is built.
pub record Gives (seed : ℕ) (output : Output) (left left_after : Option (List ℕ)) (threads : List Plan) : Type 0 where
  pub text : List ℕ
  pub brought : IsBrought seed output left left_after text
  pub spelled : Spells text threads
  pub built : first_unbuilt threads ≡ None

-- the histories that are written: of `gen` none
abbrev pub shown_of : Output → List GroupHistory → List GroupHistory
shown_of output.Replies groups = groups
shown_of output.RepliesAndSummary groups = groups
shown_of output.SummaryAlone groups = []

-- the end of the text of replies, where all lines were answered: with the counts of the run, if a summary was asked for
abbrev pub tail_of : Output → List GroupHistory → List Logged → Tail
tail_of output.Replies groups journal = End
tail_of output.RepliesAndSummary groups journal = Summary (counts_of groups journal)
tail_of output.SummaryAlone groups journal = Summary (counts_of groups journal)

-- All lines of a trace were answered, and this is what there is to write of it.
pub record Shows (threads : List Plan) (seed : ℕ) (output : Output) (journal : List Logged) (shown : List GroupHistory) (tail : Tail)
    : Type 0 where
  pub groups : List GroupHistory
  pub ran : RanAll threads seed groups journal
  pub shown_is : shown ≡ shown_of output groups
  pub tail_is : tail ≡ tail_of output groups journal

-- The first calls of the schedule were answered, then the device was lost, and this is what there is to write of it.
pub record ShowsFirst (threads : List Plan) (seed : ℕ) (output : Output) (losses losses_after : ℕ) (shown : List GroupHistory)
    : Type 0 where
  pub groups : List GroupHistory
  pub answers : AnswersFirst threads seed groups
  pub shown_is : shown ≡ shown_of output groups
  pub rose : Rose losses losses_after

-- Such a trace came, and all its lines were answered, in the order of the schedule that the words name.
pub record RanWhole (words : List (List ℕ)) (left left_after : Option (List ℕ)) (shown : List GroupHistory) (tail : Tail)
    (journal : List Logged) : Type 0 where
  pub seed : ℕ
  pub output : Output
  pub named : Names words seed output
  pub threads : List Plan
  pub gave : Gives seed output left left_after threads
  pub shows : Shows threads seed output journal shown tail

-- all lines of the trace were answered, and the sink took what there is to write of it
pub record Answered (words : List (List ℕ)) (left left_after taken taken_after : Option (List ℕ)) (journal : List Logged) : Type 0 where
  pub shown : List GroupHistory
  pub tail : Tail
  pub ran : RanWhole words left left_after shown tail journal
  pub written : Appends taken taken_after (replies_text shown tail)

-- the first calls of the schedule were answered, and then the device was lost
pub record RanUntilLost (words : List (List ℕ)) (left left_after : Option (List ℕ)) (losses losses_after : ℕ)
    (shown : List GroupHistory) : Type 0 where
  pub seed : ℕ
  pub output : Output
  pub named : Names words seed output
  pub threads : List Plan
  pub gave : Gives seed output left left_after threads
  pub shows : ShowsFirst threads seed output losses losses_after shown

-- The device was lost. The sink took the replies so far, of `gen` none, and then that it was lost.
pub record WasLost (words : List (List ℕ)) (left left_after taken taken_after : Option (List ℕ)) (losses losses_after : ℕ) : Type 0 where
  pub shown : List GroupHistory
  pub ran : RanUntilLost words left left_after losses losses_after shown
  pub written : Appends taken taken_after (replies_text shown Lost)

-- the kinds of refusal beside the faults of a line: too many bytes came, and the trace is none that is served
abbrev pub kind_of_long : ℕ
kind_of_long = 8

abbrev pub kind_of_unbuilt : ℕ
kind_of_unbuilt = 10

-- where and why a text is refused: its first fault, or the first line of its trace that is not built
pub data IsRefusedAt (text : List ℕ) (line kind : ℕ) : Type 0 where
  fault : trace_of text ≡ Err (record { line = line; kind = kind }) → IsRefusedAt text line kind
  unbuilt : (threads : List Plan) → Spells text threads → first_unbuilt threads ≡ Some line → kind ≡ kind_of_unbuilt →
      IsRefusedAt text line kind

-- why a text is not served: it is refused at a line, or memory ran out
abbrev pub StopsAt : List ℕ → ParseStop → Type 0
StopsAt text stops.Memory = Unit {0}
StopsAt text (stops.Fault line kind) = IsRefusedAt text line kind

-- more than 67,108,864 bytes came, where the source is read
abbrev pub IsTooLong : Output → Option (List ℕ) → Option (List ℕ) → Type 0
IsTooLong output.Replies left left_after = (text : List ℕ) × Consumes left left_after text × (67108864 < length text)
IsTooLong output.RepliesAndSummary left left_after = (text : List ℕ) × Consumes left left_after text × (67108864 < length text)
IsTooLong output.SummaryAlone left left_after = ⊥

-- why no trace is run: the text that is to be run is refused, or too much came
abbrev pub IsRefusal : (seed : ℕ) (output : Output) (left left_after : Option (List ℕ)) (line kind : ℕ) → Type 0
IsRefusal seed output left left_after line kind =
    ((text : List ℕ) × IsBrought seed output left left_after text × IsRefusedAt text line kind)
    ⊎ ((kind ≡ kind_of_long) × (line ≡ 0) × IsTooLong output left left_after)

-- the same of the command that the words spell
pub record WasRefused (words : List (List ℕ)) (left left_after : Option (List ℕ)) (line kind : ℕ) : Type 0 where
  pub seed : ℕ
  pub output : Output
  pub named : Names words seed output
  pub refusal : IsRefusal seed output left left_after line kind

-- the text was refused, and the sink was told so
pub record Refused (words : List (List ℕ)) (left left_after taken taken_after : Option (List ℕ)) (line kind : ℕ) : Type 0 where
  pub was : WasRefused words left left_after line kind
  pub written : Appends taken taken_after (refused_text line kind)

-- a text that a run has to write: the usage line, a refusal, the replies to all lines, or those until the device was lost
pub data IsWritten (words : List (List ℕ)) (left left_after : Option (List ℕ)) (losses losses_after : ℕ) (journal : List Logged)
    (text : List ℕ) : Type 0 where
  usage : ¬ IsServed words → text ≡ usage_line → IsWritten words left left_after losses losses_after journal text
  refusal : (line kind : ℕ) → WasRefused words left left_after line kind → text ≡ refused_text line kind →
      IsWritten words left left_after losses losses_after journal text
  replies : (shown : List GroupHistory) (tail : Tail) → RanWhole words left left_after shown tail journal →
      text ≡ replies_text shown tail →
      IsWritten words left left_after losses losses_after journal text
  lost : (shown : List GroupHistory) → RanUntilLost words left left_after losses losses_after shown → text ≡ replies_text shown Lost →
      IsWritten words left left_after losses losses_after journal text

-- the sink took some front of such a text
pub record WasCutOff (words : List (List ℕ)) (left left_after taken taken_after : Option (List ℕ)) (losses losses_after : ℕ)
    (journal : List Logged) : Type 0 where
  pub text : List ℕ
  pub is_written : IsWritten words left left_after losses losses_after journal text
  pub count : ℕ
  pub written : Appends taken taken_after (take count text)

-- What is said

-- why no trace came is so
abbrev pub IsUnread : (seed : ℕ) (output : Output) (left left_after : Option (List ℕ)) (reads reads_after : ℕ) → Said → Type 0
IsUnread seed output left left_after reads reads_after said.Usage = ⊥
IsUnread seed output left left_after reads reads_after (said.Refused line kind) = IsRefusal seed output left left_after line kind
IsUnread seed output left left_after reads reads_after (said.Replies groups tail) = ⊥
IsUnread seed output left left_after reads reads_after (said.Lost groups) = ⊥
IsUnread seed output left left_after reads reads_after said.ReadFault = Rose reads reads_after
IsUnread seed output left left_after reads reads_after said.Memory = Unit {0}

-- what a run of these threads has to say is so
abbrev pub IsRunOf : (threads : List Plan) (seed : ℕ) (output : Output) (losses losses_after : ℕ) (journal : List Logged) → Said → Type 0
IsRunOf threads seed output losses losses_after journal said.Usage = ⊥
IsRunOf threads seed output losses losses_after journal (said.Refused line kind) = ⊥
IsRunOf threads seed output losses losses_after journal (said.Replies groups tail) = Shows threads seed output journal groups.items tail
IsRunOf threads seed output losses losses_after journal (said.Lost groups) =
    ShowsFirst threads seed output losses losses_after groups.items
IsRunOf threads seed output losses losses_after journal said.ReadFault = ⊥
IsRunOf threads seed output losses losses_after journal said.Memory = Unit {0}

-- what there is to say is so
abbrev pub IsSaid : (words : List (List ℕ)) (left left_after : Option (List ℕ)) (reads reads_after losses losses_after : ℕ)
    (journal : List Logged) → Said → Type 0
IsSaid words left left_after reads reads_after losses losses_after journal said.Usage = ¬ IsServed words
IsSaid words left left_after reads reads_after losses losses_after journal (said.Refused line kind) =
    WasRefused words left left_after line kind
IsSaid words left left_after reads reads_after losses losses_after journal (said.Replies groups tail) =
    RanWhole words left left_after groups.items tail journal
IsSaid words left left_after reads reads_after losses losses_after journal (said.Lost groups) =
    RanUntilLost words left left_after losses losses_after groups.items
IsSaid words left left_after reads reads_after losses losses_after journal said.ReadFault = Rose reads reads_after
IsSaid words left left_after reads reads_after losses losses_after journal said.Memory = Unit {0}

abbrev pub text_of : Said → List ℕ
text_of said.Usage = usage_line
text_of (said.Refused line kind) = refused_text line kind
text_of (said.Replies groups tail) = replies_text groups.items tail
text_of (said.Lost groups) = replies_text groups.items Lost
text_of said.ReadFault = []
text_of said.Memory = []

-- the status where all of the text was taken
abbrev pub status_of : Said → Status
status_of said.Usage = Usage
status_of (said.Refused line kind) = Trace line kind
status_of (said.Replies groups tail) = Ok
status_of (said.Lost groups) = DeviceLost
status_of said.ReadFault = ReadFault
status_of said.Memory = Memory

abbrev pub has_text : Said → Bool
has_text said.Usage = true
has_text (said.Refused line kind) = true
has_text (said.Replies groups tail) = true
has_text (said.Lost groups) = true
has_text said.ReadFault = false
has_text said.Memory = false

-- a text was written: all of it, or some front of it where a fault of the sink was counted
pub data Puts (text : List ℕ) (good : Status) (taken taken_after : Option (List ℕ)) (faults faults_after : ℕ)
    (status : Status) : Type 0 where
  all : status ≡ good → Appends taken taken_after text → Puts text good taken taken_after faults faults_after status
  some : status ≡ WriteFault → Rose faults faults_after → (n : ℕ) → Appends taken taken_after (take n text) →
      Puts text good taken taken_after faults faults_after status

-- What the sink took of it, and the status: the whole text, some front of it where a fault of the sink was counted, or
-- nothing where there is no text or no memory for it. The usage line takes none.
pub data Says (it : Said) (taken taken_after : Option (List ℕ)) (faults faults_after : ℕ) (status : Status) : Type 0 where
  whole : status ≡ status_of it → has_text it ≡ true → Appends taken taken_after (text_of it) →
      Says it taken taken_after faults faults_after status
  front : status ≡ WriteFault → has_text it ≡ true → Rose faults faults_after → (n : ℕ) → Appends taken taken_after (take n (text_of it)) →
      Says it taken taken_after faults faults_after status
  no_text : status ≡ status_of it → has_text it ≡ false → taken_after ≡ taken → Says it taken taken_after faults faults_after status
  no_memory : status ≡ Memory → it ≢ said.Usage → taken_after ≡ taken → Says it taken taken_after faults faults_after status

-- How a run may end

-- how a run may end on a text that is refused at this line, for this kind of reason
abbrev pub MayRefuse : (line kind : ℕ) → Status → Type 0
MayRefuse line kind (Trace l k) = (l ≡ line) × (k ≡ kind)
MayRefuse line kind ReadFault = Unit {0}
MayRefuse line kind WriteFault = Unit {0}
MayRefuse line kind Memory = Unit {0}
MayRefuse line kind Ok = ⊥
MayRefuse line kind Usage = ⊥
MayRefuse line kind DeviceLost = ⊥

-- how a run may end on a text that is too long
abbrev pub MayRefuseLong : Status → Type 0
MayRefuseLong (Trace l k) = (l ≡ 0) × (k ≡ kind_of_long)
MayRefuseLong ReadFault = Unit {0}
MayRefuseLong WriteFault = Unit {0}
MayRefuseLong Memory = Unit {0}
MayRefuseLong Ok = ⊥
MayRefuseLong Usage = ⊥
MayRefuseLong DeviceLost = ⊥

-- how a run may end on a trace that is served
abbrev pub MayAnswer : Status → Type 0
MayAnswer (Trace l k) = ⊥
MayAnswer ReadFault = Unit {0}
MayAnswer WriteFault = Unit {0}
MayAnswer Memory = Unit {0}
MayAnswer Ok = Unit {0}
MayAnswer Usage = ⊥
MayAnswer DeviceLost = Unit {0}
