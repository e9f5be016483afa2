-- Legal histories: each call has a reply that OpenGL ES and EGL give to it.
use Rattle.std.specs.Prelude.{ℕ, ◌+◌, ◌==◌, unsigned_abs, Bool, true, false, Option, Some, None, List, [], ◌∷◌, ◌≡◌, ◌⊎◌, if◌then◌else◌, unwrap_or}
use Rattle.std.specs.Option.{option_map_or}
use Rattle.cells.specs.Contents.{Content, Agrees, part}
use Rattle.formats.specs.declared.errors.EglError.TheVariants.{Success}
use Rattle.gl_calls.specs.declared.reply.GlError.{GlError}
use Rattle.gl_calls.specs.declared.reply.GlError.TheVariants.{NoError, InvalidEnum, InvalidValue, InvalidOperation, InvalidFramebufferOperation, OutOfMemory}
use Rattle.gl_calls.specs.declared.reply.Waited.TheVariants.{AlreadySignaled, TimeoutExpired, ConditionSatisfied}
use Rattle.gl_calls.specs.declared.reply.Reply.{Reply}
use Rattle.gl_calls.specs.declared.reply.Reply.TheVariants as reply
use Rattle.gl_calls.specs.declared.reply.Entry.{Entry}
use Rattle.gl_calls.specs.declared.call.Call.{Call}
use Rattle.gl_calls.specs.declared.call.Call.TheVariants as call
use Rattle.gl_calls.specs.declared.call.PixelDestination.TheVariants as destination
use Rattle.gl_calls.specs.declared.words.ObjectKind.{ObjectKind}
use Rattle.gl_calls.specs.declared.words.ObjectKind.TheVariants as kinds
use Rattle.gl_calls.specs.Words.{limit_of}
use Rattle.tables.specs.Table.{Entries, entry}
use Rattle.gl_model.specs.GroupState.{Context, GroupState}
use Rattle.gl_model.specs.Bindings.{current_entry, current_context, buffer_binding, framebuffer_name, framebuffer_of, status_of, read_attachment}
use Rattle.gl_model.specs.Refusal.{refusal, read_framebuffer}
use Rattle.gl_model.specs.GroupEffect.{lowest_unused, with_context, with_egl_error}
use Rattle.gl_model.specs.GroupModel.{GroupModel, Fence, opening}
use Rattle.gl_model.specs.ImageEffect.{read_cells}
use Rattle.gl_model.specs.Effect.{effect, store_of, map_place, picture_of, signal_until}

-- Refused calls change the errors alone

abbrev pub with_gl_error : GlError → Context → Context
with_gl_error error context = record context { error = noted context.error }
  where
    noted : GlError → GlError
    noted NoError = error
    noted InvalidEnum = InvalidEnum
    noted InvalidValue = InvalidValue
    noted InvalidOperation = InvalidOperation
    noted InvalidFramebufferOperation = InvalidFramebufferOperation
    noted OutOfMemory = OutOfMemory

abbrev pub note_gl_error : GroupState → ℕ → GlError → GroupState
note_gl_error group thread error =
    option_map_or (λ e. with_context group e.0 (with_gl_error error e.1)) (current_entry group thread) group

-- the group after a call was refused by a reply
abbrev pub refused_group : GroupState → ℕ → Reply → GroupState
refused_group group thread (reply.GlFault error) = note_gl_error group thread error
refused_group group thread (reply.EglFault error) = with_egl_error group thread error
refused_group group thread reply.WaitFailed = note_gl_error group thread InvalidValue
refused_group group thread _ = group

abbrev pub refused : GroupModel → ℕ → Reply → GroupModel
refused state thread answer = record state { group = refused_group state.group thread answer }

-- The replies of accepted calls

-- bytes that agree with what is read
abbrev pub AnswersBytes : Reply → Content → Type 0
AnswersBytes (reply.Bytes bytes) content = Agrees bytes content
AnswersBytes _ content = ⊥

abbrev pub fence_of : Entries Fence → ℕ → Bool
fence_of fences number = option_map_or (λ f. f.signalled) (entry number fences) false

-- A wait for a sync that is known to be signalled says so. Else a poll may say so or not, and a wait that may wait ends with the sync signalled.
abbrev pub AnswersWait : Reply → Bool → ℕ → Type 0
AnswersWait answer true timeout = answer ≡ reply.Waited AlreadySignaled
AnswersWait answer false timeout =
    (answer ≡ reply.Waited AlreadySignaled) ⊎ (answer ≡ reply.Waited (if timeout == 0 then TimeoutExpired else ConditionSatisfied))

-- EGL answers CONDITION_SATISFIED in both cases.
abbrev pub AnswersEglWait : Reply → Bool → ℕ → Type 0
AnswersEglWait answer true timeout = answer ≡ reply.Waited ConditionSatisfied
AnswersEglWait answer false timeout =
    (answer ≡ reply.Waited ConditionSatisfied) ⊎ (answer ≡ reply.Waited (if timeout == 0 then TimeoutExpired else ConditionSatisfied))

-- what a read through the map gives
abbrev pub mapped_cells : GroupModel → Context → Option ℕ → ℕ → ℕ → Content
mapped_cells state context None at len = []
mapped_cells state context (Some b) at len =
    part (store_of state b).cells (map_place (entry b state.group.buffers) at) len

abbrev pub generated_names : GroupState → Context → ObjectKind → ℕ → List ℕ
generated_names group context kinds.Buffer n = lowest_unused group.buffer_names.objects n
generated_names group context kinds.Texture n = lowest_unused group.texture_names.objects n
generated_names group context kinds.Renderbuffer n = lowest_unused group.renderbuffer_names.objects n
generated_names group context kinds.Framebuffer n = lowest_unused context.framebuffers n

-- the reply to an accepted call of OpenGL ES
abbrev pub GlAnswers : GroupModel → Context → Call → Reply → Type 0
GlAnswers state context call.GetError answer = answer ≡ reply.GlFlag context.error
GlAnswers state context (call.GetInteger limit) answer = answer ≡ reply.Limit (limit_of limit)
GlAnswers state context (call.Gen kind count) answer = answer ≡ reply.Names (generated_names state.group context kind (unsigned_abs count))
GlAnswers state context (call.UnmapBuffer target) answer = answer ≡ reply.True
GlAnswers state context (call.MapRead target offset len) answer =
    AnswersBytes answer (mapped_cells state context (buffer_binding context target) (unsigned_abs offset) (unsigned_abs len))
GlAnswers state context (call.CheckFramebufferStatus target) answer =
    answer ≡ reply.Status (status_of state.group (framebuffer_of context (framebuffer_name context target)))
GlAnswers state context (call.ReadPixels x y width height pixels kind destination.Client) answer =
    AnswersBytes answer (option_map_or (λ read. read_cells read pixels kind x y (unsigned_abs width) (unsigned_abs height))
    (picture_of state (read_attachment (read_framebuffer context))) [])
GlAnswers state context (call.ClientWaitSync number flags timeout) answer = AnswersWait answer (fence_of state.fences number) timeout
GlAnswers state context _ answer = answer ≡ reply.Done

abbrev pub GlAnswersIn : GroupModel → Option Context → Call → Reply → Type 0
GlAnswersIn state None asked answer = ⊥
GlAnswersIn state (Some context) asked answer = GlAnswers state context asked answer

-- the reply to an accepted call
abbrev pub Answers : GroupModel → ℕ → Call → Reply → Type 0
Answers state thread (call.CreateContext number) answer = answer ≡ reply.Done
Answers state thread (call.DestroyContext number) answer = answer ≡ reply.Done
Answers state thread (call.MakeCurrent number) answer = answer ≡ reply.Done
Answers state thread call.EglGetError answer = answer ≡ reply.EglFlag (unwrap_or (entry thread state.group.threads) Success)
Answers state thread (call.CreateSync number) answer = answer ≡ reply.Done
Answers state thread (call.EglClientWaitSync number flush timeout) answer = AnswersEglWait answer (fence_of state.egl_fences number) timeout
Answers state thread (call.DestroySync number) answer = answer ≡ reply.Done
Answers state thread asked answer = GlAnswersIn state (current_context state.group thread) asked answer

-- What a wait's answer tells

abbrev pub says_signalled : Reply → Bool
says_signalled (reply.Waited AlreadySignaled) = true
says_signalled (reply.Waited TimeoutExpired) = false
says_signalled (reply.Waited ConditionSatisfied) = true
says_signalled _ = false

abbrev pub signal_fence : Option Fence → GroupModel → GroupModel
signal_fence None state = state
signal_fence (Some f) state = signal_until f.context f.place state

-- An answer that a sync is signalled says it of the earlier syncs of its context too.
abbrev pub told : GroupModel → Call → Reply → GroupModel
told state (call.ClientWaitSync number flags timeout) answer =
    if says_signalled answer then signal_fence (entry number state.fences) state else state
told state (call.EglClientWaitSync number flush timeout) answer =
    if says_signalled answer then signal_fence (entry number state.egl_fences) state else state
told state _ answer = state

-- Histories

-- the reply is the refusal where there is one, and else one of an accepted call
abbrev pub RepliesBy : Option Reply → GroupModel → Entry → Type 0
RepliesBy None state e = Answers state e.thread e.call e.reply
RepliesBy (Some answer) state e = e.reply ≡ answer

-- an entry is a step of a state: its reply is one that its call may have there
abbrev pub Step : GroupModel → Entry → Type 0
Step state e = RepliesBy (refusal state.group e.thread e.call) state e

-- the state after an entry, which stands at a place of the history
abbrev pub after_entry : GroupModel → Entry → ℕ → GroupModel
after_entry state e place =
    option_map_or (λ answer. refused state e.thread answer) (refusal state.group e.thread e.call)
    (told (effect state e.thread e.call place) e.call e.reply)

abbrev pub state_after : GroupModel → ℕ → List Entry → GroupModel
state_after state place [] = state
state_after state place (e ∷ rest) = state_after (after_entry state e place) (place + 1) rest

abbrev pub IsLegalFrom : GroupModel → ℕ → List Entry → Type 0
IsLegalFrom state place [] = Unit {0}
IsLegalFrom state place (e ∷ rest) = Step state e × IsLegalFrom (after_entry state e place) (place + 1) rest

-- a legal history of the declared threads of a share group
abbrev pub IsLegal : List ℕ → List Entry → Type 0
IsLegal threads history = IsLegalFrom (opening threads) 0 history
