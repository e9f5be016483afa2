-- The text of replies.
use Rattle.std.specs.Prelude.{ℕ, ◌/◌, ◌%◌, List, [], ◌∷◌, ◌++◌, false, codes}
use Rattle.std.specs.List.{flat_map}
use Rattle.std.specs.Fmt.{decimal, digit_glyph}
use Rattle.formats.specs.declared.errors.EglError.{EglError}
use Rattle.formats.specs.declared.errors.EglError.TheVariants as egl
use Rattle.formats.specs.declared.errors.FbStatus.{FbStatus}
use Rattle.formats.specs.declared.errors.FbStatus.TheVariants as fb
use Rattle.gl_calls.specs.declared.reply.GlError.{GlError}
use Rattle.gl_calls.specs.declared.reply.GlError.TheVariants as gl
use Rattle.gl_calls.specs.declared.reply.Waited.{Waited}
use Rattle.gl_calls.specs.declared.reply.Waited.TheVariants as waited
use Rattle.gl_calls.specs.declared.reply.Reply.{Reply}
use Rattle.gl_calls.specs.declared.reply.Reply.TheVariants as reply
use Rattle.gl_calls.specs.declared.reply.Entry.{Entry}
use Rattle.reply_text.specs.declared.history.GroupHistory.{GroupHistory}
use Rattle.reply_text.specs.declared.history.Counts.{Counts}
use Rattle.reply_text.specs.declared.history.Tail.{Tail}
use Rattle.reply_text.specs.declared.history.Tail.TheVariants as tail

abbrev pub gl_error_name : GlError → List ℕ
gl_error_name gl.NoError = codes "NO_ERROR"
gl_error_name gl.InvalidEnum = codes "INVALID_ENUM"
gl_error_name gl.InvalidValue = codes "INVALID_VALUE"
gl_error_name gl.InvalidOperation = codes "INVALID_OPERATION"
gl_error_name gl.InvalidFramebufferOperation = codes "INVALID_FRAMEBUFFER_OPERATION"
gl_error_name gl.OutOfMemory = codes "OUT_OF_MEMORY"

abbrev pub egl_error_name : EglError → List ℕ
egl_error_name egl.Success = codes "SUCCESS"
egl_error_name egl.BadAlloc = codes "BAD_ALLOC"
egl_error_name egl.BadContext = codes "BAD_CONTEXT"
egl_error_name egl.BadAccess = codes "BAD_ACCESS"
egl_error_name egl.BadMatch = codes "BAD_MATCH"
egl_error_name egl.BadParameter = codes "BAD_PARAMETER"

abbrev pub status_name : FbStatus → List ℕ
status_name fb.Complete = codes "FRAMEBUFFER_COMPLETE"
status_name fb.Undefined = codes "FRAMEBUFFER_UNDEFINED"
status_name fb.IncompleteAttachment = codes "INCOMPLETE_ATTACHMENT"
status_name fb.IncompleteMissingAttachment = codes "INCOMPLETE_MISSING_ATTACHMENT"
status_name fb.Unsupported = codes "FRAMEBUFFER_UNSUPPORTED"

abbrev pub waited_name : Waited → List ℕ
waited_name waited.AlreadySignaled = codes "ALREADY_SIGNALED"
waited_name waited.TimeoutExpired = codes "TIMEOUT_EXPIRED"
waited_name waited.ConditionSatisfied = codes "CONDITION_SATISFIED"

abbrev pub name_text : ℕ → List ℕ
name_text name = 32 ∷ decimal name

-- two digits in lower case
abbrev pub byte_text : ℕ → List ℕ
byte_text byte = digit_glyph false (byte / 16) ∷ digit_glyph false (byte % 16) ∷ []

-- no bytes are a single `-`
abbrev pub bytes_text : List ℕ → List ℕ
bytes_text [] = codes "-"
bytes_text (b ∷ bs) = flat_map byte_text (b ∷ bs)

abbrev pub reply_text : Reply → List ℕ
reply_text reply.Done = codes "ok"
reply_text (reply.GlFault error) = codes "err " ++ gl_error_name error
reply_text (reply.EglFault error) = codes "err " ++ egl_error_name error
reply_text reply.NoContext = codes "no-context"
reply_text reply.NoMap = codes "no-map"
reply_text reply.BadPointer = codes "bad-pointer"
reply_text reply.Taken = codes "taken"
reply_text (reply.Names names) = codes "names" ++ flat_map name_text names
reply_text (reply.Bytes bytes) = codes "bytes " ++ bytes_text bytes
reply_text (reply.Status status) = codes "status " ++ status_name status
reply_text (reply.GlFlag error) = codes "value " ++ gl_error_name error
reply_text (reply.EglFlag error) = codes "value " ++ egl_error_name error
reply_text reply.True = codes "value TRUE"
reply_text (reply.Limit n) = codes "value " ++ decimal n
reply_text (reply.Waited answer) = codes "value " ++ waited_name answer
reply_text reply.WaitFailed = codes "value WAIT_FAILED INVALID_VALUE"

-- thread, line number and reply
abbrev pub entry_text : Entry → List ℕ
entry_text entry = decimal entry.thread ++ 32 ∷ decimal entry.line ++ 32 ∷ reply_text entry.reply ++ 10 ∷ []

abbrev pub group_text : GroupHistory → List ℕ
group_text history = codes "group " ++ decimal history.group ++ 10 ∷ flat_map entry_text history.entries.items

-- a word and a number
unfoldable pub count_line : List ℕ → ℕ → List ℕ
count_line word count = word ++ 32 ∷ decimal count ++ 10 ∷ []

unfoldable pub history_counts : Counts → List ℕ
history_counts counts = count_line (codes "calls") counts.calls ++ count_line (codes "errors") counts.errors

unfoldable pub work_counts : Counts → List ℕ
work_counts counts =
    count_line (codes "uploads") counts.uploads ++ count_line (codes "batches") counts.batches ++ count_line (codes "nodes") counts.nodes ++ count_line (codes "barriers") counts.barriers

unfoldable pub object_counts : Counts → List ℕ
object_counts counts = count_line (codes "created") counts.created ++ count_line (codes "destroyed") counts.destroyed

unfoldable pub summary_text : Counts → List ℕ
summary_text counts = codes "summary" ++ 10 ∷ history_counts counts ++ work_counts counts ++ object_counts counts

abbrev pub tail_text : Tail → List ℕ
tail_text tail.End = codes "end" ++ 10 ∷ []
tail_text (tail.Summary counts) = summary_text counts ++ codes "end" ++ 10 ∷ []
tail_text tail.Lost = codes "lost" ++ 10 ∷ []

abbrev pub replies_text : List GroupHistory → Tail → List ℕ
replies_text histories tail = codes "angle-reply 1" ++ 10 ∷ flat_map group_text histories ++ tail_text tail
