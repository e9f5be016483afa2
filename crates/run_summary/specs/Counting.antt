-- What a summary counts: the lines of the histories, and the entries of the device's journal.
use Rattle.std.specs.Prelude.{ℕ, ◌-◌, ◌^◌, min, Bool, true, false, List, length, map, sum, is_some, is_none}
use Rattle.std.specs.List.{count_by}
use Rattle.std.specs.Option.{option_map_or}
use Rattle.gl_calls.specs.declared.reply.Reply.{Reply}
use Rattle.gl_calls.specs.declared.reply.Reply.TheVariants as reply
use Rattle.vk_types.specs.declared.batches.Batch.{Batch}
use Rattle.vk_types.specs.Touches.{barrier_of}
use Rattle.vk_device.specs.declared.logged.Logged.{Logged}
use Rattle.vk_device.specs.declared.logged.Logged.TheVariants.{Created, Submitted, Ran, Destroyed}
use Rattle.vk_device.specs.Journal.{accepted, node_at}
use Rattle.back_core.specs.Frame.{host_bytes}
use Rattle.reply_text.specs.declared.history.GroupHistory.{GroupHistory}
use Rattle.reply_text.specs.declared.history.Counts.{Counts}

-- a number, or the greatest of the type where it is larger
abbrev pub capped : ℕ → ℕ
capped count = min count (2 ^ 64 - 1)

-- a reply that is written with `err`, or as a wait that failed
abbrev pub is_error : Reply → Bool
is_error reply.Done = false
is_error (reply.GlFault error) = true
is_error (reply.EglFault error) = true
is_error reply.NoContext = false
is_error reply.NoMap = false
is_error reply.BadPointer = false
is_error reply.Taken = false
is_error (reply.Names names) = false
is_error (reply.Bytes bytes) = false
is_error (reply.Status status) = false
is_error (reply.GlFlag error) = false
is_error (reply.EglFlag error) = false
is_error reply.True = false
is_error (reply.Limit limit) = false
is_error (reply.Waited answer) = false
is_error reply.WaitFailed = true

abbrev pub calls_in : GroupHistory → ℕ
calls_in history = length history.entries.items

abbrev pub errors_in : GroupHistory → ℕ
errors_in history = count_by (λ e. is_error e.reply) history.entries.items

abbrev pub is_submit : Logged → Bool
is_submit (Submitted batch) = true
is_submit _ = false

abbrev pub is_create : Logged → Bool
is_create (Created id kind) = true
is_create _ = false

abbrev pub is_destroy : Logged → Bool
is_destroy (Destroyed id) = true
is_destroy _ = false

-- the run of a node of these batches that is no barrier
abbrev pub runs_a_node : List Batch → Logged → Bool
runs_a_node batches (Ran batch node) = option_map_or (λ n. is_none (barrier_of n)) (node_at batches batch node) false
runs_a_node batches _ = false

-- the run of a barrier of these batches
abbrev pub runs_a_barrier : List Batch → Logged → Bool
runs_a_barrier batches (Ran batch node) = option_map_or (λ n. is_some (barrier_of n)) (node_at batches batch node) false
runs_a_barrier batches _ = false

-- calls and those refused with an error, bytes of host writes, submits, executed nodes that are no barriers, executed barriers, creates and
-- destroys
abbrev pub counts_of : List GroupHistory → List Logged → Counts
counts_of groups journal = record {
  calls = capped (sum (map calls_in groups));
  errors = capped (sum (map errors_in groups));
  uploads = capped (host_bytes journal);
  batches = count_by is_submit journal;
  nodes = count_by (runs_a_node (accepted journal)) journal;
  barriers = count_by (runs_a_barrier (accepted journal)) journal;
  created = count_by is_create journal;
  destroyed = count_by is_destroy journal;
}
