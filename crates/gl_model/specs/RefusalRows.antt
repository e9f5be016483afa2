-- The rows of a table of refusals.
use Rattle.std.specs.Prelude.{ℕ, ℤ, pos, Bool, Option, Some, None, List, [], ◌∷◌, if◌then◌else◌, int_lt}
use Rattle.gl_calls.specs.declared.reply.GlError.TheVariants.{InvalidEnum, InvalidValue, InvalidOperation, InvalidFramebufferOperation, OutOfMemory}
use Rattle.gl_calls.specs.declared.reply.Reply.{Reply}
use Rattle.gl_calls.specs.declared.reply.Reply.TheVariants.{GlFault}

-- a condition, and the reply where it holds
abbrev pub Row : Type 0
Row = Bool × Reply

infix 10 ◌⇒◌
abbrev pub ◌⇒◌ : Bool → Reply → Row
holds ⇒ reply = (holds, reply)

-- the reply of the first row whose condition holds
abbrev pub first_row : List Row → Option Reply
first_row [] = None
first_row (row ∷ rows) = if row.0 then Some row.1 else first_row rows

abbrev pub invalid_enum : Reply
invalid_enum = GlFault InvalidEnum

abbrev pub invalid_value : Reply
invalid_value = GlFault InvalidValue

abbrev pub invalid_operation : Reply
invalid_operation = GlFault InvalidOperation

abbrev pub invalid_framebuffer_operation : Reply
invalid_framebuffer_operation = GlFault InvalidFramebufferOperation

abbrev pub out_of_memory : Reply
out_of_memory = GlFault OutOfMemory

abbrev pub is_negative : ℤ → Bool
is_negative z = int_lt z (pos 0)

-- Limits of the profile

abbrev pub most_contexts : ℕ
most_contexts = 8

abbrev pub most_pixels : ℤ
most_pixels = pos 2048
