-- The refusals of the calls of EGL, and of the calls on syncs.
use Rattle.std.specs.Prelude.{ℕ, ◌==◌, ◌&&◌, Bool, true, false, not, Option, Some, List, [], ◌∷◌, is_some, nat_lt, nat_le}
use Rattle.std.specs.Option.{option_map_or}
use Rattle.formats.specs.declared.errors.EglError.TheVariants.{BadAlloc, BadContext, BadAccess, BadMatch, BadParameter}
use Rattle.gl_calls.specs.declared.reply.Reply.TheVariants.{EglFault, Taken, WaitFailed}
use Rattle.gl_calls.specs.declared.words.FenceCondition.{FenceCondition}
use Rattle.gl_calls.specs.declared.call.WaitEnd.{WaitEnd}
use Rattle.gl_calls.specs.Words.{is_other_condition, is_ignored}
use Rattle.gl_model.specs.GroupState.{Context}
use Rattle.gl_model.specs.Bindings.{same_option}
use Rattle.gl_model.specs.RefusalRows.{Row, ◌⇒◌, invalid_enum, invalid_value, most_contexts}

-- eglCreateContext (EGL 1.5, Creating Rendering Contexts); exists: a context has the number, marked or not
abbrev pub create_context_rows : Bool → ℕ → List Row
create_context_rows exists contexts =
    (exists ⇒ Taken)
    ∷ (nat_le most_contexts contexts ⇒ EglFault BadAlloc)
    ∷ []

-- there is no context, or one that waits for its end
abbrev pub is_gone : Option Context → Bool
is_gone context = option_map_or (λ c. c.marked) context true

-- eglDestroyContext (EGL 1.5, Destroying Rendering Contexts)
abbrev pub destroy_context_rows : Option Context → List Row
destroy_context_rows context =
    (is_gone context ⇒ EglFault BadContext)
    ∷ []

-- eglMakeCurrent (EGL 1.5, Binding Contexts and Drawables); number 0 is no context
abbrev pub make_current_rows : ℕ → ℕ → Option Context → List Row
make_current_rows thread number context =
    (not (number == 0) && is_gone context ⇒ EglFault BadContext)
    ∷ (not (number == 0) && option_map_or (λ c. is_some c.thread && not (same_option c.thread (Some thread))) context false ⇒ EglFault BadAccess)
    ∷ []

-- eglCreateSync of a fence (EGL 1.5, Synchronization Primitives)
abbrev pub create_sync_rows : Bool → Bool → List Row
create_sync_rows has_context exists =
    (not has_context ⇒ EglFault BadMatch)
    ∷ (exists ⇒ Taken)
    ∷ []

-- eglClientWaitSync and eglDestroySync (EGL 1.5, Synchronization Primitives)
abbrev pub use_sync_rows : Bool → List Row
use_sync_rows exists =
    (not exists ⇒ EglFault BadParameter)
    ∷ []

-- FenceSync (OpenGL ES 3.0.6, Sync Objects and Fences)
abbrev pub fence_rows : FenceCondition → ℕ → Bool → List Row
fence_rows condition flags exists =
    (is_other_condition condition ⇒ invalid_enum)
    ∷ (not (flags == 0) ⇒ invalid_value)
    ∷ (exists ⇒ Taken)
    ∷ []

-- ClientWaitSync (OpenGL ES 3.0.6, Waiting for Sync Objects)
abbrev pub client_wait_rows : ℕ → Bool → List Row
client_wait_rows flags exists =
    (not exists ⇒ WaitFailed)
    ∷ (nat_lt 1 flags ⇒ WaitFailed)
    ∷ []

-- WaitSync (OpenGL ES 3.0.6, Waiting for Sync Objects)
abbrev pub wait_rows : ℕ → WaitEnd → Bool → List Row
wait_rows flags end exists =
    (not exists ⇒ invalid_value)
    ∷ (not (flags == 0) ⇒ invalid_value)
    ∷ (not (is_ignored end) ⇒ invalid_value)
    ∷ []

-- DeleteSync (OpenGL ES 3.0.6, Sync Objects and Fences)
abbrev pub delete_sync_rows : ℕ → Bool → List Row
delete_sync_rows number exists =
    (not (number == 0) && not exists ⇒ invalid_value)
    ∷ []
