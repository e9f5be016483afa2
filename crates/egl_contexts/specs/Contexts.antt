-- The contexts of a share group, by their numbers, and the EGL errors of its threads.
use Rattle.std.specs.Prelude.{ℕ, ◌==◌, ◌&&◌, Bool, true, false, not, Option, Some, None, List, [], map, length, is_some, nat_le, if◌then◌else◌}
use Rattle.std.specs.List.{filter, find, fold}
use Rattle.std.specs.Option.{option_and_then, option_map_or}
use Rattle.formats.specs.declared.errors.EglError.{EglError}
use Rattle.formats.specs.declared.errors.EglError.TheVariants.{Success, BadContext, BadAccess}
use Rattle.egl_contexts.specs.declared.facts.ContextState.{ContextState}
use Rattle.egl_contexts.specs.declared.facts.ContextFacts.{ContextFacts}
use Rattle.egl_contexts.specs.declared.facts.CreateStop.{CreateStop}
use Rattle.egl_contexts.specs.declared.facts.CreateStop.TheVariants.{Taken, BadAlloc}
use Rattle.egl_contexts.specs.declared.facts.Switched.{Switched}
use Rattle.tables.specs.Table.{Entries, entry, has, with_entry}

-- the contexts by their numbers, and the errors of the declared threads
pub record ContextTable : Type 0 where
  pub contexts : Entries ContextState
  pub threads : Entries EglError

-- the threads with no error of EGL
abbrev pub opening_threads : List ℕ → Entries EglError
opening_threads threads = fold (λ table thread. with_entry thread Success table) [] threads

-- a context as it is created
abbrev pub new_context : ℕ → ContextState
new_context index = record { index = index; marked = false; thread = None }

-- a context is current on a thread
abbrev pub is_current : ℕ → ContextState → Bool
is_current thread c = option_map_or (λ t. t == thread) c.thread false

-- the context that is current on a thread, with its number
abbrev pub current_entry : ℕ → Entries ContextState → Option (ℕ × ContextState)
current_entry thread contexts = find (λ e. is_current thread e.1) contexts

-- why no context can be created (EGL 1.5, Creating Rendering Contexts)
abbrev pub create_stop : ℕ → Entries ContextState → Option CreateStop
create_stop number contexts =
    if has number contexts then Some Taken
    else (if nat_le 8 (length contexts) then Some BadAlloc else None)

-- there is no context, or one that waits for its end
abbrev pub is_gone : Option ContextState → Bool
is_gone context = option_map_or (λ c. c.marked) context true

-- it is current on another thread
abbrev pub is_elsewhere : ℕ → Option ContextState → Bool
is_elsewhere thread context = option_map_or (λ c. is_some c.thread && not (is_current thread c)) context false

-- why a context cannot be made current (EGL 1.5, Binding Contexts and Drawables); number 0 is no context
abbrev pub make_current_stop : ℕ → ℕ → Entries ContextState → Option EglError
make_current_stop thread number contexts =
    if not (number == 0) && is_gone (entry number contexts) then Some BadContext
    else (if not (number == 0) && is_elsewhere thread (entry number contexts) then Some BadAccess else None)

-- why a context cannot be destroyed (EGL 1.5, Destroying Rendering Contexts)
abbrev pub destroy_stop : ℕ → Entries ContextState → Option EglError
destroy_stop number contexts = if is_gone (entry number contexts) then Some BadContext else None

-- a thread lets go of a context
abbrev pub let_go_of : ℕ → ContextState → ContextState
let_go_of thread c = if is_current thread c then record c { thread = None } else c

-- The contexts after a thread let go of its context. One that was marked ends.
abbrev pub let_go : ℕ → Entries ContextState → Entries ContextState
let_go thread contexts =
    map (λ e. (e.0, let_go_of thread e.1)) (filter (λ e. not (is_current thread e.1 && e.1.marked)) contexts)

-- the contexts after one became current on a thread
abbrev pub taken_by : ℕ → ℕ → Entries ContextState → Entries ContextState
taken_by thread number contexts = map (λ e. (e.0, if e.0 == number then record e.1 { thread = Some thread } else e.1)) contexts

-- A context that is destroyed ends at once where it is current on no thread, and is marked elsewhere.
abbrev pub destroyed : ℕ → Entries ContextState → Entries ContextState
destroyed number contexts =
    map (λ e. (e.0, if e.0 == number then record e.1 { marked = true } else e.1))
    (filter (λ e. not (e.0 == number && not (is_some e.1.thread))) contexts)

-- what a thread gives up as it takes another context, or none
abbrev pub switched_from : ℕ → Option (ℕ × ContextState) → Switched
switched_from number None = record { replaced = None; ended = None }
switched_from number (Some e) =
    if e.0 == number then record { replaced = None; ended = None }
    else record { replaced = Some e.1.index; ended = if e.1.marked then Some e.1.index else None }

-- the index of a context that ends as it is destroyed
abbrev pub ended_at_once : Option ContextState → Option ℕ
ended_at_once context = option_and_then (λ c. if is_some c.thread then None else Some c.index) context

-- all that is told of a context
abbrev pub facts_of : ℕ × ContextState → ContextFacts
facts_of e = record { number = e.0; index = e.1.index; marked = e.1.marked; thread = e.1.thread }
