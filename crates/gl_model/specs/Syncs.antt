-- What holds of syncs and contexts in each reached state: they are those of the group, and were made earlier in the history.
use Rattle.std.specs.Prelude.{ℕ, ◌<◌, ◌≡◌, Bool, true, false}
use Rattle.std.specs.List.{All}
use Rattle.std.specs.Map.{keys_of, values_of}
use Rattle.gl_calls.specs.declared.call.Call.{Call}
use Rattle.gl_calls.specs.declared.call.Call.TheVariants as call
use Rattle.tables.specs.Table.{has}
use Rattle.gl_model.specs.GroupModel.{GroupModel}

-- The syncs with their facts have the numbers of the group's syncs, and births those of its contexts. Their places lie below a place.
pub record HasSyncs (state : GroupModel) (place : ℕ) : Type 0 where
  pub fences : keys_of state.fences ≡ keys_of state.group.syncs
  pub egl_fences : keys_of state.egl_fences ≡ keys_of state.group.egl_syncs
  pub births : (n : ℕ) → has n state.births ≡ has n state.group.contexts
  pub fence_places : All (λ f. f.place < place) (values_of state.fences)
  pub egl_fence_places : All (λ f. f.place < place) (values_of state.egl_fences)
  pub birth_places : All (λ birth. birth < place) (values_of state.births)

-- the calls that make or end syncs or contexts, and the one after which syncs are known to be signalled
abbrev pub changes_syncs : Call → Bool
changes_syncs (call.CreateContext number) = true
changes_syncs (call.DestroyContext number) = true
changes_syncs (call.MakeCurrent number) = true
changes_syncs (call.CreateSync number) = true
changes_syncs (call.DestroySync number) = true
changes_syncs (call.FenceSync number condition flags) = true
changes_syncs (call.DeleteSync number) = true
changes_syncs call.Finish = true
changes_syncs _ = false
