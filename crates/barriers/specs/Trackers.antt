-- What a tracker knows of the uses of its object.
use Rattle.std.specs.Prelude.{◌≡◌, ◌≢◌, ◌==◌, ◌&&◌, ◌||◌, not, Bool, true, false, List, [], ◌∷◌, ◌++◌, fold, Option, Some, None, IsSome, All, if◌then◌else◌}
use Rattle.std.specs.Option.{option_map, option_map_or}
use Rattle.vk_types.specs.Accesses.{no_access, in_common, joined}
use Rattle.vk_types.specs.declared.accesses.Access.{Access}
use Rattle.vk_types.specs.declared.accesses.Layout.TheVariants.{Undefined}
use Rattle.vk_types.specs.declared.handles.HandleId.{HandleId}
use Rattle.vk_types.specs.declared.regions.Touch.{Touch}
use Rattle.vk_types.specs.declared.regions.Barrier.{Barrier}
use Rattle.barriers.specs.declared.tracker.Tracker.{Tracker}
use Rattle.barriers.specs.Licence.{Use, Accessed, Fenced, last_barrier, since, union, writes, changes_layout, layout_now, first_layout, layouts_of, fenced_by}

-- a tracker of an object with these uses
pub record Tracks (t : Tracker) (id : HandleId) (is_image : Bool) (uses : List Use) : Type 0 where
  pub of : t.id ≡ id
  pub let_through : t.second ≡ option_map (λ barrier. barrier.second) (last_barrier uses)
  pub accessed : t.since ≡ union (since uses)
  pub none_empty : All (λ access. access ≢ no_access) (since uses)
  pub layout : t.layout ≡ layout_now (first_layout is_image) uses

-- a touch of the object, with at least one kind of access, and with a layout, other than Undefined, exactly where it is an image
pub record IsTouchOf (id : HandleId) (is_image : Bool) (touch : Touch) : Type 0 where
  pub of : touch.id ≡ id
  pub some : touch.access ≢ no_access
  pub image : is_image ≡ true → IsSome touch.layout
  pub buffer : touch.layout ≢ None → is_image ≡ true
  pub defined : touch.layout ≢ Some Undefined

-- By what a tracker knows, a barrier is due: the layout changes, something was accessed and is now written or was, or the last barrier lets
-- nothing of this access through.
abbrev pub is_due : Tracker → Touch → Bool
is_due t touch =
    changes_layout t.layout touch.layout
    || not (t.since.0 == 0) && writes (joined t.since touch.access)
    || option_map_or (λ second. not (in_common touch.access second)) t.second false

-- what it waits for
abbrev pub first_of : Tracker → Access
first_of t = if t.since.0 == 0 then option_map_or (λ second. second) t.second no_access else t.since

-- the tracker of a new object
abbrev pub new_tracker : HandleId → Bool → Tracker
new_tracker id is_image = record { id = id; second = None; since = no_access; layout = first_layout is_image }

-- the barrier that is due by what a tracker knows
abbrev pub due_by : Tracker → Touch → Option Barrier
due_by t touch =
    if is_due t touch
    then Some (record { id = t.id; first = first_of t; second = touch.access; layouts = layouts_of t.layout touch.layout })
    else None

-- a tracker that took in one more use
abbrev pub taken : Tracker → Use → Tracker
taken t (Accessed access) = record t { since = joined t.since access }
taken t (Fenced barrier) =
    record t { second = Some barrier.second; since = no_access; layout = option_map_or (λ both. Some both.1) barrier.layouts t.layout }

-- a tracker that took in a touch and the barrier that was due before it
abbrev pub taken_touch : Tracker → Touch → Tracker
taken_touch t touch = fold taken t (fenced_by (due_by t touch) ++ Accessed touch.access ∷ [])
