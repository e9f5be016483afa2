-- When a barrier before an access of an object is licensed, and which one it is then. (Vulkan 1.1, Synchronization and Cache Control.)
use Rattle.std.specs.Prelude.{◌||◌, not, Bool, true, false, List, [], ◌∷◌, ◌++◌, fold, Option, Some, None, if◌then◌else◌}
use Rattle.std.specs.List.{list_any}
use Rattle.std.specs.Option.{option_map_or}
use Rattle.vk_types.specs.Accesses.{no_access, transfer_write, color_write, in_common, joined}
use Rattle.vk_types.specs.declared.accesses.Access.{Access}
use Rattle.vk_types.specs.declared.accesses.Layout.{Layout}
use Rattle.vk_types.specs.declared.accesses.Layout.TheVariants.{Undefined, TransferSrc, TransferDst, ColorAttachment}
use Rattle.vk_types.specs.declared.handles.HandleId.{HandleId}
use Rattle.vk_types.specs.declared.regions.Touch.{Touch}
use Rattle.vk_types.specs.declared.regions.Barrier.{Barrier}

-- How an object was used: by a node, with its joint access of it, or by a read of the host; or a barrier was recorded for it.
pub data Use : Type 0 where
  Accessed : Access → Use
  Fenced : Barrier → Use

-- the object's last barrier
abbrev pub barrier_after : Option Barrier → Use → Option Barrier
barrier_after last (Accessed access) = last
barrier_after last (Fenced barrier) = Some barrier

abbrev pub last_barrier : List Use → Option Barrier
last_barrier uses = fold barrier_after None uses

-- the accesses after the last barrier, or all of them where there is none
abbrev pub accesses_after : List Access → Use → List Access
accesses_after since (Accessed access) = since ++ access ∷ []
accesses_after since (Fenced barrier) = []

abbrev pub since : List Use → List Access
since uses = fold accesses_after [] uses

-- the kinds of some accesses together
abbrev pub union : List Access → Access
union accesses = fold joined no_access accesses

abbrev pub writes : Access → Bool
writes access = in_common access transfer_write || in_common access color_write

-- the layout after some uses, from the one before them; a buffer has none
abbrev pub layout_after : Option Layout → Use → Option Layout
layout_after layout (Accessed access) = layout
layout_after layout (Fenced barrier) = option_map_or (λ both. Some both.1) barrier.layouts layout

abbrev pub layout_now : Option Layout → List Use → Option Layout
layout_now first uses = fold layout_after first uses

-- the layout of a new image is Undefined
abbrev pub first_layout : Bool → Option Layout
first_layout is_image = if is_image then Some Undefined else None

abbrev pub same_layout : Layout → Layout → Bool
same_layout Undefined Undefined = true
same_layout TransferSrc TransferSrc = true
same_layout TransferDst TransferDst = true
same_layout ColorAttachment ColorAttachment = true
same_layout _ _ = false

-- the touch needs a layout, and the image is in another one
abbrev pub changes_layout : Option Layout → Option Layout → Bool
changes_layout now None = false
changes_layout None (Some wanted) = true
changes_layout (Some now) (Some wanted) = not (same_layout now wanted)

-- A barrier is licensed where the layout changes, where an access since the last barrier or this one writes, or where the last barrier lets
-- through no kind of this access. Ranges play no part.
abbrev pub is_licensed : Bool → List Use → Touch → Bool
is_licensed is_image uses touch =
    changes_layout (layout_now (first_layout is_image) uses) touch.layout
    || list_any (λ access. writes access || writes touch.access) (since uses)
    || option_map_or (λ barrier. not (in_common touch.access barrier.second)) (last_barrier uses) false

abbrev pub is_empty : List Access → Bool
is_empty [] = true
is_empty (access ∷ accesses) = false

-- what a licensed barrier waits for: all kinds of access since the last barrier; where nothing came since, what that one let through; and
-- nothing where there is none
abbrev pub waited_for : List Use → Access
waited_for uses =
    if is_empty (since uses) then option_map_or (λ barrier. barrier.second) (last_barrier uses) no_access else union (since uses)

-- the layouts that it names: none of a buffer, the one before and the one after of an image
abbrev pub layouts_of : Option Layout → Option Layout → Option (Layout × Layout)
layouts_of (Some now) (Some wanted) = Some (now, wanted)
layouts_of _ _ = None

-- the barrier before a touch, exactly where one is licensed
abbrev pub barrier_due : HandleId → Bool → List Use → Touch → Option Barrier
barrier_due id is_image uses touch =
    if is_licensed is_image uses touch
    then Some (record {
      id = id;
      first = waited_for uses;
      second = touch.access;
      layouts = layouts_of (layout_now (first_layout is_image) uses) touch.layout;
    })
    else None

-- the uses after a touch, and the barrier before it
abbrev pub fenced_by : Option Barrier → List Use
fenced_by None = []
fenced_by (Some barrier) = Fenced barrier ∷ []

abbrev pub touched : HandleId → Bool → List Use → Touch → List Use
touched id is_image uses touch = uses ++ fenced_by (barrier_due id is_image uses touch) ++ Accessed touch.access ∷ []
