-- What a cleanup does to a device and its garbage.
use Rattle.std.specs.Prelude.{◌≡◌, ℕ, ◌+◌, ◌<◌, List, ◌++◌, length, take, slice_get, Option, Some, None, IsSome}
use Rattle.std.specs.List.{filter}
use Rattle.vk_types.specs.declared.stops.Stop.{Stop}
use Rattle.vk_model.specs.Meaning.{IsSettled}
use Rattle.vk_device.specs.declared.logged.Logged.{Logged}
use Rattle.vk_device.specs.Journal.{kind_of}
use Rattle.vk_device.specs.Order.{log_of, order_of}
use Rattle.garbage.specs.declared.entry.Garbage.{Garbage}
use Rattle.garbage.specs.Collecting.{is_covered}
use Rattle.back_core.specs.Run.{without_covered, destroys}

-- each of these objects is live and settled after those before it were destroyed
pub record CanDestroy (journal : List Logged) (items : List Garbage) : Type 0 where
  pub live : (k : ℕ) (item : Garbage) → slice_get items k ≡ Some item → IsSome (kind_of (journal ++ destroys (take k items)) item.handle.0)
  pub settled : (k : ℕ) (item : Garbage) → slice_get items k ≡ Some item →
      IsSettled (log_of (journal ++ destroys (take k items))) (order_of (journal ++ destroys (take k items))) item.handle.0

-- what these numbers cover
abbrev pub covered_of : List ℕ → List Garbage → List Garbage
covered_of read list = filter (is_covered read) list

-- So many of the covered objects were destroyed, in order: all of them, or all before the one at which a stop came. That
-- one is spent too.
pub record Destroys (journal journal' : List Logged) (list list' : List Garbage) (read : List ℕ) (count : ℕ) (stop : Option Stop) : Type 0 where
  pub destroyed : journal' ≡ journal ++ destroys (take count (covered_of read list))
  pub left : list' ≡ without_covered read (count + 1) list
  pub all : stop ≡ None → count ≡ length (covered_of read list)
  pub some : (s : Stop) → stop ≡ Some s → count < length (covered_of read list)
