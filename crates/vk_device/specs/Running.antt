-- What holds of a device after each of its calls.
use Rattle.std.specs.Prelude.{◌≡◌, ◌≢◌, ℕ, ◌<◌, List, length, slice_get, Some, true, IsSome}
use Rattle.vk_types.specs.declared.handles.Kind.{Kind}
use Rattle.vk_model.specs.Cells.{Contents}
use Rattle.vk_model.specs.Fitting.{size_of}
use Rattle.vk_model.specs.Log.{Item, IsPermitted}
use Rattle.vk_model.specs.Meaning.{touches_id, executed}
use Rattle.vk_device.specs.declared.logged.Logged.{Logged}
use Rattle.vk_device.specs.Journal.{kind_of, creates_of, IsClean}
use Rattle.vk_device.specs.Order.{log_of, order_of, kinds_of, contents}

-- what the executed items make of nothing, in the order in which they ran
abbrev pub made : List Logged → Contents
made journal = executed (kinds_of journal) (log_of journal) (order_of journal)

-- The journal is clean, what its log touches was created, and its executed order is permitted. Each live object has the
-- bytes of its kind, and they agree with what that order makes.
pub record IsInOrder (journal : List Logged) (bytes_of : ℕ → List ℕ) : Type 0 where
  pub clean : IsClean journal
  pub known : (k : ℕ) (x : Item) (id : ℕ) → slice_get (log_of journal) k ≡ Some x → touches_id x id ≡ true → creates_of id journal ≢ 0
  pub permitted : IsPermitted (log_of journal) (order_of journal)
  pub sizes : (id : ℕ) (kind : Kind) → kind_of journal id ≡ Some kind → length (bytes_of id) ≡ size_of kind
  pub agree : (id i : ℕ) → IsSome (kind_of journal id) → made journal id i < 256 → contents bytes_of id i ≡ made journal id i
