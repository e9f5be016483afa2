-- Sets of kinds of access.
use Rattle.std.specs.Prelude.{ℕ, ◌==◌, Bool, not}
use Rattle.std.specs.Int.RustNames.{bit_and, bit_or}
use Rattle.vk_types.specs.declared.accesses.Access.{Access}

abbrev pub no_access : Access
no_access = record { 0 = 0 }

abbrev pub transfer_read : Access
transfer_read = record { 0 = 1 }

abbrev pub transfer_write : Access
transfer_write = record { 0 = 2 }

-- reads and writes of a color attachment
abbrev pub color : Access
color = record { 0 = 12 }

abbrev pub color_write : Access
color_write = record { 0 = 8 }

abbrev pub host_read : Access
host_read = record { 0 = 16 }

abbrev pub all_access : Access
all_access = record { 0 = 31 }

-- a kind in common
abbrev pub in_common : Access → Access → Bool
in_common a b = not (bit_and a.0 b.0 == 0)

-- all kinds of b are in a
abbrev pub has_all : Access → Access → Bool
has_all a b = bit_and a.0 b.0 == b.0

-- the kinds of both
abbrev pub joined : Access → Access → Access
joined a b = record { 0 = bit_or a.0 b.0 }
