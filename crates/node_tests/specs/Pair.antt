-- Two objects by their numbers 1 and 2.
use Rattle.std.specs.Prelude.{ℕ, ◌==◌, Option, Some, None, if◌then◌else◌}
use Rattle.vk_types.specs.declared.handles.Kind.{Kind}

abbrev pub two_kinds : Kind → Kind → ℕ → Option Kind
two_kinds first second i = if i == 1 then Some first else if i == 2 then Some second else None
