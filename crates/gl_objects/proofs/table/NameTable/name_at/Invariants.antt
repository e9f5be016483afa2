use Rattle.std.proofs.Common.{◌≡◌, map, slice_get, is_some}
use Rattle.std.specs.List.{filter}
use Rattle.gl_objects.specs.Objects.{object_names}
use Rattle.gl_objects.proofs.table.NameTable.name_at.Given as goal

abbrev pub invariant-loop-name : goal.invariant-loop-name
invariant-loop-name l =
    slice_get (object_names l.self.names) l.k ≡ slice_get (map (λ e. e.0) (filter (λ e. is_some e.1) l.name-iterator)) l.left
