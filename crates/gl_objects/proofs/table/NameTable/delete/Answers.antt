use Rattle.std.proofs.Common.{ℕ}
use Rattle.tables.specs.Table.{has}
use Rattle.gl_objects.proofs.SetNames.{Fits-taken}
use Rattle.std.proofs.Common.{ap}
use Rattle.std.specs.Option.{option_map}
use Rattle.gl_objects.specs.Ids.{number_of}
use Rattle.gl_objects.proofs.NumberedNames.{object_of-numbered, each_value-without}
use Rattle.gl_objects.proofs.SoundNames.{IsSound-deleted}
use Rattle.gl_objects.proofs.table.NameTable.delete.Goals as goal

pub invariant_of-self : goal.invariant_of-self
invariant_of-self c = record {
  sound =
      let removed = c.remove_name-object in
      IsSound-deleted _ _ _ _ _ c.args.name removed.result c.self.invariant.sound removed.ensures.sets removed.ensures.object c.take_name.ensures;
  fits = rw c.remove_name-object.ensures.entries (Fits-taken c.note_unused.new.self c.args.name c.self.inside.names c.remove_name-object.ensures.ordered (c.note_unused.ensures (λ (n : ℕ). has n c.self.inside.names) c.self.invariant.fits));
}

pub returns-clause-object : goal.returns-clause-object
returns-clause-object c =
    rw (← c.self.view_is, object_of-numbered c.self.inside.names c.self.inside.made c.args.name) (ap (option_map number_of) c.remove_name-object.ensures.object)

pub returns-clause-names : goal.returns-clause-names
returns-clause-names c =
    let made = c.self.inside.made in
    let gone = each_value-without (option_map number_of) c.args.name c.self.inside.names in
    rw (← c.self.view_is, c.remove_name-object.ensures.entries) (ap (λ names. record { objects = names; made = made }) gone)
