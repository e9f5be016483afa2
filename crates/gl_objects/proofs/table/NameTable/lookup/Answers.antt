use Rattle.std.proofs.Common.{ap}
use Rattle.std.specs.Option.{option_map}
use Rattle.gl_objects.specs.Ids.{number_of}
use Rattle.gl_objects.proofs.NumberedNames.{object_of-numbered}
use Rattle.gl_objects.proofs.Laws.{IsLawful-from_sound}
use Rattle.gl_objects.proofs.table.NameTable.lookup.Goals as goal

pub returns-clause-object : goal.returns-clause-object
returns-clause-object c =
    rw (← c.self.view_is, object_of-numbered c.self.inside.names c.self.inside.made c.args.name) (ap (option_map number_of) c.object_of.ensures)

pub returns-clause-law : goal.returns-clause-law
returns-clause-law c =
    rw (← c.self.view_is) (IsLawful-from_sound c.self.inside.names c.self.inside.made c.self.inside.objects.slots c.self.invariant.sound)
