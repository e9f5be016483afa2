use Rattle.std.proofs.Common.{ap, sym, ◌∙◌}
use Rattle.std.specs.Option.{option_map}
use Rattle.gl_model.specs.GroupEffect.{lowest_unused, with_generated}
use Rattle.unused_names.proofs.LowestNames.{AreUnused-lowest}
use Rattle.gl_objects.specs.Ids.{number_of}
use Rattle.gl_objects.specs.Objects.{numbered}
use Rattle.gl_objects.proofs.Generated.{IsSound-generated, each_value-with_generated, lowest_unused-each_value}
use Rattle.gl_objects.proofs.table.NameTable.gen_.Goals as goal

pub invariant_of-self-2 : goal.invariant_of-self-2
invariant_of-self-2 c =
    let names = c.self.inside.names in
    record {
      sound = rw c.in_ok-names.ensures.ok (IsSound-generated names c.self.inside.made c.self.inside.objects.slots (lowest_unused names c.args.n) (AreUnused-lowest names c.args.n) c.self.invariant.sound);
      fits = c.in_ok-names.ensures.fits;
    }

pub returns-clause-names : goal.returns-clause-names
returns-clause-names c =
    rw (← c.self.view_is) (c.in_ok-names.ensures.names ∙ sym (lowest_unused-each_value (option_map number_of) c.args.n c.self.inside.names))

pub returns-clause-ok : goal.returns-clause-ok
returns-clause-ok c =
    let names = c.self.inside.names in
    let made = c.self.inside.made in
    let slots = c.self.inside.objects.slots in
    let lowest = sym (lowest_unused-each_value (option_map number_of) c.args.n names) in
    let more = each_value-with_generated number_of (lowest_unused names c.args.n) names ∙ ap (λ ns. with_generated ns (numbered names)) lowest in
    rw (← c.self.view_is, c.in_ok-names.ensures.ok)
    (ap (λ es. record { names = record { objects = es; made = made }; objects = slots }) more)
