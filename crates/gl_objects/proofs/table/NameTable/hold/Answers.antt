use Rattle.std.proofs.Common.{sym, ◌∙◌}
use Rattle.gl_objects.proofs.Sound.{IsSound-changed_holds}
use Rattle.gl_objects.proofs.table.NameTable.hold.Goals as goal

pub invariant_of-self : goal.invariant_of-self
invariant_of-self c = record {
  sound =
      let put = rw c.key.ensures at c.put_back.ensures in
      IsSound-changed_holds _ _ _ _ c.args.id c.in-Some.object _ c.self.invariant.sound (sym c.existing.ensures ∙ c.in-Some.is) put;
  fits = c.self.invariant.fits;
}
