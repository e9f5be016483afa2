use Rattle.std.proofs.Common.{rules, ◌≡◌, ℕ}
use Rattle.resource_use.proofs.Noting.{distinct-noted, number_of-noted}
use Rattle.resource_use.proofs.uses.ResourceUse.note.Goals as goal

pub invariant_of-self-2 : goal.invariant_of-self-2
invariant_of-self-2 c = rw c.in_ok-note_in.ensures.ok (distinct-noted _ _ c.self.invariant)

pub returns-clause-numbers : goal.returns-clause-numbers
returns-clause-numbers c i = rw (c.in_ok-note_in.ensures.ok, ← c.self.view_is) (number_of-noted c.self.inside.serials.items c.args.serial i)
