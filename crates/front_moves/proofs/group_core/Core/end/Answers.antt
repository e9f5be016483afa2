use Rattle.std.proofs.Common.{◌≡◌, ap, ◌∙◌, sym, refl, ℕ, ◌==◌, None}
use Rattle.std.specs.Prelude.{if◌then◌else◌}
use Rattle.tables.specs.Table.{entry}
use Rattle.front_moves.specs.Objects.{key_of}
use Rattle.front_moves.specs.Core.{CoreParts}
use Rattle.front_moves.proofs.AtBack.{did_nothing}
use Rattle.front_moves.proofs.StoreLaws.{stores_changed}
use Rattle.front_moves.proofs.group_core.Core.end.Goals.{in-Some, in_default}
use Rattle.front_moves.proofs.group_core.Core.end.Goals as goal

-- what a core has under a key
has_entry : (was inside : CoreParts) (k : ℕ) → inside ≡ was → entry k inside.stores ≡ entry k was.stores
has_entry was inside k is = ap (λ (p : CoreParts). entry k p.stores) is

pub give-requires : goal.give-requires
give-requires g c =
    rw c.into_garbage.ensures
    (c.end_comes_to.ensures.may c.args.self.now (g.L.BackLink.state c.args.link.now) c.args.object c.in-Some.store c.requires.holds
    (sym (has_entry c.args.self.now _ (key_of c.args.object) c.self.view_is) ∙ sym c.in-Some.ensures.taken))

pub returns-clause-moved : goal.returns-clause-moved
returns-clause-moved g c =
    let inside : CoreParts = record { indexes = c.self.inside.indexes; pending = c.self.inside.pending; stores = c.take.new.self } in
    let is : inside ≡ record c.args.self.now { stores = c.take.new.self } = stores_changed c.args.self.now c.self.inside.indexes c.self.inside.pending c.self.inside.objects c.take.new.self (λ bs. c.take.new.self) c.self.view_is refl in
    let each : (q : ℕ) → entry q c.take.new.self ≡ (if q == key_of c.args.object then None else entry q c.args.self.now.stores)
    = λ q. c.take.ensures.others q ∙ ap (λ (p : CoreParts). if q == key_of c.args.object then None else entry q p.stores) c.self.view_is in
    elim c.match-take.branch [
      | in-Some w ↦
          rw (w.link-is, w.give.ensures.state, w.into_garbage.ensures)
          (c.end_comes_to.ensures.given c.args.self.now inside (g.L.BackLink.state c.args.link.now) c.args.object w.in-Some.store c.requires.holds
          (sym (has_entry c.args.self.now _ (key_of c.args.object) c.self.view_is) ∙ sym w.in-Some.ensures.taken) is each)
      | in_default w ↦
          rw w.link-is
          (c.end_comes_to.ensures.nothing c.args.self.now inside (g.L.BackLink.state c.args.link.now) c.args.object c.requires.holds
          (sym (has_entry c.args.self.now _ (key_of c.args.object) c.self.view_is) ∙ sym c.take.ensures.taken ∙ w.in_default.is) is each)
    ]

pub returns-clause-at_back : goal.returns-clause-at_back
returns-clause-at_back g c = elim c.match-take.branch [
  | in-Some w ↦ rw w.link-is w.give.ensures.at_back
  | in_default w ↦ rw w.link-is (did_nothing (g.L.BackLink.state c.args.link.now) (g.L.BackLink.told c.args.link.now))
]
