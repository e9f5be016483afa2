use Rattle.std.proofs.Common.{◌≡◌, ap, ◌∙◌, []}
use Rattle.tables.specs.Table.{with_entry}
use Rattle.object_helper.specs.Objects.{ObjectStore, new_store}
use Rattle.front_moves.specs.Objects.{key_of}
use Rattle.front_moves.specs.Core.{CoreParts, face}
use Rattle.front_moves.proofs.AtBack.{did_nothing, might_stop}
use Rattle.front_moves.proofs.StoreLaws.{stores_changed}
use Rattle.front_moves.proofs.group_core.Core.begin.Goals.{in-Ok, in-Err}
use Rattle.front_moves.proofs.group_core.Core.begin.Goals as goal

pub abandon-requires : goal.abandon-requires
abandon-requires g c =
    rw (c.into_garbage-handle.ensures, c.in-Err.ensures.handed_back, c.new.ensures)
    (c.filled_comes_to.ensures.held (face c.args.self.now) (g.L.BackLink.state c.args.link.now) c.args.fresh.0 c.args.kind c.requires.holds)

pub returns-clause-moved : goal.returns-clause-moved
returns-clause-moved g c = elim c.match-insert.branch [
  | in-Ok w ↦
      let store : ObjectStore = new_store c.args.fresh c.args.kind in
      let inside : CoreParts = record { indexes = c.self.inside.indexes; pending = c.self.inside.pending; stores = c.insert.new.self } in
      let put : c.insert.new.self ≡ with_entry (key_of c.args.object) store c.self.inside.objects = w.in-Ok.ensures.ok ∙ ap (λ (b : ObjectStore). with_entry (key_of c.args.object) b c.self.inside.objects) c.new.ensures in
      rw (w.result-is, w.link-is)
      (c.begin_comes_to.ensures.begun c.args.self.now inside (g.L.BackLink.state c.args.link.now) c.args.object c.args.kind c.args.fresh c.requires.holds c.requires.none
      (stores_changed c.args.self.now c.self.inside.indexes c.self.inside.pending c.self.inside.objects c.insert.new.self (with_entry (key_of c.args.object) store) c.self.view_is put))
  | in-Err w ↦ rw w.result-is tt
]

pub returns-clause-err : goal.returns-clause-err
returns-clause-err g c = elim c.match-insert.branch [
  | in-Ok w ↦ rw w.result-is tt
  | in-Err w ↦
      let same : c.insert.new.self ≡ c.args.self.now.stores = w.in-Err.ensures.err ∙ ap (λ (p : CoreParts). p.stores) c.self.view_is in
      rw (w.result-is, w.link-is, w.abandon.ensures.state, w.into_garbage-handle.ensures, w.in-Err.ensures.handed_back, c.new.ensures, same)
      (c.filled_comes_to.ensures.let_go (face c.args.self.now) (g.L.BackLink.state c.args.link.now) c.args.fresh.0 c.args.kind c.requires.holds)
]

pub returns-clause-at_back : goal.returns-clause-at_back
returns-clause-at_back g c = elim c.match-insert.branch [
  | in-Ok w ↦ rw (w.result-is, w.link-is) (did_nothing (g.L.BackLink.state c.args.link.now) (g.L.BackLink.told c.args.link.now))
  | in-Err w ↦ rw (w.result-is, w.link-is) (might_stop w.abandon.ensures.at_back)
]
