use Rattle.std.proofs.Common.{◌≡◌, ◌+◌, ℕ, Some, length, refl, sym, ap, subst, ◌∙◌}
use Rattle.cells.specs.Contents.{cells, Agrees}
use Rattle.vk_types.specs.declared.handles.HandleId.{HandleId}
use Rattle.tables.specs.Table.{entry}
use Rattle.object_helper.specs.Objects.{ObjectStore, heard}
use Rattle.back_core.specs.Own.{log_of, IsReadable}
use Rattle.back_core.specs.Link.{Link, contents_of, fetched}
use Rattle.back_core.specs.Needs.{HostMay}
use Rattle.front_model.specs.declared.object.Object.TheVariants.{Buffer}
use Rattle.front_model.specs.Face.{view}
use Rattle.front_moves.specs.Objects.{key_of, ChangesOne}
use Rattle.front_moves.specs.Core.{CoreParts, face}
use Rattle.front_moves.proofs.Reading.{changed_parts}
use Rattle.front_moves.proofs.group_core.Core.read.Goals as goal

pub read_host-requires-clause-may : goal.read_host-requires-clause-may
read_host-requires-clause-may g c =
    let k : CoreParts = c.args.self.now in
    let s : Link = g.L.BackLink.state c.args.link.now in
    let x : ObjectStore = c.in-Some.store.now in
    let is : entry (key_of (Buffer c.args.buffer)) k.stores ≡ Some x = ap (λ (p : CoreParts). entry (key_of (Buffer c.args.buffer)) p.stores) (sym c.self.view_is) ∙ sym c.in-Some.ensures in
    subst (λ (h : HandleId). HostMay s h.0 c.args.at (length c.args.out.now)) (sym c.id-id.ensures)
    (c.host_comes_to.ensures.may k s c.args.buffer c.args.at (length c.args.out.now) x c.requires.holds c.requires.quiet is c.requires.store c.requires.some)

pub read_host-requires-clause-readable : goal.read_host-requires-clause-readable
read_host-requires-clause-readable g c =
    let k : CoreParts = c.args.self.now in
    let s : Link = g.L.BackLink.state c.args.link.now in
    let x : ObjectStore = c.in-Some.store.now in
    let is : entry (key_of (Buffer c.args.buffer)) k.stores ≡ Some x = ap (λ (p : CoreParts). entry (key_of (Buffer c.args.buffer)) p.stores) (sym c.self.view_is) ∙ sym c.in-Some.ensures in
    subst (λ (h : HandleId). IsReadable (log_of s.mine) h.0 c.args.at (length c.args.out.now)) (sym c.id-id.ensures)
    (c.host_comes_to.ensures.readable k s c.args.buffer c.args.at (length c.args.out.now) x c.requires.quiet is)

pub returns-in-Ok-clause-moved : goal.returns-in-Ok-clause-moved
returns-in-Ok-clause-moved g c =
    let k : CoreParts = c.args.self.now in
    let s : Link = g.L.BackLink.state c.args.link.now in
    let x : ObjectStore = c.in-Some.store.now in
    let d : CoreParts = record { indexes = c.self.inside.indexes; pending = c.self.inside.pending; stores = c.hear.new.self } in
    let is : entry (key_of (Buffer c.args.buffer)) k.stores ≡ Some x = ap (λ (p : CoreParts). entry (key_of (Buffer c.args.buffer)) p.stores) (sym c.self.view_is) ∙ sym c.in-Some.ensures in
    let by : ChangesOne (key_of (Buffer c.args.buffer)) heard k.stores c.hear.new.self = subst (λ (p : CoreParts). ChangesOne (key_of (Buffer c.args.buffer)) heard p.stores c.hear.new.self) c.self.view_is c.hear.ensures in
    c.host_comes_to.ensures.reads k d s (g.L.BackLink.state c.read_host.new.self) c.args.buffer c.args.at c.read_host.new.out x c.requires.holds c.requires.quiet is
    (changed_parts k c.self.inside.indexes c.self.inside.pending c.self.inside.objects c.hear.new.self c.self.view_is) by
    (c.in-Ok.ensures.ok ∙ ap (λ (h : HandleId). fetched s h.0 c.args.at c.read_host.new.out) c.id-id.ensures)

pub returns-in-Ok-clause-bytes : goal.returns-in-Ok-clause-bytes
returns-in-Ok-clause-bytes g c =
    let k : CoreParts = c.args.self.now in
    let s : Link = g.L.BackLink.state c.args.link.now in
    let x : ObjectStore = c.in-Some.store.now in
    let is : entry (key_of (Buffer c.args.buffer)) k.stores ≡ Some x = ap (λ (p : CoreParts). entry (key_of (Buffer c.args.buffer)) p.stores) (sym c.self.view_is) ∙ sym c.in-Some.ensures in
    let has : contents_of s c.id-id.result.0 ≡ view (face k) s (Buffer c.args.buffer) = ap (λ (h : HandleId). contents_of s h.0) c.id-id.ensures ∙ c.host_comes_to.ensures.bytes k s c.args.buffer x c.requires.quiet is in
    subst (λ (v : ℕ → ℕ). Agrees c.read_host.new.out (cells (length c.args.out.now) (λ i. v (c.args.at + i)))) has c.in-Ok.ensures.bytes

pub returns-in-Err-clause-err : goal.returns-in-Err-clause-err
returns-in-Err-clause-err g c = c.host_comes_to.ensures.owns c.args.self.now (g.L.BackLink.state c.args.link.now) (g.L.BackLink.state c.read_host.new.self) c.requires.holds c.in-Err.ensures.err
