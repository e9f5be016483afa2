use Rattle.std.proofs.Common.{◌≡◌, ◌+◌, ◌<◌, ◌≤◌, Some, length, arith, sym, ap, subst, ◌∙◌}
use Rattle.vk_types.specs.declared.handles.HandleId.{HandleId}
use Rattle.tables.specs.Table.{entry}
use Rattle.object_helper.specs.Objects.{ObjectStore, buffer_size}
use Rattle.back_core.specs.Link.{Link, wrote}
use Rattle.back_core.specs.Needs.{HostMay}
use Rattle.front_model.specs.declared.object.Object.TheVariants.{Buffer}
use Rattle.front_moves.specs.Objects.{key_of}
use Rattle.front_moves.specs.Core.{CoreParts}
use Rattle.front_moves.proofs.Preparing.{on_ok}
use Rattle.front_moves.proofs.Reading.{store_size, on_err}
use Rattle.front_moves.proofs.group_core.Core.write.Goals as goal

pub write_host-requires : goal.write_host-requires
write_host-requires g c =
    let k : CoreParts = c.args.self.now in
    let s : Link = g.L.BackLink.state c.args.link.now in
    let x : ObjectStore = c.in-Some.store.now in
    let is : entry (key_of (Buffer c.args.buffer)) k.stores ≡ Some x = ap (λ (p : CoreParts). entry (key_of (Buffer c.args.buffer)) p.stores) (sym c.self.view_is) ∙ sym c.in-Some.ensures in
    subst (λ (h : HandleId). HostMay s h.0 c.args.at (length c.args.bytes.now)) (sym c.id.ensures)
    (c.host_comes_to.ensures.may k s c.args.buffer c.args.at (length c.args.bytes.now) x c.requires.holds c.requires.quiet is c.requires.store c.requires.some)

pub returns-in-Some-clause-moved : goal.returns-in-Some-clause-moved
returns-in-Some-clause-moved g c =
    let k : CoreParts = c.args.self.now in
    let s : Link = g.L.BackLink.state c.args.link.now in
    let x : ObjectStore = c.in-Some.store.now in
    let is : entry (key_of (Buffer c.args.buffer)) k.stores ≡ Some x = ap (λ (p : CoreParts). entry (key_of (Buffer c.args.buffer)) p.stores) (sym c.self.view_is) ∙ sym c.in-Some.ensures in
    let fits : c.size-size.result < 18446744073709551616 = c.size-size.type_inv in
    let size : c.size-size.result ≡ buffer_size x.kind = c.size-size.ensures in
    let len : buffer_size x.kind ≡ c.requires.store.0 = store_size k c.args.buffer c.requires.store.0 x is c.requires.store.1 in
    let inside : c.args.at + length c.args.bytes.now ≤ c.requires.store.0 = c.requires.store.2 in
    let to : wrote s c.id.result.0 c.args.at c.args.bytes.now ≡ wrote s x.handle.0 c.args.at c.args.bytes.now = ap (λ (h : HandleId). wrote s h.0 c.args.at c.args.bytes.now) c.id.ensures in
    on_ok c.write_host.result
    (λ e. c.host_comes_to.ensures.writes k s (g.L.BackLink.state c.write_host.new.self) c.args.buffer c.args.at c.args.bytes.now x c.requires.holds c.requires.quiet is (c.requires.store.0, c.requires.store.1) (omega arith) (e ∙ to))
    c.write_host.ensures.ok

pub returns-in-Some-clause-err : goal.returns-in-Some-clause-err
returns-in-Some-clause-err g c =
    on_err c.write_host.result (λ e. c.host_comes_to.ensures.owns c.args.self.now (g.L.BackLink.state c.args.link.now) (g.L.BackLink.state c.write_host.new.self) c.requires.holds e) c.write_host.ensures.err
