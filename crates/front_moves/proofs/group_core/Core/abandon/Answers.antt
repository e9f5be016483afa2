use Rattle.std.proofs.Common.{◌≡◌, ap, sym, subst, ◌∙◌, arith}
use Rattle.tables.specs.Table.{Entries}
use Rattle.object_helper.specs.Objects.{ObjectStore}
use Rattle.back_core.specs.Link.{Link, abandoned}
use Rattle.front_moves.specs.Objects.{TakesOne}
use Rattle.front_moves.specs.Core.{CoreParts}
use Rattle.front_moves.specs.Ending.{HasLetGo}
use Rattle.front_moves.proofs.AtBack.{did_nothing, handless_then}
use Rattle.front_moves.proofs.group_core.Core.abandon.Goals as goal

pub loop-store-init : goal.loop-store-init
loop-store-init g c =
    let s : Link = g.L.BackLink.state c.args.link.now in
    record {
      let_go = subst (λ (p : CoreParts). HasLetGo c.args.self.stores p.stores s s) (sym c.self.view_is) (c.abandon_comes_to.ensures.begins c.args.self.stores s c.requires.owns);
      faults = omega arith;
      at_back = did_nothing (g.L.BackLink.state c.args.link.now) (g.L.BackLink.told c.args.link.now);
    }

pub loop-store-preserved : goal.loop-store-preserved
loop-store-preserved g c =
    let s : Link = g.L.BackLink.state c.args.link.now in
    let t : Link = g.L.BackLink.state c.loop-store.link in
    let takes : TakesOne c.in-Some.field-0-0 c.in-Some.store c.loop-store.objects c.take_first.new.self = c.in-Some.ensures.some in
    let state : g.L.BackLink.state c.abandon.new.self ≡ abandoned t c.in-Some.store.handle.0 = c.abandon.ensures.state ∙ ap (λ x. abandoned t x.handle.0) c.into_garbage-handle.ensures in
    record {
      let_go = subst (HasLetGo c.args.self.stores c.take_first.new.self s) (sym state)
          (c.abandon_comes_to.ensures.goes_on c.args.self.stores c.loop-store.objects c.take_first.new.self s t c.in-Some.field-0-0 c.in-Some.store c.requires.owns c.loop-store.invariant.let_go takes);
      faults = let low = c.loop-store.invariant.faults in let later = c.abandon.ensures.faults in omega (arith, low, later);
      at_back = handless_then (omega arith) c.loop-store.invariant.at_back c.abandon.ensures.at_back;
    }

pub returns-clause-let_go : goal.returns-clause-let_go
returns-clause-let_go g c =
    let s : Link = g.L.BackLink.state c.args.link.now in
    let t : Link = g.L.BackLink.state c.loop-store.link in
    λ o x at. c.abandon_comes_to.ensures.ends c.args.self.stores s t o x
    (subst (λ (left : Entries ObjectStore). HasLetGo c.args.self.stores left s t) c.in_default.ensures.none c.loop-store.invariant.let_go) at
