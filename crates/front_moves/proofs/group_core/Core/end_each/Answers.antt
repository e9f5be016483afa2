use Rattle.std.proofs.Common.{◌≡◌, ℕ, ◌==◌, refl, sym, ap, subst, ◌∙◌, arith}
use Rattle.std.specs.Prelude.{Some, None, if◌then◌else◌}
use Rattle.tables.specs.Table.{Entries, entry}
use Rattle.object_helper.specs.Objects.{ObjectStore}
use Rattle.front_model.specs.declared.object.Object.{Object}
use Rattle.front_model.specs.Stands.{Holds, no_hands}
use Rattle.front_moves.specs.Objects.{key_of, TakesOne}
use Rattle.front_moves.specs.Core.{CoreParts, face}
use Rattle.front_moves.proofs.AtBack.{did_nothing, handless_then}
use Rattle.front_moves.proofs.Keys.{object_at, key_at}
use Rattle.front_moves.proofs.group_core.Core.end_each.Goals as goal

pub loop-store-init : goal.loop-store-init
loop-store-init g c = record {
  holds = subst (λ (p : CoreParts). Holds (face p) no_hands (g.L.BackLink.state c.args.link.now)) (sym c.self.view_is) c.requires.holds;
  pending = ap (λ (p : CoreParts). (face p).pending) c.self.view_is;
  group = ap (λ (p : CoreParts). p.indexes.group) c.self.view_is;
  inside = c.self.invariant;
  faults = omega arith;
  at_back = did_nothing (g.L.BackLink.state c.args.link.now) (g.L.BackLink.told c.args.link.now);
}

-- what was taken out under a key was the store of an object
was_stored : (core : CoreParts) (new : Entries ObjectStore) (key : ℕ) (store : ObjectStore) → TakesOne key store core.stores new → entry (key_of (object_at key)) core.stores ≡ Some store
was_stored core new key store takes = ap (λ k. entry k core.stores) (key_at key) ∙ takes.taken

left_so : (core : CoreParts) (new : Entries ObjectStore) (key : ℕ) (store : ObjectStore) → TakesOne key store core.stores new →
    (q : ℕ) → entry q new ≡ (if q == key_of (object_at key) then None else entry q core.stores)
left_so core new key store takes q = takes.others q ∙ ap (λ k. if q == k then None else entry q core.stores) (sym (key_at key))

pub give-requires : goal.give-requires
give-requires g c =
    let core : CoreParts = record { indexes = c.loop-store.self-inside.indexes; pending = c.loop-store.self-inside.pending; stores = c.loop-store.self-inside.objects } in
    rw c.into_garbage.ensures
    (c.end_comes_to.ensures.may core (g.L.BackLink.state c.loop-store.link) (object_at c.in-Some.field-0-0) c.in-Some.store c.loop-store.invariant.holds
    (was_stored core c.take_first.new.self c.in-Some.field-0-0 c.in-Some.store c.in-Some.ensures.some))

pub loop-store-preserved : goal.loop-store-preserved
loop-store-preserved g c =
    let core : CoreParts = record { indexes = c.loop-store.self-inside.indexes; pending = c.loop-store.self-inside.pending; stores = c.loop-store.self-inside.objects } in
    let new : CoreParts = record { indexes = c.loop-store.self-inside.indexes; pending = c.loop-store.self-inside.pending; stores = c.take_first.new.self } in
    let o : Object = object_at c.in-Some.field-0-0 in
    record {
      holds = rw (c.give.ensures.state, c.into_garbage.ensures)
          (c.end_comes_to.ensures.given core new (g.L.BackLink.state c.loop-store.link) o c.in-Some.store c.loop-store.invariant.holds
          (was_stored core c.take_first.new.self c.in-Some.field-0-0 c.in-Some.store c.in-Some.ensures.some) refl
          (left_so core c.take_first.new.self c.in-Some.field-0-0 c.in-Some.store c.in-Some.ensures.some)).holds;
      pending = c.loop-store.invariant.pending;
      group = c.loop-store.invariant.group;
      inside = c.loop-store.invariant.inside;
      faults = let low = c.loop-store.invariant.faults in let later = c.give.ensures.faults in omega (arith, low, later);
      at_back = handless_then (omega arith) c.loop-store.invariant.at_back c.give.ensures.at_back;
    }

pub invariant_of-self : goal.invariant_of-self
invariant_of-self g c = c.loop-store.invariant.inside
