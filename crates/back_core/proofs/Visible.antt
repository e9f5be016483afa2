-- What is readable in a group's own list is visible in the device's log.
use Rattle.std.proofs.Common.{◌≡◌, ℕ, ◌+◌, ◌<◌, Bool, true, false, cond, eqb, List, ◌++◌, refl, sym, ap, ◌∙◌, subst}
use Rattle.std.specs.Prelude.{◌&&◌, ◌||◌, nat_lt, min, max, not, is_some, Option, Some, None, slice_get}
use Rattle.std.specs.List.{list_any}
use Rattle.std.proofs.lemmas.Bool.{and_parts, and_from, or_left, cond-true, false≢true}
use Rattle.std.proofs.lemmas.List.{append-nil}
use Rattle.std.proofs.lemmas.List.Elements.{filter_map-append}
use Rattle.std.proofs.lemmas.Option.{none-some, same_Some}
use Rattle.vk_types.specs.declared.regions.Barrier.{Barrier}
use Rattle.vk_types.specs.declared.ops.Node.{Node}
use Rattle.vk_types.specs.Accesses.{in_common, host_read}
use Rattle.vk_types.specs.Touches.{barrier_of}
use Rattle.vk_model.specs.Log.{Item, Command, HostWrite, Wait, Signal, Range, node_ranges, clash, commands, touches_object}
use Rattle.vk_model.specs.Queues.{group_list}
use Rattle.vk_model.proofs.Clashes.{any_weaker, barrier_touches_object}
use Rattle.vk_model.proofs.Groups.{touches_id_is}
use Rattle.vk_model.proofs.Kept.{place_of, index_of, From, from_kept, place_order, Kept, kept_at, order_by_place}
use Rattle.vk_device.specs.Order.{writes_into, IsVisible}
use Rattle.back_core.specs.declared.back_event.BackEvent.{BackEvent}
use Rattle.back_core.specs.Own.{writes_in, HasHostBarrier, IsReadable}
use Rattle.back_core.specs.History.{link_of}
use Rattle.back_core.specs.Needs.{HostMay}
use Rattle.back_core.specs.Run.{IsRun}
use Rattle.back_core.proofs.Replacing.{node_on, nodes_on}
use Rattle.back_core.proofs.Grouped.{nodes_on-group, nodes_on-untouched}
use Rattle.back_core.proofs.Adding.{own_log}
use Rattle.back_core.proofs.Makers.{maker, maker_is_maker}
use Rattle.back_core.proofs.Plans.{flushed, nodes_in, device_log, plan}
use Rattle.back_core.proofs.OwnLogs.{host_made}
use Rattle.back_core.proofs.Planned.{LeavesAlone, flushed_untouched, of_makers}

-- Writes into a range

touched_from_writes : (n : Node) (id at size : ℕ) → writes_in n id at size ≡ true → touches_object n id ≡ true
touched_from_writes n id at size e = sym (touches_id_is 0 n id) ∙ any_weaker (λ r. clash r read) (λ r. eqb r.id id) same (node_ranges n) e
  where
    read : Range
    read = record { id = id; start = at; end = at + size; written = false }

    same : (r : Range) → clash r read ≡ true → eqb r.id id ≡ true
    same r c = (and_parts (eqb r.id id) (nat_lt (max r.start at) (min r.end (at + size))) (and_parts (eqb r.id id && nat_lt (max r.start at) (min r.end (at + size))) (r.written || false) c).0).0

no_barrier : (o : Option Barrier) → not (is_some o) ≡ true → o ≡ None
no_barrier None e = refl
no_barrier (Some b) e = absurd (false≢true e)

-- a node that writes into the range is no barrier, and writes a place of it
writes_both : (n : Node) (id at size : ℕ) → writes_into n id at (at + size) ≡ true → (barrier_of n ≡ None) × (writes_in n id at size ≡ true)
writes_both n id at size e = (no_barrier (barrier_of n) parts.0, any_weaker written (λ r. clash r read) clashes (node_ranges n) parts.1)
  where
    read : Range
    read = record { id = id; start = at; end = at + size; written = false }

    written : Range → Bool
    written r = r.written && (eqb r.id id) && nat_lt (max r.start at) (min r.end (at + size))

    parts : (not (is_some (barrier_of n)) ≡ true) × (list_any written (node_ranges n) ≡ true)
    parts = and_parts (not (is_some (barrier_of n))) (list_any written (node_ranges n)) e

    clashes : (r : Range) → written r ≡ true → clash r read ≡ true
    clashes r w =
        let outer = and_parts (r.written && (eqb r.id id)) (nat_lt (max r.start at) (min r.end (at + size))) w in
        let inner = and_parts r.written (eqb r.id id) outer.0 in
        and_from (eqb r.id id && nat_lt (max r.start at) (min r.end (at + size))) (r.written || false)
        (and_from (eqb r.id id) (nat_lt (max r.start at) (min r.end (at + size))) inner.1 outer.1)
        (or_left r.written false inner.0)

-- The nodes that touch an object

-- behind a place among the nodes stands a barrier of the object to reads by the host
record HasBarrier (nodes : List Node) (id place : ℕ) : Type 0 where
  later : ℕ
  node : Node
  barrier : Barrier
  behind : place < later
  at : slice_get nodes later ≡ Some node
  is : barrier_of node ≡ Some barrier
  of_object : barrier.id.0 ≡ id
  to_host : in_common barrier.second host_read ≡ true

-- behind each node that writes the range, and is no barrier itself, stands such a barrier
abbrev AreSeen : List Node → ℕ → ℕ → ℕ → Type 0
AreSeen nodes id at size = (k : ℕ) (n : Node) → slice_get nodes k ≡ Some n → barrier_of n ≡ None → writes_in n id at size ≡ true → HasBarrier nodes id k

node_on-command : (id q : ℕ) (n : Node) → touches_object n id ≡ true → node_on id (Command q n) ≡ Some n
node_on-command id q n t = cond-true (touches_object n id) (Some n) None t

-- the item of a node
command_of : (id : ℕ) (x : Item) (n : Node) → node_on id x ≡ Some n → (q : ℕ) × (x ≡ Command q n)
command_of id (Command q m) n e = (q, ap (Command q) (go (touches_object m id) e))
  where
    go : (b : Bool) → cond b (Some m) None ≡ Some n → m ≡ n
    go true is = same_Some m n is
    go false is = absurd (none-some n is)
command_of id (HostWrite of at bytes) n e = absurd (none-some n e)
command_of id (Wait q s) n e = absurd (none-some n e)
command_of id (Signal q s) n e = absurd (none-some n e)

module _ (id : ℕ) (log : List Item) where
  -- where a node stands in the log
  command_at : (k : ℕ) (n : Node) → slice_get (nodes_on id log) k ≡ Some n → (q : ℕ) × (slice_get log (place_of (node_on id) log k) ≡ Some (Command q n))
  command_at k n at =
      let from : From (node_on id) log (place_of (node_on id) log k) n = from_kept (node_on id) log k n at in
      let command : (q : ℕ) × (from.source ≡ Command q n) = command_of id from.source n from.gives in
      (command.0, from.at ∙ ap Some command.1)

  seen_from_readable : (at size : ℕ) → IsReadable log id at size → AreSeen (nodes_on id log) id at size
  seen_from_readable at size readable k n here none writes =
      let command : (q : ℕ) × (slice_get log (place_of (node_on id) log k) ≡ Some (Command q n)) = command_at k n here in
      let b : HasHostBarrier log id (place_of (node_on id) log k) = readable (place_of (node_on id) log k) command.0 n command.1 none writes in
      let touched : touches_object b.node id ≡ true = subst (λ i. touches_object b.node i ≡ true) b.of_object (barrier_touches_object b.node b.barrier b.is) in
      let kept : Kept (node_on id) log b.later b.node = kept_at (node_on id) log b.later (Command b.queue b.node) b.node b.at (node_on-command id b.queue b.node touched) in
      record {
        later = index_of (node_on id) log b.later;
        node = b.node;
        barrier = b.barrier;
        behind = order_by_place (node_on id) log k (index_of (node_on id) log b.later) (subst (λ p. place_of (node_on id) log k < p) (sym kept.place) b.behind);
        at = kept.at;
        is = b.is;
        of_object = b.of_object;
        to_host = b.to_host;
      }

  visible_from_seen : (at size : ℕ) → AreSeen (nodes_on id log) id at size → IsVisible log id at (at + size)
  visible_from_seen at size seen k q n here writes =
      let both : (barrier_of n ≡ None) × (writes_in n id at size ≡ true) = writes_both n id at size writes in
      let kept : Kept (node_on id) log k n = kept_at (node_on id) log k (Command q n) n here (node_on-command id q n (touched_from_writes n id at size both.1)) in
      let b : HasBarrier (nodes_on id log) id (index_of (node_on id) log k) = seen (index_of (node_on id) log k) n kept.at both.0 both.1 in
      let command : (r : ℕ) × (slice_get log (place_of (node_on id) log b.later) ≡ Some (Command r b.node)) = command_at b.later b.node b.at in
      record {
        place = place_of (node_on id) log b.later;
        later = subst (λ p. p < place_of (node_on id) log b.later) kept.place (place_order (node_on id) log (index_of (node_on id) log k) b.later b.behind);
        queue = command.0;
        command = b.node;
        at = command.1;
        barrier = b.barrier;
        is = b.is;
        same = b.of_object;
        to_host = b.to_host;
      }

-- The two logs

module _ (alone : LeavesAlone) where
  -- the device's log has the nodes on the object that the group's own log has
  same_nodes : (h : List BackEvent) (g id at size : ℕ) → IsRun h → HostMay (link_of h g) id at size → nodes_on id (own_log h g) ≡ nodes_on id (device_log h)
  same_nodes h g id at size run may =
      ((of_makers alone h run).replaces g).nodes id
      ∙ ap (λ f. nodes_on id (group_list (maker h) f (plan h))) (sym (maker_is_maker h run g id (host_made h g id at size may)))
      ∙ nodes_on-group (maker h) id (plan h)
      ∙ filter_map-append (node_on id) (device_log h) (commands 0 (nodes_in (flushed h)))
      ∙ ap (λ l. nodes_on id (device_log h) ++ l) (nodes_on-untouched id (nodes_in (flushed h)) (flushed_untouched h id (alone h g id at size run may)))
      ∙ append-nil (nodes_on id (device_log h))

  pub visible : (h : List BackEvent) (g id at size : ℕ) → IsRun h → HostMay (link_of h g) id at size → IsReadable (own_log h g) id at size → IsVisible (device_log h) id at (at + size)
  visible h g id at size run may readable =
      visible_from_seen id (device_log h) at size (subst (λ l. AreSeen l id at size) (same_nodes h g id at size run may) (seen_from_readable id (own_log h g) at size readable))
