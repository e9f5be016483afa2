-- The bytes of a buffer that the host may read agree with what the list of its group evaluates to.
use Rattle.std.proofs.Common.{◌≡◌, ℕ, ◌+◌, ◌<◌, ◌≤◌, true, false, List, length, refl, sym, ap, ◌∙◌, subst, arith}
use Rattle.std.specs.Prelude.{Option, Some, None, IsSome, slice_get, slice_index, unwrap_or}
use Rattle.std.proofs.lemmas.List.{get_or_default}
use Rattle.cells.specs.Contents.{UNDEFINED, cells, part, Agrees, AgreesAt}
use Rattle.vk_types.specs.declared.handles.Kind.{Kind}
use Rattle.vk_types.specs.declared.handles.Kind.TheVariants.{Buffer, Image}
use Rattle.vk_types.specs.declared.ops.Node.{Node}
use Rattle.vk_model.specs.Fitting.{size_of}
use Rattle.vk_model.specs.Log.{Command, commands, touches_object}
use Rattle.vk_model.specs.Meaning.{eval, touches_id}
use Rattle.vk_model.specs.Queues.{group_list}
use Rattle.vk_model.proofs.Device.{touches_id_of}
use Rattle.vk_model.proofs.Groups.{touches_id_is, eval_of_group, eval_untouched}
use Rattle.vk_model.proofs.Lists.{agrees_with}
use Rattle.vk_model.proofs.Parts.{part-at, length-part}
use Rattle.vk_model.proofs.SameKinds.{eval_same_kinds}
use Rattle.vk_device.specs.Journal.{kind_of, ReachesTo}
use Rattle.vk_device.specs.Order.{kinds_of as made_with}
use Rattle.vk_device.specs.Running.{IsInOrder}
use Rattle.vk_device.proofs.Steps.{reads_in_order}
use Rattle.back_core.specs.declared.back_event.BackEvent.{BackEvent}
use Rattle.back_core.specs.Link.{kinds_of, contents_of}
use Rattle.back_core.specs.History.{own_part, link_of}
use Rattle.back_core.specs.Needs.{HostMay}
use Rattle.back_core.specs.Run.{journal_of, IsRun}
use Rattle.back_core.proofs.Each.{Each, Each-map, Each-weaker}
use Rattle.back_core.proofs.Adding.{own_log}
use Rattle.back_core.proofs.Makers.{made, maker, maker_is_maker}
use Rattle.back_core.proofs.Plans.{flushed, nodes_in, device_log, plan}
use Rattle.back_core.proofs.OwnLogs.{host_made, own_made}
use Rattle.back_core.proofs.GroupLogs.{has_groups}
use Rattle.back_core.proofs.Planned.{LeavesAlone, flushed_untouched, of_makers}
use Rattle.back_core.proofs.Layouts.{log_sound}

-- the device has the kinds of a group's objects that the group sees
same_kinds : (h : List BackEvent) → IsRun h → (g k q : ℕ) (n : Node) (id : ℕ) → slice_get (own_log h g) k ≡ Some (Command q n) → touches_object n id ≡ true → made_with (journal_of h) id ≡ kinds_of (link_of h g) id
same_kinds h run g k q n id at t = go ((own_part h g).kinds id) refl (own_made h run g k (Command q n) at id (touches_id_of n id t q))
  where
    go : (o : Option Kind) → (own_part h g).kinds id ≡ o → IsSome o → made_with (journal_of h) id ≡ kinds_of (link_of h g) id
    go None is some = absurd (cc)
    go (Some kind) is some = (made h run g id kind is).of_kind ∙ sym (ap (λ o. unwrap_or o (Buffer 0)) is)

-- the bytes of a buffer that reaches to a place
within : (o : Option Kind) (end : ℕ) (bytes : List ℕ) → ReachesTo o end → ((kind : Kind) → o ≡ Some kind → length bytes ≡ size_of kind) → (end ≤ length bytes) × IsSome o
within None end bytes reaches sizes = absurd reaches
within (Some (Buffer size)) end bytes reaches sizes = (omega (arith, reaches, sizes (Buffer size) refl), refl)
within (Some (Image format width height)) end bytes reaches sizes = absurd reaches

-- what the host may write or read lies in a live buffer
abbrev pub LiesInside : Type 0
LiesInside = (h : List BackEvent) (g id at size : ℕ) → IsRun h → HostMay (link_of h g) id at size → ReachesTo (kind_of (journal_of h) id) (at + size)

module _ (alone : LeavesAlone) where
  -- the object has by the device's log what it has by the group's own
  same_contents : (h : List BackEvent) (g id at size : ℕ) → IsRun h → HostMay (link_of h g) id at size → eval (made_with (journal_of h)) (device_log h) id ≡ contents_of (link_of h g) id
  same_contents h g id at size run may =
      sym (eval_untouched (made_with (journal_of h)) (device_log h) (commands 0 (nodes_in (flushed h))) id untouched)
      ∙ eval_of_group (made_with (journal_of h)) (maker h) (plan h) id (has_groups (maker h) (own_log h) (plan h) (of_makers alone h run))
      ∙ ap (λ f. eval (made_with (journal_of h)) (group_list (maker h) f (plan h)) id) (maker_is_maker h run g id (host_made h g id at size may))
      ∙ sym (ap (λ (c : ℕ → ℕ → ℕ). c id) (((of_makers alone h run).replaces g).contents (made_with (journal_of h))))
      ∙ ap (λ (c : ℕ → ℕ → ℕ). c id) (eval_same_kinds (made_with (journal_of h)) (kinds_of (link_of h g)) (own_log h g) (same_kinds h run g))
    where
      untouched : Each (λ x. touches_id x id ≡ false) (commands 0 (nodes_in (flushed h)))
      untouched = Each-map (λ x. touches_id x id ≡ false) (Command 0) (nodes_in (flushed h))
          (Each-weaker (λ n. touches_object n id ≡ false) (λ n. touches_id (Command 0 n) id ≡ false) (nodes_in (flushed h)) (λ n f. touches_id_is 0 n id ∙ f) (flushed_untouched h id (alone h g id at size run may)))

  pub agreeing : LiesInside → (h : List BackEvent) (bytes_of : ℕ → List ℕ) (g id at size : ℕ) → IsRun h → IsInOrder (journal_of h) bytes_of → HostMay (link_of h g) id at size →
      Agrees (part (bytes_of id) at size) (cells size (λ i. contents_of (link_of h g) id (at + i)))
  agreeing inside h bytes_of g id at size run order may = agrees_with size (part (bytes_of id) at size) (λ i. contents_of (link_of h g) id (at + i)) long each
    where
      there : (at + size ≤ length (bytes_of id)) × IsSome (kind_of (journal_of h) id)
      there = within (kind_of (journal_of h) id) (at + size) (bytes_of id) (inside h g id at size run may) (λ kind is. order.sizes id kind is)

      long : length (part (bytes_of id) at size) ≡ size
      long = length-part (bytes_of id) at size there.0

      each : (i : ℕ) → i < size → AgreesAt (slice_index (part (bytes_of id) at size) i) (contents_of (link_of h g) id (at + i))
      each i lt defined =
          let same : eval (made_with (journal_of h)) (device_log h) id (at + i) ≡ contents_of (link_of h g) id (at + i) = ap (λ (c : ℕ → ℕ). c (at + i)) (same_contents h g id at size run may) in
          get_or_default (part (bytes_of id) at size) i 0 UNDEFINED (subst (λ n. i < n) (sym long) lt)
          ∙ part-at (bytes_of id) at size i lt
          ∙ reads_in_order (journal_of h) bytes_of id order (log_sound alone h run) (alone h g id at size run may).settled there.1 (at + i) (subst (λ c. c < 256) (sym same) defined)
          ∙ same
