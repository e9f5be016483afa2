-- The plan has for each group a list that can replace the log of its own list, so it is sound.
use Rattle.std.proofs.Common.{◌≡◌, ℕ, ◌+◌, ◌<◌, ◌==◌, Bool, false, cond, List, [], ◌∷◌, ◌++◌, length, refl, sym, ap, ◌∙◌, subst, arith}
use Rattle.std.specs.Prelude.{◌/◌}
use Rattle.std.specs.List.{list_any}
use Rattle.std.proofs.lemmas.Bool.{false_from_ne_true, both_ways}
use Rattle.std.proofs.lemmas.List.{append-nil}
use Rattle.std.proofs.lemmas.List.Folds.{list_any_at}
use Rattle.std.proofs.lemmas.Option.{slice_get_within, get_or_from_slice_get}
use Rattle.vk_types.specs.declared.handles.HandleId.{HandleId}
use Rattle.vk_types.specs.declared.batches.Batch.{Batch}
use Rattle.vk_model.specs.Log.{HostWrite, commands, touches_object, IsSound}
use Rattle.vk_model.specs.Queues.{group_list}
use Rattle.vk_model.proofs.Handover.{sound_from_groups}
use Rattle.vk_model.proofs.Lists.{one_queue_handed_over}
use Rattle.back_core.specs.declared.back_event.BackEvent.{BackEvent}
use Rattle.back_core.specs.declared.back_event.BackEvent.TheVariants.{Wrote, Enqueued}
use Rattle.back_core.specs.History.{own_part, link_of}
use Rattle.back_core.specs.Needs.{HostMay}
use Rattle.back_core.specs.Run.{MayHappen, IsRun, IsLeftAlone}
use Rattle.back_core.proofs.Runs.{of_each_run}
use Rattle.back_core.proofs.Parts.{pushed}
use Rattle.back_core.proofs.Each.{Each, Each-weaker, Each-flat_map, get_drop}
use Rattle.back_core.proofs.Grouped.{BelongsTo}
use Rattle.back_core.proofs.Adding.{IsOther, by_sort, own_log, own_items, own_items-other, own_log-then, made_still}
use Rattle.back_core.proofs.Makers.{maker, IsMaker, maker_is_maker}
use Rattle.back_core.proofs.Plans.{accepted, flushed, nodes_in, is_fed, device_log, plan, plan-nil, plan-other, plan-enqueued, plan-wrote}
use Rattle.back_core.proofs.OwnLogs.{NodeMade, host_made, batch_made, own_sound}
use Rattle.back_core.proofs.GroupLogs.{IsGrouped, one_queue, grouped-same, grouped-nil, grouped-batch, grouped-write}

-- What was flushed

none_passes : {X : Type 0} (p : X → Bool) (xs : List X) → list_any p xs ≡ false → Each (λ x. p x ≡ false) xs
none_passes p xs none k x at =
    let lt : k < length xs = slice_get_within xs k x at in
    false_from_ne_true (p x) (λ t. both_ways (list_any p xs) none (list_any_at p xs k x lt (ap p (get_or_from_slice_get xs k x x at) ∙ t)))

-- no node that was flushed touches an object that is left alone
pub flushed_untouched : (h : List BackEvent) (id : ℕ) → IsLeftAlone h id → Each (λ n. touches_object n id ≡ false) (nodes_in (flushed h))
flushed_untouched h id left = Each-flat_map (λ n. touches_object n id ≡ false) (λ (b : Batch). b.nodes) (flushed h) (λ k b at.
    none_passes (λ n. touches_object n id) b.nodes (left.flushed (accepted h + k) b (omega arith) (sym (get_drop (accepted h) (pushed h) k) ∙ at)))

-- The plan

-- what the host may write or read is left alone
abbrev pub LeavesAlone : Type 0
LeavesAlone = (h : List BackEvent) (g id at size : ℕ) → IsRun h → HostMay (link_of h g) id at size → IsLeftAlone h id

abbrev IsPlannedRun : List BackEvent → Type 0
IsPlannedRun h = (group_of : ℕ → ℕ) → IsMaker group_of h → IsGrouped group_of (own_log h) (plan h)

maker_before : (h : List BackEvent) (e : BackEvent) (group_of : ℕ → ℕ) → IsMaker group_of (h ++ e ∷ []) → IsMaker group_of h
maker_before h e group_of is g id some = is g id (made_still h e g id some)

planned_other : (h : List BackEvent) (e : BackEvent) → IsRun h → MayHappen h e → IsOther e → IsPlannedRun h → IsPlannedRun (h ++ e ∷ [])
planned_other h e run may other so_far group_of is =
    grouped-same group_of (own_log h) (own_log (h ++ e ∷ [])) (plan h) (plan (h ++ e ∷ []))
    (λ g. own_log-then h e g ∙ ap (λ l. own_log h g ++ l) (own_items-other g e other) ∙ append-nil (own_log h g))
    (plan-other h e (is_fed h run) may other)
    (so_far group_of (maker_before h e group_of is))

planned_batch : (h : List BackEvent) (b : Batch) → IsRun h → MayHappen h (Enqueued b) → IsPlannedRun h → IsPlannedRun (h ++ Enqueued b ∷ [])
planned_batch h b run may so_far group_of is =
    let old : IsMaker group_of h = maker_before h (Enqueued b) group_of is in
    grouped-same group_of (λ g. own_log h g ++ own_items g (Enqueued b)) (own_log (h ++ Enqueued b ∷ [])) (plan h ++ commands 0 b.nodes) (plan (h ++ Enqueued b ∷ []))
    (λ g. own_log-then h (Enqueued b) g)
    (plan-enqueued h b (is_fed h run))
    (grouped-batch group_of (own_log h) (plan h) (so_far group_of old) (b.index / 8) b.nodes
    (Each-weaker (NodeMade (own_part h (b.index / 8)).kinds) (BelongsTo group_of (b.index / 8)) b.nodes (λ n made id t. old (b.index / 8) id (made id t)) (batch_made h (b.index / 8) b may.1)))

module _ (alone : LeavesAlone) where
  planned_write : (h : List BackEvent) (group : ℕ) (id : HandleId) (at : ℕ) (bytes : List ℕ) → IsRun h → MayHappen h (Wrote group id at bytes) → IsPlannedRun h → IsPlannedRun (h ++ Wrote group id at bytes ∷ [])
  planned_write h group id at bytes run may so_far group_of is =
      let old : IsMaker group_of h = maker_before h (Wrote group id at bytes) group_of is in
      let by : group_of id.0 ≡ group = old group id.0 (host_made h group id.0 at (length bytes) may) in
      grouped-same group_of (λ g. own_log h g ++ cond (group_of id.0 == g) (HostWrite id.0 at bytes ∷ []) []) (own_log (h ++ Wrote group id at bytes ∷ [])) (device_log h ++ HostWrite id.0 at bytes ∷ commands 0 (nodes_in (flushed h))) (plan (h ++ Wrote group id at bytes ∷ []))
      (λ g. own_log-then h (Wrote group id at bytes) g ∙ ap (λ f. own_log h g ++ cond (f == g) (HostWrite id.0 at bytes ∷ []) []) (sym by))
      (plan-wrote h group id at bytes)
      (grouped-write group_of (own_log h) (device_log h) (nodes_in (flushed h)) (so_far group_of old) id.0 at bytes (flushed_untouched h id.0 (alone h group id.0 at (length bytes) run may)))

  -- the plan has for each group a list that can replace its own log
  pub planned : (h : List BackEvent) → IsRun h → (group_of : ℕ → ℕ) → IsMaker group_of h → IsGrouped group_of (own_log h) (plan h)
  planned = of_each_run IsPlannedRun
      (λ group_of is. grouped-same group_of (λ g. []) (own_log []) [] (plan []) (λ g. refl) plan-nil (grouped-nil group_of))
      (λ h e run may so_far. by_sort (λ e. MayHappen h e → IsPlannedRun (h ++ e ∷ []))
      (λ group id at bytes may. planned_write h group id at bytes run may so_far)
      (λ b may. planned_batch h b run may so_far)
      (λ e other may. planned_other h e run may other so_far)
      e may)

  pub of_makers : (h : List BackEvent) → IsRun h → IsGrouped (maker h) (own_log h) (plan h)
  of_makers h run = planned h run (maker h) (maker_is_maker h run)

  group_sound : (h : List BackEvent) → IsRun h → (g : ℕ) → IsSound (group_list (maker h) g (plan h))
  group_sound h run g = subst IsSound (append-nil (group_list (maker h) g (plan h))) (((of_makers h run).replaces g).sound [] (subst IsSound (sym (append-nil (own_log h g))) (own_sound h run g)))

  pub plan_sound : (h : List BackEvent) → IsRun h → IsSound (plan h)
  plan_sound h run = sound_from_groups (plan h) (maker h) (one_queue_handed_over (plan h) (one_queue (maker h) (own_log h) (plan h) (of_makers h run))) (group_sound h run)
