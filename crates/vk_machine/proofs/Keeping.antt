-- A device in memory keeps what it keeps, call by call.
use Rattle.std.proofs.Common.{◌≡◌, ◌≢◌, ℕ, ◌+◌, ◌<◌, ◌≤◌, ◌==◌, List, [], ◌∷◌, ◌++◌, length, Bool, true, false, cond, refl, sym, ◌∙◌, ap, subst, arith, inl, inr, length-append, eq-eqb}
use Rattle.std.specs.Prelude.{◌⊎◌, Option, Some, None, option_map, slice_get, Contains, IsSome, All, unwrap_or}
use Rattle.std.specs.List.{remove}
use Rattle.std.proofs.lemmas.List.{append-nil, length-replicate}
use Rattle.std.proofs.lemmas.Bool.{cases_eq, ne_eqb, cases_Bool, false≢true}
use Rattle.std.proofs.lemmas.Option.{same_Some, slice_get_within}
use Rattle.vk_types.specs.declared.handles.HandleId.{HandleId}
use Rattle.vk_types.specs.declared.handles.Kind.{Kind}
use Rattle.vk_types.specs.declared.handles.Kind.TheVariants.{Buffer, Image}
use Rattle.vk_types.specs.declared.ops.Node.{Node}
use Rattle.vk_types.specs.declared.batches.Batch.{Batch}
use Rattle.cells.specs.Contents.{overwritten}
use Rattle.vk_model.specs.Fitting.{IsKind, NodeFits, size_of}
use Rattle.vk_model.specs.Log.{Item, Command, touches_object, item_edge, HasEdge, IsReady}
use Rattle.vk_model.specs.Meaning.{apply, IsSettled, ContentsAgree}
use Rattle.vk_model.proofs.SameKinds.{apply_same_kinds}
use Rattle.vk_model.proofs.Device.{ready_by_edges, touches_id_of}
use Rattle.vk_model.proofs.Parts.{length-overwritten}
use Rattle.vk_objects.specs.declared.objects.Object.{Object}
use Rattle.vk_objects.specs.declared.objects.Objects.{Objects}
use Rattle.vk_objects.specs.Objects as store
use Rattle.vk_objects.specs.Undefined.{KeepsUndefined}
use Rattle.vk_ready.specs.declared.nodes.WaitingNode.{WaitingNode}
use Rattle.vk_ready.specs.Ready.{edge}
use Rattle.vk_device.specs.declared.logged.Logged.{Logged}
use Rattle.vk_device.specs.declared.logged.Logged.TheVariants.{Created, Wrote, Submitted, Ran, Fetched, Destroyed}
use Rattle.vk_device.specs.Journal.{objects_after, kind_of, create_of, create_of_one, creates_of, accepts, accepted, ReachesTo}
use Rattle.vk_device.specs.Order.{log_of, order_of, kinds_of, contents, IsOfOneQueue}
use Rattle.vk_device.proofs.Laws.{kind_of-push, creates-push, creates_of-push, unused}
use Rattle.vk_device.proofs.Fitting.{fits_lives, touched_lives}
use Rattle.vk_device.proofs.Running.{in_order_created, in_order_fetched, in_order_destroyed}
use Rattle.vk_device.proofs.Steps.{in_order_wrote, in_order_submitted, in_order_ran}
use Rattle.vk_machine.specs.Machine.{place_in, IsLeft, LiesAt, AreLeft, Keeps, waiting_from}
use Rattle.vk_device.proofs.Starts.{accepted-push}
use Rattle.vk_machine.proofs.Left.{left_quiet, left_wrote}
use Rattle.vk_machine.proofs.Turns.{left_submitted, left_ran}
use Rattle.vk_machine.proofs.Fits.{fits_same, live_kind}

at_entry : (journal : List Logged) (entry : Logged) (i : ℕ) → kind_of (journal ++ entry ∷ []) i ≡ objects_after (kind_of journal) entry i
at_entry journal entry i = ap (λ (o : ℕ → Option Kind). o i) (kind_of-push journal entry)

one_if : {t : Bool} → t ≡ false → ◌≡◌ {A = ℕ} (cond t 1 0) 0
one_if {t} e = rw e refl

-- what an unexecuted node touches is live
touched : (journal : List Logged) (w : WaitingNode) (id : ℕ) → NodeFits (kind_of journal) w.command → touches_object w.command id ≡ true → IsSome (kind_of journal id)
touched journal w id fits t = touched_lives (kind_of journal) w.command 0 id (fits_lives (kind_of journal) w.command fits) (touches_id_of w.command id t 0)

module _ (journal : List Logged) (objects new : Objects) (waiting : List WaitingNode) (made batches : ℕ) (keeps : Keeps journal objects waiting made batches) where
  -- a new object
  pub keeps_created : (id : HandleId) (kind : Kind) → id.0 ≡ made → IsKind kind → store.SetsObject objects new id.0 (Some (store.new_object kind)) → Keeps (journal ++ Created id kind ∷ []) new waiting (made + 1) batches
  keeps_created id kind number is_kind sets = record {
    order = in_order_created journal (store.bytes_of objects) (store.bytes_of new) id kind keeps.order none size (λ other differs. ap store.bytes_in (sets.others other differs));
    live = λ q. elim (cases_eq q id.0) [
      | inl here ↦ ap (store.kind_of new) here ∙ ap (option_map kind_in) sets.here ∙ sym (at_entry journal (Created id kind) q ∙ ap (λ t. cond t (Some kind) (kind_of journal q)) (eq-eqb q id.0 here))
      | inr other ↦ ap (option_map kind_in) (sets.others q other) ∙ keeps.live q ∙ sym (at_entry journal (Created id kind) q ∙ ap (λ t. cond t (Some kind) (kind_of journal q)) (ne_eqb q id.0 other))
    ];
    sized = λ q. elim (cases_eq q id.0) [
      | inl here ↦ subst (λ o. store.HasSize (option_map kind_in o) (store.bytes_in o)) (sym (ap (store.object_at new) here ∙ sets.here)) (is_kind, length-replicate (size_of kind) 0)
      | inr other ↦ subst (λ o. store.HasSize (option_map kind_in o) (store.bytes_in o)) (sym (sets.others q other)) (keeps.sized q)
    ];
    fresh = λ q past.
        let apart : (q == id.0) ≡ false = ne_eqb q id.0 (λ e. absurd (omega (arith, e, number, past))) in
        omega (arith, creates_of-push q journal (Created id kind), keeps.fresh q (omega (arith, past)), one_if apart);
    made_is = omega (arith, creates-push journal (Created id kind), keeps.made_is);
    few = omega (arith, keeps.few, length-append journal (Created id kind ∷ []));
    batches_is = keeps.batches_is ∙ ap length (sym (accepted-push journal (Created id kind) ∙ append-nil (accepted journal)));
    few_batches = omega (arith, keeps.few_batches, length-append journal (Created id kind ∷ []));
    left = left_quiet journal (Created id kind) waiting keeps.left (λ k w at. fits_same (kind_of journal) (kind_of (journal ++ Created id kind ∷ [])) w.command (keeps.left.each k w at).fits (λ i t. still i (touched journal w i (keeps.left.each k w at).fits t))) refl refl;
  }
    where
      kind_in : Object → Kind
      kind_in x = x.kind

      none : creates_of id.0 journal ≡ 0
      none = keeps.fresh id.0 (omega (arith, number))

      size : length (store.bytes_of new id.0) ≡ size_of kind
      size = ap (λ o. length (store.bytes_in o)) sets.here ∙ length-replicate (size_of kind) 0

      still : (i : ℕ) → IsSome (kind_of journal i) → kind_of (journal ++ Created id kind ∷ []) i ≡ kind_of journal i
      still i lives = at_entry journal (Created id kind) i ∙ ap (λ t. cond t (Some kind) (kind_of journal i)) (ne_eqb i id.0 (λ same. dead (ap (kind_of journal) same ∙ unused journal id.0 none) lives))
        where
          dead : kind_of journal i ≡ None → IsSome (kind_of journal i) → ⊥
          dead gone lives = let no : IsSome {T = Kind} None = subst IsSome gone lives in false≢true no

  module _ (entry : Logged) (still : (i : ℕ) → objects_after (kind_of journal) entry i ≡ kind_of journal i) (no_create : create_of entry ≡ 0) (no_creates : (i : ℕ) → create_of_one i entry ≡ 0) where
    same_kinds : (i : ℕ) → kind_of (journal ++ entry ∷ []) i ≡ kind_of journal i
    same_kinds i = at_entry journal entry i ∙ still i

    still_fits : (k : ℕ) (w : WaitingNode) → slice_get waiting k ≡ Some w → NodeFits (kind_of (journal ++ entry ∷ [])) w.command
    still_fits k w at = fits_same (kind_of journal) (kind_of (journal ++ entry ∷ [])) w.command (keeps.left.each k w at).fits (λ i t. same_kinds i)

    -- an entry that creates and ends nothing
    keeps_after : (more : List WaitingNode) (count : ℕ) → Rattle.vk_device.specs.Running.IsInOrder (journal ++ entry ∷ []) (store.bytes_of new) → ((i : ℕ) → store.kind_of new i ≡ store.kind_of objects i) → store.HaveSizes new → count ≡ length (accepted (journal ++ entry ∷ [])) → count ≤ length journal + 1 → AreLeft (journal ++ entry ∷ []) more → Keeps (journal ++ entry ∷ []) new more made count
    keeps_after more count order kinds sized count_is few left = record {
      order = order;
      live = λ i. kinds i ∙ keeps.live i ∙ sym (same_kinds i);
      sized = sized;
      fresh = λ i past. omega (arith, creates_of-push i journal entry, keeps.fresh i past, no_creates i);
      made_is = omega (arith, creates-push journal entry, keeps.made_is, no_create);
      few = omega (arith, keeps.few, length-append journal (entry ∷ []));
      batches_is = count_is;
      few_batches = omega (arith, few, length-append journal (entry ∷ []));
      left = left;
    }

    no_batch : accepts entry ≡ [] → batches ≡ length (accepted (journal ++ entry ∷ []))
    no_batch none = keeps.batches_is ∙ ap length (sym (accepted-push journal entry ∙ ap (λ b. accepted journal ++ b) none ∙ append-nil (accepted journal)))

  pub keeps_wrote : (id : HandleId) (at : ℕ) (bytes : List ℕ) → ReachesTo (kind_of journal id.0) (at + length bytes) → at + length bytes ≤ 18446744073709551615 → IsSettled (log_of journal) (order_of journal) id.0 → store.SetsBytes objects new id.0 (overwritten (store.bytes_of objects id.0) at bytes) → Keeps (journal ++ Wrote id at bytes ∷ []) new waiting made batches
  keeps_wrote id at bytes reaches short settled sets =
      keeps_after (Wrote id at bytes) (λ i. refl) refl (λ i. refl) waiting batches order kinds sized (no_batch (Wrote id at bytes) (λ i. refl) refl (λ i. refl) refl) (omega (arith, keeps.few_batches))
      (left_wrote journal waiting id at bytes keeps.left (still_fits (Wrote id at bytes) (λ i. refl) refl (λ i. refl)))
    where
      order : Rattle.vk_device.specs.Running.IsInOrder (journal ++ Wrote id at bytes ∷ []) (store.bytes_of new)
      order = in_order_wrote journal (store.bytes_of objects) (store.bytes_of new) id at bytes keeps.order reaches short sets.here (λ other differs. ap store.bytes_in (sets.others other differs)) settled

      kinds : (i : ℕ) → store.kind_of new i ≡ store.kind_of objects i
      kinds i = elim (cases_eq i id.0) [ inl same ↦ ap (store.kind_of new) same ∙ sets.kind ∙ ap (store.kind_of objects) (sym same) | inr other ↦ ap (option_map (λ o. o.kind)) (sets.others i other) ]

      resized : (o : Option Kind) (old now : List ℕ) → store.HasSize o old → length now ≡ length old → store.HasSize o now
      resized None old now size same = shrunk now (same ∙ ap length size)
        where
          shrunk : (xs : List ℕ) → length xs ≡ 0 → xs ≡ []
          shrunk [] is = refl
          shrunk (x ∷ xs) is = absurd (omega (arith, is))
      resized (Some kind) old now size same = (size.0, same ∙ size.1)

      inside : at + length bytes ≤ length (store.bytes_of objects id.0)
      inside = reach (kind_of journal id.0) reaches (keeps.order.sizes id.0)
        where
          reach : (o : Option Kind) → ReachesTo o (at + length bytes) → ((kind : Kind) → o ≡ Some kind → length (store.bytes_of objects id.0) ≡ size_of kind) → at + length bytes ≤ length (store.bytes_of objects id.0)
          reach None to size = absurd to
          reach (Some (Image format width height)) to size = absurd to
          reach (Some (Buffer n)) to size = omega (arith, to, size (Buffer n) refl)

      lengths : (i : ℕ) → length (store.bytes_of new i) ≡ length (store.bytes_of objects i)
      lengths i = elim (cases_eq i id.0) [
        | inl same ↦ ap (λ q. length (store.bytes_of new q)) same ∙ ap length sets.here ∙ length-overwritten (store.bytes_of objects id.0) at bytes inside ∙ ap (λ q. length (store.bytes_of objects q)) (sym same)
        | inr other ↦ ap (λ o. length (store.bytes_in o)) (sets.others i other)
      ]

      sized : store.HaveSizes new
      sized i = subst (λ o. store.HasSize o (store.bytes_of new i)) (sym (kinds i)) (resized (store.kind_of objects i) (store.bytes_of objects i) (store.bytes_of new i) (keeps.sized i) (lengths i))

  -- entries that leave the objects as they are
  same_store : ((i : ℕ) → store.object_at new i ≡ store.object_at objects i) → ((i : ℕ) → store.kind_of new i ≡ store.kind_of objects i) × store.HaveSizes new
  same_store same = ((λ i. ap (option_map (λ o. o.kind)) (same i)), (λ i. subst (λ o. store.HasSize (option_map (λ (x : Object). x.kind) o) (store.bytes_in o)) (sym (same i)) (keeps.sized i)))

  pub keeps_fetched : (id : HandleId) (at : ℕ) (bytes : List ℕ) → ReachesTo (kind_of journal id.0) (at + length bytes) → ((i : ℕ) → store.object_at new i ≡ store.object_at objects i) → Keeps (journal ++ Fetched id at bytes ∷ []) new waiting made batches
  keeps_fetched id at bytes reaches same =
      keeps_after (Fetched id at bytes) (λ i. refl) refl (λ i. refl) waiting batches
      (in_order_fetched journal (store.bytes_of objects) (store.bytes_of new) id at bytes keeps.order reaches (λ other. ap store.bytes_in (same other)))
      (same_store same).0 (same_store same).1 (no_batch (Fetched id at bytes) (λ i. refl) refl (λ i. refl) refl) (omega (arith, keeps.few_batches))
      (left_quiet journal (Fetched id at bytes) waiting keeps.left (still_fits (Fetched id at bytes) (λ i. refl) refl (λ i. refl)) refl refl)

  pub keeps_submitted : (batch : Batch) → IsOfOneQueue batch → All (NodeFits (kind_of journal)) batch.nodes → ((i : ℕ) → store.object_at new i ≡ store.object_at objects i) → Keeps (journal ++ Submitted batch ∷ []) new (waiting ++ waiting_from batches 0 batch.queue batch.nodes) made (batches + 1)
  keeps_submitted batch one fits same =
      keeps_after (Submitted batch) (λ i. refl) refl (λ i. refl) (waiting ++ waiting_from batches 0 batch.queue batch.nodes) (batches + 1)
      (in_order_submitted journal (store.bytes_of objects) (store.bytes_of new) batch keeps.order fits (λ i. ap store.bytes_in (same i)))
      (same_store same).0 (same_store same).1
      (omega (arith, keeps.batches_is, ap length (accepted-push journal (Submitted batch)), length-append (accepted journal) (batch ∷ [])))
      (omega (arith, keeps.few_batches))
      (subst (λ n. AreLeft (journal ++ Submitted batch ∷ []) (waiting ++ waiting_from n 0 batch.queue batch.nodes)) (sym keeps.batches_is)
      (left_submitted journal waiting batch keeps.left keeps.order.permitted one (kind_of-push journal (Submitted batch)) (λ k w at. (keeps.left.each k w at).fits) fits))

  -- no node that waits touches a settled object
  apart : (id : ℕ) → IsSettled (log_of journal) (order_of journal) id → (k : ℕ) (w : WaitingNode) → slice_get waiting k ≡ Some w → touches_object w.command id ≡ true → ⊥
  apart id settled k w at t = let l : IsLeft journal w = keeps.left.each k w at in l.left (settled (place_in journal w) (Command w.queue w.command) l.at (touches_id_of w.command id t w.queue))

  pub keeps_destroyed : (id : HandleId) → IsSome (kind_of journal id.0) → IsSettled (log_of journal) (order_of journal) id.0 → store.SetsObject objects new id.0 None → Keeps (journal ++ Destroyed id ∷ []) new waiting made batches
  keeps_destroyed id lives settled sets = record {
    order = in_order_destroyed journal (store.bytes_of objects) (store.bytes_of new) id keeps.order lives (λ other differs. ap store.bytes_in (sets.others other differs));
    live = λ q. elim (cases_eq q id.0) [
      | inl here ↦ ap (store.kind_of new) here ∙ ap (option_map kind_in) sets.here ∙ sym (at_entry journal (Destroyed id) q ∙ ap (λ t. cond t None (kind_of journal q)) (eq-eqb q id.0 here))
      | inr other ↦ ap (option_map kind_in) (sets.others q other) ∙ keeps.live q ∙ sym (at_entry journal (Destroyed id) q ∙ ap (λ t. cond t None (kind_of journal q)) (ne_eqb q id.0 other))
    ];
    sized = λ q. elim (cases_eq q id.0) [
      | inl here ↦ subst (λ o. store.HasSize (option_map kind_in o) (store.bytes_in o)) (sym (ap (store.object_at new) here ∙ sets.here)) refl
      | inr other ↦ subst (λ o. store.HasSize (option_map kind_in o) (store.bytes_in o)) (sym (sets.others q other)) (keeps.sized q)
    ];
    fresh = λ q past. omega (arith, creates_of-push q journal (Destroyed id), keeps.fresh q past);
    made_is = omega (arith, creates-push journal (Destroyed id), keeps.made_is);
    few = omega (arith, keeps.few, length-append journal (Destroyed id ∷ []));
    batches_is = keeps.batches_is ∙ ap length (sym (accepted-push journal (Destroyed id) ∙ append-nil (accepted journal)));
    few_batches = omega (arith, keeps.few_batches, length-append journal (Destroyed id ∷ []));
    left = left_quiet journal (Destroyed id) waiting keeps.left (λ k w at. fits_same (kind_of journal) (kind_of (journal ++ Destroyed id ∷ [])) w.command (keeps.left.each k w at).fits (λ i t. still i (λ same. apart id.0 settled k w at (subst (λ i. touches_object w.command i ≡ true) same t)))) refl refl;
  }
    where
      kind_in : Object → Kind
      kind_in x = x.kind

      still : (i : ℕ) → i ≢ id.0 → kind_of (journal ++ Destroyed id ∷ []) i ≡ kind_of journal i
      still i other = at_entry journal (Destroyed id) i ∙ ap (λ t. cond t None (kind_of journal i)) (ne_eqb i id.0 other)

  -- A turn of the waiting node at a place, to which no earlier one has an edge.
  module _ (t : ℕ) (w : WaitingNode) (at_t : slice_get waiting t ≡ Some w) (free : (j : ℕ) (v : WaitingNode) → j < t → slice_get waiting j ≡ Some v → edge v w ≡ false) where
    abbrev l : IsLeft journal w
    l = keeps.left.each t w at_t

    -- what it waits for by an edge was executed
    waited : (j : ℕ) → HasEdge (log_of journal) j (place_in journal w) → Contains (order_of journal) j
    waited j e = done (keeps.left.all j (omega (arith, e.earlier, slice_get_within (log_of journal) (place_in journal w) (Command w.queue w.command) l.at)))
      where
        done : Contains (order_of journal) j ⊎ LiesAt journal waiting j → Contains (order_of journal) j
        done (inl c) = c
        done (inr lies) =
            let b_is : e.b ≡ Command w.queue w.command = same_Some e.b (Command w.queue w.command) (sym e.b_at ∙ l.at) in
            let a_at : slice_get (log_of journal) j ≡ Some (Command lies.node.queue lies.node.command) = ap (slice_get (log_of journal)) (sym lies.is) ∙ (keeps.left.each lies.k lies.node lies.at).at in
            let a_is : e.a ≡ Command lies.node.queue lies.node.command = same_Some e.a (Command lies.node.queue lies.node.command) (sym e.a_at ∙ a_at) in
            let edged : edge lies.node w ≡ true = sym (ap (λ x. item_edge x e.b) a_is ∙ ap (item_edge (Command lies.node.queue lies.node.command)) b_is) ∙ e.waits in
            absurd (false≢true (sym (free lies.k lies.node (before lies) lies.at) ∙ edged))
          where
            before : (lies : LiesAt journal waiting j) → lies.k < t
            before lies = elim (Rattle.std.proofs.lemmas.Bool.cases_lt lies.k t) [
              | inl lt ↦ lt
              | inr le ↦ elim (cases_eq lies.k t) [
                | inl same ↦
                    let node : w ≡ lies.node = same_Some w lies.node (sym at_t ∙ ap (slice_get waiting) (sym same) ∙ lies.at) in
                    absurd (omega (arith, e.earlier, ap (place_in journal) node, lies.is))
                | inr other ↦ absurd (omega (arith, e.earlier, lies.is, keeps.left.rising t lies.k w lies.node (omega (arith, le, other)) at_t lies.at))
              ]
            ]

    pub ready : IsReady (log_of journal) (order_of journal) (place_in journal w)
    ready = ready_by_edges (log_of journal) (order_of journal) (place_in journal w) keeps.order.permitted (slice_get_within (log_of journal) (place_in journal w) (Command w.queue w.command) l.at) l.left waited

    kinds_same : (id : ℕ) → touches_object w.command id ≡ true → store.kinds_of objects id ≡ kinds_of journal id
    kinds_same id t = go (kind_of journal id) refl (touched journal w id l.fits t)
      where
        go : (o : Option Kind) → kind_of journal id ≡ o → IsSome o → store.kinds_of objects id ≡ kinds_of journal id
        go None is some = absurd (false≢true some)
        go (Some k) is some = ap (λ o. unwrap_or o (Buffer 0)) (keeps.live id ∙ is) ∙ sym (live_kind journal id k is)

    -- what the node makes by the kinds of the store it makes by those of the journal
    same_after : apply (store.kinds_of objects) (Command w.queue w.command) (contents (store.bytes_of objects)) ≡ apply (kinds_of journal) (Command w.queue w.command) (contents (store.bytes_of objects))
    same_after = apply_same_kinds (store.kinds_of objects) (kinds_of journal) (Command w.queue w.command) (λ q n id is t. kinds_same id (same_command q n id is t)) (contents (store.bytes_of objects))
      where
        node_in : Item → Node → Node
        node_in (Command q n) other = n
        node_in (Rattle.vk_model.specs.Log.HostWrite id at bytes) other = other
        node_in (Rattle.vk_model.specs.Log.Wait q m) other = other
        node_in (Rattle.vk_model.specs.Log.Signal q m) other = other

        same_command : (q : ℕ) (n : Node) (id : ℕ) → Command w.queue w.command ≡ Command q n → touches_object n id ≡ true → touches_object w.command id ≡ true
        same_command q n id is t = let same : w.command ≡ n = ap (λ x. node_in x n) is in subst (λ m. touches_object m id ≡ true) (sym same) t

    module _ (ran : store.Executes objects new w.command) where
      pub agree : ContentsAgree (contents (store.bytes_of new)) (apply (kinds_of journal) (Command w.queue w.command) (contents (store.bytes_of objects)))
      agree = subst (ContentsAgree (contents (store.bytes_of new))) same_after ran.agree

      pub kept : KeepsUndefined (contents (store.bytes_of objects)) (contents (store.bytes_of new)) (apply (kinds_of journal) (Command w.queue w.command) (contents (store.bytes_of objects)))
      kept = subst (KeepsUndefined (contents (store.bytes_of objects)) (contents (store.bytes_of new))) same_after ran.kept

      pub keeps_ran : Keeps (journal ++ Ran w.batch w.node ∷ []) new (remove waiting t) made batches
      keeps_ran =
          keeps_after (Ran w.batch w.node) (λ i. refl) refl (λ i. refl) (remove waiting t) batches
          (in_order_ran journal (store.bytes_of objects) (store.bytes_of new) w.batch w.node w.queue w.command keeps.order l.is l.at (fits_lives (kind_of journal) w.command l.fits) ready ran.sizes agree)
          ran.kinds sized (no_batch (Ran w.batch w.node) (λ i. refl) refl (λ i. refl) refl) (omega (arith, keeps.few_batches))
          (left_ran journal waiting t w keeps.left at_t (kind_of-push journal (Ran w.batch w.node)))
        where
          resized : (o : Option Kind) (old now : List ℕ) → store.HasSize o old → length now ≡ length old → store.HasSize o now
          resized None old now size same = shrunk now (same ∙ ap length size)
            where
              shrunk : (xs : List ℕ) → length xs ≡ 0 → xs ≡ []
              shrunk [] is = refl
              shrunk (x ∷ xs) is = absurd (omega (arith, is))
          resized (Some kind) old now size same = (size.0, same ∙ size.1)

          sized : store.HaveSizes new
          sized i = subst (λ o. store.HasSize o (store.bytes_of new i)) (sym (ran.kinds i)) (resized (store.kind_of objects i) (store.bytes_of objects i) (store.bytes_of new i) (keeps.sized i) (ran.sizes i))
