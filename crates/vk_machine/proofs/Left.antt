-- The waiting nodes stay what is left of the log.
use Rattle.std.proofs.Common.{◌≡◌, ℕ, zero, suc, ◌+◌, ◌<◌, List, [], ◌∷◌, ◌++◌, length, refl, sym, ◌∙◌, ap, subst, arith, inl, inr, length-append}
use Rattle.std.specs.Prelude.{◌⊎◌, Option, Some, None, slice_get, Contains, option_and_then}
use Rattle.std.proofs.lemmas.List.{append-nil}
use Rattle.std.proofs.lemmas.List.Elements.{Contains-append_left, Contains-append_cases}
use Rattle.std.proofs.lemmas.Option.{slice_get_within}
use Rattle.std.proofs.lemmas.Bool.{cases_eq}
use Rattle.vk_types.specs.declared.handles.HandleId.{HandleId}
use Rattle.vk_types.specs.declared.ops.Node.{Node}
use Rattle.vk_types.specs.declared.batches.Batch.{Batch}
use Rattle.vk_model.specs.Fitting.{NodeFits}
use Rattle.vk_model.specs.Log.{Command, HostWrite}
use Rattle.vk_model.proofs.Device.{get_front}
use Rattle.vk_model.proofs.Places.{contains_none, contains_cons_cases}
use Rattle.vk_ready.specs.declared.nodes.WaitingNode.{WaitingNode}
use Rattle.vk_device.specs.declared.logged.Logged.{Logged}
use Rattle.vk_device.specs.declared.logged.Logged.TheVariants.{Wrote}
use Rattle.vk_device.specs.Journal.{accepts, accepted, node_at, kind_of}
use Rattle.vk_device.specs.Order.{entry_items, log_of, order_of, executes}
use Rattle.vk_device.proofs.Orders.{log_of-push, order_of-push}
use Rattle.vk_machine.specs.Machine.{place_in, IsLeft, LiesAt, AreLeft}
use Rattle.vk_device.proofs.Starts.{accepted-push, start_stays}

-- an accepted node is one of an accepted batch
node_in : (batches : List Batch) (batch node : ℕ) (n : Node) → node_at batches batch node ≡ Some n → batch < length batches
node_in [] batch node n is = let no : ◌≡◌ {A = Option Node} None (Some n) = none_at batch ∙ is in absurd (cc)
  where
    none_at : (batch : ℕ) → ◌≡◌ {A = Option Node} None (node_at [] batch node)
    none_at zero = refl
    none_at (suc batch) = refl
node_in (b ∷ batches) zero node n is = omega arith
node_in (b ∷ batches) (suc batch) node n is = let lt : batch < length batches = node_in batches batch node n is in omega arith

get_back : {X : Type 0} (xs ys : List X) (k : ℕ) (x : X) → slice_get xs k ≡ Some x → slice_get (xs ++ ys) k ≡ Some x
get_back xs ys k x is = get_front xs ys k (slice_get_within xs k x is) ∙ is

node_stays : (batches more : List Batch) (batch node : ℕ) (n : Node) → node_at batches batch node ≡ Some n → node_at (batches ++ more) batch node ≡ Some n
node_stays batches more batch node n is = ap (λ o. option_and_then (λ (b : Batch). slice_get b.nodes node) o) (get_front batches more batch (node_in batches batch node n is)) ∙ is

-- One more entry

module _ (journal : List Logged) (entry : Logged) where
  abbrev next : List Logged
  next = journal ++ entry ∷ []

  pub place_stays : (w : WaitingNode) → IsLeft journal w → place_in next w ≡ place_in journal w
  place_stays w has = ap (λ n. n + w.node) (start_stays journal (entry ∷ []) w.batch (node_in (accepted journal) w.batch w.node w.command has.is))

  -- a node that was left is left after an entry that does not execute its place
  pub left_stays : (w : WaitingNode) → IsLeft journal w → (Contains (executes journal entry) (place_in journal w) → ⊥) → NodeFits (kind_of next) w.command → IsLeft next w
  left_stays w has not_now fits = record {
    is = ap (λ b. node_at b w.batch w.node) (accepted-push journal entry) ∙ node_stays (accepted journal) (accepts entry) w.batch w.node w.command has.is;
    at = ap (slice_get (log_of next)) (place_stays w has) ∙ ap (λ l. slice_get l (place_in journal w)) (log_of-push journal entry) ∙ get_back (log_of journal) (entry_items entry) (place_in journal w) (Command w.queue w.command) has.at;
    left = λ c.
        let there : Contains (order_of journal ++ executes journal entry) (place_in journal w) = subst (λ o. Contains o (place_in journal w)) (order_of-push journal entry) (subst (Contains (order_of next)) (place_stays w has) c) in
        elim (Contains-append_cases (order_of journal) (executes journal entry) (place_in journal w) there) [ inl old ↦ has.left old | inr new ↦ not_now new ];
    fits = fits;
  }

  module _ (waiting : List WaitingNode) (has : AreLeft journal waiting) (fits : (k : ℕ) (w : WaitingNode) → slice_get waiting k ≡ Some w → NodeFits (kind_of next) w.command) where
    pub still_rising : (j k : ℕ) (v w : WaitingNode) → j < k → slice_get waiting j ≡ Some v → slice_get waiting k ≡ Some w → place_in next v < place_in next w
    still_rising j k v w lt at_j at_k = omega (arith, has.rising j k v w lt at_j at_k, place_stays v (has.each j v at_j), place_stays w (has.each k w at_k))

    pub still_lies : (place : ℕ) → LiesAt journal waiting place → LiesAt next waiting place
    still_lies place lies = record { k = lies.k; node = lies.node; at = lies.at; is = place_stays lies.node (has.each lies.k lies.node lies.at) ∙ lies.is }

    pub old_place : (place : ℕ) → Contains (order_of journal) place ⊎ LiesAt journal waiting place → Contains (order_of next) place ⊎ LiesAt next waiting place
    old_place place (inl c) = inl (subst (λ o. Contains o place) (sym (order_of-push journal entry)) (Contains-append_left (order_of journal) (executes journal entry) place c))
    old_place place (inr lies) = inr (still_lies place lies)

    -- an entry that neither adds to the log nor executes
    pub left_quiet : entry_items entry ≡ [] → executes journal entry ≡ [] → AreLeft next waiting
    left_quiet no_item no_place = record {
      each = λ k w at. left_stays w (has.each k w at) (λ c. contains_none (place_in journal w) (subst (λ o. Contains o (place_in journal w)) no_place c)) (fits k w at);
      all = λ place lt. old_place place (has.all place (subst (λ l. place < l) (ap length (log_of-push journal entry ∙ ap (λ l. log_of journal ++ l) no_item ∙ append-nil (log_of journal))) lt));
      rising = still_rising;
    }

-- a write by the host is done at once
pub left_wrote : (journal : List Logged) (waiting : List WaitingNode) (id : HandleId) (at : ℕ) (bytes : List ℕ) → AreLeft journal waiting → ((k : ℕ) (w : WaitingNode) → slice_get waiting k ≡ Some w → NodeFits (kind_of (journal ++ Wrote id at bytes ∷ [])) w.command) → AreLeft (journal ++ Wrote id at bytes ∷ []) waiting
left_wrote journal waiting id at bytes has fits = record {
  each = λ k w there. left_stays journal entry w (has.each k w there) (λ c. not_end k w there c) (fits k w there);
  all = λ place lt. place_of_all place lt;
  rising = still_rising journal entry waiting has fits;
}
  where
    entry : Logged
    entry = Wrote id at bytes

    not_end : (k : ℕ) (w : WaitingNode) → slice_get waiting k ≡ Some w → Contains (length (log_of journal) ∷ []) (place_in journal w) → ⊥
    not_end k w there c =
        let inside : place_in journal w < length (log_of journal) = slice_get_within (log_of journal) (place_in journal w) (Command w.queue w.command) (has.each k w there).at in
        elim (contains_cons_cases (length (log_of journal)) [] (place_in journal w) c) [ inl same ↦ omega (arith, same, inside) | inr none ↦ contains_none (place_in journal w) none ]

    place_of_all : (place : ℕ) → place < length (log_of (journal ++ Wrote id at bytes ∷ [])) → Contains (order_of (journal ++ Wrote id at bytes ∷ [])) place ⊎ LiesAt (journal ++ Wrote id at bytes ∷ []) waiting place
    place_of_all place lt =
        let size : length (log_of (journal ++ Wrote id at bytes ∷ [])) ≡ length (log_of journal) + 1 = ap length (log_of-push journal (Wrote id at bytes)) ∙ length-append (log_of journal) (HostWrite id.0 at bytes ∷ []) in
        elim (cases_eq place (length (log_of journal))) [
          | inl same ↦ inl (subst (λ o. Contains o place) (sym (order_of-push journal (Wrote id at bytes))) (subst (Contains (order_of journal ++ length (log_of journal) ∷ [])) (sym same) (Rattle.vk_device.proofs.Orders.contains_last (order_of journal) (length (log_of journal)))))
          | inr other ↦ old_place journal (Wrote id at bytes) waiting has fits place (has.all place (omega (arith, lt, size, other)))
        ]
