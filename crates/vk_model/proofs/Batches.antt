-- Batches that hand over what they share, item by item.
use Rattle.std.proofs.Common.{◌≡◌, ℕ, zero, suc, ◌+◌, ◌-◌, ◌<◌, ◌≤◌, List, [], ◌∷◌, ◌++◌, length, Bool, true, refl, sym, ◌∙◌, ap, subst, arith, inl, inr}
use Rattle.std.specs.Prelude.{◌⊎◌, Option, Some, None, map, slice_get}
use Rattle.std.specs.List.{list_any}
use Rattle.std.specs.Option.{option_map}
use Rattle.std.proofs.lemmas.Bool.{cases_lt, cases_order}
use Rattle.std.proofs.lemmas.List.{length-map}
use Rattle.std.proofs.lemmas.Option.{slice_get-map, slice_get_within, same_Some}
use Rattle.vk_types.specs.declared.ops.Node.{Node}
use Rattle.vk_model.specs.Log.{Item, Command, HostWrite, Wait, Signal, touches_object}
use Rattle.vk_model.specs.Queues.{HandsOver, IsHandedOver}
use Rattle.vk_model.specs.Batches.{Accepted, Submit, Write, items_of, device_log, BatchAt, BatchHandsOver, BatchesHandOver}
use Rattle.vk_model.proofs.Device.{get_front}
use Rattle.vk_model.proofs.Searches.{any_found}
use Rattle.vk_model.proofs.Clashes.{none_is_some}

get_behind : {X : Type 0} (xs ys : List X) (n : ℕ) → slice_get (xs ++ ys) (length xs + n) ≡ slice_get ys n
get_behind [] ys n = let none : 0 + n ≡ n = omega arith in ap (slice_get ys) none
get_behind (x ∷ xs) ys n = let next : suc (length xs) + n ≡ suc (length xs + n) = omega arith in ap (slice_get (x ∷ (xs ++ ys))) next ∙ get_behind xs ys n

get_past : {X : Type 0} (xs ys : List X) (k : ℕ) → length xs ≤ k → slice_get (xs ++ ys) k ≡ slice_get ys (k - length xs)
get_past xs ys k le = let whole : k ≡ length xs + (k - length xs) = omega arith in ap (slice_get (xs ++ ys)) whole ∙ get_behind xs ys (k - length xs)

-- where an item of an entry lies in the log
place_of_item : List Accepted → ℕ → ℕ → ℕ
place_of_item [] e off = off
place_of_item (a ∷ entries) zero off = off
place_of_item (a ∷ entries) (suc e) off = length (items_of a) + place_of_item entries e off

item_there : (entries : List Accepted) (e off : ℕ) (a : Accepted) (x : Item) → slice_get entries e ≡ Some a → slice_get (items_of a) off ≡ Some x → slice_get (device_log entries) (place_of_item entries e off) ≡ Some x
unfolding place_of_item
item_there [] e off a x at is = none_is_some at
item_there (b ∷ entries) zero off a x at is =
    let same : b ≡ a = cc in
    let here : slice_get (items_of b) off ≡ Some x = ap (λ z. slice_get (items_of z) off) same ∙ is in
    get_front (items_of b) (device_log entries) off (slice_get_within (items_of b) off x here) ∙ here
item_there (b ∷ entries) (suc e) off a x at is = get_behind (items_of b) (device_log entries) (place_of_item entries e off) ∙ item_there entries e off a x at is

-- the entry that an item of the log is of
record Found (entries : List Accepted) (k : ℕ) (x : Item) : Type 0 where
  entry : ℕ
  offset : ℕ
  accepted : Accepted
  at : slice_get entries entry ≡ Some accepted
  is : slice_get (items_of accepted) offset ≡ Some x
  place : k ≡ place_of_item entries entry offset

find_item : (entries : List Accepted) (k : ℕ) (x : Item) → slice_get (device_log entries) k ≡ Some x → Found entries k x
unfolding place_of_item
find_item [] k x at = none_is_some at
find_item (a ∷ entries) k x at = go (cases_lt k (length (items_of a))) (λ at. find_item entries (k - length (items_of a)) x at)
  where
    go : (k < length (items_of a)) ⊎ (length (items_of a) ≤ k) → (slice_get (device_log entries) (k - length (items_of a)) ≡ Some x → Found entries (k - length (items_of a)) x) → Found (a ∷ entries) k x
    go (inl lt) rest = record { entry = zero; offset = k; accepted = a; at = refl; is = sym (get_front (items_of a) (device_log entries) k lt) ∙ at; place = refl }
    go (inr le) rest =
        let r : Found entries (k - length (items_of a)) x = rest (sym (get_past (items_of a) (device_log entries) k le) ∙ at) in
        let inside : k - length (items_of a) ≡ place_of_item entries r.entry r.offset = r.place in
        record { entry = suc r.entry; offset = r.offset; accepted = r.accepted; at = r.at; is = r.is; place = omega arith }

-- items of earlier entries lie before
earlier_entry : (entries : List Accepted) (d e off off' : ℕ) (a : Accepted) → slice_get entries d ≡ Some a → off < length (items_of a) → d < e → place_of_item entries d off < place_of_item entries e off'
unfolding place_of_item
earlier_entry [] d e off off' a at inside lt = none_is_some at
earlier_entry (b ∷ entries) zero zero off off' a at inside lt = absurd (omega arith)
earlier_entry (b ∷ entries) zero (suc e) off off' a at inside lt = let same : b ≡ a = cc in let here : off < length (items_of b) = subst (λ z. off < length (items_of z)) (sym same) inside in omega arith
earlier_entry (b ∷ entries) (suc d) zero off off' a at inside lt = absurd (omega arith)
earlier_entry (b ∷ entries) (suc d) (suc e) off off' a at inside lt = let rest : place_of_item entries d off < place_of_item entries e off' = earlier_entry entries d e off off' a at inside (omega arith) in omega arith

same_entry : (entries : List Accepted) (e off off' : ℕ) → off < off' → place_of_item entries e off < place_of_item entries e off'
unfolding place_of_item
same_entry [] e off off' lt = lt
same_entry (a ∷ entries) zero off off' lt = lt
same_entry (a ∷ entries) (suc e) off off' lt = let rest : place_of_item entries e off < place_of_item entries e off' = same_entry entries e off off' lt in omega arith

-- Parts of a batch

no_wait : (q p : ℕ) (a : Node) (o : Option ℕ) → option_map (Wait q) o ≡ Some (Command p a) → ⊥
no_wait q p a None e = none_is_some e
no_wait q p a (Some m) e = let both : Wait q m ≡ Command p a = same_Some _ _ e in cc

no_signal : (q p : ℕ) (a : Node) (o : Option ℕ) → option_map (Signal q) o ≡ Some (Command p a) → ⊥
no_signal q p a None e = none_is_some e
no_signal q p a (Some m) e = let both : Signal q m ≡ Command p a = same_Some _ _ e in cc

-- the batch that a node is of
record InBatch (accepted : Accepted) (off p : ℕ) (a : Node) : Type 0 where
  waits : List ℕ
  nodes : List Node
  signals : List ℕ
  is : accepted ≡ Submit p waits nodes signals
  after : length waits ≤ off
  before : off < length waits + length nodes
  inside : (t : Node → Bool) → t a ≡ true → list_any t nodes ≡ true

node_in_batch : (q p : ℕ) (waits : List ℕ) (nodes : List Node) (signals : List ℕ) (off i : ℕ) (a : Node) → length waits ≤ off → i ≡ off - length waits → i < length nodes → (o : Option Node) → slice_get nodes i ≡ o → option_map (Command q) o ≡ Some (Command p a) → InBatch (Submit q waits nodes signals) off p a
node_in_batch q p waits nodes signals off i a le place lt None at e = none_is_some e
node_in_batch q p waits nodes signals off i a le place lt (Some n) at e =
    let both : Command q n ≡ Command p a = same_Some _ _ e in
    let queues : q ≡ p = cc in
    let node : n ≡ a = cc in
    record {
      waits = waits;
      nodes = nodes;
      signals = signals;
      is = ap (λ r. Submit r waits nodes signals) queues;
      after = le;
      before = omega arith;
      inside = λ t e. any_found t nodes i n at (ap t node ∙ e);
    }

in_batch : (accepted : Accepted) (off p : ℕ) (a : Node) → slice_get (items_of accepted) off ≡ Some (Command p a) → InBatch accepted off p a
in_batch (Write id at bytes) zero p a e = let both : HostWrite id at bytes ≡ Command p a = same_Some _ _ e in cc
in_batch (Write id at bytes) (suc off) p a e = none_is_some e
in_batch (Submit q waits nodes signals) off p a e = go (cases_lt off (length (map (Wait q) waits)))
  where
    rest : List Item
    rest = map (Command q) nodes ++ map (Signal q) signals

    behind : length (map (Wait q) waits) ≤ off → (off - length (map (Wait q) waits) < length (map (Command q) nodes)) ⊎ (length (map (Command q) nodes) ≤ off - length (map (Wait q) waits)) → InBatch (Submit q waits nodes signals) off p a
    behind le (inl lt) =
        let i : ℕ = off - length (map (Wait q) waits) in
        let at : slice_get (map (Command q) nodes) (off - length (map (Wait q) waits)) ≡ Some (Command p a) = sym (get_front (map (Command q) nodes) (map (Signal q) signals) (off - length (map (Wait q) waits)) lt) ∙ (sym (get_past (map (Wait q) waits) (map (Command q) nodes ++ map (Signal q) signals) off le) ∙ e) in
        node_in_batch q p waits nodes signals off (off - length (map (Wait q) waits)) a (omega (arith, length-map waits (Wait q))) (omega (arith, length-map waits (Wait q))) (omega (arith, length-map nodes (Command q))) (slice_get nodes (off - length (map (Wait q) waits))) refl (sym (slice_get-map (Command q) nodes (off - length (map (Wait q) waits))) ∙ at)
    behind le (inr more) =
        absurd (no_signal q p a (slice_get signals (off - length (map (Wait q) waits) - length (map (Command q) nodes)))
        (sym (slice_get-map (Signal q) signals (off - length (map (Wait q) waits) - length (map (Command q) nodes)))
        ∙ (sym (get_past (map (Command q) nodes) (map (Signal q) signals) (off - length (map (Wait q) waits)) more)
        ∙ (sym (get_past (map (Wait q) waits) (map (Command q) nodes ++ map (Signal q) signals) off le) ∙ e))))

    go : (off < length (map (Wait q) waits)) ⊎ (length (map (Wait q) waits) ≤ off) → InBatch (Submit q waits nodes signals) off p a
    go (inl lt) = absurd (no_wait q p a (slice_get waits off) (sym (slice_get-map (Wait q) waits off) ∙ (sym (get_front (map (Wait q) waits) (map (Command q) nodes ++ map (Signal q) signals) off lt) ∙ e)))
    go (inr le) = behind le (cases_lt (off - length (map (Wait q) waits)) (length (map (Command q) nodes)))

signal_offset : (q : ℕ) (waits : List ℕ) (nodes : List Node) (signals : List ℕ) (i m : ℕ) → slice_get signals i ≡ Some m → slice_get (items_of (Submit q waits nodes signals)) (length waits + (length nodes + i)) ≡ Some (Signal q m)
signal_offset q waits nodes signals i m at =
    ap (λ n. slice_get (items_of (Submit q waits nodes signals)) (n + (length nodes + i))) (sym (length-map waits (Wait q)))
    ∙ get_behind (map (Wait q) waits) (map (Command q) nodes ++ map (Signal q) signals) (length nodes + i)
    ∙ ap (λ n. slice_get (map (Command q) nodes ++ map (Signal q) signals) (n + i)) (sym (length-map nodes (Command q)))
    ∙ get_behind (map (Command q) nodes) (map (Signal q) signals) i
    ∙ slice_get-map (Signal q) signals i ∙ ap (option_map (Signal q)) at

wait_offset : (q : ℕ) (waits : List ℕ) (nodes : List Node) (signals : List ℕ) (i m : ℕ) → slice_get waits i ≡ Some m → slice_get (items_of (Submit q waits nodes signals)) i ≡ Some (Wait q m)
wait_offset q waits nodes signals i m at =
    get_front (map (Wait q) waits) (map (Command q) nodes ++ map (Signal q) signals) i (omega (arith, slice_get_within waits i m at, length-map waits (Wait q)))
    ∙ slice_get-map (Wait q) waits i ∙ ap (option_map (Wait q)) at

same_queue : {p q : ℕ} {v w : List ℕ} {m n : List Node} {s t : List ℕ} → ◌≡◌ {A = Option Accepted} (Some (Submit p v m s)) (Some (Submit q w n t)) → p ≡ q
same_queue e = cc

-- The theorem

module _ (entries : List Accepted) (batches : BatchesHandOver entries) where
  hand_over : (j k p q id : ℕ) (a b : Node) → j < k → (p ≡ q → ⊥) → touches_object a id ≡ true → touches_object b id ≡ true → Found entries j (Command p a) → Found entries k (Command q b) → HandsOver (device_log entries) p q j k
  hand_over j k p q id a b lt other ta tb x y = go (in_batch x.accepted x.offset p a x.is) (in_batch y.accepted y.offset q b y.is)
    where
      go : InBatch x.accepted x.offset p a → InBatch y.accepted y.offset q b → HandsOver (device_log entries) p q j k
      go ia ib = over (batches x.entry y.entry p q id from to entries_in_order other (ia.inside (λ n. touches_object n id) ta) (ib.inside (λ n. touches_object n id) tb))
        where
          from : BatchAt entries p x.entry
          from = record { waits = ia.waits; nodes = ia.nodes; signals = ia.signals; is = x.at ∙ ap Some ia.is }

          to : BatchAt entries q y.entry
          to = record { waits = ib.waits; nodes = ib.nodes; signals = ib.signals; is = y.at ∙ ap Some ib.is }

          entries_in_order : x.entry < y.entry
          entries_in_order = in_order (cases_order x.entry y.entry)
            where
              in_order : (x.entry ≡ y.entry) ⊎ ((x.entry < y.entry) ⊎ (y.entry < x.entry)) → x.entry < y.entry
              in_order (inl e) = absurd (other (same_queue (sym (x.at ∙ ap Some ia.is) ∙ (ap (slice_get entries) e ∙ (y.at ∙ ap Some ib.is)))))
              in_order (inr (inl below)) = below
              in_order (inr (inr above)) =
                  let back : place_of_item entries y.entry y.offset < place_of_item entries x.entry x.offset = earlier_entry entries y.entry x.entry y.offset x.offset y.accepted y.at (slice_get_within (items_of y.accepted) y.offset (Command q b) y.is) above in
                  absurd (omega (arith, x.place, y.place))

          over : BatchHandsOver entries p q x.entry y.entry → HandsOver (device_log entries) p q j k
          over h = record {
            signal_at = place_of_item entries h.giver (length h.gives.waits + (length h.gives.nodes + h.signal));
            wait_at = place_of_item entries h.taker h.wait;
            number = h.number;
            after = subst (λ n. n < place_of_item entries h.giver (length h.gives.waits + (length h.gives.nodes + h.signal))) (sym x.place) (after_giver (cases_lt x.entry h.giver));
            between = earlier_entry entries h.giver h.taker (length h.gives.waits + (length h.gives.nodes + h.signal)) h.wait giver h.gives.is (slice_get_within (items_of giver) (length h.gives.waits + (length h.gives.nodes + h.signal)) (Signal p h.number) signals) h.between;
            before = subst (λ n. place_of_item entries h.taker h.wait < n) (sym y.place) (before (cases_lt h.taker y.entry));
            signals = item_there entries h.giver (length h.gives.waits + (length h.gives.nodes + h.signal)) giver (Signal p h.number) h.gives.is signals;
            waits = item_there entries h.taker h.wait taker (Wait q h.number) h.takes.is waits;
          }
            where
              giver : Accepted
              giver = Submit p h.gives.waits h.gives.nodes h.gives.signals

              taker : Accepted
              taker = Submit q h.takes.waits h.takes.nodes h.takes.signals

              signals : slice_get (items_of (Submit p h.gives.waits h.gives.nodes h.gives.signals)) (length h.gives.waits + (length h.gives.nodes + h.signal)) ≡ Some (Signal p h.number)
              signals = signal_offset p h.gives.waits h.gives.nodes h.gives.signals h.signal h.number h.signals

              waits : slice_get (items_of (Submit q h.takes.waits h.takes.nodes h.takes.signals)) h.wait ≡ Some (Wait q h.number)
              waits = wait_offset q h.takes.waits h.takes.nodes h.takes.signals h.wait h.number h.waits

              after_giver : (x.entry < h.giver) ⊎ (h.giver ≤ x.entry) → place_of_item entries x.entry x.offset < place_of_item entries h.giver (length h.gives.waits + (length h.gives.nodes + h.signal))
              after_giver (inl lt') = earlier_entry entries x.entry h.giver x.offset (length h.gives.waits + (length h.gives.nodes + h.signal)) x.accepted x.at (slice_get_within (items_of x.accepted) x.offset (Command p a) x.is) lt'
              after_giver (inr le) =
                  let e : x.entry ≡ h.giver = omega (arith, h.from) in
                  let both : Some (Submit p ia.waits ia.nodes ia.signals) ≡ Some (Submit p h.gives.waits h.gives.nodes h.gives.signals) = sym (x.at ∙ ap Some ia.is) ∙ (ap (slice_get entries) e ∙ h.gives.is) in
                  let same_waits : ia.waits ≡ h.gives.waits = cc in
                  let same_nodes : ia.nodes ≡ h.gives.nodes = cc in
                  let below : x.offset < length h.gives.waits + (length h.gives.nodes + h.signal) = omega (arith, ia.before, ap length same_waits, ap length same_nodes) in
                  subst (λ n. place_of_item entries x.entry x.offset < place_of_item entries n (length h.gives.waits + (length h.gives.nodes + h.signal))) e (same_entry entries x.entry x.offset (length h.gives.waits + (length h.gives.nodes + h.signal)) below)

              before : (h.taker < y.entry) ⊎ (y.entry ≤ h.taker) → place_of_item entries h.taker h.wait < place_of_item entries y.entry y.offset
              before (inl lt') = earlier_entry entries h.taker y.entry h.wait y.offset (Submit q h.takes.waits h.takes.nodes h.takes.signals) h.takes.is (slice_get_within (items_of (Submit q h.takes.waits h.takes.nodes h.takes.signals)) h.wait (Wait q h.number) waits) lt'
              before (inr le) =
                  let e : h.taker ≡ y.entry = omega (arith, h.upto) in
                  let both : Some (Submit q ib.waits ib.nodes ib.signals) ≡ Some (Submit q h.takes.waits h.takes.nodes h.takes.signals) = sym (y.at ∙ ap Some ib.is) ∙ (ap (slice_get entries) (sym e) ∙ h.takes.is) in
                  let same_waits : ib.waits ≡ h.takes.waits = cc in
                  let below : h.wait < y.offset = omega (arith, ib.after, slice_get_within h.takes.waits h.wait h.number h.waits, ap length same_waits) in
                  subst (λ n. place_of_item entries h.taker h.wait < place_of_item entries n y.offset) e (same_entry entries h.taker h.wait y.offset below)

  pub handed_over : IsHandedOver (device_log entries)
  handed_over j k p q id a b lt at_j at_k other ta tb = hand_over j k p q id a b lt other ta tb (find_item entries j (Command p a) at_j) (find_item entries k (Command q b) at_k)
