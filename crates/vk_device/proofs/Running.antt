-- A device stays in order, call by call.
use Rattle.std.proofs.Common.{◌≡◌, ◌≢◌, ℕ, zero, suc, ◌+◌, ◌-◌, ◌<◌, ◌≤◌, ◌==◌, nat_lt, nat_le, ◌&&◌, List, [], ◌∷◌, ◌++◌, length, map, Bool, true, false, cond, eqb, get_or, refl, sym, ◌∙◌, ap, subst, arith, inl, inr, eq-eqb}
use Rattle.std.specs.Prelude.{◌⊎◌, ◌||◌, Option, Some, None, slice_get, slice_index, IsSome, All, option_map, Contains}
use Rattle.std.specs.List.{list_any}
use Rattle.std.proofs.lemmas.Bool.{cases_eq, cases_Bool, ne_eqb, eqb-true, eqb-false, ltb-true, leb-true, lt-ltb, le-leb, and_parts, and_from, or_left, or_cases, cond-true, cond-false, false_from_ne_true, false≢true, both_ways}
use Rattle.std.proofs.lemmas.Option.{same_Some, slice_get-map, slice_get_within, get_or_from_slice_get}
use Rattle.vk_types.specs.declared.handles.HandleId.{HandleId}
use Rattle.vk_types.specs.declared.handles.Kind.{Kind}
use Rattle.vk_types.specs.declared.ops.Node.{Node}
use Rattle.vk_types.specs.declared.batches.Batch.{Batch}
use Rattle.vk_types.specs.Touches.{the_end}
use Rattle.cells.specs.Contents.{UNDEFINED, cell_at, overwritten}
use Rattle.vk_model.specs.Cells.{Contents}
use Rattle.vk_model.specs.Fitting.{size_of}
use Rattle.vk_model.specs.Log.{Item, Command, HostWrite, Wait, Signal, touches_object, IsReady, IsPermitted, IsSound}
use Rattle.vk_model.specs.Meaning.{nothing, found, is_touched, is_written, item_cell, apply, after_some, after_places, executed, eval, touches_id, IsSettled, ContentsAgree}
use Rattle.vk_model.specs.Batches.{Submit, items_of}
use Rattle.vk_model.proofs.SameKinds.{apply_same_kinds}
use Rattle.vk_model.proofs.Local.{found_same, after_written, after_unwritten}
use Rattle.vk_model.proofs.Agreement.{agrees_after}
use Rattle.vk_model.proofs.Order.{after_untouched, settled}
use Rattle.vk_model.proofs.Parts.{overwritten-inside, overwritten-outside}
use Rattle.vk_model.proofs.Device.{permitted_push, executed_push, permitted_longer, executed_longer, write_ready, get_next, touches_id_of}
use Rattle.vk_device.specs.declared.logged.Logged.{Logged}
use Rattle.vk_device.specs.declared.logged.Logged.TheVariants.{Created, Wrote, Submitted, Ran, Fetched, Destroyed}
use Rattle.vk_device.specs.Journal.{kind_of, creates_of, create_of_one, objects_after, accepted, node_at, ReachesTo, TouchesLive, IsLiveNode, IsClean}
use Rattle.vk_device.specs.Order.{entry_items, log_of, order_of, executes, kinds_of, kinds_after, contents, place_of}
use Rattle.vk_device.specs.Effects.{ChangesNothing, ChangesOnly, Adds, Executes}
use Rattle.vk_device.specs.Running.{made, IsInOrder}
use Rattle.vk_device.proofs.Laws.{kind_of-push, kind_of-nil, creates_of-push, IsClean-push, unused}
use Rattle.vk_device.proofs.Orders.{log_of-nil, order_of-nil, log_of-push, order_of-push, kinds_of-push, quiet}
use Rattle.vk_device.proofs.Fitting.{fits_lives, touched_lives}

-- Logs and kinds

module _ (kinds kinds' : ℕ → Kind) (log : List Item) (same : (k q : ℕ) (n : Node) (id : ℕ) → slice_get log k ≡ Some (Command q n) → touches_object n id ≡ true → kinds id ≡ kinds' id) where
  some_same : (k : ℕ) (o : Option Item) → slice_get log k ≡ o → (c : Contents) → after_some kinds o c ≡ after_some kinds' o c
  some_same k None is c = refl
  some_same k (Some x) is c = apply_same_kinds kinds kinds' x (λ q n id e t. same k q n id (is ∙ ap Some e) t) c

  places_same : (order : List ℕ) (c : Contents) → after_places kinds log order c ≡ after_places kinds' log order c
  places_same [] c = refl
  places_same (k ∷ order) c = ap (after_places kinds log order) (some_same k (slice_get log k) refl c) ∙ places_same order (after_some kinds' (slice_get log k) c)

-- what no item touches stays as it is
module _ (kinds : ℕ → Kind) (log : List Item) (id : ℕ) (none : (k : ℕ) (x : Item) → slice_get log k ≡ Some x → touches_id x id ≡ false) where
  some_untouched : (k : ℕ) (o : Option Item) → slice_get log k ≡ o → (c : Contents) → after_some kinds o c id ≡ c id
  some_untouched k None is c = refl
  some_untouched k (Some x) is c = after_untouched kinds x id (none k x is) c

  places_untouched : (order : List ℕ) (c : Contents) → after_places kinds log order c id ≡ c id
  places_untouched [] c = refl
  places_untouched (k ∷ order) c = places_untouched order (after_some kinds (slice_get log k) c) ∙ some_untouched k (slice_get log k) refl c

-- an item of two logs is one of the first or one of the second
pub data InOne (xs ys : List Item) (x : Item) : Type 0 where
  first : (k : ℕ) → slice_get xs k ≡ Some x → InOne xs ys x
  second : (k : ℕ) → slice_get ys k ≡ Some x → InOne xs ys x

pub in_one : (xs ys : List Item) (k : ℕ) (x : Item) → slice_get (xs ++ ys) k ≡ Some x → InOne xs ys x
in_one [] ys k x is = second k is
in_one (y ∷ xs) ys zero x is = first 0 is
in_one (y ∷ xs) ys (suc k) x is = further (in_one xs ys k x is)
  where
    further : InOne xs ys x → InOne (y ∷ xs) ys x
    further (first j at) = first (suc j) at
    further (second j at) = second j at

-- Entries that leave the log

pub kind_after : (journal : List Logged) (entry : Logged) (id : ℕ) → kind_of (journal ++ entry ∷ []) id ≡ objects_after (kind_of journal) entry id
kind_after journal entry id = ap (λ (o : ℕ → Option Kind). o id) (kind_of-push journal entry)

pub was_created : (journal : List Logged) (entry : Logged) (id : ℕ) → creates_of id journal ≢ 0 → creates_of id (journal ++ entry ∷ []) ≢ 0
was_created journal entry id was none = was (omega (arith, creates_of-push id journal entry, none))

-- a live object was created
pub lives_created : (journal : List Logged) (id : ℕ) → IsSome (kind_of journal id) → creates_of id journal ≢ 0
lives_created journal id lives unmade = let none : kind_of journal id ≡ None = unused journal id unmade in let no : IsSome {T = Kind} None = subst IsSome none lives in absurd (cc)

-- a new device
pub in_order_at_first : (bytes_of : ℕ → List ℕ) → IsInOrder [] bytes_of
in_order_at_first bytes_of = record {
  clean = tt;
  known = λ k x id at touched. let nil : slice_get [] k ≡ Some x = subst (λ (l : List Item). slice_get l k ≡ Some x) log_of-nil at in let no : ◌≡◌ {A = Option Item} None (Some x) = nil in absurd (cc);
  permitted = subst (λ o. IsPermitted (log_of []) o) (sym order_of-nil) tt;
  sizes = λ id kind is. let no : ◌≡◌ {A = Option Kind} None (Some kind) = sym (kind_of-nil id) ∙ is in absurd (cc);
  agree = λ id i lives below. let no : IsSome {T = Kind} None = subst IsSome (kind_of-nil id) lives in absurd (cc);
}

module _ (journal : List Logged) (entry : Logged) (no_item : entry_items entry ≡ []) (no_place : executes journal entry ≡ []) where
  same_log : log_of (journal ++ entry ∷ []) ≡ log_of journal
  same_log = (quiet journal entry no_item no_place).0

  same_order : order_of (journal ++ entry ∷ []) ≡ order_of journal
  same_order = (quiet journal entry no_item no_place).1

  still_permitted : IsPermitted (log_of journal) (order_of journal) → IsPermitted (log_of (journal ++ entry ∷ [])) (order_of (journal ++ entry ∷ []))
  still_permitted permitted = subst (λ l. IsPermitted l (order_of (journal ++ entry ∷ []))) (sym same_log) (subst (IsPermitted (log_of journal)) (sym same_order) permitted)

  still_known : ((k : ℕ) (x : Item) (id : ℕ) → slice_get (log_of journal) k ≡ Some x → touches_id x id ≡ true → creates_of id journal ≢ 0) → (k : ℕ) (x : Item) (id : ℕ) → slice_get (log_of (journal ++ entry ∷ [])) k ≡ Some x → touches_id x id ≡ true → creates_of id (journal ++ entry ∷ []) ≢ 0
  still_known known k x id at touched = was_created journal entry id (known k x id (subst (λ (l : List Item). slice_get l k ≡ Some x) same_log at) touched)

  made_by : made (journal ++ entry ∷ []) ≡ executed (kinds_after (kinds_of journal) entry) (log_of journal) (order_of journal)
  made_by =
      ap (λ k. executed k (log_of (journal ++ entry ∷ [])) (order_of (journal ++ entry ∷ []))) (kinds_of-push journal entry)
      ∙ ap (λ l. executed (kinds_after (kinds_of journal) entry) l (order_of (journal ++ entry ∷ []))) same_log
      ∙ ap (λ o. executed (kinds_after (kinds_of journal) entry) (log_of journal) o) same_order

-- a new object
pub in_order_created : (journal : List Logged) (old new : ℕ → List ℕ) (id : HandleId) (kind : Kind) → IsInOrder journal old → creates_of id.0 journal ≡ 0 → length (new id.0) ≡ size_of kind → ((other : ℕ) → other ≢ id.0 → new other ≡ old other) → IsInOrder (journal ++ Created id kind ∷ []) new
in_order_created journal old new id kind has fresh size others = record {
  clean = IsClean-push journal (Created id kind) has.clean fresh;
  known = still_known journal (Created id kind) refl refl has.known;
  permitted = still_permitted journal (Created id kind) refl refl has.permitted;
  sizes = λ other k is. elim (cases_eq other id.0) [
    | inl same ↦
        let here : Some kind ≡ Some k = sym (kind_after journal (Created id kind) other ∙ ap (λ b. cond b (Some kind) (kind_of journal other)) (eq-eqb other id.0 same)) ∙ is in
        ap (λ o. length (new o)) same ∙ size ∙ ap size_of (same_Some kind k here)
    | inr differs ↦ ap length (others other differs) ∙ has.sizes other k (sym (kind_after journal (Created id kind) other ∙ ap (λ b. cond b (Some kind) (kind_of journal other)) (ne_eqb other id.0 differs)) ∙ is)
  ];
  agree = λ other i lives below. agree other i lives below;
}
  where
    kinds' : ℕ → Kind
    kinds' = kinds_after (kinds_of journal) (Created id kind)

    apart : (k : ℕ) (x : Item) (other : ℕ) → slice_get (log_of journal) k ≡ Some x → touches_id x other ≡ true → other ≢ id.0
    apart k x other at touched same = has.known k x other at touched (subst (λ o. creates_of o journal ≡ 0) (sym same) fresh)

    made_is : made (journal ++ Created id kind ∷ []) ≡ made journal
    made_is =
        made_by journal (Created id kind) refl refl
        ∙ places_same kinds' (kinds_of journal) (log_of journal) (λ k q n other at t. ap (λ b. cond b kind (kinds_of journal other)) (ne_eqb other id.0 (apart k (Command q n) other at (touches_id_of n other t q)))) (order_of journal) nothing

    untouched : made journal id.0 ≡ nothing id.0
    untouched = places_untouched (kinds_of journal) (log_of journal) id.0 (λ k x at. false_from_ne_true (touches_id x id.0) (λ t. apart k x id.0 at t refl)) (order_of journal) nothing

    agree : (other i : ℕ) → IsSome (kind_of (journal ++ Created id kind ∷ []) other) → made (journal ++ Created id kind ∷ []) other i < 256 → contents new other i ≡ made (journal ++ Created id kind ∷ []) other i
    agree other i lives below = elim (cases_eq other id.0) [
      | inl same ↦
          let none : made (journal ++ Created id kind ∷ []) other i ≡ UNDEFINED = ap (λ c. c other i) made_is ∙ ap (λ o. made journal o i) same ∙ ap (λ f. f i) untouched in
          absurd (omega (arith, none, below))
      | inr differs ↦
          let kind_is : kind_of (journal ++ Created id kind ∷ []) other ≡ kind_of journal other = kind_after journal (Created id kind) other ∙ ap (λ b. cond b (Some kind) (kind_of journal other)) (ne_eqb other id.0 differs) in
          let is : made (journal ++ Created id kind ∷ []) other i ≡ made journal other i = ap (λ c. c other i) made_is in
          ap (λ b. cell_at b i) (others other differs) ∙ has.agree other i (subst IsSome kind_is lives) (subst (λ v. v < 256) is below) ∙ sym is
    ]

-- the kind of a live object
record Lived (o : Option Kind) : Type 0 where
  kind : Kind
  is : o ≡ Some kind

lived : (o : Option Kind) → IsSome o → Lived o
lived None lives = let no : IsSome {T = Kind} None = lives in absurd (cc)
lived (Some kind) lives = record { kind = kind; is = refl }

-- an entry that changes neither log nor kinds nor bytes, but may end an object
module _ (journal : List Logged) (old new : ℕ → List ℕ) (entry : Logged) (no_item : entry_items entry ≡ []) (no_place : executes journal entry ≡ []) (same_kinds : kinds_after (kinds_of journal) entry ≡ kinds_of journal) where
  in_order_after : IsInOrder journal old → IsClean (journal ++ entry ∷ []) → ((id : ℕ) (kind : Kind) → kind_of (journal ++ entry ∷ []) id ≡ Some kind → (kind_of journal id ≡ Some kind) × (new id ≡ old id)) → IsInOrder (journal ++ entry ∷ []) new
  in_order_after has clean still = record {
    clean = clean;
    known = still_known journal entry no_item no_place has.known;
    permitted = still_permitted journal entry no_item no_place has.permitted;
    sizes = λ id kind at. ap length (still id kind at).1 ∙ has.sizes id kind (still id kind at).0;
    agree = λ id i lives below.
        let k : Lived (kind_of (journal ++ entry ∷ []) id) = lived (kind_of (journal ++ entry ∷ []) id) lives in
        let is : made (journal ++ entry ∷ []) id i ≡ made journal id i = ap (λ c. c id i) (made_by journal entry no_item no_place ∙ ap (λ k. executed k (log_of journal) (order_of journal)) same_kinds) in
        ap (λ b. cell_at b i) (still id k.kind k.is).1 ∙ has.agree id i (subst IsSome (sym (still id k.kind k.is).0) refl) (subst (λ v. v < 256) is below) ∙ sym is;
  }

pub in_order_fetched : (journal : List Logged) (old new : ℕ → List ℕ) (id : HandleId) (at : ℕ) (bytes : List ℕ) → IsInOrder journal old → ReachesTo (kind_of journal id.0) (at + length bytes) → ((other : ℕ) → new other ≡ old other) → IsInOrder (journal ++ Fetched id at bytes ∷ []) new
in_order_fetched journal old new id at bytes has inside others =
    in_order_after journal old new (Fetched id at bytes) refl refl refl has (IsClean-push journal (Fetched id at bytes) has.clean inside) (λ other kind is. (sym (kind_after journal (Fetched id at bytes) other) ∙ is, others other))

some_but : (b : Bool) (o : Option Kind) (kind : Kind) → cond b None o ≡ Some kind → (b ≡ false) × (o ≡ Some kind)
some_but true o kind is = let no : ◌≡◌ {A = Option Kind} None (Some kind) = is in absurd (cc)
some_but false o kind is = (refl, is)

pub in_order_destroyed : (journal : List Logged) (old new : ℕ → List ℕ) (id : HandleId) → IsInOrder journal old → IsSome (kind_of journal id.0) → ((other : ℕ) → other ≢ id.0 → new other ≡ old other) → IsInOrder (journal ++ Destroyed id ∷ []) new
in_order_destroyed journal old new id has live others =
    in_order_after journal old new (Destroyed id) refl refl refl has (IsClean-push journal (Destroyed id) has.clean live) (λ other kind is. let left : ((other == id.0) ≡ false) × (kind_of journal other ≡ Some kind) = some_but (other == id.0) (kind_of journal other) kind (sym (kind_after journal (Destroyed id) other) ∙ is) in (left.1, others other (eqb-false other id.0 left.0)))
