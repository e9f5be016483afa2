-- What a running device keeps: the executed places are a permitted order of a log that grows.
use Rattle.std.proofs.Common.{◌≡◌, ℕ, zero, suc, ◌<◌, List, [], ◌∷◌, ◌++◌, length, true, false, eqb, refl, sym, ◌∙◌, ap, subst, arith, inl, inr}
use Rattle.std.specs.Prelude.{Option, Some, slice_get, Contains, map}
use Rattle.std.specs.List.{list_any}
use Rattle.std.proofs.lemmas.Bool.{false≢true, or_cases, or_left, or_right}
use Rattle.std.proofs.lemmas.List.{append_assoc, append-nil, length-append}
use Rattle.vk_types.specs.declared.handles.Kind.{Kind}
use Rattle.vk_types.specs.declared.ops.Node.{Node}
use Rattle.vk_types.specs.declared.regions.Touch.{Touch}
use Rattle.vk_types.specs.Touches.{touches}
use Rattle.vk_model.specs.Cells.{Contents}
use Rattle.vk_model.specs.Log.{Item, Command, HostWrite, Wait, Signal, node_range, touches_object, item_edge, HasEdge, Reaches, direct, further, IsReady, MayFollow, IsPermitted}
use Rattle.vk_model.specs.Meaning.{nothing, apply, after_some, after_places, executed, touches_id, IsSettled}
use Rattle.vk_model.proofs.Places.{contains_none, contains_cons_cases}
use Rattle.vk_model.proofs.Reaching.{reached_before}

-- Edges lead forward

pub reaches_forward : (log : List Item) {j k : ℕ} → Reaches log j k → j < k
reaches_forward log (direct e) = e.earlier
reaches_forward log (further {j = j} {m = m} {k = k} e r) = let rest : m < k = reaches_forward log r in omega (arith, e.earlier)

-- the first place that is left may run
pub first_left_ready : (log : List Item) (order : List ℕ) (k : ℕ) → k < length log → (Contains order k → ⊥) → ((j : ℕ) → j < k → Contains order j) → IsReady log order k
first_left_ready log order k inside new before = record { inside = inside; new = new; preceded = λ j r. before j (reaches_forward log r) }

-- Over what was executed, the edges to an item decide whether it may run.
preceded_by_edges : (log : List Item) (order : List ℕ) {j k : ℕ} → IsPermitted log order → ((i : ℕ) → HasEdge log i k → Contains order i) → Reaches log j k → Contains order j
preceded_by_edges log order permitted edges (direct {j = j} e) = edges j e
preceded_by_edges log order permitted edges (further {j = j} {m = m} e r) = reached_before log [] order j m permitted (preceded_by_edges log order permitted edges r) (direct e)

pub ready_by_edges : (log : List Item) (order : List ℕ) (k : ℕ) → IsPermitted log order → k < length log → (Contains order k → ⊥) → ((j : ℕ) → HasEdge log j k → Contains order j) → IsReady log order k
ready_by_edges log order k permitted inside new edges = record { inside = inside; new = new; preceded = λ j r. preceded_by_edges log order permitted edges r }

-- One more item runs

follow_push : (log : List Item) (done order : List ℕ) (k : ℕ) → MayFollow log done order → IsReady log (done ++ order) k → MayFollow log done (order ++ k ∷ [])
follow_push log done [] k follow ready = (subst (λ l. IsReady log l k) (append-nil done) ready, tt)
follow_push log done (i ∷ order) k follow ready = (follow.0, follow_push log (done ++ i ∷ []) order k follow.1 (subst (λ l. IsReady log l k) (sym (append_assoc done (i ∷ []) order)) ready))

pub permitted_push : (log : List Item) (order : List ℕ) (k : ℕ) → IsPermitted log order → IsReady log order k → IsPermitted log (order ++ k ∷ [])
permitted_push log order k follow ready = follow_push log [] order k follow ready

places_push : (kinds : ℕ → Kind) (log : List Item) (order : List ℕ) (k : ℕ) (c : Contents) → after_places kinds log (order ++ k ∷ []) c ≡ after_some kinds (slice_get log k) (after_places kinds log order c)
places_push kinds log [] k c = refl
places_push kinds log (i ∷ order) k c = places_push kinds log order k (after_some kinds (slice_get log i) c)

pub executed_push : (kinds : ℕ → Kind) (log : List Item) (order : List ℕ) (k : ℕ) (x : Item) → slice_get log k ≡ Some x → executed kinds log (order ++ k ∷ []) ≡ apply kinds x (executed kinds log order)
executed_push kinds log order k x is = places_push kinds log order k nothing ∙ ap (λ o. after_some kinds o (executed kinds log order)) is

-- The log grows

pub get_front : {X : Type 0} (xs ys : List X) (k : ℕ) → k < length xs → slice_get (xs ++ ys) k ≡ slice_get xs k
get_front [] ys k lt = absurd (omega arith)
get_front (x ∷ xs) ys zero lt = refl
get_front (x ∷ xs) ys (suc k) lt = get_front xs ys k (omega arith)

pub get_next : {X : Type 0} (xs : List X) (y : X) (ys : List X) → slice_get (xs ++ y ∷ ys) (length xs) ≡ Some y
get_next [] y ys = refl
get_next (x ∷ xs) y ys = get_next xs y ys

edge_front : (log more : List Item) (j k : ℕ) → k < length log → HasEdge (log ++ more) j k → HasEdge log j k
edge_front log more j k lt e = record { earlier = e.earlier; a = e.a; b = e.b; a_at = sym (get_front log more j (omega (arith, e.earlier))) ∙ e.a_at; b_at = sym (get_front log more k lt) ∙ e.b_at; waits = e.waits }

pub reaches_front : (log more : List Item) {j k : ℕ} → k < length log → Reaches (log ++ more) j k → Reaches log j k
reaches_front log more lt (direct {j = j} {k = k} e) = direct (edge_front log more j k lt e)
reaches_front log more lt (further {j = j} {m = m} {k = k} e r) = let below : m < k = reaches_forward (log ++ more) r in further (edge_front log more j m (omega arith) e) (reaches_front log more lt r)

follow_longer : (log more : List Item) (done order : List ℕ) → MayFollow log done order → MayFollow (log ++ more) done order
follow_longer log more done [] follow = tt
follow_longer log more done (k ∷ order) follow =
    let ready : IsReady log done k = follow.0 in (
      record { inside = omega (arith, ready.inside, length-append log more); new = ready.new; preceded = λ j r. ready.preceded j (reaches_front log more ready.inside r) },
      follow_longer log more (done ++ k ∷ []) order follow.1,
    )

-- an order of a log is one of each longer log
pub permitted_longer : (log more : List Item) (order : List ℕ) → IsPermitted log order → IsPermitted (log ++ more) order
permitted_longer log more order permitted = follow_longer log more [] order permitted

places_longer : (kinds : ℕ → Kind) (log more : List Item) (done order : List ℕ) (c : Contents) → MayFollow log done order → after_places kinds (log ++ more) order c ≡ after_places kinds log order c
places_longer kinds log more done [] c follow = refl
places_longer kinds log more done (k ∷ order) c follow =
    let ready : IsReady log done k = follow.0 in
    ap (λ o. after_places kinds (log ++ more) order (after_some kinds o c)) (get_front log more k ready.inside)
    ∙ places_longer kinds log more (done ++ k ∷ []) order (after_some kinds (slice_get log k) c) follow.1

pub executed_longer : (kinds : ℕ → Kind) (log more : List Item) (order : List ℕ) → IsPermitted log order → executed kinds (log ++ more) order ≡ executed kinds log order
executed_longer kinds log more order permitted = places_longer kinds log more [] order nothing permitted

-- The host writes

pub touches_id_of : (n : Node) (id : ℕ) → touches_object n id ≡ true → (q : ℕ) → touches_id (Command q n) id ≡ true
touches_id_of n id e q = go (touches n) e
  where
    go : (ts : List Touch) → list_any (λ t. eqb t.id.0 id) ts ≡ true → list_any (λ r. eqb r.id id) (map (node_range n) ts) ≡ true
    go [] e = e
    go (t ∷ ts) e = elim (or_cases (eqb t.id.0 id) (list_any (λ t. eqb t.id.0 id) ts) e) [ inl f ↦ or_left (eqb t.id.0 id) (list_any (λ r. eqb r.id id) (map (node_range n) ts)) f | inr f ↦ or_right (eqb t.id.0 id) (list_any (λ r. eqb r.id id) (map (node_range n) ts)) (go ts f) ]

-- what a write by the host waits for touches its object
edge_to_write : (x : Item) (id at : ℕ) (bytes : List ℕ) → item_edge x (HostWrite id at bytes) ≡ true → touches_id x id ≡ true
edge_to_write (Command q n) id at bytes e = touches_id_of n id e q
edge_to_write (HostWrite of at' bytes') id at bytes e = or_left (eqb of id) false e
edge_to_write (Wait q n) id at bytes e = absurd (false≢true e)
edge_to_write (Signal q n) id at bytes e = absurd (false≢true e)

pub order_inside : (log : List Item) (done order : List ℕ) (k : ℕ) → MayFollow log done order → Contains order k → k < length log
order_inside log done [] k follow c = absurd (contains_none k c)
order_inside log done (i ∷ order) k follow c = elim (contains_cons_cases i order k c) [ inl e ↦ subst (λ k. k < length log) e follow.0.inside | inr more ↦ order_inside log (done ++ i ∷ []) order k follow.1 more ]

module _ (log : List Item) (order : List ℕ) (id at : ℕ) (bytes : List ℕ) (permitted : IsPermitted log order) (settled : IsSettled log order id) where
  -- what the write waits for was executed
  write_after : (j k : ℕ) → k ≡ length log → HasEdge (log ++ HostWrite id at bytes ∷ []) j k → Contains order j
  write_after j k last e =
      let at_last : slice_get (log ++ HostWrite id at bytes ∷ []) k ≡ Some (HostWrite id at bytes) = ap (slice_get (log ++ HostWrite id at bytes ∷ [])) last ∙ get_next log (HostWrite id at bytes) [] in
      let both : ◌≡◌ {A = Option Item} (Some e.b) (Some (HostWrite id at bytes)) = sym e.b_at ∙ at_last in
      let here : e.b ≡ HostWrite id at bytes = cc in
      settled j e.a (sym (get_front log (HostWrite id at bytes ∷ []) j (omega (arith, e.earlier))) ∙ e.a_at) (edge_to_write e.a id at bytes (subst (λ b. item_edge e.a b ≡ true) here e.waits))

  write_preceded : {j k : ℕ} → k ≡ length log → Reaches (log ++ HostWrite id at bytes ∷ []) j k → Contains order j
  write_preceded last (direct {j = j} {k = k} e) = write_after j k last e
  write_preceded last (further {j = j} {m = m} {k = k} e r) =
      let below : m < k = reaches_forward (log ++ HostWrite id at bytes ∷ []) r in
      reached_before log [] order j m permitted (write_preceded last r) (direct (edge_front log (HostWrite id at bytes ∷ []) j m (omega arith) e))

  -- Once all that touches an object was executed, the host may write to it at once.
  pub write_ready : IsReady (log ++ HostWrite id at bytes ∷ []) order (length log)
  write_ready = record {
    inside = omega (arith, length-append log (HostWrite id at bytes ∷ []));
    new = λ c. let inside : length log < length log = order_inside log [] order (length log) permitted c in omega arith;
    preceded = λ j r. write_preceded refl r;
  }
