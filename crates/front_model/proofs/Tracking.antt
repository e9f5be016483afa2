-- The uses of a handle through the steps: a tracker that knows them goes on knowing them, and they stay licensed.
use Rattle.std.proofs.Common.{◌≡◌, ◌≢◌, ℕ, false, List, [], ◌∷◌, ◌++◌, refl, sym, ◌∙◌, ap, subst, append_assoc, append-nil}
use Rattle.std.specs.Prelude.{◌==◌, All}
use Rattle.std.specs.List.{flat_map, AllByRecursion}
use Rattle.std.proofs.lemmas.Bool.{cond-true, cond-false, eq-eqb, ne_eqb, or_parts}
use Rattle.std.proofs.lemmas.List.{map-append}
use Rattle.std.proofs.lemmas.List.Concat.{flat_map-append}
use Rattle.std.proofs.lemmas.List.Elements.{All-head, All-tail}
use Rattle.vk_types.specs.Accesses.{host_read}
use Rattle.vk_types.specs.declared.ops.Node.{Node}
use Rattle.vk_model.specs.Log.{Command, commands, touches_object, NoneEmpty, NoConflict}
use Rattle.barriers.specs.Licence.{Use, Accessed}
use Rattle.barriers.specs.Logs.{uses_by, uses_in, use_by}
use Rattle.barriers.specs.Recording.{MayChangePlaces}
use Rattle.back_core.specs.Own.{Own, HostWrote, Enqueued, HostRead, own_touches}
use Rattle.back_core.specs.Link.{Link, fetched}
use Rattle.front_model.specs.Face.{Face, nodes_touch, in_order}
use Rattle.front_model.specs.Stands.{own_uses, uses_of}

-- Uses by nodes

pub by_nodes-append : (xs ys : List Node) (id : ℕ) → uses_in (commands 0 (xs ++ ys)) id ≡ uses_in (commands 0 xs) id ++ uses_in (commands 0 ys) id
by_nodes-append xs ys id = ap (λ l. uses_in l id) (map-append (Command 0) xs ys) ∙ flat_map-append (uses_by id) (commands 0 xs) (commands 0 ys)

pub by_none : (nodes : List Node) (id : ℕ) → nodes_touch nodes id ≡ false → uses_in (commands 0 nodes) id ≡ []
by_none [] id none = refl
by_none (n ∷ nodes) id none =
    let parts = or_parts (touches_object n id) (nodes_touch nodes id) none in
    ap (λ us. us ++ uses_in (commands 0 nodes) id) (cond-false (touches_object n id) (use_by n id ∷ []) [] parts.0) ∙ by_none nodes id parts.1

-- Uses by the group's list

pub own_uses-push : (mine : List Own) (x : Own) (id : ℕ) → flat_map (own_uses id) (mine ++ x ∷ []) ≡ flat_map (own_uses id) mine ++ own_uses id x
own_uses-push mine x id = flat_map-append (own_uses id) mine (x ∷ []) ∙ ap (λ us. flat_map (own_uses id) mine ++ us) (append-nil (own_uses id x))

pub by_untouched : (mine : List Own) (id : ℕ) → All (λ x. own_touches x id ≡ false) mine → flat_map (own_uses id) mine ≡ []
by_untouched [] id all = refl
by_untouched (x ∷ mine) id all = ap (λ us. us ++ flat_map (own_uses id) mine) (one x (All-head (λ x. own_touches x id ≡ false) x mine all)) ∙ by_untouched mine id (All-tail (λ x. own_touches x id ≡ false) x mine all)
  where
    one : (x : Own) → own_touches x id ≡ false → own_uses id x ≡ []
    one (HostWrote i at bytes) off = refl
    one (Enqueued batch) off = by_none batch.nodes id off
    one (HostRead i at bytes) off = cond-false (i == id) (Accessed host_read ∷ []) [] off

-- an item that is no use of the object
module _ (f : Face) (s : Link) (x : Own) (id : ℕ) where
  abbrev after : Link
  after = record s { mine = s.mine ++ x ∷ [] }

  pub uses_with : uses_of f after id ≡ (flat_map (own_uses id) s.mine ++ own_uses id x) ++ uses_in (commands 0 (in_order f)) id
  uses_with = ap (λ us. us ++ uses_in (commands 0 (in_order f)) id) (own_uses-push s.mine x id)

  pub uses_without : own_uses id x ≡ [] → uses_of f after id ≡ uses_of f s id
  uses_without none = uses_with ∙ ap (λ us. us ++ uses_in (commands 0 (in_order f)) id) (ap (λ us. flat_map (own_uses id) s.mine ++ us) none ∙ append-nil (flat_map (own_uses id) s.mine))

pub uses_untouched : (f : Face) (s : Link) (id : ℕ) → nodes_touch (in_order f) id ≡ false → uses_of f s id ≡ flat_map (own_uses id) s.mine
uses_untouched f s id none = ap (λ us. flat_map (own_uses id) s.mine ++ us) (by_none (in_order f) id none) ∙ append-nil (flat_map (own_uses id) s.mine)

pub uses_read : (f : Face) (s : Link) (id at : ℕ) (bytes : List ℕ) → nodes_touch (in_order f) id ≡ false → uses_of f (fetched s id at bytes) id ≡ uses_of f s id ++ Accessed host_read ∷ []
uses_read f s id at bytes none =
    uses_with f s (HostRead id at bytes) id
    ∙ (ap (λ us. (flat_map (own_uses id) s.mine ++ own_uses id (HostRead id at bytes)) ++ us) (by_none (in_order f) id none)
    ∙ (append-nil (flat_map (own_uses id) s.mine ++ own_uses id (HostRead id at bytes))
    ∙ (ap (λ us. flat_map (own_uses id) s.mine ++ us) (cond-true (id == id) (Accessed host_read ∷ []) [] (eq-eqb id id refl))
    ∙ ap (λ us. us ++ Accessed host_read ∷ []) (sym (uses_untouched f s id none)))))

pub uses_read_other : (f : Face) (s : Link) (id at : ℕ) (bytes : List ℕ) (j : ℕ) → j ≢ id → uses_of f (fetched s id at bytes) j ≡ uses_of f s j
uses_read_other f s id at bytes j ne = uses_without f s (HostRead id at bytes) j (cond-false (id == j) (Accessed host_read ∷ []) [] (ne_eqb id j (λ e. ne (sym e))))

-- Parts change places

-- what holds of uses, in whatever order those stand that may change places
abbrev pub GoesAlong : (List Use → Type 0) → Type 0
GoesAlong X = (front xs ys : List Use) → MayChangePlaces xs ys → X (front ++ xs ++ ys) → X (front ++ ys ++ xs)

abbrev pub NodesMay : Type 0
NodesMay = (id : ℕ) (xs ys : List Node) → AllByRecursion NoneEmpty xs → AllByRecursion NoneEmpty ys → NoConflict xs ys →
    MayChangePlaces (uses_in (commands 0 xs) id) (uses_in (commands 0 ys) id)

module _ (X : List Use → Type 0) (along : GoesAlong X) (may : NodesMay) (m : List Use) (id : ℕ) where
  -- the middle one of three parts comes first
  pub middle_first : (xs ys zs : List Node) → AllByRecursion NoneEmpty (xs ++ zs) → AllByRecursion NoneEmpty ys → AllByRecursion NoneEmpty zs → NoConflict ys zs → NoConflict (xs ++ zs) ys →
      X (m ++ uses_in (commands 0 (xs ++ (ys ++ zs))) id) → X ((m ++ uses_in (commands 0 ys) id) ++ uses_in (commands 0 (xs ++ zs)) id)
  middle_first xs ys zs some_xz some_y some_z apart_z apart_xz x =
      let a : List Use = uses_in (commands 0 xs) id in
      let b : List Use = uses_in (commands 0 ys) id in
      let c : List Use = uses_in (commands 0 zs) id in
      along m (uses_in (commands 0 (xs ++ zs)) id) b (may id (xs ++ zs) ys some_xz some_y apart_xz)
      (subst X (ap (λ us. us ++ b) (append_assoc m a c ∙ ap (λ us. m ++ us) (sym (by_nodes-append xs zs id))))
      (along (m ++ a) b c (may id ys zs some_y some_z apart_z)
      (subst X (ap (λ us. m ++ us) (by_nodes-append xs (ys ++ zs) id ∙ ap (λ us. a ++ us) (by_nodes-append ys zs id)) ∙ (sym (append_assoc m a (b ++ c)) ∙ sym (append_assoc (m ++ a) b c))) x)))

  -- what stands behind all comes before the last part
  pub last_between : (xs ys zs nodes : List Node) → AllByRecursion NoneEmpty zs → AllByRecursion NoneEmpty nodes → NoConflict zs nodes →
      X ((m ++ uses_in (commands 0 (xs ++ (ys ++ zs))) id) ++ uses_in (commands 0 nodes) id) → X (m ++ uses_in (commands 0 (xs ++ ((ys ++ nodes) ++ zs))) id)
  last_between xs ys zs nodes some_z some_n apart x =
      let a : List Use = uses_in (commands 0 xs) id in
      let b : List Use = uses_in (commands 0 ys) id in
      let c : List Use = uses_in (commands 0 zs) id in
      let n : List Use = uses_in (commands 0 nodes) id in
      subst X
      (append_assoc ((m ++ a) ++ b) n c
      ∙ (append_assoc (m ++ a) b (n ++ c)
      ∙ (append_assoc m a (b ++ (n ++ c))
      ∙ ap (λ us. m ++ us)
      (ap (λ us. a ++ us) (sym (append_assoc b n c) ∙ (ap (λ us. us ++ c) (sym (by_nodes-append ys nodes id)) ∙ sym (by_nodes-append (ys ++ nodes) zs id)))
      ∙ sym (by_nodes-append xs ((ys ++ nodes) ++ zs) id)))))
      (along ((m ++ a) ++ b) c n (may id zs nodes some_z some_n apart)
      (subst X
      (ap (λ us. us ++ n)
      (ap (λ us. m ++ us) (by_nodes-append xs (ys ++ zs) id ∙ ap (λ us. a ++ us) (by_nodes-append ys zs id))
      ∙ (sym (append_assoc m a (b ++ c)) ∙ sym (append_assoc (m ++ a) b c))))
      x))
