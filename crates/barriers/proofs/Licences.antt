-- What a tracker knows decides what is licensed.
use Rattle.std.proofs.Common.{◌≡◌, List, [], ◌∷◌, ◌++◌, true, false, refl, sym, ◌∙◌, ap, subst, inl, inr}
use Rattle.std.proofs.lemmas.Bool.{false≢true, cases_Bool}
use Rattle.std.proofs.lemmas.List.{append-nil, append_assoc}
use Rattle.vk_types.specs.declared.ops.Node.{Node}
use Rattle.vk_types.specs.Touches.{barrier_of}
use Rattle.vk_model.specs.Log.{Command, commands, touches_object}
use Rattle.barriers.specs.Logs.{joint_access, uses_by, uses_in}
use Rattle.barriers.proofs.Joint.{joint_some}
use Rattle.barriers.proofs.Uses.{use_of_none, use_of_access, use_of_barrier}
use Rattle.std.proofs.lemmas.List.Elements.{All-nil, All-push}
use Rattle.std.proofs.lemmas.List.Sums.{fold_push}
use Rattle.std.specs.Prelude.{fold, All, is_some, ◌==◌, ◌≢◌, ◌⊎◌, ◌&&◌, ◌||◌, not, Bool, Option, Some, None, if◌then◌else◌}
use Rattle.std.specs.Option.{option_map, option_map_or}
use Rattle.std.specs.List.{list_any}
use Rattle.vk_types.specs.Accesses.{no_access, in_common, joined}
use Rattle.vk_types.specs.declared.accesses.Access.{Access}
use Rattle.vk_types.specs.declared.handles.HandleId.{HandleId}
use Rattle.vk_types.specs.declared.regions.Touch.{Touch}
use Rattle.vk_types.specs.declared.regions.Barrier.{Barrier}
use Rattle.barriers.specs.declared.tracker.Tracker.{Tracker}
use Rattle.vk_types.specs.declared.accesses.Layout.{Layout}
use Rattle.vk_types.specs.declared.accesses.Layout.TheVariants.{Undefined}
use Rattle.barriers.specs.Licence.{Use, Accessed, Fenced, barrier_after, accesses_after, layout_after, layouts_of, barrier_due, fenced_by, touched, last_barrier, since, union, writes, is_empty, changes_layout, layout_now, first_layout, is_licensed, waited_for}
use Rattle.barriers.specs.Trackers.{Tracks, IsTouchOf, is_due, first_of, due_by, new_tracker, taken, taken_touch}
use Rattle.barriers.proofs.Accesses.{joined_writes, union_writes, any_writes, union_empty}

module _ (t : Tracker) (id : HandleId) (is_image : Bool) (uses : List Use) (k : Tracks t id is_image uses) where
  untouched : (t.since.0 == 0) ≡ is_empty (since uses)
  untouched = ap (λ a. a.0 == 0) k.accessed ∙ union_empty (since uses) k.none_empty

  written : (touch : Touch) → (not (t.since.0 == 0) && writes (joined t.since touch.access)) ≡ list_any (λ access. writes access || writes touch.access) (since uses)
  written touch =
      ap (λ p. not p && writes (joined t.since touch.access)) untouched
      ∙ (ap (λ p. not (is_empty (since uses)) && p) (joined_writes t.since touch.access)
      ∙ (ap (λ a. not (is_empty (since uses)) && (writes a || writes touch.access)) k.accessed
      ∙ (ap (λ p. not (is_empty (since uses)) && (p || writes touch.access)) (union_writes (since uses))
      ∙ sym (any_writes (writes touch.access) (since uses)))))

  held_back : (access : Access) → option_map_or (λ second. not (in_common access second)) t.second false ≡ option_map_or (λ barrier. not (in_common access barrier.second)) (last_barrier uses) false
  held_back access = ap (λ o. option_map_or (λ second. not (in_common access second)) o false) k.let_through ∙ go (last_barrier uses)
    where
      go : (o : Option Barrier) → option_map_or (λ second. not (in_common access second)) (option_map (λ barrier. barrier.second) o) false ≡ option_map_or (λ barrier. not (in_common access barrier.second)) o false
      go None = refl
      go (Some barrier) = refl

  pub due_licensed : (touch : Touch) → is_due t touch ≡ is_licensed is_image uses touch
  due_licensed touch =
      ap (λ l. changes_layout l touch.layout || (not (t.since.0 == 0) && writes (joined t.since touch.access)) || option_map_or (λ second. not (in_common touch.access second)) t.second false) k.layout
      ∙ (ap (λ p. changes_layout (layout_now (first_layout is_image) uses) touch.layout || p || option_map_or (λ second. not (in_common touch.access second)) t.second false) (written touch)
      ∙ ap (λ p. changes_layout (layout_now (first_layout is_image) uses) touch.layout || list_any (λ access. writes access || writes touch.access) (since uses) || p) (held_back touch.access))

  pub first_waited : first_of t ≡ waited_for uses
  first_waited =
      ap (λ p. if p then option_map_or (λ second. second) t.second no_access else t.since) untouched
      ∙ (ap (λ o. if is_empty (since uses) then option_map_or (λ second. second) o no_access else t.since) k.let_through
      ∙ (ap (λ a. if is_empty (since uses) then option_map_or (λ second. second) (option_map (λ barrier. barrier.second) (last_barrier uses)) no_access else a) k.accessed
      ∙ ap (λ a. if is_empty (since uses) then a else union (since uses)) (go (last_barrier uses))))
    where
      go : (o : Option Barrier) → option_map_or (λ second. second) (option_map (λ barrier. barrier.second) o) no_access ≡ option_map_or (λ barrier. barrier.second) o no_access
      go None = refl
      go (Some barrier) = refl

  -- Which barrier is due

  pub none_due : (touch : Touch) → is_due t touch ≡ false → barrier_due id is_image uses touch ≡ None
  none_due touch e = ap (λ b. if b then Some (record { id = id; first = waited_for uses; second = touch.access; layouts = layouts_of (layout_now (first_layout is_image) uses) touch.layout }) else None) (sym (due_licensed touch) ∙ e)

  pub some_due : (touch : Touch) → is_due t touch ≡ true → barrier_due id is_image uses touch ≡ Some (record { id = t.id; first = first_of t; second = touch.access; layouts = layouts_of t.layout touch.layout })
  some_due touch e =
      ap (λ b. if b then Some (record { id = id; first = waited_for uses; second = touch.access; layouts = layouts_of (layout_now (first_layout is_image) uses) touch.layout }) else None) (sym (due_licensed touch) ∙ e)
      ∙ ap Some (named t.id (first_of t) t.layout k.of first_waited k.layout)
    where
      named : (i : HandleId) (first : Access) (layout : Option Layout) → i ≡ id → first ≡ waited_for uses → layout ≡ layout_now (first_layout is_image) uses →
          ◌≡◌ {A = Barrier} (record { id = id; first = waited_for uses; second = touch.access; layouts = layouts_of (layout_now (first_layout is_image) uses) touch.layout }) (record { id = i; first = first; second = touch.access; layouts = layouts_of layout touch.layout })
      named i first layout e f g = cc

  -- What a tracker takes in

  pub tracks_access : (access : Access) → access ≢ no_access → Tracks (record { id = t.id; second = t.second; since = joined t.since access; layout = t.layout }) id is_image (uses ++ Accessed access ∷ [])
  tracks_access access some = record {
    of = k.of;
    let_through = k.let_through ∙ ap (option_map (λ barrier. barrier.second)) (sym (fold_push barrier_after None uses (Accessed access)));
    accessed = ap (λ a. joined a access) k.accessed ∙ (sym (fold_push joined no_access (since uses) access) ∙ ap union (sym (fold_push accesses_after [] uses (Accessed access))));
    none_empty = subst (All (λ access. access ≢ no_access)) (sym (fold_push accesses_after [] uses (Accessed access))) (All-push (λ access. access ≢ no_access) (since uses) access k.none_empty some);
    layout = k.layout ∙ sym (fold_push layout_after (first_layout is_image) uses (Accessed access));
  }

  pub tracks_barrier : (barrier : Barrier) → Tracks (record { id = t.id; second = Some barrier.second; since = no_access; layout = option_map_or (λ both. Some both.1) barrier.layouts t.layout }) id is_image (uses ++ Fenced barrier ∷ [])
  tracks_barrier barrier = record {
    of = k.of;
    let_through = ap (option_map (λ barrier. barrier.second)) (sym (fold_push barrier_after None uses (Fenced barrier)));
    accessed = ap union (sym (fold_push accesses_after [] uses (Fenced barrier)));
    none_empty = subst (All (λ access. access ≢ no_access)) (sym (fold_push accesses_after [] uses (Fenced barrier))) (All-nil (λ access. access ≢ no_access));
    layout = ap (option_map_or (λ both. Some both.1) barrier.layouts) k.layout ∙ sym (fold_push layout_after (first_layout is_image) uses (Fenced barrier));
  }

  pub after_none : (touch : Touch) → touch.access ≢ no_access → is_due t touch ≡ false → Tracks (record { id = t.id; second = t.second; since = joined t.since touch.access; layout = t.layout }) id is_image (touched id is_image uses touch)
  after_none touch some e =
      subst (Tracks (record { id = t.id; second = t.second; since = joined t.since touch.access; layout = t.layout }) id is_image)
      (ap (λ us. us ++ Accessed touch.access ∷ []) (sym (append-nil uses)) ∙ ap (λ o. uses ++ fenced_by o ++ Accessed touch.access ∷ []) (sym (none_due touch e)))
      (tracks_access touch.access some)

-- an image always has a layout
pub some_layout : (uses : List Use) (layout : Layout) → fold layout_after (Some layout) uses ≡ None → ⊥
some_layout [] layout e = cc
some_layout (Accessed access ∷ uses) layout e = some_layout uses layout e
some_layout (Fenced barrier ∷ uses) layout e = go barrier.layouts refl (some_layout uses)
  where
    go : (o : Option (Layout × Layout)) → barrier.layouts ≡ o → ((l : Layout) → fold layout_after (Some l) uses ≡ None → ⊥) → ⊥
    go None is rest = rest layout (ap (λ o. fold layout_after (option_map_or (λ both. Some both.1) o (Some layout)) uses) (sym is) ∙ e)
    go (Some both) is rest = rest both.1 (ap (λ o. fold layout_after (option_map_or (λ both. Some both.1) o (Some layout)) uses) (sym is) ∙ e)

pub after_some : (t : Tracker) (id : HandleId) (is_image : Bool) (uses : List Use) → Tracks t id is_image uses → (touch : Touch) → IsTouchOf id is_image touch → is_due t touch ≡ true → (layout : Option Layout) →
    layout ≡ option_map_or (λ both. Some both.1) (layouts_of t.layout touch.layout) t.layout →
    Tracks (record { id = t.id; second = Some touch.access; since = touch.access; layout = layout }) id is_image (touched id is_image uses touch)
after_some t id is_image uses k touch of due layout is =
    subst (Tracks (record { id = t.id; second = Some touch.access; since = touch.access; layout = layout }) id is_image)
    (ap (λ o. uses ++ fenced_by o ++ Accessed touch.access ∷ []) (sym (some_due t id is_image uses k touch due)))
    (subst (λ l. Tracks (record { id = t.id; second = Some touch.access; since = touch.access; layout = l }) id is_image (uses ++ Fenced barrier ∷ [] ++ Accessed touch.access ∷ [])) (sym is)
    (tracks_access _ id is_image (uses ++ Fenced barrier ∷ []) (tracks_barrier t id is_image uses k barrier) touch.access of.some))
  where
    barrier : Barrier
    barrier = record { id = t.id; first = first_of t; second = touch.access; layouts = layouts_of t.layout touch.layout }

pub moved : (t : Tracker) (id : HandleId) (is_image : Bool) (uses : List Use) → Tracks t id is_image uses → (touch : Touch) → IsTouchOf id is_image touch → is_some touch.layout ≡ true →
    touch.layout ≡ option_map_or (λ both. Some both.1) (layouts_of t.layout touch.layout) t.layout
moved t id is_image uses k touch of some = go t.layout touch.layout refl refl
  where
    go : (now wanted : Option Layout) → t.layout ≡ now → touch.layout ≡ wanted → wanted ≡ option_map_or (λ both. Some both.1) (layouts_of now wanted) now
    go now None e f = absurd (false≢true (sym (ap is_some f) ∙ some))
    go (Some now) (Some wanted) e f = refl
    go None (Some wanted) e f =
        let image : is_image ≡ true = of.buffer (λ g. let bad : ◌≡◌ {A = Option Layout} (Some wanted) None = sym f ∙ g in cc) in
        absurd (some_layout uses Undefined (ap (λ b. fold layout_after (first_layout b) uses) (sym image) ∙ (sym k.layout ∙ e)))

pub unmoved : (t : Tracker) (touch : Touch) → is_some touch.layout ≡ false → t.layout ≡ option_map_or (λ both. Some both.1) (layouts_of t.layout touch.layout) t.layout
unmoved t touch none = go t.layout touch.layout refl
  where
    go : (now wanted : Option Layout) → touch.layout ≡ wanted → now ≡ option_map_or (λ both. Some both.1) (layouts_of now wanted) now
    go now (Some wanted) f = absurd (false≢true (sym none ∙ ap is_some f))
    go (Some now) None f = refl
    go None None f = refl

-- What a tracker takes in, by what it knows

pub due_by_is : (t : Tracker) (id : HandleId) (is_image : Bool) (uses : List Use) → Tracks t id is_image uses → (touch : Touch) → due_by t touch ≡ barrier_due id is_image uses touch
due_by_is t id is_image uses k touch = go (is_due t touch) refl
  where
    go : (b : Bool) → is_due t touch ≡ b → due_by t touch ≡ barrier_due id is_image uses touch
    go true e = ap (λ b. if b then Some (record { id = t.id; first = first_of t; second = touch.access; layouts = layouts_of t.layout touch.layout }) else None) e ∙ sym (some_due t id is_image uses k touch e)
    go false e = ap (λ b. if b then Some (record { id = t.id; first = first_of t; second = touch.access; layouts = layouts_of t.layout touch.layout }) else None) e ∙ sym (none_due t id is_image uses k touch e)

pub tracks_taken : (t : Tracker) (id : HandleId) (is_image : Bool) (uses : List Use) → Tracks t id is_image uses → (touch : Touch) → touch.access ≢ no_access → Tracks (taken_touch t touch) id is_image (touched id is_image uses touch)
tracks_taken t id is_image uses k touch some =
    subst (λ o. Tracks (taken_touch t touch) id is_image (uses ++ fenced_by o ++ Accessed touch.access ∷ [])) (due_by_is t id is_image uses k touch) (go (due_by t touch))
  where
    go : (o : Option Barrier) → Tracks (fold taken t (fenced_by o ++ Accessed touch.access ∷ [])) id is_image (uses ++ fenced_by o ++ Accessed touch.access ∷ [])
    go None = subst (λ us. Tracks (taken t (Accessed touch.access)) id is_image (us ++ Accessed touch.access ∷ [])) (sym (append-nil uses)) (tracks_access t id is_image uses k touch.access some)
    go (Some barrier) = tracks_access (taken t (Fenced barrier)) id is_image (uses ++ Fenced barrier ∷ []) (tracks_barrier t id is_image uses k barrier) touch.access some

-- by the nodes of a list

abbrev RestOf : HandleId → Bool → List Node → Type 0
RestOf id is_image nodes = (t : Tracker) (uses : List Use) → Tracks t id is_image uses → Tracks (fold taken t (uses_in (commands 0 nodes) id.0)) id is_image (uses ++ uses_in (commands 0 nodes) id.0)

abbrev NowOf : HandleId → Bool → List Node → Tracker → List Use → List Use → Type 0
NowOf id is_image nodes t uses us = Tracks (fold taken t (us ++ uses_in (commands 0 nodes) id.0)) id is_image (uses ++ (us ++ uses_in (commands 0 nodes) id.0))

pub tracks_nodes : (id : HandleId) (is_image : Bool) (nodes : List Node) (t : Tracker) (uses : List Use) → Tracks t id is_image uses → Tracks (fold taken t (uses_in (commands 0 nodes) id.0)) id is_image (uses ++ uses_in (commands 0 nodes) id.0)
tracks_nodes id is_image [] t uses k = subst (Tracks t id is_image) (sym (append-nil uses)) k
tracks_nodes id is_image (n ∷ nodes) t uses k = touched (cases_Bool (touches_object n id.0)) (tracks_nodes id is_image nodes)
  where
    use_is : (o : Option Barrier) → barrier_of n ≡ o → touches_object n id.0 ≡ true → RestOf id is_image nodes → NowOf id is_image nodes t uses (uses_by id.0 (Command 0 n))
    use_is None is on rest =
        subst (NowOf id is_image nodes t uses) (sym (use_of_access 0 n id.0 on is))
        (subst (Tracks (fold taken (taken t (Accessed (joint_access n id.0))) (uses_in (commands 0 nodes) id.0)) id is_image) (append_assoc uses (Accessed (joint_access n id.0) ∷ []) (uses_in (commands 0 nodes) id.0))
        (rest (taken t (Accessed (joint_access n id.0))) (uses ++ Accessed (joint_access n id.0) ∷ []) (tracks_access t id is_image uses k (joint_access n id.0) (joint_some n id.0 is on))))
    use_is (Some barrier) is on rest =
        subst (NowOf id is_image nodes t uses) (sym (use_of_barrier 0 n id.0 barrier on is))
        (subst (Tracks (fold taken (taken t (Fenced barrier)) (uses_in (commands 0 nodes) id.0)) id is_image) (append_assoc uses (Fenced barrier ∷ []) (uses_in (commands 0 nodes) id.0))
        (rest (taken t (Fenced barrier)) (uses ++ Fenced barrier ∷ []) (tracks_barrier t id is_image uses k barrier)))

    touched : (touches_object n id.0 ≡ true) ⊎ (touches_object n id.0 ≡ false) → RestOf id is_image nodes → NowOf id is_image nodes t uses (uses_by id.0 (Command 0 n))
    touched (inl on) rest = use_is (barrier_of n) refl on rest
    touched (inr off) rest = subst (NowOf id is_image nodes t uses) (sym (use_of_none 0 n id.0 off)) (rest t uses k)

pub tracks_new : (id : HandleId) (is_image : Bool) → Tracks (new_tracker id is_image) id is_image []
tracks_new id is_image = record { of = refl; let_through = refl; accessed = refl; none_empty = All-nil (λ access. access ≢ no_access); layout = refl }
