-- What a copy between buffers, and a barrier before a read by the host, are to the buffers that they touch; and what is due before them.
use Rattle.barriers.specs.Licence.{union}
use Rattle.vk_types.specs.declared.handles.HandleId.{HandleId}
use Rattle.vk_types.specs.declared.accesses.Access.{Access}
use Rattle.vk_types.specs.declared.regions.Touch.{Touch}
use Rattle.vk_types.specs.declared.regions.Barrier.{Barrier}
use Rattle.vk_types.specs.declared.ops.Node.{Node}
use Rattle.vk_types.specs.Accesses.{transfer_read, transfer_write}
use Rattle.vk_types.specs.Touches.{touches, part}
use Rattle.barriers.specs.Licence.{Use, Accessed, Fenced, barrier_due, fenced_by}
use Rattle.barriers.specs.Logs.{joint_access, jointly, uses_by, uses_in, use_by}
use Rattle.barriers.specs.Recording.{node_for, barrier_node, with_due, HasLayouts}
use Rattle.front_model.proofs.Tracking.{by_nodes-append}
use Rattle.std.proofs.lemmas.Bool.{cond-true, cond-false, eq-eqb, ne_eqb, or_left, or_right}
use Rattle.std.proofs.lemmas.List.{append-nil}
use Rattle.std.proofs.lemmas.List.Elements.{All-contains, All-nil, All-cons}
use Rattle.object_helper.specs.Objects.{access_of}
use Rattle.front_moves.specs.Recording.{IsFence, behind_both, read_write}
use Rattle.std.proofs.Common.{◌≡◌, ◌≢◌, ℕ, ◌+◌, ◌≤◌, ◌<◌, Bool, true, false, cond, eqb, List, [], ◌∷◌, ◌++◌, length, refl, sym, ◌∙◌, ap, subst, arith, inl, inr}
use Rattle.std.specs.Prelude.{◌⊎◌, ◌||◌, not, map, is_some, All, Contains, Option, Some, None, IfSome, unwrap_or}
use Rattle.std.specs.List.{filter, flat_map}
use Rattle.vk_types.specs.declared.handles.Kind.{Kind}
use Rattle.vk_types.specs.declared.handles.Kind.TheVariants as kind
use Rattle.vk_types.specs.declared.accesses.Layout.TheVariants.{Undefined}
use Rattle.vk_model.specs.Log.{Command, commands, touches_object}
use Rattle.object_helper.specs.Objects.{is_image}
use Rattle.front_model.specs.Face.{Face, nodes_touch}
use Rattle.front_moves.proofs.Recordable.{copy_node}

-- What barriers are to an object

pub fence_use : (id : HandleId) (due : Option Barrier) → IsFence id due → uses_in (commands 0 (node_for due)) id.0 ≡ fenced_by due
fence_use id None is = refl
fence_use id (Some barrier) is =
    append-nil (uses_by id.0 (Command 0 (barrier_node barrier)))
    ∙ cond-true (touches_object (barrier_node barrier) id.0) (Fenced barrier ∷ []) [] (or_left (eqb barrier.id.0 id.0) false (eq-eqb barrier.id.0 id.0 (ap (λ (h : HandleId). h.0) (is barrier refl).0)))

pub fence_other : (id : HandleId) (other : ℕ) (due : Option Barrier) → IsFence id due → id.0 ≢ other → uses_in (commands 0 (node_for due)) other ≡ []
fence_other id other None is ne = refl
fence_other id other (Some barrier) is ne =
    append-nil (uses_by other (Command 0 (barrier_node barrier)))
    ∙ cond-false (touches_object (barrier_node barrier) other) (Fenced barrier ∷ []) [] (ap (λ b. b || false) (ne_eqb barrier.id.0 other (λ e. ne (ap (λ (h : HandleId). h.0) (sym (is barrier refl).0) ∙ e))))

-- What a copy is

module _ (src : HandleId) (src_at : ℕ) (dst : HandleId) (dst_at size : ℕ) where
  abbrev copy : Node
  copy = copy_node src src_at dst dst_at size

  -- the accesses of those touches that pass a test
  joint_is : (id : ℕ) (a b : Bool) → eqb src.0 id ≡ a → eqb dst.0 id ≡ b → joint_access copy id ≡ union (map (λ (t : Touch). t.access) (cond a (part src src_at size transfer_read ∷ cond b (part dst dst_at size transfer_write ∷ []) []) (cond b (part dst dst_at size transfer_write ∷ []) [])))
  joint_is id a b e f =
      ap (λ x. union (map (λ (t : Touch). t.access) (cond x (part src src_at size transfer_read ∷ cond (eqb dst.0 id) (part dst dst_at size transfer_write ∷ []) []) (cond (eqb dst.0 id) (part dst dst_at size transfer_write ∷ []) [])))) e
      ∙ ap (λ x. union (map (λ (t : Touch). t.access) (cond a (part src src_at size transfer_read ∷ cond x (part dst dst_at size transfer_write ∷ []) []) (cond x (part dst dst_at size transfer_write ∷ []) [])))) f

  pub joint_source : src.0 ≢ dst.0 → joint_access copy src.0 ≡ transfer_read
  joint_source ne = joint_is src.0 true false (eq-eqb src.0 src.0 refl) (ne_eqb dst.0 src.0 (λ e. ne (sym e)))

  pub joint_target : src.0 ≢ dst.0 → joint_access copy dst.0 ≡ transfer_write
  joint_target ne = joint_is dst.0 false true (ne_eqb src.0 dst.0 ne) (eq-eqb dst.0 dst.0 refl)

  pub joint_within : src.0 ≡ dst.0 → joint_access copy src.0 ≡ read_write
  joint_within e = joint_is src.0 true true (eq-eqb src.0 src.0 refl) (eq-eqb dst.0 src.0 (sym e))

  copy_on : (id : ℕ) → (src.0 ≡ id) ⊎ (dst.0 ≡ id) → touches_object copy id ≡ true
  copy_on id (inl e) = or_left (eqb src.0 id) (eqb dst.0 id || false) (eq-eqb src.0 id e)
  copy_on id (inr e) = or_right (eqb src.0 id) (eqb dst.0 id || false) (or_left (eqb dst.0 id) false (eq-eqb dst.0 id e))

  -- its use of an object
  copy_use : (id : ℕ) → (src.0 ≡ id) ⊎ (dst.0 ≡ id) → uses_in (commands 0 (copy ∷ [])) id ≡ Accessed (joint_access copy id) ∷ []
  copy_use id on = append-nil (uses_by id (Command 0 copy)) ∙ cond-true (touches_object copy id) (use_by copy id ∷ []) [] (copy_on id on)

  -- The uses of the stores by the copy behind what is due

  module _ (one other : Option Barrier) where
    three : (id : ℕ) → uses_in (commands 0 (behind_both one other copy)) id ≡ (uses_in (commands 0 (node_for one)) id ++ uses_in (commands 0 (node_for other)) id) ++ uses_in (commands 0 (copy ∷ [])) id
    three id = by_nodes-append (node_for one ++ node_for other) (copy ∷ []) id ∙ ap (λ us. us ++ uses_in (commands 0 (copy ∷ [])) id) (by_nodes-append (node_for one) (node_for other) id)

    pub source_uses : src.0 ≢ dst.0 → IsFence src one → IsFence dst other → uses_in (commands 0 (behind_both one other copy)) src.0 ≡ fenced_by one ++ Accessed transfer_read ∷ []
    source_uses ne a b =
        three src.0
        ∙ (ap (λ us. (us ++ uses_in (commands 0 (node_for other)) src.0) ++ uses_in (commands 0 (copy ∷ [])) src.0) (fence_use src one a)
        ∙ (ap (λ us. (fenced_by one ++ us) ++ uses_in (commands 0 (copy ∷ [])) src.0) (fence_other dst src.0 other b (λ e. ne (sym e)))
        ∙ (ap (λ us. us ++ uses_in (commands 0 (copy ∷ [])) src.0) (append-nil (fenced_by one))
        ∙ ap (λ us. fenced_by one ++ us) (copy_use src.0 (inl refl) ∙ ap (λ x. Accessed x ∷ []) (joint_source ne)))))

    pub target_uses : src.0 ≢ dst.0 → IsFence src one → IsFence dst other → uses_in (commands 0 (behind_both one other copy)) dst.0 ≡ fenced_by other ++ Accessed transfer_write ∷ []
    target_uses ne a b =
        three dst.0
        ∙ (ap (λ us. (us ++ uses_in (commands 0 (node_for other)) dst.0) ++ uses_in (commands 0 (copy ∷ [])) dst.0) (fence_other src dst.0 one a ne)
        ∙ (ap (λ us. us ++ uses_in (commands 0 (copy ∷ [])) dst.0) (fence_use dst other b)
        ∙ ap (λ us. fenced_by other ++ us) (copy_use dst.0 (inr refl) ∙ ap (λ x. Accessed x ∷ []) (joint_target ne))))

    pub within_uses : src.0 ≡ dst.0 → IsFence src one → other ≡ None → uses_in (commands 0 (behind_both one other copy)) src.0 ≡ fenced_by one ++ Accessed read_write ∷ []
    within_uses same a none =
        three src.0
        ∙ (ap (λ us. (us ++ uses_in (commands 0 (node_for other)) src.0) ++ uses_in (commands 0 (copy ∷ [])) src.0) (fence_use src one a)
        ∙ (ap (λ o. (fenced_by one ++ uses_in (commands 0 (node_for o)) src.0) ++ uses_in (commands 0 (copy ∷ [])) src.0) none
        ∙ (ap (λ us. us ++ uses_in (commands 0 (copy ∷ [])) src.0) (append-nil (fenced_by one))
        ∙ ap (λ us. fenced_by one ++ us) (copy_use src.0 (inl refl) ∙ ap (λ x. Accessed x ∷ []) (joint_within same)))))

  -- They are those that are due

  module _ (image : ℕ → Bool) (uses : ℕ → List Use) where
    abbrev due_for : HandleId → Access → Option Barrier
    due_for id access = barrier_due id (image id.0) (uses id.0) (access_of id access)

    due_list : (a : Bool) → eqb dst.0 src.0 ≡ a → with_due image uses copy ≡
        flat_map (λ t. node_for (barrier_due t.id (image t.id.0) (uses t.id.0) t)) (map (jointly copy) (part src src_at size transfer_read ∷ cond (not a) (part dst dst_at size transfer_write ∷ []) [])) ++ copy ∷ []
    due_list a e = ap (λ x. flat_map (λ t. node_for (barrier_due t.id (image t.id.0) (uses t.id.0) t)) (map (jointly copy) (part src src_at size transfer_read ∷ cond (not x) (part dst dst_at size transfer_write ∷ []) [])) ++ copy ∷ []) e

    pub due_apart : src.0 ≢ dst.0 → with_due image uses copy ≡ behind_both (due_for src transfer_read) (due_for dst transfer_write) copy
    due_apart ne =
        due_list false (ne_eqb dst.0 src.0 (λ e. ne (sym e)))
        ∙ (ap (λ x. (node_for (due_for src x) ++ (node_for (due_for dst (joint_access copy dst.0)) ++ [])) ++ copy ∷ []) (joint_source ne)
        ∙ (ap (λ x. (node_for (due_for src transfer_read) ++ (node_for (due_for dst x) ++ [])) ++ copy ∷ []) (joint_target ne)
        ∙ ap (λ l. (node_for (due_for src transfer_read) ++ l) ++ copy ∷ []) (append-nil (node_for (due_for dst transfer_write)))))

    pub due_within : src.0 ≡ dst.0 → with_due image uses copy ≡ behind_both (due_for src read_write) None copy
    due_within same =
        due_list true (eq-eqb dst.0 src.0 (sym same))
        ∙ ap (λ x. (node_for (due_for src x) ++ []) ++ copy ∷ []) (joint_within same)

  -- Layouts

  pub copy_layouts : (image : ℕ → Bool) → image src.0 ≡ false → image dst.0 ≡ false → HasLayouts image copy
  copy_layouts image a b = record {
    images = λ t has. at_both (λ t. is_some t.layout ≡ image t.id.0) (sym a) (sym b) t has;
    defined = λ t has. at_both (λ t. t.layout ≢ Some Undefined) (λ e. cc) (λ e. cc) t has;
    one = λ t u has_t has_u e. at_both (λ t. t.layout ≡ None) refl refl t has_t ∙ sym (at_both (λ u. u.layout ≡ None) refl refl u has_u);
  }
    where
      at_both : (P : Touch → Type 0) → P (part src src_at size transfer_read) → P (part dst dst_at size transfer_write) → (t : Touch) → Contains (touches (copy_node src src_at dst dst_at size)) t → P t
      at_both P x y t has = All-contains P (touches (copy_node src src_at dst dst_at size)) t
          (All-cons P (part src src_at size transfer_read) (part dst dst_at size transfer_write ∷ []) x (All-cons P (part dst dst_at size transfer_write) [] y (All-nil P))) has

  pub copy_buffers : (image : ℕ → Bool) → image src.0 ≡ false → image dst.0 ≡ false → (t : Touch) → Contains (touches copy) t → image t.id.0 ≡ false
  copy_buffers image a b t has = All-contains (λ (t : Touch). image t.id.0 ≡ false) (touches copy) t
      (All-cons (λ (t : Touch). image t.id.0 ≡ false) (part src src_at size transfer_read) (part dst dst_at size transfer_write ∷ []) a
      (All-cons (λ (t : Touch). image t.id.0 ≡ false) (part dst dst_at size transfer_write) [] b (All-nil (λ (t : Touch). image t.id.0 ≡ false)))) has
