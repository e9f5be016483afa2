-- What an update does: it writes its object alone, cell by cell, and looks at nothing but its staging buffer.
use mathlib.Core.Path.{fun_ext}
use Rattle.std.proofs.Common.{◌≡◌, ◌≢◌, ℕ, zero, suc, ◌+◌, ◌-◌, ◌<◌, ◌≤◌, List, [], ◌∷◌, map, Bool, true, false, cond, eqb, refl, sym, ◌∙◌, ap, arith, inl, inr}
use Rattle.std.specs.Prelude.{◌⊎◌, ◌&&◌, ◌||◌, nat_lt, nat_le, min, Option, Some, slice_get}
use Rattle.std.specs.List.{list_any}
use Rattle.std.proofs.lemmas.Bool.{or_cases, or_from, and_parts, and_left, and_right, and_cases, eqb-true, ne_eqb, leb-true, ltb-true, leb-false, ltb-false, lt-leb, le-ltb}
use Rattle.cells.specs.Contents.{UNDEFINED}
use Rattle.vk_types.specs.declared.handles.HandleId.{HandleId}
use Rattle.vk_types.specs.declared.handles.Kind.{Kind}
use Rattle.vk_types.specs.declared.ops.Op.{Op}
use Rattle.vk_types.specs.declared.ops.Op.TheVariants.{CopyBuffer, BufferToImage, ImageToBuffer, CopyImage, BlitImage, ClearImage, FillBuffer, PassPart}
use Rattle.vk_types.specs.declared.ops.Node.{Node}
use Rattle.vk_types.specs.Touches.{op_touches, the_end}
use Rattle.vk_model.specs.Cells.{Contents, buffer_to_image, clear_image}
use Rattle.vk_model.specs.Log.{Item, Command, commands, Range}
use Rattle.vk_model.specs.Meaning.{covers, is_touched, is_written, found, apply, after_all}
use Rattle.vk_model.proofs.Local.{after_unwritten}
use Rattle.vk_model.proofs.Copies.{copy_inside, copy_outside}
use Rattle.front_model.specs.Face.{Waiting, IsUpdate}
use Rattle.front_model.specs.Steps.{without_place}

-- Ranges

abbrev pub in_part : ℕ → ℕ → ℕ → Bool
in_part at size i = nat_le at i && nat_lt i (at + size)

pub inside_part : (at size i : ℕ) → in_part at size i ≡ true → (at ≤ i) × (i < at + size)
inside_part at size i e = let parts = and_parts (nat_le at i) (nat_lt i (at + size)) e in (leb-true at i parts.0, ltb-true i (at + size) parts.1)

pub outside_part : (at size i : ℕ) → in_part at size i ≡ false → (i < at) ⊎ (at + size ≤ i)
outside_part at size i e = elim (and_cases (nat_le at i) (nat_lt i (at + size)) e) [ inl f ↦ inl (leb-false at i f) | inr f ↦ inr (ltb-false i (at + size) f) ]

pub other_object : (id i : ℕ) (r : Range) → r.id ≢ id → covers id i r ≡ false
other_object id i r other = and_left (eqb r.id id && nat_le r.start i) (nat_lt i r.end) (and_left (eqb r.id id) (nat_le r.start i) (ne_eqb r.id id other))

other_place : (id i : ℕ) (r : Range) → (i < r.start) ⊎ (r.end ≤ i) → covers id i r ≡ false
other_place id i r (inl before) = and_left (eqb r.id id && nat_le r.start i) (nat_lt i r.end) (and_right (eqb r.id id) (nat_le r.start i) (lt-leb r.start i before))
other_place id i r (inr behind) = and_right (eqb r.id id && nat_le r.start i) (nat_lt i r.end) (le-ltb i r.end behind)

pub only : (b : Bool) → (b || false) ≡ true → b ≡ true
only true e = refl
only false e = e

-- Copies

abbrev pub copy_node : HandleId → ℕ → HandleId → ℕ → ℕ → Node
copy_node src src_at dst dst_at size = record { op = CopyBuffer src src_at dst dst_at size }

module _ (kinds : ℕ → Kind) (src : HandleId) (src_at : ℕ) (dst : HandleId) (dst_at size : ℕ) (c : Contents) where
  -- a copy at each place of the buffer that it writes
  pub copy_cell : src_at + size ≤ the_end → dst_at + size ≤ the_end → (i : ℕ) → apply kinds (Command 0 (copy_node src src_at dst dst_at size)) c dst.0 i ≡ cond (in_part dst_at size i) (c src.0 (src_at + (i - dst_at))) (c dst.0 i)
  copy_cell src_inside dst_inside i = go (in_part dst_at size i) refl
    where
      go : (b : Bool) → in_part dst_at size i ≡ b → apply kinds (Command 0 (copy_node src src_at dst dst_at size)) c dst.0 i ≡ cond b (c src.0 (src_at + (i - dst_at))) (c dst.0 i)
      go true e =
          let at : (dst_at ≤ i) × (i < dst_at + size) = inside_part dst_at size i e in
          let back : dst_at + (i - dst_at) ≡ i = omega (arith, at.0) in
          ap (apply kinds (Command 0 (copy_node src src_at dst dst_at size)) c dst.0) (sym back)
          ∙ copy_inside kinds 0 src src_at dst dst_at size c src_inside dst_inside (i - dst_at) (omega (arith, at.0, at.1))
      go false e = copy_outside kinds 0 src src_at dst dst_at size c src_inside dst_inside dst.0 i (inr (outside_part dst_at size i e))

  -- and elsewhere
  pub copy_leaves : (id i : ℕ) → (dst.0 ≢ id) ⊎ ((i < dst_at) ⊎ (dst_at + size ≤ i)) → apply kinds (Command 0 (copy_node src src_at dst dst_at size)) c id i ≡ c id i
  copy_leaves id i out =
      let write : Range = record { id = dst.0; start = dst_at; end = min (dst_at + size) the_end; written = true } in
      after_unwritten kinds (Command 0 (copy_node src src_at dst dst_at size)) c id i (or_from (covers id i write) false (far write refl refl refl out) refl)
    where
      far : (r : Range) → r.id ≡ dst.0 → r.start ≡ dst_at → r.end ≡ min (dst_at + size) the_end → (dst.0 ≢ id) ⊎ ((i < dst_at) ⊎ (dst_at + size ≤ i)) → covers id i r ≡ false
      far r same start stop (inl other) = other_object id i r (λ e. other (sym same ∙ e))
      far r same start stop (inr (inl before)) = other_place id i r (inl (omega (arith, start, before)))
      far r same start stop (inr (inr behind)) = other_place id i r (inr (omega (arith, stop, behind)))

-- Updates

op_touches_own : (staging : Option ℕ) (handle : ℕ) (o : Op) → IsUpdate staging handle o → (id : ℕ) → list_any (λ t. eqb t.id.0 id) (op_touches o) ≡ true → (handle ≡ id) ⊎ (staging ≡ Some id)
op_touches_own staging handle (CopyBuffer src src_at dst dst_at size) u id t = elim (or_cases (eqb src.0 id) (eqb dst.0 id || false) t) [ inl e ↦ inr (u.0 ∙ ap Some (eqb-true src.0 id e)) | inr e ↦ inl (sym u.1 ∙ eqb-true dst.0 id (only (eqb dst.0 id) e)) ]
op_touches_own staging handle (BufferToImage src src_at stride texel_size dst rect) u id t = elim (or_cases (eqb src.0 id) (eqb dst.0 id || false) t) [ inl e ↦ inr (u.0 ∙ ap Some (eqb-true src.0 id e)) | inr e ↦ inl (sym u.1 ∙ eqb-true dst.0 id (only (eqb dst.0 id) e)) ]
op_touches_own staging handle (ImageToBuffer src rect dst dst_at stride texel_size expand) u id t = absurd u
op_touches_own staging handle (CopyImage src src_x src_y dst rect) u id t = absurd u
op_touches_own staging handle (BlitImage src dst coords clip) u id t = absurd u
op_touches_own staging handle (ClearImage image rect texel) u id t = inl (sym u.1 ∙ eqb-true image.0 id (only (eqb image.0 id) t))
op_touches_own staging handle (FillBuffer dst dst_at size byte) u id t = absurd u
op_touches_own staging handle (PassPart _ _ image _ _ _) u id t = absurd u
op_touches_own staging handle (Op.Barrier b) u id t = absurd u

op_writes_own : (staging : Option ℕ) (handle : ℕ) (o : Op) → IsUpdate staging handle o → (id i : ℕ) → id ≢ handle → is_written (Command 0 (record { op = o })) id i ≡ false
op_writes_own staging handle (CopyBuffer src src_at dst dst_at size) u id i other = or_from _ false (other_object id i (record { id = dst.0; start = dst_at; end = min (dst_at + size) the_end; written = true }) (λ e. other (sym e ∙ u.1))) refl
op_writes_own staging handle (BufferToImage src src_at stride texel_size dst rect) u id i other = or_from _ false (other_object id i (record { id = dst.0; start = 0; end = the_end; written = true }) (λ e. other (sym e ∙ u.1))) refl
op_writes_own staging handle (ImageToBuffer src rect dst dst_at stride texel_size expand) u id i other = absurd u
op_writes_own staging handle (CopyImage src src_x src_y dst rect) u id i other = absurd u
op_writes_own staging handle (BlitImage src dst coords clip) u id i other = absurd u
op_writes_own staging handle (ClearImage image rect texel) u id i other = or_from _ false (other_object id i (record { id = image.0; start = 0; end = the_end; written = true }) (λ e. other (sym e ∙ u.1))) refl
op_writes_own staging handle (FillBuffer dst dst_at size byte) u id i other = absurd u
op_writes_own staging handle (PassPart _ _ image _ _ _) u id i other = absurd u
op_writes_own staging handle (Op.Barrier b) u id i other = absurd u

-- an item finds the same where there is the same
found_object : (x : Item) (c d : Contents) (id : ℕ) → c id ≡ d id → found x c id ≡ found x d id
found_object x c d id e = ap {B = ℕ → ℕ} (λ (v : ℕ → ℕ) i. cond (is_touched x id i) (v i) UNDEFINED) e

found_cell : (x : Item) (c d : Contents) (id i : ℕ) → c id i ≡ d id i → found x c id i ≡ found x d id i
found_cell x c d id i e = ap (λ v. cond (is_touched x id i) v UNDEFINED) e

both : (b : Bool) (v w x y : ℕ) → v ≡ w → x ≡ y → cond b v x ≡ cond b w y
both true v w x y e f = e
both false v w x y e f = f

op_cell_alike : (kinds : ℕ → Kind) (staging : Option ℕ) (handle : ℕ) (o : Op) → IsUpdate staging handle o → (c d : Contents) → ((id : ℕ) → staging ≡ Some id → c id ≡ d id) → (i : ℕ) → c handle i ≡ d handle i →
    apply kinds (Command 0 (record { op = o })) c handle i ≡ apply kinds (Command 0 (record { op = o })) d handle i
op_cell_alike kinds staging handle (CopyBuffer src src_at dst dst_at size) u c d same i here =
    let x : Item = Command 0 (record { op = CopyBuffer src src_at dst dst_at size }) in
    both (is_written x handle i) _ _ (c handle i) (d handle i) (ap (λ (f : ℕ → ℕ). f (src_at + (i - dst_at))) (found_object x c d src.0 (same src.0 u.0))) here
op_cell_alike kinds staging handle (BufferToImage src src_at stride texel_size dst rect) u c d same i here =
    let x : Item = Command 0 (record { op = BufferToImage src src_at stride texel_size dst rect }) in
    both (is_written x handle i) _ _ (c handle i) (d handle i)
    (ap (λ f. buffer_to_image (kinds dst.0) f src_at stride texel_size rect i (found x c handle i)) (found_object x c d src.0 (same src.0 u.0))
    ∙ ap (λ v. buffer_to_image (kinds dst.0) (found x d src.0) src_at stride texel_size rect i v) (found_cell x c d handle i here)) here
op_cell_alike kinds staging handle (ImageToBuffer src rect dst dst_at stride texel_size expand) u c d same i here = absurd u
op_cell_alike kinds staging handle (CopyImage src src_x src_y dst rect) u c d same i here = absurd u
op_cell_alike kinds staging handle (BlitImage src dst coords clip) u c d same i here = absurd u
op_cell_alike kinds staging handle (ClearImage image rect texel) u c d same i here =
    let x : Item = Command 0 (record { op = ClearImage image rect texel }) in
    both (is_written x handle i) _ _ (c handle i) (d handle i) (ap (λ v. clear_image (kinds image.0) rect texel i v) (found_cell x c d handle i here)) here
op_cell_alike kinds staging handle (FillBuffer dst dst_at size byte) u c d same i here = absurd u
op_cell_alike kinds staging handle (PassPart _ _ image _ _ _) u c d same i here = absurd u
op_cell_alike kinds staging handle (Op.Barrier b) u c d same i here = absurd u

-- an update touches its object and its staging buffer
pub update_touches : (w : Waiting) (handle id : ℕ) → IsUpdate w.staging handle w.node.op → list_any (λ t. eqb t.id.0 id) (op_touches w.node.op) ≡ true → (handle ≡ id) ⊎ (w.staging ≡ Some id)
update_touches w handle id u t = op_touches_own w.staging handle w.node.op u id t

-- it leaves all other objects
pub update_leaves : (kinds : ℕ → Kind) (w : Waiting) (handle : ℕ) → IsUpdate w.staging handle w.node.op → (c : Contents) (id : ℕ) → id ≢ handle → apply kinds (Command 0 w.node) c id ≡ c id
update_leaves kinds w handle u c id other = fun_ext (λ i. after_unwritten kinds (Command 0 w.node) c id i (op_writes_own w.staging handle w.node.op u id i other))

-- a cell that it leaves in its object depends on that cell and on the staging buffer
pub update_cell : (kinds : ℕ → Kind) (w : Waiting) (handle : ℕ) → IsUpdate w.staging handle w.node.op → (c d : Contents) → ((id : ℕ) → w.staging ≡ Some id → c id ≡ d id) → (i : ℕ) → c handle i ≡ d handle i →
    apply kinds (Command 0 w.node) c handle i ≡ apply kinds (Command 0 w.node) d handle i
update_cell kinds w handle u c d same i here = op_cell_alike kinds w.staging handle w.node.op u c d same i here

-- Lists of updates

abbrev pub nodes_of : List Waiting → List Node
nodes_of ws = map (λ w. w.node) ws

-- an update of the object from a staging buffer that is another one
pub record Updates (handle : ℕ) (w : Waiting) : Type 0 where
  pub update : IsUpdate w.staging handle w.node.op
  pub other : (id : ℕ) → w.staging ≡ Some id → id ≢ handle

module _ (kinds : ℕ → Kind) (handle i : ℕ) where
  -- a cell that differs nowhere but there shows in no other
  cell_later : (ws : List Waiting) → ((place : ℕ) (w : Waiting) → slice_get ws place ≡ Some w → Updates handle w) → (c d : Contents) → ((id : ℕ) → id ≢ handle → c id ≡ d id) → c handle i ≡ d handle i →
      after_all kinds (commands 0 (nodes_of ws)) c handle i ≡ after_all kinds (commands 0 (nodes_of ws)) d handle i
  cell_later [] each c d alike here = here
  cell_later (w ∷ ws) each c d alike here =
      let u : Updates handle w = each 0 w refl in
      cell_later ws (λ place v at. each (suc place) v at) (apply kinds (Command 0 w.node) c) (apply kinds (Command 0 w.node) d)
      (λ id other. update_leaves kinds w handle u.update c id other ∙ alike id other ∙ sym (update_leaves kinds w handle u.update d id other))
      (update_cell kinds w handle u.update c d (λ id is. alike id (u.other id is)) i here)

  -- so an update that does not write the cell may be left out
  pub left_out : (ws : List Waiting) → ((place : ℕ) (w : Waiting) → slice_get ws place ≡ Some w → Updates handle w) → (place : ℕ) (w : Waiting) → slice_get ws place ≡ Some w → ((c : Contents) → apply kinds (Command 0 w.node) c handle i ≡ c handle i) → (c : Contents) →
      after_all kinds (commands 0 (nodes_of (without_place place ws))) c handle i ≡ after_all kinds (commands 0 (nodes_of ws)) c handle i
  left_out [] each place w at leaves c = cc
  left_out (v ∷ ws) each zero w at leaves c =
      let same : v ≡ w = cc in
      let u : Updates handle v = each 0 v refl in
      cell_later ws (λ place v at. each (suc place) v at) c (apply kinds (Command 0 v.node) c)
      (λ id other. sym (update_leaves kinds v handle u.update c id other))
      (sym (ap (λ (x : Waiting). apply kinds (Command 0 x.node) c handle i) same ∙ leaves c))
  left_out (v ∷ ws) each (suc place) w at leaves c = left_out ws (λ place v at. each (suc place) v at) place w at leaves (apply kinds (Command 0 v.node) c)
