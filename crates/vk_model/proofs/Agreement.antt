-- Contents that agree before an item agree after it.
use Rattle.std.proofs.Common.{◌≡◌, ℕ, zero, suc, ◌+◌, ◌-◌, ◌<◌, List, [], ◌∷◌, map, Bool, true, false, cond, refl, sym, ◌∙◌, ap, subst, arith, inl, inr}
use Rattle.std.specs.Prelude.{◌&&◌, ◌⊎◌, nat_lt, nat_le, length, Option, Some, None, slice_index}
use Rattle.std.proofs.lemmas.Bool.{cases_Bool, and_parts, ltb-true, cond-false}
use Rattle.vk_types.specs.declared.handles.Kind.{Kind}
use Rattle.vk_types.specs.declared.regions.Clear.{Clear}
use Rattle.vk_types.specs.declared.ops.Load.{Load}
use Rattle.vk_types.specs.declared.ops.Load.TheVariants.{DontCare}
use Rattle.vk_types.specs.declared.ops.Op.{Op}
use Rattle.vk_types.specs.declared.ops.Op.TheVariants.{CopyBuffer, BufferToImage, ImageToBuffer, CopyImage, BlitImage, ClearImage, FillBuffer, PassPart}
use Rattle.cells.specs.Contents.{UNDEFINED, cells}
use Rattle.std.specs.List.{range_with_len}
use Rattle.vk_model.specs.Cells.{Contents, at_both, behind, column_at, row_at, byte_at, place, all_defined, converted, texel_to_buffer, clear_image, loaded, cleared, discards, op_cell, format_of, width_of, height_of, texel_size, source_of, nearest_texel}
use Rattle.vk_model.specs.Fitting.{size_of}
use Rattle.vk_model.specs.Texels.{expanded_texel, converted_texel}
use Rattle.vk_types.specs.declared.regions.Coords.{Coords}
use Rattle.vk_model.specs.Log.{Item, Command, HostWrite, Wait, Signal}
use Rattle.vk_model.specs.Meaning.{is_touched, is_written, found, item_cell, apply, ContentsAgree}

-- a cell that is the same as another where that one is defined
abbrev pub Same : ℕ → ℕ → Type 0
Same a b = b < 256 → a ≡ b

same_cond : (t : Bool) (a b a' b' : ℕ) → Same a a' → Same b b' → Same (cond t a b) (cond t a' b')
same_cond true a b a' b' one other = one
same_cond false a b a' b' one other = other

same_at_both : (x y : Option ℕ) (f g : ℕ → ℕ → ℕ) (a b : ℕ) → ((x y : ℕ) → Same (f x y) (g x y)) → Same a b → Same (at_both x y f a) (at_both x y g b)
same_at_both None y f g a b one other = other
same_at_both (Some x) None f g a b one other = other
same_at_both (Some x) (Some y) f g a b one other = one x y

-- where all cells of the one texel are defined the other is the same
same_texel : (c d : ℕ → ℕ) (a n : ℕ) → ((b : ℕ) → Same (c b) (d b)) → all_defined (map d (range_with_len a n)) ≡ true → map c (range_with_len a n) ≡ map d (range_with_len a n)
same_texel c d a zero same e = refl
same_texel c d a (suc n) same e =
    let parts = and_parts (nat_lt (d a) UNDEFINED) (all_defined (map d (range_with_len (a + 1) n))) e in
    let here : c a ≡ d a = same a (ltb-true (d a) 256 parts.0) in
    let rest : map c (range_with_len (a + 1) n) ≡ map d (range_with_len (a + 1) n) = same_texel c d (a + 1) n same parts.1 in
    ap (λ x. x ∷ map c (range_with_len (a + 1) n)) here ∙ ap (λ xs. d a ∷ xs) rest

same_converted : (f : List ℕ → List ℕ) (c d : ℕ → ℕ) (size byte : ℕ) → ((b : ℕ) → Same (c b) (d b)) → Same (converted f c size byte) (converted f d size byte)
same_converted f c d size byte same = go (cases_Bool (all_defined (cells size d)))
  where
    go : (all_defined (cells size d) ≡ true) ⊎ (all_defined (cells size d) ≡ false) → Same (converted f c size byte) (converted f d size byte)
    go (inl e) below =
        let texels : cells size c ≡ cells size d = same_texel c d 0 size same e in
        ap (λ t. cond (all_defined t) (slice_index (f t) byte) UNDEFINED) texels
    go (inr e) below = absurd (omega (arith, subst (λ x. x < 256) (cond-false (all_defined (cells size d)) (slice_index (f (cells size d)) byte) UNDEFINED e) below))

same_cleared : (kind : Kind) (clears : List Clear) (i a b : ℕ) → Same a b → Same (cleared kind clears i a) (cleared kind clears i b)
same_cleared kind [] i a b same = same
same_cleared kind (clear ∷ clears) i a b same =
    same_cleared kind clears i (clear_image kind clear.rect clear.texel i a) (clear_image kind clear.rect clear.texel i b)
    (same_at_both (behind clear.rect.x clear.rect.w (column_at kind i)) (behind clear.rect.y clear.rect.h (row_at kind i)) (λ x y. slice_index clear.texel (byte_at kind i)) (λ x y. slice_index clear.texel (byte_at kind i)) a b (λ x y below. refl) same)

same_loaded : (kind : Kind) (load' : Load) (i a b : ℕ) → Same a b → Same (loaded kind load' i a) (loaded kind load' i b)
same_loaded kind Load.Load i a b same = same
same_loaded kind (Load.Clear texel) i a b same = same_cond (nat_lt i (size_of kind)) (slice_index texel (byte_at kind i)) a (slice_index texel (byte_at kind i)) b (λ below. refl) same
same_loaded kind DontCare i a b same = λ below. refl

same_texel_to_buffer : (kind : Kind) (src src' : ℕ → ℕ) (expand : Bool) (x y byte : ℕ) → ((p : ℕ) → Same (src p) (src' p)) → Same (texel_to_buffer kind src expand x y byte) (texel_to_buffer kind src' expand x y byte)
same_texel_to_buffer kind src src' true x y byte same = same_converted (expanded_texel (format_of kind)) (λ b. src (place kind x y b)) (λ b. src' (place kind x y b)) (texel_size kind) byte (λ b. same (place kind x y b))
same_texel_to_buffer kind src src' false x y byte same = same (place kind x y byte)

same_nearest_texel : (from to : Kind) (src src' : ℕ → ℕ) (coords : Coords) (i a b : ℕ) → ((p : ℕ) → Same (src p) (src' p)) → Same a b → Same (nearest_texel from to src coords i a) (nearest_texel from to src' coords i b)
same_nearest_texel from to src src' coords i a b same old =
    same_at_both
    (source_of (width_of from) coords.sx0 coords.sx1 coords.dx0 coords.dx1 (column_at to i))
    (source_of (height_of from) coords.sy0 coords.sy1 coords.dy0 coords.dy1 (row_at to i))
    (λ x y. converted (converted_texel (format_of from) (format_of to)) (λ b. src (place from x y b)) (texel_size from) (byte_at to i))
    (λ x y. converted (converted_texel (format_of from) (format_of to)) (λ b. src' (place from x y b)) (texel_size from) (byte_at to i))
    a b
    (λ x y. same_converted (converted_texel (format_of from) (format_of to)) (λ b. src (place from x y b)) (λ b. src' (place from x y b)) (texel_size from) (byte_at to i) (λ b. same (place from x y b)))
    old

pub same_op_cell : (kinds : ℕ → Kind) (o : Op) (c d : Contents) → ContentsAgree c d → (id i : ℕ) → Same (op_cell kinds o c id i) (op_cell kinds o d id i)
same_op_cell kinds (CopyBuffer src src_at dst dst_at size) c d agree id i = agree src.0 _
same_op_cell kinds (BufferToImage src src_at stride size dst rect) c d agree id i = same_at_both (behind rect.x rect.w (column_at (kinds dst.0) i)) (behind rect.y rect.h (row_at (kinds dst.0) i)) _ _ _ _ (λ x y. agree src.0 _) (agree id i)
same_op_cell kinds (ImageToBuffer src rect dst dst_at stride size expand) c d agree id i = same_cond _ _ _ _ _ (same_texel_to_buffer (kinds src.0) (c src.0) (d src.0) expand _ _ _ (agree src.0)) (agree id i)
same_op_cell kinds (CopyImage src src_x src_y dst rect) c d agree id i = same_at_both (behind rect.x rect.w (column_at (kinds dst.0) i)) (behind rect.y rect.h (row_at (kinds dst.0) i)) _ _ _ _ (λ x y. agree src.0 _) (agree id i)
same_op_cell kinds (BlitImage src dst coords clip) c d agree id i = same_at_both (behind clip.x clip.w (column_at (kinds dst.0) i)) (behind clip.y clip.h (row_at (kinds dst.0) i)) _ _ _ _ (λ x y. same_nearest_texel (kinds src.0) (kinds dst.0) (c src.0) (d src.0) coords i (c id i) (d id i) (agree src.0) (agree id i)) (agree id i)
same_op_cell kinds (ClearImage image rect texel) c d agree id i = same_at_both (behind rect.x rect.w (column_at (kinds image.0) i)) (behind rect.y rect.h (row_at (kinds image.0) i)) _ _ _ _ (λ x y below. refl) (agree id i)
same_op_cell kinds (FillBuffer dst dst_at size byte) c d agree id i = λ below. refl
same_op_cell kinds (PassPart pass point image load' keep clears) c d agree id i = same_cond keep _ _ _ _ (same_cleared (kinds image.0) clears i _ _ (same_loaded (kinds image.0) load' i _ _ (agree id i))) (λ below. refl)
same_op_cell kinds (Op.Barrier b) c d agree id i = same_cond (discards b.layouts) _ _ _ _ (λ below. refl) (agree id i)

same_item_cell : (kinds : ℕ → Kind) (x : Item) (c d : Contents) → ContentsAgree c d → (id i : ℕ) → Same (item_cell kinds x c id i) (item_cell kinds x d id i)
same_item_cell kinds (Command queue n) c d agree id i = same_op_cell kinds n.op c d agree id i
same_item_cell kinds (HostWrite of start bytes) c d agree id i = same_cond (nat_le start i && nat_lt i (start + length bytes)) (slice_index bytes (i - start)) (c id i) (slice_index bytes (i - start)) (d id i) (λ below. refl) (agree id i)
same_item_cell kinds (Wait queue signal) c d agree id i = agree id i
same_item_cell kinds (Signal queue signal) c d agree id i = agree id i

pub agrees_found : (x : Item) (c d : Contents) → ContentsAgree c d → ContentsAgree (found x c) (found x d)
agrees_found x c d agree id i = same_cond (is_touched x id i) (c id i) UNDEFINED (d id i) UNDEFINED (agree id i) (λ below. refl)

-- contents that agree before an item agree after it
pub agrees_after : (kinds : ℕ → Kind) (x : Item) (c d : Contents) → ContentsAgree c d → ContentsAgree (apply kinds x c) (apply kinds x d)
agrees_after kinds x c d agree id i = same_cond (is_written x id i) _ _ _ _ (same_item_cell kinds x (found x c) (found x d) (agrees_found x c d agree) id i) (agree id i)

pub agrees_through : (b c d : Contents) → ContentsAgree b c → ContentsAgree c d → ContentsAgree b d
agrees_through b c d bc cd id i below = let same : c id i ≡ d id i = cd id i below in bc id i (subst (λ x. x < 256) (sym same) below) ∙ same
