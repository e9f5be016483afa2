-- Places outside the rectangle that an operation on an image writes.
use Rattle.std.proofs.Common.{◌≡◌, ℕ, suc, ◌+◌, List, refl, ◌∙◌, ap, inl, inr}
use Rattle.std.specs.Prelude.{◌⊎◌, ℤ, pos, negsuc, Option, Some, None, nat_lt}
use Rattle.std.proofs.lemmas.Bool.{le-ltb, cond-false}
use Rattle.vk_types.specs.declared.handles.Kind.{Kind}
use Rattle.vk_types.specs.declared.handles.HandleId.{HandleId}
use Rattle.vk_types.specs.declared.regions.Rect.{Rect}
use Rattle.vk_types.specs.declared.regions.Coords.{Coords}
use Rattle.vk_types.specs.declared.ops.Op.TheVariants.{ClearImage, CopyImage, BlitImage, BufferToImage}
use Rattle.vk_model.specs.Cells.{Contents, place, ahead, column_at, row_at, byte_at, behind, at_both, in_rect, nearest_texel}
use Rattle.vk_model.specs.Log.{Command}
use Rattle.vk_model.specs.Meaning.{apply}
use Rattle.vk_model.proofs.Images.{behind_out}
use Rattle.std.specs.Prelude.{slice_index}
use Rattle.vk_effects.specs.Places.{IsBeside, IsOutside}
use Rattle.vk_effects.proofs.Unwritten.{others_stay, unchanged}

behind_beside : (a : ℤ) (n x : ℕ) → IsBeside a n x → behind a n x ≡ None
behind_beside (pos a) n x beside = behind_out a n x beside
behind_beside (negsuc a) n x past = cond-false (nat_lt (x + suc a) n) (Some (x + suc a)) None (le-ltb (x + suc a) n past)

pub at_no_row : (o : Option ℕ) (f : ℕ → ℕ → ℕ) (old : ℕ) → at_both o None f old ≡ old
at_no_row None f old = refl
at_no_row (Some x) f old = refl

pub outside_a_rect : (kind : Kind) (rect : Rect) (i : ℕ) (f : ℕ → ℕ → ℕ) (old : ℕ) → IsOutside kind rect i → in_rect kind rect i f old ≡ old
outside_a_rect kind rect i f old (inl beside) = ap (λ x. at_both x (behind rect.y rect.h (row_at kind i)) f old) (behind_beside rect.x rect.w (column_at kind i) beside)
outside_a_rect kind rect i f old (inr above) =
    ap (λ y. at_both (behind rect.x rect.w (column_at kind i)) y f old) (behind_beside rect.y rect.h (row_at kind i) above)
    ∙ at_no_row (behind rect.x rect.w (column_at kind i)) f old

pub clear_stays : (kinds : ℕ → Kind) (q : ℕ) (image : HandleId) (rect : Rect) (texel : List ℕ) (c : Contents) (id i : ℕ) → (image.0 ≡ id → ⊥) ⊎ IsOutside (kinds image.0) rect i →
    apply kinds (Command q (record { op = ClearImage image rect texel })) c id i ≡ c id i
clear_stays kinds q image rect texel c id i (inl other) = others_stay kinds q (record { op = ClearImage image rect texel }) c id i other
clear_stays kinds q image rect texel c id i (inr out) =
    unchanged kinds (Command q (record { op = ClearImage image rect texel })) c id i
    (λ f. outside_a_rect (kinds image.0) rect i (λ _ _. slice_index texel (byte_at (kinds image.0) i)) (f id i) out)

pub copy_stays : (kinds : ℕ → Kind) (q : ℕ) (src : HandleId) (src_x src_y : ℤ) (dst : HandleId) (rect : Rect) (c : Contents) (id i : ℕ) → (dst.0 ≡ id → ⊥) ⊎ IsOutside (kinds dst.0) rect i →
    apply kinds (Command q (record { op = CopyImage src src_x src_y dst rect })) c id i ≡ c id i
copy_stays kinds q src src_x src_y dst rect c id i (inl other) = others_stay kinds q (record { op = CopyImage src src_x src_y dst rect }) c id i other
copy_stays kinds q src src_x src_y dst rect c id i (inr out) =
    unchanged kinds (Command q (record { op = CopyImage src src_x src_y dst rect })) c id i
    (λ f. outside_a_rect (kinds dst.0) rect i (λ x y. f src.0 (place (kinds src.0) (ahead src_x x) (ahead src_y y) (byte_at (kinds dst.0) i))) (f id i) out)

pub rows_stay : (kinds : ℕ → Kind) (q : ℕ) (src : HandleId) (src_at stride size : ℕ) (dst : HandleId) (rect : Rect) (c : Contents) (id i : ℕ) → (dst.0 ≡ id → ⊥) ⊎ IsOutside (kinds dst.0) rect i →
    apply kinds (Command q (record { op = BufferToImage src src_at stride size dst rect })) c id i ≡ c id i
rows_stay kinds q src src_at stride size dst rect c id i (inl other) = others_stay kinds q (record { op = BufferToImage src src_at stride size dst rect }) c id i other
rows_stay kinds q src src_at stride size dst rect c id i (inr out) =
    unchanged kinds (Command q (record { op = BufferToImage src src_at stride size dst rect })) c id i
    (λ f. outside_a_rect (kinds dst.0) rect i _ (f id i) out)

pub blit_stays : (kinds : ℕ → Kind) (q : ℕ) (src dst : HandleId) (coords : Coords) (clip : Rect) (c : Contents) (id i : ℕ) → (dst.0 ≡ id → ⊥) ⊎ IsOutside (kinds dst.0) clip i →
    apply kinds (Command q (record { op = BlitImage src dst coords clip })) c id i ≡ c id i
blit_stays kinds q src dst coords clip c id i (inl other) = others_stay kinds q (record { op = BlitImage src dst coords clip }) c id i other
blit_stays kinds q src dst coords clip c id i (inr out) =
    unchanged kinds (Command q (record { op = BlitImage src dst coords clip })) c id i
    (λ f. outside_a_rect (kinds dst.0) clip i (λ _ _. nearest_texel (kinds src.0) (kinds dst.0) (f src.0) coords i (f id i)) (f id i) out)
