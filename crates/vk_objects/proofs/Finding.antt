-- What a node finds of the objects that it touches.
use mathlib.Core.Path.{fun_ext}
use Rattle.std.proofs.Common.{◌≡◌, ℕ, suc, ◌+◌, ◌-◌, ◌*◌, ◌<◌, ◌≤◌, List, ◌∷◌, length, true, false, refl, sym, ◌∙◌, ap, subst, arith, lit<, inl, inr}
use Rattle.std.specs.Prelude.{◌⊎◌, ◌&&◌, ◌||◌, Option, Some, None, nat_lt, nat_le, min, ℤ, pos, negsuc}
use Rattle.std.specs.List.{list_any}
use Rattle.std.proofs.Math.Nat.{mul-le-mul_right}
use Rattle.std.proofs.lemmas.Bool.{cases_Bool, cond-true, cond-false, and_parts, leb-true, ltb-true, ltb-false, or_left}
use Rattle.std.proofs.lemmas.List.{get_or_past}
use Rattle.std.proofs.lemmas.Option.{same_Some}
use Rattle.formats.specs.declared.format.Format.{Format}
use Rattle.formats.specs.declared.format.Format.TheVariants.{R8ui, R8i, R16ui, R16i, R32ui, R32i, Rg8ui, Rgba8ui, Rgba8i, Rgb10A2ui, Rgba32ui, Rgba32i}
use Rattle.formats.specs.Texel.{bytes_per_texel}
use Rattle.cells.specs.Contents.{UNDEFINED}
use Rattle.vk_types.specs.declared.handles.Kind.{Kind}
use Rattle.vk_types.specs.declared.handles.Kind.TheVariants.{Buffer, Image}
use Rattle.vk_types.specs.declared.handles.HandleId.{HandleId}
use Rattle.vk_types.specs.declared.regions.Rect.{Rect}
use Rattle.vk_types.specs.declared.ops.Node.{Node}
use Rattle.vk_types.specs.declared.ops.Op.TheVariants.{BufferToImage}
use Rattle.vk_types.specs.Touches.{the_end, rows_size}
use Rattle.vk_model.specs.Texels.{format_at, texel_bytes}
use Rattle.vk_model.specs.Cells.{Contents, behind, at_both, column_at, row_at, byte_at, buffer_to_image}
use Rattle.vk_model.specs.Fitting.{IsImage, HasRect}
use Rattle.vk_model.specs.Log.{Item, Command, Range, ranges}
use Rattle.vk_model.specs.Meaning.{covers, is_touched, is_written, found}
use Rattle.vk_model.proofs.Local.{touched_from_written}
use Rattle.vk_model.proofs.Copies.{covered_from, found_at}
use Rattle.vk_objects.specs.declared.objects.Objects.{Objects}
use Rattle.vk_objects.specs.Objects.{bytes_of, contents_of, HasSize}
use Rattle.vk_objects.specs.Undefined.{KeepsAt}
use Rattle.vk_objects.proofs.Fits.{row_in_rows}
use Rattle.vk_objects.proofs.RowSteps.{distributes}

-- a byte that is as its cell has a cell that is defined
pub kept_exactly : (old now cell : ℕ) → now ≡ cell → KeepsAt old now cell
kept_exactly old now cell same undefined byte = let none : 256 ≤ cell = undefined in let some : now < 256 = byte in absurd (omega (arith, same, none, some))

-- what is written is found
pub written_found : (x : Item) (c : Contents) (id i : ℕ) → is_written x id i ≡ true → found x c id i ≡ c id i
written_found x c id i written = found_at x c id i (touched_from_written x id i written)

-- an object that is touched as a whole is found
pub found_whole : (old : Objects) (n : Node) (id : ℕ) → ((i : ℕ) → i < the_end → is_touched (Command 0 n) id i ≡ true) → length (bytes_of old id) ≤ the_end → found (Command 0 n) (contents_of old) id ≡ contents_of old id
found_whole old n id touched small = fun_ext (λ i. go i (cases_Bool (nat_lt i the_end)) (cases_Bool (is_touched (Command 0 n) id i)))
  where
    go : (i : ℕ) → (nat_lt i the_end ≡ true) ⊎ (nat_lt i the_end ≡ false) → (is_touched (Command 0 n) id i ≡ true) ⊎ (is_touched (Command 0 n) id i ≡ false) → found (Command 0 n) (contents_of old) id i ≡ contents_of old id i
    go i below (inl t) = found_at (Command 0 n) (contents_of old) id i t
    go i (inl below) (inr f) = found_at (Command 0 n) (contents_of old) id i (touched i (ltb-true i the_end below))
    go i (inr past) (inr f) =
        let le : the_end ≤ i = ltb-false i the_end past in
        cond-false (is_touched (Command 0 n) id i) (contents_of old id i) UNDEFINED f ∙ sym (get_or_past (bytes_of old id) i UNDEFINED (omega (arith, le, small)))

-- so is an image that a node reads before all else
pub source_found : (old : Objects) (n : Node) (id : ℕ) (rest : List Range) → ranges (Command 0 n) ≡ record { id = id; start = 0; end = the_end; written = false } ∷ rest → length (bytes_of old id) ≤ the_end → found (Command 0 n) (contents_of old) id ≡ contents_of old id
source_found old n id rest is small =
    let read : Range = record { id = id; start = 0; end = the_end; written = false } in
    found_whole old n id (λ i below. subst (λ rs. list_any (covers id i) rs ≡ true) (sym is) (or_left (covers id i read) (list_any (covers id i) rest) (covered_from id i read refl (omega arith) below))) small

-- a cell that is made of one object and of what was there is made of what is found
pub one_source : (f : (ℕ → ℕ) → ℕ → ℕ) (x : Item) (c : Contents) (src id i : ℕ) → found x c src ≡ c src → is_written x id i ≡ true → f (found x c src) (found x c id i) ≡ f (c src) (c id i)
one_source f x c src id i whole written = ap (λ s. f s (found x c id i)) whole ∙ ap (f (c src)) (written_found x c id i written)

-- Images are small.

most_bytes : (f : Format) → bytes_per_texel f < 17
most_bytes R8ui = lit< tt
most_bytes R8i = lit< tt
most_bytes R16ui = lit< tt
most_bytes R16i = lit< tt
most_bytes R32ui = lit< tt
most_bytes R32i = lit< tt
most_bytes Rg8ui = lit< tt
most_bytes Rgba8ui = lit< tt
most_bytes Rgba8i = lit< tt
most_bytes Rgb10A2ui = lit< tt
most_bytes Rgba32ui = lit< tt
most_bytes Rgba32i = lit< tt

pub image_small : (kind : Option Kind) (bytes : List ℕ) → IsImage kind → HasSize kind bytes → length bytes ≤ the_end
image_small None bytes image sized = absurd image
image_small (Some (Buffer len)) bytes image sized = absurd image
image_small (Some (Image format width height)) bytes image sized =
    let t = texel_bytes format in
    let wide : width * height ≤ 2048 * height = mul-le-mul_right height sized.0.2 in
    let high = sized.0.4 in
    let area : width * height ≤ 4194304 = omega (arith, wide, high) in
    let all : width * height * t ≤ 4194304 * t = mul-le-mul_right t area in
    let few : t < 17 = most_bytes (format_at format) in
    let size = sized.1 in
    omega (arith, all, few, size)

pub rect_is_image : (kind : Option Kind) (rect : Rect) → HasRect kind rect → IsImage kind
rect_is_image None rect has = has
rect_is_image (Some (Buffer len)) rect has = has
rect_is_image (Some (Image format width height)) rect has = tt

-- Rows of a buffer

behind_less : (z : ℤ) (n x k : ℕ) → behind z n x ≡ Some k → k < n
behind_less (pos a) n x k e = go (cases_Bool (nat_le a x && nat_lt x (a + n)))
  where
    go : ((nat_le a x && nat_lt x (a + n)) ≡ true) ⊎ ((nat_le a x && nat_lt x (a + n)) ≡ false) → k < n
    go (inl t) =
        let parts = and_parts (nat_le a x) (nat_lt x (a + n)) t in
        let is : x - a ≡ k = same_Some (x - a) k (sym (cond-true (nat_le a x && nat_lt x (a + n)) (Some (x - a)) None t) ∙ e) in
        let from = leb-true a x parts.0 in
        let below = ltb-true x (a + n) parts.1 in
        omega (arith, from, below, is)
    go (inr f) = let no : ◌≡◌ {A = Option ℕ} None (Some k) = sym (cond-false (nat_le a x && nat_lt x (a + n)) (Some (x - a)) None f) ∙ e in absurd (cc)
behind_less (negsuc a) n x k e = go (cases_Bool (nat_lt (x + suc a) n))
  where
    go : (nat_lt (x + suc a) n ≡ true) ⊎ (nat_lt (x + suc a) n ≡ false) → k < n
    go (inl t) =
        let is : x + suc a ≡ k = same_Some (x + suc a) k (sym (cond-true (nat_lt (x + suc a) n) (Some (x + suc a)) None t) ∙ e) in
        let below = ltb-true (x + suc a) n t in
        omega (arith, below, is)
    go (inr f) = let no : ◌≡◌ {A = Option ℕ} None (Some k) = sym (cond-false (nat_lt (x + suc a) n) (Some (x + suc a)) None f) ∙ e in absurd (cc)

both_found : (x y : Option ℕ) (f g : ℕ → ℕ → ℕ) (a b : ℕ) → ((i j : ℕ) → x ≡ Some i → y ≡ Some j → f i j ≡ g i j) → a ≡ b → at_both x y f a ≡ at_both x y g b
both_found None y f g a b each same = same
both_found (Some x) None f g a b each same = same
both_found (Some x) (Some y) f g a b each same = each x y refl refl

module _ (c : Contents) (kind : Kind) (src : HandleId) (src_at stride size : ℕ) (dst : HandleId) (rect : Rect) (some : 0 < rows_size rect stride size) (inside : src_at + rows_size rect stride size ≤ the_end) where
  abbrev rows_node : Node
  rows_node = record { op = BufferToImage src src_at stride size dst rect }

  row_found : (column row byte : ℕ) → column < rect.w → row < rect.h → byte < size → found (Command 0 rows_node) c src.0 (src_at + row * stride + column * size + byte) ≡ c src.0 (src_at + row * stride + column * size + byte)
  row_found column row byte in_row in_rows in_texel =
      let p : ℕ = src_at + row * stride + column * size + byte in
      let read : Range = record { id = src.0; start = src_at; end = min (src_at + rows_size rect stride size) the_end; written = false } in
      let write : Range = record { id = dst.0; start = 0; end = the_end; written = true } in
      let line = row_in_rows rect stride size some row in_rows in
      let next : (column + 1) * size ≤ rect.w * size = mul-le-mul_right size (omega (arith, in_row)) in
      let split = distributes column 1 size in
      let one : 1 * size ≡ size = omega arith in
      let below : p < src_at + rows_size rect stride size = omega (arith, line, next, split, one, in_texel) in
      let from : src_at ≤ p = omega arith in
      found_at (Command 0 rows_node) c src.0 p (or_left (covers src.0 p read) (covers src.0 p write || false) (covered_from src.0 p read refl from (omega (arith, below, inside))))

  -- rows of a buffer that become those of a rectangle are found
  pub rows_found : (i : ℕ) → byte_at kind i < size → is_written (Command 0 rows_node) dst.0 i ≡ true → buffer_to_image kind (found (Command 0 rows_node) c src.0) src_at stride size rect i (found (Command 0 rows_node) c dst.0 i) ≡ buffer_to_image kind (c src.0) src_at stride size rect i (c dst.0 i)
  rows_found i in_texel written =
      both_found (behind rect.x rect.w (column_at kind i)) (behind rect.y rect.h (row_at kind i))
      (λ x y. found (Command 0 rows_node) c src.0 (src_at + y * stride + x * size + byte_at kind i))
      (λ x y. c src.0 (src_at + y * stride + x * size + byte_at kind i))
      (found (Command 0 rows_node) c dst.0 i) (c dst.0 i)
      (λ x y ex ey. row_found x y (byte_at kind i) (behind_less rect.x rect.w (column_at kind i) x ex) (behind_less rect.y rect.h (row_at kind i) y ey) in_texel)
      (written_found (Command 0 rows_node) c dst.0 i written)
