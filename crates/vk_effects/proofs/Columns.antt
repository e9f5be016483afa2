-- Places of images by column, row and byte.
use Rattle.std.proofs.Common.{◌≡◌, ℕ, ◌+◌, ◌-◌, ◌*◌, ◌/◌, ◌<◌, ◌≤◌, sym, ◌∙◌, ap, subst, arith, inl, inr}
use Rattle.std.specs.Prelude.{◌⊎◌, pos}
use Rattle.std.proofs.Math.Nat.{mul_comm, mul-le-mul_right}
use Rattle.std.proofs.lemmas.Nat.{mul-add-lt, mul-le, mod_below, div-add-mod'}
use Rattle.std.proofs.lemmas.Bool.{cases_lt}
use Rattle.formats.specs.declared.format.Format.{Format}
use Rattle.formats.specs.declared.format.Format.TheVariants.{R8ui, R8i, R16ui, R16i, R32ui, R32i, Rg8ui, Rgba8ui, Rgba8i, Rgb10A2ui, Rgba32ui, Rgba32i}
use Rattle.formats.specs.Texel.{bytes_per_texel}
use Rattle.vk_types.specs.declared.handles.Kind.{Kind}
use Rattle.vk_types.specs.declared.handles.Kind.TheVariants.{Buffer, Image}
use Rattle.vk_types.specs.declared.regions.Rect.{Rect}
use Rattle.vk_types.specs.Touches.{the_end}
use Rattle.vk_model.specs.Texels.{texel_bytes, format_at}
use Rattle.vk_model.specs.Fitting.{size_of, IsKind, LiesInside}
use Rattle.vk_model.specs.Cells.{place, column_at, row_at, byte_at, width_of, height_of, texel_size, format_of}
use Rattle.vk_effects.specs.Places.{IsBeside, IsOutside, IsInside, IsTexel}

-- Sizes

pub size_is : (kind : Kind) → size_of kind ≡ height_of kind * width_of kind * texel_size kind
size_is (Buffer size) = omega arith
size_is (Image format width height) = ap (λ n. n * texel_bytes format) (mul_comm width height)

pub record HasBytes (format : Format) : Type 0 where
  pub some : 0 < bytes_per_texel format
  pub few : bytes_per_texel format ≤ 16

pub has_bytes : (format : Format) → HasBytes format
has_bytes R8ui = record { some = omega arith; few = omega arith }
has_bytes R8i = record { some = omega arith; few = omega arith }
has_bytes R16ui = record { some = omega arith; few = omega arith }
has_bytes R16i = record { some = omega arith; few = omega arith }
has_bytes R32ui = record { some = omega arith; few = omega arith }
has_bytes R32i = record { some = omega arith; few = omega arith }
has_bytes Rg8ui = record { some = omega arith; few = omega arith }
has_bytes Rgba8ui = record { some = omega arith; few = omega arith }
has_bytes Rgba8i = record { some = omega arith; few = omega arith }
has_bytes Rgb10A2ui = record { some = omega arith; few = omega arith }
has_bytes Rgba32ui = record { some = omega arith; few = omega arith }
has_bytes Rgba32i = record { some = omega arith; few = omega arith }

pub some_bytes : (kind : Kind) → 0 < texel_size kind
some_bytes kind = let h : HasBytes (format_at (format_of kind)) = has_bytes (format_at (format_of kind)) in h.some

pub images_end : (format width height : ℕ) → IsKind (Image format width height) → size_of (Image format width height) ≤ the_end
images_end format width height is =
    let h : HasBytes (format_at format) = has_bytes (format_at format) in
    let area : width * height ≤ 2048 * 2048 = mul-le width height 2048 2048 is.2 is.4 in
    let all : width * height * texel_bytes format ≤ 2048 * 2048 * 16 = mul-le (width * height) (texel_bytes format) (2048 * 2048) 16 area h.few in
    omega (arith, all)

-- Places

pub place_of : (kind : Kind) (i : ℕ) → place kind (column_at kind i) (row_at kind i) (byte_at kind i) ≡ i
place_of kind i =
    ap (λ n. n * texel_size kind + byte_at kind i) (div-add-mod' (i / texel_size kind) (width_of kind))
    ∙ div-add-mod' i (texel_size kind)

product_turned : (h w t : ℕ) → t * (w * h) ≡ h * w * t
product_turned h w t = mul_comm t (w * h) ∙ ap (λ n. n * t) (mul_comm w h)

pub before_its_end : (kind : Kind) (x y byte : ℕ) → x < width_of kind → y < height_of kind → byte < texel_size kind → place kind x y byte < size_of kind
before_its_end kind x y byte column row in_texel =
    let in_area : y * width_of kind + x < width_of kind * height_of kind = mul-add-lt y (width_of kind) x (height_of kind) row column in
    let in_all : place kind x y byte < texel_size kind * (width_of kind * height_of kind) = mul-add-lt (y * width_of kind + x) (texel_size kind) byte (width_of kind * height_of kind) in_area in_texel in
    subst (λ n. place kind x y byte < n) (product_turned (height_of kind) (width_of kind) (texel_size kind) ∙ sym (size_is kind)) in_all

pub texel_before_its_end : (kind : Kind) (x y byte : ℕ) → IsTexel kind x y → byte < texel_size kind → place kind x y byte < size_of kind
texel_before_its_end kind x y byte texel in_texel = before_its_end kind x y byte texel.column texel.row in_texel

pub past_its_end : (kind : Kind) (x y byte : ℕ) → height_of kind ≤ y → size_of kind ≤ place kind x y byte
past_its_end kind x y byte below =
    let rows : height_of kind * width_of kind ≤ y * width_of kind = mul-le-mul_right (width_of kind) below in
    let more : height_of kind * width_of kind ≤ y * width_of kind + x = omega (arith, rows) in
    let bytes : height_of kind * width_of kind * texel_size kind ≤ (y * width_of kind + x) * texel_size kind = mul-le-mul_right (texel_size kind) more in
    subst (λ n. n ≤ place kind x y byte) (sym (size_is kind)) (omega (arith, bytes))

-- Inside or outside

-- a number that is one of the n from a on, or beside them
record IsAmong (a n x : ℕ) : Type 0 where
  behind : ℕ
  is : x ≡ a + behind
  below : behind < n

among_or_beside : (a n x : ℕ) → IsAmong a n x ⊎ IsBeside (pos a) n x
among_or_beside a n x = go (cases_lt x a) (cases_lt x (a + n))
  where
    go : (x < a) ⊎ (a ≤ x) → (x < a + n) ⊎ (a + n ≤ x) → IsAmong a n x ⊎ IsBeside (pos a) n x
    go (inl before) rest = inr (inl before)
    go (inr from) (inl below) = inl (record { behind = x - a; is = omega (arith, from); below = omega (arith, from, below) })
    go (inr from) (inr past) = inr (inr past)

pub inside_or_outside : (kind : Kind) (rect : Rect) (i : ℕ) → i < the_end → 0 < width_of kind → LiesInside rect (width_of kind) (height_of kind) → IsInside kind rect i ⊎ IsOutside kind rect i
inside_or_outside kind rect i before some lies = go (among_or_beside lies.left rect.w (column_at kind i)) (among_or_beside lies.top rect.h (row_at kind i))
  where
    go : IsAmong lies.left rect.w (column_at kind i) ⊎ IsBeside (pos lies.left) rect.w (column_at kind i) → IsAmong lies.top rect.h (row_at kind i) ⊎ IsBeside (pos lies.top) rect.h (row_at kind i) → IsInside kind rect i ⊎ IsOutside kind rect i
    go (inr beside) rows = inr (inl (subst (λ z. IsBeside z rect.w (column_at kind i)) (sym lies.x_is) beside))
    go (inl columns) (inr above) = inr (inr (subst (λ z. IsBeside z rect.h (row_at kind i)) (sym lies.y_is) above))
    go (inl columns) (inl rows) = inl (record {
      left = columns.behind;
      top = rows.behind;
      lies = record {
        corner_x = lies.left;
        corner_y = lies.top;
        x_is = lies.x_is;
        y_is = lies.y_is;
        column = mod_below (i / texel_size kind) (width_of kind) some;
        in_texel = mod_below i (texel_size kind) (some_bytes kind);
        in_image = subst (λ n. n < the_end) (sym (place_of kind i)) before;
        from_left = columns.is;
        to_right = columns.below;
        from_top = rows.is;
        to_bottom = rows.below;
      };
      is = place_of kind i;
    })
