-- What an upload leaves, and that it fits.
use Rattle.std.proofs.Common.{◌≡◌, ℕ, ◌+◌, ◌-◌, ◌*◌, ◌<◌, ◌≤◌, Bool, true, false, cond, eqb, Option, Some, None, IfSome, refl, sym, ◌∙◌, ap, subst, arith, inl, inr}
use Rattle.std.specs.Prelude.{◌⊎◌, ◌||◌, ℤ, pos, unsigned_abs}
use Rattle.std.proofs.lemmas.Bool.{or_cases, or_parts, eqb-true, eqb-false, cond-false}
use Rattle.std.proofs.lemmas.List.Elements.{All-from_recursion}
use Rattle.cells.specs.Contents.{Content, cells, cell_at, UNDEFINED}
use Rattle.formats.specs.Rows.{PixelStorage, first_row_place, row_stride, needed_length}
use Rattle.gl_model.specs.declared.objects.ImageInfo.{ImageInfo}
use Rattle.gl_model.specs.ImageEffect.{Picture, texel_bytes, after_upload}
use Rattle.vk_types.specs.declared.handles.Kind.{Kind}
use Rattle.vk_types.specs.declared.handles.Kind.TheVariants.{Buffer}
use Rattle.vk_types.specs.declared.handles.HandleId.{HandleId}
use Rattle.vk_types.specs.declared.regions.Rect.{Rect}
use Rattle.vk_types.specs.declared.ops.Op.TheVariants.{BufferToImage}
use Rattle.vk_types.specs.declared.ops.Node.{Node}
use Rattle.vk_types.specs.declared.regions.Touch.{Touch}
use Rattle.vk_types.specs.Touches.{the_end, rows_size, touches}
use Rattle.vk_model.specs.Fitting.{LiesInside, NodeFits, HasRange, HasRect, HasTexels}
use Rattle.vk_model.specs.Cells.{Contents, place}
use Rattle.vk_model.specs.Log.{NoneEmpty}
use Rattle.vk_model.specs.Meaning.{LiesIn}
use Rattle.vk_effects.specs.Places.{IsBeside}
use Rattle.vk_effects.specs.Rows.{row_place, IsByteOf}
use Rattle.vk_effects.proofs.Outside.{rows_stay}
use Rattle.vk_effects.proofs.RowsDown.{comes_up, in_the_range}
use Rattle.vk_effects.proofs.Unwritten.{others_stay}
use Rattle.transfer.specs.Shown.{store_kind, place_in, Shows, ShowsRange, IsShown, after_node}
use Rattle.transfer.specs.Uploads.{upload_of}
use Rattle.transfer.proofs.Places.{place_is, lies_in, lies_outside, size_is, some_bytes, cell_at-cells}
use Rattle.transfer.proofs.Painting.{IsAmong, SeesRect, painted_rect_shows}

-- a corner that is not below 0
pub corner_is : (z : ℤ) (n : ℕ) → z ≡ pos n → z ≡ pos (unsigned_abs z)
corner_is z n is = is ∙ ap pos (sym (ap unsigned_abs is))

-- with some texels, rows need their place and their size
pub needed_is : (store : PixelStorage) (size : ℕ) (rect : Rect) (stride : ℕ) → stride ≡ row_stride store size rect.w → (eqb rect.w 0 || eqb rect.h 0) ≡ false → needed_length store size rect.w rect.h ≡ first_row_place store size rect.w + rows_size rect stride size
needed_is store size rect stride same some =
    let needed : needed_length store size rect.w rect.h ≡ first_row_place store size rect.w + (rect.h - 1) * row_stride store size rect.w + rect.w * size =
    cond-false (eqb rect.w 0 || eqb rect.h 0) 0 (first_row_place store size rect.w + (rect.h - 1) * row_stride store size rect.w + rect.w * size) some in
    let rows : rows_size rect stride size ≡ (rect.h - 1) * stride + rect.w * size = cond-false (eqb rect.w 0 || eqb rect.h 0) 0 ((rect.h - 1) * stride + rect.w * size) some in
    let strides : (rect.h - 1) * stride ≡ (rect.h - 1) * row_stride store size rect.w = ap (λ n. (rect.h - 1) * n) same in
    omega (arith, needed, rows, strides)

-- no texel lies in a rectangle without one
none_among : (rect : Rect) (x0 y0 x y : ℕ) → (eqb rect.w 0 || eqb rect.h 0) ≡ true → IsAmong x0 rect.w x → IsAmong y0 rect.h y → ⊥
none_among rect x0 y0 x y empty left top = elim (or_cases (eqb rect.w 0) (eqb rect.h 0) empty) [
  | inl narrow ↦ let none = eqb-true rect.w 0 narrow in let below = left.below in omega (arith, none, below)
  | inr low ↦ let none = eqb-true rect.h 0 low in let below = top.below in omega (arith, none, below)
]

module _ (kinds : ℕ → Kind) (q : ℕ) (c : Contents) (src image : HandleId) (at : ℕ) (store : PixelStorage) (old : Picture) (rect : Rect) (source : Content) (base : ℕ)
    (shown : IsShown kinds c image.0 old) (lies : LiesInside rect old.info.width old.info.height) (ends : at + needed_length store (texel_bytes old.info) rect.w rect.h ≤ the_end)
    (right : ShowsRange (c src.0) at source base (needed_length store (texel_bytes old.info) rect.w rect.h)) where
  abbrev first : ℕ
  first = first_row_place store (texel_bytes old.info) rect.w

  abbrev stride : ℕ
  stride = row_stride store (texel_bytes old.info) rect.w

  abbrev node : Node
  node = record { op = BufferToImage src (at + first) stride (texel_bytes old.info) image rect }

  abbrev texel : ℕ → ℕ → Content
  texel x y = cells (texel_bytes old.info) (λ b. cell_at source (base + first + (y - unsigned_abs rect.y) * stride + (x - unsigned_abs rect.x) * texel_bytes old.info + b))

  same_place : (x y byte : ℕ) → place (kinds image.0) x y byte ≡ place_in old.info x y byte
  same_place x y byte = ap (λ k. place k x y byte) shown.kind ∙ place_is old.info x y byte

  x_is : rect.x ≡ pos (unsigned_abs rect.x)
  x_is = corner_is rect.x lies.left lies.x_is

  y_is : rect.y ≡ pos (unsigned_abs rect.y)
  y_is = corner_is rect.y lies.top lies.y_is

  uploaded : (x y byte : ℕ) → (eqb rect.w 0 || eqb rect.h 0) ≡ false → x < old.info.width → y < old.info.height → byte < texel_bytes old.info → IsAmong (unsigned_abs rect.x) rect.w x → IsAmong (unsigned_abs rect.y) rect.h y →
      cell_at (texel x y) byte < UNDEFINED → after_node kinds q (Some node) c image.0 (place_in old.info x y byte) ≡ cell_at (texel x y) byte
  uploaded x y byte some column row in_texel among_x among_y defined =
      let left : ℕ = x - unsigned_abs rect.x in
      let top : ℕ = y - unsigned_abs rect.y in
      let k : ℕ = first + (y - unsigned_abs rect.y) * stride + (x - unsigned_abs rect.x) * texel_bytes old.info + byte in
      let in_rect : LiesIn (kinds image.0) rect x y byte (x - unsigned_abs rect.x) (y - unsigned_abs rect.y) =
      lies_in (kinds image.0) old.info rect (unsigned_abs rect.x) (unsigned_abs rect.y) x y byte (x - unsigned_abs rect.x) (y - unsigned_abs rect.y) shown.kind shown.storable x_is y_is column row in_texel among_x.is among_x.below among_y.is among_y.below in
      let is_byte : IsByteOf rect (texel_bytes old.info) (x - unsigned_abs rect.x) (y - unsigned_abs rect.y) byte = record { column = among_x.below; row = among_y.below; in_texel = in_texel } in
      let all : needed_length store (texel_bytes old.info) rect.w rect.h ≡ first + rows_size rect stride (texel_bytes old.info) = needed_is store (texel_bytes old.info) rect stride refl some in
      let below : row_place (at + first) stride (texel_bytes old.info) (x - unsigned_abs rect.x) (y - unsigned_abs rect.y) byte < at + first + rows_size rect stride (texel_bytes old.info) =
      in_the_range rect (at + first) stride (texel_bytes old.info) (x - unsigned_abs rect.x) (y - unsigned_abs rect.y) byte is_byte in
      let in_needed : first + (y - unsigned_abs rect.y) * stride + (x - unsigned_abs rect.x) * texel_bytes old.info + byte < needed_length store (texel_bytes old.info) rect.w rect.h = omega (arith, all, below) in
      let cell : cell_at (texel x y) byte ≡ cell_at source (base + first + (y - unsigned_abs rect.y) * stride + (x - unsigned_abs rect.x) * texel_bytes old.info + byte) = cell_at-cells (texel_bytes old.info) _ byte in_texel in
      let moved : base + first + (y - unsigned_abs rect.y) * stride + (x - unsigned_abs rect.x) * texel_bytes old.info + byte ≡ base + (first + (y - unsigned_abs rect.y) * stride + (x - unsigned_abs rect.x) * texel_bytes old.info + byte) = omega arith in
      let moved_here : row_place (at + first) stride (texel_bytes old.info) (x - unsigned_abs rect.x) (y - unsigned_abs rect.y) byte ≡ at + (first + (y - unsigned_abs rect.y) * stride + (x - unsigned_abs rect.x) * texel_bytes old.info + byte) = omega arith in
      let is : cell_at (texel x y) byte ≡ cell_at source (base + (first + (y - unsigned_abs rect.y) * stride + (x - unsigned_abs rect.x) * texel_bytes old.info + byte)) = cell ∙ ap (cell_at source) moved in
      ap (after_node kinds q (Some node) c image.0) (sym (same_place x y byte))
      ∙ comes_up kinds q src (at + first) stride (texel_bytes old.info) image rect c x y byte (x - unsigned_abs rect.x) (y - unsigned_abs rect.y) in_rect (record { in_texel = in_texel; ends = omega (arith, all, ends) })
      ∙ ap (c src.0) moved_here
      ∙ right (first + (y - unsigned_abs rect.y) * stride + (x - unsigned_abs rect.x) * texel_bytes old.info + byte) in_needed (omega (arith, is, defined))
      ∙ sym is

  stays : (x y byte : ℕ) → x < old.info.width → byte < texel_bytes old.info → ((x < unsigned_abs rect.x) ⊎ (unsigned_abs rect.x + rect.w ≤ x)) ⊎ ((y < unsigned_abs rect.y) ⊎ (unsigned_abs rect.y + rect.h ≤ y)) →
      after_node kinds q (Some node) c image.0 (place_in old.info x y byte) ≡ c image.0 (place_in old.info x y byte)
  stays x y byte column in_texel out =
      ap (after_node kinds q (Some node) c image.0) (sym (same_place x y byte))
      ∙ rows_stay kinds q src (at + first) stride (texel_bytes old.info) image rect c image.0 (place (kinds image.0) x y byte) (inr (lies_outside (kinds image.0) old.info rect x y byte shown.kind column in_texel (beside out)))
      ∙ ap (c image.0) (same_place x y byte)
    where
      beside : ((x < unsigned_abs rect.x) ⊎ (unsigned_abs rect.x + rect.w ≤ x)) ⊎ ((y < unsigned_abs rect.y) ⊎ (unsigned_abs rect.y + rect.h ≤ y)) → IsBeside rect.x rect.w x ⊎ IsBeside rect.y rect.h y
      beside (inl columns) = inl (subst (λ z. IsBeside z rect.w x) (sym x_is) columns)
      beside (inr rows) = inr (subst (λ z. IsBeside z rect.h y) (sym y_is) rows)

  sees : (t : Bool) → (eqb rect.w 0 || eqb rect.h 0) ≡ t → SeesRect old (unsigned_abs rect.x) (unsigned_abs rect.y) rect.w rect.h texel (after_node kinds q (cond t None (Some node)) c image.0) (c image.0) shown.shows
  sees true empty = record {
    inside = λ x y byte column row in_texel left top defined. absurd (none_among rect (unsigned_abs rect.x) (unsigned_abs rect.y) x y empty left top);
    outside = λ x y byte column row in_texel out. refl;
  }
  sees false some = record {
    inside = λ x y byte column row in_texel left top defined. uploaded x y byte some column row in_texel left top defined;
    outside = λ x y byte column row in_texel out. stays x y byte column in_texel out;
  }

  pub upload_shows : Shows (after_node kinds q (upload_of src at store old.info image rect) c image.0) (after_upload old (unsigned_abs rect.x) (unsigned_abs rect.y) rect.w rect.h store source base)
  upload_shows =
      painted_rect_shows old (unsigned_abs rect.x) (unsigned_abs rect.y) rect.w rect.h texel (after_node kinds q (upload_of src at store old.info image rect) c image.0) (c image.0) shown.shows
      (sees (eqb rect.w 0 || eqb rect.h 0) refl)

-- all else

pub others_after_upload : (kinds : ℕ → Kind) (q : ℕ) (c : Contents) (src image : HandleId) (at : ℕ) (store : PixelStorage) (info : ImageInfo) (rect : Rect) (id i : ℕ) → (image.0 ≡ id → ⊥) → after_node kinds q (upload_of src at store info image rect) c id i ≡ c id i
others_after_upload kinds q c src image at store info rect id i other = go (eqb rect.w 0 || eqb rect.h 0)
  where
    node : Node
    node = record { op = BufferToImage src (at + first_row_place store (texel_bytes info) rect.w) (row_stride store (texel_bytes info) rect.w) (texel_bytes info) image rect }

    go : (t : Bool) → after_node kinds q (cond t None (Some (record { op = BufferToImage src (at + first_row_place store (texel_bytes info) rect.w) (row_stride store (texel_bytes info) rect.w) (texel_bytes info) image rect }))) c id i ≡ c id i
    go true = refl
    go false = others_stay kinds q (record { op = BufferToImage src (at + first_row_place store (texel_bytes info) rect.w) (row_stride store (texel_bytes info) rect.w) (texel_bytes info) image rect }) c id i other

-- Fitting

pub some_rows : (rect : Rect) (stride size : ℕ) → 0 < size → (eqb rect.w 0 || eqb rect.h 0) ≡ false → 0 < rows_size rect stride size
some_rows rect stride size some_bytes some =
    let parts = or_parts (eqb rect.w 0) (eqb rect.h 0) some in
    let wide = eqb-false rect.w 0 parts.0 in
    let high = eqb-false rect.h 0 parts.1 in
    let is : IsByteOf rect size 0 0 0 = record { column = omega (arith, wide); row = omega (arith, high); in_texel = some_bytes } in
    let inside = in_the_range rect 0 stride size 0 0 0 is in
    omega (arith, inside)

module _ (src image : HandleId) (at : ℕ) (store : PixelStorage) (info : ImageInfo) (rect : Rect) where
  abbrev rows : Node
  rows = record { op = BufferToImage src (at + first_row_place store (texel_bytes info) rect.w) (row_stride store (texel_bytes info) rect.w) (texel_bytes info) image rect }

  pub upload_fits : (kinds : ℕ → Option Kind) (len : ℕ) → kinds src.0 ≡ Some (Buffer len) → kinds image.0 ≡ Some (store_kind info) → LiesInside rect info.width info.height → at + needed_length store (texel_bytes info) rect.w rect.h ≤ len → IfSome (upload_of src at store info image rect) (NodeFits kinds)
  upload_fits kinds len buffer stored lies ends = go (eqb rect.w 0 || eqb rect.h 0) refl
    where
      go : (t : Bool) → (eqb rect.w 0 || eqb rect.h 0) ≡ t → IfSome (cond t None (Some rows)) (NodeFits kinds)
      go true empty = tt
      go false some =
          let all = needed_is store (texel_bytes info) rect (row_stride store (texel_bytes info) rect.w) refl some in
          let size : ℕ = rows_size rect (row_stride store (texel_bytes info) rect.w) (texel_bytes info) in
          let start : ℕ = at + first_row_place store (texel_bytes info) rect.w in (
            subst (λ k. HasRange k (at + first_row_place store (texel_bytes info) rect.w) (rows_size rect (row_stride store (texel_bytes info) rect.w) (texel_bytes info))) (sym buffer) (some_rows rect (row_stride store (texel_bytes info) rect.w) (texel_bytes info) (some_bytes info) some, omega (arith, all, ends)),
            subst (λ k. HasRect k rect) (sym stored) lies,
            subst (λ k. HasTexels k (texel_bytes info)) (sym stored) (sym (size_is info)),
          )

  pub upload_none_empty : at + needed_length store (texel_bytes info) rect.w rect.h ≤ the_end → IfSome (upload_of src at store info image rect) NoneEmpty
  upload_none_empty ends = go (eqb rect.w 0 || eqb rect.h 0) refl
    where
      go : (t : Bool) → (eqb rect.w 0 || eqb rect.h 0) ≡ t → IfSome (cond t None (Some rows)) NoneEmpty
      go true empty = tt
      go false some =
          let all = needed_is store (texel_bytes info) rect (row_stride store (texel_bytes info) rect.w) refl some in
          let high = some_rows rect (row_stride store (texel_bytes info) rect.w) (texel_bytes info) (some_bytes info) some in
          All-from_recursion (λ (t : Touch). t.start < t.end) (touches rows) (omega (arith, all, ends, high), (omega arith, tt))
