-- Contents that are made of bytes and of cells that are not defined.
use Rattle.std.proofs.Common.{◌≡◌, ℕ, zero, suc, ◌+◌, ◌-◌, ◌*◌, ◌/◌, ◌%◌, ◌<◌, ◌≤◌, Bool, true, false, cond, Option, Some, None, List, [], ◌∷◌, ◌++◌, length, map, take, drop, refl, subst, arith, inl, inr}
use Rattle.std.specs.Prelude.{◌⊎◌, ◌&&◌, ◌||◌, not, ℤ, pos, ◌+ℤ◌, unsigned_abs, slice_index, if◌then◌else◌}
use Rattle.std.specs.Option.{option_map_or}
use Rattle.std.specs.List.{flat_map, range_with_len}
use Rattle.std.proofs.lemmas.Bool.{cases_lt}
use Rattle.std.proofs.lemmas.Nat.{mod_below}
use Rattle.std.proofs.lemmas.List.{get_or_past, get_or_default, get_or-take, get_or-drop, length-take}
use Rattle.cells.specs.Contents.{Content, cells, cell_at, UNDEFINED, undefined_cells, part, overwritten, in_range}
use Rattle.formats.specs.declared.format.Format.{Format}
use Rattle.formats.specs.declared.format.Format.TheVariants.{R8ui, R8i, R16ui, R16i, R32ui, R32i, Rg8ui, Rgba8ui, Rgba8i, Rgb10A2ui, Rgba32ui, Rgba32i}
use Rattle.formats.specs.declared.pixel.PixelFormat.{PixelFormat}
use Rattle.formats.specs.declared.pixel.PixelType.{PixelType}
use Rattle.formats.specs.Rows.{PixelStorage, first_row_place, row_stride}
use Rattle.formats.specs.Components.{packed, expanded, low_bytes, fits_format}
use Rattle.formats.specs.Texel.{has_signed_components, own_pair_of}
use Rattle.formats.specs.Pairs.{same_pair}
use Rattle.gl_model.specs.Bindings.{differs}
use Rattle.gl_model.specs.declared.objects.ImageInfo.{ImageInfo}
use Rattle.gl_model.specs.declared.objects.Mapped.{Mapped}
use Rattle.gl_calls.specs.declared.words.AccessWord.{AccessWord}
use Rattle.gl_model.specs.GroupModel.{Store}
use Rattle.gl_model.specs.BufferEffect.{map_cells, closed, flag_at, store_of_cells}
use Rattle.gl_model.specs.ImageRows.{pair_texel}
use Rattle.gl_model.specs.ImageEffect.{Picture, Corners, texel_bytes, content_bytes, texel_at, texel_or_undefined, undefined_texel, painted, after_upload, after_copy, after_clear, after_blit, after_read, clear_texel, converted, read_texel, is_undefined, is_inside, has_area, is_between, blit_source}
use Rattle.transfer.specs.Blits.{AreCells}
use Rattle.transfer.proofs.Places.{cell_at-cells, cell_at-past, length-cells}

most : (a b : ℕ) → a ≡ b → b ≤ UNDEFINED → a ≤ UNDEFINED
most a b is le = omega (arith, is, le)

pub of_cells : (n : ℕ) (f : ℕ → ℕ) → ((i : ℕ) → f i ≤ UNDEFINED) → AreCells (cells n f)
of_cells n f each i = go (cases_lt i n)
  where
    go : (i < n) ⊎ (n ≤ i) → cell_at (cells n f) i ≤ UNDEFINED
    go (inl below) = most (cell_at (cells n f) i) (f i) (cell_at-cells n f i below) (each i)
    go (inr past) = most (cell_at (cells n f) i) UNDEFINED (let long = length-cells n f in cell_at-past (cells n f) i (omega (arith, long, past))) (omega arith)

pub of_nothing : AreCells []
of_nothing i = omega arith

pub of_undefined : (n : ℕ) → AreCells (undefined_cells n)
of_undefined n = of_cells n (λ _. UNDEFINED) (λ i. omega arith)

pub of_append : (xs ys : List ℕ) → AreCells xs → AreCells ys → AreCells (xs ++ ys)
of_append [] ys are others i = others i
of_append (x ∷ xs) ys are others zero = are zero
of_append (x ∷ xs) ys are others (suc i) = of_append xs ys (λ i. are (suc i)) others i

of_bytes : (n v : ℕ) → AreCells (low_bytes n v)
of_bytes zero v i = omega arith
of_bytes (suc n) v zero = let small = mod_below v 256 (omega arith) in omega (arith, small)
of_bytes (suc n) v (suc i) = of_bytes n (v / 256) i

of_words : (words : List ℕ) → AreCells (flat_map (λ v. low_bytes 4 v) words)
of_words [] = of_nothing
of_words (v ∷ words) = of_append (low_bytes 4 v) (flat_map (λ v. low_bytes 4 v) words) (of_bytes 4 v) (of_words words)

four : (n r g b a : ℕ) → AreCells (low_bytes n r ++ low_bytes n g ++ low_bytes n b ++ low_bytes n a)
four n r g b a =
    of_append (low_bytes n r ++ low_bytes n g ++ low_bytes n b) (low_bytes n a)
    (of_append (low_bytes n r ++ low_bytes n g) (low_bytes n b) (of_append (low_bytes n r) (low_bytes n g) (of_bytes n r) (of_bytes n g)) (of_bytes n b)) (of_bytes n a)

pub of_packed : (format : Format) (v : List ℕ) → AreCells (packed format v)
of_packed R8ui v = of_bytes 1 (slice_index v 0)
of_packed R8i v = of_bytes 1 (slice_index v 0)
of_packed R16ui v = of_bytes 2 (slice_index v 0)
of_packed R16i v = of_bytes 2 (slice_index v 0)
of_packed R32ui v = of_bytes 4 (slice_index v 0)
of_packed R32i v = of_bytes 4 (slice_index v 0)
of_packed Rg8ui v = of_append (low_bytes 1 (slice_index v 0)) (low_bytes 1 (slice_index v 1)) (of_bytes 1 (slice_index v 0)) (of_bytes 1 (slice_index v 1))
of_packed Rgba8ui v = four 1 (slice_index v 0) (slice_index v 1) (slice_index v 2) (slice_index v 3)
of_packed Rgba8i v = four 1 (slice_index v 0) (slice_index v 1) (slice_index v 2) (slice_index v 3)
of_packed Rgb10A2ui v = of_bytes 4 _
of_packed Rgba32ui v = four 4 (slice_index v 0) (slice_index v 1) (slice_index v 2) (slice_index v 3)
of_packed Rgba32i v = four 4 (slice_index v 0) (slice_index v 1) (slice_index v 2) (slice_index v 3)

pub of_take : (n : ℕ) (xs : List ℕ) → AreCells xs → AreCells (take n xs)
of_take n xs are i = go (cases_lt i n)
  where
    go : (i < n) ⊎ (n ≤ i) → cell_at (take n xs) i ≤ UNDEFINED
    go (inl below) = most (cell_at (take n xs) i) (cell_at xs i) (get_or-take n xs i UNDEFINED below) (are i)
    go (inr past) = most (cell_at (take n xs) i) UNDEFINED (get_or_past (take n xs) i UNDEFINED (let short = length-take n xs in omega (arith, short, past))) (omega arith)

pub of_drop : (n : ℕ) (xs : List ℕ) → AreCells xs → AreCells (drop n xs)
of_drop n xs are i = most (cell_at (drop n xs) i) (cell_at xs (n + i)) (get_or-drop n xs i UNDEFINED) (are (n + i))

pub of_overwritten : (old : List ℕ) (at : ℕ) (new : List ℕ) → AreCells old → AreCells new → AreCells (overwritten old at new)
of_overwritten old at new are others =
    of_append (take at old ++ new) (drop (at + length new) old) (of_append (take at old) new (of_take at old are) others) (of_drop (at + length new) old are)

pub of_part : (content : Content) (at len : ℕ) → AreCells content → AreCells (part content at len)
of_part content at len are = of_take len (drop at content) (of_drop at content are)

pub of_choice : (t : Bool) (one two : Content) → AreCells one → AreCells two → AreCells (if t then one else two)
of_choice true one two are others = are
of_choice false one two are others = others

-- Stores

pub of_map : (old : Content) (at len : ℕ) (access : AccessWord) → AreCells old → AreCells (map_cells old at len access)
of_map old at len access are =
    of_choice access.invalidate_buffer (undefined_cells (length old)) (if access.invalidate_range then overwritten old at (undefined_cells len) else old)
    (of_undefined (length old))
    (of_choice access.invalidate_range (overwritten old at (undefined_cells len)) old (of_overwritten old at (undefined_cells len) are (of_undefined len)) are)

pub of_closed : (s : Store) (map : Option Mapped) → AreCells s.cells → AreCells (closed s map).cells
of_closed s map are = go (option_map_or (λ (m : Mapped). m.access.flush_explicit) map false)
  where
    go : (t : Bool) → AreCells (if t then store_of_cells (cells (length s.cells) (λ i. if flag_at s.waiting i then UNDEFINED else cell_at s.cells i)) else store_of_cells s.cells).cells
    go true = of_cells (length s.cells) (λ i. if flag_at s.waiting i then UNDEFINED else cell_at s.cells i) (λ i. one (flag_at s.waiting i) (cell_at s.cells i) (are i))
      where
        one : (t : Bool) (v : ℕ) → v ≤ UNDEFINED → (if t then UNDEFINED else v) ≤ UNDEFINED
        one true v le = omega arith
        one false v le = le
    go false = are

-- Images

pub of_painted : (old : Picture) (f : ℕ → ℕ → Option Content) → AreCells old.cells → ((x y : ℕ) → (texel : Content) → f x y ≡ Some texel → AreCells texel) → AreCells (painted old f)
of_painted old f are texels =
    of_cells (content_bytes old.info) (λ k. option_map_or (λ texel. cell_at texel (k % texel_bytes old.info)) (f (k / texel_bytes old.info % old.info.width) (k / texel_bytes old.info / old.info.width)) (cell_at old.cells k)) (λ k. at (k % texel_bytes old.info) (k / texel_bytes old.info % old.info.width) (k / texel_bytes old.info / old.info.width) (cell_at old.cells k) (are k))
  where
    at : (byte x y kept : ℕ) → kept ≤ UNDEFINED → option_map_or (λ texel. cell_at texel byte) (f x y) kept ≤ UNDEFINED
    at byte x y kept le = go (f x y) refl
      where
        go : (o : Option Content) → f x y ≡ o → option_map_or (λ texel. cell_at texel byte) o kept ≤ UNDEFINED
        go None is = le
        go (Some texel) is = texels x y texel is byte

-- texels where a test says so
of_tested : (old : Picture) (t : ℕ → ℕ → Bool) (texel : ℕ → ℕ → Content) → AreCells old.cells → ((x y : ℕ) → AreCells (texel x y)) → AreCells (painted old (λ x y. if t x y then Some (texel x y) else None))
of_tested old t texel are texels = of_painted old (λ x y. if t x y then Some (texel x y) else None) are (λ x y new is. chosen (t x y) (texel x y) new (texels x y) is)
  where
    chosen : (t : Bool) (one new : Content) → AreCells one → cond t (Some one) None ≡ Some new → AreCells new
    chosen true one new are is = let same : one ≡ new = cc in subst AreCells same are
    chosen false one new are is = let no : ⊥ = cc in absurd no

pub of_texel : (p : Picture) (x y : ℕ) → AreCells p.cells → AreCells (texel_at p x y)
of_texel p x y are = of_cells (texel_bytes p.info) (λ b. cell_at p.cells ((y * p.info.width + x) * texel_bytes p.info + b)) (λ b. are ((y * p.info.width + x) * texel_bytes p.info + b))

pub of_read : (p : Picture) (x y : ℤ) → AreCells p.cells → AreCells (texel_or_undefined p x y)
of_read p x y are = of_choice (is_inside p.info x y) (texel_at p (unsigned_abs x) (unsigned_abs y)) (undefined_texel p.info) (of_texel p (unsigned_abs x) (unsigned_abs y) are) (of_undefined (texel_bytes p.info))

pub of_upload : (old : Picture) (x0 y0 width height : ℕ) (store : PixelStorage) (source : Content) (base : ℕ) → AreCells old.cells → AreCells source → AreCells (after_upload old x0 y0 width height store source base)
of_upload old x0 y0 width height store source base are others =
    let first : ℕ = base + first_row_place store (texel_bytes old.info) width in
    let stride : ℕ = row_stride store (texel_bytes old.info) width in
    of_tested old (λ x y. in_range x0 width x && in_range y0 height y)
    (λ x y. cells (texel_bytes old.info) (λ b. cell_at source (base + first_row_place store (texel_bytes old.info) width + (y - y0) * row_stride store (texel_bytes old.info) width + (x - x0) * texel_bytes old.info + b)))
    are
    (λ x y. of_cells (texel_bytes old.info) (λ b. cell_at source (base + first_row_place store (texel_bytes old.info) width + (y - y0) * row_stride store (texel_bytes old.info) width + (x - x0) * texel_bytes old.info + b))
    (λ b. others (base + first_row_place store (texel_bytes old.info) width + (y - y0) * row_stride store (texel_bytes old.info) width + (x - x0) * texel_bytes old.info + b)))

pub of_copy : (old read : Picture) (x0 y0 : ℕ) (from_x from_y : ℤ) (width height : ℕ) → AreCells old.cells → AreCells read.cells → AreCells (after_copy old read x0 y0 from_x from_y width height)
of_copy old read x0 y0 from_x from_y width height are others =
    of_tested old (λ x y. in_range x0 width x && in_range y0 height y) (λ x y. texel_or_undefined read (from_x +ℤ pos (x - x0)) (from_y +ℤ pos (y - y0)))
    are (λ x y. of_read read (from_x +ℤ pos (x - x0)) (from_y +ℤ pos (y - y0)) others)

of_clear_texel : (info : ImageInfo) (signed : Bool) (value : List ℕ) → AreCells (clear_texel info signed value)
of_clear_texel info signed value =
    of_choice (differs signed (has_signed_components info.format) || not (fits_format info.format value)) (undefined_texel info) (packed info.format value) (of_undefined (texel_bytes info)) (of_packed info.format value)

pub of_clear : (old : Picture) (scissored common : ℕ → ℕ → Bool) (signed : Bool) (value : List ℕ) → AreCells old.cells → AreCells (after_clear old scissored common (clear_texel old.info signed value))
of_clear old scissored common signed value are =
    of_tested old scissored (λ x y. if common x y then clear_texel old.info signed value else undefined_texel old.info)
    are (λ x y. of_choice (common x y) (clear_texel old.info signed value) (undefined_texel old.info) (of_clear_texel old.info signed value) (of_undefined (texel_bytes old.info)))

of_converted : (from to : ImageInfo) (texel : Content) → AreCells (converted from to texel)
of_converted from to texel =
    of_choice (is_undefined texel || not (fits_format to.format (expanded from.format texel))) (undefined_texel to) (packed to.format (expanded from.format texel)) (of_undefined (texel_bytes to)) (of_packed to.format (expanded from.format texel))

pub of_blit : (old read : Picture) (c : Corners) (scissored common : ℕ → ℕ → Bool) → AreCells old.cells → AreCells (after_blit old read c scissored common)
of_blit old read c scissored common are =
    of_tested old
    (λ x y. has_area c && is_between c.dx0 c.dx1 (pos x) && is_between c.dy0 c.dy1 (pos y) && scissored x y && common x y && is_inside read.info (blit_source c.sx0 c.sx1 c.dx0 c.dx1 (pos x)) (blit_source c.sy0 c.sy1 c.dy0 c.dy1 (pos y)))
    (λ x y. converted read.info old.info (texel_at read (unsigned_abs (blit_source c.sx0 c.sx1 c.dx0 c.dx1 (pos x))) (unsigned_abs (blit_source c.sy0 c.sy1 c.dy0 c.dy1 (pos y)))))
    are
    (λ x y. of_converted read.info old.info (texel_at read (unsigned_abs (blit_source c.sx0 c.sx1 c.dx0 c.dx1 (pos x))) (unsigned_abs (blit_source c.sy0 c.sy1 c.dy0 c.dy1 (pos y)))))

pub of_read_texel : (read : Picture) (pixels : PixelFormat) (kind : PixelType) (x y : ℤ) → AreCells read.cells → AreCells (read_texel read pixels kind x y)
of_read_texel read pixels kind x y are =
    of_choice (same_pair (pixels, kind) (own_pair_of read.info.format)) (texel_or_undefined read x y)
    (if is_undefined (texel_or_undefined read x y) then undefined_cells 16 else flat_map (λ v. low_bytes 4 v) (expanded read.info.format (texel_or_undefined read x y)))
    (of_read read x y are)
    (of_choice (is_undefined (texel_or_undefined read x y)) (undefined_cells 16) (flat_map (λ v. low_bytes 4 v) (expanded read.info.format (texel_or_undefined read x y))) (of_undefined 16) (of_words (expanded read.info.format (texel_or_undefined read x y))))

pub of_packed_read : (old : Content) (base : ℕ) (read : Picture) (pixels : PixelFormat) (kind : PixelType) (store : PixelStorage) (x y : ℤ) (width height : ℕ) → AreCells old → AreCells read.cells → AreCells (after_read old base read pixels kind store x y width height)
of_packed_read old base read pixels kind store x y width height are others = of_cells (length old) _ (λ p. by_row _ (λ row. x +ℤ pos ((p - (base + first_row_place store (pair_texel read.info.format pixels kind) width + row * row_stride store (pair_texel read.info.format pixels kind) width)) / pair_texel read.info.format pixels kind)) (λ row. y +ℤ pos row) (λ row. (p - (base + first_row_place store (pair_texel read.info.format pixels kind) width + row * row_stride store (pair_texel read.info.format pixels kind) width)) % pair_texel read.info.format pixels kind) (cell_at old p) (are p))
  where
    by_row : (o : Option ℕ) (column at : ℕ → ℤ) (byte : ℕ → ℕ) (kept : ℕ) → kept ≤ UNDEFINED → option_map_or (λ row. cell_at (read_texel read pixels kind (column row) (at row)) (byte row)) o kept ≤ UNDEFINED
    by_row None column at byte kept le = le
    by_row (Some row) column at byte kept le = of_read_texel read pixels kind (column row) (at row) others (byte row)

-- Data

pub of_literal : (bytes : List ℕ) → ((i : ℕ) → slice_index bytes i < 256) → AreCells bytes
of_literal bytes small i = go (cases_lt i (length bytes))
  where
    go : (i < length bytes) ⊎ (length bytes ≤ i) → cell_at bytes i ≤ UNDEFINED
    go (inl below) = let same = get_or_default bytes i UNDEFINED 0 below in let low = small i in omega (arith, same, low)
    go (inr past) = most (cell_at bytes i) UNDEFINED (cell_at-past bytes i past) (omega arith)

pub of_ramp : (len start step : ℕ) → AreCells (map (λ k. (start + k * step) % 256) (range_with_len 0 len))
of_ramp len start step = of_cells len (λ k. (start + k * step) % 256) (λ k. let low = mod_below (start + k * step) 256 (omega arith) in omega (arith, low))
