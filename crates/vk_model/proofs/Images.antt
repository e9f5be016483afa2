-- What operations on images leave, by column, row and byte.
use Rattle.std.proofs.Common.{◌≡◌, ℕ, ◌+◌, ◌-◌, ◌*◌, ◌/◌, ◌%◌, ◌<◌, ◌≤◌, List, Bool, true, false, refl, sym, ◌∙◌, ap, subst, arith, inl, inr}
use Rattle.std.specs.Prelude.{◌⊎◌, ◌&&◌, ℤ, pos, Option, Some, None, nat_le, nat_lt, min, ◌||◌, slice_index}
use Rattle.std.proofs.Math.Nat.{mul-add-mod_self_right, mod-eq_of_lt}
use Rattle.std.proofs.lemmas.Nat.{div-mul-add}
use Rattle.std.proofs.lemmas.Bool.{or_left, le-leb, lt-ltb, lt-leb, le-ltb, and_from, and_left, and_right, cond-true, cond-false}
use Rattle.vk_types.specs.declared.handles.Kind.{Kind}
use Rattle.vk_types.specs.declared.regions.Rect.{Rect}
use Rattle.vk_types.specs.declared.handles.HandleId.{HandleId}
use Rattle.vk_types.specs.declared.ops.Op.TheVariants.{ClearImage, CopyImage, BufferToImage}
use Rattle.vk_types.specs.Touches.{the_end, rows_size}
use Rattle.vk_model.specs.Log.{Item, Command, Range}
use Rattle.vk_model.specs.Meaning.{covers, found, apply, LiesIn}
use Rattle.vk_model.proofs.Local.{after_written}
use Rattle.vk_model.proofs.Copies.{covered_from, found_at}
use Rattle.vk_model.specs.Cells.{Contents, ahead, place, column_at, row_at, byte_at, width_of, texel_size, behind, at_both, in_rect}

-- A place gives its column, its row and its byte back.
pub byte_of_place : (kind : Kind) (x y byte : ℕ) → byte < texel_size kind → byte_at kind (place kind x y byte) ≡ byte
byte_of_place kind x y byte lt = mul-add-mod_self_right (y * width_of kind + x) (texel_size kind) byte ∙ mod-eq_of_lt lt

texel_of_place : (kind : Kind) (x y byte : ℕ) → byte < texel_size kind → place kind x y byte / texel_size kind ≡ y * width_of kind + x
texel_of_place kind x y byte lt = div-mul-add (y * width_of kind + x) (texel_size kind) byte lt

pub column_of_place : (kind : Kind) (x y byte : ℕ) → x < width_of kind → byte < texel_size kind → column_at kind (place kind x y byte) ≡ x
column_of_place kind x y byte inside lt = ap (λ n. n % width_of kind) (texel_of_place kind x y byte lt) ∙ mul-add-mod_self_right y (width_of kind) x ∙ mod-eq_of_lt inside

pub row_of_place : (kind : Kind) (x y byte : ℕ) → x < width_of kind → byte < texel_size kind → row_at kind (place kind x y byte) ≡ y
row_of_place kind x y byte inside lt = ap (λ n. n / width_of kind) (texel_of_place kind x y byte lt) ∙ div-mul-add y (width_of kind) x inside

pub behind_in : (a n x : ℕ) → a ≤ x → x < a + n → behind (pos a) n x ≡ Some (x - a)
behind_in a n x from below = cond-true (nat_le a x && nat_lt x (a + n)) (Some (x - a)) None (and_from (nat_le a x) (nat_lt x (a + n)) (le-leb a x from) (lt-ltb x (a + n) below))

pub behind_out : (a n x : ℕ) → (x < a) ⊎ (a + n ≤ x) → behind (pos a) n x ≡ None
behind_out a n x (inl before) = cond-false (nat_le a x && nat_lt x (a + n)) (Some (x - a)) None (and_left (nat_le a x) (nat_lt x (a + n)) (lt-leb a x before))
behind_out a n x (inr past) = cond-false (nat_le a x && nat_lt x (a + n)) (Some (x - a)) None (and_right (nat_le a x) (nat_lt x (a + n)) (le-ltb x (a + n) past))

-- an image's places in a rectangle whose corner is not left of or above the image
module _ (kind : Kind) (rect : Rect) (left top : ℕ) (x_is : rect.x ≡ pos left) (y_is : rect.y ≡ pos top) (x y byte : ℕ) (inside : x < width_of kind) (small : byte < texel_size kind) where
  at_x : behind rect.x rect.w (column_at kind (place kind x y byte)) ≡ behind (pos left) rect.w x
  at_x = ap (λ c. behind rect.x rect.w c) (column_of_place kind x y byte inside small) ∙ ap (λ z. behind z rect.w x) x_is

  at_y : behind rect.y rect.h (row_at kind (place kind x y byte)) ≡ behind (pos top) rect.h y
  at_y = ap (λ r. behind rect.y rect.h r) (row_of_place kind x y byte inside small) ∙ ap (λ z. behind z rect.h y) y_is

  pub in_rect_inside : (f : ℕ → ℕ → ℕ) (old : ℕ) → left ≤ x → x < left + rect.w → top ≤ y → y < top + rect.h → in_rect kind rect (place kind x y byte) f old ≡ f (x - left) (y - top)
  in_rect_inside f old from_left to_right from_top to_bottom =
      ap (λ a. at_both a (behind rect.y rect.h (row_at kind (place kind x y byte))) f old) (at_x ∙ behind_in left rect.w x from_left to_right)
      ∙ ap (λ b. at_both (Some (x - left)) b f old) (at_y ∙ behind_in top rect.h y from_top to_bottom)

  pub in_rect_beside : (f : ℕ → ℕ → ℕ) (old : ℕ) → (x < left) ⊎ (left + rect.w ≤ x) → in_rect kind rect (place kind x y byte) f old ≡ old
  in_rect_beside f old out = ap (λ a. at_both a (behind rect.y rect.h (row_at kind (place kind x y byte))) f old) (at_x ∙ behind_out left rect.w x out)

  pub in_rect_above : (f : ℕ → ℕ → ℕ) (old : ℕ) → (y < top) ⊎ (top + rect.h ≤ y) → in_rect kind rect (place kind x y byte) f old ≡ old
  in_rect_above f old out = ap (λ b. at_both (behind rect.x rect.w (column_at kind (place kind x y byte))) b f old) (at_y ∙ behind_out top rect.h y out) ∙ nothing_there (behind rect.x rect.w (column_at kind (place kind x y byte)))
    where
      nothing_there : (o : Option ℕ) → at_both o None f old ≡ old
      nothing_there None = refl
      nothing_there (Some a) = refl

-- Operations that write a rectangle of an image

covers_whole : (id i : ℕ) (w : Bool) → i < the_end → covers id i (record { id = id; start = 0; end = the_end; written = w }) ≡ true
covers_whole id i w lt = covered_from id i (record { id = id; start = 0; end = the_end; written = w }) refl (omega arith) lt

module _ (kinds : ℕ → Kind) (q : ℕ) (dst : HandleId) (rect : Rect) (left top : ℕ) (x_is : rect.x ≡ pos left) (y_is : rect.y ≡ pos top) (c : Contents)
    (x y byte : ℕ) (inside : x < width_of (kinds dst.0)) (small : byte < texel_size (kinds dst.0)) (in_image : place (kinds dst.0) x y byte < the_end)
    (from_left : left ≤ x) (to_right : x < left + rect.w) (from_top : top ≤ y) (to_bottom : y < top + rect.h) where
  pub clear_inside : (texel : List ℕ) → apply kinds (Command q (record { op = ClearImage dst rect texel })) c dst.0 (place (kinds dst.0) x y byte) ≡ slice_index texel byte
  clear_inside texel =
      let item : Item = Command q (record { op = ClearImage dst rect texel }) in
      let at : ℕ = place (kinds dst.0) x y byte in
      after_written kinds item c dst.0 at (or_left (covers dst.0 at (record { id = dst.0; start = 0; end = the_end; written = true })) false (covers_whole dst.0 at true in_image))
      ∙ in_rect_inside (kinds dst.0) rect left top x_is y_is x y byte inside small (λ _ _. slice_index texel (byte_at (kinds dst.0) at)) (found item c dst.0 at) from_left to_right from_top to_bottom
      ∙ ap (slice_index texel) (byte_of_place (kinds dst.0) x y byte small)

  pub copy_image_inside : (src : HandleId) (src_x src_y : ℤ) → place (kinds src.0) (ahead src_x (x - left)) (ahead src_y (y - top)) byte < the_end →
      apply kinds (Command q (record { op = CopyImage src src_x src_y dst rect })) c dst.0 (place (kinds dst.0) x y byte) ≡ c src.0 (place (kinds src.0) (ahead src_x (x - left)) (ahead src_y (y - top)) byte)
  copy_image_inside src src_x src_y in_source =
      let item : Item = Command q (record { op = CopyImage src src_x src_y dst rect }) in
      let at : ℕ = place (kinds dst.0) x y byte in
      let read : ℕ = place (kinds src.0) (ahead src_x (x - left)) (ahead src_y (y - top)) byte in
      after_written kinds item c dst.0 at (or_left (covers dst.0 at (record { id = dst.0; start = 0; end = the_end; written = true })) false (covers_whole dst.0 at true in_image))
      ∙ in_rect_inside (kinds dst.0) rect left top x_is y_is x y byte inside small (λ x y. found item c src.0 (place (kinds src.0) (ahead src_x x) (ahead src_y y) (byte_at (kinds dst.0) at))) (found item c dst.0 at) from_left to_right from_top to_bottom
      ∙ ap (λ b. found item c src.0 (place (kinds src.0) (ahead src_x (x - left)) (ahead src_y (y - top)) b)) (byte_of_place (kinds dst.0) x y byte small)
      ∙ found_at item c src.0 read (or_left (covers src.0 read (record { id = src.0; start = 0; end = the_end; written = false })) (covers src.0 read (record { id = dst.0; start = 0; end = the_end; written = true }) || false) (covers_whole src.0 read false in_source))

  pub buffer_to_image_inside : (src : HandleId) (src_at stride size : ℕ) →
      src_at + (y - top) * stride + (x - left) * size + byte < min (src_at + rows_size rect stride size) the_end →
      apply kinds (Command q (record { op = BufferToImage src src_at stride size dst rect })) c dst.0 (place (kinds dst.0) x y byte) ≡ c src.0 (src_at + (y - top) * stride + (x - left) * size + byte)
  buffer_to_image_inside src src_at stride size in_source =
      let item : Item = Command q (record { op = BufferToImage src src_at stride size dst rect }) in
      let at : ℕ = place (kinds dst.0) x y byte in
      let read : ℕ = src_at + (y - top) * stride + (x - left) * size + byte in
      let range : Range = record { id = src.0; start = src_at; end = min (src_at + rows_size rect stride size) the_end; written = false } in
      after_written kinds item c dst.0 at (or_left (covers dst.0 at (record { id = dst.0; start = 0; end = the_end; written = true })) false (covers_whole dst.0 at true in_image))
      ∙ in_rect_inside (kinds dst.0) rect left top x_is y_is x y byte inside small (λ x y. found item c src.0 (src_at + y * stride + x * size + byte_at (kinds dst.0) at)) (found item c dst.0 at) from_left to_right from_top to_bottom
      ∙ ap (λ b. found item c src.0 (src_at + (y - top) * stride + (x - left) * size + b)) (byte_of_place (kinds dst.0) x y byte small)
      ∙ found_at item c src.0 read (or_left (covers src.0 read range) (covers src.0 read (record { id = dst.0; start = 0; end = the_end; written = true }) || false) (covered_from src.0 read range refl (omega arith) in_source))

-- The same at a place that lies in the rectangle

behind_corner : (x corner left : ℕ) → x ≡ corner + left → x - corner ≡ left
behind_corner x corner left e = omega arith

module _ (kinds : ℕ → Kind) (q : ℕ) (dst : HandleId) (rect : Rect) (c : Contents) (x y byte left top : ℕ) (lies : LiesIn (kinds dst.0) rect x y byte left top) where
  pub clear_writes : (texel : List ℕ) → apply kinds (Command q (record { op = ClearImage dst rect texel })) c dst.0 (place (kinds dst.0) x y byte) ≡ slice_index texel byte
  clear_writes texel = clear_inside kinds q dst rect lies.corner_x lies.corner_y lies.x_is lies.y_is c x y byte lies.column lies.in_texel lies.in_image (omega arith) (omega arith) (omega arith) (omega arith) texel

  pub copy_image_writes : (src : HandleId) (src_x src_y : ℤ) → place (kinds src.0) (ahead src_x left) (ahead src_y top) byte < the_end →
      apply kinds (Command q (record { op = CopyImage src src_x src_y dst rect })) c dst.0 (place (kinds dst.0) x y byte) ≡ c src.0 (place (kinds src.0) (ahead src_x left) (ahead src_y top) byte)
  copy_image_writes src src_x src_y in_source =
      let from_left : x - lies.corner_x ≡ left = behind_corner x lies.corner_x left lies.from_left in
      let from_top : y - lies.corner_y ≡ top = behind_corner y lies.corner_y top lies.from_top in
      let same : place (kinds src.0) (ahead src_x (x - lies.corner_x)) (ahead src_y (y - lies.corner_y)) byte ≡ place (kinds src.0) (ahead src_x left) (ahead src_y top) byte = ap (λ l. place (kinds src.0) (ahead src_x l) (ahead src_y (y - lies.corner_y)) byte) from_left ∙ ap (λ t. place (kinds src.0) (ahead src_x left) (ahead src_y t) byte) from_top in
      copy_image_inside kinds q dst rect lies.corner_x lies.corner_y lies.x_is lies.y_is c x y byte lies.column lies.in_texel lies.in_image (omega arith) (omega arith) (omega arith) (omega arith) src src_x src_y (subst (λ p. p < the_end) (sym same) in_source) ∙ ap (c src.0) same

  pub buffer_to_image_writes : (src : HandleId) (src_at stride size : ℕ) → src_at + top * stride + left * size + byte < min (src_at + rows_size rect stride size) the_end →
      apply kinds (Command q (record { op = BufferToImage src src_at stride size dst rect })) c dst.0 (place (kinds dst.0) x y byte) ≡ c src.0 (src_at + top * stride + left * size + byte)
  buffer_to_image_writes src src_at stride size in_source =
      let from_left : x - lies.corner_x ≡ left = behind_corner x lies.corner_x left lies.from_left in
      let from_top : y - lies.corner_y ≡ top = behind_corner y lies.corner_y top lies.from_top in
      let same : src_at + (y - lies.corner_y) * stride + (x - lies.corner_x) * size + byte ≡ src_at + top * stride + left * size + byte = ap (λ l. src_at + (y - lies.corner_y) * stride + l * size + byte) from_left ∙ ap (λ t. src_at + t * stride + left * size + byte) from_top in
      buffer_to_image_inside kinds q dst rect lies.corner_x lies.corner_y lies.x_is lies.y_is c x y byte lies.column lies.in_texel lies.in_image (omega arith) (omega arith) (omega arith) (omega arith) src src_at stride size (subst (λ p. p < min (src_at + rows_size rect stride size) the_end) (sym same) in_source) ∙ ap (c src.0) same
