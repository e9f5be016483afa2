-- What the items of a log do to the contents of the objects.
use Rattle.std.specs.Prelude.{◌≡◌, ℕ, ◌+◌, ◌-◌, ◌<◌, ◌==◌, nat_lt, nat_le, ◌&&◌, Bool, true, List, [], ◌∷◌, length, slice_get, slice_index, Contains, Option, Some, None, if◌then◌else◌, pos}
use Rattle.std.specs.List.{list_any}
use Rattle.vk_types.specs.declared.handles.Kind.{Kind}
use Rattle.vk_model.specs.Log.{Item, Command, HostWrite, Wait, Signal, Range, ranges}
use Rattle.vk_types.specs.declared.regions.Rect.{Rect}
use Rattle.vk_types.specs.Touches.{the_end}
use Rattle.cells.specs.Contents.{UNDEFINED}
use Rattle.vk_model.specs.Cells.{width_of, texel_size, place, Contents, op_cell}

-- what a new device has
abbrev pub nothing : Contents
nothing id i = UNDEFINED

-- Items

-- the range has this place
abbrev pub covers : ℕ → ℕ → Range → Bool
covers id i r = (r.id == id) && nat_le r.start i && nat_lt i r.end

abbrev pub is_touched : Item → ℕ → ℕ → Bool
is_touched x id i = list_any (covers id i) (ranges x)

abbrev pub is_written : Item → ℕ → ℕ → Bool
is_written x id i = list_any (λ r. r.written && covers id i r) (ranges x)

-- an item finds the cells that it touches, and no others
abbrev pub found : Item → Contents → Contents
found x c id i = if is_touched x id i then c id i else UNDEFINED

abbrev pub item_cell : (ℕ → Kind) → Item → Contents → ℕ → ℕ → ℕ
item_cell kinds (Command queue n) c id i = op_cell kinds n.op c id i
item_cell kinds (HostWrite _ at bytes) c id i = if nat_le at i && nat_lt i (at + length bytes) then slice_index bytes (i - at) else c id i
item_cell kinds (Wait _ _) c id i = c id i
item_cell kinds (Signal _ _) c id i = c id i

-- an item makes the cells that it writes of those that it finds, and leaves all others as they are
abbrev pub apply : (ℕ → Kind) → Item → Contents → Contents
apply kinds x c id i = if is_written x id i then item_cell kinds x (found x c) id i else c id i

-- Logs

abbrev pub after_all : (ℕ → Kind) → List Item → Contents → Contents
after_all kinds [] c = c
after_all kinds (x ∷ log) c = after_all kinds log (apply kinds x c)

-- the contents after a log, in its order
abbrev pub eval : (ℕ → Kind) → List Item → Contents
eval kinds log = after_all kinds log nothing

abbrev pub after_some : (ℕ → Kind) → Option Item → Contents → Contents
after_some kinds None c = c
after_some kinds (Some x) c = apply kinds x c

abbrev pub after_places : (ℕ → Kind) → List Item → List ℕ → Contents → Contents
after_places kinds log [] c = c
after_places kinds log (k ∷ order) c = after_places kinds log order (after_some kinds (slice_get log k) c)

-- the contents after the items of a log at these places, in this order
abbrev pub executed : (ℕ → Kind) → List Item → List ℕ → Contents
executed kinds log order = after_places kinds log order nothing

-- Objects whose items were all executed

abbrev pub touches_id : Item → ℕ → Bool
touches_id x id = list_any (λ r. r.id == id) (ranges x)

-- each item of the log that touches the object is in the order
abbrev pub IsSettled : List Item → List ℕ → ℕ → Type 0
IsSettled log order id = (k : ℕ) (x : Item) → slice_get log k ≡ Some x → touches_id x id ≡ true → Contains order k

-- Agreement

-- c has the same cell as d wherever d is defined
abbrev pub ContentsAgree : Contents → Contents → Type 0
ContentsAgree c d = (id i : ℕ) → d id i < 256 → c id i ≡ d id i

-- Places in a rectangle of an image

-- a byte of a texel of the image that lies in the rectangle, so far from its left and its top
pub record LiesIn (kind : Kind) (rect : Rect) (x y byte left top : ℕ) : Type 0 where
  pub corner_x : ℕ
  pub corner_y : ℕ
  pub x_is : rect.x ≡ pos corner_x
  pub y_is : rect.y ≡ pos corner_y
  pub column : x < width_of kind
  pub in_texel : byte < texel_size kind
  pub in_image : place kind x y byte < the_end
  pub from_left : x ≡ corner_x + left
  pub to_right : left < rect.w
  pub from_top : y ≡ corner_y + top
  pub to_bottom : top < rect.h
