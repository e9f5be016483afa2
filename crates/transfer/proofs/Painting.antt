-- What places have to show so that they show a painted image.
use Rattle.std.proofs.Common.{◌≡◌, ℕ, ◌+◌, ◌-◌, ◌/◌, ◌%◌, ◌<◌, ◌≤◌, true, false, cond, Option, Some, None, sym, ◌∙◌, ap, arith, inl, inr}
use Rattle.std.specs.Prelude.{◌⊎◌, ◌&&◌, nat_le, nat_lt, if◌then◌else◌}
use Rattle.std.specs.Option.{option_map_or}
use Rattle.std.proofs.lemmas.Bool.{cases_lt, and_from, and_left, and_right, le-leb, lt-ltb, lt-leb, le-ltb}
use Rattle.cells.specs.Contents.{Content, cell_at, UNDEFINED, in_range}
use Rattle.gl_model.specs.ImageEffect.{Picture, painted, texel_bytes, content_bytes}
use Rattle.transfer.specs.Shown.{place_in, Shows}
use Rattle.transfer.proofs.Places.{IsCell, cell_at-defined, IsByteAt, byte_at_place}

-- a byte of the texel that is painted over an image, or of what was there
abbrev pub paint_at : Picture → (ℕ → ℕ → Option Content) → ℕ → ℕ → ℕ → ℕ
paint_at old f x y byte = option_map_or (λ texel. cell_at texel byte) (f x y) (cell_at old.cells (place_in old.info x y byte))

pub painted_shows : (old : Picture) (f : ℕ → ℕ → Option Content) (seen : ℕ → ℕ) →
    ((x y byte : ℕ) → x < old.info.width → y < old.info.height → byte < texel_bytes old.info → paint_at old f x y byte < UNDEFINED → seen (place_in old.info x y byte) ≡ paint_at old f x y byte) →
    Shows seen (painted old f)
painted_shows old f seen right i defined =
    let size : ℕ = texel_bytes old.info in
    let g : ℕ → ℕ = λ k. option_map_or (λ texel. cell_at texel (k % texel_bytes old.info)) (f (k / texel_bytes old.info % old.info.width) (k / texel_bytes old.info / old.info.width)) (cell_at old.cells k) in
    let cell : IsCell (content_bytes old.info) g i = cell_at-defined (content_bytes old.info) g i defined in
    let at : IsByteAt old.info i = byte_at_place old.info i cell.below in
    let x : ℕ = i / texel_bytes old.info % old.info.width in
    let y : ℕ = i / texel_bytes old.info / old.info.width in
    let byte : ℕ = i % texel_bytes old.info in
    let same : paint_at old f (i / texel_bytes old.info % old.info.width) (i / texel_bytes old.info / old.info.width) (i % texel_bytes old.info) ≡ g i =
    ap (λ p. option_map_or (λ texel. cell_at texel (i % texel_bytes old.info)) (f (i / texel_bytes old.info % old.info.width) (i / texel_bytes old.info / old.info.width)) (cell_at old.cells p)) at.is in
    let is = cell.is in
    ap seen (sym at.is)
    ∙ right (i / texel_bytes old.info % old.info.width) (i / texel_bytes old.info / old.info.width) (i % texel_bytes old.info) at.column at.row at.in_texel (omega (arith, same, is, defined))
    ∙ same ∙ sym is

pub in_range-in : (at len i : ℕ) → at ≤ i → i < at + len → in_range at len i ≡ true
in_range-in at len i from below = and_from (nat_le at i) (nat_lt i (at + len)) (le-leb at i from) (lt-ltb i (at + len) below)

pub in_range-out : (at len i : ℕ) → (i < at) ⊎ (at + len ≤ i) → in_range at len i ≡ false
in_range-out at len i (inl before) = and_left (nat_le at i) (nat_lt i (at + len)) (lt-leb at i before)
in_range-out at len i (inr past) = and_right (nat_le at i) (nat_lt i (at + len)) (le-ltb i (at + len) past)

-- a number in a range, so far from its start
pub record IsAmong (at len i : ℕ) : Type 0 where
  pub from : at ≤ i
  pub is : i ≡ at + (i - at)
  pub below : i - at < len

pub cases_range : (at len i : ℕ) → IsAmong at len i ⊎ ((i < at) ⊎ (at + len ≤ i))
cases_range at len i = go (cases_lt i at) (cases_lt i (at + len))
  where
    go : (i < at) ⊎ (at ≤ i) → (i < at + len) ⊎ (at + len ≤ i) → IsAmong at len i ⊎ ((i < at) ⊎ (at + len ≤ i))
    go (inl before) rest = inr (inl before)
    go (inr from) (inl below) = inl (record { from = from; is = omega (arith, from); below = omega (arith, from, below) })
    go (inr from) (inr past) = inr (inr past)

-- a rectangle that is painted
module _ (old : Picture) (x0 y0 width height : ℕ) (texel : ℕ → ℕ → Content) (seen before : ℕ → ℕ) (shows : Shows before old.cells) where
  abbrev pub paint : ℕ → ℕ → Option Content
  paint x y = if in_range x0 width x && in_range y0 height y then Some (texel x y) else None

  -- in the rectangle the new texel is seen, and outside it what was there
  pub record SeesRect : Type 0 where
    pub inside : (x y byte : ℕ) → x < old.info.width → y < old.info.height → byte < texel_bytes old.info → IsAmong x0 width x → IsAmong y0 height y → cell_at (texel x y) byte < UNDEFINED → seen (place_in old.info x y byte) ≡ cell_at (texel x y) byte
    pub outside : (x y byte : ℕ) → x < old.info.width → y < old.info.height → byte < texel_bytes old.info → ((x < x0) ⊎ (x0 + width ≤ x)) ⊎ ((y < y0) ⊎ (y0 + height ≤ y)) → seen (place_in old.info x y byte) ≡ before (place_in old.info x y byte)

  stays : (x y byte : ℕ) → SeesRect → x < old.info.width → y < old.info.height → byte < texel_bytes old.info → ((x < x0) ⊎ (x0 + width ≤ x)) ⊎ ((y < y0) ⊎ (y0 + height ≤ y)) → (in_range x0 width x && in_range y0 height y) ≡ false →
      paint_at old paint x y byte < UNDEFINED → seen (place_in old.info x y byte) ≡ paint_at old paint x y byte
  stays x y byte sees column row in_texel out test defined =
      let is : paint_at old paint x y byte ≡ cell_at old.cells (place_in old.info x y byte) = ap (λ t. option_map_or (λ texel. cell_at texel byte) (cond t (Some (texel x y)) None) (cell_at old.cells (place_in old.info x y byte))) test in
      sees.outside x y byte column row in_texel out ∙ shows (place_in old.info x y byte) (omega (arith, is, defined)) ∙ sym is

  written : (x y byte : ℕ) → SeesRect → x < old.info.width → y < old.info.height → byte < texel_bytes old.info → IsAmong x0 width x → IsAmong y0 height y →
      paint_at old paint x y byte < UNDEFINED → seen (place_in old.info x y byte) ≡ paint_at old paint x y byte
  written x y byte sees column row in_texel left top defined =
      let test : (in_range x0 width x && in_range y0 height y) ≡ true = and_from (in_range x0 width x) (in_range y0 height y) (in_range-in x0 width x left.from (omega arith)) (in_range-in y0 height y top.from (omega arith)) in
      let is : paint_at old paint x y byte ≡ cell_at (texel x y) byte = ap (λ t. option_map_or (λ texel. cell_at texel byte) (cond t (Some (texel x y)) None) (cell_at old.cells (place_in old.info x y byte))) test in
      sees.inside x y byte column row in_texel left top (omega (arith, is, defined)) ∙ sym is

  pub painted_rect_shows : SeesRect → Shows seen (painted old paint)
  painted_rect_shows sees = painted_shows old paint seen (λ x y byte column row in_texel. at_texel x y byte column row in_texel (cases_range x0 width x) (cases_range y0 height y))
    where
      at_texel : (x y byte : ℕ) → x < old.info.width → y < old.info.height → byte < texel_bytes old.info → IsAmong x0 width x ⊎ ((x < x0) ⊎ (x0 + width ≤ x)) → IsAmong y0 height y ⊎ ((y < y0) ⊎ (y0 + height ≤ y)) →
          paint_at old paint x y byte < UNDEFINED → seen (place_in old.info x y byte) ≡ paint_at old paint x y byte
      at_texel x y byte column row in_texel (inl left) (inl top) = written x y byte sees column row in_texel left top
      at_texel x y byte column row in_texel (inl left) (inr out) = stays x y byte sees column row in_texel (inr out) (and_right (in_range x0 width x) (in_range y0 height y) (in_range-out y0 height y out))
      at_texel x y byte column row in_texel (inr out) top = stays x y byte sees column row in_texel (inl out) (and_left (in_range x0 width x) (in_range y0 height y) (in_range-out x0 width x out))
