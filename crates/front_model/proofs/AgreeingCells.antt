-- The cells of a content that was made or changed, one by one.
use Rattle.std.proofs.Common.{◌≡◌, ℕ, ◌+◌, ◌-◌, ◌<◌, ◌≤◌, ◌⊎◌, inl, inr, Bool, true, false, cond, List, [], ◌++◌, length, take, drop, slice_index, refl, ap, sym, ◌∙◌, subst, arith, if◌then◌else◌}
use Rattle.std.proofs.lemmas.Bool.{cases_lt}
use Rattle.std.proofs.lemmas.Grind.{common_steps}
use Rattle.std.proofs.lemmas.List.{get_or_append_left, get_or-append_right, get_or-take, get_or-drop, get_or_default, get_or_past, length-drop, length-append, length-take-le}
use Rattle.std.proofs.lemmas.List.FromFn.{length-map-range_with_len, get_or-map-range_with_len}
use Rattle.cells.specs.Contents.{Content, cells, cell_at, UNDEFINED, in_range, overwritten, part}
use Rattle.front_model.specs.Wanted.{with_bytes, with_copy}

-- what is seen is right at each defined cell of a content
abbrev pub Right : (ℕ → ℕ) → Content → Type 0
Right seen content = (p : ℕ) → cell_at content p < 256 → seen p ≡ cell_at content p

-- cells become undefined at most
abbrev pub Fades : Content → Content → Type 0
Fades old new = (p : ℕ) → cell_at new p < 256 → cell_at new p ≡ cell_at old p

defined : {a b : ℕ} → a ≡ b → a < 256 → b < 256
defined same h = omega (arith, same)

pub Right-gone : (seen : ℕ → ℕ) (content : Content) → content ≡ [] → Right seen content
Right-gone seen content gone = λ p h. let low : 256 < 256 = defined (ap (λ c. cell_at c p) gone) h in absurd (omega (arith, low))

pub Right-same : (seen : ℕ → ℕ) (content other : Content) → content ≡ other → Right seen other → Right seen content
Right-same seen content other same right = subst (Right seen) (sym same) right

pub Right-faded : (seen : ℕ → ℕ) (old new : Content) → Fades old new → Right seen old → Right seen new
Right-faded seen old new fades right = λ p h. right p (defined (fades p h) h) ∙ sym (fades p h)

-- cells that are given by a function
pub cell_at-cells : (n : ℕ) (f : ℕ → ℕ) (i : ℕ) → i < n → cell_at (cells n f) i ≡ f i
cell_at-cells n f i low = get_or-map-range_with_len f 0 n i i UNDEFINED low (omega arith)

pub cell_at-past : (content : Content) (i : ℕ) → length content ≤ i → cell_at content i ≡ 256
cell_at-past content i past = get_or_past content i UNDEFINED past

pub length-cells : (n : ℕ) (f : ℕ → ℕ) → length (cells n f) ≡ n
length-cells n f = length-map-range_with_len f 0 n

-- a defined cell is given by the function
pub cell_at-defined : (n : ℕ) (f : ℕ → ℕ) (i : ℕ) → cell_at (cells n f) i < 256 → (i < n) × (cell_at (cells n f) i ≡ f i)
cell_at-defined n f i h = by_side (cases_lt i n)
  where
    by_side : (i < n) ⊎ (n ≤ i) → (i < n) × (cell_at (cells n f) i ≡ f i)
    by_side (inl low) = (low, cell_at-cells n f i low)
    by_side (inr past) =
        let gone : cell_at (cells n f) i ≡ 256 = cell_at-past (cells n f) i (rw (length-cells n f) past) in
        absurd (omega (arith, gone, h))

-- a range

pub in_range-below : (at len i : ℕ) → i < at → in_range at len i ≡ false
in_range-below at len i h = grind (arith, common_steps)

pub in_range-past : (at len i : ℕ) → at + len ≤ i → in_range at len i ≡ false
in_range-past at len i h = grind (arith, common_steps)

pub in_range-in : (at len i : ℕ) → at ≤ i → i < at + len → in_range at len i ≡ true
in_range-in at len i h k = grind (arith, common_steps)

pub in_range-sides : (at len i : ℕ) → in_range at len i ≡ true → (at ≤ i) × (i < at + len)
in_range-sides at len i h = (grind (arith, common_steps), grind (arith, common_steps))

-- a range overwritten

module _ (old : List ℕ) (at : ℕ) (new : List ℕ) (inside : at + length new ≤ length old) where
  length_front : length (take at old) ≡ at
  length_front = length-take-le at old (omega (arith, inside))

  length_both : length (take at old ++ new) ≡ at + length new
  length_both = length-append (take at old) new ∙ ap (λ n. n + length new) length_front

  below : (i : ℕ) → i < at → cell_at (overwritten old at new) i ≡ cell_at old i
  below i low =
      let one : i < length (take at old ++ new) = omega (arith, low, length_both) in
      let two : i < length (take at old) = omega (arith, low, length_front) in
      get_or_append_left (take at old ++ new) (drop (at + length new) old) UNDEFINED i one
      ∙ get_or_append_left (take at old) new UNDEFINED i two
      ∙ get_or-take at old i UNDEFINED low

  within : (i : ℕ) → at ≤ i → i < at + length new → cell_at (overwritten old at new) i ≡ slice_index new (i - at)
  within i high low =
      let one : i < length (take at old ++ new) = omega (arith, low, length_both) in
      get_or_append_left (take at old ++ new) (drop (at + length new) old) UNDEFINED i one
      ∙ get_or-append_right (take at old) new at i UNDEFINED length_front high
      ∙ get_or_default new (i - at) UNDEFINED 0 (omega (arith, high, low))

  past : (i : ℕ) → at + length new ≤ i → cell_at (overwritten old at new) i ≡ cell_at old i
  past i high =
      let back : (at + length new) + (i - (at + length new)) ≡ i = omega (arith, high) in
      get_or-append_right (take at old ++ new) (drop (at + length new) old) (at + length new) i UNDEFINED length_both high
      ∙ get_or-drop (at + length new) old (i - (at + length new)) UNDEFINED
      ∙ ap (λ k. cell_at old k) back

  pub cell_at-overwritten : (i : ℕ) → cell_at (overwritten old at new) i ≡ (if in_range at (length new) i then slice_index new (i - at) else cell_at old i)
  cell_at-overwritten i = by_side (cases_lt i at) (cases_lt i (at + length new))
    where
      by_side : (i < at) ⊎ (at ≤ i) → (i < at + length new) ⊎ (at + length new ≤ i) → cell_at (overwritten old at new) i ≡ (if in_range at (length new) i then slice_index new (i - at) else cell_at old i)
      by_side (inl low) side = rw (in_range-below at (length new) i low) (below i low)
      by_side (inr high) (inl low) = rw (in_range-in at (length new) i high low) (within i high low)
      by_side (inr high) (inr far) = rw (in_range-past at (length new) i far) (past i far)

  -- what is seen with these items in place of the range
  pub Right-with_bytes : (seen : ℕ → ℕ) → Right seen old → Right (with_bytes seen at new) (overwritten old at new)
  Right-with_bytes seen right = λ p h. by_case p (in_range at (length new) p) (cell_at-overwritten p) h
    where
      by_case : (p : ℕ) (t : Bool) → cell_at (overwritten old at new) p ≡ cond t (slice_index new (p - at)) (cell_at old p) → cell_at (overwritten old at new) p < 256 → cond t (slice_index new (p - at)) (seen p) ≡ cell_at (overwritten old at new) p
      by_case p true is h = sym is
      by_case p false is h = right p (defined is h) ∙ sym is

  -- cells that are not defined in place of the range
  pub Fades-overwritten : ((i : ℕ) → i < length new → slice_index new i ≡ 256) → Fades old (overwritten old at new)
  Fades-overwritten undefined = λ p h. by_case p (in_range at (length new) p) refl (cell_at-overwritten p) h
    where
      by_case : (p : ℕ) (t : Bool) → in_range at (length new) p ≡ t → cell_at (overwritten old at new) p ≡ cond t (slice_index new (p - at)) (cell_at old p) → cell_at (overwritten old at new) p < 256 → cell_at (overwritten old at new) p ≡ cell_at old p
      by_case p true there is h =
          let sides : (at ≤ p) × (p < at + length new) = in_range-sides at (length new) p there in
          let gone : slice_index new (p - at) ≡ 256 = undefined (p - at) (omega (arith, sides.0, sides.1)) in
          let low : 256 < 256 = defined (is ∙ gone) h in
          absurd (omega (arith, low))
      by_case p false there is h = is

-- a part of a content

pub length-part : (content : Content) (at len : ℕ) → at + len ≤ length content → length (part content at len) ≡ len
length-part content at len inside = length-take-le len (drop at content) (long (length content) at len inside (length-drop at content))
  where
    long : (n at len : ℕ) → at + len ≤ n → length (drop at content) ≡ n - at → len ≤ length (drop at content)
    long n at len h k = omega (arith, h, k)

pub cell_at-part : (content : Content) (at len i : ℕ) → i < len → cell_at (part content at len) i ≡ cell_at content (at + i)
cell_at-part content at len i low = get_or-take len (drop at content) i UNDEFINED low ∙ get_or-drop at content i UNDEFINED

pub index-part : (content : Content) (at len i : ℕ) → at + len ≤ length content → i < len → slice_index (part content at len) i ≡ cell_at content (at + i)
index-part content at len i inside low =
    get_or_default (part content at len) i 0 UNDEFINED (omega (arith, length-part content at len inside, low)) ∙ cell_at-part content at len i low

-- what is seen with cells of another object in place of a range
pub Right-with_copy : (old source : Content) (at from size : ℕ) (seen others : ℕ → ℕ) → at + size ≤ length old → from + size ≤ length source → Right seen old → Right others source → Right (with_copy seen at size others from) (overwritten old at (part source from size))
Right-with_copy old source at from size seen others inside within right also = λ p h. by_case p (in_range at size p) refl (cells_are p) h
  where
    long : length (part source from size) ≡ size
    long = length-part source from size within

    cells_are : (p : ℕ) → cell_at (overwritten old at (part source from size)) p ≡ cond (in_range at size p) (slice_index (part source from size) (p - at)) (cell_at old p)
    cells_are p =
        cell_at-overwritten old at (part source from size) (omega (arith, long, inside)) p
        ∙ ap (λ n. cond (in_range at n p) (slice_index (part source from size) (p - at)) (cell_at old p)) long

    by_case : (p : ℕ) (t : Bool) → in_range at size p ≡ t → cell_at (overwritten old at (part source from size)) p ≡ cond t (slice_index (part source from size) (p - at)) (cell_at old p) → cell_at (overwritten old at (part source from size)) p < 256 → cond t (others (from + (p - at))) (seen p) ≡ cell_at (overwritten old at (part source from size)) p
    by_case p true there is h =
        let sides : (at ≤ p) × (p < at + size) = in_range-sides at size p there in
        let copied : cell_at (overwritten old at (part source from size)) p ≡ cell_at source (from + (p - at)) =
        is ∙ index-part source from size (p - at) within (omega (arith, sides.0, sides.1)) in
        also (from + (p - at)) (defined copied h) ∙ sym copied
    by_case p false there is h = right p (defined is h) ∙ sym is
