-- The rows of a read, one after another.
use Rattle.std.proofs.Common.{◌≡◌, ◌≢◌, ℕ, ◌+◌, ◌-◌, ◌*◌, ◌/◌, ◌%◌, ◌<◌, ◌≤◌, true, cond, List, length, sym, ◌∙◌, ap, subst, arith, inl, inr}
use Rattle.std.specs.Prelude.{◌⊎◌, ◌&&◌, slice_index, replicate, if◌then◌else◌}
use Rattle.std.proofs.Math.Nat.{mul_comm, mul-le-mul_right, mul-le-mul_left}
use Rattle.std.proofs.lemmas.Bool.{cases_lt, cases_eq, and_from, and_left, and_right, cond-true, cond-false}
use Rattle.std.proofs.lemmas.Nat.{mul-add-lt, div-mul-add, mod-mul-add, div-add-mod', div_below, mod_below}
use Rattle.std.proofs.lemmas.List.{get_or_default, get_or-replicate, length-replicate}
use Rattle.std.proofs.lemmas.List.FromFn.{fill_by_all}
use Rattle.cells.specs.Contents.{cell_at, UNDEFINED, in_range, part, overwritten}
use Rattle.vk_model.proofs.Parts.{overwritten-inside, overwritten-outside, length-overwritten, part-at, length-part}
use Rattle.transfer.proofs.Painting.{IsAmong, cases_range, in_range-in, in_range-out}
use Rattle.readback.specs.declared.plan.ReadPlan.{ReadPlan}
use Rattle.readback.specs.Plans.{plan_size, part_row, row_at, placed}

-- a row of a part of some rows lies in all
pub row_fits : (width height texel left top w h row : ℕ) → left + w ≤ width → top + h ≤ height → row < h → ((top + row) * width + left) * texel + w * texel ≤ width * height * texel
row_fits width height texel left top w h row columns rows below =
    let down : (top + row + 1) * width ≤ height * width = mul-le-mul_right width (omega (arith, rows, below)) in
    let next : (top + row + 1) * width ≡ (top + row) * width + width = grind arith in
    let turned : height * width ≡ width * height = mul_comm height width in
    let texels : (top + row) * width + left + w ≤ width * height = omega (arith, down, next, turned, columns) in
    let bytes : ((top + row) * width + left + w) * texel ≤ width * height * texel = mul-le-mul_right texel texels in
    let apart : ((top + row) * width + left + w) * texel ≡ ((top + row) * width + left) * texel + w * texel = grind arith in
    omega (arith, bytes, apart)

-- the same of what is read
pub part_fits : (texel w h row : ℕ) → row < h → row * (w * texel) + w * texel ≤ w * h * texel
part_fits texel w h row below =
    let down : (row + 1) * (w * texel) ≤ h * (w * texel) = mul-le-mul_right (w * texel) (omega (arith, below)) in
    let next : (row + 1) * (w * texel) ≡ row * (w * texel) + w * texel = grind arith in
    let turned : h * (w * texel) ≡ w * h * texel = grind arith in
    omega (arith, down, next, turned)

module _ (plan : ReadPlan) (host : List ℕ) where
  abbrev column_in : ℕ → ℕ
  column_in k = k / plan.texel % plan.width

  abbrev row_in : ℕ → ℕ
  row_in k = k / plan.texel / plan.width

  abbrev host_byte : ℕ → ℕ
  host_byte k = slice_index host (((k / plan.texel / plan.width - plan.part.top) * plan.part.rect.w + (k / plan.texel % plan.width - plan.part.left)) * plan.texel + k % plan.texel)

  -- what stands at a place once so many rows are placed
  abbrev pub placed_to : ℕ → ℕ → ℕ
  placed_to n k = if in_range plan.part.left plan.part.rect.w (column_in k) && in_range plan.part.top n (row_in k) then host_byte k else 0

  -- so many rows are placed
  pub record HasRows (n : ℕ) (bytes : List ℕ) : Type 0 where
    pub long : length bytes ≡ plan.width * plan.height * plan.texel
    pub each : (k : ℕ) → k < plan.width * plan.height * plan.texel → cell_at bytes k ≡ placed_to n k

module _ (plan : ReadPlan) (host : List ℕ) (columns : plan.part.left + plan.part.rect.w ≤ plan.width) (rows : plan.part.top + plan.part.rect.h ≤ plan.height) (size : length host ≡ plan_size plan) where
  abbrev width : ℕ
  width = plan.width

  abbrev texel : ℕ
  texel = plan.texel

  abbrev left : ℕ
  left = plan.part.left

  abbrev top : ℕ
  top = plan.part.top

  abbrev w : ℕ
  w = plan.part.rect.w

  abbrev column_of : ℕ → ℕ
  column_of k = k / plan.texel % plan.width

  abbrev row_of : ℕ → ℕ
  row_of k = k / plan.texel / plan.width

  abbrev from_host : ℕ → ℕ
  from_host k = host_byte plan host k

  some_texel : (k : ℕ) → k < plan.width * plan.height * plan.texel → 0 < texel
  some_texel k below = go (cases_lt 0 texel)
    where
      go : (0 < texel) ⊎ (texel ≤ 0) → 0 < texel
      go (inl some) = some
      go (inr none) =
          let flat : plan.width * plan.height * texel ≤ plan.width * plan.height * 0 = mul-le-mul_left (plan.width * plan.height) none in
          let zero' : plan.width * plan.height * 0 ≡ 0 = grind arith in
          absurd (omega (arith, flat, zero', below))

  -- a place by its row, its column and its byte
  place_of : (k : ℕ) → k ≡ (row_of k * width + column_of k) * texel + k % texel
  place_of k = sym (ap (λ n. n * texel + k % texel) (div-add-mod' (k / texel) width) ∙ div-add-mod' k texel)

  -- the places of a row
  row_there : (n j : ℕ) → j < w * texel → 0 < texel → (row_of (row_at plan n + j) ≡ top + n) × (column_of (row_at plan n + j) ≡ left + j / texel)
  row_there n j below some =
      let rest : j / texel * texel + j % texel ≡ j = div-add-mod' j texel in
      let apart : ((top + n) * width + (left + j / texel)) * texel ≡ ((top + n) * width + left) * texel + j / texel * texel = grind arith in
      let is : row_at plan n + j ≡ ((top + n) * width + (left + j / texel)) * texel + j % texel = omega (arith, rest, apart) in
      let part' : j % texel < texel = mod_below j texel some in
      let inside : j / texel < w = div_below j texel w some below in
      let texels : (row_at plan n + j) / texel ≡ (top + n) * width + (left + j / texel) = ap (λ k. k / texel) is ∙ div-mul-add ((top + n) * width + (left + j / texel)) texel (j % texel) part' in
      let in_width : left + j / texel < width = (let fits = columns in omega (arith, inside, fits)) in
      (ap (λ k. k / width) texels ∙ div-mul-add (top + n) width (left + j / texel) in_width, ap (λ k. k % width) texels ∙ mod-mul-add (top + n) width (left + j / texel) in_width)

  module _ (n : ℕ) (bytes : List ℕ) (below : n < plan.part.rect.h) (has : HasRows plan host n bytes) where
    abbrev piece : List ℕ
    piece = part host (n * part_row plan) (part_row plan)

    abbrev after : List ℕ
    after = overwritten bytes (row_at plan n) piece

    in_host : n * part_row plan + part_row plan ≤ length host
    in_host = let fits = part_fits texel w plan.part.rect.h n below in let all = size in omega (arith, fits, all)

    long_piece : length piece ≡ part_row plan
    long_piece = length-part host (n * part_row plan) (part_row plan) in_host

    in_bytes : row_at plan n + length piece ≤ length bytes
    in_bytes =
        let fits = row_fits width plan.height texel left top w plan.part.rect.h n columns rows below in
        let long = has.long in
        let piece_is = long_piece in
        omega (arith, fits, long, piece_is)

    -- a place in the row
    in_the_row : (k : ℕ) → k < plan.width * plan.height * plan.texel → row_of k ≡ top + n → IsAmong left w (column_of k) → cell_at after k ≡ placed_to plan host (n + 1) k
    in_the_row k inside row among =
        let some : 0 < texel = some_texel k inside in
        let j : ℕ = (column_of k - left) * texel + k % texel in
        let byte : k % texel < texel = mod_below k texel some in
        let turned : texel * w ≡ w * texel = mul_comm texel w in
        let in_row : (column_of k - left) * texel + k % texel < texel * w = mul-add-lt (column_of k - left) texel (k % texel) w among.below byte in
        let from = among.is in
        let split : (row_of k * width + column_of k) * texel ≡ ((top + n) * width + left) * texel + (column_of k - left) * texel =
        ap (λ r. (r * width + column_of k) * texel) row ∙ ap (λ c. ((top + n) * width + c) * texel) from ∙ grind arith in
        let whole = place_of k in
        let is : k ≡ row_at plan n + ((column_of k - left) * texel + k % texel) = omega (arith, whole, split) in
        let piece_is = long_piece in
        let at_host : n * part_row plan + ((column_of k - left) * texel + k % texel) ≡ ((row_of k - top) * w + (column_of k - left)) * texel + k % texel =
        (let back : row_of k - top ≡ n = omega (arith, row) in
        let same : ((row_of k - top) * w + (column_of k - left)) * texel ≡ n * (w * texel) + (column_of k - left) * texel = ap (λ r. (r * w + (column_of k - left)) * texel) back ∙ grind arith in
        omega (arith, same)) in
        let host_has = in_host in
        let rows_test : in_range top (n + 1) (row_of k) ≡ true = in_range-in top (n + 1) (row_of k) (omega (arith, row)) (omega (arith, row)) in
        let start = among.from in
        let end = among.below in
        let columns_test : in_range left w (column_of k) ≡ true = in_range-in left w (column_of k) start (omega (arith, start, end)) in
        ap (cell_at after) is
        ∙ overwritten-inside bytes (row_at plan n) piece in_bytes ((column_of k - left) * texel + k % texel) (omega (arith, in_row, turned, piece_is))
        ∙ part-at host (n * part_row plan) (part_row plan) ((column_of k - left) * texel + k % texel) (omega (arith, in_row, turned))
        ∙ sym (get_or_default host (n * part_row plan + ((column_of k - left) * texel + k % texel)) 0 UNDEFINED (omega (arith, in_row, turned, host_has)))
        ∙ ap (slice_index host) at_host
        ∙ sym (cond-true (in_range left w (column_of k) && in_range top (n + 1) (row_of k)) (from_host k) 0 (and_from (in_range left w (column_of k)) (in_range top (n + 1) (row_of k)) columns_test rows_test))

    -- a place that is not in the row
    abbrev IsElsewhere : ℕ → Type 0
    IsElsewhere k = (row_of k ≡ top + n → ⊥) ⊎ ((column_of k < left) ⊎ (left + w ≤ column_of k))

    tests_stay : (k : ℕ) → IsElsewhere k → (in_range left w (column_of k) && in_range top n (row_of k)) ≡ (in_range left w (column_of k) && in_range top (n + 1) (row_of k))
    tests_stay k (inr beside) =
        and_left (in_range left w (column_of k)) (in_range top n (row_of k)) (in_range-out left w (column_of k) beside)
        ∙ sym (and_left (in_range left w (column_of k)) (in_range top (n + 1) (row_of k)) (in_range-out left w (column_of k) beside))
    tests_stay k (inl other) = ap (λ t. in_range left w (column_of k) && t) (go (cases_range top n (row_of k)))
      where
        go : IsAmong top n (row_of k) ⊎ ((row_of k < top) ⊎ (top + n ≤ row_of k)) → in_range top n (row_of k) ≡ in_range top (n + 1) (row_of k)
        go (inl among) =
            let from = among.from in
            let to = among.below in
            in_range-in top n (row_of k) from (omega (arith, from, to)) ∙ sym (in_range-in top (n + 1) (row_of k) from (omega (arith, from, to)))
        go (inr (inl before)) = in_range-out top n (row_of k) (inl before) ∙ sym (in_range-out top (n + 1) (row_of k) (inl before))
        go (inr (inr past)) =
            let not_here : row_of k ≢ top + n = other in
            in_range-out top n (row_of k) (inr past) ∙ sym (in_range-out top (n + 1) (row_of k) (inr (omega (arith, past, not_here))))

    outside_the_row : (k : ℕ) → k < plan.width * plan.height * plan.texel → IsElsewhere k → (k < row_at plan n) ⊎ (row_at plan n + length piece ≤ k)
    outside_the_row k inside elsewhere = go (cases_range (row_at plan n) (part_row plan) k)
      where
        some : 0 < texel
        some = some_texel k inside

        there : IsAmong (row_at plan n) (part_row plan) k → (row_of k ≡ top + n) × (column_of k ≡ left + (k - row_at plan n) / texel)
        there among =
            let both = row_there n (k - row_at plan n) among.below some in
            (ap row_of among.is ∙ both.0, ap column_of among.is ∙ both.1)

        never : IsElsewhere k → IsAmong (row_at plan n) (part_row plan) k → ⊥
        never (inl other) among = other (there among).0
        never (inr beside) among =
            let column = (there among).1 in
            let in_width : (k - row_at plan n) / texel < w = div_below (k - row_at plan n) texel w some among.below in
            elim beside [ inl before ↦ omega (arith, before, column) | inr past ↦ omega (arith, past, column, in_width) ]

        go : IsAmong (row_at plan n) (part_row plan) k ⊎ ((k < row_at plan n) ⊎ (row_at plan n + part_row plan ≤ k)) → (k < row_at plan n) ⊎ (row_at plan n + length piece ≤ k)
        go (inl among) = absurd (never elsewhere among)
        go (inr (inl before)) = inl before
        go (inr (inr past)) = inr (let piece_is = long_piece in omega (arith, past, piece_is))

    elsewhere_stays : (k : ℕ) → k < plan.width * plan.height * plan.texel → IsElsewhere k → cell_at after k ≡ placed_to plan host (n + 1) k
    elsewhere_stays k inside elsewhere =
        overwritten-outside bytes (row_at plan n) piece in_bytes k (outside_the_row k inside elsewhere)
        ∙ has.each k inside
        ∙ ap (λ t. cond t (from_host k) 0) (tests_stay k elsewhere)

    pub rows_more : HasRows plan host (n + 1) after
    rows_more = record { long = length-overwritten bytes (row_at plan n) piece in_bytes ∙ has.long; each = λ k inside. go k inside (cases_eq (row_of k) (top + n)) (cases_range left w (column_of k)) }
      where
        go : (k : ℕ) → k < plan.width * plan.height * plan.texel → (row_of k ≡ top + n) ⊎ (row_of k ≡ top + n → ⊥) → IsAmong left w (column_of k) ⊎ ((column_of k < left) ⊎ (left + w ≤ column_of k)) → cell_at after k ≡ placed_to plan host (n + 1) k
        go k inside (inl row) (inl among) = in_the_row k inside row among
        go k inside (inl row) (inr beside) = elsewhere_stays k inside (inr beside)
        go k inside (inr other) rest = elsewhere_stays k inside (inl other)

  pub rows_none : (bytes : List ℕ) → bytes ≡ replicate (plan.width * plan.height * plan.texel) 0 → HasRows plan host 0 bytes
  rows_none bytes is = subst (HasRows plan host 0) (sym is) (record {
    long = length-replicate (plan.width * plan.height * plan.texel) 0;
    each = λ k inside. get_or-replicate (plan.width * plan.height * plan.texel) k 0 UNDEFINED inside
        ∙ sym (cond-false (in_range left w (column_of k) && in_range top 0 (row_of k)) (from_host k) 0 (and_right (in_range left w (column_of k)) (in_range top 0 (row_of k)) (in_range-out top 0 (row_of k) (none k (cases_lt (row_of k) top)))));
  })
    where
      none : (k : ℕ) → (row_of k < top) ⊎ (top ≤ row_of k) → (row_of k < top) ⊎ (top + 0 ≤ row_of k)
      none k (inl before) = inl before
      none k (inr past) = inr (omega (arith, past))

  pub rows_all : (bytes : List ℕ) → HasRows plan host plan.part.rect.h bytes → bytes ≡ placed plan host
  rows_all bytes has = fill_by_all (placed_to plan host plan.part.rect.h) bytes (plan.width * plan.height * plan.texel) UNDEFINED has.long has.each
