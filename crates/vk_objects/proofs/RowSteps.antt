-- Rows of a rectangle of an image that are written one after another.
use Rattle.std.proofs.Common.{◌≡◌, ◌≢◌, ℕ, ◌+◌, ◌-◌, ◌*◌, ◌/◌, ◌%◌, ◌<◌, ◌≤◌, true, false, refl, sym, ◌∙◌, ap, arith, inl, inr}
use Rattle.std.specs.Prelude.{◌⊎◌, pos, Option, Some, None, nat_eq, nat_lt}
use Rattle.std.proofs.lemmas.Bool.{cases_Bool, eqb-true, eqb-false, ltb-true, ltb-false}
use Rattle.std.proofs.lemmas.Nat.{div-add-mod', div_below, mod_below}
use Rattle.vk_types.specs.declared.handles.Kind.{Kind}
use Rattle.vk_types.specs.declared.regions.Rect.{Rect}
use Rattle.vk_model.specs.Cells.{place, column_at, row_at, byte_at, width_of, texel_size, behind, at_both, in_rect}
use Rattle.vk_model.proofs.Images.{byte_of_place, behind_in, behind_out, in_rect_inside}

pub distributes : (a b t : ℕ) → (a + b) * t ≡ a * t + b * t
distributes a b t = omega arith

-- the first k rows of a rectangle
abbrev pub first_rows : Rect → ℕ → Rect
first_rows rect k = record { x = rect.x; y = rect.y; w = rect.w; h = k }

-- what a place has once k rows are written: f of the column, the row and the byte in the rectangle
abbrev pub so_far : Kind → Rect → (ℕ → ℕ → ℕ → ℕ) → ℕ → ℕ → ℕ → ℕ
so_far kind rect f k i old = in_rect kind (first_rows rect k) i (λ x y. f x y (byte_at kind i)) old

-- a place is that of its column, its row and its byte
pub place_of : (kind : Kind) (i : ℕ) → place kind (column_at kind i) (row_at kind i) (byte_at kind i) ≡ i
place_of kind i =
    let t = texel_size kind in let w = width_of kind in
    ap (λ n. n * t + i % t) (div-add-mod' (i / t) w) ∙ div-add-mod' i t

module _ (kind : Kind) (rect : Rect) (left top : ℕ) (x_is : rect.x ≡ pos left) (y_is : rect.y ≡ pos top) (some : 0 < texel_size kind) (right : left + rect.w ≤ width_of kind) (f : ℕ → ℕ → ℕ → ℕ) where
  -- a byte of the row that is written next
  pub in_row : (k j : ℕ) → place kind left (top + k) 0 + j ≡ place kind (left + j / texel_size kind) (top + k) (j % texel_size kind)
  in_row k j =
      let t = texel_size kind in let w = width_of kind in
      let whole : j / t * t + j % t ≡ j = div-add-mod' j t in
      let split : ((top + k) * w + left + j / t) * t ≡ ((top + k) * w + left) * t + j / t * t = distributes ((top + k) * w + left) (j / t) t in
      let join : (top + k) * w + (left + j / t) ≡ (top + k) * w + left + j / t = omega arith in
      let sum : ((top + k) * w + left) * t + 0 + j ≡ ((top + k) * w + left + j / t) * t + j % t = omega (arith, whole, split) in
      sum ∙ ap (λ n. n * t + j % t) (sym join)

  written_now : (k j : ℕ) → j < rect.w * texel_size kind → (old : ℕ) → so_far kind rect f (k + 1) (place kind left (top + k) 0 + j) old ≡ f (j / texel_size kind) k (j % texel_size kind)
  written_now k j lt old =
      let t = texel_size kind in
      let column : j / t < rect.w = div_below j t rect.w some lt in
      let byte : j % t < t = mod_below j t some in
      let g : ℕ → ℕ = λ i. so_far kind rect f (k + 1) i old in
      ap g (in_row k j)
      ∙ in_rect_inside kind (first_rows rect (k + 1)) left top x_is y_is (left + j / t) (top + k) (j % t) (omega (arith, column, right)) byte
      (λ x y. f x y (byte_at kind (place kind (left + j / t) (top + k) (j % t)))) old (omega arith) (omega (arith, column)) (omega arith) (omega arith)
      ∙ ap (λ x. f x (top + k - top) (byte_at kind (place kind (left + j / t) (top + k) (j % t)))) (let e : left + j / t - left ≡ j / t = omega arith in e)
      ∙ ap (λ y. f (j / t) y (byte_at kind (place kind (left + j / t) (top + k) (j % t)))) (let e : top + k - top ≡ k = omega arith in e)
      ∙ ap (f (j / t) k) (byte_of_place kind (left + j / t) (top + k) (j % t) byte)

  -- what is not in the row that is written next stays
  row_apart : (k r : ℕ) → r ≢ top + k → behind rect.y (k + 1) r ≡ behind rect.y k r
  row_apart k r apart = ap (λ z. behind z (k + 1) r) y_is ∙ go (cases_Bool (nat_lt r top)) (cases_Bool (nat_lt r (top + k))) ∙ ap (λ z. behind z k r) (sym y_is)
    where
      go : (nat_lt r top ≡ true) ⊎ (nat_lt r top ≡ false) → (nat_lt r (top + k) ≡ true) ⊎ (nat_lt r (top + k) ≡ false) → behind (pos top) (k + 1) r ≡ behind (pos top) k r
      go (inl before) rest = let b : r < top = ltb-true r top before in behind_out top (k + 1) r (inl b) ∙ sym (behind_out top k r (inl b))
      go (inr from) (inl below) =
          let a : top ≤ r = ltb-false r top from in
          let b : r < top + k = ltb-true r (top + k) below in
          behind_in top (k + 1) r a (omega (arith, b)) ∙ sym (behind_in top k r a b)
      go (inr from) (inr past) =
          let b : top + k ≤ r = ltb-false r (top + k) past in
          let c : top + (k + 1) ≤ r = omega (arith, b, apart) in
          behind_out top (k + 1) r (inr c) ∙ sym (behind_out top k r (inr b))

  -- a texel in the row lies in the row's places
  in_places : (k i : ℕ) → row_at kind i ≡ top + k → left ≤ column_at kind i → column_at kind i < left + rect.w → (place kind left (top + k) 0 ≤ i) × (i < place kind left (top + k) 0 + rect.w * texel_size kind)
  in_places k i row from below =
      let t = texel_size kind in let w = width_of kind in let column = column_at kind i in let byte = byte_at kind i in
      let byte_below : byte < t = mod_below i t some in
      let is : ((top + k) * w + column) * t + byte ≡ i = ap (λ r. (r * w + column) * t + byte) (sym row) ∙ place_of kind i in
      let more : ℕ = column - left in
      let more_is : left + more ≡ column = omega (arith, from) in
      let more_below : more + 1 ≤ rect.w = omega (arith, from, below) in
      let at : ((top + k) * w + left + more) * t + byte ≡ i = ap (λ n. n * t + byte) (let e : (top + k) * w + left + more ≡ (top + k) * w + column = omega (arith, more_is) in e) ∙ is in
      let split : ((top + k) * w + left + more) * t ≡ ((top + k) * w + left) * t + more * t = distributes ((top + k) * w + left) more t in
      let next : (more + 1) * t ≤ rect.w * t = Rattle.std.proofs.Math.Nat.mul-le-mul_right t more_below in
      let one_more : (more + 1) * t ≡ more * t + 1 * t = distributes more 1 t in
      let one_t : 1 * t ≡ t = omega arith in
      (omega (arith, at, split), omega (arith, at, split, next, one_more, one_t, byte_below))

  column_apart : (k i old : ℕ) → behind rect.x rect.w (column_at kind i) ≡ None → so_far kind rect f (k + 1) i old ≡ so_far kind rect f k i old
  column_apart k i old none =
      ap (λ o. at_both o (behind rect.y (k + 1) (row_at kind i)) (λ x y. f x y (byte_at kind i)) old) none
      ∙ sym (ap (λ o. at_both o (behind rect.y k (row_at kind i)) (λ x y. f x y (byte_at kind i)) old) none)

  kept_now : (k i old : ℕ) → (i < place kind left (top + k) 0) ⊎ (place kind left (top + k) 0 + rect.w * texel_size kind ≤ i) → so_far kind rect f (k + 1) i old ≡ so_far kind rect f k i old
  kept_now k i old out = go (cases_Bool (nat_eq (row_at kind i) (top + k)))
    where
      beside : row_at kind i ≡ top + k → (nat_lt (column_at kind i) left ≡ true) ⊎ (nat_lt (column_at kind i) left ≡ false) → (nat_lt (column_at kind i) (left + rect.w) ≡ true) ⊎ (nat_lt (column_at kind i) (left + rect.w) ≡ false) → behind rect.x rect.w (column_at kind i) ≡ None
      beside row (inl before) rest = ap (λ z. behind z rect.w (column_at kind i)) x_is ∙ behind_out left rect.w (column_at kind i) (inl (ltb-true (column_at kind i) left before))
      beside row (inr from) (inr past) = ap (λ z. behind z rect.w (column_at kind i)) x_is ∙ behind_out left rect.w (column_at kind i) (inr (ltb-false (column_at kind i) (left + rect.w) past))
      beside row (inr from) (inl below) =
          let both = in_places k i row (ltb-false (column_at kind i) left from) (ltb-true (column_at kind i) (left + rect.w) below) in
          absurd (elim out [ inl before ↦ omega (arith, before, both.0) | inr past ↦ omega (arith, past, both.1) ])

      go : (nat_eq (row_at kind i) (top + k) ≡ true) ⊎ (nat_eq (row_at kind i) (top + k) ≡ false) → so_far kind rect f (k + 1) i old ≡ so_far kind rect f k i old
      go (inl same) = column_apart k i old (beside (eqb-true (row_at kind i) (top + k) same) (cases_Bool (nat_lt (column_at kind i) left)) (cases_Bool (nat_lt (column_at kind i) (left + rect.w))))
      go (inr other) = ap (λ o. at_both (behind rect.x rect.w (column_at kind i)) o (λ x y. f x y (byte_at kind i)) old) (row_apart k (row_at kind i) (eqb-false (row_at kind i) (top + k) other))

  -- One more row: its places have what f says, and all others stay.
  pub row_step : (k : ℕ) (xs ys old : ℕ → ℕ)
      → ((i : ℕ) → xs i ≡ so_far kind rect f k i (old i))
      → ((j : ℕ) → j < rect.w * texel_size kind → ys (place kind left (top + k) 0 + j) ≡ f (j / texel_size kind) k (j % texel_size kind))
      → ((i : ℕ) → (i < place kind left (top + k) 0) ⊎ (place kind left (top + k) 0 + rect.w * texel_size kind ≤ i) → ys i ≡ xs i)
      → (i : ℕ) → ys i ≡ so_far kind rect f (k + 1) i (old i)
  row_step k xs ys old before inside outside i = go (cases_Bool (nat_lt i (place kind left (top + k) 0))) (cases_Bool (nat_lt i (place kind left (top + k) 0 + rect.w * texel_size kind)))
    where
      go : (nat_lt i (place kind left (top + k) 0) ≡ true) ⊎ (nat_lt i (place kind left (top + k) 0) ≡ false) → (nat_lt i (place kind left (top + k) 0 + rect.w * texel_size kind) ≡ true) ⊎ (nat_lt i (place kind left (top + k) 0 + rect.w * texel_size kind) ≡ false)
          → ys i ≡ so_far kind rect f (k + 1) i (old i)
      go (inl b) rest =
          let lt : i < place kind left (top + k) 0 = ltb-true i (place kind left (top + k) 0) b in
          outside i (inl lt) ∙ before i ∙ sym (kept_now k i (old i) (inl lt))
      go (inr from) (inr past) =
          let le : place kind left (top + k) 0 + rect.w * texel_size kind ≤ i = ltb-false i (place kind left (top + k) 0 + rect.w * texel_size kind) past in
          outside i (inr le) ∙ before i ∙ sym (kept_now k i (old i) (inr le))
      go (inr from) (inl below) =
          let at = place kind left (top + k) 0 in
          let ge : at ≤ i = ltb-false i at from in
          let lt : i < at + rect.w * texel_size kind = ltb-true i (at + rect.w * texel_size kind) below in
          let j : ℕ = i - at in
          let e : at + j ≡ i = omega (arith, ge) in
          let j_lt : j < rect.w * texel_size kind = omega (arith, ge, lt) in
          ap ys (sym e) ∙ inside j j_lt ∙ sym (written_now k j j_lt (old i)) ∙ ap (λ p. so_far kind rect f (k + 1) p (old i)) e

  -- No row yet.
  pub no_row : (i old : ℕ) → old ≡ so_far kind rect f 0 i old
  no_row i old = sym (ap (λ o. at_both (behind rect.x rect.w (column_at kind i)) o (λ x y. f x y (byte_at kind i)) old) (ap (λ z. behind z 0 (row_at kind i)) y_is ∙ never) ∙ nothing_there (behind rect.x rect.w (column_at kind i)))
    where
      never : behind (pos top) 0 (row_at kind i) ≡ None
      never = elim (cases_Bool (nat_lt (row_at kind i) top)) [
        | inl before ↦ behind_out top 0 (row_at kind i) (inl (ltb-true (row_at kind i) top before))
        | inr from ↦ behind_out top 0 (row_at kind i) (inr (let le : top ≤ row_at kind i = ltb-false (row_at kind i) top from in omega (arith, le)))
      ]

      nothing_there : (o : Option ℕ) → at_both o None (λ x y. f x y (byte_at kind i)) old ≡ old
      nothing_there None = refl
      nothing_there (Some a) = refl
