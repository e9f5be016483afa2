-- Texels that are written one after another.
use Rattle.std.proofs.Common.{◌≡◌, ℕ, ◌+◌, ◌-◌, ◌*◌, ◌%◌, ◌<◌, ◌≤◌, List, length, true, false, refl, sym, ◌∙◌, ap, arith, inl, inr}
use Rattle.std.specs.Prelude.{◌⊎◌, nat_lt}
use Rattle.std.proofs.lemmas.Bool.{cases_Bool, ltb-true, ltb-false}
use Rattle.std.proofs.lemmas.Nat.{mod-mul-add}
use Rattle.cells.specs.Contents.{cell_at, overwritten}
use Rattle.vk_objects.specs.Images.{IsPainted}
use Rattle.vk_model.proofs.Parts.{overwritten-before, overwritten-inside, overwritten-after}
use Rattle.vk_objects.proofs.RowSteps.{distributes}

pub none_painted : (old texel : List ℕ) (at : ℕ) → IsPainted old old at 0 texel
none_painted old texel at = record { inside = λ j lt. absurd (omega (arith, lt)); outside = λ i out. refl }

module _ (old now texel : List ℕ) (at x : ℕ) (painted : IsPainted old now at x texel) (fits : at + x * length texel + length texel ≤ length now) where
  more : (x + 1) * length texel ≡ x * length texel + length texel
  more = distributes x 1 (length texel) ∙ omega arith

  pub one_painted : IsPainted old (overwritten now (at + x * length texel) texel) at (x + 1) texel
  one_painted = record {
    inside = λ j lt. go j lt (cases_Bool (nat_lt j (x * length texel)));
    outside = λ i out. elim out [
      | inl before ↦ overwritten-before now (at + x * length texel) texel fits i (omega (arith, before)) ∙ painted.outside i (inl before)
      | inr past ↦ overwritten-after now (at + x * length texel) texel fits i (omega (arith, past, more)) ∙ painted.outside i (inr (omega (arith, past, more)))
    ];
  }
    where
      go : (j : ℕ) → j < (x + 1) * length texel → (nat_lt j (x * length texel) ≡ true) ⊎ (nat_lt j (x * length texel) ≡ false) → cell_at (overwritten now (at + x * length texel) texel) (at + j) ≡ cell_at texel (j % length texel)
      go j lt (inl b) =
          let before : j < x * length texel = ltb-true j (x * length texel) b in
          overwritten-before now (at + x * length texel) texel fits (at + j) (omega (arith, before)) ∙ painted.inside j before
      go j lt (inr nb) =
          let from : x * length texel ≤ j = ltb-false j (x * length texel) nb in
          let b : ℕ = j - x * length texel in
          let b_lt : b < length texel = omega (arith, from, lt, more) in
          let is : x * length texel + b ≡ j = omega (arith, from) in
          let place : at + x * length texel + b ≡ at + j = omega (arith, is) in
          ap (cell_at (overwritten now (at + x * length texel) texel)) (sym place)
          ∙ overwritten-inside now (at + x * length texel) texel fits b b_lt
          ∙ ap (cell_at texel) (sym (mod-mul-add x (length texel) b b_lt) ∙ ap (λ n. n % length texel) is)
