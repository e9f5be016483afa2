-- The least sides are those of the area that all images have in common.
use Rattle.std.proofs.Common.{◌≡◌, ℕ, ◌&&◌, Bool, true, false, List, [], ◌∷◌, Option, Some, None, min, nat_lt, IfSome, IfNone, sym, ap, ◌∙◌, refl, arith}
use Rattle.std.specs.Option.{option_map_or}
use Rattle.std.proofs.lemmas.Bool.Decides.{nat_tests}
use Rattle.std.proofs.lemmas.Grind.{common_steps}
use Rattle.gl_model.specs.declared.objects.ImageInfo.{ImageInfo}
use Rattle.gl_model.specs.ImageEffect.{in_common}
use Rattle.fbo_state.specs.Framebuffers.{least_sides}

none_step : (i : ImageInfo) (rest : List ImageInfo) (sides : Option (ℕ × ℕ)) → IfNone {T = ℕ × ℕ} (option_map_or (λ a. Some (min i.width a.0, min i.height a.1)) sides (Some (i.width, i.height))) (i ∷ rest ≡ [])
none_step i rest None = tt
none_step i rest (Some a) = tt

pub least_sides-none : (images : List ImageInfo) → IfNone (least_sides images) (images ≡ [])
least_sides-none [] = refl
least_sides-none (i ∷ rest) = none_step i rest (least_sides rest)

below_both : (x a b : ℕ) → nat_lt x (min a b) ≡ (nat_lt x a && nat_lt x b)
below_both x a b = grind (arith, nat_tests)

join : (a b c d : Bool) → ((a && b) && (c && d)) ≡ ((a && c) && (b && d))
join true true c d = refl
join true false true d = refl
join true false false d = refl
join false true c d = refl
join false false c d = refl

area_step : (i : ImageInfo) (rest : List ImageInfo) (sides : Option (ℕ × ℕ)) → IfNone sides (rest ≡ []) → IfSome sides (λ a. (x y : ℕ) → in_common rest x y ≡ (nat_lt x a.0 && nat_lt y a.1)) → IfSome {T = ℕ × ℕ} (option_map_or (λ a. Some (min i.width a.0, min i.height a.1)) sides (Some (i.width, i.height))) (λ a. (x y : ℕ) → in_common (i ∷ rest) x y ≡ (nat_lt x a.0 && nat_lt y a.1))
area_step i rest None empty common = λ x y. rw empty (grind (arith, common_steps))
area_step i rest (Some a) empty common =
    λ x y. ap (λ b. (nat_lt x i.width && nat_lt y i.height) && b) (common x y)
    ∙ join (nat_lt x i.width) (nat_lt y i.height) (nat_lt x a.0) (nat_lt y a.1)
    ∙ sym (ap (λ b. b && nat_lt y (min i.height a.1)) (below_both x i.width a.0) ∙ ap (λ b. (nat_lt x i.width && nat_lt x a.0) && b) (below_both y i.height a.1))

pub least_sides-common : (images : List ImageInfo) → IfSome (least_sides images) (λ a. (x y : ℕ) → in_common images x y ≡ (nat_lt x a.0 && nat_lt y a.1))
least_sides-common [] = tt
least_sides-common (i ∷ rest) = area_step i rest (least_sides rest) (least_sides-none rest) (least_sides-common rest)
