-- Lists with one element replaced, and what holds of the histories of a list of fronts.
use Rattle.std.proofs.Common.{◌≡◌, ◌≢◌, ℕ, suc, zero, ◌<◌, List, [], ◌∷◌, map, length, get_or, Some, None, refl, sym, ap, ◌∙◌, subst, arith}
use Rattle.std.specs.Prelude.{slice_get, slice_set, unwrap_or, Option}
use Rattle.std.specs.Option.{option_map}
use Rattle.std.proofs.lemmas.Option.{slice_get-map, slice_get_read}
use Rattle.gl_calls.specs.declared.reply.Entry.{Entry}
use Rattle.front_core.specs.Front.{FrontModel}
use Rattle.world_core.specs.World.{history_at, histories_of, group_numbers}

pub get_set : {X : Type 0} (xs : List X) (i : ℕ) (x y : X) → slice_get xs i ≡ Some x → slice_get (slice_set xs i y) i ≡ Some y
get_set [] i x y at = absurd (cc)
get_set (z ∷ xs) zero x y at = refl
get_set (z ∷ xs) (suc i) x y at = get_set xs i x y at

pub get_set_other : {X : Type 0} (xs : List X) (i j : ℕ) (y : X) → j ≢ i → slice_get (slice_set xs i y) j ≡ slice_get xs j
get_set_other [] i j y ne = refl
get_set_other (z ∷ xs) zero zero y ne = absurd (ne refl)
get_set_other (z ∷ xs) zero (suc j) y ne = refl
get_set_other (z ∷ xs) (suc i) zero y ne = refl
get_set_other (z ∷ xs) (suc i) (suc j) y ne = get_set_other xs i j y (λ e. ne (ap suc e))

-- an element has one value
pub same_at : {X : Type 0} (xs : List X) (i : ℕ) (x y : X) → slice_get xs i ≡ Some x → slice_get xs i ≡ Some y → x ≡ y
same_at xs i x y at_x at_y = let e : Some x ≡ Some y = sym at_x ∙ at_y in cc

pub history_is : (fronts : List FrontModel) (group : ℕ) (front : FrontModel) → slice_get fronts group ≡ Some front →
    history_at (histories_of fronts) group ≡ front.history
history_is fronts group front at =
    ap (λ (o : Option (List Entry)). unwrap_or o []) (slice_get-map (λ (f : FrontModel). f.history) fronts group
    ∙ ap (option_map (λ (f : FrontModel). f.history)) at)

pub history_other : (fronts : List FrontModel) (group other : ℕ) (front : FrontModel) → other ≢ group →
    history_at (histories_of (slice_set fronts group front)) other ≡ history_at (histories_of fronts) other
history_other fronts group other front ne =
    ap (λ (o : Option (List Entry)). unwrap_or o [])
    (slice_get-map (λ (f : FrontModel). f.history) (slice_set fronts group front) other
    ∙ ap (option_map (λ (f : FrontModel). f.history)) (get_set_other fronts group other front ne)
    ∙ sym (slice_get-map (λ (f : FrontModel). f.history) fronts other))

-- a front with the same history leaves the histories as they were
pub same_histories : (fronts : List FrontModel) (group : ℕ) (before after : FrontModel) → slice_get fronts group ≡ Some before →
    after.history ≡ before.history →
    histories_of (slice_set fronts group after) ≡ histories_of fronts
same_histories [] group before after at same = refl
same_histories (front ∷ fronts) zero before after at same =
    let is : front ≡ before = cc in
    ap (λ (h : List Entry). h ∷ histories_of fronts) (same ∙ sym (ap (λ (f : FrontModel). f.history) is))
same_histories (front ∷ fronts) (suc group) before after at same = ap (λ (hs : List (List Entry)). front.history ∷ hs)
    (same_histories fronts group before after at same)

-- the group's number stands among those of the groups
pub number_at : (group : ℕ) → group < 8 → slice_get group_numbers group ≡ Some group
number_at zero low = refl
number_at (suc zero) low = refl
number_at (suc (suc zero)) low = refl
number_at (suc (suc (suc zero))) low = refl
number_at (suc (suc (suc (suc zero)))) low = refl
number_at (suc (suc (suc (suc (suc zero))))) low = refl
number_at (suc (suc (suc (suc (suc (suc zero)))))) low = refl
number_at (suc (suc (suc (suc (suc (suc (suc zero))))))) low = refl
number_at (suc (suc (suc (suc (suc (suc (suc (suc group)))))))) low = absurd (omega (arith, low))

-- an element that was read
pub read_at : {X : Type 0} (xs : List X) (i j : ℕ) (x : X) → i ≡ j → j < length xs → x ≡ get_or xs i x → slice_get xs j ≡ Some x
read_at xs i j x same low is = subst (λ (n : ℕ). slice_get xs n ≡ Some x) same
    (slice_get_read xs (length xs) i x refl (omega (arith, same, low)) is)
