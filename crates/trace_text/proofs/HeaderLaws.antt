-- The line of a thread is read as it is spelled.
use Rattle.std.proofs.Common.{◌≡◌, ℕ, ◌<◌, ◌^◌, Bool, true, false, cond, ◌&&◌, List, ◌∷◌, ◌++◌, Option, Some, None, refl, ap, ◌∙◌}
use Rattle.std.specs.Prelude.{codes, option_and_then}
use Rattle.std.specs.Str.{bytes_eq}
use Rattle.std.specs.Fmt.{decimal}
use Rattle.std.proofs.lemmas.Bool.{and_parts}
use Rattle.std.proofs.lemmas.Fmt.{digits_decimal}
use Rattle.std.proofs.lemmas.Option.{cond_some}
use Rattle.std.proofs.lemmas.Slice.Eq.{bytes_eq-Decides}
use Rattle.trace_words.specs.Lexing.{at_byte}
use Rattle.trace_words.specs.Numbers.{is_decimal}
use Rattle.trace_text.specs.Reading.{thread_numbers}
use Rattle.trace_text.specs.Traces.{thread_text}
use Rattle.trace_words.proofs.NumberLaws.{model}
use Rattle.trace_text.proofs.WordLaws.{decimal_is_decimal}
use Rattle.trace_text.proofs.Steps.{then_some}
use Rattle.trace_text.proofs.ByteLaws.{byte_takes, byte_again, digits_without}

abbrev Parts : Type 0
Parts = List ℕ × List ℕ

cond_none : {A : Type 0} (b : Bool) (o : Option A) (y : A) → cond b o None ≡ Some y → (b ≡ true) × (o ≡ Some y)
cond_none true o y e = (refl, e)
cond_none false o y e = absurd cc

same_text : (xs ys : List ℕ) → bytes_eq xs ys ≡ true → xs ≡ ys
same_text xs ys e = (bytes_eq-Decides xs ys).0 e

abbrev third_part : Parts → Parts → Option Parts
third_part second third = cond (bytes_eq third.0 (codes "group") && is_decimal second.0 && is_decimal third.1) (Some (second.0, third.1)) None

abbrev second_part : Parts → Option Parts
second_part second = option_and_then (third_part second) (at_byte 32 second.1)

abbrev first_part : Parts → Option Parts
first_part first = cond (bytes_eq first.0 (codes "thread")) (option_and_then second_part (at_byte 32 first.1)) None

pub numbers_take : (line : List ℕ) (numbers : Parts) → thread_numbers line ≡ Some numbers → line ≡ thread_text numbers.0 numbers.1
unfolding thread_numbers
numbers_take line numbers e =
    let a = then_some first_part (at_byte 32 line) numbers e in
    let g = cond_none (bytes_eq a.0.0 (codes "thread")) (option_and_then second_part (at_byte 32 a.0.1)) numbers a.2 in
    let b = then_some second_part (at_byte 32 a.0.1) numbers g.1 in
    let c = then_some (third_part b.0) (at_byte 32 b.0.1) numbers b.2 in
    let h = cond_some (bytes_eq c.0.0 (codes "group") && is_decimal b.0.0 && is_decimal c.0.1) (b.0.0, c.0.1) numbers c.2 in
    let k = and_parts (bytes_eq c.0.0 (codes "group") && is_decimal b.0.0) (is_decimal c.0.1) h.0 in
    let m = and_parts (bytes_eq c.0.0 (codes "group")) (is_decimal b.0.0) k.0 in
    let inner : b.0.1 ≡ codes "group" ++ 32 ∷ c.0.1 = byte_takes 32 b.0.1 c.0 c.1 ∙ ap (λ (w : List ℕ). w ++ 32 ∷ c.0.1) (same_text c.0.0 (codes "group") m.0) in
    let middle : a.0.1 ≡ b.0.0 ++ 32 ∷ (codes "group" ++ 32 ∷ c.0.1) = byte_takes 32 a.0.1 b.0 b.1 ∙ ap (λ (w : List ℕ). b.0.0 ++ 32 ∷ w) inner in
    let outer : line ≡ thread_text b.0.0 c.0.1 = byte_takes 32 line a.0 a.1 ∙ ap (λ (w : List ℕ). w ++ 32 ∷ a.0.1) (same_text a.0.0 (codes "thread") g.0) ∙ ap (λ (w : List ℕ). codes "thread" ++ 32 ∷ w) middle in
    outer ∙ ap (λ (x : Parts). thread_text x.0 x.1) h.1

pub numbers_again : (n g : ℕ) → n < 2 ^ 64 → g < 2 ^ 64 → thread_numbers (thread_text (decimal n) (decimal g)) ≡ Some (decimal n, decimal g)
unfolding thread_numbers
numbers_again n g n_small g_small =
    rw (
      byte_again 32 (codes "thread") (decimal n ++ 32 ∷ (codes "group" ++ 32 ∷ decimal g)) refl,
      byte_again 32 (decimal n) (codes "group" ++ 32 ∷ decimal g) (digits_without 32 refl (decimal n) (digits_decimal model n n_small)),
      byte_again 32 (codes "group") (decimal g) refl,
      decimal_is_decimal n n_small,
      decimal_is_decimal g g_small,
    ) refl
