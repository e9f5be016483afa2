-- Numbers without leading zeros are what `decimal` writes.
use Rattle.std.proofs.Common.{◌≡◌, ℕ, zero, suc, ◌<◌, ◌^◌, List, [], ◌∷◌, get_or, Result, Ok, arith, refl, sym, ap, ◌∙◌}
use Rattle.std.specs.Fmt.{decimal}
use Rattle.std.specs.Str.Parse.{ParsesUnsigned, AllDigits, digits_value}
use Rattle.std.proofs.lemmas.Fmt.{decimal_nonempty, decimal_digit, first_decimal, parse-decimal, decimal-digits_value}
use Rattle.std.proofs.lemmas.Str.Parse.{IsNumeralModel, numerals_by_value, tells_digits, parse_plain}
use Rattle.std.proofs.lemmas.Result.{OkIff-at_ok}
use Rattle.command_line.specs.Commands.{StartsPlainly, IsNumber}

pub plain_decimal : (n : ℕ) → n < 2 ^ 64 → StartsPlainly (decimal n)
plain_decimal zero small = let is : decimal 0 ≡ 48 ∷ [] = decimal_digit 0 (omega arith) in rw is (omega arith, omega arith, λ _. refl)
plain_decimal (suc n) small =
    let first : 48 < get_or (decimal (suc n)) 0 0 = first_decimal (suc n) (omega arith) small in
    (decimal_nonempty (suc n) small, (λ e. omega arith), (λ e. absurd (omega arith)))

own : IsNumeralModel (AllDigits 10) (digits_value 10)
own = numerals_by_value (AllDigits 10) tells_digits

-- what is read of a word that starts plainly
pub parsed_plainly : {E : Type 0} (word : List ℕ) (r : Result ℕ E) (n : ℕ) → StartsPlainly word → ParsesUnsigned 64 10 word r → r ≡ Ok n → IsNumber word n
parsed_plainly word r n plain parses is =
    let h = OkIff-at_ok r _ _ n (parse_plain own 64 word r parses plain.1) is in
    (omega (arith, h.0.2, h.1), sym (decimal-digits_value own word h.0.0 plain.0 plain.2 h.0.2) ∙ ap decimal (sym h.1))

-- a number is read again
pub parsed_again : {E : Type 0} (word : List ℕ) (r : Result ℕ E) (n : ℕ) → ParsesUnsigned 64 10 word r → IsNumber word n → r ≡ Ok n
parsed_again word r n parses h = parse-decimal 64 n word r h.0 h.0 h.1 parses

-- no number is a word that begins with `-`
pub no_minus : (n : ℕ) (rest : List ℕ) → n < 2 ^ 64 → decimal n ≡ 45 ∷ rest → ⊥
no_minus zero rest small e = let z : get_or (decimal 0) 0 0 ≡ 48 = ap (λ (w : List ℕ). get_or w 0 0) (decimal_digit 0 (omega arith)) in omega (arith, z, ap (λ (w : List ℕ). get_or w 0 0) e)
no_minus (suc n) rest small e = omega (arith, first_decimal (suc n) (omega arith) small, ap (λ (w : List ℕ). get_or w 0 0) e)
