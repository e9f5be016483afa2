-- The words of generated lines, as spellings of values.
use Rattle.std.proofs.Common.{◌≡◌, ℕ, ◌<◌, List, ◌∷◌, ◌++◌, Some, refl, ap, ◌∙◌, arith}
use Rattle.std.specs.Prelude.{codes}
use Rattle.std.specs.Fmt.{decimal}
use Rattle.gl_calls.specs.declared.payload.Payload.TheVariants.{Ramp}
use Rattle.trace_words.specs.Numbers.{decimal_of}
use Rattle.trace_text.specs.Spelling.{IsPayload}
use Rattle.trace_text.proofs.WordLaws.{decimal_takes}

numeral : (word : List ℕ) (n : ℕ) → decimal_of word ≡ Some n → word ≡ decimal n
numeral word n e = (decimal_takes word n e).0

pub is_0 : codes "0" ≡ decimal 0
unfolding decimal_of
is_0 = numeral (codes "0") 0 refl

pub is_1 : codes "1" ≡ decimal 1
unfolding decimal_of
is_1 = numeral (codes "1") 1 refl

pub is_2 : codes "2" ≡ decimal 2
unfolding decimal_of
is_2 = numeral (codes "2") 2 refl

pub is_3 : codes "3" ≡ decimal 3
unfolding decimal_of
is_3 = numeral (codes "3") 3 refl

pub is_4 : codes "4" ≡ decimal 4
unfolding decimal_of
is_4 = numeral (codes "4") 4 refl

pub is_8 : codes "8" ≡ decimal 8
unfolding decimal_of
is_8 = numeral (codes "8") 8 refl

pub is_16 : codes "16" ≡ decimal 16
unfolding decimal_of
is_16 = numeral (codes "16") 16 refl

pub is_32 : codes "32" ≡ decimal 32
unfolding decimal_of
is_32 = numeral (codes "32") 32 refl

is_64 : codes "64" ≡ decimal 64
unfolding decimal_of
is_64 = numeral (codes "64") 64 refl

pub is_256 : codes "256" ≡ decimal 256
unfolding decimal_of
is_256 = numeral (codes "256") 256 refl

abbrev ramp_word : List ℕ → List ℕ → List ℕ → List ℕ
ramp_word len start step = 37 ∷ (len ++ 44 ∷ (start ++ 44 ∷ step))

ramp_is : (len start step : List ℕ) (l s t : ℕ) → len ≡ decimal l → start ≡ decimal s → step ≡ decimal t → ramp_word len start step ≡ ramp_word (decimal l) (decimal s) (decimal t)
ramp_is len start step l s t a b c =
    ap (λ (x : List ℕ). ramp_word x start step) a ∙ ap (λ (x : List ℕ). ramp_word (decimal l) x step) b ∙ ap (λ (x : List ℕ). ramp_word (decimal l) (decimal s) x) c

pub ramp_256 : (n : ℕ) → n < 240 → IsPayload (codes "%256," ++ (decimal n ++ codes ",1")) (Ramp 256 n 1)
ramp_256 n lt = (omega arith, omega arith, omega arith, ramp_is (codes "256") (decimal n) (codes "1") 256 n 1 is_256 refl is_1)

pub zeros_256 : IsPayload (codes "%256,0,0") (Ramp 256 0 0)
zeros_256 = (omega arith, omega arith, omega arith, ramp_is (codes "256") (codes "0") (codes "0") 256 0 0 is_256 is_0 is_0)

pub ramp_16 : (n : ℕ) → n < 240 → IsPayload (codes "%16," ++ (decimal n ++ codes ",1")) (Ramp 16 n 1)
ramp_16 n lt = (omega arith, omega arith, omega arith, ramp_is (codes "16") (decimal n) (codes "1") 16 n 1 is_16 refl is_1)

pub ramp_64 : (n : ℕ) → n < 240 → IsPayload (codes "%64," ++ (decimal n ++ codes ",1")) (Ramp 64 n 1)
ramp_64 n lt = (omega arith, omega arith, omega arith, ramp_is (codes "64") (decimal n) (codes "1") 64 n 1 is_64 refl is_1)
