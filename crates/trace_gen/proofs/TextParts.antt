-- The text of the trace, part by part, and the rounds, word by word.
use Rattle.std.proofs.Common.{◌≡◌, ℕ, zero, suc, ◌+◌, ◌-◌, ◌*◌, ◌<◌, ◌≤◌, ◌++◌, List, [], ◌∷◌, length, refl, sym, ap, ◌∙◌, arith, append_assoc}
use Rattle.std.specs.Prelude.{codes}
use Rattle.std.proofs.lemmas.List.{append-nil}
use Rattle.std.proofs.lemmas.Grind.{flat_map-append}
use Rattle.rand_core.specs.Stream.{Stream}
use Rattle.rand_core.specs.Steps.{first_words, stream_of, steps_u64_high}
use Rattle.rand_core.proofs.StepsLemmas.{next_u64-stream_of}
use Rattle.rand_xoshiro.specs.SplitMix64.{splitmix_seed}
use Rattle.rand_xoshiro.specs.Xoshiro256.{of_seed, plus_plus}
use Rattle.trace_gen.specs.Lines.{Words, line_text, lines_text, header, first_lines, last_lines}
use Rattle.trace_gen.specs.Generated.{of_threads, rounds, next_round, after_words, stream_words, call_lines, generated_lines, generated_text, words_of_number}

pub both : (xs ys : List Words) → lines_text (xs ++ ys) ≡ lines_text xs ++ lines_text ys
both xs ys = flat_map-append line_text xs ys

five : (a b c d e : List Words) → lines_text (a ++ (b ++ c ++ d) ++ e) ≡ lines_text a ++ lines_text b ++ lines_text c ++ lines_text d ++ lines_text e
five a b c d e =
    rw (both (a ++ (b ++ c ++ d)) e, both a (b ++ c ++ d), both (b ++ c) d, both b c)
    (ap (λ (x : List ℕ). x ++ lines_text e) (sym (append_assoc (lines_text a) (lines_text b ++ lines_text c) (lines_text d)) ∙ ap (λ (x : List ℕ). x ++ lines_text d) (sym (append_assoc (lines_text a) (lines_text b) (lines_text c)))))

-- the text is that of its parts
pub text_parts : (words : List ℕ) → generated_text words ≡ lines_text header ++ lines_text (of_threads first_lines) ++ lines_text (rounds words) ++ lines_text (of_threads last_lines) ++ lines_text ((codes "end" ∷ []) ∷ [])
unfolding generated_text generated_lines call_lines
text_parts words = five header (of_threads first_lines) (rounds words) (of_threads last_lines) ((codes "end" ∷ []) ∷ [])

-- the words of a generator are those of its stream
stream_is : (n : ℕ) (s : List ℕ) → stream_words n (stream_of (steps_u64_high plus_plus) s) ≡ first_words plus_plus n s
unfolding stream_words first_words
stream_is zero s = refl
stream_is (suc n) s = rw (next_u64-stream_of (steps_u64_high plus_plus) s) (ap (λ (ws : List ℕ). (plus_plus s).0 ∷ ws) (stream_is n (plus_plus s).1))

pub words_are : (number : ℕ) → stream_words 2000 (stream_of (steps_u64_high plus_plus) (of_seed (splitmix_seed 32 number))) ≡ words_of_number number
unfolding words_of_number
words_are number = stream_is 2000 (of_seed (splitmix_seed 32 number))

one_round : (n : ℕ) (s : Stream) → rounds (stream_words (suc (suc (suc (suc n)))) s) ≡ next_round s ++ rounds (stream_words n (after_words 4 s))
unfolding rounds stream_words
one_round n s = refl

-- a round before the other rounds that are left
pub next_is : (i : ℕ) (s : Stream) → i < 500 → rounds (stream_words (4 * (500 - i)) s) ≡ next_round s ++ rounds (stream_words (4 * (500 - (i + 1))) (after_words 4 s))
next_is i s lt =
    let e : 4 * (500 - i) ≡ suc (suc (suc (suc (4 * (500 - (i + 1)))))) = omega arith in
    ap (λ (n : ℕ). rounds (stream_words n s)) e ∙ one_round (4 * (500 - (i + 1))) s

-- what is written and what is left stay the same in a round
pub round_step : (out after total : List ℕ) (i : ℕ) (s t : Stream) → i < 500 → after ≡ out ++ lines_text (next_round s) → t ≡ after_words 4 s
    → out ++ lines_text (rounds (stream_words (4 * (500 - i)) s)) ≡ total → after ++ lines_text (rounds (stream_words (4 * (500 - (i + 1))) t)) ≡ total
round_step out after total i s t lt h k inv =
    let left : List ℕ = lines_text (rounds (stream_words (4 * (500 - (i + 1))) (after_words 4 s))) in
    let e : lines_text (rounds (stream_words (4 * (500 - i)) s)) ≡ lines_text (next_round s) ++ left = ap lines_text (next_is i s lt) ∙ both (next_round s) (rounds (stream_words (4 * (500 - (i + 1))) (after_words 4 s))) in
    ap (λ (x : List ℕ). x ++ lines_text (rounds (stream_words (4 * (500 - (i + 1))) t))) h
    ∙ ap (λ (z : Stream). (out ++ lines_text (next_round s)) ++ lines_text (rounds (stream_words (4 * (500 - (i + 1))) z))) k
    ∙ append_assoc out (lines_text (next_round s)) left ∙ ap (λ (x : List ℕ). out ++ x) (sym e) ∙ inv

none_left : (s : Stream) → rounds (stream_words 0 s) ≡ []
unfolding rounds stream_words
none_left s = refl

-- at the end nothing is left
pub rounds_end : (out total : List ℕ) (i : ℕ) (s : Stream) → 500 ≤ i → out ++ lines_text (rounds (stream_words (4 * (500 - i)) s)) ≡ total → out ≡ total
rounds_end out total i s end inv =
    let e : 4 * (500 - i) ≡ 0 = omega arith in
    sym (append-nil out) ∙ ap (λ (ls : List Words). out ++ lines_text ls) (sym (none_left s)) ∙ ap (λ (n : ℕ). out ++ lines_text (rounds (stream_words n s))) (sym e) ∙ inv

-- the text that is written part by part
pub whole_text : (number : ℕ) (start opened started rounded closed ended : List ℕ) (s : List ℕ) → start ≡ [] → opened ≡ start ++ lines_text header → started ≡ opened ++ lines_text (of_threads first_lines)
    → rounded ≡ started ++ lines_text (rounds (stream_words 2000 (stream_of (steps_u64_high plus_plus) s))) → closed ≡ rounded ++ lines_text (of_threads last_lines) → ended ≡ closed ++ lines_text ((codes "end" ∷ []) ∷ [])
    → s ≡ of_seed (splitmix_seed 32 number) → ended ≡ generated_text (words_of_number number)
whole_text number start opened started rounded closed ended s none h1 h2 h3 h4 h5 seeded =
    let words : stream_words 2000 (stream_of (steps_u64_high plus_plus) s) ≡ words_of_number number = ap (λ (x : List ℕ). stream_words 2000 (stream_of (steps_u64_high plus_plus) x)) seeded ∙ words_are number in
    let a : opened ≡ lines_text header = h1 ∙ ap (λ (x : List ℕ). x ++ lines_text header) none in
    let b : started ≡ lines_text header ++ lines_text (of_threads first_lines) = h2 ∙ ap (λ (x : List ℕ). x ++ lines_text (of_threads first_lines)) a in
    let c : rounded ≡ lines_text header ++ lines_text (of_threads first_lines) ++ lines_text (rounds (words_of_number number)) =
    h3 ∙ ap (λ (x : List ℕ). x ++ lines_text (rounds (stream_words 2000 (stream_of (steps_u64_high plus_plus) s)))) b ∙ ap (λ (ws : List ℕ). lines_text header ++ lines_text (of_threads first_lines) ++ lines_text (rounds ws)) words in
    h5 ∙ ap (λ (x : List ℕ). x ++ lines_text ((codes "end" ∷ []) ∷ [])) (h4 ∙ ap (λ (x : List ℕ). x ++ lines_text (of_threads last_lines)) c) ∙ sym (text_parts (words_of_number number))

length_first : (n : ℕ) (s : List ℕ) → length (first_words plus_plus n s) ≡ n
unfolding first_words
length_first zero s = refl
length_first (suc n) s = ap suc (length_first n (plus_plus s).1)

pub enough_words : (number : ℕ) → length (words_of_number number) ≤ 2000
unfolding words_of_number
enough_words number = omega (arith, length_first 2000 (of_seed (splitmix_seed 32 number)))
