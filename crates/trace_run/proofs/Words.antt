-- The words of the two commands that are served, and the text that each has run.
use Rattle.std.proofs.Common.{◌≡◌, ℕ, ◌<◌, ◌≤◌, true, false, List, [], ◌∷◌, length, Option, Some, codes, inl, inr, refl, sym, ap, ◌∙◌, arith}
use Rattle.std.specs.Fmt.{decimal}
use Rattle.std.specs.Io.KnownBytes.{Consumes}
use Rattle.std.proofs.lemmas.Fmt.{decimal_injective}
use Rattle.trace_run.specs.declared.saying.Output.{Output}
use Rattle.trace_run.specs.declared.saying.Output.TheVariants as output
use Rattle.trace_run.specs.Once.{Names, SpellsOnce, SpellsGen, IsServed, IsRead, IsBrought, IsTooLong, text_of_number}

-- the first letter of the first word
first_letter : List (List ℕ) → ℕ
first_letter [] = 0
first_letter ([] ∷ words) = 0
first_letter ((letter ∷ word) ∷ words) = letter

-- the second word
second_word : List (List ℕ) → List ℕ
second_word [] = []
second_word (word ∷ []) = []
second_word (word ∷ second ∷ words) = second

pub once_no_gen : (words : List (List ℕ)) (number : ℕ) → SpellsOnce words → SpellsGen words number → ⊥
unfolding first_letter
once_no_gen words number once gen =
    let e : codes "once" ∷ once.2.0 ≡ codes "gen" ∷ decimal number ∷ [] = sym once.2.1 ∙ gen.1 in
    let f : 111 ≡ 103 = ap first_letter e in
    omega (arith, f)

-- no words spell `gen` of two numbers
one_number : (words : List (List ℕ)) (number other : ℕ) → SpellsGen words number → SpellsGen words other → number ≡ other
unfolding second_word
one_number words number other a b =
    decimal_injective number other a.0 b.0 (ap second_word (sym a.1 ∙ b.1))

-- words that name a seed and what is written are served
pub served_by : (words : List (List ℕ)) (seed : ℕ) (output : Output) → Names words seed output → IsServed words
served_by words seed output.Replies named = inl (seed, false, named)
served_by words seed output.RepliesAndSummary named = inl (seed, true, named)
served_by words seed output.SummaryAlone named = inr (seed, named)

-- `gen` has the summary alone written
pub gen_shows : (words : List (List ℕ)) (number seed : ℕ) (shown : Output) → SpellsGen words number → Names words seed shown →
    shown ≡ output.SummaryAlone
gen_shows words number seed output.Replies gen named = absurd (once_no_gen words number (seed, false, named) gen)
gen_shows words number seed output.RepliesAndSummary gen named = absurd (once_no_gen words number (seed, true, named) gen)
gen_shows words number seed output.SummaryAlone gen named = refl

-- what `once` has run was read
pub brought_read : (words : List (List ℕ)) (seed : ℕ) (output : Output) (left left_after : Option (List ℕ)) (text : List ℕ) →
    SpellsOnce words → Names words seed output → IsBrought seed output left left_after text → IsRead left left_after text
brought_read words seed output.Replies left left_after text once named brought = brought
brought_read words seed output.RepliesAndSummary left left_after text once named brought = brought
brought_read words seed output.SummaryAlone left left_after text once named brought = absurd (once_no_gen words seed once named)

-- what `gen` has run was made
pub brought_made : (words : List (List ℕ)) (number seed : ℕ) (output : Output) (left left_after : Option (List ℕ)) (text : List ℕ) →
    SpellsGen words number → Names words seed output → IsBrought seed output left left_after text → text ≡ text_of_number number
brought_made words number seed output.Replies left left_after text gen named brought =
    absurd (once_no_gen words number (seed, false, named) gen)
brought_made words number seed output.RepliesAndSummary left left_after text gen named brought =
    absurd (once_no_gen words number (seed, true, named) gen)
brought_made words number seed output.SummaryAlone left left_after text gen named brought =
    brought.1 ∙ ap text_of_number (one_number words seed number named gen)

-- of `gen` no text is too long
pub made_is_short : (words : List (List ℕ)) (number seed : ℕ) (output : Output) (left left_after : Option (List ℕ)) →
    SpellsGen words number → Names words seed output → IsTooLong output left left_after → ⊥
made_is_short words number seed output.Replies left left_after gen named long = once_no_gen words number (seed, false, named) gen
made_is_short words number seed output.RepliesAndSummary left left_after gen named long = once_no_gen words number (seed, true, named) gen
made_is_short words number seed output.SummaryAlone left left_after gen named long = long

-- what came where too much came
pub long_text : (output : Output) (left left_after : Option (List ℕ)) → IsTooLong output left left_after →
    (text : List ℕ) × Consumes left left_after text × (67108864 < length text)
long_text output.Replies left left_after long = long
long_text output.RepliesAndSummary left left_after long = long
long_text output.SummaryAlone left left_after long = absurd long

-- The text that the words have run: that of the source, which is not too long, or that of a number.
pub data Brings (words : List (List ℕ)) (left : Option (List ℕ)) (text : List ℕ) : Type 0 where
  source : SpellsOnce words → left ≡ Some text → length text ≤ 67108864 → Brings words left text
  made : (number : ℕ) → SpellsGen words number → text ≡ text_of_number number → Brings words left text
