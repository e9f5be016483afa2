-- Reading line after line.
use Rattle.std.proofs.Common.{◌≡◌, ℕ, suc, ◌≤◌, Bool, true, false, cond, eqb, List, [], ◌∷◌, length, Result, Ok, Err, sym, ap, ◌∙◌, arith}
use Rattle.std.specs.List.{onto_first}
use Rattle.trace_words.specs.declared.fault.Fault.{Fault}
use Rattle.trace_text.specs.declared.stop.ParseStop.{ParseStop}
use Rattle.trace_text.specs.declared.stop.ParseStop.TheVariants as stops
use Rattle.trace_words.specs.Lexing.{lines_of}
use Rattle.trace_text.specs.Reading.{State, Place, line_after, lines_after, or_place, FailsAt}

length-onto_first : (c : ℕ) (parts : List (List ℕ)) → length (onto_first c parts) ≤ suc (length parts)
length-onto_first c [] = omega arith
length-onto_first c (part ∷ parts) = omega arith

one_line_more : (b : Bool) (c : ℕ) (lines : List (List ℕ)) (n : ℕ) → length lines ≤ n → length (cond b ([] ∷ lines) (onto_first c lines)) ≤ suc n
one_line_more true c lines n h = omega arith
one_line_more false c lines n h = omega (arith, length-onto_first c lines)

-- There are no more lines than bytes.
pub length-lines_of : (bytes : List ℕ) → length (lines_of bytes) ≤ length bytes
unfolding lines_of
length-lines_of [] = omega arith
length-lines_of (c ∷ cs) = one_line_more (eqb c 10) c (lines_of cs) (length cs) (length-lines_of cs)

-- a step that did not fail
step_is : (number : ℕ) (step : Result State Fault) (t : State) → or_place number step Ok ≡ Ok t → step ≡ Ok t
step_is number (Ok s) t e = let same : s ≡ t = cc in ap (λ (x : State). Ok x) same
step_is number (Err f) t e = absurd cc

then_fails : (number : ℕ) (step : Result State Fault) (go : State → Result State Place) (p : Place) → or_place number step Ok ≡ Err p → or_place number step go ≡ Err p
then_fails number (Ok s) go p e = absurd cc
then_fails number (Err f) go p e = e

pub run_goes_on : (number : ℕ) (s t : State) (line : List ℕ) (lines all : List (List ℕ)) (total : Result State Place) → all ≡ line ∷ lines → or_place number (line_after s line) Ok ≡ Ok t → lines_after s all ≡ total → lines_after t lines ≡ total
unfolding lines_after
run_goes_on number s t line lines all total all_is step h =
    sym (ap (λ (r : Result State Fault). or_place (length s.owners) r (λ x. lines_after x lines)) (step_is number (line_after s line) t step)) ∙ sym (ap (lines_after s) all_is) ∙ h

pub run_ends : (number : ℕ) (s : State) (line : List ℕ) (lines all : List (List ℕ)) (total : Result State Place) (e : ParseStop) → number ≡ length s.owners → all ≡ line ∷ lines → FailsAt e (or_place {B = State} number (line_after s line) Ok) → lines_after s all ≡ total → FailsAt e total
unfolding lines_after
run_ends number s line lines all total stops.Memory number_is all_is step h = tt
run_ends number s line lines all total (stops.Fault n k) number_is all_is step h =
    sym h ∙ ap (lines_after s) all_is ∙ ap (λ (m : ℕ). or_place m (line_after s line) (λ x. lines_after x lines)) (sym number_is) ∙ then_fails number (line_after s line) (λ x. lines_after x lines) (record { line = n; kind = k }) step

pub run_done : (s : State) (all : List (List ℕ)) (total : Result State Place) → all ≡ [] → lines_after s all ≡ total → total ≡ Ok s
unfolding lines_after
run_done s all total none h = sym h ∙ ap (lines_after s) none
