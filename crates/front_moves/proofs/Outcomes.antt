-- What a call's clauses say once its result was tested.
use Rattle.std.proofs.Common.{◌≡◌, ℕ, ◌<◌, true, false, List, [], ◌++◌, length, sym, ◌∙◌, ap}
use Rattle.std.specs.Prelude.{Result, Ok, Err, OnOk, OnErr, IfOk, slice_set, slice_index_or}
use Rattle.std.specs.Result.{is_ok, is_err}
use Rattle.std.proofs.lemmas.Bool.{false≢true}
use Rattle.std.proofs.lemmas.List.{get_or-set_same, set-set, append_assoc}

pub from_ok : {T E P : Type 0} (r : Result T E) → is_ok r ≡ true → OnOk r P → P
from_ok (Ok v) ok p = p
from_ok (Err e) ok p = absurd (false≢true ok)

pub from_no_err : {T E P : Type 0} (r : Result T E) → is_err r ≡ false → OnOk r P → P
from_no_err (Ok v) ok p = p
from_no_err (Err e) ok p = absurd (false≢true (sym ok))

-- more was added behind what was added at a place
pub pushed_then : {A : Type 0} (xs ys zs : List (List A)) (place : ℕ) (one two : List A) → place < length xs → ys ≡ slice_set xs place (slice_index_or xs place [] ++ one) →
    zs ≡ slice_set ys place (slice_index_or ys place [] ++ two) → zs ≡ slice_set xs place (slice_index_or xs place [] ++ (one ++ two))
pushed_then {A} xs ys zs place one two inside first second =
    second
    ∙ ap (λ l. slice_set l place (slice_index_or l place [] ++ two)) first
    ∙ set-set xs place both (slice_index_or (slice_set xs place both) place [] ++ two)
    ∙ ap (λ l. slice_set xs place (l ++ two)) (get_or-set_same xs place both [] inside)
    ∙ ap (slice_set xs place) (append_assoc (slice_index_or xs place []) one two)
  where
    both : List A
    both = slice_index_or xs place [] ++ one

pub from_not_ok : {T E P : Type 0} (r : Result T E) → is_ok r ≡ false → OnErr r P → P
from_not_ok (Ok v) ok p = absurd (false≢true (sym ok))
from_not_ok (Err e) ok p = p

-- what holds however a call ended
pub on_either : {T E P N Q : Type 0} (r : Result T E) → (P → Q) → (N → Q) → OnOk r P → OnErr r N → Q
on_either (Ok v) good bad p n = good p
on_either (Err e) good bad p n = bad n

-- what holds however a call ended that answers with a value
pub if_either : {T E N Q : Type 0} {P : T → Type 0} (r : Result T E) → ((v : T) → P v → Q) → (N → Q) → IfOk r P → OnErr r N → Q
if_either (Ok v) good bad p n = good v p
if_either (Err e) good bad p n = bad n
