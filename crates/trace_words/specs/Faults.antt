-- Reading that may fail.
use Rattle.std.specs.Prelude.{◌≡◌, ℕ, List, ◌&&◌, nat_le, length, Option, Some, None, Result, Ok, Err, if◌then◌else◌}
use Rattle.trace_words.specs.declared.fault.Fault.{Fault}
use Rattle.trace_words.specs.declared.fault.Fault.TheVariants as fault
use Rattle.trace_words.specs.declared.fault.Stop.{Stop}
use Rattle.trace_words.specs.declared.fault.Stop.TheVariants as stop

infixl 10 ◌>>=◌
abbrev pub ◌>>=◌ : {A B : Type 0} → Result A Fault → (A → Result B Fault) → Result B Fault
(Ok x) >>= f = f x
(Err e) >>= f = Err e

-- the value, or else this fault
abbrev pub or_fault : {A : Type 0} → Fault → Option A → Result A Fault
or_fault fault (Some x) = Ok x
or_fault fault None = Err fault

-- What a function returned is what reading gives, unless memory ran out.
abbrev pub Fails : {A : Type 0} → Stop → Result A Fault → Type 0
Fails stop.Memory read = Unit {0}
Fails (stop.Fault fault) read = read ≡ Err fault

abbrev pub Gives : {A : Type 0} → Result A Stop → Result A Fault → Type 0
Gives (Ok x) read = read ≡ Ok x
Gives (Err e) read = Fails e read

-- What a function returned, seen by view, is what reading gives.
abbrev pub Reads : {A B : Type 0} → (A → B) → Result A Fault → Result B Fault → Type 0
Reads view (Ok x) read = read ≡ Ok (view x)
Reads view (Err fault) read = read ≡ Err fault

-- What a function returned, and the words that it left, are what reading gives.
abbrev pub Takes : {A B : Type 0} → Result A Fault → B → Result (A × B) Fault → Type 0
Takes (Ok x) left read = read ≡ Ok (x, left)
Takes (Err fault) left read = read ≡ Err fault

-- the same, unless memory ran out
abbrev pub TakesUnlessMemory : {A B : Type 0} → Result A Stop → B → Result (A × B) Fault → Type 0
TakesUnlessMemory (Ok x) left read = read ≡ Ok (x, left)
TakesUnlessMemory (Err e) left read = Fails e read

-- from this many to that many words
abbrev pub between : ℕ → ℕ → List (List ℕ) → Result (Unit {0}) Fault
between low high words = if nat_le low (length words) && nat_le (length words) high then Ok tt else Err fault.Count
