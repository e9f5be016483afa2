-- A step of a cleanup that goes on behind entries that were passed.
use Rattle.std.proofs.Common.{◌≡◌, ℕ, ◌<◌, ◌≤◌, false, List, [], ◌∷◌, ◌++◌, length, get_or, slice_index, Option, Some, None, IfSome, IfNone, inl, inr, sym, ap, subst, ◌∙◌, ◌⊎◌, arith}
use Rattle.std.proofs.lemmas.Bool.{cases_lt}
use Rattle.std.proofs.lemmas.List.{get_or_append_left, length-append}
use Rattle.std.proofs.lemmas.List.Edits.{get_or-insert_below, length-insert}
use Rattle.garbage.specs.declared.entry.Garbage.{Garbage}
use Rattle.garbage.specs.declared.turning.Turning.{Turning}
use Rattle.garbage.specs.Collecting.{is_covered, AreKept, TakesOut}
use Rattle.garbage.specs.Steps.{in_order, OnlyTurns}

-- an entry that was passed is not covered where the first of those to come is taken out behind it
before-start : (read : List ℕ) (passed coming new : List Garbage) (from place : ℕ) (item : Garbage)
    → AreKept read passed from (length passed) → TakesOut (passed ++ coming) new (length passed) read place item
    → (k : ℕ) (d : Garbage) → from ≤ k → k < length passed → is_covered read (get_or new k d) ≡ false
before-start read passed coming new from place item kept out k d low lt =
    let same : get_or new k d ≡ get_or passed k d = cc (
      get_or-insert_below new place item d k (omega (arith, out.after, lt)) out.within,
      get_or_append_left passed coming d k lt,
      out.taken,
    ) in
    rw same (kept k d low lt)

-- what is taken out behind the entries that were passed is the first from an earlier place on, where none that was passed is covered
first-earlier : (read : List ℕ) (passed coming new : List Garbage) (from place : ℕ) (item : Garbage)
    → AreKept read passed from (length passed) → TakesOut (passed ++ coming) new (length passed) read place item
    → AreKept read new from place
first-earlier read passed coming new from place item kept out = λ k d low high.
    elim (cases_lt k (length passed)) [
      | inl lt ↦ before-start read passed coming new from place item kept out k d low lt
      | inr ge ↦ out.first k d ge high
    ]

takes-earlier : (read : List ℕ) (old passed coming new : List Garbage) (from place : ℕ) (item : Garbage)
    → passed ++ coming ≡ old → (from ≤ length passed) ⊎ (length coming ≡ 0) → AreKept read passed from (length passed)
    → TakesOut (passed ++ coming) new (length passed) read place item → TakesOut old new from read place item
takes-earlier read old passed coming new from place item e reached kept out = record {
  taken = sym e ∙ out.taken;
  within = out.within;
  after = omega (arith, reached, out.after, out.within, length-append passed coming, ap length out.taken, length-insert new place item out.within);
  covered = out.covered;
  first = first-earlier read passed coming new from place item kept out;
}

-- a cleanup that goes on behind the entries that were passed takes out the first from an earlier place on
pub some-earlier : (read : List ℕ) (old passed coming new : List Garbage) (from : ℕ) (result : Option (ℕ × Garbage))
    → passed ++ coming ≡ old → (from ≤ length passed) ⊎ (length coming ≡ 0) → AreKept read passed from (length passed)
    → IfSome result (λ found. TakesOut (passed ++ coming) new (length passed) read found.0 found.1)
    → IfSome result (λ found. TakesOut old new from read found.0 found.1)
some-earlier read old passed coming new from None e reached kept out = tt
some-earlier read old passed coming new from (Some found) e reached kept out =
    takes-earlier read old passed coming new from found.0 found.1 e reached kept out

kept-earlier : (read : List ℕ) (old passed coming : List Garbage) (from : ℕ) → passed ++ coming ≡ old
    → AreKept read passed from (length passed) → AreKept read old (length passed) (length old) → AreKept read old from (length old)
kept-earlier read old passed coming from e kept rest = λ k d low high.
    elim (cases_lt k (length passed)) [
      | inl lt ↦ rw (← e) (rw (get_or_append_left passed coming d k lt) (kept k d low lt))
      | inr ge ↦ rest k d ge high
    ]

-- and where it takes none, none from the earlier place on is covered
pub none-earlier : (read : List ℕ) (old passed coming new : List Garbage) (from : ℕ) (result : Option (ℕ × Garbage))
    → passed ++ coming ≡ old → AreKept read passed from (length passed)
    → IfNone result (new ≡ old) → IfNone result (AreKept read new (length passed) (length new))
    → IfNone result (AreKept read old from (length old))
none-earlier read old passed coming new from None e kept same rest =
    let P : List Garbage → Type 0 = λ list. AreKept read list (length passed) (length list) in
    kept-earlier read old passed coming from e kept (subst P same rest)
none-earlier read old passed coming new from (Some found) e kept same rest = tt

-- a turn keeps the order
pub turned : (mid new : Turning) (old : List Garbage) (result : Option (ℕ × Garbage)) → in_order mid ≡ old
    → IfNone result (OnlyTurns mid new) → IfNone result (in_order new ≡ old)
turned mid new old None e turns = turns.order ∙ e
turned mid new old (Some found) e turns = tt
