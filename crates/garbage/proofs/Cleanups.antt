-- A cleanup from the first place to the end takes out what `collect` names.
use Rattle.std.proofs.Common.{◌≡◌, ℕ, zero, suc, ◌+◌, ◌<◌, ◌≤◌, Bool, true, false, not, List, [], ◌∷◌, ◌++◌, length, get_or, take, drop, refl, sym, ap, ◌∙◌, arith}
use Rattle.std.specs.List.{filter, insert}
use Rattle.std.proofs.lemmas.List.{append_assoc, length-take-le, length-drop, get_or-take, get_or-drop, take-append-drop, take-append-le, drop-append-le}
use Rattle.std.proofs.lemmas.List.Elements.{filter-append}
use Rattle.garbage.specs.declared.entry.Garbage.{Garbage}
use Rattle.garbage.specs.Collecting.{is_covered, collect, AreKept, TakesOut, CleansUp}

abbrev is_kept : List ℕ → Garbage → Bool
is_kept read item = not (is_covered read item)

-- of entries that are not covered a cleanup takes none
kept-none : (read : List ℕ) (xs : List Garbage) → ((k : ℕ) (d : Garbage) → k < length xs → is_covered read (get_or xs k d) ≡ false)
    → filter (is_covered read) xs ≡ []
kept-none read [] b = refl
kept-none read (x ∷ xs) b = rw (b 0 x (omega arith)) (kept-none read xs (λ k d lt. b (suc k) d (omega arith)))

kept-all : (read : List ℕ) (xs : List Garbage) → ((k : ℕ) (d : Garbage) → k < length xs → is_covered read (get_or xs k d) ≡ false)
    → filter (is_kept read) xs ≡ xs
kept-all read [] b = refl
kept-all read (x ∷ xs) b = rw (b 0 x (omega arith)) (ap (λ l. x ∷ l) (kept-all read xs (λ k d lt. b (suc k) d (omega arith))))

-- the part of a list from a place on, before another, where no entry is covered
part-kept : (read : List ℕ) (list : List Garbage) (from place : ℕ) → place ≤ length list → AreKept read list from place
    → (k : ℕ) (d : Garbage) → k < length (drop from (take place list)) → is_covered read (get_or (drop from (take place list)) k d) ≡ false
part-kept read list from place within kept k d lt =
    let shorter : from + k < place = omega (arith, length-drop from (take place list), length-take-le place list within) in
    rw (get_or-drop from (take place list) k d, get_or-take place list (from + k) d shorter) (kept (from + k) d (omega arith) shorter)

rest-kept : (read : List ℕ) (list : List Garbage) (from : ℕ) → AreKept read list from (length list)
    → (k : ℕ) (d : Garbage) → k < length (drop from list) → is_covered read (get_or (drop from list) k d) ≡ false
rest-kept read list from kept k d lt =
    let shorter : from + k < length list = omega (arith, length-drop from list) in
    rw (get_or-drop from list k d) (kept (from + k) d (omega arith) shorter)

takes-one : (read : List ℕ) (list new : List Garbage) (from place : ℕ) (item : Garbage) (taken : List Garbage)
    → TakesOut list new from read place item → taken ≡ filter (is_covered read) (drop place new)
    → item ∷ taken ≡ filter (is_covered read) (drop from list)
takes-one read list new from place item taken out e =
    let le : from ≤ length (take place new) = omega (arith, length-take-le place new out.within, out.after) in
    let none = kept-none read (drop from (take place new)) (part-kept read new from place out.within out.first) in
    rw (
      out.taken,
      drop-append-le from (take place new) (item ∷ drop place new) le,
      filter-append (is_covered read) (drop from (take place new)) (item ∷ drop place new),
      none,
      out.covered,
    )
    (ap (λ l. item ∷ l) e)

leaves-others : (read : List ℕ) (list new : List Garbage) (from place : ℕ) (item : Garbage) (left : List Garbage)
    → TakesOut list new from read place item → left ≡ take place new ++ filter (is_kept read) (drop place new)
    → left ≡ take from list ++ filter (is_kept read) (drop from list)
leaves-others read list new from place item left out e =
    let le : from ≤ length (take place new) = omega (arith, length-take-le place new out.within, out.after) in
    let all = kept-all read (drop from (take place new)) (part-kept read new from place out.within out.first) in
    rw (
      out.taken,
      drop-append-le from (take place new) (item ∷ drop place new) le,
      take-append-le from (take place new) (item ∷ drop place new) le,
      filter-append (is_kept read) (drop from (take place new)) (item ∷ drop place new),
      all,
      out.covered,
      ← append_assoc (take from (take place new)) (drop from (take place new)) (filter (is_kept read) (drop place new)),
      take-append-drop from (take place new),
    )
    e

-- what a cleanup from a place on takes out
pub cleanup-takes : (read : List ℕ) (list : List Garbage) (from : ℕ) (taken left : List Garbage)
    → CleansUp read list from taken left → taken ≡ filter (is_covered read) (drop from list)
cleanup-takes read list from [] left c = sym (kept-none read (drop from list) (rest-kept read list from c.1))
cleanup-takes read list from (item ∷ taken) left (new, place, out, c) =
    takes-one read list new from place item taken out (cleanup-takes read new place taken left c)

-- what it leaves
pub cleanup-leaves : (read : List ℕ) (list : List Garbage) (from : ℕ) (taken left : List Garbage)
    → CleansUp read list from taken left → left ≡ take from list ++ filter (is_kept read) (drop from list)
cleanup-leaves read list from [] left c =
    rw (kept-all read (drop from list) (rest-kept read list from c.1), take-append-drop from list) c.0
cleanup-leaves read list from (item ∷ taken) left (new, place, out, c) =
    leaves-others read list new from place item left out (cleanup-leaves read new place taken left c)

-- a cleanup of the whole list gives `collect`
pub cleanup-collects : (read : List ℕ) (list taken left : List Garbage)
    → CleansUp read list 0 taken left → (taken, left) ≡ collect list read
cleanup-collects read list taken left c = cc (cleanup-takes read list 0 taken left c, cleanup-leaves read list 0 taken left c)
