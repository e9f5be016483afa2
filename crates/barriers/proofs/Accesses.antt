-- Kinds of access in common, and the kinds of several accesses together.
use Rattle.std.proofs.Common.{◌≡◌, ℕ, zero, suc, ◌/◌, ◌%◌, ◌<◌, List, [], ◌∷◌, true, false, refl, sym, ◌∙◌, ap, arith}
use Rattle.std.specs.Prelude.{◌==◌, ◌≢◌, ◌&&◌, ◌||◌, not, Bool, fold, All, min}
use Rattle.std.specs.Int.{bit_at}
use Rattle.std.specs.Int.RustNames.{bit_and, bit_or}
use Rattle.std.specs.List.{list_any}
use Rattle.std.proofs.lemmas.Bool.{ne_eqb}
use Rattle.std.proofs.lemmas.List.Elements.{All-head}
use Rattle.std.proofs.lemmas.Nat.{and_le_l, and_le_r}
use Rattle.std.specs.Int.Bits.{or_add_and, and_zero_l, and_self}
use Rattle.std.proofs.lemmas.Nat.Bits.{bit_at_and, bit_at_or, bit_at-zero, bit_at-suc, bit_at_lowest}
use Rattle.vk_types.specs.Accesses.{no_access, transfer_write, color_write, in_common, joined}
use Rattle.vk_types.specs.declared.accesses.Access.{Access}
use Rattle.barriers.specs.Licence.{union, writes, is_empty}

-- Bits

record HasBit (n : ℕ) : Type 0 where
  place : ℕ
  is : bit_at n place ≡ 1

-- a number that is not 0 has a bit
some_bit : (most n : ℕ) → n < most → 0 < n → HasBit n
some_bit zero n lt some = absurd (omega arith)
some_bit (suc most) n lt some = go (n % 2) refl (some_bit most (n / 2))
  where
    go : (r : ℕ) → n % 2 ≡ r → (n / 2 < most → 0 < n / 2 → HasBit (n / 2)) → HasBit n
    go zero e half = let h : HasBit (n / 2) = half (omega arith) (omega arith) in record { place = suc h.place; is = bit_at-suc n h.place ∙ h.is }
    go (suc zero) e half = record { place = 0; is = bit_at_lowest n ∙ e }
    go (suc (suc r)) e half = absurd (omega arith)

none_in_both : (a b : ℕ) → bit_and a b ≡ 0 → (i : ℕ) → min (bit_at a i) (bit_at b i) ≡ 0
none_in_both a b e i = sym (bit_at_and a b i) ∙ (ap (λ n. bit_at n i) e ∙ bit_at-zero i)

both_from_none : (a b : ℕ) → ((i : ℕ) → min (bit_at a i) (bit_at b i) ≡ 0) → bit_and a b ≡ 0
both_from_none a b none = go (bit_and a b) refl
  where
    go : (n : ℕ) → bit_and a b ≡ n → n ≡ 0
    go zero e = refl
    go (suc n) e =
        let h : HasBit (suc n) = some_bit (suc (suc n)) (suc n) (omega arith) (omega arith) in
        let is : min (bit_at a h.place) (bit_at b h.place) ≡ 1 = sym (bit_at_and a b h.place) ∙ (ap (λ n. bit_at n h.place) e ∙ h.is) in
        absurd (omega (arith, is, none h.place))

or_apart_left : (a b c : ℕ) → bit_and (bit_or a b) c ≡ 0 → bit_and a c ≡ 0
or_apart_left a b c e = both_from_none a c (λ i. omega (arith, none_in_both (bit_or a b) c e i, bit_at_or a b i))

or_apart_right : (a b c : ℕ) → bit_and (bit_or a b) c ≡ 0 → bit_and b c ≡ 0
or_apart_right a b c e = both_from_none b c (λ i. omega (arith, none_in_both (bit_or a b) c e i, bit_at_or a b i))

or_apart : (a b c : ℕ) → bit_and a c ≡ 0 → bit_and b c ≡ 0 → bit_and (bit_or a b) c ≡ 0
or_apart a b c e f = both_from_none (bit_or a b) c (λ i. omega (arith, none_in_both a c e i, none_in_both b c f i, bit_at_or a b i))

is_some : (n : ℕ) → not (suc n == 0) ≡ true
is_some n = ap not (ne_eqb (suc n) 0 (λ e. absurd (omega arith)))

either : (x y z : ℕ) → (x ≡ 0 → y ≡ 0) → (x ≡ 0 → z ≡ 0) → (y ≡ 0 → z ≡ 0 → x ≡ 0) → not (x == 0) ≡ (not (y == 0) || not (z == 0))
either zero zero zero p q r = refl
either zero (suc y) z p q r = absurd (omega (arith, p refl))
either zero zero (suc z) p q r = absurd (omega (arith, q refl))
either (suc x) zero zero p q r = absurd (omega (arith, r refl refl))
either (suc x) (suc y) z p q r = is_some x ∙ sym (ap (λ t. t || not (z == 0)) (is_some y))
either (suc x) zero (suc z) p q r = is_some x ∙ sym (is_some z)

-- Kinds

abbrev access_of : ℕ → Access
access_of n = record { 0 = n }

pub same_kinds : (a b : Access) → a.0 ≡ b.0 → a ≡ b
same_kinds a b e = ap access_of e

pub joined_meets : (a b c : Access) → in_common (joined a b) c ≡ (in_common a c || in_common b c)
joined_meets a b c = either (bit_and (bit_or a.0 b.0) c.0) (bit_and a.0 c.0) (bit_and b.0 c.0) (or_apart_left a.0 b.0 c.0) (or_apart_right a.0 b.0 c.0) (or_apart a.0 b.0 c.0)

pub none_meets : (c : Access) → in_common no_access c ≡ false
none_meets c = ap (λ n. not (n == 0)) (and_zero_l c.0)

pub meets_itself : (c : Access) → c ≢ no_access → in_common c c ≡ true
meets_itself c some = ap (λ n. not (n == 0)) (and_self c.0) ∙ go c.0 refl
  where
    go : (n : ℕ) → c.0 ≡ n → not (n == 0) ≡ true
    go zero e = absurd (some (same_kinds c no_access e))
    go (suc n) e = is_some n

or_nothing : (p : Bool) → (p || false) ≡ p
or_nothing true = refl
or_nothing false = refl

or_assoc : (p q r : Bool) → ((p || q) || r) ≡ (p || (q || r))
or_assoc true q r = refl
or_assoc false q r = refl

fold_meets : (accesses : List Access) (so_far c : Access) → in_common (fold joined so_far accesses) c ≡ (in_common so_far c || list_any (λ a. in_common a c) accesses)
fold_meets [] so_far c = sym (or_nothing (in_common so_far c))
fold_meets (a ∷ accesses) so_far c =
    fold_meets accesses (joined so_far a) c
    ∙ (ap (λ p. p || list_any (λ a. in_common a c) accesses) (joined_meets so_far a c)
    ∙ or_assoc (in_common so_far c) (in_common a c) (list_any (λ a. in_common a c) accesses))

-- the kinds of several accesses together meet what one of them meets
pub union_meets : (accesses : List Access) (c : Access) → in_common (union accesses) c ≡ list_any (λ a. in_common a c) accesses
union_meets accesses c = fold_meets accesses no_access c ∙ ap (λ p. p || list_any (λ a. in_common a c) accesses) (none_meets c)

no_kinds : (accesses : List Access) (so_far : Access) → (fold joined so_far accesses).0 ≡ 0 → so_far.0 ≡ 0
no_kinds [] so_far e = e
no_kinds (a ∷ accesses) so_far e = omega (arith, no_kinds accesses (joined so_far a) e, or_add_and so_far.0 a.0, and_le_l so_far.0 a.0, and_le_r so_far.0 a.0)

-- accesses of some kind have none together only where there are no accesses
pub union_empty : (accesses : List Access) → All (λ access. access ≢ no_access) accesses → ((union accesses).0 == 0) ≡ is_empty accesses
union_empty [] all = refl
union_empty (a ∷ accesses) all = go (fold joined (joined no_access a) accesses).0 refl
  where
    go : (n : ℕ) → (fold joined (joined no_access a) accesses).0 ≡ n → (n == 0) ≡ false
    go zero e = absurd (All-head (λ access. access ≢ no_access) a accesses all (same_kinds a no_access (no_kinds accesses (joined no_access a) e)))
    go (suc n) e = ne_eqb (suc n) 0 (λ f. absurd (omega arith))

-- Writes

pub joined_writes : (a b : Access) → writes (joined a b) ≡ (writes a || writes b)
joined_writes a b =
    ap (λ p. p || in_common (joined a b) color_write) (joined_meets a b transfer_write)
    ∙ (ap (λ p. (in_common a transfer_write || in_common b transfer_write) || p) (joined_meets a b color_write)
    ∙ both (in_common a transfer_write) (in_common b transfer_write) (in_common a color_write) (in_common b color_write))
  where
    both : (p q r s : Bool) → ((p || q) || (r || s)) ≡ ((p || r) || (q || s))
    both true q r s = refl
    both false true true s = refl
    both false true false s = refl
    both false false true s = refl
    both false false false s = refl

any_either : (p q : Access → Bool) (accesses : List Access) → list_any (λ a. p a || q a) accesses ≡ (list_any p accesses || list_any q accesses)
any_either p q [] = refl
any_either p q (a ∷ accesses) = ap (λ r. (p a || q a) || r) (any_either p q accesses) ∙ both (p a) (q a) (list_any p accesses) (list_any q accesses)
  where
    both : (p q r s : Bool) → ((p || q) || (r || s)) ≡ ((p || r) || (q || s))
    both true q r s = refl
    both false true true s = refl
    both false true false s = refl
    both false false true s = refl
    both false false false s = refl

pub union_writes : (accesses : List Access) → writes (union accesses) ≡ list_any writes accesses
union_writes accesses =
    ap (λ p. p || in_common (union accesses) color_write) (union_meets accesses transfer_write)
    ∙ (ap (λ p. list_any (λ a. in_common a transfer_write) accesses || p) (union_meets accesses color_write)
    ∙ sym (any_either (λ a. in_common a transfer_write) (λ a. in_common a color_write) accesses))

-- one of some accesses writes, or there are some and the next one writes
pub any_writes : (w : Bool) (accesses : List Access) → list_any (λ a. writes a || w) accesses ≡ (not (is_empty accesses) && (list_any writes accesses || w))
any_writes w [] = refl
any_writes w (a ∷ []) = one (writes a) w
  where
    one : (p w : Bool) → ((p || w) || false) ≡ ((p || false) || w)
    one true w = refl
    one false true = refl
    one false false = refl
any_writes w (a ∷ b ∷ accesses) = ap (λ r. (writes a || w) || r) (any_writes w (b ∷ accesses)) ∙ more (writes a) (list_any writes (b ∷ accesses)) w
  where
    more : (p l w : Bool) → ((p || w) || (l || w)) ≡ ((p || l) || w)
    more true l w = refl
    more false true true = refl
    more false true false = refl
    more false false true = refl
    more false false false = refl
