-- What a table says of the store of an object, after a change of the table and after a sweep.
use Rattle.std.proofs.Common.{◌≡◌, ℕ, ◌==◌, Bool, true, false, cond, Option, Some, None, refl, ap, sym, ◌∙◌, arith, if◌then◌else◌}
use Rattle.std.specs.Option.{option_and_then, option_map_or}
use Rattle.std.proofs.lemmas.Grind.{common_steps}
use Rattle.tables.specs.Table.{Entries, entry, has, with_entry, only}
use Rattle.gl_model.proofs.TableLaws.{entry-only, entry-with_entry}

-- what is said of the object of a key, where each value says something
abbrev pub said : {A K : Type 0} → (A → Option K) → Entries A → ℕ → Option K
said look table k = option_and_then look (entry k table)

-- two tables say the same
abbrev pub Says : {A K : Type 0} → (A → Option K) → Entries A → Entries A → Type 0
Says look after before = (k : ℕ) → said look after k ≡ said look before k

pub Says-same : {A K : Type 0} (look : A → Option K) (after before : Entries A) → after ≡ before → Says look after before
Says-same look after before same = λ k. ap (λ t. said look t k) same

pub same_key : (m n : ℕ) → (m == n) ≡ true → m ≡ n
same_key m n h = grind (arith, common_steps)

-- an entry that says what was said
pub Says-with_entry : {A K : Type 0} (look : A → Option K) (key : ℕ) (v : A) (table : Entries A) → look v ≡ said look table key → Says look (with_entry key v table) table
Says-with_entry look key v table same = λ k. ap (option_and_then look) (entry-with_entry key k v table) ∙ by_key k (k == key) refl
  where
    by_key : (k : ℕ) (t : Bool) → (k == key) ≡ t → option_and_then look (cond t (Some v) (entry k table)) ≡ said look table k
    by_key k true is = same ∙ ap (said look table) (sym (same_key k key is))
    by_key k false is = refl

-- a value changed, and not what it says
pub Says-changed : {A K : Type 0} (look : A → Option K) (change : A → A) (key : ℕ) (table : Entries A) → ((v : A) → look (change v) ≡ look v) → Says look (option_map_or (λ v. with_entry key (change v) table) (entry key table) table) table
Says-changed {A} look change key table keeps = by_entry (entry key table) refl
  where
    by_entry : (o : Option A) → entry key table ≡ o → Says look (option_map_or (λ v. with_entry key (change v) table) o table) table
    by_entry None is = λ k. refl
    by_entry (Some v) is = Says-with_entry look key (change v) table (keeps v ∙ sym (ap (option_and_then look) is))

-- a new value of which nothing is said
pub Says-made : {A K : Type 0} (look : A → Option K) (t : Bool) (key : ℕ) (v : A) (table : Entries A) → look v ≡ None → entry key table ≡ None → Says look (if t then with_entry key v table else table) table
Says-made look true key v table silent free = Says-with_entry look key v table (silent ∙ sym (ap (option_and_then look) free))
Says-made look false key v table silent free = λ k. refl

-- after a sweep what is left says what it said
pub said-swept : {A K : Type 0} (look : A → Option K) (test : ℕ → Bool) (after before : Entries A) (k : ℕ) → Says look after before → said look (only test after) k ≡ (if has k (only test after) then said look before k else None)
said-swept {A} {K} look test after before k says = by_left (test k) (entry k after) (entry-only test k after) (says k)
  where
    by_entry : (o : Option A) → entry k (only test after) ≡ o → (o ≡ None → option_and_then look o ≡ None) → option_and_then look o ≡ said look before k → said look (only test after) k ≡ (if has k (only test after) then said look before k else None)
    by_entry None is empty same = rw is refl
    by_entry (Some v) is empty same = rw is same

    by_left : (t : Bool) (o : Option A) → entry k (only test after) ≡ cond t o None → option_and_then look o ≡ said look before k → said look (only test after) k ≡ (if has k (only test after) then said look before k else None)
    by_left true o is same = by_entry o is (λ none. ap (option_and_then look) none) same
    by_left false o is same = rw is refl

-- an entry that the sweep leaves stays
pub swept_stays : {A : Type 0} (test : ℕ → Bool) (table : Entries A) (k : ℕ) (v : A) → only test table ≡ table → entry k table ≡ Some v → test k ≡ true
swept_stays {A} test table k v whole is = by_test (test k) refl
  where
    by_test : (t : Bool) → test k ≡ t → test k ≡ true
    by_test true h = h
    by_test false h =
        let gone : entry k table ≡ None = ap (entry k) (sym whole) ∙ entry-only test k table ∙ ap (λ t. cond t (entry k table) None) h in
        let bad : ⊥ = cc in absurd bad

-- the entries of a table of which nothing was swept, with one changed that was there
pub swept_changed : {A : Type 0} (test : ℕ → Bool) (table : Entries A) (key : ℕ) (old v : A) (k : ℕ) → only test table ≡ table → entry key table ≡ Some old → entry k (only test (with_entry key v table)) ≡ cond (k == key) (Some v) (entry k table)
swept_changed {A} test table key old v k whole there =
    entry-only test k (with_entry key v table) ∙ ap (λ o. cond (test k) o None) (entry-with_entry key k v table) ∙ by_key (k == key) refl
  where
    at_key : k ≡ key → test k ≡ true
    at_key same = ap test same ∙ swept_stays test table key old whole there

    by_key : (t : Bool) → (k == key) ≡ t → cond (test k) (cond t (Some v) (entry k table)) None ≡ cond t (Some v) (entry k table)
    by_key true is = ap (λ b. cond b (Some v) None) (at_key (same_key k key is))
    by_key false is = sym (entry-only test k table) ∙ ap (entry k) whole
