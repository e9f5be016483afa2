-- Tables whose keys rise, as they are looked up and changed.
use Rattle.std.proofs.Common.{◌≢◌, inl, inr, ◌≡◌, ℕ, ◌<◌, ◌==◌, Bool, true, false, cond, [], ◌∷◌, Option, Some, None, map, sym, ap, ◌∙◌, refl, arith}
use Rattle.std.specs.List.{find}
use Rattle.std.proofs.lemmas.Bool.{cases_eq, cases_lt}
use Rattle.std.proofs.lemmas.Grind.{common_steps}
use Rattle.tables.specs.Table.{Entries, entry, with_entry}
use Rattle.gl_model.proofs.TableLaws.{is_at-nat_cmp}
use Rattle.gl_state.specs.Order.{AreAbove, IsRising}

pub above_absent : {V : Type 0} (k : ℕ) (t : Entries V) → AreAbove k t → entry k t ≡ None
above_absent k [] above = refl
above_absent k (e ∷ t) above = grind (arith, common_steps, is_at-nat_cmp k e.0, above_absent k t above.1, above.0)

-- what is found among the rest has a key above
found_step : {V : Type 0} (k : ℕ) (h e : ℕ × V) (b : Bool) (rest : Option (ℕ × V)) → k < h.0 → (rest ≡ Some e → k < e.0) → cond b (Some h) rest ≡ Some e → k < e.0
found_step k h e true rest below later found = let same : h ≡ e = cc in omega (arith, below, ap (λ x. x.0) same)
found_step k h e false rest below later found = later found

AreAbove-found : {V : Type 0} (p : ℕ × V → Bool) (k : ℕ) (t : Entries V) (e : ℕ × V) → AreAbove k t → find p t ≡ Some e → k < e.0
AreAbove-found p k [] e above found = absurd (cc)
AreAbove-found p k (h ∷ t) e above found = found_step k h e (p h) (find p t) above.0 (AreAbove-found p k t e above.1) found

-- an entry that is found is the one of its key
entry_step : {V : Type 0} (h e : ℕ × V) (t : Entries V) (b : Bool) (rest : Option (ℕ × V)) → (rest ≡ Some e → h.0 < e.0) → (rest ≡ Some e → entry e.0 t ≡ Some e.1) → cond b (Some h) rest ≡ Some e → entry e.0 (h ∷ t) ≡ Some e.1
entry_step h e t true rest above later found =
    let same : h ≡ e = cc in
    ap (λ k. entry k (h ∷ t)) (ap (λ x. x.0) (sym same)) ∙ grind (arith, common_steps, is_at-nat_cmp h.0 h.0) ∙ ap (λ x. Some x.1) same
entry_step h e t false rest above later found = grind (arith, common_steps, is_at-nat_cmp e.0 h.0, above found, later found)

pub found_entry : {V : Type 0} (p : ℕ × V → Bool) (t : Entries V) (e : ℕ × V) → IsRising t → find p t ≡ Some e → entry e.0 t ≡ Some e.1
found_entry p [] e rising found = absurd (cc)
found_entry p (h ∷ t) e rising found =
    entry_step h e t (p h) (find p t) (AreAbove-found p h.0 t e rising.0) (found_entry p t e rising.1) found

-- a change of one key
pub changed_above : {V : Type 0} (f : V → V) (k : ℕ) (t : Entries V) → AreAbove k t → map (λ e. (e.0, cond (e.0 == k) (f e.1) e.1)) t ≡ t
changed_above f k [] above = refl
changed_above f k (e ∷ t) above =
    let apart : (e.0 == k) ≡ false = grind (arith, common_steps) in
    rw (apart, changed_above f k t above.1) refl

pub at_head : {V : Type 0} (k : ℕ) (e : ℕ × V) (t : Entries V) → k ≡ e.0 → entry k (e ∷ t) ≡ Some e.1
at_head k e t same = grind (arith, common_steps, is_at-nat_cmp k e.0)

pub past_head : {V : Type 0} (k : ℕ) (e : ℕ × V) (t : Entries V) → k ≢ e.0 → entry k (e ∷ t) ≡ entry k t
past_head k e t differs = grind (arith, common_steps, is_at-nat_cmp k e.0)

pub set_head : {V : Type 0} (k : ℕ) (w : V) (e : ℕ × V) (t : Entries V) → k ≡ e.0 → with_entry k w (e ∷ t) ≡ (e.0, w) ∷ t
set_head k w e t same = grind (arith, common_steps)

pub set_past : {V : Type 0} (k : ℕ) (w : V) (e : ℕ × V) (t : Entries V) → e.0 < k → with_entry k w (e ∷ t) ≡ e ∷ with_entry k w t
set_past k w e t below = grind (arith, common_steps)

pub AreAbove-below : {V : Type 0} (j k : ℕ) (t : Entries V) → j < k → AreAbove k t → AreAbove j t
AreAbove-below j k [] below above = tt
AreAbove-below j k (e ∷ t) below above = (omega (arith, below, above.0), AreAbove-below j k t below above.1)

module _ {V : Type 0} (f : V → V) (k : ℕ) (v : V) where
  head_step : (e : ℕ × V) (t : Entries V) → IsRising (e ∷ t) → entry k (e ∷ t) ≡ Some v → k ≡ e.0 → map (λ e. (e.0, cond (e.0 == k) (f e.1) e.1)) (e ∷ t) ≡ with_entry k (f v) (e ∷ t)
  head_step e t rising has same =
      let value : e.1 ≡ v = cc (at_head k e t same, has) in
      let here : (e.0 == k) ≡ true = grind (arith, common_steps) in
      let rest = changed_above f k t (rw same rising.0) in
      rw (set_head k (f v) e t same, here, rest, value) refl

  past_step : (e : ℕ × V) (t : Entries V) → IsRising (e ∷ t) → entry k (e ∷ t) ≡ Some v → k ≢ e.0 → (entry k t ≡ Some v → map (λ e. (e.0, cond (e.0 == k) (f e.1) e.1)) t ≡ with_entry k (f v) t) → map (λ e. (e.0, cond (e.0 == k) (f e.1) e.1)) (e ∷ t) ≡ with_entry k (f v) (e ∷ t)
  past_step e t rising has differs later =
      let there : entry k t ≡ Some v = sym (past_head k e t differs) ∙ has in
      let apart : (e.0 == k) ≡ false = grind (arith, common_steps) in
      elim (cases_lt k e.0) [
        | inl below ↦ absurd (cc (above_absent k t (AreAbove-below k e.0 t below rising.0), there))
        | inr above ↦ let past : e.0 < k = omega (arith, differs, above) in rw (set_past k (f v) e t past, apart, later there) refl
      ]

pub changed_entry : {V : Type 0} (f : V → V) (k : ℕ) (v : V) (t : Entries V) → IsRising t → entry k t ≡ Some v → map (λ e. (e.0, cond (e.0 == k) (f e.1) e.1)) t ≡ with_entry k (f v) t
changed_entry f k v [] rising has = absurd (cc)
changed_entry f k v (e ∷ t) rising has =
    elim (cases_eq k e.0) [
      | inl same ↦ head_step f k v e t rising has same
      | inr differs ↦ past_step f k v e t rising has differs (changed_entry f k v t rising.1)
    ]

AreAbove-changed : {V W : Type 0} (g : ℕ × V → W) (k : ℕ) (t : Entries V) → AreAbove k t → AreAbove k (map (λ e. (e.0, g e)) t)
AreAbove-changed g k [] above = tt
AreAbove-changed g k (e ∷ t) above = (above.0, AreAbove-changed g k t above.1)

pub IsRising-changed : {V W : Type 0} (g : ℕ × V → W) (t : Entries V) → IsRising t → IsRising (map (λ e. (e.0, g e)) t)
IsRising-changed g [] rising = tt
IsRising-changed g (e ∷ t) rising = (AreAbove-changed g e.0 t rising.0, IsRising-changed g t rising.1)
