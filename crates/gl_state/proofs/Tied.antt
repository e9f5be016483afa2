-- Names and objects stay tied as names are made and deleted.
use Rattle.std.proofs.Common.{◌≢◌, inl, inr, ◌≡◌, ℕ, ◌+◌, ◌≤◌, ◌==◌, ◌||◌, ◌&&◌, Bool, true, false, not, cond, [], ◌∷◌, map, is_some, Option, Some, None, sym, ap, subst, ◌∙◌, refl, arith}
use Rattle.std.specs.Option.{option_and_then}
use Rattle.std.proofs.lemmas.Bool.{cases_eq}
use Rattle.std.proofs.lemmas.Grind.{common_steps}
use Rattle.std.specs.Ordering.{nat_cmp}
use Rattle.std.specs.BTreeMap.{is_at}
use Rattle.tables.specs.Table.{Entries, entry, has, with_entry, without, only}
use Rattle.gl_model.specs.declared.state.Names.{Names}
use Rattle.gl_model.specs.Bindings.{same_option}
use Rattle.gl_model.specs.GroupEffect.{names_object, object_of}
use Rattle.gl_model.proofs.TableLaws.{entry-with_entry, entry-only}
use Rattle.gl_state.specs.Order.{IsRising, IsTied, key_set, names_of}
use Rattle.gl_state.proofs.Rising.{IsRising-changed}
use Rattle.gl_state.proofs.Tallies.{bit, bit_of, tally-with_entry, tally-without, any_value-tally}
use Rattle.gl_state.proofs.Filtered.{IsRising-with_entry, IsRising-without, IsRising-filter, only-with_entry_out, only-same, only-each_value, only-only, only-one_more}

pub has-changed : {V W : Type 0} (g : ℕ × V → W) (b : ℕ) (t : Entries V) → has b (map (λ e. (e.0, g e)) t) ≡ has b t
has-changed g b [] = refl
has-changed g b (e ∷ t) = step (is_at (nat_cmp b) e.0) (has-changed g b t)
  where
    step : (c : Bool) → has b (map (λ x. (x.0, g x)) t) ≡ has b t → is_some (cond c (Some (g e)) (entry b (map (λ x. (x.0, g x)) t))) ≡ is_some (cond c (Some e.1) (entry b t))
    step true rest = refl
    step false rest = rest

pub key_set-changed : {V : Type 0} (g : ℕ × V → V) (p : ℕ → Bool) (t : Entries V) → key_set (only p (map (λ e. (e.0, g e)) t)) ≡ key_set (only p t)
key_set-changed g p [] = refl
key_set-changed g p (e ∷ t) = step (p e.0) (key_set-changed g p t)
  where
    step : (c : Bool) → key_set (only p (map (λ x. (x.0, g x)) t)) ≡ key_set (only p t) → key_set (cond c ((e.0, g e) ∷ only p (map (λ x. (x.0, g x)) t)) (only p (map (λ x. (x.0, g x)) t))) ≡ key_set (cond c (e ∷ only p t) (only p t))
    step true rest = ap (λ xs. (e.0, tt) ∷ xs) rest
    step false rest = rest

abbrev is_of : ℕ → Option ℕ → Bool
is_of b o = same_option o (Some b)

pub named-counted : (names : Names) (b : ℕ) → names_object names b ≡ not (names_of names b == 0)
named-counted names b = any_value-tally (is_of b) names.objects

-- what a name adds to the names of an object
pub bit-object : (names : Names) (name b : ℕ) (o : Option ℕ) → object_of names name ≡ o → bit_of (is_of b) (entry name names.objects) ≡ bit (same_option o (Some b))
bit-object names name b o is = rw (← is) (step (entry name names.objects))
  where
    step : (e : Option (Option ℕ)) → bit_of (is_of b) e ≡ bit (same_option (option_and_then (λ x. x) e) (Some b))
    step None = refl
    step (Some None) = refl
    step (Some (Some x)) = refl

same_counts : (names other : Names) (b : ℕ) → names_of other b ≡ names_of names b → names_object other b ≡ names_object names b
same_counts names other b same = named-counted other b ∙ ap (λ n. not (n == 0)) same ∙ sym (named-counted names b)

-- the names change, but no object's
module _ {V : Type 0} (names other : Names) (objects : Entries V) (nameless : Entries (Unit {0})) (tied : IsTied names objects nameless) where
  pub IsTied-same_counts : IsRising other.objects → other.made ≡ names.made → ((b : ℕ) → names_of other b ≡ names_of names b) → IsTied other objects nameless
  IsTied-same_counts ordered made same = record {
    ordered = ordered;
    rising = tied.rising;
    listed = tied.listed ∙ ap key_set (only-same _ _ objects (λ k had. ap not (sym (same_counts names other k (same k)))));
    once = λ b. omega (arith, same b, tied.once b);
    later = λ b above. same b ∙ tied.later b (omega (arith, above, made));
    fresh = λ b above. tied.fresh b (omega (arith, above, made));
  }

module _ {V : Type 0} (names : Names) (objects : Entries V) (nameless : Entries (Unit {0})) (tied : IsTied names objects nameless) where
  pub IsTied-generated : (name : ℕ) → object_of names name ≡ None → IsTied (record names { objects = with_entry name None names.objects }) objects nameless
  IsTied-generated name none =
      IsTied-same_counts names (record names { objects = with_entry name None names.objects }) objects nameless tied (IsRising-with_entry name None names.objects tied.ordered) refl
      (λ b. omega (arith, tally-with_entry (is_of b) name None names.objects tied.ordered, bit-object names name b None none))

  pub IsTied-forgotten : (name : ℕ) → object_of names name ≡ None → IsTied (record names { objects = without name names.objects }) objects nameless
  IsTied-forgotten name none =
      IsTied-same_counts names (record names { objects = without name names.objects }) objects nameless tied (IsRising-without name names.objects tied.ordered) refl
      (λ b. omega (arith, tally-without (is_of b) name names.objects, bit-object names name b None none))

  -- an object is made for a name that has none
  module _ (name : ℕ) (none : object_of names name ≡ None) (fresh : V) where
    made_counts : (b : ℕ) → names_of (record { objects = with_entry name (Some names.made) names.objects; made = names.made + 1 }) b ≡ names_of names b + bit (names.made == b)
    made_counts b = omega (arith, tally-with_entry (is_of b) name (Some names.made) names.objects tied.ordered, bit-object names name b None none)

    bit_apart : (b : ℕ) → names.made ≢ b → bit (names.made == b) ≡ 0
    bit_apart b differs = grind (arith, common_steps)

    bit_same : (b : ℕ) → names.made ≡ b → bit (names.made == b) ≡ 1
    bit_same b same = grind (arith, common_steps)

    made_once : (b : ℕ) → names_of (record { objects = with_entry name (Some names.made) names.objects; made = names.made + 1 }) b ≤ 1
    made_once b =
        elim (cases_eq names.made b) [
          | inl same ↦ omega (arith, made_counts b, bit_same b same, tied.later b (omega (arith, same)))
          | inr differs ↦ omega (arith, made_counts b, bit_apart b differs, tied.once b)
        ]

    made_named : (b : ℕ) → has b objects ≡ true → names_object names b ≡ names_object (record { objects = with_entry name (Some names.made) names.objects; made = names.made + 1 }) b
    made_named b had =
        elim (cases_eq names.made b) [
          | inl same ↦ absurd (cc (had, tied.fresh b (omega (arith, same))))
          | inr differs ↦
              let still : names_of (record { objects = with_entry name (Some names.made) names.objects; made = names.made + 1 }) b ≡ names_of names b = omega (arith, made_counts b, bit_apart b differs) in
              sym (same_counts names (record { objects = with_entry name (Some names.made) names.objects; made = names.made + 1 }) b still)
        ]

    pub one_named : names_object (record { objects = with_entry name (Some names.made) names.objects; made = names.made + 1 }) names.made ≡ true
    one_named =
        let one : names_of (record { objects = with_entry name (Some names.made) names.objects; made = names.made + 1 }) names.made ≡ 1 = omega (arith, made_counts names.made, bit_same names.made refl, tied.later names.made (omega arith)) in
        named-counted (record { objects = with_entry name (Some names.made) names.objects; made = names.made + 1 }) names.made ∙ ap (λ n. not (n == 0)) one

    made_fresh : (b : ℕ) → names.made + 1 ≤ b → has b (with_entry names.made fresh objects) ≡ false
    made_fresh b above =
        let apart : (b == names.made) ≡ false = grind (arith, common_steps) in
        ap is_some (entry-with_entry names.made b fresh objects) ∙ rw apart (tied.fresh b (omega (arith, above)))

    pub IsTied-made : IsTied (record { objects = with_entry name (Some names.made) names.objects; made = names.made + 1 }) (with_entry names.made fresh objects) nameless
    IsTied-made = record {
      ordered = IsRising-with_entry name (Some names.made) names.objects tied.ordered;
      rising = IsRising-with_entry names.made fresh objects tied.rising;
      listed =
          tied.listed
          ∙ ap key_set (only-same _ _ objects (λ k had. ap not (made_named k had))
          ∙ sym (only-with_entry_out _ names.made fresh objects (ap not one_named)));
      once = made_once;
      later = λ b above. made_counts b ∙ omega (arith, bit_apart b (λ same. absurd (omega (arith, above, same))), tied.later b (omega (arith, above)));
      fresh = made_fresh;
    }

  -- a name that has an object is deleted
  module _ (name b : ℕ) (has_it : object_of names name ≡ Some b) where
    gone_counts : (k : ℕ) → names_of (record names { objects = without name names.objects }) k + bit (b == k) ≡ names_of names k
    gone_counts k = omega (arith, tally-without (is_of k) name names.objects, bit-object names name k (Some b) has_it)

    gone_apart : (k : ℕ) → b ≢ k → names_of (record names { objects = without name names.objects }) k ≡ names_of names k
    gone_apart k differs =
        let none : bit (b == k) ≡ 0 = grind (arith, common_steps) in
        omega (arith, gone_counts k, none)

    bit_one : bit (b == b) ≡ 1
    bit_one = grind (arith, common_steps)

    gone_here : names_of (record names { objects = without name names.objects }) b ≡ 0
    gone_here = omega (arith, gone_counts b, bit_one, tied.once b)

    was_named : names_object names b ≡ true
    was_named =
        let one : names_of names b ≡ 1 = omega (arith, gone_counts b, bit_one, gone_here) in
        named-counted names b ∙ ap (λ n. not (n == 0)) one

    not_named : names_object (record names { objects = without name names.objects }) b ≡ false
    not_named = named-counted (record names { objects = without name names.objects }) b ∙ ap (λ n. not (n == 0)) gone_here

    named_apart : (k : ℕ) → b ≢ k → names_object (record names { objects = without name names.objects }) k ≡ names_object names k
    named_apart k differs = same_counts names (record names { objects = without name names.objects }) k (gone_apart k differs)

    nameless_now : (k : ℕ) → not (names_object (record names { objects = without name names.objects }) k) ≡ (not (names_object names k) || (k == b))
    nameless_now k =
        elim (cases_eq b k) [
          | inl same ↦ subst (λ j. not (names_object (record names { objects = without name names.objects }) j) ≡ (not (names_object names j) || (j == b))) same (rw (not_named, was_named) (grind (arith, common_steps)))
          | inr differs ↦
              let apart : (k == b) ≡ false = grind (arith, common_steps) in
              rw (named_apart k differs, apart) (or_false (not (names_object names k)))
        ]
      where
        or_false : (c : Bool) → c ≡ (c || false)
        or_false true = refl
        or_false false = refl

    counts_less : (k : ℕ) → names_of (record names { objects = without name names.objects }) k ≤ names_of names k
    counts_less k = omega (arith, gone_counts k)

    pub IsTied-deleted : has b objects ≡ true → IsTied (record names { objects = without name names.objects }) objects (with_entry b tt nameless)
    IsTied-deleted had = record {
      ordered = IsRising-without name names.objects tied.ordered;
      rising = tied.rising;
      listed =
          ap (with_entry b tt) tied.listed
          ∙ sym (only-one_more (λ k. not (names_object names k)) b objects tied.rising had (ap not was_named))
          ∙ ap key_set (only-same _ _ objects (λ k _. sym (nameless_now k)));
      once = λ k. omega (arith, counts_less k, tied.once k);
      later = λ k above. omega (arith, counts_less k, tied.later k above);
      fresh = tied.fresh;
    }

    pub IsTied-deleted_alone : has b objects ≡ false → IsTied (record names { objects = without name names.objects }) objects nameless
    IsTied-deleted_alone absent = record {
      ordered = IsRising-without name names.objects tied.ordered;
      rising = tied.rising;
      listed = tied.listed ∙ ap key_set (only-same _ _ objects (λ k had. ap not (sym (named_apart k (λ same. cc (had, absent, ap (λ j. has j objects) same))))));
      once = λ k. omega (arith, counts_less k, tied.once k);
      later = λ k above. omega (arith, counts_less k, tied.later k above);
      fresh = tied.fresh;
    }

  -- the values of objects change
  pub IsTied-changed : (g : ℕ × V → V) → IsTied names (map (λ e. (e.0, g e)) objects) nameless
  IsTied-changed g = record {
    ordered = tied.ordered;
    rising = IsRising-changed g objects tied.rising;
    listed = tied.listed ∙ sym (key_set-changed g (λ k. not (names_object names k)) objects);
    once = tied.once;
    later = tied.later;
    fresh = λ b above. has-changed g b objects ∙ tied.fresh b above;
  }

  -- what nothing refers to is gone
  module _ (bound : ℕ → Bool) where
    swept_test : (a b : Bool) → ((a || b) && not a) ≡ (not a && b)
    swept_test true true = refl
    swept_test true false = refl
    swept_test false true = refl
    swept_test false false = refl

    swept_fresh : (b : ℕ) → names.made ≤ b → has b (only (λ k. names_object names k || bound k) objects) ≡ false
    swept_fresh b above = ap is_some (entry-only (λ k. names_object names k || bound k) b objects) ∙ step (names_object names b || bound b) (tied.fresh b above)
      where
        step : (c : Bool) → has b objects ≡ false → is_some (cond c (entry b objects) None) ≡ false
        step true absent = absent
        step false absent = refl

    pub IsTied-swept : IsTied names (only (λ k. names_object names k || bound k) objects) (only bound nameless)
    IsTied-swept = record {
      ordered = tied.ordered;
      rising = IsRising-filter (λ e. names_object names e.0 || bound e.0) objects tied.rising;
      listed =
          ap (only bound) tied.listed
          ∙ only-each_value bound (λ _. tt) (only (λ k. not (names_object names k)) objects)
          ∙ ap key_set (only-only bound (λ k. not (names_object names k)) objects
          ∙ only-same _ _ objects (λ k _. sym (swept_test (names_object names k) (bound k)))
          ∙ sym (only-only (λ k. not (names_object names k)) (λ k. names_object names k || bound k) objects));
      once = tied.once;
      later = tied.later;
      fresh = swept_fresh;
    }
