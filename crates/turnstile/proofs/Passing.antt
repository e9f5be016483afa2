-- What holds of a pass after a call.
use Rattle.std.proofs.Common.{◌≡◌, ℕ, ◌<◌, ◌≤◌, true, false, List, [], length, set, get_or, Option, Some, ap, sym, ◌∙◌, subst, arith, length-set, get_or-set_same, get_or-set_other}
use Rattle.std.specs.Prelude.{Contains}
use mathlib.Core.Option.{some, none, some-injective}
use mathlib.Core.List.{IsPrefix}
use lib.ListN.{get_elem?}
use Rattle.atomic_table.specs.declared.shared.Seat.{Seat}
use Rattle.atomic_table.specs.Seated.{TableId}
use Rattle.atomic_table.specs.Table.{Final, Seen, Allows, step}
use Rattle.turnstile.specs.declared.rule.View.{View}
use Rattle.turnstile.specs.Histories.{own, added, NamesOnly}
use Rattle.turnstile.specs.Rule.{Kept}
use Rattle.turnstile.specs.Steps.{Seating, left}
use Rattle.turnstile.specs.Passes.{IsSound, known, Closed}
use Rattle.turnstile.proofs.Beginnings.{others_same}
use Rattle.turnstile.proofs.Lists.{one, not_both}
use Rattle.turnstile.proofs.Turning.{leaves}
use Rattle.turnstile.proofs.Ending.{ends}

module _ {V E : Type 0} (history : V → List E) (published : V → ℕ → ℕ) (names : E → Option ℕ) where
  abbrev Place : Type 0
  Place = Seat (Option V) (View E)

  -- a pass that has put its turn
  pub sound_put : (p q : Place) (log : List E) (n : ℕ) → IsSound names p → p.me.0.holds ≡ true → IsPrefix p.me.0.seen log → NamesOnly names p.me.0.number (added p.me.0.seen log)
      → q.me.0 ≡ record p.me.0 { seen = log; holds = false; words = set p.me.0.words 0 n } → q.me.1 ≡ [] → IsSound names q
  sound_put p q log n sound on begins only is empty =
      let off : q.me.0.holds ≡ false = ap (λ (v : View E). v.holds) is in
      let number : q.me.0.number ≡ p.me.0.number = ap (λ (v : View E). v.number) is in
      let made : q.me.0.made ≡ p.me.0.made = ap (λ (v : View E). v.made) is in record {
        live = ap (λ (v : View E). v.live) is ∙ sound.live;
        guests = ap (λ (v : View E). v.guests) is ∙ sound.guests;
        aside = ap (λ (v : View E). v.aside) is ∙ sound.aside;
        idle = λ _. empty;
        busy = λ up. absurd (not_both q.me.0.holds up off);
        wide = ap (λ (v : View E). length v.words) is ∙ (length-set p.me.0.words 0 n ∙ sound.wide);
        count = λ up. absurd (not_both q.me.0.holds up off);
        made = λ z. subst (λ n. 0 < n) (sym made) (sound.made (sym number ∙ z));
        fresh = λ z k le.
            let first : p.me.0.number ≡ 0 = sym number ∙ z in
            let some_made = sound.made first in
            let after : p.me.0.made ≤ k = subst (λ n. n ≤ k) made le in
            ap (λ (v : View E). own names k v.seen) is ∙ (others_same names p.me.0.number k p.me.0.seen log begins only (λ e. omega arith) ∙ sound.fresh first k after);
      }

  -- the holder gives a value back, once it has stored the number of its entries
  pub puts : (slots id n : ℕ) (v : View E) (me : Seating V E) (x : V) → me.0 ≡ record v { words = set v.words 0 n } → me.1 ≡ one x → v.live ≡ true → v.holds ≡ true
      → IsPrefix v.seen (history x) → NamesOnly names v.number (added v.seen (history x)) → length v.words ≡ 66 → n ≡ length (history x) → ((word : ℕ) → 0 < word → word < 65 → get_or v.words word 0 ≡ published x word)
      → Allows (Kept history published names) slots id me 65 (λ _. 0) (λ _. left history (step slots 65 0 0 none) me 0)
  puts slots id n v me x is carried live on begins only wide count shown =
      let w : View E = record v { words = set v.words 0 n } in
      let both : me ≡ (w, one x) = λ i. (is i, carried i) in
      subst (λ (m : Seating V E). Allows (Kept history published names) slots id m 65 (λ _. 0) (λ _. left history (step slots 65 0 0 none) m 0)) (sym both)
      (leaves history published names slots id w x live on begins only (get_or-set_same v.words 0 n 0 (omega arith) ∙ count) (λ word some_word low. get_or-set_other v.words 0 word n 0 (λ e. omega arith) ∙ shown word some_word low))

  -- the value of a closed table
  pub closes : (id : ℕ) (v : View E) (words : List ℕ) (slots : List (Option V)) (r : Option V) → Final (Seen (Kept history published names) id v) words slots → get_elem? slots 0 ≡ some r
      → v.live ≡ true → v.holds ≡ false → v.number ≡ 0 → v.aside ≡ [] → ((k : ℕ) → 0 < k → k < v.made → Contains v.joined k) → (x : V) × (r ≡ Some x) × ((name : TableId) → Closed history published (known name v) x)
  closes id v words slots r final at live idle first bare joined =
      let e = ends history published names final.0 final.1.0 id v final.1.1 live idle first bare joined in
      let there = final.4 0 (Some e.0) (ap (λ l. get_elem? l 0) e.1) in
      (e.0, some-injective r (Some e.0) (sym at ∙ there), e.2)
