-- Over what calls do at the back, no number of a batch falls, and none that is known to be completed.
use Rattle.std.proofs.Common.{◌≡◌, ℕ, ◌≤◌, ◌*◌, Bool, true, false, Option, List, [], ◌∷◌, ◌++◌, sym, subst, ◌∙◌, ap, arith, refl, inl, inr}
use Rattle.std.specs.Prelude.{◌⊎◌, All}
use Rattle.std.proofs.lemmas.List.{append-nil}
use Rattle.std.proofs.lemmas.List.Concat.{flat_map-append}
use Rattle.std.proofs.lemmas.List.Elements.{All-head}
use Rattle.cells.specs.Contents.{in_range}
use Rattle.submit_queue.specs.Histories.{last_number}
use Rattle.back_core.specs.declared.back_event.BackEvent.{BackEvent}
use Rattle.vk_types.specs.declared.batches.Batch.{Batch}
use Rattle.back_core.specs.Own.{batch_by, batches_of}
use Rattle.back_core.specs.Link.{Link}
use Rattle.back_core.specs.Needs.{IsOfGroup}
use Rattle.back_core.specs.Frame.{NoBatch, AtBack}
use Rattle.front_model.specs.Face.{Face}
use Rattle.front_model.specs.Stands.{Holds, no_hands}
use Rattle.front_moves.specs.Core.{CoreParts, face}
use Rattle.front_moves.proofs.Faces.{range_own, last_other}
use Rattle.std.proofs.lemmas.Bool.{false≢true}
use Rattle.std.proofs.lemmas.Bool.Decides.{nat_tests}
use Rattle.sync_serials.specs.Serials.{HasGoneOn}
use Rattle.front_core.specs.Share.{Stays}

-- an index is of a group, or lies elsewhere
own_or_other : (group i : ℕ) → IsOfGroup group i ⊎ (IsOfGroup group i → ⊥)
own_or_other group i = by_range (in_range (8 * group) 8 i) refl
  where
    by_range : (b : Bool) → in_range (8 * group) 8 i ≡ b → IsOfGroup group i ⊎ (IsOfGroup group i → ⊥)
    by_range true is = inl (grind (arith, nat_tests), grind (arith, nat_tests))
    by_range false is = inr (λ own. false≢true (sym is ∙ range_own group i own))

pub gone_on : {s t : Link} {h k : Option (List BackEvent)} {due : ℕ} {waits stops : Bool} {MayHand : Batch → Type 0} (c d : CoreParts) → Holds (face c) no_hands s → Holds (face d) no_hands t →
    (face d).group ≡ (face c).group → AtBack s t h k due waits stops MayHand → HasGoneOn (face c) (face d) s t
gone_on {s} {t} {h} {k} {due} {waits} {stops} {MayHand} c d before after group did = record {
  group = group;
  last = λ i. by_own i (own_or_other (face c).group i);
  done = did.known;
}
  where
    by_own : (i : ℕ) → IsOfGroup (face c).group i ⊎ (IsOfGroup (face c).group i → ⊥) → (face c).last i ≤ (face d).last i
    by_own i (inl own) = omega (arith, before.last i own, after.last i (subst (λ g. IsOfGroup g i) (sym group) own), did.numbers i)
    by_own i (inr far) = omega (arith, last_other c.indexes i far)

-- no batches are no batches
none_handed : (xs : List Batch) → All NoBatch xs → xs ≡ []
none_handed [] all = refl
none_handed (x ∷ xs) all = absurd (All-head NoBatch x xs all)

-- where no batch is handed over, each index has the last number that it had
pub last_stays : {s t : Link} {h k : Option (List BackEvent)} {due : ℕ} {waits stops : Bool} (c d : CoreParts) → Holds (face c) no_hands s → Holds (face d) no_hands t →
    (face d).group ≡ (face c).group → AtBack s t h k due waits stops NoBatch → (i : ℕ) → IsOfGroup (face c).group i → (face d).last i ≡ (face c).last i
last_stays {s} {t} {h} {k} {due} {waits} {stops} c d before after group did i own =
    after.last i (subst (λ g. IsOfGroup g i) (sym group) own)
    ∙ ap (λ xs. last_number xs i)
    (ap batches_of did.grows ∙ flat_map-append batch_by s.mine did.gained ∙ ap (λ xs. batches_of s.mine ++ xs) (none_handed (batches_of did.gained) did.batches) ∙ append-nil (batches_of s.mine))
    ∙ sym (before.last i own)

pub stays_put : (f : Face) (s : Link) → Holds f no_hands s → Stays f f s s
stays_put f s holds = record { holds = holds; view_is = refl; outlines_are = refl; still = λ o quiet. quiet }

pub goes_nowhere : (f : Face) (s : Link) → HasGoneOn f f s s
goes_nowhere f s = record { group = refl; last = λ i. omega arith; done = λ i. omega arith }
