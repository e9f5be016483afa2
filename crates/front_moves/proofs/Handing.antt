-- Why batches are handed over, seen from before the contexts were flushed.
use Rattle.vk_types.specs.Touches.{touches}
use Rattle.std.proofs.Common.{◌≡◌, ◌≢◌, ℕ, ◌<◌, ◌≤◌, lit<, arith, Bool, true, false, List, [], ◌∷◌, length, refl, sym, ap, subst, ◌∙◌}
use Rattle.std.specs.Prelude.{Contains}
use Rattle.std.proofs.lemmas.Bool.{false≢true}
use Rattle.std.proofs.lemmas.List.Elements.{Contains-append_left, Contains-append_right}
use Rattle.vk_types.specs.declared.batches.Batch.{Batch}
use Rattle.vk_types.specs.declared.batches.Reason.{Reason}
use Rattle.vk_types.specs.declared.batches.Reason.TheVariants as reason
use Rattle.front_model.specs.declared.object.Object.{Object}
use Rattle.front_model.specs.Face.{Stored, Face, nodes_touch}
use Rattle.front_moves.specs.Core.{IsReadTogether}
use Rattle.front_moves.specs.Reasons.{IsFlushOf, IsFlushOfSome, ReachesObject, Conflicts, IsTouching, IsCross, IsFull, IsParting, IsSettling, IsEnding, cross, full, parting, reading}

pub reaches_before : (f g : Face) (o : Object) (reads : Bool) (batch : Batch) → g.objects ≡ f.objects → ReachesObject g o reads batch → ReachesObject f o reads batch
reaches_before f g o reads batch same reaches =
    record { stored = reaches.stored; is = ap (λ os. os o) (sym same) ∙ reaches.is; touches = reaches.touches; conflicts = reaches.conflicts }

pub cross_before : (f g : Face) (index : ℕ) (o : Object) (reads : Bool) (batch : Batch) → g.objects ≡ f.objects → IsCross g index o reads batch → IsCross f index o reads batch
cross_before f g index o reads batch same is = record { of_other = is.of_other; reaches = reaches_before f g o reads batch same is.reaches; for_reason = is.for_reason }

-- what is flushed where something is pending
pub flush_of_some : (f : Face) (index : ℕ) (why : Reason) → 0 < length (f.pending index) → (batch : Batch) → IsFlushOf f index why batch → IsFlushOfSome f index why batch
flush_of_some f index why more batch flush = record {
  flush = flush;
  some = λ none. let nothing : length (f.pending index) ≡ 0 = ap length (sym flush.all ∙ none) in omega (arith, nothing, more);
}

-- what is flushed where it conflicts with a use of the object
pub is_touching : (f : Face) (index : ℕ) (o : Object) (reads : Bool) (why : Reason) → Conflicts reads f index o → (batch : Batch) → IsFlushOfSome f index why batch → IsTouching f index o reads why batch
is_touching f index o reads why k batch flush = record {
  of_index = flush.flush.of_index;
  reaches = record {
    stored = k.stored;
    is = k.is;
    touches = ap (λ nodes. nodes_touch nodes k.stored.handle) flush.flush.all ∙ k.touches;
    conflicts = λ alone together. k.conflicts alone (subst (λ nodes. IsReadTogether nodes k.stored) flush.flush.all together);
  };
  for_reason = flush.flush.for_reason;
}

-- what another index flushes, after others did
pub is_cross : (f g : Face) (index other : ℕ) (o : Object) (reads : Bool) → g.objects ≡ f.objects → other ≢ index → (batch : Batch) → IsTouching g other o reads reason.Cross batch → IsCross f index o reads batch
is_cross f g index other o reads same ne batch is = record { of_other = λ e. ne (sym is.of_index ∙ e); reaches = reaches_before f g o reads batch same is.reaches; for_reason = is.for_reason }

-- what is flushed where so much is pending
pub is_full : (f : Face) (index : ℕ) → 1024 ≤ length (f.pending index) → (batch : Batch) → IsFlushOfSome f index reason.Full batch → IsFull batch
is_full f index many batch flush = record { full = subst (λ nodes. 1024 ≤ length nodes) (sym flush.flush.all) many; for_reason = flush.flush.for_reason }

pub parts_one : (f : Face) (index : ℕ) (o : Object) (reads : Bool) (batch : Batch) → IsCross f index o reads batch → IsParting f index ((o, reads) ∷ []) batch
parts_one f index o reads batch is = cross o reads (0, lit< tt, refl) is

pub parts_full : (f : Face) (index : ℕ) (used : List (Object × Bool)) (batch : Batch) → IsFull batch → IsParting f index used batch
parts_full f index used batch is = full is

-- the same of more objects, before contexts were flushed
pub parting_before : (f g : Face) (index : ℕ) (some all : List (Object × Bool)) → g.objects ≡ f.objects → ((u : Object × Bool) → Contains some u → Contains all u) → (batch : Batch) → IsParting g index some batch → IsParting f index all batch
parting_before f g index some all same more batch (cross o reads listed is) = cross o reads (more (o, reads) listed) (cross_before f g index o reads batch same is)
parting_before f g index some all same more batch (full is) = full is

pub settles_parting : (f : Face) (index : ℕ) (o : Object) (batch : Batch) → IsParting f index ((o, false) ∷ []) batch → IsSettling f index o batch
settles_parting f index o batch is = parting is

pub settles_reading : (f g : Face) (index : ℕ) (o : Object) (reads : Bool) (batch : Batch) → IsTouching g index o reads reason.Read batch → IsSettling f index o batch
settles_reading f g index o reads batch is = reading is.of_index is.for_reason (λ none. false≢true (sym (ap (λ nodes. nodes_touch nodes is.reaches.stored.handle) none) ∙ is.reaches.touches))

-- of two objects
pub first_parts : (f : Face) (index : ℕ) (a b : Object × Bool) (batch : Batch) → IsParting f index (a ∷ []) batch → IsParting f index (a ∷ b ∷ []) batch
first_parts f index a b = parting_before f f index (a ∷ []) (a ∷ b ∷ []) refl (Contains-append_left (a ∷ []) (b ∷ []))

pub second_parts : (f g : Face) (index : ℕ) (a b : Object × Bool) → g.objects ≡ f.objects → (batch : Batch) → IsParting g index (b ∷ []) batch → IsParting f index (a ∷ b ∷ []) batch
second_parts f g index a b same = parting_before f g index (b ∷ []) (a ∷ b ∷ []) same (Contains-append_right (a ∷ []) (b ∷ []))

pub ends : (f : Face) (index : ℕ) (batch : Batch) → IsFlushOfSome f index reason.End batch → IsEnding batch
ends f index batch flush = record { for_reason = flush.flush.for_reason; some = flush.some }
