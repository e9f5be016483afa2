-- What a flush comes to.
use Rattle.std.proofs.Common.{◌≡◌, ℕ, ◌+◌, ◌*◌, ◌≤◌, List, [], ◌∷◌, ◌++◌, length, refl, sym, ap, subst, ◌∙◌, arith, append-nil, inl, inr}
use Rattle.std.specs.Prelude.{slice_index_or}
use Rattle.std.proofs.lemmas.Bool.{cases_eq}
use mathlib.Core.Path.{fun_ext}
use Rattle.vk_types.specs.declared.batches.Batch.{Batch}
use Rattle.vk_model.specs.Log.{commands}
use Rattle.vk_device.specs.Order.{IsOfOneQueue}
use Rattle.queue_serials.specs.Indexes.{last_of}
use Rattle.back_core.specs.Own.{Enqueued, log_of}
use Rattle.back_core.specs.Link.{Link, put, enqueued}
use Rattle.back_core.specs.Needs.{IsOfGroup}
use Rattle.front_model.specs.declared.object.Object.{Object}
use Rattle.front_model.specs.Face.{Face, view}
use Rattle.front_model.specs.Stands.{no_hands, Holds, IsQuiet}
use Rattle.front_model.specs.Steps.{IsNextBatch, flushed}
use Rattle.front_model.proofs.Base.{put_at, put-other}
use Rattle.front_model.proofs.Uses.{log_then}
use Rattle.front_moves.specs.Core.{CoreParts, face, HasFlushed}
use Rattle.front_moves.proofs.Faces.{pending_at, last_own}

pub empty_of : {X : Type 0} (xs : List X) → length xs ≡ 0 → xs ≡ []
empty_of [] e = refl
empty_of (x ∷ xs) e = absurd (omega arith)

-- a function with its own value at a place
put_own : {A : Type 0} (f : ℕ → A) (k : ℕ) (v : A) → f k ≡ v → f ≡ put f k v
put_own f k v is = fun_ext (λ i. elim (cases_eq i k) [
  | inl same ↦ ap f same ∙ is ∙ sym (put_at f k v i same)
  | inr other ↦ sym (put-other f k v i other)
])

pub nothing_flushed : (f : Face) (s : Link) (index : ℕ) → Holds f no_hands s → f.pending index ≡ [] → HasFlushed f f s s index
nothing_flushed f s index h none = record {
  moved = record { holds = h; view_is = refl; outlines_are = refl; still = λ o quiet. quiet };
  flushed = record { pending = put_own f.pending index [] none; objects = refl; group = refl };
  log = sym (ap (λ nodes. log_of s.mine ++ commands 0 nodes) none ∙ append-nil (log_of s.mine));
}

-- no last number has fallen
pub last_rises : (f g : Face) (index : ℕ) → g.last ≡ put f.last index (f.last index + 1) → (i : ℕ) → f.last i ≤ g.last i
last_rises f g index is i = elim (cases_eq i index) [
  | inl same ↦
      let now : g.last i ≡ f.last index + 1 = ap (λ (l : ℕ → ℕ). l i) is ∙ put_at f.last index (f.last index + 1) i same in
      let was : f.last i ≡ f.last index = ap f.last same in
      omega arith
  | inr other ↦ let now : g.last i ≡ f.last i = ap (λ (l : ℕ → ℕ). l i) is ∙ put-other f.last index (f.last index + 1) i other in omega arith
]

-- a batch that is handed over changes the list alone
pub only_enqueued : (s t : Link) → (batch : Batch) × (t ≡ enqueued s batch) → (t.done ≡ s.done) × (t.asked ≡ s.asked)
only_enqueued s t one = (ap (λ (l : Link). l.done) one.1, ap (λ (l : Link). l.asked) one.1)

pub batch_flushed : (f g : Face) (s t : Link) (index : ℕ) (batch : Batch) → g ≡ flushed f index → t ≡ enqueued s batch → IsNextBatch f index batch →
    Holds (flushed f index) no_hands (enqueued s batch) → view (flushed f index) (enqueued s batch) ≡ view f s →
    ((o : Object) → IsQuiet f s o → IsQuiet (flushed f index) (enqueued s batch) o) → HasFlushed f g s t index
batch_flushed f g s t index batch is_face is_link next_ holds shows stays =
    subst (λ x. HasFlushed f x s t index) (sym is_face) (subst (λ x. HasFlushed f (flushed f index) s x index) (sym is_link) (record {
      moved = record { holds = holds; view_is = shows; outlines_are = refl; still = stays };
      flushed = record { pending = refl; objects = refl; group = refl };
      log = log_then s.mine (Enqueued batch) ∙ ap (λ nodes. log_of s.mine ++ commands 0 nodes) next_.all;
    }))

-- what is known of a core at the place of an index
pub record IsAtPlace (c : CoreParts) (s : Link) (index place : ℕ) : Type 0 where
  pub holds : Holds (face c) no_hands s
  pub own : IsOfGroup c.indexes.group index
  pub at : place + 8 * c.indexes.group ≡ index

pub same_place : (c d : CoreParts) (s : Link) (index place : ℕ) → c ≡ d → Holds (face d) no_hands s → IsOfGroup d.indexes.group index → place + 8 * d.indexes.group ≡ index →
    IsAtPlace c s index place
same_place c d s index place same h own at = subst (λ x. IsAtPlace x s index place) (sym same) (record { holds = h; own = own; at = at })

-- how much is pending at the place of an index
pub pending_length : (c d : CoreParts) (index place n : ℕ) → c ≡ d → IsOfGroup d.indexes.group index → place + 8 * d.indexes.group ≡ index →
    n ≡ length (slice_index_or c.pending place []) → n ≡ length ((face d).pending index)
pending_length c d index place n same own at is =
    subst (λ (x : CoreParts). n ≡ length (slice_index_or x.pending place [])) same is ∙ sym (ap length (pending_at d.indexes.group d.pending index place own at))

-- the next batch of an index
pub next_batch : (c : CoreParts) (index place : ℕ) (batch : Batch) → IsOfGroup c.indexes.group index → place + 8 * c.indexes.group ≡ index →
    batch.index ≡ index → batch.number ≡ last_of c.indexes index + 1 → batch.nodes ≡ slice_index_or c.pending place [] → IsOfOneQueue batch →
    IsNextBatch (face c) index batch
next_batch c index place batch own at is number nodes one = record {
  one_queue = one;
  of_index = is;
  next = number ∙ ap (λ n. n + 1) (sym (last_own c.indexes index own));
  all = nodes ∙ sym (pending_at c.indexes.group c.pending index place own at);
}
