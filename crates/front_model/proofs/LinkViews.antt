-- What the link's steps show: nothing else, but where the host writes into the store of an object.
use Rattle.std.specs.Prelude.{if◌then◌else◌}
use Rattle.std.specs.Option.{option_map}
use Rattle.front_model.specs.Steps.{heard, heard_store, with_read}
use Rattle.std.proofs.Common.{Bool}
use Rattle.std.specs.Prelude.{◌==◌}
use mathlib.Core.Path.{fun_ext}
use Rattle.std.proofs.Common.{◌≡◌, ◌≢◌, ℕ, ◌+◌, ◌-◌, ◌<◌, ◌≤◌, List, [], ◌∷◌, ◌++◌, length, true, false, cond, eqb, refl, sym, ◌∙◌, ap, arith, inl, inr}
use Rattle.std.specs.Prelude.{◌⊎◌, ◌&&◌, nat_le, nat_lt, slice_index, Option, Some, None, All, unwrap_or}
use Rattle.std.proofs.lemmas.Bool.{cases_lt, or_from, ne_eqb, le-ltb, and_right, or_left, cond-false}
use Rattle.std.proofs.lemmas.List.{append-nil}
use Rattle.std.proofs.lemmas.List.Concat.{flat_map-append}
use Rattle.std.proofs.lemmas.List.Elements.{All-head, All-tail}
use Rattle.vk_types.specs.declared.handles.Kind.{Kind}
use Rattle.vk_types.specs.declared.handles.Kind.TheVariants.{Buffer}
use Rattle.vk_types.specs.declared.batches.Batch.{Batch}
use Rattle.vk_types.specs.declared.ops.Node.{Node}
use Rattle.vk_types.specs.Touches.{the_end}
use Rattle.vk_model.specs.Cells.{Contents}
use Rattle.vk_model.specs.Log.{Item, HostWrite, commands}
use Rattle.vk_model.specs.Meaning.{nothing, covers, is_touched, apply, after_all, eval}
use Rattle.vk_model.proofs.Local.{after_written, after_unwritten}
use Rattle.vk_model.proofs.Copies.{covered_from, found_at}
use Rattle.vk_model.proofs.Order.{after_all-append, after_untouched}
use Rattle.back_core.specs.Own.{Own, HostWrote, Enqueued, HostRead, log_by, log_of, own_touches}
use Rattle.back_core.specs.Link.{Link, kinds_of, contents_of, created, wrote, enqueued, fetched}
use Rattle.back_core.specs.Needs.{IsOfGroup, IsFresh}
use Rattle.back_core.specs.Answers.{Learns}
use Rattle.front_model.specs.declared.object.Object.{Object}
use Rattle.front_model.specs.Face.{Slot, Stored, Face, put_object, indexes_of, in_order, recorded, waits, content_in, view, nodes_touch}
use Rattle.front_model.specs.Stands.{Hands, Holds}
use Rattle.front_model.specs.Steps.{IsNextBatch, flushed}
use Rattle.front_model.proofs.Base.{put-other, cases_object, put_object-same, put_object-other}
use Rattle.front_model.proofs.Contents.{AlikeOn, none_touches, nodes_leave, nodes_alike_but, nodes_same_kinds, leaves_unmade, all_leave_unmade}
use Rattle.front_model.proofs.OrderedViews.{of_group, goes_first}
use Rattle.front_model.proofs.Updates.{in_part}
use Rattle.front_model.proofs.Shown.{none_touching, in_hand_apart, store_apart, shown_but, content_clear}

-- Logs

log_then : (mine : List Own) (x : Own) → log_of (mine ++ x ∷ []) ≡ log_of mine ++ log_by x
log_then mine x = flat_map-append log_by mine (x ∷ []) ∙ ap (λ l. log_of mine ++ l) (append-nil (log_by x))

-- what one more item of the group leaves
eval_then : (kinds : ℕ → Kind) (mine : List Own) (x : Own) → eval kinds (log_of (mine ++ x ∷ [])) ≡ after_all kinds (log_by x) (eval kinds (log_of mine))
eval_then kinds mine x = ap (eval kinds) (log_then mine x) ∙ after_all-append kinds (log_of mine) (log_by x) nothing

-- and then what is pending
pub then_pending : (kinds : ℕ → Kind) (log : List Item) (nodes : List Node) → eval kinds (log ++ commands 0 nodes) ≡ after_all kinds (commands 0 nodes) (eval kinds log)
then_pending kinds log nodes = after_all-append kinds log (commands 0 nodes) nothing

recorded_then : (kinds : ℕ → Kind) (mine : List Own) (x : Own) (nodes : List Node) → eval kinds (log_of (mine ++ x ∷ []) ++ commands 0 nodes) ≡ after_all kinds (commands 0 nodes) (after_all kinds (log_by x) (eval kinds (log_of mine)))
recorded_then kinds mine x nodes = then_pending kinds (log_of (mine ++ x ∷ [])) nodes ∙ ap (after_all kinds (commands 0 nodes)) (eval_then kinds mine x)

-- the same contents show the same
pub same_contents : (f : Face) (kinds : ℕ → Kind) (c d : Contents) → c ≡ d → ◌≡◌ {A = Object → ℕ → ℕ} (λ o. content_in kinds c (f.objects o)) (λ o. content_in kinds d (f.objects o))
same_contents f kinds c d e = ap {B = Object → ℕ → ℕ} (λ c o. content_in kinds c (f.objects o)) e

-- A new handle

module _ (kinds kinds' : ℕ → Kind) (id : ℕ) (same : (j : ℕ) → j ≢ id → kinds j ≡ kinds' j) where
  own_same : (x : Own) → own_touches x id ≡ false → (c : Contents) → after_all kinds (log_by x) c ≡ after_all kinds' (log_by x) c
  own_same (HostWrote i start bytes) none c = refl
  own_same (Enqueued batch) none c = nodes_same_kinds kinds kinds' id same batch.nodes none c
  own_same (HostRead i start bytes) none c = refl

  mine_same : (mine : List Own) → All (λ x. own_touches x id ≡ false) mine → (c : Contents) → after_all kinds (log_of mine) c ≡ after_all kinds' (log_of mine) c
  mine_same [] none c = refl
  mine_same (x ∷ mine) none c =
      after_all-append kinds (log_by x) (log_of mine) c
      ∙ mine_same mine (All-tail (λ x. own_touches x id ≡ false) x mine none) (after_all kinds (log_by x) c)
      ∙ ap (after_all kinds' (log_of mine)) (own_same x (All-head (λ x. own_touches x id ≡ false) x mine none) c)
      ∙ sym (after_all-append kinds' (log_by x) (log_of mine) c)

  whole_same : (mine : List Own) (nodes : List Node) → All (λ x. own_touches x id ≡ false) mine → nodes_touch nodes id ≡ false → eval kinds (log_of mine ++ commands 0 nodes) ≡ eval kinds' (log_of mine ++ commands 0 nodes)
  whole_same mine nodes none apart =
      then_pending kinds (log_of mine) nodes
      ∙ nodes_same_kinds kinds kinds' id same nodes apart (eval kinds (log_of mine))
      ∙ ap (after_all kinds' (commands 0 nodes)) (mine_same mine none nothing)
      ∙ sym (then_pending kinds' (log_of mine) nodes)

pub view_created : (f : Face) (hands : Hands) (s : Link) (id : ℕ) (kind : Kind) → Holds f hands s → IsFresh s id → view f (created s id kind) ≡ view f s
view_created f hands s id kind h fresh = fun_ext (λ o. go o (f.objects o) refl)
  where
    same : (j : ℕ) → j ≢ id → kinds_of (created s id kind) j ≡ kinds_of s j
    same j other = ap (λ k. unwrap_or k (Buffer 0)) (put-other s.kinds id (Some kind) j other)

    pending_apart : nodes_touch (in_order f) id ≡ false
    pending_apart = none_touches f.pending (indexes_of f.group) id (λ i. all_leave_unmade s.kinds id fresh.not_made (f.pending i) (h.fits i))

    recorded_same : recorded f (created s id kind) ≡ recorded f s
    recorded_same = whole_same (kinds_of (created s id kind)) (kinds_of s) id same s.mine (in_order f) fresh.untouched pending_apart

    go : (o : Object) (v : Option Stored) → f.objects o ≡ v → content_in (kinds_of (created s id kind)) (recorded f (created s id kind)) v ≡ content_in (kinds_of s) (recorded f s) v
    go o None at = refl
    go o (Some b) at =
        let apart : nodes_touch (waits b) id ≡ false = none_touching b.waiting id (λ place w is. leaves_unmade s.kinds id fresh.not_made w.node ((h.objects o b at).waiting place w is).fits) in
        ap (λ c. c b.handle) (nodes_same_kinds (kinds_of (created s id kind)) (kinds_of s) id same (waits b) apart (recorded f (created s id kind)))
        ∙ ap (λ c. after_all (kinds_of s) (commands 0 (waits b)) c b.handle) recorded_same

-- A write by the host

host_leaves : (kinds : ℕ → Kind) (id at : ℕ) (bytes : List ℕ) (c : Contents) → AlikeOn (λ j. j ≢ id) (apply kinds (HostWrite id at bytes) c) c
host_leaves kinds id at bytes c j other = after_untouched kinds (HostWrite id at bytes) j (or_from (eqb id j) false (ne_eqb id j (λ e. other (sym e))) refl) c

host_cell : (kinds : ℕ → Kind) (id at : ℕ) (bytes : List ℕ) (c : Contents) → at + length bytes ≤ the_end → (i : ℕ) → apply kinds (HostWrite id at bytes) c id i ≡ cond (in_part at (length bytes) i) (slice_index bytes (i - at)) (c id i)
host_cell kinds id at bytes c inside i = go (cases_lt i the_end)
  where
    go : (i < the_end) ⊎ (the_end ≤ i) → apply kinds (HostWrite id at bytes) c id i ≡ cond (in_part at (length bytes) i) (slice_index bytes (i - at)) (c id i)
    go (inl lt) =
        let covered : covers id i (record { id = id; start = 0; end = the_end; written = true }) ≡ true = covered_from id i (record { id = id; start = 0; end = the_end; written = true }) refl (omega arith) lt in
        let touched : is_touched (HostWrite id at bytes) id i ≡ true = or_left (covers id i (record { id = id; start = 0; end = the_end; written = true })) false covered in
        after_written kinds (HostWrite id at bytes) c id i touched
        ∙ ap (λ v. cond (in_part at (length bytes) i) (slice_index bytes (i - at)) v) (found_at (HostWrite id at bytes) c id i touched)
    go (inr le) =
        let past : nat_lt i the_end ≡ false = le-ltb i the_end le in
        let behind : in_part at (length bytes) i ≡ false = and_right (nat_le at i) (nat_lt i (at + length bytes)) (le-ltb i (at + length bytes) (omega arith)) in
        after_unwritten kinds (HostWrite id at bytes) c id i (or_from (covers id i (record { id = id; start = 0; end = the_end; written = true })) false (and_right (eqb id id && nat_le 0 i) (nat_lt i the_end) past) refl)
        ∙ sym (cond-false (in_part at (length bytes) i) (slice_index bytes (i - at)) (c id i) behind)

module _ (f : Face) (hands : Hands) (s : Link) (h : Holds f hands s) (id at : ℕ) (bytes : List ℕ) (apart : (index : ℕ) → nodes_touch (f.pending index) id ≡ false) where
  pending_leave : nodes_touch (in_order f) id ≡ false
  pending_leave = none_touches f.pending (indexes_of f.group) id apart

  recorded_wrote : recorded f (wrote s id at bytes) ≡ after_all (kinds_of s) (commands 0 (in_order f)) (apply (kinds_of s) (HostWrite id at bytes) (contents_of s))
  recorded_wrote = recorded_then (kinds_of s) s.mine (HostWrote id at bytes) (in_order f)

  -- all other handles have what they had
  wrote_alike : AlikeOn (λ j. j ≢ id) (recorded f (wrote s id at bytes)) (recorded f s)
  wrote_alike j other =
      ap (λ c. c j) recorded_wrote
      ∙ nodes_alike_but (kinds_of s) (in_order f) id (apply (kinds_of s) (HostWrite id at bytes) (contents_of s)) (contents_of s) pending_leave (host_leaves (kinds_of s) id at bytes (contents_of s)) j other
      ∙ sym (ap (λ c. c j) (then_pending (kinds_of s) (log_of s.mine) (in_order f)))

  -- and the handle has the bytes
  pub wrote_cell : at + length bytes ≤ the_end → (i : ℕ) → recorded f (wrote s id at bytes) id i ≡ cond (in_part at (length bytes) i) (slice_index bytes (i - at)) (recorded f s id i)
  wrote_cell inside i =
      ap (λ c. c id i) recorded_wrote
      ∙ ap (λ c. c i) (nodes_leave (kinds_of s) (in_order f) id pending_leave (apply (kinds_of s) (HostWrite id at bytes) (contents_of s)))
      ∙ host_cell (kinds_of s) id at bytes (contents_of s) inside i
      ∙ sym (ap (λ v. cond (in_part at (length bytes) i) (slice_index bytes (i - at)) (v i)) (ap (λ c. c id) (then_pending (kinds_of s) (log_of s.mine) (in_order f)) ∙ nodes_leave (kinds_of s) (in_order f) id pending_leave (contents_of s)))

pub view_wrote_hand : (f : Face) (hands : Hands) (s : Link) (id at : ℕ) (bytes : List ℕ) (slot : Slot) → Holds f hands s → hands id ≡ Some slot → ((index : ℕ) → nodes_touch (f.pending index) id ≡ false) → view f (wrote s id at bytes) ≡ view f s
view_wrote_hand f hands s id at bytes slot h in_hand apart =
    fun_ext (λ o. shown_but f hands s h (kinds_of s) (recorded f (wrote s id at bytes)) (recorded f s) o id (in_hand_apart h.owner o id (h.hands_stand id slot in_hand).owned) (wrote_alike f hands s h id at bytes apart))

pub view_wrote : (f : Face) (hands : Hands) (s : Link) (o : Object) (b : Stored) (at : ℕ) (bytes : List ℕ) → Holds f hands s → f.objects o ≡ Some b → b.waiting ≡ [] → ((index : ℕ) → nodes_touch (f.pending index) b.handle ≡ false) → at + length bytes ≤ the_end →
    view f (wrote s b.handle at bytes) ≡ put_object (view f s) o (λ i. cond (nat_le at i && nat_lt i (at + length bytes)) (slice_index bytes (i - at)) (view f s o i))
view_wrote f hands s o b at bytes h is clear apart inside = fun_ext (λ q. go q (cases_object q o))
  where
    new : ℕ → ℕ
    new i = cond (nat_le at i && nat_lt i (at + length bytes)) (slice_index bytes (i - at)) (view f s o i)

    shows : (c : Contents) → content_in (kinds_of s) c (f.objects o) ≡ c b.handle
    shows c = ap (content_in (kinds_of s) c) is ∙ content_clear (kinds_of s) c b clear

    go : (q : Object) → (q ≡ o) ⊎ (q ≢ o) → view f (wrote s b.handle at bytes) q ≡ put_object (view f s) o new q
    go q (inl same) =
        ap (view f (wrote s b.handle at bytes)) same
        ∙ shows (recorded f (wrote s b.handle at bytes))
        ∙ fun_ext (λ i. wrote_cell f hands s h b.handle at bytes apart inside i ∙ sym (ap (λ (v : ℕ → ℕ). cond (in_part at (length bytes) i) (slice_index bytes (i - at)) (v i)) (shows (recorded f s))))
        ∙ sym (put_object-same (view f s) o new)
        ∙ sym (ap (put_object (view f s) o new) same)
    go q (inr other) =
        shown_but f hands s h (kinds_of s) (recorded f (wrote s b.handle at bytes)) (recorded f s) q b.handle (store_apart h.owner q o b.handle (h.objects o b is).owned other) (wrote_alike f hands s h b.handle at bytes apart)
        ∙ sym (put_object-other (view f s) o new q other)

-- A read by the host, an answer, a gift

content_heard : (kinds : ℕ → Kind) (c : Contents) (id : ℕ) (v : Option Stored) → content_in kinds c (option_map (heard_store id) v) ≡ content_in kinds c v
content_heard kinds c id None = refl
content_heard kinds c id (Some b) = go (b.handle == id)
  where
    go : (e : Bool) → content_in kinds c (Some (if e then (record b { slot = heard b.slot }) else b)) ≡ content_in kinds c (Some b)
    go true = refl
    go false = refl

pub view_fetched : (f : Face) (s : Link) (id at : ℕ) (bytes : List ℕ) → view (with_read f id) (fetched s id at bytes) ≡ view f s
view_fetched f s id at bytes = fun_ext (λ o. content_heard (kinds_of s) (recorded f (fetched s id at bytes)) id (f.objects o)) ∙ ap {B = Object → ℕ → ℕ} (λ (l : List Item) o. content_in (kinds_of s) (eval (kinds_of s) (l ++ commands 0 (in_order f))) (f.objects o)) (log_then s.mine (HostRead id at bytes) ∙ append-nil (log_of s.mine))

pub view_learns : (f : Face) (s t : Link) → Learns s t → view f t ≡ view f s
view_learns f s t learns = ap (view f) learns.rest

-- A batch

pub view_enqueued : (f : Face) (hands : Hands) (s : Link) (index : ℕ) (batch : Batch) → Holds f hands s → IsOfGroup f.group index → IsNextBatch f index batch → view (flushed f index) (enqueued s batch) ≡ view f s
view_enqueued f hands s index batch h own next = same_contents f (kinds_of s) (recorded (flushed f index) (enqueued s batch)) (recorded f s) same
  where
    same : recorded (flushed f index) (enqueued s batch) ≡ recorded f s
    same =
        recorded_then (kinds_of s) s.mine (Enqueued batch) (in_order (flushed f index))
        ∙ ap (λ nodes. after_all (kinds_of s) (commands 0 (in_order (flushed f index))) (after_all (kinds_of s) (commands 0 nodes) (contents_of s))) next.all
        ∙ goes_first (kinds_of s) f.pending index (indexes_of f.group) (of_group f.group index own) (λ i other. h.apart i index other) (contents_of s)
        ∙ sym (then_pending (kinds_of s) (log_of s.mine) (in_order f))
