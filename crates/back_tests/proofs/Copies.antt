-- What the tests need of a link.
use Rattle.std.proofs.Common.{◌≡◌, ◌≢◌, ℕ, zero, suc, ◌<◌, ◌==◌, Bool, true, false, List, [], ◌∷◌, ◌++◌, length, refl, sym, ap, ◌∙◌, subst, inl, inr, arith}
use Rattle.std.specs.Prelude.{◌&&◌, ◌||◌, Some, None, IfSome, All, slice_get, slice_index, replicate}
use Rattle.std.specs.List.{list_any}
use Rattle.std.proofs.lemmas.Bool.{cases_eq, cond-true, cond-false, eq-eqb, eqb-true, ne_eqb}
use Rattle.vk_types.specs.declared.handles.HandleId.{HandleId}
use Rattle.vk_types.specs.declared.handles.Kind.{Kind}
use Rattle.vk_types.specs.declared.handles.Kind.TheVariants.{Buffer}
use Rattle.vk_types.specs.declared.batches.Batch.{Batch}
use Rattle.vk_types.specs.declared.batches.QueueSerial.{QueueSerial}
use Rattle.vk_types.specs.declared.ops.Node.{Node}
use Rattle.vk_types.specs.declared.regions.Touch.{Touch}
use Rattle.vk_model.specs.Log.{Item, Command, HostWrite, commands, touches_object, NoneEmpty, IsSound, FindsLayouts, layout_after, Reaches, direct}
use Rattle.vk_types.specs.Accesses.{no_access, transfer_read, transfer_write}
use Rattle.vk_types.specs.Touches.{part, whole}
use Rattle.vk_model.specs.Fitting.{HasRange, NodeFits}
use Rattle.vk_device.specs.Order.{IsOfOneQueue}
use Rattle.back_core.specs.Own.{Own, HostWrote, Enqueued, log_of, next_number, IsReadable}
use Rattle.back_core.specs.Link.{Link, IsNew, put, created, wrote, enqueued, gave, abandoned}
use Rattle.back_core.specs.Needs.{IsOfGroup, IsFresh, MayEnqueue, MayGive}
use Rattle.back_core.specs.Answers.{Waits}
use Rattle.back_tests.specs.Copying.{HasTwo, HasThree, copy, hand_over, copy_nodes}

-- Who holds what

put_here : {A : Type 0} (f : ℕ → A) (k : ℕ) (v : A) → put f k v k ≡ v
unfolding put
put_here f k v = cond-true (k == k) v (f k) (eq-eqb k k refl)

put_else : {A : Type 0} (f : ℕ → A) (k i : ℕ) (v : A) → i ≢ k → put f k v i ≡ f i
unfolding put
put_else f k i v e = cond-false (i == k) v (f i) (ne_eqb i k e)

pub made_held : (s new : Link) (id : ℕ) (kind : Kind) → new ≡ created s id kind → new.held id ≡ true
made_held s new id kind e = ap (λ (l : Link). l.held id) e ∙ put_here s.held id true

pub made_kind : (s new : Link) (id : ℕ) (kind : Kind) → new ≡ created s id kind → new.kinds id ≡ Some kind
made_kind s new id kind e = ap (λ (l : Link). l.kinds id) e ∙ put_here s.kinds id (Some kind)

-- a new object is none that is held
pub differs : (s : Link) (id other : ℕ) → IsFresh s id → s.held other ≡ true → other ≢ id
differs s id other fresh held = λ same. absurd (cc (fresh.not_held, held, ap s.held same))

pub kept_held : (s new : Link) (id other : ℕ) (kind : Kind) → new ≡ created s id kind → IsFresh s id → s.held other ≡ true → new.held other ≡ true
kept_held s new id other kind e fresh held = ap (λ (l : Link). l.held other) e ∙ (put_else s.held id other true (differs s id other fresh held) ∙ held)

pub kept_kind : (s new : Link) (id other : ℕ) (kind : Kind) → new ≡ created s id kind → other ≢ id → new.kinds other ≡ s.kinds other
kept_kind s new id other kind e differ = ap (λ (l : Link). l.kinds other) e ∙ put_else s.kinds id other (Some kind) differ

pub left_held : (s new : Link) (id other : ℕ) → new ≡ abandoned s id → other ≢ id → s.held other ≡ true → new.held other ≡ true
left_held s new id other e differ held = ap (λ (l : Link). l.held other) e ∙ (put_else s.held id other false differ ∙ held)

pub two : (s0 s1 s2 : Link) (src dst : ℕ) → IsNew s0 0 → s1 ≡ created s0 src (Buffer 4) → IsFresh s1 dst → s2 ≡ created s1 dst (Buffer 4) → HasTwo s2 src dst
two s0 s1 s2 src dst new e1 fresh e2 =
    let held = made_held s0 s1 src (Buffer 4) e1 in
    let differ : src ≢ dst = differs s1 dst src fresh held in
    record {
      of_group = ap (λ (l : Link). l.group) e2 ∙ (ap (λ (l : Link). l.group) e1 ∙ new.of_group);
      unused = ap (λ (l : Link). l.mine) e2 ∙ (ap (λ (l : Link). l.mine) e1 ∙ new.empty);
      differ = differ;
      src_held = kept_held s1 s2 dst src (Buffer 4) e2 fresh held;
      dst_held = made_held s1 s2 dst (Buffer 4) e2;
      src_kind = kept_kind s1 s2 dst src (Buffer 4) e2 differ ∙ made_kind s0 s1 src (Buffer 4) e1;
      dst_kind = made_kind s1 s2 dst (Buffer 4) e2;
    }

pub three : (s0 s1 s2 s3 : Link) (a b c : ℕ) → IsNew s0 0 → s1 ≡ created s0 a (Buffer 4) → IsFresh s1 b → s2 ≡ created s1 b (Buffer 4) → IsFresh s2 c → s3 ≡ created s2 c (Buffer 4) → HasThree s3 a b c
three s0 s1 s2 s3 a b c new e1 fresh2 e2 fresh3 e3 =
    let a1 = made_held s0 s1 a (Buffer 4) e1 in
    let a2 = kept_held s1 s2 b a (Buffer 4) e2 fresh2 a1 in
    let b2 = made_held s1 s2 b (Buffer 4) e2 in
    record {
      of_group = ap (λ (l : Link). l.group) e3 ∙ (ap (λ (l : Link). l.group) e2 ∙ (ap (λ (l : Link). l.group) e1 ∙ new.of_group));
      unused = ap (λ (l : Link). l.mine) e3 ∙ (ap (λ (l : Link). l.mine) e2 ∙ (ap (λ (l : Link). l.mine) e1 ∙ new.empty));
      apart = (differs s1 b a fresh2 a1, differs s2 c a fresh3 a2, differs s2 c b fresh3 b2);
      first_held = kept_held s2 s3 c a (Buffer 4) e3 fresh3 a2;
      second_held = kept_held s2 s3 c b (Buffer 4) e3 fresh3 b2;
      third_held = made_held s2 s3 c (Buffer 4) e3;
    }

-- Giving

-- the next batch of the first index may use what is given
used_at : (s : Link) (id : ℕ) → s.group ≡ 0 → s.mine ≡ [] → s.held id ≡ true → (serial : QueueSerial) → serial.index ≡ 0 → serial.number ≡ 1 → MayGive s id (serial ∷ [])
used_at s id group none held serial index number = record {
  held = held;
  exact = λ i. elim (cases_eq serial.index i) [
    | inl same ↦ inr (
      (rw group (omega (arith, index, same)), rw group (omega (arith, index, same))),
      cond-true (serial.index == i) serial.number 0 (eq-eqb serial.index i same) ∙ (number ∙ ap (λ m. next_number m i) (sym none)),
    )
    | inr other ↦ inl (cond-false (serial.index == i) serial.number 0 (ne_eqb serial.index i other) ∙ ap (λ m. Rattle.back_core.specs.Own.last_use m i id) (sym none))
  ];
}

unused_at : (s : Link) (id : ℕ) → s.mine ≡ [] → s.held id ≡ true → MayGive s id []
unused_at s id none held = record { held = held; exact = λ i. inl (ap (λ m. Rattle.back_core.specs.Own.last_use m i id) (sym none)) }

gave_held : (s new : Link) (id other : ℕ) (uses : List QueueSerial) → new ≡ gave s id uses → other ≢ id → s.held other ≡ true → new.held other ≡ true
gave_held s new id other uses e differ held = ap (λ (l : Link). l.held other) e ∙ (put_else s.held id other false differ ∙ held)

pub may_second : (s s1 : Link) (a b c : ℕ) (uses : List QueueSerial) (serial : QueueSerial) → HasThree s a b c → s1 ≡ gave s a [] → uses ≡ serial ∷ [] → serial.index ≡ 0 → serial.number ≡ 1 → MayGive s1 b uses
may_second s s1 a b c uses serial has e is index number =
    subst (λ l. MayGive s1 b l) (sym is) (used_at s1 b (ap (λ (l : Link). l.group) e ∙ has.of_group) (ap (λ (l : Link). l.mine) e ∙ has.unused) (gave_held s s1 a b [] e (λ same. has.apart.0 (sym same)) has.second_held) serial index number)

pub may_third : (s s1 s2 : Link) (a b c : ℕ) (uses none : List QueueSerial) → HasThree s a b c → s1 ≡ gave s a [] → s2 ≡ gave s1 b uses → none ≡ [] → MayGive s2 c none
may_third s s1 s2 a b c uses none has e1 e2 is =
    subst (λ l. MayGive s2 c l) (sym is) (unused_at s2 c (ap (λ (l : Link). l.mine) e2 ∙ (ap (λ (l : Link). l.mine) e1 ∙ has.unused))
    (gave_held s1 s2 b c uses e2 (λ same. has.apart.2 (sym same)) (gave_held s s1 a c [] e1 (λ same. has.apart.1 (sym same)) has.third_held)))

-- The copy

-- the log of the copy
abbrev copy_log : HandleId → HandleId → List ℕ → List Item
copy_log src dst bytes = HostWrite src.0 0 bytes ∷ Command 0 (copy src dst) ∷ Command 0 (hand_over dst) ∷ []

copy_waits : (src dst : HandleId) → Rattle.vk_model.specs.Log.item_edge (Command 0 (copy src dst)) (Command 0 (hand_over dst)) ≡ true
copy_waits src dst = waits_at (src.0 == dst.0) (dst.0 == dst.0) (eq-eqb dst.0 dst.0 refl)
  where
    waits_at : (b c : Bool) → c ≡ true → (((b && false) || ((c && true) || false)) || false || false) ≡ true
    waits_at true c e = rw e refl
    waits_at false c e = rw e refl

copy_ordered : (src dst : HandleId) (bytes : List ℕ) (j k p q : ℕ) (a b : Node) → j < k → slice_get (copy_log src dst bytes) j ≡ Some (Command p a) → slice_get (copy_log src dst bytes) k ≡ Some (Command q b) → Reaches (copy_log src dst bytes) j k
copy_ordered src dst bytes zero k p q a b lt at at' = absurd (cc at)
copy_ordered src dst bytes (suc j) zero p q a b lt at at' = absurd (omega (arith, lt))
copy_ordered src dst bytes (suc zero) (suc zero) p q a b lt at at' = absurd (omega (arith, lt))
copy_ordered src dst bytes (suc zero) (suc (suc zero)) p q a b lt at at' = direct (record { earlier = omega arith; a = Command 0 (copy src dst); b = Command 0 (hand_over dst); a_at = refl; b_at = refl; waits = copy_waits src dst })
copy_ordered src dst bytes (suc zero) (suc (suc (suc k))) p q a b lt at at' = absurd (cc at')
copy_ordered src dst bytes (suc (suc zero)) (suc zero) p q a b lt at at' = absurd (omega (arith, lt))
copy_ordered src dst bytes (suc (suc zero)) (suc (suc zero)) p q a b lt at at' = absurd (omega (arith, lt))
copy_ordered src dst bytes (suc (suc zero)) (suc (suc (suc k))) p q a b lt at at' = absurd (cc at')
copy_ordered src dst bytes (suc (suc (suc j))) (suc k) p q a b lt at at' = absurd (cc at)

both : {X : Type 0} (P : X → Type 0) (x y : X) → P x → P y → All P (x ∷ y ∷ [])
both P x y p q zero d lt = p
both P x y p q (suc zero) d lt = q
both P x y p q (suc (suc k)) d lt = absurd (omega (arith, lt))

one : {X : Type 0} (P : X → Type 0) (x : X) → P x → All P (x ∷ [])
one P x p zero d lt = p
one P x p (suc k) d lt = absurd (omega (arith, lt))

-- the touch names no layout, or the one that it finds
abbrev Finds : List Item → Touch → Type 0
Finds log t = IfSome t.layout (λ layout. layout ≡ layout_after log t.id.0)

copy_finds : (log : List Item) (src dst : HandleId) → FindsLayouts log (copy src dst)
copy_finds log src dst = record { touched = both (Finds log) (part src 0 4 transfer_read) (part dst 0 4 transfer_write) tt tt; old = tt }

hand_over_finds : (log : List Item) (dst : HandleId) → FindsLayouts log (hand_over dst)
hand_over_finds log dst = record { touched = one (Finds log) (whole dst no_access None) tt; old = tt }

copy_laid_out : (src dst : HandleId) (bytes : List ℕ) (k q : ℕ) (n : Node) (log : List Item) → slice_get (copy_log src dst bytes) k ≡ Some (Command q n) → FindsLayouts log n
copy_laid_out src dst bytes zero q n log at = absurd (cc at)
copy_laid_out src dst bytes (suc zero) q n log at = subst (FindsLayouts log) (cc at) (copy_finds log src dst)
copy_laid_out src dst bytes (suc (suc zero)) q n log at = subst (FindsLayouts log) (cc at) (hand_over_finds log dst)
copy_laid_out src dst bytes (suc (suc (suc k))) q n log at = absurd (cc at)

copy_sound : (src dst : HandleId) (bytes : List ℕ) → IsSound (copy_log src dst bytes)
copy_sound src dst bytes = record {
  ordered = λ j k p q a b lt at at' c. copy_ordered src dst bytes j k p q a b lt at at';
  laid_out = λ k q n at. copy_laid_out src dst bytes k q n _ at;
}

abbrev HasPlaces : Touch → Type 0
HasPlaces t = t.start < t.end

pub copy_may : (s new : Link) (src dst : HandleId) (bytes : List ℕ) (b : Batch) → HasTwo s src.0 dst.0 → new ≡ wrote s src.0 0 bytes → IsOfOneQueue b → b.index ≡ 0 → b.number ≡ 1 → b.nodes ≡ copy_nodes src dst → MayEnqueue new b
copy_may s new src dst bytes b has e one_queue index number nodes =
    let mine : new.mine ≡ HostWrote src.0 0 bytes ∷ [] = ap (λ (l : Link). l.mine) e ∙ ap (λ m. m ++ HostWrote src.0 0 bytes ∷ []) has.unused in
    let kinds : new.kinds ≡ s.kinds = ap (λ (l : Link). l.kinds) e in
    record {
      one_queue = one_queue;
      few = let n = ap length nodes in omega arith;
      sound = subst (λ m. IsSound (log_of m ++ commands 0 b.nodes)) (sym mine) (subst (λ ns. IsSound (HostWrite src.0 0 bytes ∷ commands 0 ns)) (sym nodes) (copy_sound src dst bytes));
      none_empty = subst (All NoneEmpty) (sym nodes) (both NoneEmpty (copy src dst) (hand_over dst) (both HasPlaces (part src 0 4 transfer_read) (part dst 0 4 transfer_write) (omega arith) (omega arith)) (one HasPlaces (whole dst no_access None) (omega arith)));
      fits = subst (All (NodeFits new.kinds)) (sym nodes) (subst (λ f. All (NodeFits f) (copy_nodes src dst)) (sym kinds) (both (NodeFits s.kinds) (copy src dst) (hand_over dst) (subst (λ k. HasRange k 0 4) (sym has.src_kind) (omega arith, omega arith), subst (λ k. HasRange k 0 4) (sym has.dst_kind) (omega arith, omega arith), λ same. absurd (has.differ same)) (rw has.dst_kind refl)));
      next = number ∙ ap (λ m. next_number m b.index) (sym mine);
      of_group = subst (λ g. IsOfGroup g b.index) (sym (ap (λ (l : Link). l.group) e ∙ has.of_group)) (omega (arith, index), omega (arith, index));
      touched = λ id t. inl (ap (λ (l : Link). l.held id) e ∙ copy_touches s src dst id has (sym (ap (λ ns. list_any (λ n. touches_object n id) ns) nodes) ∙ t));
    }
  where
    touched_at : (s : Link) (src dst id : ℕ) → s.held src ≡ true → s.held dst ≡ true → (b c : Bool) → (src == id) ≡ b → (dst == id) ≡ c → ((b || (c || false)) || ((c || false) || false)) ≡ true → s.held id ≡ true
    touched_at s src dst id h h' true c e e' t = subst (λ i. s.held i ≡ true) (eqb-true src id e) h
    touched_at s src dst id h h' false true e e' t = subst (λ i. s.held i ≡ true) (eqb-true dst id e') h'
    touched_at s src dst id h h' false false e e' t = absurd (cc t)

    copy_touches : (s : Link) (src dst : HandleId) (id : ℕ) → HasTwo s src.0 dst.0 → list_any (λ n. touches_object n id) (copy_nodes src dst) ≡ true → s.held id ≡ true
    copy_touches s src dst id has t = touched_at s src.0 dst.0 id has.src_held has.dst_held (src.0 == id) (dst.0 == id) refl refl t

pub copy_readable : (s s1 s2 s3 : Link) (src dst : HandleId) (bytes : List ℕ) (b : Batch) (size index number : ℕ) → HasTwo s src.0 dst.0 → s1 ≡ wrote s src.0 0 bytes → s2 ≡ enqueued s1 b → Waits s2 s3 index number → b.nodes ≡ copy_nodes src dst → IsReadable (log_of s3.mine) dst.0 0 size
copy_readable s s1 s2 s3 src dst bytes b size index number has e1 e2 waited nodes =
    let mine : s3.mine ≡ HostWrote src.0 0 bytes ∷ Enqueued b ∷ [] = ap (λ (l : Link). l.mine) waited.learns.rest ∙ (ap (λ (l : Link). l.mine) e2 ∙ (ap (λ (l : Link). l.mine ++ Enqueued b ∷ []) e1 ∙ ap (λ m. (m ++ HostWrote src.0 0 bytes ∷ []) ++ Enqueued b ∷ []) has.unused)) in
    subst (λ m. IsReadable (log_of m) dst.0 0 size) (sym mine) (subst (λ ns. IsReadable (HostWrite src.0 0 bytes ∷ (commands 0 ns ++ [])) dst.0 0 size) (sym nodes) (readable src dst bytes size))
  where
    readable : (src dst : HandleId) (bytes : List ℕ) (size : ℕ) → IsReadable (copy_log src dst bytes) dst.0 0 size
    readable src dst bytes size zero q n at none w = absurd (cc at)
    readable src dst bytes size (suc zero) q n at none w = record { later = 2; queue = 0; node = hand_over dst; barrier = _; behind = omega arith; at = refl; is = refl; of_object = refl; to_host = refl }
    readable src dst bytes size (suc (suc zero)) q n at none w = absurd (handed_over n (cc at) none)
      where
        handed_over : (n : Node) → hand_over dst ≡ n → Rattle.vk_types.specs.Touches.barrier_of n ≡ None → ⊥
        handed_over n e none = cc (ap Rattle.vk_types.specs.Touches.barrier_of e ∙ none)
    readable src dst bytes size (suc (suc (suc k))) q n at none w = absurd (cc at)

-- a list of zeros
pub zeros : (n index : ℕ) → slice_index (replicate n 0) index ≡ 0
zeros zero zero = refl
zeros zero (suc index) = refl
zeros (suc n) zero = refl
zeros (suc n) (suc index) = zeros n index
