-- What the front's steps show: recording, staging, beginning and ending.
use Rattle.std.specs.List.{AllByRecursion}
use mathlib.Core.Path.{fun_ext}
use Rattle.std.proofs.Common.{◌≡◌, ◌≢◌, ℕ, ◌+◌, ◌-◌, ◌<◌, ◌≤◌, List, [], ◌∷◌, true, false, cond, refl, sym, ◌∙◌, ap, subst, arith, inl, inr}
use Rattle.std.specs.Prelude.{◌⊎◌, ◌&&◌, nat_le, nat_lt, Some, None, slice_get}
use Rattle.std.proofs.lemmas.List.{map-append}
use Rattle.vk_types.specs.declared.handles.HandleId.{HandleId}
use Rattle.vk_types.specs.declared.handles.Kind.{Kind}
use Rattle.vk_types.specs.declared.ops.Op.{Op}
use Rattle.vk_types.specs.declared.ops.Op.TheVariants.{CopyBuffer}
use Rattle.vk_types.specs.declared.ops.Node.{Node}
use Rattle.vk_types.specs.Touches.{barrier_of, the_end}
use Rattle.vk_model.specs.Cells.{Contents}
use Rattle.vk_model.specs.Log.{Command, commands, touches_object}
use Rattle.vk_model.specs.Meaning.{apply, after_all}
use Rattle.back_core.specs.Own.{log_of}
use Rattle.back_core.specs.Link.{Link, kinds_of, contents_of}
use Rattle.front_model.specs.declared.object.Object.{Object}
use Rattle.front_model.specs.Face.{Waiting, Slot, Stored, Face, put_object, indexes_of, in_order, recorded, waits, content_in, view, nodes_touch}
use Rattle.front_model.specs.Stands.{Hands, Holds}
use Rattle.front_model.specs.Steps.{with_nodes, MayRecord, KeepsContents, IsBehind, with_object, stored_as, with_waiting, without_place, taken_from}
use Rattle.front_model.proofs.Base.{cases_object, put_object-same, put_object-other}
use Rattle.front_model.proofs.Barriers.{barrier_shows}
use Rattle.front_model.proofs.Contents.{nodes-append, nodes_leave, nodes_alike}
use Rattle.front_model.proofs.OrderedViews.{of_group, goes_last}
use Rattle.front_model.proofs.Updates.{in_part, copy_node, copy_cell, copy_leaves, update_touches, update_leaves, nodes_of, left_out}
use Rattle.front_model.proofs.Shown.{Touching, touching, none_touching, store_apart, shown_but, updates_of, content_clear, content_noted, view_with}
use Rattle.front_model.proofs.LinkViews.{then_pending}

-- Recording

pub recorded_nodes : (f : Face) (hands : Hands) (s : Link) (index : ℕ) (nodes : List Node) → Holds f hands s → MayRecord f hands s index nodes → recorded (with_nodes f index nodes) s ≡ after_all (kinds_of s) (commands 0 nodes) (recorded f s)
recorded_nodes f hands s index nodes h may =
    then_pending (kinds_of s) (log_of s.mine) (in_order (with_nodes f index nodes))
    ∙ goes_last (kinds_of s) f.pending index (indexes_of f.group) (of_group f.group index may.of_group) nodes may.apart (contents_of s)
    ∙ sym (ap (after_all (kinds_of s) (commands 0 nodes)) (then_pending (kinds_of s) (log_of s.mine) (in_order f)))

-- what an object shows then
pub shown_nodes : (f : Face) (hands : Hands) (s : Link) (index : ℕ) (nodes : List Node) → Holds f hands s → MayRecord f hands s index nodes → (o : Object) → view (with_nodes f index nodes) s o ≡ content_in (kinds_of s) (after_all (kinds_of s) (commands 0 nodes) (recorded f s)) (f.objects o)
shown_nodes f hands s index nodes h may o =
    content_noted (kinds_of s) (recorded (with_nodes f index nodes) s) index (f.last index + 1) nodes (f.objects o)
    ∙ ap (λ c. content_in (kinds_of s) c (f.objects o)) (recorded_nodes f hands s index nodes h may)

pub view_apart : (f : Face) (hands : Hands) (s : Link) (index : ℕ) (nodes : List Node) (o : Object) (b : Stored) → Holds f hands s → MayRecord f hands s index nodes → f.objects o ≡ Some b → nodes_touch nodes b.handle ≡ false →
    ((place id : ℕ) (w : Waiting) → slice_get b.waiting place ≡ Some w → w.staging ≡ Some id → nodes_touch nodes id ≡ false) → view (with_nodes f index nodes) s o ≡ view f s o
view_apart f hands s index nodes o b h may is store staging =
    shown_nodes f hands s index nodes h may o
    ∙ ap (content_in (kinds_of s) (after_all (kinds_of s) (commands 0 nodes) (recorded f s))) is
    ∙ nodes_alike (kinds_of s) (waits b) (λ id. nodes_touch nodes id ≡ false) (after_all (kinds_of s) (commands 0 nodes) (recorded f s)) (recorded f s) inside (λ id none. nodes_leave (kinds_of s) nodes id none (recorded f s)) b.handle store
    ∙ sym (ap (content_in (kinds_of s) (recorded f s)) is)
  where
    inside : (id : ℕ) → nodes_touch (waits b) id ≡ true → nodes_touch nodes id ≡ false
    inside id e =
        let t : Touching b.waiting id = touching b.waiting id e in
        elim (update_touches t.waiting b.handle id ((h.objects o b is).waiting t.place t.waiting t.at).update t.touches) [
          | inl same ↦ subst (λ i. nodes_touch nodes i ≡ false) same store
          | inr of ↦ staging t.place id t.waiting t.at of
        ]

-- Nodes behind barriers

barriers_show : (kinds : ℕ → Kind) (fences : List Node) (c : Contents) → AllByRecursion KeepsContents fences → after_all kinds (commands 0 fences) c ≡ c
barriers_show kinds [] c keep = refl
barriers_show kinds (n ∷ fences) c keep =
    ap (after_all kinds (commands 0 fences)) (ap (λ m. apply kinds (Command 0 m) c) keep.0.is ∙ barrier_shows kinds keep.0.id keep.0.first keep.0.second c)
    ∙ barriers_show kinds fences c keep.1

-- nodes behind barriers do what the last one does
pub behind_shows : (kinds : ℕ → Kind) (nodes : List Node) (n : Node) (c : Contents) → IsBehind nodes n → after_all kinds (commands 0 nodes) c ≡ apply kinds (Command 0 n) c
behind_shows kinds nodes n c behind =
    ap (λ l. after_all kinds (commands 0 l) c) behind.is
    ∙ (nodes-append kinds behind.fences (n ∷ []) c ∙ ap (apply kinds (Command 0 n)) (barriers_show kinds behind.fences c behind.keep))

pub shown_behind : (f : Face) (hands : Hands) (s : Link) (index : ℕ) (nodes : List Node) (n : Node) → Holds f hands s → MayRecord f hands s index nodes → IsBehind nodes n → (o : Object) → view (with_nodes f index nodes) s o ≡ content_in (kinds_of s) (apply (kinds_of s) (Command 0 n) (recorded f s)) (f.objects o)
shown_behind f hands s index nodes n h may behind o = shown_nodes f hands s index nodes h may o ∙ ap (λ c. content_in (kinds_of s) c (f.objects o)) (behind_shows (kinds_of s) nodes n (recorded f s) behind)

pub view_barriers : (f : Face) (hands : Hands) (s : Link) (index : ℕ) (fences : List Node) → Holds f hands s → MayRecord f hands s index fences → AllByRecursion KeepsContents fences → view (with_nodes f index fences) s ≡ view f s
view_barriers f hands s index fences h may keep = fun_ext (λ o. shown_nodes f hands s index fences h may o ∙ ap (λ c. content_in (kinds_of s) c (f.objects o)) (barriers_show (kinds_of s) fences (recorded f s) keep))

-- a copy from a handle that has these cells, to an object on which nothing waits
view_copied_from : (from : ℕ → ℕ) (f : Face) (hands : Hands) (s : Link) (index : ℕ) (nodes : List Node) (q : Object) (c : Stored) (src dst : HandleId) (src_at dst_at size : ℕ) → from ≡ recorded f s src.0 → Holds f hands s →
    MayRecord f hands s index nodes → IsBehind nodes (copy_node src src_at dst dst_at size) →
    f.objects q ≡ Some c → c.waiting ≡ [] → c.handle ≡ dst.0 →
    src_at + size ≤ the_end → dst_at + size ≤ the_end →
    view (with_nodes f index nodes) s
    ≡ put_object (view f s) q (λ i. cond (nat_le dst_at i && nat_lt i (dst_at + size)) (from (src_at + (i - dst_at))) (view f s q i))
view_copied_from from f hands s index nodes q c src dst src_at dst_at size source h may behind at_q clear_q is_dst src_inside dst_inside =
    fun_ext (λ p. shown_behind f hands s index nodes (copy_node src src_at dst dst_at size) h may behind p ∙ go p (cases_object p q))
  where
    copied : Contents
    copied = apply (kinds_of s) (Command 0 (copy_node src src_at dst dst_at size)) (recorded f s)

    new : ℕ → ℕ
    new i = cond (nat_le dst_at i && nat_lt i (dst_at + size)) (from (src_at + (i - dst_at))) (view f s q i)

    target : (d : Contents) → content_in (kinds_of s) d (f.objects q) ≡ d dst.0
    target d = ap (content_in (kinds_of s) d) at_q ∙ content_clear (kinds_of s) d c clear_q ∙ ap d is_dst

    cell : (i : ℕ) → copied dst.0 i ≡ cond (in_part dst_at size i) (from (src_at + (i - dst_at))) (view f s q i)
    cell i =
        copy_cell (kinds_of s) src src_at dst dst_at size (recorded f s) src_inside dst_inside i
        ∙ ap (λ (v : ℕ → ℕ). cond (in_part dst_at size i) (v (src_at + (i - dst_at))) (recorded f s dst.0 i)) (sym source)
        ∙ ap (λ (v : ℕ → ℕ). cond (in_part dst_at size i) (from (src_at + (i - dst_at))) (v i)) (sym (target (recorded f s)))

    go : (p : Object) → (p ≡ q) ⊎ (p ≢ q) →
        content_in (kinds_of s) copied (f.objects p)
        ≡ put_object (view f s) q new p
    go p (inl same) =
        ap (λ x. content_in (kinds_of s) copied (f.objects x)) same
        ∙ target copied
        ∙ fun_ext cell
        ∙ sym (put_object-same (view f s) q new)
        ∙ sym (ap (put_object (view f s) q new) same)
    go p (inr other) =
        shown_but f hands s h (kinds_of s) copied (recorded f s) p dst.0
        (store_apart h.owner p q dst.0 (ap h.owner (sym is_dst) ∙ (h.objects q c at_q).owned) other)
        (λ j ne. fun_ext (λ i. copy_leaves (kinds_of s) src src_at dst dst_at size (recorded f s) j i (inl (λ e. ne (sym e)))))
        ∙ sym (put_object-other (view f s) q new p other)

pub view_copied : (f : Face) (hands : Hands) (s : Link) (index : ℕ) (nodes : List Node) (o q : Object) (b c : Stored) (src dst : HandleId) (src_at dst_at size : ℕ) → Holds f hands s →
    MayRecord f hands s index nodes → IsBehind nodes (copy_node src src_at dst dst_at size) →
    f.objects o ≡ Some b → b.waiting ≡ [] → b.handle ≡ src.0 → f.objects q ≡ Some c → c.waiting ≡ [] → c.handle ≡ dst.0 →
    src_at + size ≤ the_end → dst_at + size ≤ the_end →
    view (with_nodes f index nodes) s
    ≡ put_object (view f s) q (λ i. cond (nat_le dst_at i && nat_lt i (dst_at + size)) (view f s o (src_at + (i - dst_at))) (view f s q i))
view_copied f hands s index nodes o q b c src dst src_at dst_at size h may behind at_o clear_o is_src =
    view_copied_from (view f s o) f hands s index nodes q c src dst src_at dst_at size
    (ap (content_in (kinds_of s) (recorded f s)) at_o ∙ content_clear (kinds_of s) (recorded f s) b clear_o ∙ ap (recorded f s) is_src) h may behind

pub view_uploaded : (f : Face) (hands : Hands) (s : Link) (index : ℕ) (nodes : List Node) (q : Object) (c : Stored) (src dst : HandleId) (src_at dst_at size : ℕ) → Holds f hands s →
    MayRecord f hands s index nodes → IsBehind nodes (copy_node src src_at dst dst_at size) →
    f.objects q ≡ Some c → c.waiting ≡ [] → c.handle ≡ dst.0 → src_at + size ≤ the_end → dst_at + size ≤ the_end →
    view (with_nodes f index nodes) s
    ≡ put_object (view f s) q (λ i. cond (nat_le dst_at i && nat_lt i (dst_at + size)) (recorded f s src.0 (src_at + (i - dst_at))) (view f s q i))
view_uploaded f hands s index nodes q c src dst src_at dst_at size h may behind =
    view_copied_from (recorded f s src.0) f hands s index nodes q c src dst src_at dst_at size refl h may behind

-- What waits

-- the first that waits, done before the others
first_done : (kinds : ℕ → Kind) (ws : List Waiting) (w : Waiting) → slice_get ws 0 ≡ Some w → (c : Contents) → after_all kinds (commands 0 (nodes_of (without_place 0 ws))) (apply kinds (Command 0 w.node) c) ≡ after_all kinds (commands 0 (nodes_of ws)) c
first_done kinds [] w at c = cc
first_done kinds (v ∷ ws) w at c = let same : w ≡ v = cc in ap (λ (x : Waiting). after_all kinds (commands 0 (nodes_of ws)) (apply kinds (Command 0 x.node) c)) same

-- the first that waits, taken and recorded, however that was done
pub view_drained_by : (f : Face) (hands also : Hands) (s : Link) (index : ℕ) (nodes : List Node) (o : Object) (b : Stored) (w : Waiting) → Holds f hands s →
    f.objects o ≡ Some b → slice_get b.waiting 0 ≡ Some w →
    Holds (with_object f o (Some (taken_from b 0))) also s → MayRecord (with_object f o (Some (taken_from b 0))) also s index nodes →
    after_all (kinds_of s) (commands 0 nodes) (recorded f s) ≡ apply (kinds_of s) (Command 0 w.node) (recorded f s) →
    view (with_nodes (with_object f o (Some (taken_from b 0))) index nodes) s ≡ view f s
view_drained_by f hands also s index nodes o b w h is first h' may does =
    fun_ext (λ p.
    shown_nodes (with_object f o (Some (taken_from b 0))) also s index nodes h' may p
    ∙ ap (λ c. content_in (kinds_of s) c (put_object f.objects o (Some (taken_from b 0)) p)) does
    ∙ go p (cases_object p o))
  where
    drained : Contents
    drained = apply (kinds_of s) (Command 0 w.node) (recorded f s)

    go : (p : Object) → (p ≡ o) ⊎ (p ≢ o) → content_in (kinds_of s) drained (put_object f.objects o (Some (taken_from b 0)) p) ≡ content_in (kinds_of s) (recorded f s) (f.objects p)
    go p (inl same) =
        ap (λ x. content_in (kinds_of s) drained (put_object f.objects o (Some (taken_from b 0)) x)) same
        ∙ ap (content_in (kinds_of s) drained) (put_object-same f.objects o (Some (taken_from b 0)))
        ∙ ap (λ c. c b.handle) (first_done (kinds_of s) b.waiting w first (recorded f s))
        ∙ sym (ap (content_in (kinds_of s) (recorded f s)) is)
        ∙ sym (ap (λ x. content_in (kinds_of s) (recorded f s) (f.objects x)) same)
    go p (inr other) =
        ap (content_in (kinds_of s) drained) (put_object-other f.objects o (Some (taken_from b 0)) p other)
        ∙ shown_but f hands s h (kinds_of s) drained (recorded f s) p b.handle
        (store_apart h.owner p o b.handle (h.objects o b is).owned other)
        (λ j ne. update_leaves (kinds_of s) w b.handle ((h.objects o b is).waiting 0 w first).update (recorded f s) j ne)

pub view_drained : (f : Face) (hands also : Hands) (s : Link) (index : ℕ) (nodes : List Node) (o : Object) (b : Stored) (w : Waiting) → Holds f hands s →
    f.objects o ≡ Some b → slice_get b.waiting 0 ≡ Some w → barrier_of w.node ≡ None →
    Holds (with_object f o (Some (taken_from b 0))) also s → MayRecord (with_object f o (Some (taken_from b 0))) also s index nodes → IsBehind nodes w.node →
    view (with_nodes (with_object f o (Some (taken_from b 0))) index nodes) s ≡ view f s
view_drained f hands also s index nodes o b w h is first none h' may behind = view_drained_by f hands also s index nodes o b w h is first h' may (behind_shows (kinds_of s) nodes w.node (recorded f s) behind)

-- Objects

pub view_begun : (f : Face) (s : Link) (o : Object) (id : ℕ) (slot : Slot) → view (with_object f o (Some (stored_as id slot))) s ≡ put_object (view f s) o (recorded f s id)
view_begun f s o id slot = view_with f s o (Some (stored_as id slot))

pub view_staged : (f : Face) (s : Link) (o : Object) (b : Stored) (id : ℕ) (src dst : HandleId) (src_at dst_at size : ℕ) → f.objects o ≡ Some b →
    src.0 ≡ id → dst.0 ≡ b.handle → src.0 ≢ dst.0 → src_at + size ≤ the_end → dst_at + size ≤ the_end →
    ((place : ℕ) (w : Waiting) → slice_get b.waiting place ≡ Some w → touches_object w.node id ≡ false) →
    view (with_object f o (Some (with_waiting b (record { staging = Some id; node = copy_node src src_at dst dst_at size })))) s
    ≡ put_object (view f s) o (λ i. cond (nat_le dst_at i && nat_lt i (dst_at + size)) (recorded f s id (src_at + (i - dst_at))) (view f s o i))
view_staged f s o b id src dst src_at dst_at size is is_src is_dst other src_inside dst_inside apart = view_with f s o (Some (with_waiting b last)) ∙ ap (put_object (view f s) o) (fun_ext cell)
  where
    last : Waiting
    last = record { staging = Some id; node = copy_node src src_at dst dst_at size }

    earlier : Contents
    earlier = after_all (kinds_of s) (commands 0 (waits b)) (recorded f s)

    source : earlier src.0 ≡ recorded f s id
    source = ap earlier is_src ∙ nodes_leave (kinds_of s) (waits b) id (none_touching b.waiting id apart) (recorded f s)

    target : earlier dst.0 ≡ view f s o
    target = ap earlier is_dst ∙ sym (ap (content_in (kinds_of s) (recorded f s)) is)

    cell : (i : ℕ) → content_in (kinds_of s) (recorded f s) (Some (with_waiting b last)) i ≡ cond (nat_le dst_at i && nat_lt i (dst_at + size)) (recorded f s id (src_at + (i - dst_at))) (view f s o i)
    cell i =
        ap (λ l. after_all (kinds_of s) (commands 0 l) (recorded f s) b.handle i) (map-append (λ (w : Waiting). w.node) b.waiting (last ∷ []))
        ∙ ap (λ (c : Contents). c b.handle i) (nodes-append (kinds_of s) (waits b) (last.node ∷ []) (recorded f s))
        ∙ ap (λ k. apply (kinds_of s) (Command 0 last.node) earlier k i) (sym is_dst)
        ∙ copy_cell (kinds_of s) src src_at dst dst_at size earlier src_inside dst_inside i
        ∙ ap (λ (v : ℕ → ℕ). cond (in_part dst_at size i) (v (src_at + (i - dst_at))) (earlier dst.0 i)) source
        ∙ ap (λ (v : ℕ → ℕ). cond (in_part dst_at size i) (recorded f s id (src_at + (i - dst_at))) (v i)) target

pub view_superseded : (f : Face) (hands : Hands) (s : Link) (o : Object) (b : Stored) (place : ℕ) (w : Waiting) (src dst : HandleId) (src_at dst_at len at size : ℕ) →
    Holds f hands s → f.objects o ≡ Some b → slice_get b.waiting place ≡ Some w → w.node.op ≡ CopyBuffer src src_at dst dst_at len →
    at ≤ dst_at → dst_at + len ≤ at + size →
    (i : ℕ) → (i < at) ⊎ (at + size ≤ i) → view (with_object f o (Some (taken_from b place))) s o i ≡ view f s o i
view_superseded f hands s o b place w src dst src_at dst_at len at size h is at_place is_copy from upto i out =
    ap (λ (v : Object → ℕ → ℕ). v o i) (view_with f s o (Some (taken_from b place)))
    ∙ ap (λ (v : ℕ → ℕ). v i) (put_object-same (view f s) o (content_in (kinds_of s) (recorded f s) (Some (taken_from b place))))
    ∙ left_out (kinds_of s) b.handle i b.waiting (updates_of f s h.owner o b (h.objects o b is)) place w at_place leaves (recorded f s)
    ∙ sym (ap (λ v. content_in (kinds_of s) (recorded f s) v i) is)
  where
    far : (i < at) ⊎ (at + size ≤ i) → (i < dst_at) ⊎ (dst_at + len ≤ i)
    far (inl before) = inl (omega (arith, before, from))
    far (inr behind) = inr (omega (arith, behind, upto))

    copy : w.node ≡ copy_node src src_at dst dst_at len
    copy = ap {B = Node} (λ (p : Op). record { op = p }) is_copy

    leaves : (c : Contents) → apply (kinds_of s) (Command 0 w.node) c b.handle i ≡ c b.handle i
    leaves c = ap (λ (n : Node). apply (kinds_of s) (Command 0 n) c b.handle i) copy ∙ copy_leaves (kinds_of s) src src_at dst dst_at len c b.handle i (inr (far out))
