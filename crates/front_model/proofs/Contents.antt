-- What nodes do to contents: they leave what they do not touch, and look at nothing but what they touch.
use mathlib.Core.Path.{fun_ext}
use Rattle.std.proofs.Common.{◌≡◌, ◌≢◌, ℕ, List, [], ◌∷◌, ◌++◌, map, Bool, true, false, cond, eqb, refl, sym, ◌∙◌, ap, subst}
use Rattle.std.specs.Prelude.{◌&&◌, ◌||◌, nat_lt, nat_le, Option, None, All}
use Rattle.std.specs.List.{list_any, flat_map}
use Rattle.std.proofs.lemmas.Bool.{and_parts, or_parts, or_from, or_left, or_right, both_ways, ne_eqb}
use Rattle.std.proofs.lemmas.List.{map-append}
use Rattle.std.proofs.lemmas.List.Elements.{All-head, All-tail}
use Rattle.vk_types.specs.declared.handles.Kind.{Kind}
use Rattle.vk_types.specs.declared.ops.Op.{Op}
use Rattle.vk_types.specs.declared.ops.Op.TheVariants.{CopyBuffer, BufferToImage, ImageToBuffer, CopyImage, BlitImage, ClearImage, FillBuffer, PassPart}
use Rattle.vk_types.specs.declared.ops.Node.{Node}
use Rattle.vk_types.specs.Touches.{touches, op_touches, rows_size, buffer_texel}
use Rattle.vk_model.specs.Cells.{Contents}
use Rattle.vk_model.specs.Log.{Item, Command, commands, touches_object, node_range, ranges}
use Rattle.vk_model.specs.Meaning.{covers, is_touched, is_written, found, item_cell, apply, after_all, touches_id}
use Rattle.vk_model.specs.Fitting.{LayoutsFit, OpFits, NodeFits, HasRange, HasRect, IsImage}
use Rattle.vk_model.proofs.Clashes.{any_weaker}
use Rattle.vk_model.proofs.Local.{found_same}
use Rattle.vk_model.proofs.Order.{after_all-append, after_untouched}
use Rattle.vk_model.proofs.SameKinds.{apply_same_kinds}
use Rattle.front_model.specs.Face.{nodes_touch}
use Rattle.front_model.proofs.Base.{nodes_touch-append}

-- Lists of nodes

pub any-map : {X Y : Type 0} (p : Y → Bool) (f : X → Y) (xs : List X) → list_any p (map f xs) ≡ list_any (λ x. p (f x)) xs
any-map p f [] = refl
any-map p f (x ∷ xs) = ap (λ b. p (f x) || b) (any-map p f xs)

-- a command touches what its node touches
pub command_touches : (q : ℕ) (n : Node) (id : ℕ) → touches_id (Command q n) id ≡ touches_object n id
command_touches q n id = any-map (λ r. eqb r.id id) (node_range n) (touches n)

-- one after the other
pub nodes-append : (kinds : ℕ → Kind) (xs ys : List Node) (c : Contents) → after_all kinds (commands 0 (xs ++ ys)) c ≡ after_all kinds (commands 0 ys) (after_all kinds (commands 0 xs) c)
nodes-append kinds xs ys c = ap (λ l. after_all kinds l c) (map-append (Command 0) xs ys) ∙ after_all-append kinds (commands 0 xs) (commands 0 ys) c

-- nodes of several lists, of which none touches an object
pub none_touches : (lists : ℕ → List Node) (places : List ℕ) (id : ℕ) → ((i : ℕ) → nodes_touch (lists i) id ≡ false) → nodes_touch (flat_map lists places) id ≡ false
none_touches lists [] id each = refl
none_touches lists (i ∷ places) id each = nodes_touch-append (lists i) (flat_map lists places) id ∙ or_from (nodes_touch (lists i) id) (nodes_touch (flat_map lists places) id) (each i) (none_touches lists places id each)

-- Objects that are not touched

pub nodes_leave : (kinds : ℕ → Kind) (nodes : List Node) (id : ℕ) → nodes_touch nodes id ≡ false → (c : Contents) → after_all kinds (commands 0 nodes) c id ≡ c id
nodes_leave kinds [] id e c = refl
nodes_leave kinds (n ∷ nodes) id e c =
    let parts = or_parts (touches_object n id) (nodes_touch nodes id) e in
    nodes_leave kinds nodes id parts.1 (apply kinds (Command 0 n) c) ∙ after_untouched kinds (Command 0 n) id (command_touches 0 n id ∙ parts.0) c

-- Contents that are alike on some objects

abbrev pub AlikeOn : (ℕ → Type 0) → Contents → Contents → Type 0
AlikeOn P c d = (id : ℕ) → P id → c id ≡ d id

pub touched_object : (x : Item) (id i : ℕ) → is_touched x id i ≡ true → touches_id x id ≡ true
touched_object x id i t = any_weaker (covers id i) (λ r. eqb r.id id) (λ r f. (and_parts (eqb r.id id) (nat_le r.start i) (and_parts (eqb r.id id && nat_le r.start i) (nat_lt i r.end) f).0).0) (ranges x) t

pub found_alike : (x : Item) (P : ℕ → Type 0) (c d : Contents) → ((id : ℕ) → touches_id x id ≡ true → P id) → AlikeOn P c d → found x c ≡ found x d
found_alike x P c d inside alike = found_same x c d (λ id i t. ap (λ f. f i) (alike id (inside id (touched_object x id i t))))

pub apply_alike : (kinds : ℕ → Kind) (x : Item) (P : ℕ → Type 0) (c d : Contents) → ((id : ℕ) → touches_id x id ≡ true → P id) → AlikeOn P c d → AlikeOn P (apply kinds x c) (apply kinds x d)
apply_alike kinds x P c d inside alike id p = fun_ext (λ i. go i (is_written x id i))
  where
    go : (i : ℕ) (b : Bool) → cond b (item_cell kinds x (found x c) id i) (c id i) ≡ cond b (item_cell kinds x (found x d) id i) (d id i)
    go i true = ap (λ f. item_cell kinds x f id i) (found_alike x P c d inside alike)
    go i false = ap (λ f. f i) (alike id p)

-- nodes that touch only those keep it
pub nodes_alike : (kinds : ℕ → Kind) (nodes : List Node) (P : ℕ → Type 0) (c d : Contents) → ((id : ℕ) → nodes_touch nodes id ≡ true → P id) → AlikeOn P c d → AlikeOn P (after_all kinds (commands 0 nodes) c) (after_all kinds (commands 0 nodes) d)
nodes_alike kinds [] P c d inside alike = alike
nodes_alike kinds (n ∷ nodes) P c d inside alike =
    nodes_alike kinds nodes P (apply kinds (Command 0 n) c) (apply kinds (Command 0 n) d)
    (λ id t. inside id (or_right (touches_object n id) (nodes_touch nodes id) t))
    (apply_alike kinds (Command 0 n) P c d (λ id t. inside id (or_left (touches_object n id) (nodes_touch nodes id) (sym (command_touches 0 n id) ∙ t))) alike)

-- nodes that do not touch an object keep that contents are alike on all others
pub nodes_alike_but : (kinds : ℕ → Kind) (nodes : List Node) (id : ℕ) (c d : Contents) → nodes_touch nodes id ≡ false → AlikeOn (λ j. j ≢ id) c d → AlikeOn (λ j. j ≢ id) (after_all kinds (commands 0 nodes) c) (after_all kinds (commands 0 nodes) d)
nodes_alike_but kinds nodes id c d none alike = nodes_alike kinds nodes (λ j. j ≢ id) c d (λ j t e. both_ways (nodes_touch nodes id) none (subst (λ k. nodes_touch nodes k ≡ true) e t)) alike

-- Kinds

-- the kinds of an object that is not touched does not count
pub nodes_same_kinds : (kinds kinds' : ℕ → Kind) (id : ℕ) → ((j : ℕ) → j ≢ id → kinds j ≡ kinds' j) → (nodes : List Node) → nodes_touch nodes id ≡ false → (c : Contents) → after_all kinds (commands 0 nodes) c ≡ after_all kinds' (commands 0 nodes) c
nodes_same_kinds kinds kinds' id same [] none c = refl
nodes_same_kinds kinds kinds' id same (n ∷ nodes) none c =
    let parts = or_parts (touches_object n id) (nodes_touch nodes id) none in
    ap (after_all kinds (commands 0 nodes)) (apply_same_kinds kinds kinds' (Command 0 n) (λ q m j e t. same j (λ f. both_ways (touches_object n id) parts.0 (subst (λ k. touches_object n k ≡ true) f (let is : m ≡ n = cc in subst (λ k. touches_object k j ≡ true) is t)))) c)
    ∙ nodes_same_kinds kinds kinds' id same nodes parts.1 (apply kinds' (Command 0 n) c)

-- Nodes that fit touch nothing that was not made

not_here : (kinds : ℕ → Option Kind) (id j : ℕ) (P : Option Kind → Type 0) → (P None → ⊥) → kinds id ≡ None → P (kinds j) → eqb j id ≡ false
not_here kinds id j P none is p = ne_eqb j id (λ e. none (subst P (ap kinds e ∙ is) p))

pub one : (a : Bool) → a ≡ false → (a || false) ≡ false
one a e = or_from a false e refl

pub two : (a b : Bool) → a ≡ false → b ≡ false → (a || (b || false)) ≡ false
two a b e f = or_from a (b || false) e (one b f)

op_leaves_unmade : (kinds : ℕ → Option Kind) (id : ℕ) → kinds id ≡ None → (o : Op) → OpFits kinds o → list_any (λ t. eqb t.id.0 id) (op_touches o) ≡ false
op_leaves_unmade kinds id is (CopyBuffer src src_at dst dst_at size) fits =
    two (eqb src.0 id) (eqb dst.0 id) (not_here kinds id src.0 (λ o. HasRange o src_at size) (λ x. x) is fits.0) (not_here kinds id dst.0 (λ o. HasRange o dst_at size) (λ x. x) is fits.1)
op_leaves_unmade kinds id is (BufferToImage src src_at stride texel_size dst rect) fits =
    two (eqb src.0 id) (eqb dst.0 id) (not_here kinds id src.0 (λ o. HasRange o src_at (rows_size rect stride texel_size)) (λ x. x) is fits.0) (not_here kinds id dst.0 (λ o. HasRect o rect) (λ x. x) is fits.1)
op_leaves_unmade kinds id is (ImageToBuffer src rect dst dst_at stride texel_size expand) fits =
    two (eqb src.0 id) (eqb dst.0 id) (not_here kinds id src.0 (λ o. HasRect o rect) (λ x. x) is fits.0) (not_here kinds id dst.0 (λ o. HasRange o dst_at (rows_size rect stride (buffer_texel texel_size expand))) (λ x. x) is fits.2)
op_leaves_unmade kinds id is (CopyImage src src_x src_y dst rect) fits =
    two (eqb src.0 id) (eqb dst.0 id) (not_here kinds id src.0 (λ o. HasRect o (record { x = src_x; y = src_y; w = rect.w; h = rect.h })) (λ x. x) is fits.0) (not_here kinds id dst.0 (λ o. HasRect o rect) (λ x. x) is fits.1)
op_leaves_unmade kinds id is (BlitImage src dst coords clip) fits =
    two (eqb src.0 id) (eqb dst.0 id) (not_here kinds id src.0 IsImage (λ x. x) is fits.0) (not_here kinds id dst.0 (λ o. HasRect o clip) (λ x. x) is fits.1)
op_leaves_unmade kinds id is (ClearImage image rect texel) fits = one (eqb image.0 id) (not_here kinds id image.0 (λ o. HasRect o rect) (λ x. x) is fits)
op_leaves_unmade kinds id is (FillBuffer dst dst_at size byte) fits = one (eqb dst.0 id) (not_here kinds id dst.0 (λ o. HasRange o dst_at size) (λ x. x) is fits)
op_leaves_unmade kinds id is (PassPart _ _ image _ _ clears) fits = one (eqb image.0 id) (not_here kinds id image.0 IsImage (λ x. x) is fits.0)
op_leaves_unmade kinds id is (Op.Barrier b) fits = one (eqb b.id.0 id) (not_here kinds id b.id.0 (λ o. LayoutsFit o b.layouts) (λ x. x) is fits)

pub leaves_unmade : (kinds : ℕ → Option Kind) (id : ℕ) → kinds id ≡ None → (n : Node) → NodeFits kinds n → touches_object n id ≡ false
leaves_unmade kinds id is n fits = op_leaves_unmade kinds id is n.op fits

pub all_leave_unmade : (kinds : ℕ → Option Kind) (id : ℕ) → kinds id ≡ None → (nodes : List Node) → All (NodeFits kinds) nodes → nodes_touch nodes id ≡ false
all_leave_unmade kinds id is [] fits = refl
all_leave_unmade kinds id is (n ∷ nodes) fits =
    or_from (touches_object n id) (nodes_touch nodes id) (leaves_unmade kinds id is n (All-head (NodeFits kinds) n nodes fits)) (all_leave_unmade kinds id is nodes (All-tail (NodeFits kinds) n nodes fits))
