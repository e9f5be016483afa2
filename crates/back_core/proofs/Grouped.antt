-- What the list of a group has of nodes that touch only objects of one group, and of writes by the host.
use Rattle.std.proofs.Common.{◌≡◌, ◌≢◌, ℕ, Bool, true, false, cond, eqb, List, [], ◌∷◌, refl, sym, ap, ◌∙◌, eq-eqb}
use Rattle.std.specs.Prelude.{◌||◌, Option, Some, None}
use Rattle.std.specs.List.{list_any, filter, cons_option}
use Rattle.std.proofs.lemmas.Bool.{cond-true, cond-false, eqb-true, ne_eqb, or_left, false_from_ne_true}
use Rattle.std.proofs.lemmas.Option.{none-some}
use Rattle.vk_types.specs.declared.ops.Op.{Op}
use Rattle.vk_types.specs.declared.ops.Op.TheVariants.{CopyBuffer, BufferToImage, ImageToBuffer, CopyImage, BlitImage, ClearImage, FillBuffer, PassPart}
use Rattle.vk_types.specs.declared.ops.Node.{Node}
use Rattle.vk_types.specs.Touches.{touches, op_touches}
use Rattle.vk_model.specs.Log.{Item, Command, HostWrite, Wait, Signal, commands, touches_object}
use Rattle.vk_model.specs.Queues.{in_group, group_list}
use Rattle.vk_model.proofs.Groups.{Witness, witness}
use Rattle.vk_model.proofs.Handover.{plain, in_group_of}
use Rattle.back_core.proofs.Each.{Each, Each-head, Each-tail}
use Rattle.back_core.proofs.Replacing.{node_on, nodes_on}

-- Nodes

-- each object that the node touches is of the group
abbrev pub BelongsTo : (ℕ → ℕ) → ℕ → Node → Type 0
BelongsTo group_of g n = (id : ℕ) → touches_object n id ≡ true → group_of id ≡ g

-- the node touches an object of the group
abbrev pub is_of : (ℕ → ℕ) → ℕ → Node → Bool
is_of group_of g n = list_any (λ t. eqb (group_of t.id.0) g) (touches n)

itself : (a : ℕ) (b : Bool) → (eqb a a || b) ≡ true
itself a b = or_left (eqb a a) b (eq-eqb a a refl)

op_touches_some : (o : Op) → (id : ℕ) × (list_any (λ t. eqb t.id.0 id) (op_touches o) ≡ true)
op_touches_some (CopyBuffer src src_at dst dst_at size) = (src.0, itself src.0 _)
op_touches_some (BufferToImage src src_at stride texel_size dst rect) = (src.0, itself src.0 _)
op_touches_some (ImageToBuffer src rect dst dst_at stride texel_size expand) = (src.0, itself src.0 _)
op_touches_some (CopyImage src src_x src_y dst rect) = (src.0, itself src.0 _)
op_touches_some (BlitImage src dst coords clip) = (src.0, itself src.0 _)
op_touches_some (ClearImage image rect texel) = (image.0, itself image.0 _)
op_touches_some (FillBuffer dst dst_at size byte) = (dst.0, itself dst.0 _)
op_touches_some (PassPart _ _ image _ _ _) = (image.0, itself image.0 _)
op_touches_some (Op.Barrier b) = (b.id.0, itself b.id.0 _)

pub touches_some : (n : Node) → (id : ℕ) × (touches_object n id ≡ true)
touches_some n = op_touches_some n.op

is_of-own : (group_of : ℕ → ℕ) (g : ℕ) (n : Node) → BelongsTo group_of g n → is_of group_of g n ≡ true
is_of-own group_of g n belongs =
    let some : (id : ℕ) × (touches_object n id ≡ true) = touches_some n in
    let w : Witness (λ t. eqb t.id.0 some.0) (touches n) = witness (λ t. eqb t.id.0 some.0) (touches n) some.1 in
    w.inside (λ t. eqb (group_of t.id.0) g) (eq-eqb (group_of w.element.id.0) g (belongs w.element.id.0 (w.inside (λ t. eqb t.id.0 w.element.id.0) (eq-eqb w.element.id.0 w.element.id.0 refl))))

is_of-other : (group_of : ℕ → ℕ) (g other : ℕ) (n : Node) → BelongsTo group_of other n → other ≢ g → is_of group_of g n ≡ false
is_of-other group_of g other n belongs differs = false_from_ne_true (is_of group_of g n) (λ e.
    let w : Witness (λ t. eqb (group_of t.id.0) g) (touches n) = witness (λ t. eqb (group_of t.id.0) g) (touches n) e in
    differs (sym (belongs w.element.id.0 (w.inside (λ t. eqb t.id.0 w.element.id.0) (eq-eqb w.element.id.0 w.element.id.0 refl))) ∙ eqb-true (group_of w.element.id.0) g w.passes))

filter-all : {X : Type 0} (p : X → Bool) (xs : List X) → Each (λ x. p x ≡ true) xs → filter p xs ≡ xs
filter-all p [] each = refl
filter-all p (x ∷ xs) each =
    cond-true (p x) (x ∷ filter p xs) (filter p xs) (Each-head (λ x. p x ≡ true) x xs each) ∙ ap (λ l. x ∷ l) (filter-all p xs (Each-tail (λ x. p x ≡ true) x xs each))

filter-none : {X : Type 0} (p : X → Bool) (xs : List X) → Each (λ x. p x ≡ false) xs → filter p xs ≡ []
filter-none p [] each = refl
filter-none p (x ∷ xs) each =
    cond-false (p x) (x ∷ filter p xs) (filter p xs) (Each-head (λ x. p x ≡ false) x xs each) ∙ filter-none p xs (Each-tail (λ x. p x ≡ false) x xs each)

-- Lists of nodes

pub group_list-nodes : (group_of : ℕ → ℕ) (g : ℕ) (ns : List Node) → group_list group_of g (commands 0 ns) ≡ commands 0 (filter (is_of group_of g) ns)
group_list-nodes group_of g [] = refl
group_list-nodes group_of g (n ∷ ns) = go (is_of group_of g n) (group_list-nodes group_of g ns)
  where
    go : (b : Bool) → group_list group_of g (commands 0 ns) ≡ commands 0 (filter (is_of group_of g) ns) →
        cons_option (cond b (Some (Command 0 n)) None) (group_list group_of g (commands 0 ns)) ≡ commands 0 (cond b (n ∷ filter (is_of group_of g) ns) (filter (is_of group_of g) ns))
    go true rest = ap (λ l. Command 0 n ∷ l) rest
    go false rest = rest

pub group_list-own : (group_of : ℕ → ℕ) (g : ℕ) (ns : List Node) → Each (BelongsTo group_of g) ns → group_list group_of g (commands 0 ns) ≡ commands 0 ns
group_list-own group_of g ns each = group_list-nodes group_of g ns ∙ ap (commands 0) (filter-all (is_of group_of g) ns (λ k n at. is_of-own group_of g n (each k n at)))

pub group_list-other : (group_of : ℕ → ℕ) (g other : ℕ) (ns : List Node) → Each (BelongsTo group_of other) ns → other ≢ g → group_list group_of g (commands 0 ns) ≡ []
group_list-other group_of g other ns each differs = group_list-nodes group_of g ns ∙ ap (commands 0) (filter-none (is_of group_of g) ns (λ k n at. is_of-other group_of g other n (each k n at) differs))

-- A write by the host

pub group_list-write_own : (group_of : ℕ → ℕ) (g id at : ℕ) (bytes : List ℕ) (back : List Item) → group_of id ≡ g → group_list group_of g (HostWrite id at bytes ∷ back) ≡ HostWrite id at bytes ∷ group_list group_of g back
group_list-write_own group_of g id at bytes back e =
    ap (λ o. cons_option o (group_list group_of g back)) (cond-true (eqb (group_of id) g) (Some (HostWrite id at bytes)) None (eq-eqb (group_of id) g e))

pub group_list-write_other : (group_of : ℕ → ℕ) (g id at : ℕ) (bytes : List ℕ) (back : List Item) → group_of id ≢ g → group_list group_of g (HostWrite id at bytes ∷ back) ≡ group_list group_of g back
group_list-write_other group_of g id at bytes back e =
    ap (λ o. cons_option o (group_list group_of g back)) (cond-false (eqb (group_of id) g) (Some (HostWrite id at bytes)) None (ne_eqb (group_of id) g e))

-- The nodes that touch an object

nodes_on-step : (group_of : ℕ → ℕ) (id : ℕ) (x : Item) (o : Option Item) (rest : List Item) → in_group group_of (group_of id) x ≡ o → nodes_on id (cons_option o rest) ≡ cons_option (node_on id x) (nodes_on id rest)
nodes_on-step group_of id (Command q n) (Some y) rest is = ap (λ z. nodes_on id (z ∷ rest)) (plain group_of (group_of id) (Command q n) y is)
nodes_on-step group_of id (Command q n) None rest is =
    let untouched : touches_object n id ≡ false = false_from_ne_true (touches_object n id) (λ t. none-some (Command 0 n) (sym is ∙ in_group_of group_of q n id t)) in
    ap (λ o. cons_option o (nodes_on id rest)) (sym (cond-false (touches_object n id) (Some n) None untouched))
nodes_on-step group_of id (HostWrite of at bytes) (Some y) rest is = ap (λ z. nodes_on id (z ∷ rest)) (plain group_of (group_of id) (HostWrite of at bytes) y is)
nodes_on-step group_of id (HostWrite of at bytes) None rest is = refl
nodes_on-step group_of id (Wait q n) (Some y) rest is = absurd (plain group_of (group_of id) (Wait q n) y is)
nodes_on-step group_of id (Wait q n) None rest is = refl
nodes_on-step group_of id (Signal q n) (Some y) rest is = absurd (plain group_of (group_of id) (Signal q n) y is)
nodes_on-step group_of id (Signal q n) None rest is = refl

-- the list of an object's group has all nodes that touch it
pub nodes_on-group : (group_of : ℕ → ℕ) (id : ℕ) (log : List Item) → nodes_on id (group_list group_of (group_of id) log) ≡ nodes_on id log
nodes_on-group group_of id [] = refl
nodes_on-group group_of id (x ∷ log) =
    nodes_on-step group_of id x (in_group group_of (group_of id) x) (group_list group_of (group_of id) log) refl ∙ ap (cons_option (node_on id x)) (nodes_on-group group_of id log)

pub nodes_on-untouched : (id : ℕ) (ns : List Node) → Each (λ n. touches_object n id ≡ false) ns → nodes_on id (commands 0 ns) ≡ []
nodes_on-untouched id [] each = refl
nodes_on-untouched id (n ∷ ns) each =
    ap (λ o. cons_option o (nodes_on id (commands 0 ns))) (cond-false (touches_object n id) (Some n) None (Each-head (λ n. touches_object n id ≡ false) n ns each))
    ∙ nodes_on-untouched id ns (Each-tail (λ n. touches_object n id ≡ false) n ns each)
