-- The joint access of a node on an object: what it meets, and that a node without a write on an object conflicts with none like it there.
use Rattle.std.proofs.Common.{◌≡◌, ℕ, List, [], ◌∷◌, Bool, true, false, cond, eqb, refl, sym, ◌∙◌, ap, inl, inr}
use Rattle.std.specs.Prelude.{◌≢◌, ◌⊎◌, ◌&&◌, ◌||◌, not, map, Contains, None, is_some}
use Rattle.std.specs.Int.RustNames.{bit_and}
use Rattle.std.specs.List.{filter, list_any}
use Rattle.std.proofs.lemmas.Bool.{both_ways, cases_Bool, eqb-true, eq-eqb, ne_eqb, and_parts, and_from, or_parts, or_cases, false_from_ne_true}
use Rattle.std.proofs.lemmas.List.Folds.{list_any_at}
use Rattle.std.proofs.lemmas.Nat.{and_comm}
use Rattle.vk_types.specs.declared.accesses.Access.{Access}
use Rattle.vk_types.specs.declared.regions.Touch.{Touch}
use Rattle.vk_types.specs.declared.ops.Op.{Op}
use Rattle.vk_types.specs.declared.ops.Op.TheVariants.{CopyBuffer, BufferToImage, ImageToBuffer, CopyImage, BlitImage, ClearImage, FillBuffer, PassPart}
use Rattle.vk_types.specs.declared.ops.Node.{Node}
use Rattle.vk_types.specs.Accesses.{no_access, host_read, all_access, transfer_write, color_write, in_common}
use Rattle.vk_types.specs.Touches.{touches, op_touches, barrier_of, op_barrier}
use Rattle.vk_model.specs.Log.{Range, node_range, node_ranges, clash, touches_object, touches_with, conflict_on}
use Rattle.vk_model.proofs.Clashes.{any_weaker, none_is_some}
use Rattle.vk_model.proofs.ObjectTouches.{touches_with_all}
use Rattle.barriers.specs.Licence.{union, writes}
use Rattle.barriers.specs.Logs.{joint_access}
use Rattle.barriers.proofs.Accesses.{none_meets, meets_itself, union_meets}

any_filtered : (p : Touch → Bool) (q : Access → Bool) (ts : List Touch) → list_any q (map (λ t. t.access) (filter p ts)) ≡ list_any (λ t. p t && q t.access) ts
any_filtered p q [] = refl
any_filtered p q (t ∷ ts) = go (p t) (any_filtered p q ts)
  where
    go : (b : Bool) → list_any q (map (λ t. t.access) (filter p ts)) ≡ list_any (λ t. p t && q t.access) ts →
        list_any q (map (λ t. t.access) (cond b (t ∷ filter p ts) (filter p ts))) ≡ ((b && q t.access) || list_any (λ t. p t && q t.access) ts)
    go true e = ap (λ r. q t.access || r) e
    go false e = e

-- the joint access meets what one of the touches meets
pub joint_meets : (n : Node) (id : ℕ) (c : Access) → in_common (joint_access n id) c ≡ touches_with n id c
joint_meets n id c = union_meets (map (λ t. t.access) (filter (λ t. eqb t.id.0 id) (touches n))) c ∙ any_filtered (λ t. eqb t.id.0 id) (λ a. in_common a c) (touches n)

pub meets_turned : (a b : Access) → in_common a b ≡ in_common b a
meets_turned a b = ap (λ n. not (eqb n 0)) (and_comm a.0 b.0)

-- some kind of an access is in all those together of which it is one
pub meets_union : (accesses : List Access) (a : Access) → a ≢ no_access → Contains accesses a → in_common a (union accesses) ≡ true
meets_union accesses a some has =
    meets_turned a (union accesses)
    ∙ (union_meets accesses a
    ∙ list_any_at (λ b. in_common b a) accesses has.0 a has.1 (ap (λ b. in_common b a) has.2 ∙ meets_itself a some))

-- Nodes that are no barriers

-- what a node touches it touches with some kind
pub joint_some : (n : Node) (id : ℕ) → barrier_of n ≡ None → touches_object n id ≡ true → joint_access n id ≢ no_access
joint_some n id none on e = both_ways (in_common (joint_access n id) all_access) (ap (λ a. in_common a all_access) e ∙ none_meets all_access) (joint_meets n id all_access ∙ touches_with_all n id all_access refl none on)

one_without : (p : Bool) → ((p && false) || false) ≡ false
one_without true = refl
one_without false = refl

two_without : (p q : Bool) → ((p && false) || ((q && false) || false)) ≡ false
two_without true true = refl
two_without true false = refl
two_without false true = refl
two_without false false = refl

op_without_host : (o : Op) (id : ℕ) → op_barrier o ≡ None → list_any (λ t. eqb t.id.0 id && in_common t.access host_read) (op_touches o) ≡ false
op_without_host (CopyBuffer src _ dst _ _) id n = two_without (eqb src.0 id) (eqb dst.0 id)
op_without_host (BufferToImage src _ _ _ dst _) id n = two_without (eqb src.0 id) (eqb dst.0 id)
op_without_host (ImageToBuffer src _ dst _ _ _ _) id n = two_without (eqb src.0 id) (eqb dst.0 id)
op_without_host (CopyImage src _ _ dst _) id n = two_without (eqb src.0 id) (eqb dst.0 id)
op_without_host (BlitImage src dst _ _) id n = two_without (eqb src.0 id) (eqb dst.0 id)
op_without_host (ClearImage image _ _) id n = one_without (eqb image.0 id)
op_without_host (FillBuffer dst _ _ _) id n = one_without (eqb dst.0 id)
op_without_host (PassPart _ _ image _ _ _) id n = one_without (eqb image.0 id)
op_without_host (Op.Barrier b) id n = none_is_some (sym n)

-- no node is a read by the host
pub joint_by_device : (n : Node) (id : ℕ) → barrier_of n ≡ None → eqb (joint_access n id).0 host_read.0 ≡ false
joint_by_device n id none =
    ne_eqb (joint_access n id).0 host_read.0
    (λ e. both_ways (in_common (joint_access n id) host_read) (joint_meets n id host_read ∙ op_without_host n.op id none) (ap (λ k. not (eqb (bit_and k 16) 0)) e))

-- Nodes that do not write

abbrev is_written_on : ℕ → Range → Bool
is_written_on id r = eqb r.id id && r.written

unwritten_touch : (p x y z : Bool) → (p && x) ≡ false → (p && y) ≡ false → z ≡ false → (p && (x || y || z)) ≡ false
unwritten_touch false x y z e f g = refl
unwritten_touch true x y z e f g = ap (λ b. b || y || z) e ∙ (ap (λ b. b || z) f ∙ g)

unwritten_ranges : (n : Node) (id : ℕ) → is_some (barrier_of n) ≡ false → (ts : List Touch) → list_any (λ t. eqb t.id.0 id && in_common t.access transfer_write) ts ≡ false → list_any (λ t. eqb t.id.0 id && in_common t.access color_write) ts ≡ false → list_any (is_written_on id) (map (node_range n) ts) ≡ false
unwritten_ranges n id none [] e f = refl
unwritten_ranges n id none (t ∷ ts) e f =
    let p = or_parts (eqb t.id.0 id && in_common t.access transfer_write) (list_any (λ t. eqb t.id.0 id && in_common t.access transfer_write) ts) e in
    let q = or_parts (eqb t.id.0 id && in_common t.access color_write) (list_any (λ t. eqb t.id.0 id && in_common t.access color_write) ts) f in
    ap (λ b. b || list_any (is_written_on id) (map (node_range n) ts)) (unwritten_touch (eqb t.id.0 id) (in_common t.access transfer_write) (in_common t.access color_write) (is_some (barrier_of n)) p.0 q.0 none)
    ∙ unwritten_ranges n id none ts p.1 q.1

unwritten : (n : Node) (id : ℕ) → barrier_of n ≡ None → writes (joint_access n id) ≡ false → list_any (is_written_on id) (node_ranges n) ≡ false
unwritten n id none e =
    let p = or_parts (in_common (joint_access n id) transfer_write) (in_common (joint_access n id) color_write) e in
    unwritten_ranges n id (ap is_some none) (touches n) (sym (joint_meets n id transfer_write) ∙ p.0) (sym (joint_meets n id color_write) ∙ p.1)

clashing : (id : ℕ) (r s : Range) → r.id ≡ id → r.written ≡ false → clash r s ≡ true → is_written_on id s ≡ true
clashing id r s on none e =
    let parts = and_parts (eqb r.id s.id && _) (r.written || s.written) e in
    let front = and_parts (eqb r.id s.id) _ parts.0 in
    and_from (eqb s.id id) s.written (eq-eqb s.id id (sym (eqb-true r.id s.id front.0) ∙ on)) (elim (or_cases r.written s.written parts.1) [ inl f ↦ absurd (both_ways r.written none f) | inr f ↦ f ])

-- two nodes that do not write an object do not conflict on it
pub apart : (id : ℕ) (a b : Node) → barrier_of a ≡ None → barrier_of b ≡ None → writes (joint_access a id) ≡ false → writes (joint_access b id) ≡ false → conflict_on id a b ≡ false
apart id a b none_a none_b quiet_a quiet_b =
    false_from_ne_true (conflict_on id a b)
    (λ e. both_ways (list_any (is_written_on id) (node_ranges a)) (unwritten a id none_a quiet_a)
    (any_weaker (λ r. eqb r.id id && list_any (clash r) (node_ranges b)) (is_written_on id) written (node_ranges a) e))
  where
    written : (r : Range) → (eqb r.id id && list_any (clash r) (node_ranges b)) ≡ true → is_written_on id r ≡ true
    written r e = go (cases_Bool r.written)
      where
        go : (r.written ≡ true) ⊎ (r.written ≡ false) → is_written_on id r ≡ true
        go (inl f) = and_from (eqb r.id id) r.written (and_parts (eqb r.id id) (list_any (clash r) (node_ranges b)) e).0 f
        go (inr f) =
            let parts = and_parts (eqb r.id id) (list_any (clash r) (node_ranges b)) e in
            absurd (both_ways (list_any (is_written_on id) (node_ranges b)) (unwritten b id none_b quiet_b)
            (any_weaker (clash r) (is_written_on id) (λ s. clashing id r s (eqb-true r.id id parts.0) f) (node_ranges b) parts.1))
