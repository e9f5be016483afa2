-- Barriers that leave the layout leave all contents; and the uses of all objects in what a front recorded.
use mathlib.Core.Path.{fun_ext}
use Rattle.std.proofs.Common.{◌≡◌, ℕ, zero, suc, List, [], ◌∷◌, ◌++◌, true, false, Bool, cond, eqb, refl, sym, ◌∙◌, ap, inl, inr}
use Rattle.std.specs.Prelude.{◌⊎◌, not, Option, Some, None}
use Rattle.std.specs.List.{filter, flat_map}
use Rattle.std.specs.Option.{option_map_or}
use Rattle.std.proofs.lemmas.Bool.{cases_Bool}
use Rattle.std.proofs.lemmas.List.Concat.{flat_map-append}
use Rattle.std.proofs.lemmas.List.Elements.{filter-append}
use Rattle.vk_types.specs.declared.handles.HandleId.{HandleId}
use Rattle.vk_types.specs.declared.accesses.Access.{Access}
use Rattle.vk_types.specs.declared.handles.Kind.{Kind}
use Rattle.vk_types.specs.declared.regions.Barrier.{Barrier}
use Rattle.vk_types.specs.declared.ops.Node.{Node}
use Rattle.vk_types.specs.Accesses.{host_read}
use Rattle.vk_types.specs.Touches.{barrier_of}
use Rattle.vk_model.specs.Cells.{Contents}
use Rattle.vk_model.specs.Log.{Item, Command, commands, touches_object, IsOneQueue}
use Rattle.vk_model.specs.Meaning.{is_written, apply}
use Rattle.vk_model.proofs.Local.{after_written, after_unwritten, touched_from_written}
use Rattle.vk_model.proofs.Copies.{found_at}
use Rattle.barriers.specs.Licence.{Use, Accessed, Fenced}
use Rattle.barriers.specs.Logs.{joint_access, use_by, uses_by, uses_in, is_host_read}
use Rattle.barriers.specs.Recording.{AreNoneEmpty, AreUsed}
use Rattle.barriers.proofs.Joint.{joint_by_device}
use Rattle.back_core.specs.Own.{Own, HostWrote, Enqueued, HostRead, log_by, log_of}
use Rattle.back_core.specs.Link.{Link}
use Rattle.front_model.specs.Face.{Face, in_order, whole_log}
use Rattle.front_model.specs.Stands.{Hands, Holds, is_image_of, own_uses, uses_of}
use Rattle.front_model.specs.Steps.{plain_barrier}

-- such a barrier leaves all cells
pub barrier_shows : (kinds : ℕ → Kind) (id : HandleId) (first second : Access) (c : Contents) → apply kinds (Command 0 (plain_barrier id first second)) c ≡ c
barrier_shows kinds id first second c = fun_ext (λ j. fun_ext (λ i. go j i (cases_Bool (is_written (Command 0 (plain_barrier id first second)) j i))))
  where
    go : (j i : ℕ) → (is_written (Command 0 (plain_barrier id first second)) j i ≡ true) ⊎ (is_written (Command 0 (plain_barrier id first second)) j i ≡ false) → apply kinds (Command 0 (plain_barrier id first second)) c j i ≡ c j i
    go j i (inl w) = after_written kinds (Command 0 (plain_barrier id first second)) c j i w ∙ found_at (Command 0 (plain_barrier id first second)) c j i (touched_from_written (Command 0 (plain_barrier id first second)) j i w)
    go j i (inr w) = after_unwritten kinds (Command 0 (plain_barrier id first second)) c j i w

-- Logs of one queue

one-append : (xs ys : List Item) → IsOneQueue xs → IsOneQueue ys → IsOneQueue (xs ++ ys)
one-append [] ys a b k q n at = b k q n at
one-append (x ∷ xs) ys a b zero q n at = a 0 q n at
one-append (x ∷ xs) ys a b (suc k) q n at = one-append xs ys (λ k q n at. a (suc k) q n at) b k q n at

commands_one : (nodes : List Node) → IsOneQueue (commands 0 nodes)
commands_one [] k q n at = cc
commands_one (m ∷ nodes) zero q n at = cc
commands_one (m ∷ nodes) (suc k) q n at = commands_one nodes k q n at

own_one : (x : Own) → IsOneQueue (log_by x)
own_one (HostWrote id start bytes) zero q n at = cc
own_one (HostWrote id start bytes) (suc k) q n at = cc
own_one (Enqueued batch) k q n at = commands_one batch.nodes k q n at
own_one (HostRead id start bytes) k q n at = cc

mine_one : (mine : List Own) → IsOneQueue (log_of mine)
mine_one [] k q n at = cc
mine_one (x ∷ mine) k q n at = one-append (log_by x) (log_of mine) (own_one x) (mine_one mine) k q n at

pub whole_one : (f : Face) (s : Link) → IsOneQueue (whole_log f s)
whole_one f s = one-append (log_of s.mine) (commands 0 (in_order f)) (mine_one s.mine) (commands_one (in_order f))

-- The uses without the reads by the host are those in the log

abbrev device : Use → Bool
device u = not (is_host_read u)

node_device : (n : Node) (id : ℕ) → filter device (uses_by id (Command 0 n)) ≡ uses_by id (Command 0 n)
node_device n id = go (touches_object n id)
  where
    of : (o : Option Barrier) → barrier_of n ≡ o → filter device (use_by n id ∷ []) ≡ use_by n id ∷ []
    of None e =
        let is : use_by n id ≡ Accessed (joint_access n id) = ap (λ o. option_map_or (λ barrier. Fenced barrier) o (Accessed (joint_access n id))) e in
        ap (λ u. filter device (u ∷ [])) is ∙ (ap (λ b. cond (not b) (Accessed (joint_access n id) ∷ []) []) (joint_by_device n id e) ∙ ap (λ u. u ∷ []) (sym is))
    of (Some barrier) e =
        let is : use_by n id ≡ Fenced barrier = ap (λ o. option_map_or (λ barrier. Fenced barrier) o (Accessed (joint_access n id))) e in
        ap (λ u. filter device (u ∷ [])) is ∙ ap (λ u. u ∷ []) (sym is)

    go : (b : Bool) → filter device (cond b (use_by n id ∷ []) []) ≡ cond b (use_by n id ∷ []) []
    go true = of (barrier_of n) refl
    go false = refl

nodes_device : (nodes : List Node) (id : ℕ) → filter device (uses_in (commands 0 nodes) id) ≡ uses_in (commands 0 nodes) id
nodes_device [] id = refl
nodes_device (n ∷ nodes) id =
    filter-append device (uses_by id (Command 0 n)) (uses_in (commands 0 nodes) id)
    ∙ (ap (λ us. us ++ filter device (uses_in (commands 0 nodes) id)) (node_device n id)
    ∙ ap (λ us. uses_by id (Command 0 n) ++ us) (nodes_device nodes id))

own_device : (x : Own) (id : ℕ) → filter device (own_uses id x) ≡ uses_in (log_by x) id
own_device (HostWrote i at bytes) id = refl
own_device (Enqueued batch) id = nodes_device batch.nodes id
own_device (HostRead i at bytes) id = go (eqb i id)
  where
    go : (b : Bool) → filter device (cond b (Accessed host_read ∷ []) []) ≡ []
    go true = refl
    go false = refl

pub mine_device : (mine : List Own) (id : ℕ) → filter device (flat_map (own_uses id) mine) ≡ uses_in (log_of mine) id
mine_device [] id = refl
mine_device (x ∷ mine) id =
    filter-append device (own_uses id x) (flat_map (own_uses id) mine)
    ∙ (ap (λ us. us ++ filter device (flat_map (own_uses id) mine)) (own_device x id)
    ∙ (ap (λ us. uses_in (log_by x) id ++ us) (mine_device mine id)
    ∙ sym (flat_map-append (uses_by id) (log_by x) (log_of mine))))

module _ (f : Face) (hands : Hands) (s : Link) (h : Holds f hands s) where
  uses_device : (id : ℕ) → filter device (uses_of f s id) ≡ uses_in (whole_log f s) id
  uses_device id =
      filter-append device (flat_map (own_uses id) s.mine) (uses_in (commands 0 (in_order f)) id)
      ∙ (ap (λ us. us ++ filter device (uses_in (commands 0 (in_order f)) id)) (mine_device s.mine id)
      ∙ (ap (λ us. uses_in (log_of s.mine) id ++ us) (nodes_device (in_order f) id)
      ∙ sym (flat_map-append (uses_by id) (log_of s.mine) (commands 0 (in_order f)))))

  pub whole_used : AreUsed (is_image_of s) (whole_log f s) (uses_of f s)
  whole_used = record {
    in_log = λ id. record { without_reads = uses_device id; some = (h.fenced id).some; let_through = (h.fenced id).let_through };
    licensed = λ id. (h.fenced id).licensed;
  }

  pub whole_some : AreNoneEmpty (whole_log f s)
  whole_some k q n at = (h.recordable k q n at).some
