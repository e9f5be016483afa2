-- The log of a group's own list is sound, and touches only what the group made.
use Rattle.std.proofs.Common.{◌≡◌, ℕ, ◌==◌, Bool, true, false, cond, eqb, List, [], ◌∷◌, ◌++◌, refl, sym, ◌∙◌, subst, inl, inr}
use Rattle.std.specs.Prelude.{◌/◌, Option, Some, None, IsSome}
use Rattle.std.proofs.lemmas.Bool.{eqb-true, or_cases, false≢true}
use Rattle.std.proofs.lemmas.List.{append-nil}
use Rattle.std.proofs.lemmas.Option.{none-some}
use Rattle.vk_types.specs.declared.handles.Kind.{Kind}
use Rattle.vk_types.specs.declared.ops.Node.{Node}
use Rattle.vk_types.specs.declared.batches.Batch.{Batch}
use Rattle.vk_model.specs.Fitting.{HasRange, NodeFits}
use Rattle.vk_model.specs.Log.{Item, Command, HostWrite, commands, touches_object, IsSound}
use Rattle.vk_model.specs.Meaning.{touches_id}
use Rattle.vk_model.proofs.Device.{touches_id_of}
use Rattle.vk_model.proofs.Groups.{touches_id_is}
use Rattle.vk_model.proofs.Growth.{sound_next}
use Rattle.vk_device.proofs.Fitting.{fits_lives, touched_lives}
use Rattle.back_core.specs.declared.back_event.BackEvent.{BackEvent}
use Rattle.back_core.specs.History.{own_part, link_of}
use Rattle.back_core.specs.Needs.{HostMay, MayEnqueue}
use Rattle.back_core.specs.Run.{MayHappen, IsRun}
use Rattle.back_core.proofs.Runs.{of_each_run}
use Rattle.back_core.proofs.Each.{Each, Each-nil, Each-one, Each-append, Each-map, Each-weaker, Each-from_All}
use Rattle.back_core.proofs.Adding.{by_sort, own_log, own_items, own_items-other, own_log-then, made_still}

if_own_items : (P : List Item → Type 0) (b : Bool) (xs : List Item) → (b ≡ true → P xs) → P [] → P (cond b xs [])
if_own_items P true xs own other = own refl
if_own_items P false xs own other = other

-- What is made

-- the group made each object that the node touches
abbrev pub NodeMade : (ℕ → Option Kind) → Node → Type 0
NodeMade kinds n = (id : ℕ) → touches_object n id ≡ true → IsSome (kinds id)

abbrev pub ItemMade : (ℕ → Option Kind) → Item → Type 0
ItemMade kinds x = (id : ℕ) → touches_id x id ≡ true → IsSome (kinds id)

range_made : (o : Option Kind) (at size : ℕ) → HasRange o at size → IsSome o
range_made None at size has = absurd has
range_made (Some kind) at size has = refl

-- what the host may write was made
pub host_made : (h : List BackEvent) (g id at size : ℕ) → HostMay (link_of h g) id at size → IsSome ((own_part h g).kinds id)
host_made h g id at size may = range_made ((own_part h g).kinds id) at size may.range

-- and so was what a batch touches
pub batch_made : (h : List BackEvent) (g : ℕ) (b : Batch) → MayEnqueue (link_of h g) b → Each (NodeMade (own_part h g).kinds) b.nodes
batch_made h g b may = Each-weaker (NodeFits (own_part h g).kinds) (NodeMade (own_part h g).kinds) b.nodes
    (λ n fits id t. touched_lives (own_part h g).kinds n 0 id (fits_lives (own_part h g).kinds n fits) (touches_id_of n id t 0))
    (Each-from_All (NodeFits (own_part h g).kinds) b.nodes may.fits)

items_made : (h : List BackEvent) (e : BackEvent) (g : ℕ) → MayHappen h e → Each (ItemMade (own_part h g).kinds) (own_items g e)
items_made h e g = by_sort (λ e. MayHappen h e → Each (ItemMade (own_part h g).kinds) (own_items g e))
    (λ group id at bytes may. if_own_items (Each (ItemMade (own_part h g).kinds)) (group == g) (HostWrite id.0 at bytes ∷ [])
    (λ own. Each-one (ItemMade (own_part h g).kinds) (HostWrite id.0 at bytes) (λ i t.
    elim (or_cases (eqb id.0 i) false t) [
      | inl same ↦ subst (λ j. IsSome ((own_part h g).kinds j)) (eqb-true id.0 i same) (subst (λ f. IsSome ((own_part h f).kinds id.0)) (eqb-true group g own) (host_made h group id.0 at _ may))
      | inr not ↦ absurd (false≢true not)
    ]))
    (Each-nil (ItemMade (own_part h g).kinds)))
    (λ b may. if_own_items (Each (ItemMade (own_part h g).kinds)) ((b.index / 8) == g) (commands 0 b.nodes)
    (λ own. subst (λ f. Each (ItemMade (own_part h f).kinds) (commands 0 b.nodes)) (eqb-true (b.index / 8) g own)
    (Each-map (ItemMade (own_part h (b.index / 8)).kinds) (Command 0) b.nodes
    (Each-weaker (NodeMade (own_part h (b.index / 8)).kinds) (λ n. ItemMade (own_part h (b.index / 8)).kinds (Command 0 n)) b.nodes (λ n made id t. made id (sym (touches_id_is 0 n id) ∙ t)) (batch_made h (b.index / 8) b may.1))))
    (Each-nil (ItemMade (own_part h g).kinds)))
    (λ e other may. subst (Each (ItemMade (own_part h g).kinds)) (sym (own_items-other g e other)) (Each-nil (ItemMade (own_part h g).kinds)))
    e

-- each item of a group's log touches only what the group made
pub own_made : (h : List BackEvent) → IsRun h → (g : ℕ) → Each (ItemMade (own_part h g).kinds) (own_log h g)
own_made = of_each_run (λ h. (g : ℕ) → Each (ItemMade (own_part h g).kinds) (own_log h g)) (λ g. Each-nil (ItemMade (own_part [] g).kinds)) (λ h e run may so_far g.
    Each-weaker (ItemMade (own_part h g).kinds) (ItemMade (own_part (h ++ e ∷ []) g).kinds) (own_log (h ++ e ∷ []) g) (λ x made id t. made_still h e g id (made id t))
    (subst (Each (ItemMade (own_part h g).kinds)) (sym (own_log-then h e g)) (Each-append (ItemMade (own_part h g).kinds) (own_log h g) (own_items g e) (so_far g) (items_made h e g may))))

-- What is sound

no_write : (q : ℕ) (n : Node) (id at : ℕ) (bytes : List ℕ) → HostWrite id at bytes ≡ Command q n → ⊥
no_write q n id at bytes e = cc

sound_nil : IsSound []
sound_nil = record {
  ordered = λ j k p q a b lt at_j at_k e. absurd (none-some (Command p a) at_j);
  laid_out = λ k q n at. absurd (none-some (Command q n) at);
}

sound_with : (h : List BackEvent) (e : BackEvent) (g : ℕ) → MayHappen h e → IsSound (own_log h g) → IsSound (own_log h g ++ own_items g e)
sound_with h e g = by_sort (λ e. MayHappen h e → IsSound (own_log h g) → IsSound (own_log h g ++ own_items g e))
    (λ group id at bytes may sound. if_own_items (λ l. IsSound (own_log h g ++ l)) (group == g) (HostWrite id.0 at bytes ∷ [])
    (λ own. sound_next (own_log h g) (HostWrite id.0 at bytes) sound (λ q n is. absurd (no_write q n id.0 at bytes is)) (λ q n is. absurd (no_write q n id.0 at bytes is)))
    (unchanged sound))
    (λ b may sound. if_own_items (λ l. IsSound (own_log h g ++ l)) ((b.index / 8) == g) (commands 0 b.nodes)
    (λ own. subst (λ f. IsSound (own_log h f ++ commands 0 b.nodes)) (eqb-true (b.index / 8) g own) may.1.sound)
    (unchanged sound))
    (λ e other may sound. subst (λ l. IsSound (own_log h g ++ l)) (sym (own_items-other g e other)) (unchanged sound))
    e
  where
    unchanged : IsSound (own_log h g) → IsSound (own_log h g ++ [])
    unchanged sound = subst IsSound (sym (append-nil (own_log h g))) sound

pub own_sound : (h : List BackEvent) → IsRun h → (g : ℕ) → IsSound (own_log h g)
own_sound = of_each_run (λ h. (g : ℕ) → IsSound (own_log h g)) (λ g. sound_nil) (λ h e run may so_far g. subst IsSound (sym (own_log-then h e g)) (sound_with h e g may (so_far g)))
