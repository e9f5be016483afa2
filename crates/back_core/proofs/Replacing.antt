-- A log that may stand in the place of another: it differs only in where the host writes.
use Rattle.std.proofs.Common.{◌≡◌, ℕ, false, cond, List, [], ◌∷◌, ◌++◌, refl, sym, ap, ◌∙◌, subst}
use Rattle.std.specs.Prelude.{Option, Some, None}
use Rattle.std.specs.List.{filter_map}
use Rattle.std.proofs.lemmas.List.{append_assoc, append-nil}
use Rattle.std.proofs.lemmas.List.Elements.{filter_map-append}
use Rattle.vk_types.specs.declared.handles.Kind.{Kind}
use Rattle.vk_types.specs.declared.ops.Node.{Node}
use Rattle.vk_model.specs.Log.{Item, Command, HostWrite, Wait, Signal, commands, touches_object, IsSound}
use Rattle.vk_model.specs.Meaning.{nothing, after_all, eval}
use Rattle.vk_model.proofs.Order.{after_all-append, neighbours}
use Rattle.vk_model.proofs.Swap.{sound_write_passed, write_apart}
use Rattle.back_core.proofs.Each.{Each, Each-head, Each-tail}

-- the node of an item that touches an object
abbrev pub node_on : ℕ → Item → Option Node
node_on id (Command queue n) = cond (touches_object n id) (Some n) None
node_on id (HostWrite of at bytes) = None
node_on id (Wait queue signal) = None
node_on id (Signal queue signal) = None

-- the nodes that touch an object, in the log's order
abbrev pub nodes_on : ℕ → List Item → List Node
nodes_on id log = filter_map (node_on id) log

-- It is sound where the other is, whatever comes behind, it makes the same contents, and has the same nodes on each object
-- in the same order.
pub record CanReplace (old new : List Item) : Type 0 where
  pub sound : (more : List Item) → IsSound (old ++ more) → IsSound (new ++ more)
  pub contents : (kinds : ℕ → Kind) → eval kinds old ≡ eval kinds new
  pub nodes : (id : ℕ) → nodes_on id old ≡ nodes_on id new

pub itself : (log : List Item) → CanReplace log log
itself log = record { sound = λ more sound. sound; contents = λ kinds. refl; nodes = λ id. refl }

pub through : (x y z : List Item) → CanReplace x y → CanReplace y z → CanReplace x z
through x y z a b = record {
  sound = λ more sound. b.sound more (a.sound more sound);
  contents = λ kinds. a.contents kinds ∙ b.contents kinds;
  nodes = λ id. a.nodes id ∙ b.nodes id;
}

-- with the same items behind both
pub longer : (x y more : List Item) → CanReplace x y → CanReplace (x ++ more) (y ++ more)
longer x y more r = record {
  sound = λ rest sound. subst IsSound (sym (append_assoc y more rest)) (r.sound (more ++ rest) (subst IsSound (append_assoc x more rest) sound));
  contents = λ kinds. after_all-append kinds x more nothing ∙ ap (after_all kinds more) (r.contents kinds) ∙ sym (after_all-append kinds y more nothing);
  nodes = λ id. filter_map-append (node_on id) x more ∙ ap (λ l. l ++ nodes_on id more) (r.nodes id) ∙ sym (filter_map-append (node_on id) y more);
}

-- A write by the host comes before a node that does not touch its object
module _ (id at : ℕ) (bytes : List ℕ) where
  passed : (front back : List Item) (q : ℕ) (n : Node) → touches_object n id ≡ false → CanReplace (front ++ Command q n ∷ HostWrite id at bytes ∷ back) (front ++ HostWrite id at bytes ∷ Command q n ∷ back)
  passed front back q n untouched = record {
    sound = λ more sound. subst IsSound (sym (append_assoc front (HostWrite id at bytes ∷ Command q n ∷ back) more))
        (sound_write_passed front (back ++ more) q n id at bytes untouched (subst IsSound (append_assoc front (Command q n ∷ HostWrite id at bytes ∷ back) more) sound));
    contents = λ kinds. neighbours kinds front back (Command q n) (HostWrite id at bytes) (write_apart q n id at bytes untouched);
    nodes = λ i. filter_map-append (node_on i) front (Command q n ∷ HostWrite id at bytes ∷ back) ∙ sym (filter_map-append (node_on i) front (HostWrite id at bytes ∷ Command q n ∷ back));
  }

  -- and before a list of such nodes
  pub all_passed : (front : List Item) (ns : List Node) → Each (λ n. touches_object n id ≡ false) ns → CanReplace ((front ++ commands 0 ns) ++ HostWrite id at bytes ∷ []) (front ++ HostWrite id at bytes ∷ commands 0 ns)
  all_passed front [] untouched = subst (λ l. CanReplace (l ++ HostWrite id at bytes ∷ []) (front ++ HostWrite id at bytes ∷ [])) (sym (append-nil front)) (itself (front ++ HostWrite id at bytes ∷ []))
  all_passed front (n ∷ ns) untouched =
      through
      ((front ++ Command 0 n ∷ commands 0 ns) ++ HostWrite id at bytes ∷ [])
      (front ++ Command 0 n ∷ HostWrite id at bytes ∷ commands 0 ns)
      (front ++ HostWrite id at bytes ∷ Command 0 n ∷ commands 0 ns)
      (subst (λ l. CanReplace (l ++ HostWrite id at bytes ∷ []) (front ++ Command 0 n ∷ HostWrite id at bytes ∷ commands 0 ns)) (append_assoc front (Command 0 n ∷ []) (commands 0 ns))
      (subst (CanReplace (((front ++ Command 0 n ∷ []) ++ commands 0 ns) ++ HostWrite id at bytes ∷ [])) (append_assoc front (Command 0 n ∷ []) (HostWrite id at bytes ∷ commands 0 ns))
      (all_passed (front ++ Command 0 n ∷ []) ns (Each-tail (λ m. touches_object m id ≡ false) n ns untouched))))
      (passed front (commands 0 ns) 0 n (Each-head (λ m. touches_object m id ≡ false) n ns untouched))
