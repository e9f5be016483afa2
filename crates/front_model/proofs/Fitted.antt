-- What the group had the back do fits: it goes on fitting as there are more objects, and as nodes that fit are handed over.
use Rattle.std.proofs.Common.{ℕ, List, [], ◌∷◌, sym, subst}
use Rattle.std.specs.Prelude.{Option, All}
use Rattle.std.specs.List.{flat_map, AllByRecursion}
use Rattle.std.proofs.lemmas.List.{map-append}
use Rattle.std.proofs.lemmas.List.Elements.{All-head, All-tail}
use Rattle.vk_types.specs.declared.handles.Kind.{Kind}
use Rattle.vk_types.specs.declared.handles.Kind.TheVariants as kinds
use Rattle.vk_types.specs.declared.ops.Node.{Node}
use Rattle.vk_model.specs.Log.{Item, Command, HostWrite, Wait, Signal, commands}
use Rattle.vk_model.specs.Fitting.{NodeFits}
use Rattle.back_core.specs.Own.{log_of}
use Rattle.back_core.specs.Link.{Link}
use Rattle.front_model.specs.Face.{Face, indexes_of, in_order, whole_log}
use Rattle.front_model.specs.Stands.{ItemFits, Hands, Holds}
use Rattle.front_model.proofs.Orders.{each-append}
use Rattle.front_model.proofs.Standing.{KindsGrow, fits_more}

module _ (old new : ℕ → Option Kind) (grows : KindsGrow old new) where
  item_fits_more : (x : Item) → ItemFits old x → ItemFits new x
  item_fits_more (Command q n) fits = fits_more old new grows n fits
  item_fits_more (HostWrite id at bytes) fits = (fits.0, grows id (kinds.Buffer fits.0) fits.1)
  item_fits_more (Wait q n) fits = tt
  item_fits_more (Signal q n) fits = tt

  pub items_fit_more : (log : List Item) → AllByRecursion (ItemFits old) log → AllByRecursion (ItemFits new) log
  items_fit_more [] fit = tt
  items_fit_more (x ∷ log) fit = (item_fits_more x fit.0, items_fit_more log fit.1)

pub nodes_fit : (made : ℕ → Option Kind) (nodes : List Node) → All (NodeFits made) nodes → AllByRecursion (ItemFits made) (commands 0 nodes)
nodes_fit made [] fit = tt
nodes_fit made (n ∷ nodes) fit = (All-head (NodeFits made) n nodes fit, nodes_fit made nodes (All-tail (NodeFits made) n nodes fit))

-- all that was recorded fits
module _ (f : Face) (hands : Hands) (s : Link) (h : Holds f hands s) where
  order_fits : (places : List ℕ) → AllByRecursion (ItemFits s.kinds) (commands 0 (flat_map f.pending places))
  order_fits [] = tt
  order_fits (i ∷ places) =
      subst (AllByRecursion (ItemFits s.kinds)) (sym (map-append (Command 0) (f.pending i) (flat_map f.pending places)))
      (each-append (ItemFits s.kinds) (commands 0 (f.pending i)) (commands 0 (flat_map f.pending places)) (nodes_fit s.kinds (f.pending i) (h.fits i)) (order_fits places))

  pub whole_fits : AllByRecursion (ItemFits s.kinds) (whole_log f s)
  whole_fits = each-append (ItemFits s.kinds) (log_of s.mine) (commands 0 (in_order f)) h.fitted (order_fits (indexes_of f.group))
