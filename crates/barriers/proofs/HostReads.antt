-- Reads by the host, as uses.
use Rattle.std.proofs.Common.{◌≡◌, List, [], ◌∷◌, ◌++◌, Bool, true, false, cond, sym, ◌∙◌, ap, subst}
use Rattle.std.specs.Prelude.{◌≢◌, ◌||◌, not, All, Option, Some, None, IfSome}
use Rattle.std.specs.List.{list_any}
use Rattle.std.specs.Option.{option_map_or}
use Rattle.std.proofs.lemmas.Bool.{not-false, or_from, or_parts}
use Rattle.std.proofs.lemmas.List.Elements.{All-push}
use Rattle.std.proofs.lemmas.List.Folds.{list_any-append}
use Rattle.std.proofs.lemmas.List.Sums.{fold_push}
use Rattle.vk_types.specs.declared.handles.HandleId.{HandleId}
use Rattle.vk_types.specs.declared.regions.Touch.{Touch}
use Rattle.vk_types.specs.declared.regions.Barrier.{Barrier}
use Rattle.vk_types.specs.Accesses.{no_access, host_read, in_common}
use Rattle.barriers.specs.Licence.{Use, Accessed, barrier_after, accesses_after, last_barrier, since, writes, layout_after, layout_now, first_layout, changes_layout, is_licensed, waited_for, layouts_of, barrier_due}
use Rattle.barriers.specs.Recording.{AreFenced}
use Rattle.barriers.proofs.Due.{none_licensed}
use Rattle.barriers.proofs.WithDue.{licensed_access}

module _ (id : HandleId) (is_image : Bool) (uses : List Use) (touch : Touch) (host : touch.access ≡ host_read) (none : barrier_due id is_image uses touch ≡ None) where
  abbrev moves : List Use → Bool
  moves us = changes_layout (layout_now (first_layout is_image) us) touch.layout

  abbrev written : List Use → Bool
  written us = list_any (λ access. writes access || writes touch.access) (since us)

  abbrev held : List Use → Bool
  held us = option_map_or (λ barrier. not (in_common touch.access barrier.second)) (last_barrier us) false

  free : is_licensed is_image uses touch ≡ false
  free = none_licensed id is_image uses touch none

  abbrev more : List Use
  more = uses ++ Accessed host_read ∷ []

  last_is : last_barrier more ≡ last_barrier uses
  last_is = fold_push barrier_after None uses (Accessed host_read)

  since_is : since more ≡ since uses ++ host_read ∷ []
  since_is = fold_push accesses_after [] uses (Accessed host_read)

  layout_is : layout_now (first_layout is_image) more ≡ layout_now (first_layout is_image) uses
  layout_is = fold_push layout_after (first_layout is_image) uses (Accessed host_read)

  quiet : (writes host_read || writes touch.access) ≡ false
  quiet = ap (λ a. writes host_read || writes a) host

  still_free : is_licensed is_image more touch ≡ false
  still_free =
      let outer = or_parts (moves uses || written uses) (held uses) free in
      let inner = or_parts (moves uses) (written uses) outer.0 in
      or_from (moves more || written more) (held more)
      (or_from (moves more) (written more)
      (ap (λ l. changes_layout l touch.layout) layout_is ∙ inner.0)
      (ap (list_any (λ access. writes access || writes touch.access)) since_is
      ∙ (list_any-append (λ access. writes access || writes touch.access) (since uses) (host_read ∷ [])
      ∙ or_from (written uses) ((writes host_read || writes touch.access) || false) inner.1 (ap (λ b. b || false) quiet))))
      (ap (λ o. option_map_or (λ barrier. not (in_common touch.access barrier.second)) o false) last_is ∙ outer.1)

  pub none_again : barrier_due id is_image more touch ≡ None
  none_again = ap (λ b. cond b (Some (record { id = id; first = waited_for more; second = touch.access; layouts = layouts_of (layout_now (first_layout is_image) more) touch.layout })) None) still_free

  let_to_host : (o : Option Barrier) → option_map_or (λ barrier. not (in_common touch.access barrier.second)) o false ≡ false → IfSome o (λ barrier. in_common host_read barrier.second ≡ true)
  let_to_host None e = tt
  let_to_host (Some barrier) e = ap (λ a. in_common a barrier.second) (sym host) ∙ not-false (in_common touch.access barrier.second) e

  pub read_fenced : AreFenced id is_image uses → AreFenced id is_image more
  read_fenced f = record {
    licensed = licensed_access id is_image uses host_read f.licensed;
    some = subst (λ o. IfSome o (λ barrier. barrier.second ≢ no_access)) (sym last_is) f.some;
    let_through =
        subst (λ o. IfSome o (λ barrier. All (λ access. in_common access barrier.second ≡ true) (since more))) (sym last_is)
        (subst (λ s. IfSome (last_barrier uses) (λ barrier. All (λ access. in_common access barrier.second ≡ true) s)) (sym since_is)
        (go (last_barrier uses) f.let_through (let_to_host (last_barrier uses) (or_parts (moves uses || written uses) (held uses) free).1)));
  }
    where
      go : (o : Option Barrier) → IfSome o (λ barrier. All (λ access. in_common access barrier.second ≡ true) (since uses)) → IfSome o (λ barrier. in_common host_read barrier.second ≡ true) →
          IfSome o (λ barrier. All (λ access. in_common access barrier.second ≡ true) (since uses ++ host_read ∷ []))
      go None all one = tt
      go (Some barrier) all one = All-push (λ access. in_common access barrier.second ≡ true) (since uses) host_read all one
