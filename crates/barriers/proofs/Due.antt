-- Which barrier is due before a touch, and that behind it none is licensed.
use Rattle.std.proofs.Common.{◌≡◌, List, [], ◌∷◌, ◌++◌, Bool, true, false, cond, refl, subst, sym, ◌∙◌, ap}
use Rattle.std.specs.Prelude.{◌≢◌, ◌||◌, not, fold, Option, Some, None, is_some, IfSome}
use Rattle.std.specs.List.{list_any}
use Rattle.std.specs.Option.{option_map_or}
use Rattle.std.proofs.lemmas.Bool.{false≢true, or_from}
use Rattle.std.proofs.lemmas.List.Sums.{fold_push}
use Rattle.vk_types.specs.declared.accesses.Layout.{Layout}
use Rattle.vk_types.specs.declared.accesses.Layout.TheVariants.{Undefined, TransferSrc, TransferDst, ColorAttachment}
use Rattle.vk_types.specs.declared.handles.HandleId.{HandleId}
use Rattle.vk_types.specs.declared.regions.Touch.{Touch}
use Rattle.vk_types.specs.declared.regions.Barrier.{Barrier}
use Rattle.vk_types.specs.Accesses.{in_common}
use Rattle.vk_model.proofs.Clashes.{none_is_some}
use Rattle.barriers.specs.Licence.{Use, Fenced, barrier_after, accesses_after, last_barrier, since, writes, layout_after, layout_now, first_layout, same_layout, changes_layout, is_licensed, waited_for, layouts_of, barrier_due}
use Rattle.barriers.specs.Trackers.{IsTouchOf}
use Rattle.barriers.proofs.Accesses.{meets_itself}
use Rattle.barriers.proofs.Licences.{some_layout}
use Rattle.barriers.proofs.Growing.{due_is}

none_given : (b : Bool) (due : Barrier) → cond b (Some due) None ≡ None → b ≡ false
none_given true due e = none_is_some (sym e)
none_given false due e = refl

pub none_licensed : (id : HandleId) (is_image : Bool) (uses : List Use) (touch : Touch) → barrier_due id is_image uses touch ≡ None → is_licensed is_image uses touch ≡ false
none_licensed id is_image uses touch e = none_given (is_licensed is_image uses touch) (record { id = id; first = waited_for uses; second = touch.access; layouts = layouts_of (layout_now (first_layout is_image) uses) touch.layout }) e

same_itself : (layout : Layout) → same_layout layout layout ≡ true
same_itself Undefined = refl
same_itself TransferSrc = refl
same_itself TransferDst = refl
same_itself ColorAttachment = refl

stays : (now wanted : Option Layout) → (wanted ≢ None → now ≡ None → ⊥) → changes_layout (option_map_or (λ both. Some both.1) (layouts_of now wanted) now) wanted ≡ false
stays None None has = refl
stays (Some now) None has = refl
stays None (Some wanted) has = absurd (has (λ e. none_is_some (sym e)) refl)
stays (Some now) (Some wanted) has = ap not (same_itself wanted)

pub once_licensed : (id : HandleId) (is_image : Bool) (uses : List Use) (touch : Touch) (barrier : Barrier) → IsTouchOf id is_image touch → barrier_due id is_image uses touch ≡ Some barrier → is_licensed is_image (uses ++ Fenced barrier ∷ []) touch ≡ false
once_licensed id is_image uses touch barrier of e = or_from (changes || written) held (or_from changes written unmoved unwritten) through
  where
    changes : Bool
    changes = changes_layout (layout_now (first_layout is_image) (uses ++ Fenced barrier ∷ [])) touch.layout

    written : Bool
    written = list_any (λ access. writes access || writes touch.access) (since (uses ++ Fenced barrier ∷ []))

    held : Bool
    held = option_map_or (λ barrier. not (in_common touch.access barrier.second)) (last_barrier (uses ++ Fenced barrier ∷ [])) false

    is : ◌≡◌ {A = Barrier} (record { id = id; first = waited_for uses; second = touch.access; layouts = layouts_of (layout_now (first_layout is_image) uses) touch.layout }) barrier
    is = due_is (is_licensed is_image uses touch) _ barrier e

    unmoved : changes_layout (layout_now (first_layout is_image) (uses ++ Fenced barrier ∷ [])) touch.layout ≡ false
    unmoved =
        ap (λ o. changes_layout o touch.layout) (fold_push layout_after (first_layout is_image) uses (Fenced barrier))
        ∙ (ap (λ b. changes_layout (option_map_or (λ both. Some both.1) b.layouts (layout_now (first_layout is_image) uses)) touch.layout) (sym is)
        ∙ stays (layout_now (first_layout is_image) uses) touch.layout
        (λ some none. some_layout uses Undefined (ap (λ b. fold layout_after (first_layout b) uses) (sym (of.buffer some)) ∙ none)))

    unwritten : list_any (λ access. writes access || writes touch.access) (since (uses ++ Fenced barrier ∷ [])) ≡ false
    unwritten = ap (list_any (λ access. writes access || writes touch.access)) (fold_push accesses_after [] uses (Fenced barrier))

    through : option_map_or (λ barrier. not (in_common touch.access barrier.second)) (last_barrier (uses ++ Fenced barrier ∷ [])) false ≡ false
    through =
        ap (λ o. option_map_or (λ barrier. not (in_common touch.access barrier.second)) o false) (fold_push barrier_after None uses (Fenced barrier))
        ∙ (ap (λ b. not (in_common touch.access b.second)) (sym is) ∙ ap not (meets_itself touch.access of.some))

-- The barrier that is due

module _ (id : HandleId) (is_image : Bool) (uses : List Use) (touch : Touch) (barrier : Barrier) (due : barrier_due id is_image uses touch ≡ Some barrier) where
  abbrev named : Barrier
  named = record { id = id; first = waited_for uses; second = touch.access; layouts = layouts_of (layout_now (first_layout is_image) uses) touch.layout }

  is_named : named ≡ barrier
  is_named = due_is (is_licensed is_image uses touch) named barrier due

  pub named_object : barrier.id ≡ id
  named_object = ap (λ b. b.id) (sym is_named)

  pub named_layouts : IsTouchOf id is_image touch → is_some barrier.layouts ≡ is_image
  named_layouts of = ap (λ b. is_some b.layouts) (sym is_named) ∙ go is_image refl (layout_now (first_layout is_image) uses) touch.layout refl refl
    where
      go : (b : Bool) → is_image ≡ b → (now wanted : Option Layout) → layout_now (first_layout is_image) uses ≡ now → touch.layout ≡ wanted → is_some (layouts_of now wanted) ≡ b
      go true image (Some now) (Some wanted) e f = refl
      go true image None wanted e f = absurd (some_layout uses Undefined (ap (λ b. fold layout_after (first_layout b) uses) (sym image) ∙ e))
      go true image (Some now) None e f = absurd (false≢true (sym (ap is_some f) ∙ of.image image))
      go false buffer None None e f = refl
      go false buffer (Some now) None e f = refl
      go false buffer now (Some wanted) e f = absurd (false≢true (sym buffer ∙ of.buffer (λ g. none_is_some (sym g ∙ f))))

  pub named_new : IfSome barrier.layouts (λ both. Some both.1 ≡ touch.layout)
  named_new = subst (λ b. IfSome b.layouts (λ both. Some both.1 ≡ touch.layout)) is_named (go (layout_now (first_layout is_image) uses) touch.layout)
    where
      go : (now wanted : Option Layout) → IfSome (layouts_of now wanted) (λ both. Some both.1 ≡ wanted)
      go None None = tt
      go None (Some wanted) = tt
      go (Some now) None = tt
      go (Some now) (Some wanted) = refl
