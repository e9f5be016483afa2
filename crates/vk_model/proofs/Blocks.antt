-- Whole lists of nodes without conflicts change places as neighbours do.
use Rattle.std.proofs.Common.{◌≡◌, ℕ, List, [], ◌∷◌, ◌++◌, false, refl, ◌∙◌, subst}
use Rattle.std.specs.List.{AllByRecursion}
use Rattle.std.proofs.lemmas.List.{append_assoc}
use Rattle.vk_types.specs.declared.handles.Kind.{Kind}
use Rattle.vk_types.specs.declared.ops.Node.{Node}
use Rattle.vk_model.specs.Log.{Item, Command, commands, conflict, NoneEmpty, NoConflict, IsSound}
use Rattle.vk_model.specs.Meaning.{eval}
use Rattle.vk_model.proofs.Swap.{sound_swapped}
use Rattle.vk_model.proofs.Order.{neighbours}

-- a law of logs that is kept where neighbours without conflict change places
abbrev pub IsKept : ℕ → (List Item → List Item → Type 0) → Type 0
IsKept q P =
    (front back : List Item) (a b : Node) → NoneEmpty a → NoneEmpty b → conflict a b ≡ false →
    P (front ++ Command q a ∷ Command q b ∷ back) (front ++ Command q b ∷ Command q a ∷ back)

module _ (q : ℕ) (P : List Item → List Item → Type 0) (same : (log : List Item) → P log log) (through : (x y z : List Item) → P x y → P y z → P x z) (kept : IsKept q P) where
  -- one node passes a list
  one_passes : (front back : List Item) (a : Node) (ys : List Node) → NoneEmpty a → AllByRecursion NoneEmpty ys → AllByRecursion (λ b. conflict a b ≡ false) ys → P (front ++ Command q a ∷ (commands q ys ++ back)) (front ++ (commands q ys ++ Command q a ∷ back))
  one_passes front back a [] roomy_a roomy none = same (front ++ Command q a ∷ back)
  one_passes front back a (b ∷ ys) roomy_a roomy none =
      through
      (front ++ Command q a ∷ Command q b ∷ (commands q ys ++ back))
      (front ++ Command q b ∷ Command q a ∷ (commands q ys ++ back))
      (front ++ Command q b ∷ (commands q ys ++ Command q a ∷ back))
      (kept front (commands q ys ++ back) a b roomy_a roomy.0 none.0)
      (subst (λ l. P l (front ++ Command q b ∷ (commands q ys ++ Command q a ∷ back))) (append_assoc front (Command q b ∷ []) (Command q a ∷ (commands q ys ++ back)))
      (subst (P ((front ++ Command q b ∷ []) ++ Command q a ∷ (commands q ys ++ back))) (append_assoc front (Command q b ∷ []) (commands q ys ++ Command q a ∷ back))
      (one_passes (front ++ Command q b ∷ []) back a ys roomy_a roomy.1 none.1)))

  -- a list passes a list
  pub all_pass : (front back : List Item) (xs ys : List Node) → AllByRecursion NoneEmpty xs → AllByRecursion NoneEmpty ys → NoConflict xs ys → P (front ++ (commands q xs ++ (commands q ys ++ back))) (front ++ (commands q ys ++ (commands q xs ++ back)))
  all_pass front back [] ys roomy_x roomy_y none = same (front ++ (commands q ys ++ back))
  all_pass front back (a ∷ xs) ys roomy_x roomy_y none =
      through
      (front ++ Command q a ∷ (commands q xs ++ (commands q ys ++ back)))
      (front ++ Command q a ∷ (commands q ys ++ (commands q xs ++ back)))
      (front ++ (commands q ys ++ Command q a ∷ (commands q xs ++ back)))
      (subst (λ l. P l (front ++ Command q a ∷ (commands q ys ++ (commands q xs ++ back)))) (append_assoc front (Command q a ∷ []) (commands q xs ++ (commands q ys ++ back)))
      (subst (P ((front ++ Command q a ∷ []) ++ (commands q xs ++ (commands q ys ++ back)))) (append_assoc front (Command q a ∷ []) (commands q ys ++ (commands q xs ++ back)))
      (all_pass (front ++ Command q a ∷ []) back xs ys roomy_x.1 roomy_y none.1)))
      (one_passes front (commands q xs ++ back) a ys roomy_x.0 roomy_y none.0)

pub blocks_sound : (q : ℕ) (front back : List Item) (xs ys : List Node) → AllByRecursion NoneEmpty xs → AllByRecursion NoneEmpty ys → NoConflict xs ys → IsSound (front ++ (commands q xs ++ (commands q ys ++ back))) → IsSound (front ++ (commands q ys ++ (commands q xs ++ back)))
blocks_sound q = all_pass q (λ x y. IsSound x → IsSound y) (λ log sound. sound) (λ x y z f g sound. g (f sound)) (λ front back a b roomy_a roomy_b none sound. sound_swapped front back q q a b roomy_a roomy_b none sound)

pub blocks_eval : (q : ℕ) (kinds : ℕ → Kind) (front back : List Item) (xs ys : List Node) → AllByRecursion NoneEmpty xs → AllByRecursion NoneEmpty ys → NoConflict xs ys → eval kinds (front ++ (commands q xs ++ (commands q ys ++ back))) ≡ eval kinds (front ++ (commands q ys ++ (commands q xs ++ back)))
blocks_eval q kinds = all_pass q (λ x y. eval kinds x ≡ eval kinds y) (λ log. refl) (λ x y z e f. e ∙ f) (λ front back a b roomy_a roomy_b none. neighbours kinds front back (Command q a) (Command q b) none)
