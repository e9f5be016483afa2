-- What `retain` leaves where its closure keeps each entry and changes its value.
use Rattle.std.proofs.Common.{◌≡◌, Bool, true, false, cond, List, [], ◌∷◌, map, refl, subst, ap, ◌∙◌}
use Rattle.std.specs.List.{filter}
use Rattle.std.specs.Map.Calls.{RetainsPairs}

pub map_from_retain : {F K X : Type 0} (T : F → K → X → Bool → X → F → Type 0) (g : K → X → X) (f : F) → ((k : K) (v : X) (b : Bool) (w : X) (next : F) → T f k v b w next → (b ≡ true) × (w ≡ g k v) × (next ≡ f)) → (es kept : List (K × X)) → RetainsPairs T f es kept → kept ≡ map (λ e. (e.0, g e.0 e.1)) es
map_from_retain T g f called [] kept ran = ran
map_from_retain T g f called (e ∷ es) kept ran =
    let here = called e.0 e.1 ran.0 ran.1 ran.2 ran.4 in
    let rest = map_from_retain T g f called es ran.3 (subst (λ next. RetainsPairs T next es ran.3) here.2 ran.5) in
    ran.6 ∙ ap (λ b. cond b ((e.0, ran.1) ∷ ran.3) ran.3) here.0 ∙ (λ i. (e.0, here.1 i) ∷ rest i)

module _ {K X : Type 0} (keep : K → X → Bool) (g : K → X → X) where
  abbrev changed : List (K × X) → List (K × X)
  changed es = map (λ e. (e.0, g e.0 e.1)) es

  abbrev kept_of : List (K × X) → List (K × X)
  kept_of es = filter (λ e. keep e.0 e.1) es

  changed_step : (e : K × X) (es : List (K × X)) (b : Bool) → cond b ((e.0, g e.0 e.1) ∷ changed (kept_of es)) (changed (kept_of es)) ≡ changed (cond b (e ∷ kept_of es) (kept_of es))
  changed_step e es true = refl
  changed_step e es false = refl

  pub filter_map_from_retain : {F : Type 0} (T : F → K → X → Bool → X → F → Type 0) (f : F) → ((k : K) (v : X) (b : Bool) (w : X) (next : F) → T f k v b w next → (b ≡ keep k v) × (w ≡ g k v) × (next ≡ f)) → (es kept : List (K × X)) → RetainsPairs T f es kept → kept ≡ map (λ e. (e.0, g e.0 e.1)) (filter (λ e. keep e.0 e.1) es)
  filter_map_from_retain T f called [] kept ran = ran
  filter_map_from_retain T f called (e ∷ es) kept ran =
      let here = called e.0 e.1 ran.0 ran.1 ran.2 ran.4 in
      let rest = filter_map_from_retain T f called es ran.3 (subst (λ next. RetainsPairs T next es ran.3) here.2 ran.5) in
      ran.6 ∙ (λ i. cond {A = List (K × X)} (here.0 i) ((e.0, here.1 i) ∷ rest i) (rest i)) ∙ changed_step e es (keep e.0 e.1)
