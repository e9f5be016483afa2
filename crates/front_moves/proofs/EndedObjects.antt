-- Objects that are ended one after another.
use Rattle.std.proofs.Common.{◌≡◌, ◌≢◌, ℕ, ◌==◌, ◌||◌, Bool, true, false, cond, Option, None, List, [], ◌∷◌, ◌++◌, refl, sym, ◌∙◌, ap}
use Rattle.std.specs.List.{list_any}
use Rattle.std.proofs.lemmas.Bool.{false≢true}
use Rattle.std.proofs.lemmas.List.Folds.{list_any-append}
use Rattle.cells.specs.Contents.{UNDEFINED}
use Rattle.back_core.specs.Link.{Link}
use Rattle.front_model.specs.declared.object.Object.{Object}
use Rattle.front_model.specs.Face.{Face, Outline, put_object, outline_at, view, same_object}
use Rattle.front_model.specs.Stands.{Holds, Moved, no_hands}
use Rattle.front_model.proofs.Base.{same_object-self}
use Rattle.front_moves.specs.Core.{IsQuietBut, new_cells}
use Rattle.front_moves.specs.Ending.{is_ended, HasEnded}

put_object-at : {A : Type 0} (f : Object → A) (o : Object) (v : A) (q : Object) → put_object f o v q ≡ cond (same_object q o) v (f q)
unfolding put_object
put_object-at f o v q = refl

or_last : (a b : Bool) → (a || (b || false)) ≡ (a || b)
or_last true b = refl
or_last false true = refl
or_last false false = refl

is_ended-more : (xs : List Object) (o q : Object) → is_ended (xs ++ o ∷ []) q ≡ (is_ended xs q || same_object q o)
is_ended-more xs o q = list_any-append (same_object q) xs (o ∷ []) ∙ or_last (list_any (same_object q) xs) (same_object q o)

choose : {A : Type 0} (e s : Bool) (v w : A) → cond s v (cond e v w) ≡ cond (e || s) v w
choose true true v w = refl
choose true false v w = refl
choose false true v w = refl
choose false false v w = refl

no_left : (e s : Bool) → (e || s) ≡ false → e ≡ false
no_left true s h = h
no_left false s h = refl

no_right : (e s : Bool) → (e || s) ≡ false → s ≡ false
no_right true s h = absurd (false≢true (sym h))
no_right false s h = h

-- before any is ended
pub none_ended : (f : Face) (s : Link) → Holds f no_hands s → HasEnded f f s s []
none_ended f s h = record {
  holds = h;
  view_is = λ o p. ap (λ t. cond t UNDEFINED (view f s o p)) (sym (empty o));
  outlines_are = λ o. ap (λ t. cond t None (outline_at f o)) (sym (empty o));
  still = λ o out quiet. quiet;
  group = refl;
}
  where
    empty : (o : Object) → is_ended [] o ≡ false
    empty o = refl

-- one more is ended
pub one_more_ended : (f g h : Face) (s t u : Link) (xs : List Object) (last : Object) → HasEnded f g s t xs →
    Moved h u (put_object (view g t) last (new_cells None)) (put_object (outline_at g) last None) (IsQuietBut g t last) → h.group ≡ g.group →
    HasEnded f h s u (xs ++ last ∷ [])
one_more_ended f g h s t u xs last before moved group = record {
  holds = moved.holds;
  view_is = λ o p.
      ap (λ (v : Object → ℕ → ℕ). v o p) moved.view_is ∙ ap (λ (v : ℕ → ℕ). v p) (put_object-at (view g t) last (new_cells None) o)
      ∙ at_place (same_object o last) (view g t o) p
      ∙ ap (λ c. cond (same_object o last) UNDEFINED c) (before.view_is o p)
      ∙ choose (is_ended xs o) (same_object o last) UNDEFINED (view f s o p)
      ∙ ap (λ t. cond t UNDEFINED (view f s o p)) (sym (is_ended-more xs last o));
  outlines_are = λ o.
      ap (λ (v : Object → Option Outline). v o) moved.outlines_are ∙ put_object-at (outline_at g) last None o
      ∙ ap (λ c. cond (same_object o last) None c) (before.outlines_are o)
      ∙ choose (is_ended xs o) (same_object o last) None (outline_at f o)
      ∙ ap (λ t. cond t None (outline_at f o)) (sym (is_ended-more xs last o));
  still = λ o out quiet.
      let both : (is_ended xs o || same_object o last) ≡ false = sym (is_ended-more xs last o) ∙ out in
      moved.still o (before.still o (no_left (is_ended xs o) (same_object o last) both) quiet, other o (no_right (is_ended xs o) (same_object o last) both));
  group = group ∙ before.group;
}
  where
    at_place : (c : Bool) (v : ℕ → ℕ) (p : ℕ) → cond c (new_cells None) v p ≡ cond c UNDEFINED (v p)
    at_place true v p = refl
    at_place false v p = refl

    other : (o : Object) → same_object o last ≡ false → o ≢ last
    other o ne same = false≢true (sym ne ∙ ap (λ q. same_object q last) same ∙ same_object-self last)

-- some objects are ended, and then others
pub ended_then : (f g h : Face) (s t u : Link) (xs ys : List Object) → HasEnded f g s t xs → HasEnded g h t u ys → HasEnded f h s u (xs ++ ys)
ended_then f g h s t u xs ys first second = record {
  holds = second.holds;
  view_is = λ o p.
      second.view_is o p
      ∙ ap (λ c. cond (is_ended ys o) UNDEFINED c) (first.view_is o p)
      ∙ choose (is_ended xs o) (is_ended ys o) UNDEFINED (view f s o p)
      ∙ ap (λ t. cond t UNDEFINED (view f s o p)) (sym (list_any-append (same_object o) xs ys));
  outlines_are = λ o.
      second.outlines_are o
      ∙ ap (λ c. cond (is_ended ys o) None c) (first.outlines_are o)
      ∙ choose (is_ended xs o) (is_ended ys o) None (outline_at f o)
      ∙ ap (λ t. cond t None (outline_at f o)) (sym (list_any-append (same_object o) xs ys));
  still = λ o out quiet.
      let both : (is_ended xs o || is_ended ys o) ≡ false = sym (list_any-append (same_object o) xs ys) ∙ out in
      second.still o (no_right (is_ended xs o) (is_ended ys o) both) (first.still o (no_left (is_ended xs o) (is_ended ys o) both) quiet);
  group = second.group ∙ first.group;
}
