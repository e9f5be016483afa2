-- What it comes to that what touches a buffer was flushed and waited for.
use Rattle.std.proofs.Common.{◌≡◌, ◌≢◌, ℕ, List, [], ◌∷◌, ◌++◌, map, refl, sym, ap, subst, ◌∙◌, inl, inr, false}
use Rattle.std.specs.Prelude.{◌⊎◌, Option, Some, None}
use Rattle.std.specs.Option.{option_map}
use Rattle.std.proofs.lemmas.Bool.{cases_eq}
use Rattle.vk_types.specs.declared.handles.HandleId.{HandleId}
use Rattle.vk_types.specs.declared.handles.Kind.TheVariants as kind
use Rattle.vk_types.specs.declared.ops.Node.{Node}
use Rattle.vk_model.specs.Log.{Item, commands}
use Rattle.back_core.specs.Own.{log_of, IsReadable}
use Rattle.back_core.specs.Link.{Link}
use Rattle.front_model.specs.declared.object.Object.{Object}
use Rattle.front_model.specs.declared.object.Object.TheVariants.{Buffer}
use Rattle.front_model.specs.Face.{Stored, Outline, Part, part_of, Face, outline, outline_at, view, nodes_touch}
use Rattle.front_model.specs.Stands.{Moved, IsQuiet}
use Rattle.front_model.proofs.Base.{put_at, put-other, cases_object}
use Rattle.front_moves.proofs.Sharing.{untouched}
use Rattle.front_moves.specs.Core.{OnlyFlushed, IsApart, IsParted, IsUntouched, IsOpen, HasBytes, IsQuietBut}

-- what is shown and quiet is as before
abbrev pub KeepsAll : Face → Face → Link → Link → Type 0
KeepsAll f g s t = Moved g t (view f s) (outline_at f) (IsQuiet f s)

-- the index was flushed where it touched the object, and nothing else that is pending touched that
pub untouched_after : (f g : Face) (index : ℕ) (object : Object) → OnlyFlushed f g → IsApart false g index object → IsParted false f index object → IsUntouched g object
untouched_after f g index object flushed apart parted i x is = go (cases_eq i index)
  where
    was : f.objects object ≡ Some x
    was = ap (λ os. os object) (sym flushed.objects) ∙ is

    kept : i ≢ index → (g.pending i ≡ f.pending i) ⊎ (g.pending i ≡ []) → nodes_touch (g.pending i) x.handle ≡ false
    kept other (inl same) = ap (λ nodes. nodes_touch nodes x.handle) same ∙ untouched (f.pending i) x (parted i other x was)
    kept other (inr none) = ap (λ nodes. nodes_touch nodes x.handle) none

    go : (i ≡ index) ⊎ (i ≢ index) → nodes_touch (g.pending i) x.handle ≡ false
    go (inl same) = ap (λ j. nodes_touch (g.pending j) x.handle) same ∙ untouched (g.pending index) x (apart x is)
    go (inr other) = kept other (flushed.pending i)

-- what is told of the object's tracker is told still
pub open_after : (f g : Face) (object : Object) → OnlyFlushed f g → IsOpen f object → IsOpen g object
open_after f g object flushed is_open x is = is_open x (ap (λ os. os object) (sym flushed.objects) ∙ is)

unmapped : {A B : Type 0} (f : A → B) (xs : List A) → map f xs ≡ [] → xs ≡ []
unmapped f [] e = refl
unmapped f (x ∷ xs) e = absurd cc

abbrev waiting_in : Option Outline → List Part
waiting_in (Some o) = o.waiting
waiting_in None = []

-- a buffer that has a store
pub store_of : (f : Face) (b len : ℕ) → HasBytes f b len → (x : Stored) × (f.objects (Buffer b) ≡ Some x) × (x.waiting ≡ [])
store_of f b len has = go (f.objects (Buffer b)) refl has
  where
    go : (o : Option Stored) → f.objects (Buffer b) ≡ o → option_map outline o ≡ Some (record { kind = kind.Buffer len; waiting = [] }) →
        (x : Stored) × (f.objects (Buffer b) ≡ Some x) × (x.waiting ≡ [])
    go (Some x) is has = (x, is, unmapped (λ w. part_of w.node.op) x.waiting (ap waiting_in has))
    go None is has = absurd cc

-- the four moves one after another
pub settled : (f g h k : Face) (s t u v : Link) (b : ℕ) → KeepsAll f g s t → Moved h t (view g t) (outline_at g) (IsQuietBut g t (Buffer b)) → KeepsAll h k t u → KeepsAll k k u v →
    IsQuiet k v (Buffer b) → KeepsAll f k s v
settled f g h k s t u v b first second third fourth quiet = record {
  holds = fourth.holds;
  view_is = fourth.view_is ∙ third.view_is ∙ second.view_is ∙ first.view_is;
  outlines_are = third.outlines_are ∙ second.outlines_are ∙ first.outlines_are;
  still = λ o q. go o q (cases_object o (Buffer b));
}
  where
    go : (o : Object) → IsQuiet f s o → (o ≡ Buffer b) ⊎ (o ≢ Buffer b) → IsQuiet k v o
    go o q (inl same) = subst (IsQuiet k v) (sym same) quiet
    go o q (inr other) = fourth.still o (third.still o (second.still o (first.still o q, other)))
