-- What an object shows depends on its own handles alone.
use mathlib.Core.Path.{fun_ext}
use Rattle.std.proofs.Common.{◌≡◌, ◌≢◌, ℕ, suc, List, [], ◌∷◌, true, false, refl, sym, ◌∙◌, ap, subst, inl, inr}
use Rattle.std.specs.Prelude.{◌⊎◌, Option, Some, None, IfSome, slice_get}
use Rattle.std.specs.Option.{option_map}
use Rattle.std.proofs.lemmas.Bool.{false≢true, or_cases, false_from_ne_true}
use Rattle.vk_types.specs.declared.handles.Kind.{Kind}
use Rattle.vk_types.specs.declared.ops.Node.{Node}
use Rattle.vk_model.specs.Cells.{Contents}
use Rattle.vk_model.specs.Log.{commands, touches_object}
use Rattle.vk_model.specs.Meaning.{after_all}
use Rattle.back_core.specs.Link.{Link, kinds_of}
use Rattle.front_model.specs.declared.object.Object.{Object}
use Rattle.front_model.specs.Face.{Waiting, Stored, Face, put_object, recorded, waits, content_in, view, nodes_touch}
use Rattle.front_model.specs.Stands.{Owner, Store, Staging, InHand, StagingStands, WaitingStands, StoredStands, Hands, Holds}
use Rattle.front_model.specs.Steps.{noted_store, with_object}
use Rattle.front_model.proofs.Base.{cases_object, put_object-same, put_object-other}
use Rattle.front_model.proofs.Contents.{AlikeOn, nodes_alike}
use Rattle.front_model.proofs.Updates.{nodes_of, update_touches, Updates}

-- one of the waiting nodes touches the handle
pub record Touching (ws : List Waiting) (id : ℕ) : Type 0 where
  pub place : ℕ
  pub waiting : Waiting
  pub at : slice_get ws place ≡ Some waiting
  pub touches : touches_object waiting.node id ≡ true

pub touching : (ws : List Waiting) (id : ℕ) → nodes_touch (nodes_of ws) id ≡ true → Touching ws id
touching [] id e = absurd (false≢true e)
touching (w ∷ ws) id e = go (or_cases (touches_object w.node id) (nodes_touch (nodes_of ws) id) e) (touching ws id)
  where
    go : (touches_object w.node id ≡ true) ⊎ (nodes_touch (nodes_of ws) id ≡ true) → (nodes_touch (nodes_of ws) id ≡ true → Touching ws id) → Touching (w ∷ ws) id
    go (inl t) more = record { place = 0; waiting = w; at = refl; touches = t }
    go (inr t) more = let r = more t in record { place = suc r.place; waiting = r.waiting; at = r.at; touches = r.touches }

pub none_touching : (ws : List Waiting) (id : ℕ) → ((place : ℕ) (w : Waiting) → slice_get ws place ≡ Some w → touches_object w.node id ≡ false) → nodes_touch (nodes_of ws) id ≡ false
none_touching ws id each = false_from_ne_true (nodes_touch (nodes_of ws) id) (λ e. let t : Touching ws id = touching ws id e in false≢true (sym (each t.place t.waiting t.at) ∙ t.touches))

-- the handle is the object's
abbrev pub IsOf : Object → Owner → Type 0
IsOf o (Store q) = o ≡ q
IsOf o (Staging q place) = o ≡ q
IsOf o InHand = ⊥

module _ (f : Face) (s : Link) (owner : ℕ → Owner) (o : Object) (b : Stored) (stands : StoredStands f s owner o b) where
  pub store_of : IsOf o (owner b.handle)
  store_of = subst (IsOf o) (sym stands.owned) refl

  staging_of : (place : ℕ) (w : Waiting) → slice_get b.waiting place ≡ Some w → (id : ℕ) → w.staging ≡ Some id → owner id ≡ Staging o place
  staging_of place w at id is = let st : StagingStands f s owner o place id = subst (λ v. IfSome v (StagingStands f s owner o place)) is (stands.waiting place w at).staging in st.owned

  -- what waits touches the object's handles alone
  pub waits_of : (id : ℕ) → nodes_touch (waits b) id ≡ true → IsOf o (owner id)
  waits_of id e =
      let t : Touching b.waiting id = touching b.waiting id e in
      let w : WaitingStands f s owner o b.handle t.place t.waiting = stands.waiting t.place t.waiting t.at in
      elim (update_touches t.waiting b.handle id w.update t.touches) [
        | inl same ↦ subst (λ i. IsOf o (owner i)) same store_of
        | inr is ↦ subst (IsOf o) (sym (staging_of t.place t.waiting t.at id is)) refl
      ]

  -- what waits are updates from staging buffers that are not the store
  pub updates_of : (place : ℕ) (w : Waiting) → slice_get b.waiting place ≡ Some w → Updates b.handle w
  updates_of place w at = record {
    update = (stands.waiting place w at).update;
    other = λ id is e. let k : Store o ≡ Staging o place = sym stands.owned ∙ (ap owner (sym e) ∙ staging_of place w at id is) in let no_way : ⊥ = cc in no_way;
  }

  pub content_alike : (kinds : ℕ → Kind) (c d : Contents) → AlikeOn (λ id. IsOf o (owner id)) c d → content_in kinds c (Some b) ≡ content_in kinds d (Some b)
  content_alike kinds c d alike = nodes_alike kinds (waits b) (λ id. IsOf o (owner id)) c d waits_of alike b.handle store_of

-- contents that are alike on the handles of an object show the same in it
pub shown_alike : (f : Face) (hands : Hands) (s : Link) (h : Holds f hands s) (kinds : ℕ → Kind) (c d : Contents) (o : Object) → AlikeOn (λ id. IsOf o (h.owner id)) c d → content_in kinds c (f.objects o) ≡ content_in kinds d (f.objects o)
shown_alike f hands s h kinds c d o alike = go (f.objects o) refl
  where
    go : (v : Option Stored) → f.objects o ≡ v → content_in kinds c v ≡ content_in kinds d v
    go None at = refl
    go (Some b) at = content_alike f s h.owner o b (h.objects o b at) kinds c d alike

-- a handle in hand is no object's, and a store is no other object's
pub in_hand_apart : (owner : ℕ → Owner) (o : Object) (id : ℕ) → owner id ≡ InHand → IsOf o (owner id) → ⊥
in_hand_apart owner o id is own = subst (IsOf o) is own

pub store_apart : (owner : ℕ → Owner) (o q : Object) (id : ℕ) → owner id ≡ Store q → o ≢ q → IsOf o (owner id) → ⊥
store_apart owner o q id is other own = other (subst (IsOf o) is own)

-- contents that are alike but for a handle of no account show the same
pub shown_but : (f : Face) (hands : Hands) (s : Link) (h : Holds f hands s) (kinds : ℕ → Kind) (c d : Contents) (o : Object) (id : ℕ) → (IsOf o (h.owner id) → ⊥) → AlikeOn (λ j. j ≢ id) c d → content_in kinds c (f.objects o) ≡ content_in kinds d (f.objects o)
shown_but f hands s h kinds c d o id apart alike = shown_alike f hands s h kinds c d o (λ j own. alike j (λ e. apart (subst (λ i. IsOf o (h.owner i)) e own)))

-- an object on which nothing waits shows what its store has
pub content_clear : (kinds : ℕ → Kind) (c : Contents) (b : Stored) → b.waiting ≡ [] → content_in kinds c (Some b) ≡ c b.handle
content_clear kinds c b clear = ap (λ (ws : List Waiting). after_all kinds (commands 0 (nodes_of ws)) c b.handle) clear

pub content_noted : (kinds : ℕ → Kind) (c : Contents) (index number : ℕ) (nodes : List Node) (v : Option Stored) → content_in kinds c (option_map (noted_store index number nodes) v) ≡ content_in kinds c v
content_noted kinds c index number nodes None = refl
content_noted kinds c index number nodes (Some b) = refl

-- another object in the place of one
pub content_put : (kinds : ℕ → Kind) (c : Contents) (objects : Object → Option Stored) (o : Object) (v : Option Stored) → (λ q. content_in kinds c (put_object objects o v q)) ≡ put_object (λ q. content_in kinds c (objects q)) o (content_in kinds c v)
content_put kinds c objects o v = fun_ext (λ q. go q (cases_object q o))
  where
    go : (q : Object) → (q ≡ o) ⊎ (q ≢ o) → content_in kinds c (put_object objects o v q) ≡ put_object (λ q. content_in kinds c (objects q)) o (content_in kinds c v) q
    go q (inl same) =
        ap (λ x. content_in kinds c (put_object objects o v x)) same
        ∙ ap (content_in kinds c) (put_object-same objects o v)
        ∙ sym (put_object-same (λ q. content_in kinds c (objects q)) o (content_in kinds c v))
        ∙ sym (ap (put_object (λ q. content_in kinds c (objects q)) o (content_in kinds c v)) same)
    go q (inr other) = ap (content_in kinds c) (put_object-other objects o v q other) ∙ sym (put_object-other (λ q. content_in kinds c (objects q)) o (content_in kinds c v) q other)

pub view_with : (f : Face) (s : Link) (o : Object) (v : Option Stored) → view (with_object f o v) s ≡ put_object (view f s) o (content_in (kinds_of s) (recorded f s) v)
view_with f s o v = content_put (kinds_of s) (recorded f s) f.objects o v
