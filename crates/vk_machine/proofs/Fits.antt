-- Nodes that fit objects, and kinds of objects.
use Rattle.std.proofs.Common.{◌≡◌, ℕ, ◌==◌, ◌||◌, List, [], ◌∷◌, fold, Bool, true, false, cond, eqb, refl, sym, ◌∙◌, ap, subst, eq-eqb}
use Rattle.std.specs.Prelude.{Option, Some, None, All}
use Rattle.std.specs.List.{list_any}
use Rattle.std.proofs.lemmas.Bool.{or_left, or_right}
use Rattle.std.proofs.lemmas.Option.{same_Some}
use Rattle.vk_types.specs.declared.handles.Kind.{Kind}
use Rattle.vk_types.specs.declared.handles.Kind.TheVariants.{Buffer}
use Rattle.vk_types.specs.declared.ops.Op.{Op}
use Rattle.vk_types.specs.declared.ops.Op.TheVariants.{CopyBuffer, BufferToImage, ImageToBuffer, CopyImage, BlitImage, ClearImage, FillBuffer, PassPart}
use Rattle.vk_types.specs.declared.ops.Node.{Node}
use Rattle.vk_types.specs.Touches.{op_touches, rows_size, buffer_texel}
use Rattle.vk_model.specs.Fitting.{HasRange, HasRect, HasTexels, IsImage, format_in, LayoutsFit, OpFits, NodeFits}
use Rattle.vk_model.specs.Log.{touches_object}
use Rattle.vk_device.specs.declared.logged.Logged.{Logged}
use Rattle.vk_device.specs.declared.logged.Logged.TheVariants.{Created, Wrote, Submitted, Ran, Fetched, Destroyed}
use Rattle.vk_device.specs.Journal.{Objects, objects_after, kind_of}
use Rattle.vk_device.specs.Order.{kinds_after, kinds_of}

first : (a : ℕ) (b : Bool) → (eqb a a || b) ≡ true
first a b = or_left (eqb a a) b (eq-eqb a a refl)

second : (a b : ℕ) → (eqb a b || (eqb b b || false)) ≡ true
second a b = or_right (eqb a b) (eqb b b || false) (first b false)

module _ (old new : Objects) where
  abbrev SameAt : Op → Type 0
  SameAt o = (id : ℕ) → list_any (λ t. eqb t.id.0 id) (op_touches o) ≡ true → new id ≡ old id

  op_fits : (o : Op) → OpFits old o → SameAt o → OpFits new o
  op_fits (CopyBuffer src src_at dst dst_at size) fits same = (
    subst (λ o. HasRange o src_at size) (sym (same src.0 (first src.0 (eqb dst.0 src.0 || false)))) fits.0,
    subst (λ o. HasRange o dst_at size) (sym (same dst.0 (second src.0 dst.0))) fits.1,
    fits.2,
  )
  op_fits (BufferToImage src src_at stride texel_size dst rect) fits same = (
    subst (λ o. HasRange o src_at (rows_size rect stride texel_size)) (sym (same src.0 (first src.0 (eqb dst.0 src.0 || false)))) fits.0,
    subst (λ o. HasRect o rect) (sym (same dst.0 (second src.0 dst.0))) fits.1,
    subst (λ o. HasTexels o texel_size) (sym (same dst.0 (second src.0 dst.0))) fits.2,
  )
  op_fits (ImageToBuffer src rect dst dst_at stride texel_size expand) fits same = (
    subst (λ o. HasRect o rect) (sym (same src.0 (first src.0 (eqb dst.0 src.0 || false)))) fits.0,
    subst (λ o. HasTexels o texel_size) (sym (same src.0 (first src.0 (eqb dst.0 src.0 || false)))) fits.1,
    subst (λ o. HasRange o dst_at (rows_size rect stride (buffer_texel texel_size expand))) (sym (same dst.0 (second src.0 dst.0))) fits.2,
  )
  op_fits (CopyImage src src_x src_y dst rect) fits same = (
    subst (λ o. HasRect o (record { x = src_x; y = src_y; w = rect.w; h = rect.h })) (sym (same src.0 (first src.0 (eqb dst.0 src.0 || false)))) fits.0,
    subst (λ o. HasRect o rect) (sym (same dst.0 (second src.0 dst.0))) fits.1,
    ap format_in (same src.0 (first src.0 (eqb dst.0 src.0 || false))) ∙ fits.2 ∙ ap format_in (sym (same dst.0 (second src.0 dst.0))),
    fits.3,
  )
  op_fits (BlitImage src dst coords clip) fits same = (
    subst IsImage (sym (same src.0 (first src.0 (eqb dst.0 src.0 || false)))) fits.0,
    subst (λ o. HasRect o clip) (sym (same dst.0 (second src.0 dst.0))) fits.1,
    fits.2,
  )
  op_fits (ClearImage image rect texel) fits same = subst (λ o. HasRect o rect) (sym (same image.0 (first image.0 false))) fits
  op_fits (FillBuffer dst dst_at size byte) fits same = subst (λ o. HasRange o dst_at size) (sym (same dst.0 (first dst.0 false))) fits
  op_fits (PassPart _ _ image _ _ clears) fits same = (
    subst IsImage (sym (same image.0 (first image.0 false))) fits.0,
    subst (λ o. All (λ clear. HasRect o clear.rect) clears) (sym (same image.0 (first image.0 false))) fits.1,
  )
  op_fits (Op.Barrier b) fits same = subst (λ o. LayoutsFit o b.layouts) (sym (same b.id.0 (first b.id.0 false))) fits

  -- a node fits as long as what it touches stays
  pub fits_same : (n : Node) → NodeFits old n → ((id : ℕ) → touches_object n id ≡ true → new id ≡ old id) → NodeFits new n
  fits_same n fits same = op_fits n.op fits same

-- The kind of a live object is the one with which it was created.

abbrev Follow : Objects → (ℕ → Kind) → Type 0
Follow objects kinds = (i : ℕ) (k : Kind) → objects i ≡ Some k → kinds i ≡ k

created_kind : (b : Bool) (kind : Kind) (o : Option Kind) (other k : Kind) → (o ≡ Some k → other ≡ k) → cond b (Some kind) o ≡ Some k → cond b kind other ≡ k
created_kind true kind o other k old is = same_Some kind k is
created_kind false kind o other k old is = old is

destroyed_kind : (b : Bool) (o : Option Kind) (k : Kind) → cond b None o ≡ Some k → o ≡ Some k
destroyed_kind true o k is = let no : ◌≡◌ {A = Option Kind} None (Some k) = is in absurd (cc)
destroyed_kind false o k is = is

follow_entry : (objects : Objects) (kinds : ℕ → Kind) (entry : Logged) → Follow objects kinds → Follow (objects_after objects entry) (kinds_after kinds entry)
follow_entry objects kinds (Created id kind) follow i k is = created_kind (i == id.0) kind (objects i) (kinds i) k (follow i k) is
follow_entry objects kinds (Destroyed id) follow i k is = follow i k (destroyed_kind (i == id.0) (objects i) k is)
follow_entry objects kinds (Wrote id at bytes) follow i k is = follow i k is
follow_entry objects kinds (Submitted batch) follow i k is = follow i k is
follow_entry objects kinds (Ran batch node) follow i k is = follow i k is
follow_entry objects kinds (Fetched id at bytes) follow i k is = follow i k is

follow_all : (objects : Objects) (kinds : ℕ → Kind) (journal : List Logged) → Follow objects kinds → Follow (fold objects_after objects journal) (fold kinds_after kinds journal)
follow_all objects kinds [] follow = follow
follow_all objects kinds (e ∷ journal) follow = follow_all (objects_after objects e) (kinds_after kinds e) journal (follow_entry objects kinds e follow)

pub live_kind : (journal : List Logged) (i : ℕ) (k : Kind) → kind_of journal i ≡ Some k → kinds_of journal i ≡ k
unfolding kind_of kinds_of
live_kind journal i k is = follow_all (λ _. None) (λ _. Buffer 0) journal (λ i k is. let no : ◌≡◌ {A = Option Kind} None (Some k) = is in absurd (cc)) i k is
