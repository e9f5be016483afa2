-- Nodes fit the objects that they touch, whatever the others are.
use Rattle.std.proofs.Common.{◌≡◌, ℕ, ◌==◌, true, List, [], ◌∷◌, ◌++◌, length, get_or, refl, sym, ap, ◌∙◌, subst, inl, inr}
use Rattle.std.specs.Prelude.{◌/◌, ◌⊎◌, Some, Option, All, slice_get}
use Rattle.std.proofs.lemmas.Bool.{eq-eqb}
use Rattle.std.proofs.lemmas.Option.{none-some, slice_get-get_or}
use Rattle.vk_types.specs.declared.handles.Kind.{Kind}
use Rattle.vk_types.specs.declared.ops.Op.{Op}
use Rattle.vk_types.specs.declared.ops.Op.TheVariants.{CopyBuffer, BufferToImage, ImageToBuffer, CopyImage, BlitImage, ClearImage, FillBuffer, PassPart}
use Rattle.vk_types.specs.declared.ops.Node.{Node}
use Rattle.vk_types.specs.declared.batches.Batch.{Batch}
use Rattle.vk_types.specs.declared.regions.Rect.{Rect}
use Rattle.vk_types.specs.Touches.{op_touches, rows_size, buffer_texel}
use Rattle.vk_model.specs.Log.{touches_object}
use Rattle.vk_model.specs.Fitting.{HasRange, HasRect, HasTexels, IsImage, format_in, LayoutsFit, OpFits, NodeFits}
use Rattle.back_core.specs.declared.back_event.BackEvent.{BackEvent}
use Rattle.back_core.specs.declared.back_event.BackEvent.TheVariants.{Created, Wrote, Enqueued, Submitted, Ran, Retired, Fetched, Gave, Abandoned, Cleaned, Closing, Stopped}
use Rattle.back_core.specs.Own.{batch_touches}
use Rattle.back_core.specs.History.{own_part}
use Rattle.back_core.specs.Run.{MayHappen, IsRun}
use Rattle.back_core.proofs.Runs.{of_each_run}
use Rattle.back_core.proofs.Lists.{get_then}
use Rattle.back_core.proofs.Parts.{pushed, pushed_in, pushed_then, pushed_same, either}
use Rattle.back_core.proofs.Made.{IsMade}
use Rattle.back_core.proofs.Known.{kind_stays, touches_own}
use Rattle.back_core.proofs.Alone.{any_of}
use Rattle.back_core.specs.Link.{enqueued, Link}
use Rattle.back_core.proofs.Sees.{part_then}
use Rattle.vk_types.specs.declared.regions.Touch.{Touch}

module _ (kinds kinds' : ℕ → Option Kind) where
  abbrev Same : ℕ → Type 0
  Same id = kinds id ≡ kinds' id

  range : (id at size : ℕ) → Same id → HasRange (kinds id) at size → HasRange (kinds' id) at size
  range id at size same = subst (λ o. HasRange o at size) same

  rect : (id : ℕ) (r : Rect) → Same id → HasRect (kinds id) r → HasRect (kinds' id) r
  rect id r same = subst (λ o. HasRect o r) same

  texels : (id size : ℕ) → Same id → HasTexels (kinds id) size → HasTexels (kinds' id) size
  texels id size same = subst (λ o. HasTexels o size) same

  image : (id : ℕ) → Same id → IsImage (kinds id) → IsImage (kinds' id)
  image id same = subst IsImage same

  -- an operation that touches objects of the same kinds fits them too
  op_fits : (o : Op) → ((t : Touch) → (k : ℕ) → slice_get (op_touches o) k ≡ Some t → Same t.id.0) → OpFits kinds o → OpFits kinds' o
  op_fits (CopyBuffer src src_at dst dst_at size) same fits = (range src.0 src_at size (same _ 0 refl) fits.0, range dst.0 dst_at size (same _ 1 refl) fits.1, fits.2)
  op_fits (BufferToImage src src_at stride texel_size dst r) same fits =
      (range src.0 src_at (rows_size r stride texel_size) (same _ 0 refl) fits.0, rect dst.0 r (same _ 1 refl) fits.1, texels dst.0 texel_size (same _ 1 refl) fits.2)
  op_fits (ImageToBuffer src r dst dst_at stride texel_size expand) same fits =
      (rect src.0 r (same _ 0 refl) fits.0, texels src.0 texel_size (same _ 0 refl) fits.1, range dst.0 dst_at (rows_size r stride (buffer_texel texel_size expand)) (same _ 1 refl) fits.2)
  op_fits (CopyImage src src_x src_y dst r) same fits = (
    rect src.0 (record { x = src_x; y = src_y; w = r.w; h = r.h }) (same _ 0 refl) fits.0,
    rect dst.0 r (same _ 1 refl) fits.1,
    ap format_in (sym (same _ 0 refl)) ∙ fits.2 ∙ ap format_in (same _ 1 refl),
    fits.3,
  )
  op_fits (BlitImage src dst coords clip) same fits = (image src.0 (same _ 0 refl) fits.0, rect dst.0 clip (same _ 1 refl) fits.1, fits.2)
  op_fits (ClearImage id r texel) same fits = rect id.0 r (same _ 0 refl) fits
  op_fits (FillBuffer dst dst_at size byte) same fits = range dst.0 dst_at size (same _ 0 refl) fits
  op_fits (PassPart a b id c d clears) same fits = (image id.0 (same _ 0 refl) fits.0, λ k e lt. rect id.0 _ (same _ 0 refl) (fits.1 k e lt))
  op_fits (Op.Barrier b) same fits = subst (λ (o : Option Kind). LayoutsFit o b.layouts) (same _ 0 refl) fits

  pub node_fits : (n : Node) → ((id : ℕ) → touches_object n id ≡ true → kinds id ≡ kinds' id) → NodeFits kinds n → NodeFits kinds' n
  node_fits n same fits = op_fits n.op (λ t k at. same t.id.0 (any_of (λ u. u.id.0 == t.id.0) (op_touches n.op) k t at (eq-eqb t.id.0 t.id.0 refl))) fits

  pub batch_fits : (b : Batch) → ((id : ℕ) → batch_touches b id ≡ true → kinds id ≡ kinds' id) → All (NodeFits kinds) b.nodes → All (NodeFits kinds') b.nodes
  batch_fits b same fits k d lt =
      node_fits (get_or b.nodes k d) (λ id touched. same id (any_of (λ n. touches_object n id) b.nodes k (get_or b.nodes k d) (slice_get-get_or b.nodes k d lt) touched)) (fits k d lt)

-- the nodes of each batch fit the objects of its group
abbrev AllFit : List BackEvent → Type 0
AllFit h = (k : ℕ) (b : Batch) → slice_get (pushed h) k ≡ Some b → All (NodeFits (own_part h (b.index / 8)).kinds) b.nodes

pub all_fit : (h : List BackEvent) → IsRun h → AllFit h
all_fit = of_each_run AllFit (λ k b at. absurd (none-some b at)) step
  where
    -- kinds stay
    old : (h : List BackEvent) (e : BackEvent) → IsRun h → MayHappen h e → (b : Batch) → ((i : ℕ) → batch_touches b i ≡ true → IsMade (own_part h (b.index / 8)) i)
        → All (NodeFits (own_part h (b.index / 8)).kinds) b.nodes → All (NodeFits (own_part (h ++ e ∷ []) (b.index / 8)).kinds) b.nodes
    old h e run may b made fits = batch_fits (own_part h (b.index / 8)).kinds (own_part (h ++ e ∷ []) (b.index / 8)).kinds b
        (λ i touched. let is = made i touched in is.1 ∙ sym (kind_stays h run (b.index / 8) i is.0 is.1 e may)) fits

    same : (h : List BackEvent) (e : BackEvent) → IsRun h → MayHappen h e → pushed_in e ≡ [] → AllFit h → AllFit (h ++ e ∷ [])
    same h e run may none so_far k b at =
        let there : slice_get (pushed h) k ≡ Some b = subst (λ l. slice_get l k ≡ Some b) (pushed_same h e none) at in
        old h e run may b (λ i touched. touches_own h run k i b there touched) (so_far k b there)

    step : (h : List BackEvent) (e : BackEvent) → IsRun h → MayHappen h e → AllFit h → AllFit (h ++ e ∷ [])
    step h (Created group id kind) run may so_far = same h (Created group id kind) run may refl so_far
    step h (Wrote group id at bytes) run may so_far = same h (Wrote group id at bytes) run may refl so_far
    step h (Enqueued c) run may so_far = λ k b at. go k b at (get_then (pushed h) c k b (subst (λ l. slice_get l k ≡ Some b) (pushed_then h (Enqueued c)) at))
      where
        kinds_stay : (g : ℕ) → (own_part (h ++ Enqueued c ∷ []) g).kinds ≡ (own_part h g).kinds
        kinds_stay g = ap (λ (l : Link). l.kinds) (part_then h g (Enqueued c))
            ∙ either (λ l. l.kinds ≡ (own_part h g).kinds) h g (c.index / 8) (enqueued (own_part h g) c) (λ e. refl) (λ d. refl)

        go : (k : ℕ) (b : Batch) → slice_get (pushed (h ++ Enqueued c ∷ [])) k ≡ Some b → (slice_get (pushed h) k ≡ Some b) ⊎ ((k ≡ length (pushed h)) × (b ≡ c)) → All (NodeFits (own_part (h ++ Enqueued c ∷ []) (b.index / 8)).kinds) b.nodes
        go k b at (inl there) = old h (Enqueued c) run may b (λ i touched. touches_own h run k i b there touched) (so_far k b there)
        go k b at (inr new) =
            subst (λ ks. All (NodeFits ks) b.nodes) (sym (kinds_stay (b.index / 8)))
            (subst (λ (x : Batch). All (NodeFits (own_part h (x.index / 8)).kinds) x.nodes) (sym new.1) may.1.fits)
    step h Submitted run may so_far = same h Submitted run may refl so_far
    step h (Ran batch node) run may so_far = same h (Ran batch node) run may refl so_far
    step h (Retired serial) run may so_far = same h (Retired serial) run may refl so_far
    step h (Fetched group id at bytes) run may so_far = same h (Fetched group id at bytes) run may refl so_far
    step h (Gave group id uses) run may so_far = same h (Gave group id uses) run may refl so_far
    step h (Abandoned group id) run may so_far = same h (Abandoned group id) run may refl so_far
    step h (Cleaned read destroyed) run may so_far = same h (Cleaned read destroyed) run may refl so_far
    step h Closing run may so_far = same h Closing run may refl so_far
    step h (Stopped stop) run may so_far = same h (Stopped stop) run may refl so_far
