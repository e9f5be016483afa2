-- What the load and the clears of an attachment leave.
use Rattle.std.proofs.Common.{◌≡◌, ℕ, ◌<◌, ◌≤◌, List, [], ◌∷◌, ◌++◌, Bool, true, false, refl, ◌∙◌, ap, arith}
use Rattle.std.specs.Prelude.{All, slice_index, nat_lt}
use Rattle.std.proofs.lemmas.Bool.{or_left, lt-ltb, le-ltb, cond-true, cond-false}
use Rattle.std.proofs.lemmas.List.Elements.{All-head, All-tail}
use Rattle.vk_types.specs.declared.handles.Kind.{Kind}
use Rattle.vk_types.specs.declared.handles.HandleId.{HandleId}
use Rattle.vk_types.specs.declared.regions.Clear.{Clear}
use Rattle.vk_types.specs.declared.ops.Load.{Load}
use Rattle.vk_types.specs.declared.ops.Load.TheVariants.{DontCare}
use Rattle.vk_types.specs.declared.ops.Op.TheVariants.{PassPart}
use Rattle.vk_types.specs.Touches.{the_end}
use Rattle.cells.specs.Contents.{UNDEFINED}
use Rattle.vk_model.specs.Fitting.{size_of}
use Rattle.vk_model.specs.Cells.{Contents, place, byte_at, clear_image, cleared, loaded}
use Rattle.vk_model.specs.Log.{Item, Command, Range}
use Rattle.vk_model.specs.Meaning.{apply, covers, found, is_written, LiesIn}
use Rattle.vk_model.proofs.Local.{after_written}
use Rattle.vk_model.proofs.Copies.{covered_from}
use Rattle.vk_model.proofs.Images.{in_rect_inside, byte_of_place}
use Rattle.vk_effects.specs.Places.{IsOutside}
use Rattle.vk_effects.proofs.Outside.{outside_a_rect}
use Rattle.vk_effects.proofs.Unwritten.{unchanged}

-- Clears

cleared_outside : (kind : Kind) (clears : List Clear) (i old : ℕ) → All (λ clear. IsOutside kind clear.rect i) clears → cleared kind clears i old ≡ old
cleared_outside kind [] i old all = refl
cleared_outside kind (clear ∷ clears) i old all =
    ap (cleared kind clears i) (outside_a_rect kind clear.rect i (λ _ _. slice_index clear.texel (byte_at kind i)) old (All-head (λ clear. IsOutside kind clear.rect i) clear clears all))
    ∙ cleared_outside kind clears i old (All-tail (λ clear. IsOutside kind clear.rect i) clear clears all)

cleared_in_turn : (kind : Kind) (before : List Clear) (clear : Clear) (after : List Clear) (i old : ℕ) → cleared kind (before ++ clear ∷ after) i old ≡ cleared kind after i (clear_image kind clear.rect clear.texel i (cleared kind before i old))
cleared_in_turn kind [] clear after i old = refl
cleared_in_turn kind (first ∷ before) clear after i old = cleared_in_turn kind before clear after i (clear_image kind first.rect first.texel i old)

clear_at : (kind : Kind) (clear : Clear) (x y byte left top old : ℕ) → LiesIn kind clear.rect x y byte left top → clear_image kind clear.rect clear.texel (place kind x y byte) old ≡ slice_index clear.texel byte
clear_at kind clear x y byte left top old lies =
    in_rect_inside kind clear.rect lies.corner_x lies.corner_y lies.x_is lies.y_is x y byte lies.column lies.in_texel
    (λ _ _. slice_index clear.texel (byte_at kind (place kind x y byte))) old (omega arith) (omega arith) (omega arith) (omega arith)
    ∙ ap (slice_index clear.texel) (byte_of_place kind x y byte lies.in_texel)

-- Parts of passes

module _ (kinds : ℕ → Kind) (q pass point : ℕ) (image : HandleId) where
  abbrev written_part : Load → Bool → List Clear → Item
  written_part load' keep clears = Command q (record { op = PassPart pass point image load' keep clears })

  part_writes : (load' : Load) (keep : Bool) (clears : List Clear) (i : ℕ) → i < the_end → is_written (written_part load' keep clears) image.0 i ≡ true
  part_writes _ keep clears i below =
      let whole : Range = record { id = image.0; start = 0; end = the_end; written = true } in
      or_left (covers image.0 i whole) false (covered_from image.0 i whole refl (omega arith) below)

  pub last_clear : (load' : Load) (before after : List Clear) (clear : Clear) (c : Contents) (x y byte left top : ℕ) → LiesIn (kinds image.0) clear.rect x y byte left top → All (λ later. IsOutside (kinds image.0) later.rect (place (kinds image.0) x y byte)) after →
      apply kinds (written_part load' true (before ++ clear ∷ after)) c image.0 (place (kinds image.0) x y byte) ≡ slice_index clear.texel byte
  last_clear load' before after clear c x y byte left top lies later =
      let kind : Kind = kinds image.0 in
      let at : ℕ = place kind x y byte in
      let item : Item = written_part load' true (before ++ clear ∷ after) in
      let start : ℕ = loaded kind load' at (found item c image.0 at) in
      after_written kinds item c image.0 at (part_writes load' true (before ++ clear ∷ after) at lies.in_image)
      ∙ cleared_in_turn kind before clear after at start
      ∙ cleared_outside kind after at (clear_image kind clear.rect clear.texel at (cleared kind before at start)) later
      ∙ clear_at kind clear x y byte left top (cleared kind before at start) lies

  pub loaded_stays : (clears : List Clear) (c : Contents) (i : ℕ) → All (λ clear. IsOutside (kinds image.0) clear.rect i) clears → apply kinds (written_part Load.Load true clears) c image.0 i ≡ c image.0 i
  loaded_stays clears c i none = unchanged kinds (written_part Load.Load true clears) c image.0 i (λ f. cleared_outside (kinds image.0) clears i (f image.0 i) none)

  pub load_clears : (texel : List ℕ) (clears : List Clear) (c : Contents) (i : ℕ) → All (λ clear. IsOutside (kinds image.0) clear.rect i) clears → i < size_of (kinds image.0) → i < the_end →
      apply kinds (written_part (Load.Clear texel) true clears) c image.0 i ≡ slice_index texel (byte_at (kinds image.0) i)
  load_clears texel clears c i none inside below =
      let kind : Kind = kinds image.0 in
      let item : Item = written_part (Load.Clear texel) true clears in
      after_written kinds item c image.0 i (part_writes (Load.Clear texel) true clears i below)
      ∙ cleared_outside kind clears i (loaded kind (Load.Clear texel) i (found item c image.0 i)) none
      ∙ cond-true (nat_lt i (size_of kind)) (slice_index texel (byte_at kind i)) (found item c image.0 i) (lt-ltb i (size_of kind) inside)

  pub load_stays_past : (texel : List ℕ) (clears : List Clear) (c : Contents) (i : ℕ) → All (λ clear. IsOutside (kinds image.0) clear.rect i) clears → size_of (kinds image.0) ≤ i →
      apply kinds (written_part (Load.Clear texel) true clears) c image.0 i ≡ c image.0 i
  load_stays_past texel clears c i none past =
      let kind : Kind = kinds image.0 in
      unchanged kinds (written_part (Load.Clear texel) true clears) c image.0 i
      (λ f. cleared_outside kind clears i (loaded kind (Load.Clear texel) i (f image.0 i)) none
      ∙ cond-false (nat_lt i (size_of kind)) (slice_index texel (byte_at kind i)) (f image.0 i) (le-ltb i (size_of kind) past))

  pub not_loaded : (clears : List Clear) (c : Contents) (i : ℕ) → All (λ clear. IsOutside (kinds image.0) clear.rect i) clears → i < the_end → apply kinds (written_part DontCare true clears) c image.0 i ≡ UNDEFINED
  not_loaded clears c i none below =
      after_written kinds (written_part DontCare true clears) c image.0 i (part_writes DontCare true clears i below)
      ∙ cleared_outside (kinds image.0) clears i UNDEFINED none

  pub not_kept : (load' : Load) (clears : List Clear) (c : Contents) (i : ℕ) → i < the_end → apply kinds (written_part load' false clears) c image.0 i ≡ UNDEFINED
  not_kept load' clears c i below = after_written kinds (written_part load' false clears) c image.0 i (part_writes load' false clears i below)
