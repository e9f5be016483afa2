-- Only the kinds of the objects that a log touches count.
use mathlib.Core.Path.{fun_ext}
use Rattle.std.proofs.Common.{◌≡◌, ℕ, suc, List, [], ◌∷◌, Bool, true, false, cond, eqb, refl, ◌∙◌, ap}
use Rattle.std.specs.Prelude.{◌||◌, ◌-◌, Some, slice_get}
use Rattle.std.specs.List.{list_any}
use Rattle.std.proofs.lemmas.Bool.{eq-eqb, or_left, or_right}
use Rattle.vk_types.specs.declared.handles.Kind.{Kind}
use Rattle.vk_types.specs.declared.ops.Op.{Op}
use Rattle.vk_types.specs.declared.ops.Op.TheVariants.{CopyBuffer, BufferToImage, ImageToBuffer, CopyImage, BlitImage, ClearImage, FillBuffer, PassPart}
use Rattle.vk_types.specs.declared.ops.Node.{Node}
use Rattle.vk_types.specs.Touches.{op_touches, buffer_texel}
use Rattle.vk_model.specs.Cells.{Contents, buffer_to_image, image_to_buffer, copy_image, clear_image, blit_image, pass_part, op_cell}
use Rattle.vk_model.specs.Log.{Item, Command, HostWrite, Wait, Signal, touches_object}
use Rattle.vk_model.specs.Meaning.{nothing, found, is_written, item_cell, apply, after_all, eval}

itself : (a : ℕ) (b : Bool) → (eqb a a || b) ≡ true
itself a b = or_left (eqb a a) b (eq-eqb a a refl)

second : (a b : ℕ) → (eqb a b || (eqb b b || false)) ≡ true
second a b = or_right (eqb a b) (eqb b b || false) (itself b false)

module _ (kinds kinds' : ℕ → Kind) where
  op_same : (o : Op) → ((id : ℕ) → list_any (λ t. eqb t.id.0 id) (op_touches o) ≡ true → kinds id ≡ kinds' id) → (c : Contents) (id i : ℕ) → op_cell kinds o c id i ≡ op_cell kinds' o c id i
  op_same (CopyBuffer src src_at dst dst_at size) same c id i = refl
  op_same (BufferToImage src src_at stride size dst rect) same c id i = ap (λ k. buffer_to_image k (c src.0) src_at stride size rect i (c id i)) (same dst.0 (second src.0 dst.0))
  op_same (ImageToBuffer src rect dst dst_at stride size expand) same c id i = ap (λ k. image_to_buffer k (c src.0) rect stride (buffer_texel size expand) expand (i - dst_at) (c id i)) (same src.0 (itself src.0 (eqb dst.0 src.0 || false)))
  op_same (CopyImage src src_x src_y dst rect) same c id i =
      ap (λ k. copy_image k (kinds dst.0) (c src.0) src_x src_y rect i (c id i)) (same src.0 (itself src.0 (eqb dst.0 src.0 || false)))
      ∙ ap (λ k. copy_image (kinds' src.0) k (c src.0) src_x src_y rect i (c id i)) (same dst.0 (second src.0 dst.0))
  op_same (BlitImage src dst coords clip) same c id i =
      ap (λ k. blit_image k (kinds dst.0) (c src.0) coords clip i (c id i)) (same src.0 (itself src.0 (eqb dst.0 src.0 || false)))
      ∙ ap (λ k. blit_image (kinds' src.0) k (c src.0) coords clip i (c id i)) (same dst.0 (second src.0 dst.0))
  op_same (ClearImage image rect texel) same c id i = ap (λ k. clear_image k rect texel i (c id i)) (same image.0 (itself image.0 false))
  op_same (FillBuffer dst dst_at size byte) same c id i = refl
  op_same (PassPart pass point image load' keep clears) same c id i = ap (λ k. pass_part k load' keep clears i (c id i)) (same image.0 (itself image.0 false))
  op_same (Op.Barrier b) same c id i = refl

  item_same : (x : Item) → ((q : ℕ) (n : Node) (id : ℕ) → x ≡ Command q n → touches_object n id ≡ true → kinds id ≡ kinds' id) → (c : Contents) (id i : ℕ) → item_cell kinds x c id i ≡ item_cell kinds' x c id i
  item_same (Command q n) same c id i = op_same n.op (λ id t. same q n id refl t) c id i
  item_same (HostWrite at start bytes) same c id i = refl
  item_same (Wait q n) same c id i = refl
  item_same (Signal q n) same c id i = refl

  all_same : (log : List Item) → ((k q : ℕ) (n : Node) (id : ℕ) → slice_get log k ≡ Some (Command q n) → touches_object n id ≡ true → kinds id ≡ kinds' id) → (c : Contents) → after_all kinds log c ≡ after_all kinds' log c
  all_same [] same c = refl
  all_same (x ∷ log) same c =
      ap (after_all kinds log) (fun_ext (λ id. fun_ext (λ i. ap (λ v. cond (is_written x id i) v (c id i)) (item_same x (λ q n id e. same 0 q n id (ap Some e)) (found x c) id i))))
      ∙ all_same log (λ k q n id at. same (suc k) q n id at) (apply kinds' x c)

pub apply_same_kinds : (kinds kinds' : ℕ → Kind) (x : Item) → ((q : ℕ) (n : Node) (id : ℕ) → x ≡ Command q n → touches_object n id ≡ true → kinds id ≡ kinds' id) → (c : Contents) → apply kinds x c ≡ apply kinds' x c
apply_same_kinds kinds kinds' x same c = fun_ext (λ id. fun_ext (λ i. ap (λ v. cond (is_written x id i) v (c id i)) (item_same kinds kinds' x same (found x c) id i)))

pub eval_same_kinds : (kinds kinds' : ℕ → Kind) (log : List Item) → ((k q : ℕ) (n : Node) (id : ℕ) → slice_get log k ≡ Some (Command q n) → touches_object n id ≡ true → kinds id ≡ kinds' id) → eval kinds log ≡ eval kinds' log
eval_same_kinds kinds kinds' log same = all_same kinds kinds' log same nothing
