-- Places that a node does not write, or where it writes what it finds.
use Rattle.std.proofs.Common.{◌≡◌, ℕ, ◌≤◌, true, false, eqb, refl, ◌∙◌, arith, inl, inr}
use Rattle.std.specs.Prelude.{◌⊎◌, ◌&&◌, ◌||◌, nat_lt, nat_le, min}
use Rattle.std.proofs.lemmas.Bool.{cases_Bool, ne_eqb, le-ltb, and_left, and_right, or_from}
use Rattle.vk_types.specs.declared.handles.Kind.{Kind}
use Rattle.vk_types.specs.declared.ops.Op.{Op}
use Rattle.vk_types.specs.declared.ops.Op.TheVariants.{CopyBuffer, BufferToImage, ImageToBuffer, CopyImage, BlitImage, ClearImage, FillBuffer, PassPart}
use Rattle.vk_types.specs.declared.ops.Node.{Node}
use Rattle.vk_types.specs.Touches.{the_end}
use Rattle.vk_model.specs.Cells.{Contents}
use Rattle.vk_model.specs.Log.{Item, Command}
use Rattle.vk_model.specs.Meaning.{is_written, found, apply, item_cell}
use Rattle.vk_model.proofs.Local.{after_written, after_unwritten, touched_from_written}
use Rattle.vk_model.proofs.Copies.{found_at}
use Rattle.vk_effects.specs.Targets.{target}

-- One range of an object

pub other_range : (object start end id i : ℕ) → (object ≡ id → ⊥) → (((eqb object id && nat_le start i) && nat_lt i end) || false) ≡ false
other_range object start end id i other =
    or_from ((eqb object id && nat_le start i) && nat_lt i end) false
    (and_left (eqb object id && nat_le start i) (nat_lt i end) (and_left (eqb object id) (nat_le start i) (ne_eqb object id other)))
    refl

pub past_range : (object start end id i : ℕ) → end ≤ i → (((eqb object id && nat_le start i) && nat_lt i end) || false) ≡ false
past_range object start end id i past =
    or_from ((eqb object id && nat_le start i) && nat_lt i end) false
    (and_right (eqb object id && nat_le start i) (nat_lt i end) (le-ltb i end past))
    refl

-- All operations

unwritten_of_others : (op : Op) (q id i : ℕ) → ((target op).0 ≡ id → ⊥) → is_written (Command q (record { op = op })) id i ≡ false
unwritten_of_others (CopyBuffer src src_at dst dst_at size) q id i other = other_range dst.0 _ _ id i other
unwritten_of_others (BufferToImage src src_at stride texel_size dst rect) q id i other = other_range dst.0 _ _ id i other
unwritten_of_others (ImageToBuffer src rect dst dst_at stride texel_size expand) q id i other = other_range dst.0 _ _ id i other
unwritten_of_others (CopyImage src src_x src_y dst rect) q id i other = other_range dst.0 _ _ id i other
unwritten_of_others (BlitImage src dst coords clip) q id i other = other_range dst.0 _ _ id i other
unwritten_of_others (ClearImage image rect texel) q id i other = other_range image.0 _ _ id i other
unwritten_of_others (FillBuffer dst dst_at size byte) q id i other = other_range dst.0 _ _ id i other
unwritten_of_others (PassPart _ _ image _ _ _) q id i other = other_range image.0 _ _ id i other
unwritten_of_others (Op.Barrier b) q id i other = other_range b.id.0 _ _ id i other

below_the_end : (a i : ℕ) → the_end ≤ i → min a the_end ≤ i
below_the_end a i past = omega arith

unwritten_past_the_end : (op : Op) (q id i : ℕ) → the_end ≤ i → is_written (Command q (record { op = op })) id i ≡ false
unwritten_past_the_end (CopyBuffer src src_at dst dst_at size) q id i past = past_range dst.0 _ _ id i (below_the_end _ i past)
unwritten_past_the_end (BufferToImage src src_at stride texel_size dst rect) q id i past = past_range dst.0 _ _ id i past
unwritten_past_the_end (ImageToBuffer src rect dst dst_at stride texel_size expand) q id i past = past_range dst.0 _ _ id i (below_the_end _ i past)
unwritten_past_the_end (CopyImage src src_x src_y dst rect) q id i past = past_range dst.0 _ _ id i past
unwritten_past_the_end (BlitImage src dst coords clip) q id i past = past_range dst.0 _ _ id i past
unwritten_past_the_end (ClearImage image rect texel) q id i past = past_range image.0 _ _ id i past
unwritten_past_the_end (FillBuffer dst dst_at size byte) q id i past = past_range dst.0 _ _ id i (below_the_end _ i past)
unwritten_past_the_end (PassPart _ _ image _ _ _) q id i past = past_range image.0 _ _ id i past
unwritten_past_the_end (Op.Barrier b) q id i past = past_range b.id.0 _ _ id i past

-- What stays

pub others_stay : (kinds : ℕ → Kind) (q : ℕ) (n : Node) (c : Contents) (id i : ℕ) → ((target n.op).0 ≡ id → ⊥) → apply kinds (Command q n) c id i ≡ c id i
others_stay kinds q n c id i other = after_unwritten kinds (Command q n) c id i (unwritten_of_others n.op q id i other)

pub far_places_stay : (kinds : ℕ → Kind) (q : ℕ) (n : Node) (c : Contents) (id i : ℕ) → the_end ≤ i → apply kinds (Command q n) c id i ≡ c id i
far_places_stay kinds q n c id i past = after_unwritten kinds (Command q n) c id i (unwritten_past_the_end n.op q id i past)

pub unwritten_stays : (kinds : ℕ → Kind) (q : ℕ) (n : Node) (c : Contents) (id i : ℕ) → is_written (Command q n) id i ≡ false → apply kinds (Command q n) c id i ≡ c id i
unwritten_stays kinds q n c id i none = after_unwritten kinds (Command q n) c id i none

-- where an item would write what it finds, all is as before
pub unchanged : (kinds : ℕ → Kind) (x : Item) (c : Contents) (id i : ℕ) → ((f : Contents) → item_cell kinds x f id i ≡ f id i) → apply kinds x c id i ≡ c id i
unchanged kinds x c id i same = go (cases_Bool (is_written x id i))
  where
    go : (is_written x id i ≡ true) ⊎ (is_written x id i ≡ false) → apply kinds x c id i ≡ c id i
    go (inl w) = after_written kinds x c id i w ∙ same (found x c) ∙ found_at x c id i (touched_from_written x id i w)
    go (inr n) = after_unwritten kinds x c id i n
