-- Bytes that agree with what is seen are an answer to a read through a map.
use Rattle.std.proofs.Common.{◌≡◌, ℕ, ℤ, ◌+◌, ◌<◌, ◌≤◌, suc, Option, Some, List, [], ◌∷◌, length, unsigned_abs, ap, sym, ◌∙◌, subst, arith}
use Rattle.std.specs.Option.{option_map_or}
use Rattle.cells.specs.Contents.{Content, cells, cell_at, Agrees, part}
use Rattle.gl_calls.specs.declared.call.Call.TheVariants as call
use Rattle.gl_calls.specs.declared.reply.Reply.TheVariants as reply
use Rattle.gl_calls.specs.declared.words.BufferTarget.{BufferTarget}
use Rattle.tables.specs.Table.{entry}
use Rattle.gl_model.specs.declared.objects.BufferFacts.{BufferFacts}
use Rattle.gl_model.specs.declared.objects.Mapped.{Mapped}
use Rattle.gl_model.specs.declared.state.Context.{Context}
use Rattle.gl_model.specs.Bindings.{buffer_binding}
use Rattle.gl_model.specs.GroupModel.{GroupModel}
use Rattle.gl_model.specs.Effect.{store_of, map_place}
use Rattle.gl_model.specs.Legal.{Answers, GlAnswersIn, mapped_cells}
use Rattle.front_model.specs.declared.object.Object.{Object}
use Rattle.front_model.specs.declared.object.Object.TheVariants.{Buffer}
use Rattle.front_model.specs.Wanted.{wanted, AgreeWith, IsAccepted, IsBound, HasMapRange}
use Rattle.front_model.proofs.Ranges.{read_range}
use Rattle.front_model.proofs.AgreeingCells.{Right, length-cells, length-part, cell_at-cells, cell_at-part}
use Rattle.front_model.proofs.Agreeing.{bound_has}

-- bytes agree with a content where they agree with one that has its defined cells
agree_with : (out xs ys : List ℕ) → length xs ≡ length ys → ((i : ℕ) → i < length ys → cell_at ys i < 256 → cell_at xs i ≡ cell_at ys i) → Agrees out xs → Agrees out ys
agree_with [] [] [] same right agree = tt
agree_with [] [] (y ∷ ys) same right agree = absurd (omega arith)
agree_with [] (x ∷ xs) ys same right agree = absurd agree
agree_with (o ∷ out) [] ys same right agree = absurd agree
agree_with (o ∷ out) (x ∷ xs) [] same right agree = absurd (omega arith)
agree_with (o ∷ out) (x ∷ xs) (y ∷ ys) same right agree =
    (λ h. at_head (right 0 (omega arith) h) h agree.0, agree_with out xs ys (omega arith) (λ i low h. right (suc i) (omega (arith, low)) h) agree.1)
  where
    at_head : x ≡ y → y < 256 → (x < 256 → o ≡ x) → o ≡ y
    at_head is h held = held (omega (arith, is, h)) ∙ is

-- cells of what is seen, where a part of the content is to be read
seen_part : (content : Content) (seen : ℕ → ℕ) (at len : ℕ) (out : List ℕ) → at + len ≤ length content → Right seen content → Agrees out (cells len (λ k. seen (at + k))) → Agrees out (part content at len)
seen_part content seen at len out inside right agree =
    let long : length (part content at len) ≡ len = length-part content at len inside in
    agree_with out (cells len (λ k. seen (at + k))) (part content at len) (length-cells len (λ k. seen (at + k)) ∙ sym long) (λ i low h. at_place i (omega (arith, low, long)) h) agree
  where
    at_place : (i : ℕ) → i < len → cell_at (part content at len) i < 256 → cell_at (cells len (λ k. seen (at + k))) i ≡ cell_at (part content at len) i
    at_place i low h =
        let is : cell_at (part content at len) i ≡ cell_at content (at + i) = cell_at-part content at len i low in
        cell_at-cells len (λ k. seen (at + k)) i low ∙ right (at + i) (omega (arith, is, h)) ∙ sym is

pub read_answers : (state : GroupModel) (thread b : ℕ) (context : Context) (facts : BufferFacts) (mapped : Mapped) (target : BufferTarget) (offset len : ℤ) (seen : Object → ℕ → ℕ) (out : List ℕ) → IsAccepted state thread (call.MapRead target offset len) context → IsBound state.group context target b facts → facts.map ≡ Some mapped → AgreeWith seen (wanted state) → Agrees out (cells (unsigned_abs len) (λ k. seen (Buffer b) (mapped.at + unsigned_abs offset + k))) → Answers state thread (call.MapRead target offset len) (reply.Bytes out)
read_answers state thread b context facts mapped target offset len seen out accepted bound map agree agrees =
    let range : HasMapRange facts (unsigned_abs offset) (unsigned_abs len) =
    bound_has (λ b facts. HasMapRange facts (unsigned_abs offset) (unsigned_abs len)) (read_range state thread context target offset len accepted) bound in
    let both : Some range.mapped ≡ Some mapped = sym range.map ∙ map in
    let same : range.mapped ≡ mapped = cc in
    let at_is : range.mapped.at ≡ mapped.at = ap (λ m. m.at) same in
    let long : length (store_of state b).cells ≡ facts.size = (accepted.sizes.stores b facts bound.is).cells in
    let place_is : map_place (entry b state.group.buffers) (unsigned_abs offset) ≡ mapped.at + unsigned_abs offset =
    ap (λ o. map_place o (unsigned_abs offset)) bound.is ∙ ap (λ o. option_map_or (λ m. m.at) o 0 + unsigned_abs offset) map in
    let here : Agrees out (part (store_of state b).cells (mapped.at + unsigned_abs offset) (unsigned_abs len)) =
    seen_part (store_of state b).cells (seen (Buffer b)) (mapped.at + unsigned_abs offset) (unsigned_abs len) out (omega (arith, range.in_map, range.in_buffer, at_is, long)) (agree (Buffer b)) agrees in
    let placed : Agrees out (part (store_of state b).cells (map_place (entry b state.group.buffers) (unsigned_abs offset)) (unsigned_abs len)) =
    subst (λ (k : ℕ). Agrees out (part (store_of state b).cells k (unsigned_abs len))) (sym place_is) here in
    let in_target : Agrees out (mapped_cells state context (buffer_binding context target) (unsigned_abs offset) (unsigned_abs len)) =
    subst (λ (o : Option ℕ). Agrees out (mapped_cells state context o (unsigned_abs offset) (unsigned_abs len))) (sym bound.bound) placed in
    subst (λ (o : Option Context). GlAnswersIn state o (call.MapRead target offset len) (reply.Bytes out)) (sym accepted.current) in_target
