-- What is enough for a device that executes a node on bytes.
use Rattle.std.proofs.Common.{◌≡◌, ℕ, ◌<◌, true, false, sym, ◌∙◌, subst, arith, inl, inr}
use Rattle.std.specs.Prelude.{◌⊎◌}
use Rattle.std.proofs.lemmas.Bool.{cases_Bool, cond-true, cond-false}
use Rattle.vk_types.specs.declared.handles.Kind.{Kind}
use Rattle.vk_types.specs.declared.ops.Node.{Node}
use Rattle.cells.specs.Contents.{UNDEFINED, AgreesAt}
use Rattle.vk_model.specs.Cells.{Contents, op_cell}
use Rattle.vk_model.specs.Log.{Item, Command}
use Rattle.vk_model.specs.Meaning.{is_touched, is_written, found, apply, ContentsAgree}
use Rattle.vk_model.proofs.Local.{after_written, after_unwritten}
use Rattle.vk_model.proofs.Agreement.{same_op_cell}

-- contents agree with what an item finds of them
all_agrees_found : (x : Item) (c : Contents) → ContentsAgree c (found x c)
all_agrees_found x c id i below = go (cases_Bool (is_touched x id i))
  where
    go : (is_touched x id i ≡ true) ⊎ (is_touched x id i ≡ false) → c id i ≡ found x c id i
    go (inl t) = sym (cond-true (is_touched x id i) (c id i) UNDEFINED t)
    go (inr f) = absurd (omega (arith, subst (λ v. v < 256) (cond-false (is_touched x id i) (c id i) UNDEFINED f) below))

-- New contents agree with those after a node where they have, at each place that is written, what the operation makes of the old ones.
pub node_executed : (kinds : ℕ → Kind) (q : ℕ) (n : Node) (old new : Contents)
    → ((id i : ℕ) → is_written (Command q n) id i ≡ true → AgreesAt (new id i) (op_cell kinds n.op old id i))
    → ((id i : ℕ) → is_written (Command q n) id i ≡ false → new id i ≡ old id i)
    → ContentsAgree new (apply kinds (Command q n) old)
node_executed kinds q n old new inside outside id i below = go (cases_Bool (is_written (Command q n) id i))
  where
    go : (is_written (Command q n) id i ≡ true) ⊎ (is_written (Command q n) id i ≡ false) → new id i ≡ apply kinds (Command q n) old id i
    go (inl w) =
        let made = op_cell kinds n.op (found (Command q n) old) id i in
        let is : apply kinds (Command q n) old id i ≡ made = after_written kinds (Command q n) old id i w in
        let small : made < 256 = subst (λ v. v < 256) is below in
        let same : op_cell kinds n.op old id i ≡ made = same_op_cell kinds n.op old (found (Command q n) old) (all_agrees_found (Command q n) old) id i small in
        inside id i w (subst (λ v. v < 256) (sym same) small) ∙ same ∙ sym is
    go (inr u) = outside id i u ∙ sym (after_unwritten kinds (Command q n) old id i u)
