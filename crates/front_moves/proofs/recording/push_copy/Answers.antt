use Rattle.std.proofs.Common.{ℕ, ◌≡◌, ◌<◌, List, [], ◌∷◌, ◌++◌, length, sym, ap, ◌∙◌, arith}
use Rattle.std.specs.Prelude.{slice_set, slice_index_or}
use Rattle.std.proofs.lemmas.List.{length-set}
use Rattle.vk_types.specs.declared.ops.Node.{Node}
use Rattle.barriers.specs.Recording.{node_for}
use Rattle.front_moves.proofs.Outcomes.{from_no_err, pushed_then}
use Rattle.front_moves.proofs.recording.push_copy.Goals as goal

-- nodes were added at a place
abbrev AreAdded : List (List Node) → List (List Node) → ℕ → List Node → Type 0
AreAdded old new place nodes = new ≡ slice_set old place (slice_index_or old place [] ++ nodes)

pub returns-clause-eight : goal.returns-clause-eight
returns-clause-eight c =
    let first : AreAdded c.args.pending.now c.push_due.new.pending c.args.place (node_for c.args.one) = from_no_err c.push_due.result (sym c.is_err.ensures.value ∙ c.if-is_err.false) c.push_due.ensures in
    let second : AreAdded c.push_due.new.pending c.push_due-else-is_err.new.pending c.args.place (node_for c.args.other) =
    from_no_err c.push_due-else-is_err.result (sym c.is_err-else-is_err.ensures.value ∙ c.if-is_err-2.false) c.push_due-else-is_err.ensures in
    sym (ap length second ∙ length-set c.push_due.new.pending c.args.place (slice_index_or c.push_due.new.pending c.args.place [] ++ node_for c.args.other) ∙ ap length first ∙ length-set c.args.pending.now c.args.place (slice_index_or c.args.pending.now c.args.place [] ++ node_for c.args.one)) ∙ c.push.ensures.eight

pub returns-clause-ok : goal.returns-clause-ok
returns-clause-ok c =
    let first : AreAdded c.args.pending.now c.push_due.new.pending c.args.place (node_for c.args.one) = from_no_err c.push_due.result (sym c.is_err.ensures.value ∙ c.if-is_err.false) c.push_due.ensures in
    let second : AreAdded c.push_due.new.pending c.push_due-else-is_err.new.pending c.args.place (node_for c.args.other) =
    from_no_err c.push_due-else-is_err.result (sym c.is_err-else-is_err.ensures.value ∙ c.if-is_err-2.false) c.push_due-else-is_err.ensures in
    let had : length c.args.pending.now ≡ 8 = returns-clause-eight c in
    let inside : c.args.place < length c.args.pending.now = let few : c.args.place < 8 = c.requires in omega (arith, few, had) in
    pushed_then c.args.pending.now c.push_due-else-is_err.new.pending c.push.new.self c.args.place (node_for c.args.one ++ node_for c.args.other) (c.args.copy ∷ []) inside
    (pushed_then c.args.pending.now c.push_due.new.pending c.push_due-else-is_err.new.pending c.args.place (node_for c.args.one) (node_for c.args.other) inside first second)
    (from_no_err c.push.result (sym c.is_err-else-is_err-2.ensures.value ∙ c.if-is_err-3.false) c.push.ensures.ok)
