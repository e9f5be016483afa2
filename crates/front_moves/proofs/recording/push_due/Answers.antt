use Rattle.std.proofs.Common.{◌≡◌, ℕ, List, [], ◌++◌, refl, sym, ◌∙◌, ap, zero, suc, ◌∷◌}
use Rattle.std.specs.Prelude.{slice_set, slice_index_or}
use Rattle.std.proofs.lemmas.List.{append-nil}
use Rattle.vk_types.specs.declared.ops.Node.{Node}
use Rattle.barriers.specs.Recording.{node_for}
use Rattle.front_moves.proofs.recording.push_due.Goals as goal

-- what stands at a place may be put there again
set_same : (lists : List (List Node)) (place : ℕ) → lists ≡ slice_set lists place (slice_index_or lists place [])
set_same [] place = refl
set_same (l ∷ lists) zero = refl
set_same (l ∷ lists) (suc place) = ap (λ ls. l ∷ ls) (set_same lists place)

pub returns-in-None : goal.returns-in-None
returns-in-None c = set_same c.args.pending.now c.args.place ∙ ap (slice_set c.args.pending.now c.args.place) (sym (append-nil (slice_index_or c.args.pending.now c.args.place [])) ∙ ap (λ d. slice_index_or c.args.pending.now c.args.place [] ++ node_for d) (sym c.in-None.is))
