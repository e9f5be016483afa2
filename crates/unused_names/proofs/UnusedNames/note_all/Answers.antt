use Rattle.std.proofs.Common.{◌≡◌, ℕ, Bool, ◌||◌, ◌==◌, take, length, ap, sym, ◌∙◌}
use Rattle.std.specs.List.{list_any}
use Rattle.std.proofs.lemmas.List.{take_more}
use Rattle.std.proofs.Math.Seq.{take-length}
use Rattle.unused_names.proofs.Gaps.{Fits-same, any-more}
use Rattle.unused_names.proofs.LowestNames.{take_all}
use Rattle.unused_names.proofs.UnusedNames.note_all.Goals as goal

pub loop-name-preserved : goal.loop-name-preserved
loop-name-preserved c = λ used fits.
    let found = c.args.found.now in
    let i = c.loop-name.name-index in
    let more = take_more found i 0 c.loop-name-test.true in
    Fits-same _ _ _ (λ n. ap (λ xs. used n || list_any (λ name. n == name) xs) more ∙ sym (any-more n (used n) (take i found) _))
    (c.note_used.ensures (λ n. used n || list_any (λ name. n == name) (take i found)) (c.loop-name.invariant used fits))

pub returns : goal.returns
returns c = λ used fits.
    let all = take_all c.loop-name.name-index c.args.found.now c.loop-name-test.false in
    Fits-same _ _ _ (λ n. ap (λ xs. used n || list_any (λ name. n == name) xs) (sym all)) (c.loop-name.invariant used fits)
