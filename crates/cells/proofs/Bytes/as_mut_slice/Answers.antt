use Rattle.std.proofs.Common.{refl, ap, ◌∙◌, ◌≡◌, ℕ, List, take, drop, ◌++◌, length}
use Rattle.cells.specs.Lending.{refilled}
use Rattle.cells.proofs.Bytes.as_mut_slice.Goals as goal

pub returns : goal.returns
returns c =
    let v = c.self.inside.bytes in
    let to_now : (w : List ℕ) → refilled v.items w ≡ refilled c.args.self.now w = λ w. ap (λ old. refilled old w) c.self.view_is in
    ((refl, λ w. ap (λ n. take n (w ++ drop (length w) v.items)) v.ok.0 ∙ to_now w), record { writes_back = tt; value = c.as_mut_slice.ensures.value ∙ c.self.view_is })
