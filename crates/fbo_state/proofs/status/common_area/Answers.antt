use Rattle.std.proofs.Common.{◌≡◌, ◌+◌, ◌-◌, ◌<◌, ◌∷◌, length, drop, get_or, None, ap, sym, ◌∙◌, arith}
use Rattle.std.proofs.lemmas.List.{drop_more}
use Rattle.fbo_state.specs.Framebuffers.{stored, least_sides}
use Rattle.fbo_state.proofs.status.common_area.Goals as goal

pub loop-k-preserved : goal.loop-k-preserved
loop-k-preserved c =
    let infos = c.args.infos.now in
    let k = c.loop-k.k in
    let start : k - 1 + 1 ≡ k = omega arith in
    let within : k - 1 < length infos = omega (arith, c.told-infos, c.loop-k.auto.k) in
    let first : drop (k - 1) infos ≡ get_or infos (k - 1) None ∷ drop k infos = drop_more infos (k - 1) None within ∙ ap (λ j. get_or infos (k - 1) None ∷ drop j infos) start in
    c.with_image-sides.ensures (drop k infos) c.loop-k.invariant ∙ ap (λ rest. least_sides (stored rest)) (sym first)
