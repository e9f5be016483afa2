use Rattle.std.proofs.Common.{sym, ap, ◌∙◌}
use Rattle.vk_types.specs.declared.handles.Kind.TheVariants.{Buffer}
use Rattle.back_core.specs.Link.{Link}
use Rattle.back_tests.proofs.Copies.{made_held, left_held, differs, two}
use Rattle.back_tests.proofs.copying.copy_between.Goals as goal

pub abandon-requires : goal.abandon-requires
abandon-requires g c =
    let a1 = made_held (g.L.BackLink.state c.args.link.now) (g.L.BackLink.state c.create.new.self) c.in_ok-src.src.0 (Buffer 4) c.in_ok-src.ensures.ok in
    ap (λ (l : Link). l.held c.in_ok-src.src.0) c.in-Err.ensures.err ∙ a1

pub copy_bytes-answer-requires-clause-two : goal.copy_bytes-answer-requires-clause-two
copy_bytes-answer-requires-clause-two g c =
    rw (c.id.ensures, c.id-2.ensures) (two (g.L.BackLink.state c.args.link.now) (g.L.BackLink.state c.create.new.self) (g.L.BackLink.state c.create-2.new.self) c.in_ok-src.src.0 c.in-Ok.dst.0 c.requires.new c.in_ok-src.ensures.ok c.in-Ok.ensures.fresh c.in-Ok.ensures.ok)

pub abandon-requires-3 : goal.abandon-requires-3
abandon-requires-3 g c =
    let a1 = made_held (g.L.BackLink.state c.args.link.now) (g.L.BackLink.state c.create.new.self) c.in_ok-src.src.0 (Buffer 4) c.in_ok-src.ensures.ok in
    let differ = differs (g.L.BackLink.state c.create.new.self) c.in-Ok.dst.0 c.in_ok-src.src.0 c.in-Ok.ensures.fresh a1 in
    left_held (g.L.BackLink.state c.copy_bytes-answer.new.link) (g.L.BackLink.state c.abandon-2.new.self) c.in_ok-src.src.0 c.in-Ok.dst.0 c.abandon-2.ensures.state (λ same. differ (sym same)) (rw c.id-2.ensures at c.copy_bytes-answer.ensures.dst)
