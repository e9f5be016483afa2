use Rattle.std.proofs.Common.{sym, ap, ◌∙◌}
use Rattle.vk_types.specs.declared.handles.Kind.TheVariants.{Buffer}
use Rattle.back_core.specs.Link.{Link}
use Rattle.back_tests.proofs.Copies.{made_held, kept_held, left_held, differs, three}
use Rattle.back_tests.proofs.queueing.create_three.Goals as goal

pub abandon-requires : goal.abandon-requires
abandon-requires g c =
    let a1 = made_held (g.L.BackLink.state c.args.link.now) (g.L.BackLink.state c.create.new.self) c.in_ok-first.first.0 (Buffer 4) c.in_ok-first.ensures.ok in
    ap (λ (l : Link). l.held c.in_ok-first.first.0) c.in-Err.ensures.err ∙ a1

pub abandon-requires-in-Err-create : goal.abandon-requires-in-Err-create
abandon-requires-in-Err-create g c =
    let a1 = made_held (g.L.BackLink.state c.args.link.now) (g.L.BackLink.state c.create.new.self) c.in_ok-first.first.0 (Buffer 4) c.in_ok-first.ensures.ok in
    let a2 = kept_held (g.L.BackLink.state c.create.new.self) (g.L.BackLink.state c.create-2.new.self) c.in-Ok.second.0 c.in_ok-first.first.0 (Buffer 4) c.in-Ok.ensures.ok c.in-Ok.ensures.fresh a1 in
    ap (λ (l : Link). l.held c.in_ok-first.first.0) c.in-Err-create.ensures.err ∙ a2

pub abandon-requires-in-Err-create-2 : goal.abandon-requires-in-Err-create-2
abandon-requires-in-Err-create-2 g c =
    let a1 = made_held (g.L.BackLink.state c.args.link.now) (g.L.BackLink.state c.create.new.self) c.in_ok-first.first.0 (Buffer 4) c.in_ok-first.ensures.ok in
    let b2 = made_held (g.L.BackLink.state c.create.new.self) (g.L.BackLink.state c.create-2.new.self) c.in-Ok.second.0 (Buffer 4) c.in-Ok.ensures.ok in
    let b3 = ap (λ (l : Link). l.held c.in-Ok.second.0) c.in-Err-create.ensures.err ∙ b2 in
    let differ = differs (g.L.BackLink.state c.create.new.self) c.in-Ok.second.0 c.in_ok-first.first.0 c.in-Ok.ensures.fresh a1 in
    left_held (g.L.BackLink.state c.create-3.new.self) (g.L.BackLink.state c.abandon-in-Err-create.new.self) c.in_ok-first.first.0 c.in-Ok.second.0 c.abandon-in-Err-create.ensures.state (λ same. differ (sym same)) b3

pub returns : goal.returns
returns g c =
    three (g.L.BackLink.state c.args.link.now) (g.L.BackLink.state c.create.new.self) (g.L.BackLink.state c.create-2.new.self) (g.L.BackLink.state c.create-3.new.self) c.in_ok-first.first.0 c.in-Ok.second.0 c.in-Ok-create.third.0 c.requires c.in_ok-first.ensures.ok c.in-Ok.ensures.fresh c.in-Ok.ensures.ok c.in-Ok-create.ensures.fresh c.in-Ok-create.ensures.ok
