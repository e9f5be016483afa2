use Rattle.std.proofs.Common.{refl, ap, ◌∙◌}
use Rattle.back_tests.proofs.Copies.{may_second, may_third}
use Rattle.resource_use.specs.Uses.{noted}
use Rattle.back_core.specs.Link.{gave}
use Rattle.back_tests.proofs.queueing.give_three.Goals as goal

pub give-requires-2 : goal.give-requires-2
give-requires-2 g c =
    may_second (g.L.BackLink.state c.create_three.new.link) (g.L.BackLink.state c.give.new.self) c.in_ok-first.first.0 c.in_ok-first.second.0 c.in_ok-first.third.0 c.note.new.self (record { index = c.new.result; number = 1 }) c.in_ok-first.ensures (c.give.ensures.state ∙ ap (λ u. gave (g.L.BackLink.state c.create_three.new.link) c.in_ok-first.first.0 u) c.new-2.ensures) (c.in_ok-note.ensures.ok ∙ ap (λ u. noted u (record { index = c.new.result; number = 1 })) c.new-used.ensures) c.new.ensures refl

pub give-requires-3 : goal.give-requires-3
give-requires-3 g c =
    may_third (g.L.BackLink.state c.create_three.new.link) (g.L.BackLink.state c.give.new.self) (g.L.BackLink.state c.give-2.new.self) c.in_ok-first.first.0 c.in_ok-first.second.0 c.in_ok-first.third.0 c.note.new.self c.new-3.result c.in_ok-first.ensures (c.give.ensures.state ∙ ap (λ u. gave (g.L.BackLink.state c.create_three.new.link) c.in_ok-first.first.0 u) c.new-2.ensures) c.give-2.ensures.state c.new-3.ensures
