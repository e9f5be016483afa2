use Rattle.std.proofs.Common.{◌∙◌}
use Rattle.back_tests.proofs.Copies.{copy_may, copy_readable}
use Rattle.back_tests.proofs.copying.copy_bytes.Goals as goal

pub enqueue-requires : goal.enqueue-requires
enqueue-requires g c =
    copy_may (g.L.BackLink.state c.args.link.now) (g.L.BackLink.state c.write_host.new.self) c.args.src c.args.dst _ c.batch_of.result c.requires.two c.in_ok-write_host.ensures.ok c.batch_of.ensures.one_queue (c.batch_of.ensures.index ∙ c.new-index.ensures) c.batch_of.ensures.number (c.batch_of.ensures.nodes ∙ c.in_ok-nodes.ensures)

pub read_host-requires-clause-readable : goal.read_host-requires-clause-readable
read_host-requires-clause-readable g c =
    copy_readable (g.L.BackLink.state c.args.link.now) (g.L.BackLink.state c.write_host.new.self) (g.L.BackLink.state c.enqueue.new.self) (g.L.BackLink.state c.wait_for.new.self) c.args.src c.args.dst _ c.batch_of.result _ _ _ c.requires.two c.in_ok-write_host.ensures.ok c.in-Ok.ensures.ok c.in_ok-wait_for.ensures.ok (c.batch_of.ensures.nodes ∙ c.in_ok-nodes.ensures)
