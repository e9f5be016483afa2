use Rattle.std.proofs.Common.{ap, ◌∙◌, ◌≤◌, ◌<◌, length, arith}
use Rattle.std.proofs.lemmas.Bool.{iff_false}
use Rattle.world_core.specs.World.{play_of}
use Rattle.schedule.proofs.Ready.{ready_all, one_more, as_many}
use Rattle.schedule.proofs.playing.ready_count.Goals as goal
use Rattle.schedule.proofs.playing.ready_count.Goals.{then-ready, else-ready}

pub loop-thread-preserved : goal.loop-thread-preserved
loop-thread-preserved g c =
    let w = c.args.world.now in
    let law = c.is_lawful.ensures in
    let i = c.loop-thread.thread in
    let so_far = c.loop-thread.invariant in
    let within : i < length w.threads = omega (arith, c.loop-thread-test.true, c.thread_count-thread-end.ensures) in
    elim c.if-ready.branch [
      | then-ready b ↦
          let more = one_more w.threads (play_of w) law.played law.served.trace i (c.ready.ensures.0 b.if-ready.true) in
          record { count_is = omega (arith, more, so_far.count_is, b.count-is); few = omega (arith, so_far.few, b.count-is) }
      | else-ready b ↦
          let same = as_many w.threads (play_of w) law.played law.served.trace i within (iff_false c.ready.ensures b.if-ready.false) in
          record { count_is = omega (arith, same, so_far.count_is, b.count-is); few = omega (arith, so_far.few, b.count-is) }
    ]

pub returns-clause-count : goal.returns-clause-count
returns-clause-count g c =
    let w = c.args.world.now in
    let i = c.loop-thread.thread in
    let all : length w.threads ≤ i = omega (arith, c.loop-thread-test.false, c.thread_count-thread-end.ensures) in
    let each : length w.done ≤ i = omega (arith, all, c.is_lawful.ensures.played.each) in
    c.loop-thread.invariant.count_is ∙ ap length (ready_all w.threads w.done i all each)

pub returns-clause-few : goal.returns-clause-few
returns-clause-few g c =
    omega (
      arith,
      c.loop-thread.invariant.few,
      c.loop-thread.auto.thread-end,
      c.thread_count-thread-end.ensures,
      c.is_lawful.ensures.served.trace.few,
    )
