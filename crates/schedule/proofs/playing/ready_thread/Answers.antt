use Rattle.std.proofs.Common.{ap, sym, ◌∙◌, ◌≡◌, ◌<◌, length, arith}
use Rattle.std.specs.Prelude.{slice_index}
use Rattle.std.proofs.lemmas.List.{get_or_at}
use Rattle.std.proofs.lemmas.Bool.{iff_false}
use Rattle.world_core.specs.World.{play_of}
use Rattle.schedule.proofs.Ready.{ready_to, look_rest, one_more, as_many}
use Rattle.schedule.proofs.playing.ready_thread.Goals as goal
use Rattle.schedule.proofs.playing.ready_thread.Goals.{then-ready+else-left-eq0, else-ready}

pub returns-then-left-eq0-clause-named : goal.returns-then-left-eq0-clause-named
returns-then-left-eq0-clause-named g c =
    let w = c.args.world.now in
    let law = c.is_lawful.ensures in
    let i = c.loop-thread.thread in
    let r = look_rest w.threads (play_of w) law.played law.served.trace i (c.ready.ensures.0 c.if-ready.true) in
    let long : length (ready_to w.threads w.done i) ≡ c.args.number = omega (arith, c.loop-thread.invariant, c.if-left-eq0.true) in
    sym (ap (λ l. slice_index l c.args.number) r.1 ∙ get_or_at (ready_to w.threads w.done i) i r.0 0 c.args.number long)

pub loop-thread-preserved : goal.loop-thread-preserved
loop-thread-preserved g c =
    let w = c.args.world.now in
    let law = c.is_lawful.ensures in
    let i = c.loop-thread.thread in
    let within : i < length w.threads = omega (arith, c.loop-thread-test.true, c.thread_count-thread-end.ensures) in
    elim c.if-ready.branch [
      | then-ready+else-left-eq0 b ↦
          let more = one_more w.threads (play_of w) law.played law.served.trace i (c.ready.ensures.0 b.if-ready.true) in
          omega (arith, more, c.loop-thread.invariant, b.left-is, b.if-left-eq0.false)
      | else-ready b ↦
          let same = as_many w.threads (play_of w) law.played law.served.trace i within (iff_false c.ready.ensures b.if-ready.false) in
          omega (arith, same, c.loop-thread.invariant, b.left-is)
    ]
