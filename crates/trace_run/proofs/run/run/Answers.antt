use Rattle.std.proofs.Common.{map, rules}
use Rattle.trace_text.specs.Reading.{plan}
use Rattle.trace_run.proofs.Leading.{of_err, opened, ran_all, answers_first, tail_same}
use Rattle.trace_run.proofs.run.run.Goals as goal

pub play_and_close-answer-requires-clause-fresh : goal.play_and_close-answer-requires-clause-fresh
play_and_close-answer-requires-clause-fresh g c =
    opened _ c.in-Ok.world (map plan c.args.trace.threads.items) c.args.device c.in-Ok.ensures.ok

pub returns-in-Ok-tail-clause-said : goal.returns-in-Ok-tail-clause-said
returns-in-Ok-tail-clause-said g c = record {
  groups = c.finish-groups.result.0.items;
  ran = ran_all _ (map plan c.args.trace.threads.items) c.in-Ok.world.threads c.args.seed c.play_and_close-answer.new.world
      c.finish-groups.result.0.items c.in-Ok.ensures.ok.threads_are c.is_lawful.ensures.played c.finish-groups.ensures.histories
      (g.D.Device.journal c.finish-groups.result.1) c.in-Ok-answer.ensures.whole c.finish-groups.ensures.finished;
  shown_is = c.shown-groups.ensures;
  tail_is = tail_same c.args.output c.finish-groups.result.0.items c.deref.result.now (g.D.Device.journal c.finish-groups.result.1)
      c.journal.result.now c.in-Ok-tail.tail c.in-Ok-tail.ensures c.deref.ensures.value c.journal.ensures;
}

pub returns-in-Err-Lost-clause-said : goal.returns-in-Err-Lost-clause-said
returns-in-Err-Lost-clause-said g c = record {
  groups = c.finish-groups.result.0.items;
  answers = answers_first _ (map plan c.args.trace.threads.items) c.in-Ok.world.threads c.args.seed c.play_and_close-answer.new.world
      c.finish-groups.result.0.items c.in-Ok.ensures.ok.threads_are c.is_lawful.ensures.played
      c.finish-groups.ensures.histories
      (of_err c.play_and_close-answer.result c.in-Err-Lost.field-0 c.in-Err-Lost.is c.play_and_close-answer.ensures.part);
  shown_is = c.shown-groups-in-Err-Lost.ensures;
  rose = search rules;
}
