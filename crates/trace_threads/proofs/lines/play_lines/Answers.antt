use Rattle.std.proofs.Common.{◌≡◌, ◌∙◌, false, refl, sym, ap, subst}
use Rattle.std.specs.Prelude.{Some}
use Rattle.std.proofs.lemmas.Option.{slice_get-get_or}
use Rattle.trace_text.specs.declared.trace.Line.{Line}
use Rattle.std.proofs.lemmas.Bool.{false≢true}
use Rattle.turnstile.specs.Histories.{own}
use Rattle.turnstile.proofs.Beginnings.{prefix_self, prefix_trans}
use Rattle.group_gpu.specs.Groups.{names_of}
use Rattle.trace_threads.specs.Lines.{MadeCall}
use Rattle.trace_threads.proofs.Making.{between_self, between_then, made_none, made_still, made_more, made_some}
use Rattle.trace_threads.proofs.lines.play_lines.Goals as goal

pub loop-line-init : goal.loop-line-init
loop-line-init g c = record {
  kept = between_self c.args.pass c.requires.name.1;
  mine = c.requires.mine;
  begins = prefix_self c.args.pass.seen;
  made = made_none c.args.thread c.args.lines.now c.args.pass.number c.args.pass.seen c.requires.new;
}

pub loop-line-preserved : goal.loop-line-preserved
loop-line-preserved g c =
    let l = c.loop-line in
    let x = c.play_line in
    record {
      kept = between_then c.args.pass l.pass x.new.pass l.invariant.kept x.ensures.kept;
      mine = x.ensures.mine;
      begins = prefix_trans c.args.pass.seen l.pass.seen x.new.pass.seen l.invariant.begins x.ensures.begins;
      made = made_more c.args.thread c.args.lines.now c.args.pass.number l.pass.seen x.new.pass.seen l.line-index c.line-item.result c.requires.rise (slice_get-get_or c.args.lines.now l.line-index c.line-item.result c.loop-line-test.true ∙ ap (λ (y : Line). Some y) (sym c.line-item.is))
          (subst (λ n. MadeCall c.args.thread c.line-item.result n l.pass.seen x.new.pass.seen) l.invariant.kept.number (c.if-not-play_line.ensures.made.yes refl)) l.invariant.made;
    }

pub returns-then-not-play_line-clause-made : goal.returns-then-not-play_line-clause-made
returns-then-not-play_line-clause-made g c =
    let l = c.loop-line in
    let x = c.play_line in
    made_some c.args.thread c.args.lines.now c.args.pass.number x.new.pass.seen l.line-index false (λ bad. absurd (false≢true bad))
    (made_still c.args.thread c.args.lines.now c.args.pass.number l.pass.seen x.new.pass.seen l.line-index x.ensures.begins
    (subst (λ n. own names_of n x.new.pass.seen ≡ own names_of n l.pass.seen) l.invariant.kept.number (c.if-not-play_line.ensures.made.no refl)) l.invariant.made)
