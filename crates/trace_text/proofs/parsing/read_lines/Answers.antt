use Rattle.std.proofs.Common.{refl, arith, ap, length}
use Rattle.std.proofs.lemmas.Result.{err_from_is_err_and}
use Rattle.trace_words.specs.Lexing.{lines_of}
use Rattle.trace_text.specs.Reading.{state_of, at_start, lines_after}
use Rattle.trace_text.proofs.Runs.{length-lines_of, run_goes_on, run_ends, run_done}
use Rattle.trace_text.proofs.parsing.read_lines.Goals as goal

pub loop-line-init : goal.loop-line-init
loop-line-init c = record {
  same = rw (c.in_ok-reader.ensures.state, c.new-lines.ensures) refl;
  room = rw c.new-lines.ensures (omega (arith, c.in_ok-reader.ensures.count, length-lines_of c.args.text.now));
}

pub loop-line-preserved : goal.loop-line-preserved
loop-line-preserved c =
    let reader = c.loop-line.reader in
    record {
      same = run_goes_on reader.owners.len (state_of reader) (state_of c.read_numbered.new.reader) c.in-Some.line.now c.next.new.self c.loop-line.lines (lines_after at_start (lines_of c.args.text.now))
          c.in-Some.ensures c.in_ok-read_numbered.ensures.state c.loop-line.invariant.same;
      room = omega (arith, c.loop-line.invariant.room, c.in_ok-read_numbered.ensures.count, ap length c.in-Some.ensures);
    }

pub returns-in_err-read_numbered-clause-state : goal.returns-in_err-read_numbered-clause-state
returns-in_err-read_numbered-clause-state c =
    let p = err_from_is_err_and c.from_residual-in_err-read_numbered.result c.from_residual-in_err-read_numbered.ensures.1 in
    let reader = c.loop-line.reader in
    rw (p.1, p.2) (run_ends reader.owners.len (state_of reader) c.in-Some.line.now c.next.new.self c.loop-line.lines (lines_after at_start (lines_of c.args.text.now)) c.in_err-read_numbered.field-0.0
    reader.owners.ok.0 c.in-Some.ensures c.in_err-read_numbered.ensures.state c.loop-line.invariant.same)

pub returns-clause-state : goal.returns-clause-state
returns-clause-state c = run_done (state_of c.loop-line.reader) c.loop-line.lines (lines_after at_start (lines_of c.args.text.now)) c.in_default.ensures.0 c.loop-line.invariant.same
