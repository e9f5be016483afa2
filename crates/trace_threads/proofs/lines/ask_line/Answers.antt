use Rattle.std.proofs.Common.{◌≡◌, sym, ◌∙◌, refl, subst}
use Rattle.std.specs.Prelude.{IfOk}
use Rattle.std.proofs.lemmas.Bool.{false≢true}
use Rattle.turnstile.specs.Histories.{own}
use Rattle.front_core.specs.Front.{entry_of}
use Rattle.group_gpu.specs.Groups.{names_of, EndsWith}
use Rattle.trace_threads.proofs.lines.ask_line.Goals as goal

pub returns-in-Some-Ok-clause-made : goal.returns-in-Some-Ok-clause-made
returns-in-Some-Ok-clause-made g c =
    let w = c.wait_for_line in
    record {
      yes = λ is. record {
        reply = c.in-Some-Ok.field-0-0;
        seen = w.new.pass.seen;
        begins = w.ensures.begins;
        same = w.ensures.own;
        ready = c.if-not-wait_for_line.ensures.answered;
        ends = subst (λ n. EndsWith n w.new.pass.seen c.call_once.new.pass.seen (entry_of c.args.thread c.args.line.now.number c.args.line.now.call c.in-Some-Ok.field-0-0)) w.ensures.kept.number
            (subst (λ r. IfOk r (λ reply. EndsWith w.new.pass.number w.new.pass.seen c.call_once.new.pass.seen (entry_of c.args.thread c.args.line.now.number c.args.line.now.call reply))) c.in-Some-Ok.field-0-is c.in-Some-Ok.ensures.last);
      };
      no = λ bad. absurd (false≢true (sym bad));
    }

pub returns-clause-made : goal.returns-clause-made
returns-clause-made g c =
    let w = c.wait_for_line in
    record {
      yes = λ bad. absurd (false≢true bad);
      no = λ is. subst (λ n. own names_of n c.call_once.new.pass.seen ≡ own names_of n w.new.pass.seen) w.ensures.kept.number c.in-None.ensures.same ∙ w.ensures.own;
    }
