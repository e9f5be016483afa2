use Rattle.std.proofs.Common.{ℕ, List, ◌++◌, refl, ap, ◌∙◌}
use Rattle.std.specs.Prelude.{codes, string_bytes}
use Rattle.std.specs.Fmt.{decimal}
use Rattle.trace_gen.specs.Lines.{update_lines}
use Rattle.trace_gen.proofs.LineLaws.{one_line, step_end}
use Rattle.trace_gen.proofs.rounds.put_update.Goals as goal

pub returns : goal.returns
unfolding update_lines
returns c = one_line _ _ (update_lines c.args.thread c.args.a c.args.b) _ refl (c.in_ok-write.ensures.bytes ∙ ap (λ (x : List ℕ). string_bytes c.args.out.now ++ (decimal c.args.thread ++ (codes " bsub copy_read " ++ (decimal c.args.a ++ (codes " %16," ++ x))))) (step_end c.args.b))
