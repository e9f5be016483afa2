use Rattle.std.proofs.Common.{ℕ, List, ◌++◌, refl, ap, ◌∙◌}
use Rattle.std.specs.Prelude.{codes, string_bytes}
use Rattle.std.specs.Fmt.{decimal}
use Rattle.trace_gen.specs.Lines.{source_lines}
use Rattle.trace_gen.proofs.LineLaws.{two_lines, step_end}
use Rattle.trace_gen.proofs.first.put_source.Goals as goal

pub returns : goal.returns
unfolding source_lines
returns c = two_lines _ _ _ (source_lines c.args.thread) _ _ refl c.in_ok-write.ensures.bytes (c.in_ok-write-2.ensures.bytes ∙ ap (λ (x : List ℕ). string_bytes c.write.new.self ++ (decimal c.args.thread ++ (codes " bdata copy_read 256 dynamic_draw %256," ++ x))) (step_end c.args.thread))
