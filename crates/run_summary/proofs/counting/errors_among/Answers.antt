use Rattle.std.proofs.Common.{rules, tests, Bool, ◌∙◌}
use Rattle.std.proofs.lemmas.List.Sums.{length-filter}
use Rattle.std.proofs.lemmas.Iterator.{YieldsList-from_slice}
use Rattle.std.proofs.lemmas.Iterator.Consumers.{count_from_yields_List, YieldsList-from_filter}
use Rattle.gl_calls.specs.declared.reply.Entry.{Entry}
use Rattle.run_summary.specs.Counting.{is_error}
use Rattle.run_summary.proofs.counting.errors_among.Goals as goal

abbrev tests_error : Entry → Bool
tests_error e = is_error e.reply

pub returns : goal.returns
returns c =
    count_from_yields_List c.filter.result _ c.count.ensures.ran (YieldsList-from_filter _ tests_error (YieldsList-from_slice c.args.entries.now cc) c.filter.ensures.closure (λ x b q k. search (rules, tests)))
    ∙ length-filter tests_error c.args.entries.now
