use Rattle.std.proofs.Common.{◌≡◌, drop}
use Rattle.trace_words.specs.Tables.{meaning, entries}
use Rattle.trace_words.proofs.tables.word_in.Given as goal

abbrev pub invariant-loop-spelled : goal.invariant-loop-spelled
invariant-loop-spelled g l = meaning (entries (drop l.spelled-index l.table)) l.word ≡ meaning (entries l.table) l.word
