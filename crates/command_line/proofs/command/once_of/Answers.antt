use Rattle.std.proofs.Common.{◌≡◌, Some}
use Rattle.command_line.proofs.SeedLaws.{seed_is}
use Rattle.command_line.proofs.command.once_of.Goals as goal

pub returns-in_err-seed-clause-given : goal.returns-in_err-seed-clause-given
returns-in_err-seed-clause-given c = λ seed summary h. let s = seed_is _ _ seed summary _ h c.without_summary-summary.ensures in let same : c.option_in.result ≡ Some seed = c.option_in.ensures.given seed s.1 in absurd (cc c.in_err-seed.was)
