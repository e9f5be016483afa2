use Rattle.std.proofs.Common.{refl}
use Rattle.std.specs.String.{string_bytes}
use Rattle.command_line.proofs.ItemLaws.{first_item}
use Rattle.command_line.proofs.SeedLaws.{once_spelled}
use Rattle.command_line.proofs.command.command_of.Goals as goal

pub returns-then-is-clause-spelled : goal.returns-then-is-clause-spelled
returns-then-is-clause-spelled c =
    let is = first_item string_bytes c.args.words.now c.first-item.result c.deref.result.now c.in-len1-up.len_at_least c.first-item.is c.deref.ensures in
    once_spelled _ _ _ _ is (c.if-is.ensures.0 refl) c.once_of.ensures.spelled
