use Rattle.std.proofs.Common.{refl}
use Rattle.std.specs.String.{string_bytes}
use Rattle.std.proofs.lemmas.Bool.{false≢true}
use Rattle.command_line.proofs.ItemLaws.{first_item, last_item}
use Rattle.command_line.proofs.SeedLaws.{none_without}
use Rattle.command_line.proofs.options.without_summary.Goals as goal

pub returns-else-is-2 : goal.returns-else-is-2
returns-else-is-2 c = (
  refl,
  none_without _ _ _ _ _
      (first_item string_bytes c.args.words.now c.first-item.result c.deref.result.now c.in-len1-up.len_at_least c.first-item.is c.deref.ensures)
      (last_item string_bytes c.args.words.now c.last-item.result c.deref-in-len1-up-2.result.now c.in-len1-up.len_at_least c.last-item.is c.deref-in-len1-up-2.ensures)
      (λ e. false≢true (c.if-is.ensures.1 e))
      (λ e. false≢true (c.if-is-2.ensures.1 e)),
)
