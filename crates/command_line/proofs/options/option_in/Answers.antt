use Rattle.std.proofs.Common.{◌∙◌, ap, ◌∷◌, [], List, ℕ}
use Rattle.std.specs.String.{string_bytes}
use Rattle.command_line.proofs.ItemLaws.{one_item}
use Rattle.command_line.proofs.SeedLaws.{value_is}
use Rattle.command_line.proofs.options.option_in.Goals as goal

pub returns-in_ok-value_in-in-len1-clause-given : goal.returns-in_ok-value_in-in-len1-clause-given
returns-in_ok-value_in-in-len1-clause-given c =
    let is = one_item string_bytes c.args.words.now c.word-item.result c.deref.result.now c.in-len1.len_at_least c.in-len1.len_below c.word-item.is c.deref.ensures in
    λ n h. c.number_of.ensures.given n (value_is _ _ _ n (is ∙ ap (λ (w : List ℕ). w ∷ []) (c.in_ok-value_in-in-len1.ensures)) h)
