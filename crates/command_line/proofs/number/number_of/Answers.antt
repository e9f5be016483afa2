use Rattle.std.proofs.Common.{◌≡◌, ◌∙◌, Ok, refl, sym, subst}
use Rattle.std.proofs.lemmas.Bool.{false≢true}
use Rattle.command_line.specs.Commands.{StartsPlainly}
use Rattle.command_line.proofs.NumberLaws.{plain_decimal, parsed_plainly, parsed_again}
use Rattle.command_line.proofs.number.number_of.Goals as goal

pub returns-then-not-starts_plainly-clause-given : goal.returns-then-not-starts_plainly-clause-given
returns-then-not-starts_plainly-clause-given c = λ n h. absurd (false≢true (c.if-not-starts_plainly.ensures.1 (subst StartsPlainly (sym (c.as_bytes.ensures.value ∙ h.1)) (plain_decimal n h.0))))

pub returns-in-Ok-clause-spelled : goal.returns-in-Ok-clause-spelled
returns-in-Ok-clause-spelled c =
    let plain : StartsPlainly c.as_bytes.result.now = c.if-not-starts_plainly.ensures.0 refl in
    parsed_plainly c.args.word.now c.parse.result c.in-Ok.number (subst StartsPlainly c.as_bytes.ensures.value plain) c.parse.ensures.value.0 c.in-Ok.is

pub returns-in-Ok-clause-given : goal.returns-in-Ok-clause-given
returns-in-Ok-clause-given c = λ n h. let same : c.parse.result ≡ Ok n = parsed_again c.args.word.now c.parse.result n c.parse.ensures.value.0 h in cc c.in-Ok.is

pub returns-in-Err-clause-given : goal.returns-in-Err-clause-given
returns-in-Err-clause-given c = λ n h. let same : c.parse.result ≡ Ok n = parsed_again c.args.word.now c.parse.result n c.parse.ensures.value.0 h in absurd (cc c.in-Err.is)
