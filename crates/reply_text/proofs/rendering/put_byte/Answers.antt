use Rattle.std.proofs.Common.{rules, false, arith}
use Rattle.std.proofs.lemmas.Fmt.{hex_byte}
use Rattle.reply_text.proofs.rendering.put_byte.Goals as goal

pub returns : goal.returns
returns c = search (rules, hex_byte false c.args.byte (omega arith))
