use Rattle.std.proofs.Common.{rules}
use Rattle.turnstile.proofs.Ending.{opens_as}
use Rattle.turnstile.proofs.turnstile.Turnstile.new.Goals as goal

pub new-requires : goal.new-requires
new-requires g c =
    let words = c.first_words-words.ensures in
    opens_as g.V.Chronicle.history g.V.Chronicle.published g.V.Chronicle.names c.first_words-words.result c.of-2.result.value c.push.new.self.items c.args.value c.of.result.value (search rules) (search rules) (search rules) words.ends.0 words.ends.1 words.ends.2 words.shown c.requires.unnamed
