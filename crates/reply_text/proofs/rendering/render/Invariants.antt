use Rattle.std.proofs.Common.{◌≡◌, ◌++◌, ◌∷◌, take}
use Rattle.std.specs.Prelude.{codes, string_bytes}
use Rattle.std.specs.List.{flat_map}
use Rattle.reply_text.specs.Replies.{group_text}
use Rattle.reply_text.proofs.rendering.render.Given as goal

abbrev pub invariant-loop-history : goal.invariant-loop-history
invariant-loop-history l = string_bytes l.out ≡ codes "angle-reply 1" ++ 10 ∷ flat_map group_text (take l.history-index l.groups)
