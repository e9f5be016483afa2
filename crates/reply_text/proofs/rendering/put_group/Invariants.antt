use Rattle.std.proofs.Common.{◌≡◌, ◌++◌, [], ◌∷◌, take}
use Rattle.std.specs.Prelude.{codes, string_bytes}
use Rattle.std.specs.List.{flat_map}
use Rattle.std.specs.Fmt.{decimal}
use Rattle.reply_text.specs.Replies.{entry_text}
use Rattle.reply_text.proofs.rendering.put_group.Given as goal

abbrev pub invariant-loop-entry : goal.invariant-loop-entry
invariant-loop-entry l = string_bytes l.out ≡ (string_bytes l.fn.out ++ (codes "group " ++ decimal l.history.group ++ 10 ∷ [])) ++ flat_map entry_text (take l.entry-index l.history.entries.items)
