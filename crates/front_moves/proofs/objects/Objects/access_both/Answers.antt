use Rattle.std.proofs.Common.{sym, ◌∙◌}
use Rattle.front_moves.specs.Objects.{key_of}
use Rattle.std.proofs.lemmas.Bool.{ne_eqb}
use Rattle.front_moves.proofs.Accessing.{used_both}
use Rattle.front_moves.proofs.objects.Objects.access_both.Goals as goal

pub returns-clause-ok : goal.returns-clause-ok
returns-clause-ok c = used_both (key_of c.args.src) (key_of c.args.dst) c.args.serial c.args.self.now c.access-2.new.self c.access-3.new.self (ne_eqb (key_of c.args.src) (key_of c.args.dst) (λ e. c.if-from-to.false (c.key-from.ensures ∙ e ∙ sym c.key-to.ensures))) c.in_ok-one-2.ensures.ok c.in_ok-other.ensures.ok
