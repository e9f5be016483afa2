use Rattle.garbage.specs.Steps.{in_order}
use Rattle.garbage.proofs.Earlier.{some-earlier, none-earlier, turned}
use Rattle.garbage.proofs.list.GarbageList.take_covered.Goals as goal

pub returns-clause-some : goal.returns-clause-some
returns-clause-some c =
    rw (← c.self.view_is) (some-earlier c.args.read.now _ c.seek.new.turning.passed.items c.seek.new.turning.coming.items
    (in_order c.next_covered.new.turning) c.args.from c.next_covered.result c.seek.ensures.turns.order c.seek.ensures.reached
    c.seek.ensures.kept c.next_covered.ensures.some)

pub returns-clause-none : goal.returns-clause-none
returns-clause-none c =
    rw (← c.self.view_is) (none-earlier c.args.read.now _ c.seek.new.turning.passed.items c.seek.new.turning.coming.items
    (in_order c.next_covered.new.turning) c.args.from c.next_covered.result c.seek.ensures.turns.order c.seek.ensures.kept
    (turned c.seek.new.turning c.next_covered.new.turning (in_order c.self.inside.turning) c.next_covered.result
    c.seek.ensures.turns.order c.next_covered.ensures.none) c.next_covered.ensures.kept)
