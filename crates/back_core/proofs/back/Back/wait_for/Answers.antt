use Rattle.std.proofs.Common.{◌≤◌, sym, subst, arith}
use Rattle.back_core.specs.History.{link_of}
use Rattle.back_core.specs.declared.ending.Step.TheVariants as step
use Rattle.back_core.specs.Needs.{HasBatch}
use Rattle.back_core.specs.History.{completed}
use Rattle.back_core.specs.Steps.{Proceeds, MakesOne}
use Rattle.back_core.proofs.Waiting.{Sees, has_still, done_one, gone_more, learns_more, learns_one}
use Rattle.back_core.proofs.back.Back.wait_for.Goals as goal

pub returns-in-Nothing-clause-reached : goal.returns-in-Nothing-clause-reached
returns-in-Nothing-clause-reached g c =
    let l = c.loop-reached in
    let sees : Sees = record { retire = c.what_a_group_sees.ensures.retire; others = c.what_a_group_sees.ensures.others } in
    let p : Proceeds l.self.history c.go_on.new.self.history step.Nothing = subst (λ s. Proceeds l.self.history c.go_on.new.self.history s) c.in-Nothing.is c.in_ok-go_on.ensures.ok in
    let has : HasBatch (link_of l.self.history c.args.group) c.args.serial.index c.args.serial.number = has_still (link_of c.args.self.now.history c.args.group) (link_of l.self.history c.args.group) c.args.serial.index c.args.serial.number l.invariant.learns c.requires in
    subst (λ h. c.args.serial.number ≤ completed h c.args.serial.index) (sym p.0) (p.1.all_retired c.args.group c.args.serial.index c.args.serial.number has)

pub loop-reached-preserved : goal.loop-reached-preserved
loop-reached-preserved g c =
    let l = c.loop-reached in
    let sees : Sees = record { retire = c.what_a_group_sees.ensures.retire; others = c.what_a_group_sees.ensures.others } in
    let one : MakesOne l.self.history c.go_on.new.self.history = done_one l.self.history c.go_on.new.self.history c.in_ok-go_on.field-0 c.in_default.not-Nothing c.in_ok-go_on.ensures.ok in
    record {
      reached = c.completed-reached-in-loop-reached.ensures;
      gone = gone_more c.args.self.now.history l.self.history c.go_on.new.self.history l.invariant.gone one;
      learns = learns_more (link_of c.args.self.now.history c.args.group) (link_of l.self.history c.args.group) (link_of c.go_on.new.self.history c.args.group) l.invariant.learns (learns_one sees l.self.history c.go_on.new.self.history c.args.group one);
      later = omega (arith, l.invariant.later, c.in_ok-go_on.ensures.cause.later);
    }
