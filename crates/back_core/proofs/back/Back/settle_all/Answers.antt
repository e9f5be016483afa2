use Rattle.std.proofs.Common.{arith, ◌≡◌, ℕ, cond, ap, subst}
use Rattle.back_core.specs.declared.ending.Step.TheVariants as step
use Rattle.back_core.specs.Run.{work_left}
use Rattle.back_core.specs.Steps.{Proceeds, MakesOne}
use Rattle.back_core.proofs.back.Back.settle_all.Goals as goal

pub loop-going-smaller-in-Done : goal.loop-going-smaller-in-Done
loop-going-smaller-in-Done g c =
    let one : MakesOne c.loop-going.self.history c.go_on.new.self.history = subst (λ s. Proceeds c.loop-going.self.history c.go_on.new.self.history s) c.in-Done.is c.in_ok-go_on.ensures.ok in
    let on : ◌≡◌ {A = ℕ} (cond c.loop-going.going 1 0) 1 = ap (λ b. cond {A = ℕ} b 1 0) c.loop-going-test.true in
    omega (arith, one.less, on)

pub loop-going-smaller : goal.loop-going-smaller
loop-going-smaller g c =
    let p : Proceeds c.loop-going.self.history c.go_on.new.self.history step.Nothing = subst (λ s. Proceeds c.loop-going.self.history c.go_on.new.self.history s) c.in-Nothing.is c.in_ok-go_on.ensures.ok in
    let same : work_left c.go_on.new.self.history ≡ work_left c.loop-going.self.history = ap work_left p.0 in
    let on : ◌≡◌ {A = ℕ} (cond c.loop-going.going 1 0) 1 = ap (λ b. cond {A = ℕ} b 1 0) c.loop-going-test.true in
    omega (arith, same, on)
