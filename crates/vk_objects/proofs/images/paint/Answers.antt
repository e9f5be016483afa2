use Rattle.std.proofs.Common.{◌≡◌, ◌+◌, ◌*◌, ◌≤◌, length, arith, subst, sym}
use Rattle.std.proofs.Math.Nat.{mul-le-mul_right}
use Rattle.vk_objects.specs.Images.{IsPainted}
use Rattle.vk_objects.proofs.Paints.{none_painted, one_painted}
use Rattle.vk_objects.proofs.RowSteps.{distributes}
use Rattle.vk_objects.proofs.images.paint.Goals as goal

pub loop-x-init : goal.loop-x-init
loop-x-init c = none_painted c.args.bytes.now c.args.texel.now c.args.at

pub loop-x-preserved : goal.loop-x-preserved
loop-x-preserved c =
    let x = c.loop-x.x in let now = c.loop-x.bytes in let texel = c.args.texel.now in
    let rows : (x + 1) * length texel ≤ c.args.count * length texel = mul-le-mul_right (length texel) (omega (arith, c.loop-x-test.true)) in
    let split : (x + 1) * length texel ≡ x * length texel + 1 * length texel = distributes x 1 (length texel) in
    let one : 1 * length texel ≡ length texel = omega arith in
    let fits : c.args.at + x * length texel + length texel ≤ length now = omega (arith, c.requires, c.loop-x.auto.bytes, rows, split, one) in
    subst (λ b. IsPainted c.args.bytes.now b c.args.at (x + 1) texel) (sym c.put.ensures) (one_painted c.args.bytes.now now texel c.args.at x c.loop-x.invariant fits)
