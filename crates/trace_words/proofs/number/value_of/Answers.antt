use Rattle.std.proofs.Common.{◌≡◌, ◌∙◌, ap, arith, take, ◌+◌}
use Rattle.std.specs.Str.Parse.{digits_value}
use Rattle.std.proofs.lemmas.List.{take_all}
use Rattle.trace_words.proofs.NumberLaws.{one_more_digit, front_value}
use Rattle.trace_words.proofs.number.value_of.Goals as goal

pub returns-in_err-checked_mul : goal.returns-in_err-checked_mul
returns-in_err-checked_mul c =
    let i = c.loop-digit.digit-index in
    let ds = c.args.digits.now in
    rw c.from_residual.ensures (λ small. c.in_err-checked_mul.ensures (omega (arith, c.loop-digit.invariant.0, one_more_digit ds i c.requires c.loop-digit-test.true, front_value ds (i + 1))))

pub returns-in_err-value : goal.returns-in_err-value
returns-in_err-value c =
    let i = c.loop-digit.digit-index in
    let ds = c.args.digits.now in
    rw c.from_residual-in_err-value.ensures (λ small. c.in_err-value.ensures (omega (arith, c.loop-digit.invariant.0, c.in_ok-checked_mul.ensures, c.from.ensures, one_more_digit ds i c.requires c.loop-digit-test.true, front_value ds (i + 1))))

pub loop-digit-preserved : goal.loop-digit-preserved
loop-digit-preserved c =
    let more = one_more_digit c.args.digits.now c.loop-digit.digit-index c.requires c.loop-digit-test.true in
    (omega (arith, more, c.loop-digit.invariant.0, c.in_ok-checked_mul.ensures, c.in_ok-value.ensures, c.from.ensures), omega (arith, c.in_ok-value.ensures))

pub returns : goal.returns
returns c =
    let all : take c.loop-digit.digit-index c.args.digits.now ≡ c.args.digits.now = take_all _ _ c.loop-digit-test.false in
    let e : c.loop-digit.value ≡ digits_value 10 c.args.digits.now = c.loop-digit.invariant.0 ∙ ap (digits_value 10) all in
    (omega (arith, e, c.loop-digit.invariant.1), e)
