use Rattle.std.proofs.Common.{arith, ◌<◌, length, sym}
use Rattle.std.proofs.lemmas.Bool.{eqb-false, eqb-true}
use Rattle.std.proofs.lemmas.Result.{err_from_is_err_and}
use Rattle.trace_words.proofs.DataLaws.{hex_goes_on, hex_ends, hex_done}
use Rattle.trace_words.specs.Data.{hex_bytes}
use Rattle.trace_words.proofs.data.hex.Goals as goal

pub returns-in_err-byte : goal.returns-in_err-byte
returns-in_err-byte c =
    let p = err_from_is_err_and c.from_residual.result c.from_residual.ensures.1 in
    let some : 0 < length c.loop-rest.rest.now = omega (arith, eqb-false _ _ (sym c.loop-rest-test.ensures)) in
    rw (p.1, p.2) (hex_ends c.loop-rest.bytes.items c.loop-rest.rest.now c.in_err-byte.field-0.0 (hex_bytes c.args.word.now) some c.in_err-byte.ensures.value c.loop-rest.invariant)

pub loop-rest-preserved : goal.loop-rest-preserved
loop-rest-preserved c =
    let some : 0 < length c.loop-rest.rest.now = omega (arith, eqb-false _ _ (sym c.loop-rest-test.ensures)) in
    rw c.in_ok-push.ensures.items (hex_goes_on c.loop-rest.bytes.items c.loop-rest.rest.now c.in_ok-byte.others.now c.in_ok-byte.byte (hex_bytes c.args.word.now) some c.in_ok-byte.ensures.value c.loop-rest.invariant)

pub returns : goal.returns
returns c = rw c.of.ensures (hex_done c.loop-rest.bytes.items c.loop-rest.rest.now (hex_bytes c.args.word.now) (eqb-true _ _ (sym c.loop-rest-test.ensures)) c.loop-rest.invariant)
