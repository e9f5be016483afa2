use Rattle.std.proofs.Common.{◌≡◌, ◌+◌, false, sym, ◌∙◌, ap, subst, arith}
use Rattle.std.specs.Prelude.{is_some, FitsSigned}
use Rattle.std.specs.Int.{w32}
use Rattle.std.proofs.lemmas.Int.{to_z-of_z}
use Rattle.vk_model.specs.Cells.{source_of}
use Rattle.transfer.specs.Blits.{reads_some}
use Rattle.transfer.proofs.Searching.{any_at, none_more}
use Rattle.transfer.proofs.blit_source.reads_some.Goals as goal

pub returns-then-is_some : goal.returns-then-is_some
returns-then-is_some c =
    let f0 : FitsSigned w32 c.args.s0 = c.ranges.s0 in
    let f1 : FitsSigned w32 c.args.s1 = c.ranges.s1 in
    let g0 : FitsSigned w32 c.args.d0 = c.ranges.d0 in
    let g1 : FitsSigned w32 c.args.d1 = c.ranges.d1 in
    let call : c.source_of.result ≡ source_of c.args.size c.args.s0 c.args.s1 c.args.d0 c.args.d1 (c.args.from + c.loop-k.k) = simp to_z-of_z at c.source_of.ensures in
    sym (any_at (λ x. is_some (source_of c.args.size c.args.s0 c.args.s1 c.args.d0 c.args.d1 x)) c.args.from c.args.len c.loop-k.k c.loop-k-test.true (ap is_some (sym call) ∙ sym c.is_some.ensures ∙ c.if-is_some.true))

pub loop-k-preserved : goal.loop-k-preserved
loop-k-preserved c =
    let f0 : FitsSigned w32 c.args.s0 = c.ranges.s0 in
    let f1 : FitsSigned w32 c.args.s1 = c.ranges.s1 in
    let g0 : FitsSigned w32 c.args.d0 = c.ranges.d0 in
    let g1 : FitsSigned w32 c.args.d1 = c.ranges.d1 in
    let call : c.source_of.result ≡ source_of c.args.size c.args.s0 c.args.s1 c.args.d0 c.args.d1 (c.args.from + c.loop-k.k) = simp to_z-of_z at c.source_of.ensures in
    let before : reads_some c.args.size c.args.s0 c.args.s1 c.args.d0 c.args.d1 c.args.from c.loop-k.k ≡ false = simp to_z-of_z at c.loop-k.invariant in
    let after : reads_some c.args.size c.args.s0 c.args.s1 c.args.d0 c.args.d1 c.args.from (c.loop-k.k + 1) ≡ false =
    none_more (λ x. is_some (source_of c.args.size c.args.s0 c.args.s1 c.args.d0 c.args.d1 x)) c.args.from c.loop-k.k before (ap is_some (sym call) ∙ sym c.is_some.ensures ∙ c.if-is_some.false) in
    simp to_z-of_z after

pub returns : goal.returns
returns c =
    let f0 : FitsSigned w32 c.args.s0 = c.ranges.s0 in
    let f1 : FitsSigned w32 c.args.s1 = c.ranges.s1 in
    let g0 : FitsSigned w32 c.args.d0 = c.ranges.d0 in
    let g1 : FitsSigned w32 c.args.d1 = c.ranges.d1 in
    let before : reads_some c.args.size c.args.s0 c.args.s1 c.args.d0 c.args.d1 c.args.from c.loop-k.k ≡ false = simp to_z-of_z at c.loop-k.invariant in
    let all : c.loop-k.k ≡ c.args.len = (let past = c.loop-k-test.false in let inside = c.loop-k.auto.k-end in omega (arith, past, inside)) in
    sym (subst (λ k. reads_some c.args.size c.args.s0 c.args.s1 c.args.d0 c.args.d1 c.args.from k ≡ false) all before)
