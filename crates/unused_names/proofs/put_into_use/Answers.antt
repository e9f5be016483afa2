use Rattle.std.proofs.Common.{◌≡◌, ◌<◌, ◌∷◌, None, get_or, ◌+◌, ◌-◌, ap, sym, ◌∙◌, take, drop, length, arith}
use Rattle.std.proofs.lemmas.List.{take_rest, drop_more}
use Rattle.tables.specs.Table.{with_entry}
use Rattle.gl_model.specs.GroupEffect.{with_generated}
use Rattle.unused_names.specs.Names.{without_all}
use Rattle.unused_names.proofs.Generated.{without_all-with_generated, AreUnused-drop}
use Rattle.unused_names.proofs.put_into_use.Goals as goal

pub returns-in-Err-clause-err : goal.returns-in-Err-clause-err
returns-in-Err-clause-err g c =
    let found = c.args.found.now in
    let k = c.loop-k.k in
    let start : k - 1 + 1 ≡ k = omega arith in
    let rest : take (length found - (k - 1 + 1)) (drop (k - 1 + 1) found) ≡ drop k found = rw start (take_rest found k) in
    c.forget.ensures ∙ ap (λ names. without_all names c.insert.new.self) rest
    ∙ ap (without_all (drop k found)) (c.in-Err.ensures.err ∙ c.loop-k.invariant)
    ∙ without_all-with_generated (drop k found) c.args.used.now (AreUnused-drop k found c.args.used.now c.requires)

pub loop-k-preserved : goal.loop-k-preserved
loop-k-preserved g c =
    let found = c.args.found.now in
    let k = c.loop-k.k in
    let start : k - 1 + 1 ≡ k = omega arith in
    let within : k - 1 < length found = omega arith in
    let first : drop (k - 1) found ≡ get_or found (k - 1) 0 ∷ drop k found = drop_more found (k - 1) 0 within ∙ ap (λ j. get_or found (k - 1) 0 ∷ drop j found) start in
    c.in-Ok.ensures.ok ∙ ap (with_entry (get_or found (k - 1) 0) None) c.loop-k.invariant
    ∙ ap (λ names. with_generated names c.args.used.now) (sym first)
