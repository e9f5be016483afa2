use Rattle.std.proofs.Common.{◌≡◌, [], ap, ◌∙◌, sym}
use Rattle.std.proofs.lemmas.List.{nil_from_length}
use Rattle.std.proofs.lemmas.Bool.{eqb-true}
use Rattle.trace_words.specs.Lexing.{lines_of}
use Rattle.trace_words.proofs.lexing.Lines.next.Goals as goal

pub returns-then-is_empty : goal.returns-then-is_empty
unfolding lines_of
returns-then-is_empty c =
    let none : c.self.inside.rest.now ≡ [] = nil_from_length _ (eqb-true _ _ (sym c.is_empty.ensures ∙ c.if-is_empty.true)) in
    let e : c.args.self.now ≡ [] = sym c.self.view_is ∙ ap lines_of none in
    (e, e)
