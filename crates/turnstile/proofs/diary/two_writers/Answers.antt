use Rattle.std.proofs.Common.{◌≡◌, ℕ, ◌+◌, ◌<◌, [], ◌∷◌, ◌++◌, List, ap, sym, ◌∙◌, subst}
use Rattle.std.specs.Prelude.{Contains}
use Rattle.turnstile.specs.Histories.{own}
use Rattle.turnstile.specs.Views.{PassModel}
use Rattle.turnstile.specs.declared.diary.Note.{Note}
use Rattle.turnstile.proofs.Lists.{contains_first}
use Rattle.turnstile.proofs.Laws.{joins_none, joins_next}
use Rattle.turnstile.proofs.diary.two_writers.Goals as goal

abbrev made_of : PassModel Note → ℕ
made_of p = p.made

abbrev joined_of : PassModel Note → List ℕ
joined_of p = p.joined

pub close-requires-clause-joined : goal.close-requires-clause-joined
close-requires-clause-joined g c k low high =
    let first = c.join-one.ensures.first in
    let second = c.join-one.ensures.second in
    let made : c.join-2.new.pass.made ≡ 3 = ap made_of c.join-2.ensures.pass ∙ (ap made_of c.join.ensures.pass ∙ (ap made_of c.split-two.ensures.pass ∙ ap (λ n. n + 1) (ap made_of c.split-one.ensures.pass ∙ ap (λ n. n + 1) (ap made_of c.requires.new)))) in
    let once = ap joined_of c.join.ensures.pass ∙ (λ i. c.split-two.new.pass.joined ++ first.1 i ∷ c.join-one.result.0.0.joined) in
    let twice = ap joined_of c.join-2.ensures.pass ∙ (λ i. once i ++ second.1 i ∷ c.join-one.result.1.0.joined) in
    subst (λ l. Contains l k) (sym twice) (joins_next _ c.join-one.result.1.0.joined 2 (joins_next c.split-two.new.pass.joined c.join-one.result.0.0.joined 1 (joins_none c.split-two.new.pass.joined)) k low (subst (λ n. k < n) made high))

pub returns-clause-first : goal.returns-clause-first
returns-clause-first g c =
    let author = λ (n : Note). n.by in
    let first = c.join-one.ensures.first in
    let zero : c.split-two.new.pass.joined ≡ [] = ap joined_of c.split-two.ensures.pass ∙ (ap joined_of c.split-one.ensures.pass ∙ ap joined_of c.requires.new) in
    let once : c.join.new.pass.joined ≡ 1 ∷ c.join-one.result.0.0.joined = ap joined_of c.join.ensures.pass ∙ (λ i. zero i ++ first.1 i ∷ c.join-one.result.0.0.joined) in
    let named = subst (λ l. Contains l 1) (sym once) (contains_first 1 c.join-one.result.0.0.joined) in
    let taken = subst (λ k. own author k c.join.new.pass.seen ≡ own author k c.join-one.result.0.0.seen) first.1 c.join.ensures.other in
    ap (own author 1) c.close.ensures.history ∙ (c.join-2.ensures.joined 1 named ∙ (taken ∙ first.4))
