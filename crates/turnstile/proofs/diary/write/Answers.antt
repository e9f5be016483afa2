use Rattle.std.proofs.Common.{◌≡◌, ℕ, Option, Some, ◌++◌, refl, ap, ◌∙◌, sym, subst}
use Rattle.turnstile.specs.Histories.{own, added, NamesOnly}
use Rattle.turnstile.specs.Views.{PassModel}
use Rattle.turnstile.specs.declared.diary.Note.{Note}
use Rattle.turnstile.proofs.Laws.{names_only_at_most_one, own_at_most_one_more}
use Rattle.turnstile.proofs.diary.write.Goals as goal

abbrev author : Note → Option ℕ
author n = n.by

abbrev note_by : ℕ → Note
note_by pass = record { by = Some pass }

pub put-requires-clause-names : goal.put-requires-clause-names
put-requires-clause-names g c =
    let taken = c.take-turn.ensures in
    let number : c.take-turn.new.pass.number ≡ c.args.by = ap (λ (p : PassModel Note). p.number) taken.pass ∙ c.requires.number.0 in
    subst (λ k. NamesOnly author k (added c.take-turn.new.pass.seen c.note-wrote.new.self.notes.items)) (sym number)
    (names_only_at_most_one author c.note-wrote.result c.args.by (note_by c.args.by) _ _ _ refl (ap (λ (p : PassModel Note). p.seen) taken.pass) c.note-wrote.ensures.notes)

pub returns-clause-own : goal.returns-clause-own
returns-clause-own g c =
    let taken = c.take-turn.ensures in
    let seen : c.take-turn.new.pass.seen ≡ c.take-turn.result.value.notes.items = ap (λ (p : PassModel Note). p.seen) taken.pass in
    let number : c.take-turn.new.pass.number ≡ c.args.by = ap (λ (p : PassModel Note). p.number) taken.pass ∙ c.requires.number.0 in
    let kept = subst (λ k. own author k c.take-turn.result.value.notes.items ≡ own author k c.args.pass.now.seen) c.requires.number.0 taken.own in
    let grown = subst (λ k. own author k c.put.new.pass.seen ≡ own author k c.take-turn.new.pass.seen ++ own author k (added c.take-turn.new.pass.seen c.note-wrote.new.self.notes.items)) number c.put.ensures.own in
    own_at_most_one_more author c.note-wrote.result c.args.by (note_by c.args.by) c.args.pass.now.seen c.take-turn.new.pass.seen c.take-turn.result.value.notes.items c.note-wrote.new.self.notes.items c.put.new.pass.seen refl kept seen c.note-wrote.ensures.notes grown
