use Rattle.std.proofs.Common.{◌≡◌, ℕ, ◌≢◌, get_or, refl, ap, ◌∙◌, arith, ne_eqb}
use Rattle.std.specs.Prelude.{if◌then◌else◌, ◌==◌}
use Rattle.turnstile.specs.Views.{PassModel}
use Rattle.turnstile.specs.declared.diary.Note.{Note}
use Rattle.turnstile.proofs.Laws.{shown_set}
use Rattle.turnstile.proofs.diary.turn_page.Goals as goal

abbrev shows : ℕ → ℕ → ℕ
shows n word = if word == 1 then n else 0

same_elsewhere : (m n word : ℕ) → word ≢ 1 → shows n word ≡ shows m word
same_elsewhere m n word apart = rw (ne_eqb word 1 apart) refl

pub put-requires-clause-shown : goal.put-requires-clause-shown
put-requires-clause-shown g c word some_word low =
    let taken = c.take-turn.ensures in
    let before = c.take-turn.result.value.page in
    let after = c.next_page.new.self.page in
    ap (λ (p : PassModel Note). get_or p.words word 0) c.publish.ensures
    ∙ shown_set c.take-turn.new.pass.words 1 after (shows before) (shows after) taken.words (omega arith) taken.shown refl (same_elsewhere before after) word some_word low
