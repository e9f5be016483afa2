use Rattle.std.proofs.Common.{◌≡◌, ap, sym, subst, ◌∙◌, Vec, Global, ℕ}
use Rattle.trace_gen.specs.Generated.{generated_text, words_of_number, IsTraceOfFour}
use Rattle.trace_gen.proofs.Accepted.{accepted}
use Rattle.trace_gen.proofs.TextParts.{whole_text, enough_words}
use Rattle.trace_gen.proofs.whole.generate.Goals as goal

whole : (c : goal.After-into_bytes) → c.into_bytes.result.items ≡ generated_text (words_of_number c.args.number)
whole c =
    ap (λ (v : Vec ℕ Global). v.items) c.into_bytes.ensures.value
    ∙ whole_text c.args.number _ _ _ _ _ _ _ c.new-out.ensures.bytes c.in_ok-push_str.ensures.bytes c.in_ok-put_starts.ensures c.in_ok-put_rounds.ensures c.in_ok-put_ends.ensures c.in_ok-push_str-2.ensures.bytes c.seed_from_u64-words.ensures

pub returns-clause-text : goal.returns-clause-text
returns-clause-text c = whole c

pub returns-clause-accepted : goal.returns-clause-accepted
returns-clause-accepted c = subst IsTraceOfFour (sym (whole c)) (accepted (words_of_number c.args.number) (enough_words c.args.number))
