use Rattle.std.proofs.Common.{refl, ap, ◌∙◌}
use Rattle.std.proofs.Common.{List}
use Rattle.reply_text.specs.declared.history.GroupHistory.{GroupHistory}
use Rattle.reply_text.specs.declared.history.Tail.TheVariants.{Lost}
use Rattle.reply_text.specs.Replies.{replies_text}
use Rattle.trace_run.proofs.Ends.{puts_said}
use Rattle.trace_run.specs.declared.saying.Said.TheVariants as said
use Rattle.trace_run.proofs.saying.say.Goals as goal

pub returns-in-Usage : goal.returns-in-Usage
returns-in-Usage g c = rw c.in-Usage.is (puts_said said.Usage c.put.ensures c.as_bytes.ensures.value refl refl)

pub returns-in-Ok : goal.returns-in-Ok
returns-in-Ok g c = rw c.in-Refused.is
    (puts_said (said.Refused c.in-Refused.line c.in-Refused.kind) c.put-in-Ok.ensures (c.deref.ensures.value ∙ c.in-Ok.ensures) refl refl)

pub returns-in-Ok-render : goal.returns-in-Ok-render
returns-in-Ok-render g c =
    rw c.in-Replies.is (puts_said (said.Replies c.in-Replies.groups c.in-Replies.tail) c.put-in-Ok-render.ensures
    (c.deref-in-Ok-render.ensures.value ∙ c.in-Ok-render.ensures
    ∙ ap (λ (l : List GroupHistory). replies_text l c.in-Replies.tail) c.deref-in-Replies.ensures.value) refl refl)

pub returns-in-Ok-render-2 : goal.returns-in-Ok-render-2
returns-in-Ok-render-2 g c =
    rw c.in-Lost.is (puts_said (said.Lost c.in-Lost.groups) c.put-in-Ok-render-2.ensures
    (c.deref-in-Ok-render-2.ensures.value ∙ c.in-Ok-render-2.ensures
    ∙ ap (λ (l : List GroupHistory). replies_text l Lost) c.deref-in-Lost.ensures.value) refl refl)
