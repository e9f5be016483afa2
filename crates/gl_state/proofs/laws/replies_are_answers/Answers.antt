use Rattle.gl_state.proofs.ReplyLaws.{told_is_answer}
use Rattle.gl_state.proofs.laws.replies_are_answers.Goals as goal

pub returns : goal.returns
returns c = told_is_answer
